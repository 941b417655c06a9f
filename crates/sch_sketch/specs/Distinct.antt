-- Names that are distinct (R5RS 4.1.4 and 4.2.2).
use Rattle.std.specs.Prelude.{ℕ, Bool, true, false, cond, List, [], ◌∷◌, ◌++◌, Some, None}
use Rattle.sch_names.specs.Scope.{is_among, VariableNames}

-- the names that there are
abbrev pub named : VariableNames → List (List ℕ)
named [] = []
named (None ∷ vs) = named vs
named (Some x ∷ vs) = x ∷ named vs

abbrev pub are_new : (seen : List (List ℕ)) → List (List ℕ) → Bool
are_new seen [] = true
are_new seen (x ∷ xs) = cond (is_among x seen) false (are_new (seen ++ x ∷ []) xs)

-- no name stands twice
abbrev pub are_distinct : VariableNames → Bool
are_distinct vs = are_new [] (named vs)
