-- Variables one by one: what is bound in front of an environment, and the cells of the nearest variables.
use Rattle.std.proofs.Common.{◌≡◌, ℕ, suc, Bool, true, false, List, [], ◌∷◌, ◌++◌, reverse, map, cond, refl, ap, ◌∙◌, append_assoc}
use Rattle.std.specs.List.{filter}
use Rattle.std.proofs.lemmas.List.{reverse-append}
use Rattle.sch_word.specs.runs.Charges.{cell_bytes}
use Rattle.sch_word.specs.values.CellBytes.{where_assigned}
use Rattle.sch_lang.specs.Tree.{Expression}
use Rattle.sch_lang.specs.Variables.{assigns, nearest, cells_of}
use Rattle.sch_lang.specs.Meaning.{onto}

-- the first of the cells is bound first
pub onto_more : {A : Type 0} (c : A) (cs environment : List A) → onto (c ∷ cs) environment ≡ onto cs (c ∷ environment)
onto_more c cs environment = ap (λ l. l ++ environment) (reverse-append (c ∷ []) cs) ∙ append_assoc (reverse cs) (c ∷ []) environment

-- the first of the variables is charged first, where it is assigned
pub cells_of_more : (n : ℕ) (e : Expression) → cells_of (suc n) e ≡ where_assigned (assigns e n) (cells_of n e)
cells_of_more n e = by_test (assigns e n)
  where
    by_test : (b : Bool) → map (λ _. cell_bytes) (cond b (n ∷ filter (assigns e) (nearest n)) (filter (assigns e) (nearest n))) ≡ where_assigned b (cells_of n e)
    by_test true = refl
    by_test false = refl
