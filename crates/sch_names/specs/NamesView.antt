-- The names of a table, and the globals of a text.
use Rattle.std.specs.Prelude.{ℕ, zero, suc, cond, List, [], ◌∷◌, ◌++◌, map}
use Rattle.std.specs.Str.{bytes_eq}
use Rattle.sch_names.specs.declared.names.Names.{Names}
use Rattle.sch_names.specs.declared.scope.Globals as code
use Rattle.sch_names.specs.Scope.{is_among, Globals}

abbrev pub names_of : Names → List (List ℕ)
names_of names = map (λ v. v.items) names.set.keys

-- the names and one more, if it is new
abbrev pub with_name : List ℕ → List (List ℕ) → List (List ℕ)
with_name x names = cond (is_among x names) names (names ++ x ∷ [])

-- the number of a name is that of the names before it
abbrev pub number_of : List ℕ → List (List ℕ) → ℕ
number_of x [] = zero
number_of x (y ∷ ys) = cond (bytes_eq x y) zero (suc (number_of x ys))

abbrev pub globals_of : code.Globals → Globals
globals_of g = record { bound = names_of g.bound; own = names_of g.own; internal = g.internal }
