-- How the variables in scope are kept: the bindings, the last nearest, and a table of numbers by variable, in
-- which each binding can be undone.
use Rattle.std.specs.Prelude.{ℕ, Bool, ◌&&◌, nat_eq, nat_lt, List, [], ◌∷◌, length, reverse, slice_index, slice_set}
use Rattle.std.specs.List.{list_all}
use Rattle.sch_anf.specs.declared.variables.Binding.{Binding}
use Rattle.sch_anf_laws.specs.Normal.{Scope}

abbrev pub pairs_of : List Binding → Scope
pairs_of [] = []
pairs_of (b ∷ bs) = (b.variable, b.number) ∷ pairs_of bs

-- the scope of some bindings
abbrev pub scope_of : List Binding → Scope
scope_of bs = pairs_of (reverse bs)

-- The table has what each binding gives, the nearest first, and without the binding what its variable had before;
-- without all of them it has nothing.
abbrev pub undoes : (table : List ℕ) → List Binding → Bool
undoes table [] = list_all (λ y. nat_eq y 0) table
undoes table (b ∷ bs) =
    nat_lt b.variable (length table) && (nat_eq (slice_index table b.variable) b.number && undoes (slice_set table b.variable b.before) bs)

abbrev pub is_table : List ℕ → List Binding → Bool
is_table table bound = undoes table (reverse bound)
