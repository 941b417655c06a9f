-- The variables that are read, and that all of them are below a bound.
use Rattle.std.specs.Prelude.{◌≡◌, ◌<◌, ℕ, true, ◌||◌, nat_lt, List}
use Rattle.std.specs.FinSet as set
use Rattle.std.specs.List.{list_all}
use Rattle.sch_sets.specs.Members.{NumberSet}
use Rattle.sch_word.specs.trees.NumberSets.{has}
use Rattle.sch_control.specs.declared.operation.Atom.{Atom}
use Rattle.sch_control.specs.AtomsAndSites.{operation_atoms, application_atoms, member_atoms}
use Rattle.sch_control.specs.Tree.{Expression, perform, bind, sequence, branch, fix, call, tail_call, return, end, save}
use Rattle.sch_control.specs.Valid.{member_variables}
use Rattle.sch_control.specs.flow.Live.{named}

-- a set with the variables among some atoms
abbrev pub IsWith : List (Atom ℕ) → (old new : NumberSet) → Type 0
IsWith atoms old new = (x : ℕ) → set.contains new x ≡ (has x (named atoms) || set.contains old x)

-- the variables among some atoms are below a bound
abbrev pub AtomsBelow : (bound : ℕ) → List (Atom ℕ) → Type 0
AtomsBelow bound atoms = list_all (λ x. nat_lt x bound) (named atoms) ≡ true

-- so are all that an expression reads and binds
abbrev pub VariablesBelow : (bound : ℕ) → Expression → Type 0
VariablesBelow bound (perform o) = AtomsBelow bound (operation_atoms o)
VariablesBelow bound (bind x a b) = (x < bound) × (VariablesBelow bound a × VariablesBelow bound b)
VariablesBelow bound (sequence a b) = VariablesBelow bound a × VariablesBelow bound b
VariablesBelow bound (branch a b c) = VariablesBelow bound a × (VariablesBelow bound b × VariablesBelow bound c)
VariablesBelow bound (fix members e) =
    AtomsBelow bound (member_atoms members)
    × ((list_all (λ x. nat_lt x bound) (member_variables members) ≡ true) × VariablesBelow bound e)
VariablesBelow bound (call a listed) = AtomsBelow bound (application_atoms a)
VariablesBelow bound (tail_call a) = AtomsBelow bound (application_atoms a)
VariablesBelow bound (return e) = VariablesBelow bound e
VariablesBelow bound (end e) = VariablesBelow bound e
VariablesBelow bound (save saves e) = VariablesBelow bound e
