-- The two sets of an expression: which variables each path saves that ends with a value that counts as true, and with `#f`.
use Rattle.std.specs.Prelude.{◌≡◌, ℕ, Bool, true, false, ◌&&◌, nat_lt}
use Rattle.std.specs.FinSet as set
use Rattle.sch_sets.specs.Members.{NumberSet}
use Rattle.sch_control.specs.Tree.{Expression}
use Rattle.sch_paths.specs.Table.{saved_by}

-- a set has those of the first variables that each path of that result saves
abbrev pub IsSavedBy : (variables : ℕ) → Expression → (result : Bool) → NumberSet → Type 0
IsSavedBy variables e r s = (x : ℕ) → set.contains s x ≡ (nat_lt x variables && saved_by x e r)

abbrev pub AreSavedBy : (variables : ℕ) → Expression → (on_true on_false : NumberSet) → Type 0
AreSavedBy variables e on_true on_false = IsSavedBy variables e true on_true × IsSavedBy variables e false on_false
