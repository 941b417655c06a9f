-- Names that are given where a test holds, and a datum that there may be.
use Rattle.std.specs.Prelude.{◌≡◌, ℕ, Bool, true, false, List, Option, Some, None}
use Rattle.std.specs.Borrow.{Bor}
use Rattle.sch_read.specs.Grammar.{Datum}
use Rattle.sch_read.specs.declared.datum.Datum as code
use Rattle.sch_read.specs.Views.{tree_of}
use Rattle.sch_names.specs.ScopeView.{given_names}
use Rattle.sch_names.specs.Scope.{VariableNames}

-- names are given exactly where a test holds, and are then these
abbrev pub AreGiven : Bool → VariableNames → Option (List (Option (Bor (List ℕ)))) → Type 0
AreGiven b vs None = b ≡ false
AreGiven b vs (Some given) = (b ≡ true) × (given_names given ≡ vs)

-- the tree of a datum that there may be
abbrev pub tree_in : Option (Bor code.Datum) → Option Datum
tree_in None = None
tree_in (Some d) = Some (tree_of d.now)
