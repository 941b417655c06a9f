-- Bodies with places as plain data.
use Rattle.std.specs.Prelude.{ℕ, Option}
use Rattle.sch_control.specs.declared.body.Entry.{Entry}
use Rattle.sch_control.specs.declared.placed_body.PlacedBody.{PlacedBody}
use Rattle.sch_control.specs.Tree.{Code, Expression}
use Rattle.sch_control.specs.flow.Bare.{erased}
use Rattle.sch_control.specs.flow.Middle.{code_with}
use Rattle.sch_control.specs.flow.RestoredView.{restored}

-- how the body is entered
abbrev pub entry_of : {N : ℕ} → PlacedBody N → Option Entry
entry_of b = b.restored.now.body.now.entry

-- its tree, with regions and restores
abbrev pub tree_of : {N : ℕ} → PlacedBody N → Expression
tree_of b = restored b.restored.now.exp

-- the body without them
abbrev pub bare_code : {N : ℕ} → PlacedBody N → Code
bare_code b = code_with b.restored.now.body.now.name (entry_of b) b.restored.now.body.now.variables (erased (tree_of b))
