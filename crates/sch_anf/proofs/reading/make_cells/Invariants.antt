use Rattle.std.proofs.Common.{◌≡◌, ◌+◌, drop, map}
use Rattle.sch_flat.specs.View.{new_cell}
use Rattle.sch_control.specs.Tree.{Expression}
use Rattle.sch_anf_laws.specs.Normal.{with_new_cells}
use Rattle.sch_anf.specs.ScopeTable.{scope_of}
use Rattle.sch_anf.specs.Steps.{after}
use Rattle.sch_anf.proofs.reading.make_cells.Given as goal

abbrev pub invariant-loop-cell : goal.invariant-loop-cell
invariant-loop-cell l = record {
  made : (body : Expression) → after l.steps.items (with_new_cells (scope_of l.v.bound.items) (map new_cell (drop l.cell-index l.cell-items)) l.at body)
      ≡ with_new_cells (scope_of l.v.bound.items) (map new_cell l.cell-items) l.v.next body;
  at : l.at ≡ l.v.next + l.cell-index;
}
