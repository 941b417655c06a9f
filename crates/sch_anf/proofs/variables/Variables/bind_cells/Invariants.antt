use Rattle.std.proofs.Common.{◌≡◌, ◌+◌, ◌≤◌, length, map, take, drop}
use Rattle.sch_flat.specs.View.{new_cell}
use Rattle.sch_anf_laws.specs.Normal.{cells_scope}
use Rattle.sch_anf.specs.ScopeTable.{scope_of}
use Rattle.sch_anf.proofs.variables.Variables.bind_cells.Given as goal

abbrev pub invariant-loop-cell : goal.invariant-loop-cell
invariant-loop-cell l = record {
  scope : cells_scope (map new_cell (drop l.cell-index l.cell-items)) l.self.next (scope_of l.self.bound.items)
      ≡ cells_scope (map new_cell l.cell-items) l.initial.self.next (scope_of l.initial.self.bound.items);
  kept : take (length l.initial.self.bound.items) l.self.bound.items ≡ l.initial.self.bound.items;
  more : length l.initial.self.bound.items ≤ length l.self.bound.items;
  next : l.self.next ≡ l.initial.self.next + l.cell-index;
}
