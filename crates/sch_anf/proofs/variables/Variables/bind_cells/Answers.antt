use Rattle.std.proofs.Common.{None, get_or, arith}
use Rattle.std.proofs.lemmas.List.{get_or_default}
use Rattle.sch_anf.specs.ScopeTable.{scope_of}
use Rattle.sch_anf.proofs.ScopeTables.{start_kept, cells_turn}
use Rattle.sch_anf.proofs.variables.Variables.bind_cells.Goals as goal

pub loop-cell-preserved : goal.loop-cell-preserved
loop-cell-preserved c =
    let i = c.loop-cell.invariant in
    let b = c.in_ok-bind_new.ensures in
    record {
      scope = cells_turn c.as_slice-cell-items.result.now c.loop-cell.cell-index
          (get_or c.as_slice-cell-items.result.now c.loop-cell.cell-index (record { variable = 0; content = None })) c.loop-cell.self.next c.bind_new.new.self.next
          (scope_of c.loop-cell.self.bound.items) (scope_of c.bind_new.new.self.bound.items) _ c.loop-cell-test.true
          (get_or_default c.as_slice-cell-items.result.now c.loop-cell.cell-index (record { variable = 0; content = None })
          (get_or c.as_slice-cell-items.result.now c.loop-cell.cell-index (record { variable = 0; content = None })) c.loop-cell-test.true) b.next b.scope i.scope;
      kept = start_kept c.args.self.now.bound.items c.loop-cell.self.bound.items c.bind_new.new.self.bound.items i.more b.kept i.kept;
      more = omega (arith, i.more, b.len);
      next = omega (arith, b.next, i.next);
    }
