use Rattle.std.proofs.Common.{None}
use Rattle.sch_flat.specs.View.{new_cell}
use Rattle.sch_closure.specs.Closed.{placed}
use Rattle.sch_closure.proofs.MadeLists.{mapped_next, mapped_end}
use Rattle.sch_closure.proofs.closing.place_cells.Goals as goal

pub loop-c-preserved : goal.loop-c-preserved
loop-c-preserved c = record {
  made = rw c.in_ok-push.ensures.ok
      (mapped_next (placed c.args.fields.now) new_cell c.args.cs.now c.loop-c.c-index
      (record { variable = 0; content = None }) c.loop-c.all _ c.place_cell.result c.loop-c-test.true c.place_cell.ensures c.loop-c.invariant.made);
}

pub returns : goal.returns
returns c = mapped_end (placed c.args.fields.now) new_cell c.args.cs.now c.loop-c.c-index c.loop-c.all _ c.loop-c-test.false c.loop-c.invariant.made
