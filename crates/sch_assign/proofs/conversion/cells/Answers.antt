use Rattle.sch_assign.specs.Table.{table}
use Rattle.sch_assign.proofs.Loops.{cells_step}
use Rattle.sch_assign.proofs.conversion.cells.Goals as goal

pub loop-place-preserved : goal.loop-place-preserved
loop-place-preserved c =
    rw (c.in_ok-add_cell.ensures, c.variable_at.ensures) (cells_step (table c.args.celled.now) c.args.n c.loop-place.all _ c.args.first c.args.count c.loop-place.place c.loop-place-test.true c.loop-place.invariant)
