use Rattle.sch_homes.proofs.MovesEnd.{next_end}
use Rattle.sch_homes.proofs.call_moves.aside_end.Goals as goal

pub loop-m-preserved : goal.loop-m-preserved
loop-m-preserved c = next_end c.loop-m.m-index c.loop-m.most _ _ _ c.args.moves.now c.m-item.result c.loop-m-test.true c.m-item.is c.larger-most.ensures c.move_end.ensures c.loop-m.invariant
