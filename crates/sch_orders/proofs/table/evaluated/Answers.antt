use Rattle.sch_orders.proofs.TableLoops.{evaluated_end, evaluated_turn}
use Rattle.sch_orders.proofs.table.evaluated.Goals as goal

pub loop-k-preserved : goal.loop-k-preserved
loop-k-preserved c = evaluated_turn c.args.bound.now c.args.order.now c.loop-k.all _ _ c.loop-k.k-index c.loop-k-test.true c.in_ok-add_other.ensures c.loop-k.invariant

pub returns : goal.returns
returns c = evaluated_end c.args.bound.now c.args.order.now c.loop-k.all _ c.loop-k.k-index c.loop-k-test.false c.loop-k.invariant
