use Rattle.sch_homes.proofs.Numbered.{one_more}
use Rattle.sch_homes.proofs.straight_calls.straight_order.Goals as goal

pub loop-k-preserved : goal.loop-k-preserved
loop-k-preserved c = one_more c.loop-k.k _ _ c.loop-k.invariant c.in_ok-push.ensures.ok
