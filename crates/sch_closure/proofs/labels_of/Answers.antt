use Rattle.sch_closure.proofs.MadeLists.{label_next, label_end}
use Rattle.sch_closure.proofs.labels_of.Goals as goal

pub loop-m-preserved : goal.loop-m-preserved
loop-m-preserved c = record { made = rw c.in_ok-push.ensures.ok (label_next c.args.ms.now c.loop-m.m-index c.m-item.result c.loop-m.all _ c.loop-m-test.true c.m-item.is c.loop-m.invariant.made) }

pub returns : goal.returns
returns c = label_end c.args.ms.now c.loop-m.m-index c.loop-m.all _ c.loop-m-test.false c.loop-m.invariant.made
