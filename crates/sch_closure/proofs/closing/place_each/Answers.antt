use Rattle.sch_flat.specs.View.{used}
use Rattle.sch_closure.specs.Closed.{place}
use Rattle.sch_closure.proofs.MadeLists.{mapped_next, mapped_end}
use Rattle.sch_closure.proofs.closing.place_each.Goals as goal

pub loop-x-preserved : goal.loop-x-preserved
loop-x-preserved c = record {
  made = rw c.in_ok-push.ensures.ok
      (mapped_next (place c.args.fields.now) used c.args.xs.now c.loop-x.x-index 0 c.loop-x.all _ c.place_variable.result c.loop-x-test.true c.place_variable.ensures c.loop-x.invariant.made);
}

pub returns : goal.returns
returns c = mapped_end (place c.args.fields.now) used c.args.xs.now c.loop-x.x-index c.loop-x.all _ c.loop-x-test.false c.loop-x.invariant.made
