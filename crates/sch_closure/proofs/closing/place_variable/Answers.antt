use Rattle.sch_closure.proofs.MadeLists.{place_here, place_next, place_none}
use Rattle.sch_closure.proofs.closing.place_variable.Goals as goal

pub returns-then-x-fields : goal.returns-then-x-fields
returns-then-x-fields c = place_here c.args.fields.now c.loop-k.k c.args.x _ c.loop-k-test.true c.if-x-fields.true c.loop-k.invariant.left

pub loop-k-preserved : goal.loop-k-preserved
loop-k-preserved c = record { left = place_next c.args.fields.now c.loop-k.k c.args.x _ c.loop-k-test.true c.if-x-fields.false c.loop-k.invariant.left }

pub returns : goal.returns
returns c = place_none c.args.fields.now c.loop-k.k c.args.x _ c.loop-k-test.false c.loop-k.invariant.left
