use Rattle.std.proofs.Common.{◌∙◌}
use Rattle.sch_sketch.proofs.PartLists.{texts_next}
use Rattle.sch_sketch.proofs.small.add_texts.Goals as goal

pub loop-d-preserved : goal.loop-d-preserved
loop-d-preserved c = λ ks. texts_next c.args.items.now c.loop-d.d-index _ c.loop-d.parts c.push.new.self _ c.loop-d-test.true c.d-item.is c.in_ok-push.ensures.ok c.text.ensures ks ∙ c.loop-d.invariant ks
