use Rattle.std.proofs.Common.{◌∙◌}
use Rattle.sch_form_bindings.proofs.LoopSteps.{starts_next}
use Rattle.sch_form_bindings.proofs.loops.add_starts.Goals as goal

pub loop-d-preserved : goal.loop-d-preserved
loop-d-preserved c = λ ks.
    starts_next c.loop-d.parts c.push.new.self _ c.in-Some.ensures c.in-Some-start_of.ensures c.in_ok-push.ensures.ok c.text.ensures ks ∙ c.loop-d.invariant ks
