use Rattle.std.proofs.Common.{◌∙◌}
use Rattle.sch_form_bindings.proofs.LoopSteps.{steps_next}
use Rattle.sch_form_bindings.proofs.loops.add_steps.Goals as goal

pub loop-d-preserved : goal.loop-d-preserved
loop-d-preserved c = λ ks.
    steps_next c.args.at c.loop-d.parts c.push.new.self _ c.in-Some.ensures c.in-Some-start_of.ensures c.in_ok-push.ensures.ok c.step.ensures c.count.ensures ks ∙ c.loop-d.invariant ks
