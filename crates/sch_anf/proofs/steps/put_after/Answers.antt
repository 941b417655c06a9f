use Rattle.std.proofs.Common.{ap, ◌∙◌, sym}
use Rattle.sch_control.specs.View.{expression}
use Rattle.sch_anf.specs.Steps.{after, before}
use Rattle.sch_word.proofs.Walking.{onto_more}
use Rattle.sch_anf.proofs.steps.put_after.Goals as goal

pub loop-step-preserved : goal.loop-step-preserved
loop-step-preserved c =
    ap (after c.pop.new.self.items) c.in_ok-whole.ensures ∙ sym (onto_more before c.pop.new.self.items c.in-Some.step (expression c.loop-step.whole.value))
    ∙ ap (λ steps. after steps (expression c.loop-step.whole.value)) (sym c.in-Some.ensures.items) ∙ c.loop-step.invariant
