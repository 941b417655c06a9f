use Rattle.std.proofs.Common.{◌≡◌, length}
use Rattle.sch_control.specs.View.{expression}
use Rattle.sch_anf.specs.Steps.{after}
use Rattle.sch_anf.proofs.steps.put_after.Given as goal

abbrev pub invariant-loop-step : goal.invariant-loop-step
invariant-loop-step l = after l.left.items (expression l.whole.value) ≡ after l.initial.left.items (expression l.initial.whole.value)

abbrev pub decreases-loop-step : goal.decreases-loop-step
decreases-loop-step l = length l.left.items
