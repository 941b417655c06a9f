use Rattle.std.proofs.Common.{◌+◌, ◌∙◌, ap}
use Rattle.sch_assign.proofs.Loops.{empty_step}
use Rattle.sch_assign.proofs.conversion.no_values.Goals as goal

pub loop-place-preserved : goal.loop-place-preserved
loop-place-preserved c =
    rw c.in_ok-push.ensures.ok (empty_step c.args.n c.loop-place.all _ c.empty_cell.result c.args.first c.args.count c.loop-place.place c.loop-place-test.true
    (c.empty_cell.ensures.variable ∙ ap (λ x. x + c.args.n) c.variable_at.ensures) c.empty_cell.ensures.content c.loop-place.invariant)
