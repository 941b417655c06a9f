use Rattle.std.proofs.Common.{◌+◌, ◌∙◌, ap}
use Rattle.std.proofs.lemmas.Result.{IfOk-from_err}
use Rattle.sch_cells.specs.Tree.{cell_set, variable}
use Rattle.sch_cells.specs.View.{tree}
use Rattle.sch_assign.proofs.Loops.{fill_step, fill_end}
use Rattle.sch_assign.proofs.conversion.fill.Goals as goal

pub loop-place-preserved : goal.loop-place-preserved
loop-place-preserved c = λ e. rw c.in_ok-push.ensures.ok (fill_step c.args.n c.loop-place.all c.in_ok-fill_one.field-0 _ c.args.first c.args.count c.loop-place.place e c.loop-place-test.true
    (c.in_ok-fill_one.ensures ∙ ap (λ x. cell_set (x + c.args.n) (variable x)) c.variable_at.ensures) (c.loop-place.invariant e))

pub returns : goal.returns
returns c = λ e. fill_end c.args.n c.loop-place.all e _ c.args.first c.args.count c.loop-place.place c.loop-place-test.false (c.loop-place.invariant (tree e))

pub returns-in_err-fill_one : goal.returns-in_err-fill_one
returns-in_err-fill_one c = IfOk-from_err c.from_residual.result _ c.from_residual.ensures.0

pub returns-in_err-push : goal.returns-in_err-push
returns-in_err-push c = IfOk-from_err c.from_residual-in_err-push.result _ c.from_residual-in_err-push.ensures.0
