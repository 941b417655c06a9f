use Rattle.std.proofs.Common.{◌∙◌}
use Rattle.std.proofs.lemmas.Result.{IfOk-from_err}
use Rattle.sch_assign.specs.Table.{table}
use Rattle.sch_assign.proofs.Loops.{each_made, each_start, each_end, within_start, within_next, lambdas_made, lambdas_start, lambdas_end, within_lambdas_start, within_lambdas_next}
use Rattle.sch_assign.proofs.conversion.+converting.Goals as goal

pub convert_each-loop-e-init : goal.convert_each-loop-e-init
convert_each-loop-e-init t c =
    let items = c.as_slice-e-items.result.now in
    record {
      made = each_start (table c.args.celled.now) c.args.n items c.from_vec-all.result (c.from_vec-all.ensures ∙ c.in_ok-with_capacity.ensures.items);
      within = within_start c.args.n items c.args.es.now c.as_slice-e-items.ensures c.requires.within;
    }

pub convert_each-loop-e-preserved : goal.convert_each-loop-e-preserved
convert_each-loop-e-preserved t c =
    let i = c.loop-e.invariant in
    let items = c.as_slice-e-items.result.now in
    record {
      made = rw c.in_ok-push.ensures.ok (each_made (table c.args.celled.now) c.args.n items c.loop-e.e-index c.loop-e.all c.e-item.result c.in_ok-convert.field-0 _ c.loop-e-test.true c.e-item.is c.in_ok-convert.ensures i.made);
      within = within_next c.args.n items c.loop-e.e-index c.e-item.result c.loop-e-test.true c.e-item.is i.within;
    }

pub convert_each-returns : goal.convert_each-returns
convert_each-returns t c =
    each_end (table c.args.celled.now) c.args.n c.as_slice-e-items.result.now c.args.es.now c.loop-e.e-index c.loop-e.all c.as_slice-e-items.ensures c.loop-e-test.false c.loop-e.invariant.made

pub convert_lambdas-loop-l-init : goal.convert_lambdas-loop-l-init
convert_lambdas-loop-l-init t c =
    let items = c.as_slice-l-items.result.now in
    record {
      made = lambdas_start (table c.args.celled.now) c.args.n items c.from_vec-all.result (c.from_vec-all.ensures ∙ c.in_ok-with_capacity.ensures.items);
      within = within_lambdas_start c.args.n items c.args.ls.now c.as_slice-l-items.ensures c.requires.within;
    }

pub convert_lambdas-loop-l-preserved : goal.convert_lambdas-loop-l-preserved
convert_lambdas-loop-l-preserved t c =
    let i = c.loop-l.invariant in
    let items = c.as_slice-l-items.result.now in
    record {
      made = rw c.in_ok-push.ensures.ok (lambdas_made (table c.args.celled.now) c.args.n items c.loop-l.l-index c.loop-l.all c.l-item.result c.in_ok-convert_lambda.field-0 _ c.loop-l-test.true c.l-item.is c.in_ok-convert_lambda.ensures i.made);
      within = within_lambdas_next c.args.n items c.loop-l.l-index c.l-item.result c.loop-l-test.true c.l-item.is i.within;
    }

pub convert_lambdas-returns : goal.convert_lambdas-returns
convert_lambdas-returns t c =
    lambdas_end (table c.args.celled.now) c.args.n c.as_slice-l-items.result.now c.args.ls.now c.loop-l.l-index c.loop-l.all c.as_slice-l-items.ensures c.loop-l-test.false c.loop-l.invariant.made

-- ## What errors leave

pub convert-returns-in_err-value-in-SetVar : goal.convert-returns-in_err-value-in-SetVar
convert-returns-in_err-value-in-SetVar t c = IfOk-from_err c.from_residual.result _ c.from_residual.ensures.0

pub convert-returns-in_err-value-in-SetGlobal : goal.convert-returns-in_err-value-in-SetGlobal
convert-returns-in_err-value-in-SetGlobal t c = IfOk-from_err c.from_residual-in_err-value-in-SetGlobal.result _ c.from_residual-in_err-value-in-SetGlobal.ensures.0

pub convert-returns-in_err-value-in-Define : goal.convert-returns-in_err-value-in-Define
convert-returns-in_err-value-in-Define t c = IfOk-from_err c.from_residual-in_err-value-in-Define.result _ c.from_residual-in_err-value-in-Define.ensures.0

pub convert-returns-in_err-parts-in-Seq : goal.convert-returns-in_err-parts-in-Seq
convert-returns-in_err-parts-in-Seq t c = IfOk-from_err c.from_residual-in_err-parts-in-Seq.result _ c.from_residual-in_err-parts-in-Seq.ensures.0

pub convert-returns-in_err-operands-in-Prim : goal.convert-returns-in_err-operands-in-Prim
convert-returns-in_err-operands-in-Prim t c = IfOk-from_err c.from_residual-in_err-operands-in-Prim.result _ c.from_residual-in_err-operands-in-Prim.ensures.0

pub convert_if-returns-in_err-test : goal.convert_if-returns-in_err-test
convert_if-returns-in_err-test t c = IfOk-from_err c.from_residual.result _ c.from_residual.ensures.0

pub convert_if-returns-in_err-yes : goal.convert_if-returns-in_err-yes
convert_if-returns-in_err-yes t c = IfOk-from_err c.from_residual-in_err-yes.result _ c.from_residual-in_err-yes.ensures.0

pub convert_if-returns-in_err-no : goal.convert_if-returns-in_err-no
convert_if-returns-in_err-no t c = IfOk-from_err c.from_residual-in_err-no.result _ c.from_residual-in_err-no.ensures.0

pub convert_call-returns-in_err-operator : goal.convert_call-returns-in_err-operator
convert_call-returns-in_err-operator t c = IfOk-from_err c.from_residual.result _ c.from_residual.ensures.0

pub convert_call-returns-in_err-operands : goal.convert_call-returns-in_err-operands
convert_call-returns-in_err-operands t c = IfOk-from_err c.from_residual-in_err-operands.result _ c.from_residual-in_err-operands.ensures.0

pub convert_let-returns-in_err-cs : goal.convert_let-returns-in_err-cs
convert_let-returns-in_err-cs t c = IfOk-from_err c.from_residual.result _ c.from_residual.ensures.0

pub convert_let-returns-in_err-inits : goal.convert_let-returns-in_err-inits
convert_let-returns-in_err-inits t c = IfOk-from_err c.from_residual-in_err-inits.result _ c.from_residual-in_err-inits.ensures.0

pub convert_let-returns-in_err-body : goal.convert_let-returns-in_err-body
convert_let-returns-in_err-body t c = IfOk-from_err c.from_residual-in_err-body.result _ c.from_residual-in_err-body.ensures.0

pub convert_let-returns-in_err-body-2 : goal.convert_let-returns-in_err-body-2
convert_let-returns-in_err-body-2 t c = IfOk-from_err c.from_residual-in_err-body-2.result _ c.from_residual-in_err-body-2.ensures.0

pub convert_fix-returns-in_err-lambdas : goal.convert_fix-returns-in_err-lambdas
convert_fix-returns-in_err-lambdas t c = IfOk-from_err c.from_residual.result _ c.from_residual.ensures.0

pub convert_fix-returns-in_err-body : goal.convert_fix-returns-in_err-body
convert_fix-returns-in_err-body t c = IfOk-from_err c.from_residual-in_err-body.result _ c.from_residual-in_err-body.ensures.0

pub convert_rec-returns-in_err-cs : goal.convert_rec-returns-in_err-cs
convert_rec-returns-in_err-cs t c = IfOk-from_err c.from_residual.result _ c.from_residual.ensures.0

pub convert_rec-returns-in_err-inner : goal.convert_rec-returns-in_err-inner
convert_rec-returns-in_err-inner t c = IfOk-from_err c.from_residual-in_err-inner.result _ c.from_residual-in_err-inner.ensures.0

pub convert_inits-returns-in_err-inits : goal.convert_inits-returns-in_err-inits
convert_inits-returns-in_err-inits t c = IfOk-from_err c.from_residual.result _ c.from_residual.ensures.0

pub convert_inits-returns-in_err-body : goal.convert_inits-returns-in_err-body
convert_inits-returns-in_err-body t c = IfOk-from_err c.from_residual-in_err-body.result _ c.from_residual-in_err-body.ensures.0

pub convert_inits-returns-in_err-new : goal.convert_inits-returns-in_err-new
convert_inits-returns-in_err-new t c = IfOk-from_err c.from_residual-in_err-new.result _ c.from_residual-in_err-new.ensures.0

pub convert_filled-returns-in_err-parts : goal.convert_filled-returns-in_err-parts
convert_filled-returns-in_err-parts t c = IfOk-from_err c.from_residual.result _ c.from_residual.ensures.0

pub convert_filled-returns-in_err-convert : goal.convert_filled-returns-in_err-convert
convert_filled-returns-in_err-convert t c = IfOk-from_err c.from_residual-in_err-convert.result _ c.from_residual-in_err-convert.ensures.0

pub convert_filled-returns-in_err-push : goal.convert_filled-returns-in_err-push
convert_filled-returns-in_err-push t c = IfOk-from_err c.from_residual-in_err-push.result _ c.from_residual-in_err-push.ensures.0

pub convert_filled-returns-in_err-new : goal.convert_filled-returns-in_err-new
convert_filled-returns-in_err-new t c = IfOk-from_err c.from_residual-in_err-new.result _ c.from_residual-in_err-new.ensures.0

pub convert_procedure-returns-in_err-l : goal.convert_procedure-returns-in_err-l
convert_procedure-returns-in_err-l t c = IfOk-from_err c.from_residual.result _ c.from_residual.ensures.0

pub convert_procedure-returns-in_err-new : goal.convert_procedure-returns-in_err-new
convert_procedure-returns-in_err-new t c = IfOk-from_err c.from_residual-in_err-new.result _ c.from_residual-in_err-new.ensures.0

pub convert_boxed-returns-in_err-e : goal.convert_boxed-returns-in_err-e
convert_boxed-returns-in_err-e t c = IfOk-from_err c.from_residual.result _ c.from_residual.ensures.0

pub convert_boxed-returns-in_err-new : goal.convert_boxed-returns-in_err-new
convert_boxed-returns-in_err-new t c = IfOk-from_err c.from_residual-in_err-new.result _ c.from_residual-in_err-new.ensures.0

pub convert_each-returns-in_err-with_capacity : goal.convert_each-returns-in_err-with_capacity
convert_each-returns-in_err-with_capacity t c = IfOk-from_err c.from_residual.result _ c.from_residual.ensures.0

pub convert_each-returns-in_err-convert : goal.convert_each-returns-in_err-convert
convert_each-returns-in_err-convert t c = IfOk-from_err c.from_residual-in_err-convert.result _ c.from_residual-in_err-convert.ensures.0

pub convert_each-returns-in_err-push : goal.convert_each-returns-in_err-push
convert_each-returns-in_err-push t c = IfOk-from_err c.from_residual-in_err-push.result _ c.from_residual-in_err-push.ensures.0

pub convert_lambda-returns-in_err-name : goal.convert_lambda-returns-in_err-name
convert_lambda-returns-in_err-name t c = IfOk-from_err c.from_residual.result _ c.from_residual.ensures.0

pub convert_lambda-returns-in_err-body : goal.convert_lambda-returns-in_err-body
convert_lambda-returns-in_err-body t c = IfOk-from_err c.from_residual-in_err-body.result _ c.from_residual-in_err-body.ensures.0

pub convert_body-returns-in_err-cs : goal.convert_body-returns-in_err-cs
convert_body-returns-in_err-cs t c = IfOk-from_err c.from_residual.result _ c.from_residual.ensures.0

pub convert_body-returns-in_err-body : goal.convert_body-returns-in_err-body
convert_body-returns-in_err-body t c = IfOk-from_err c.from_residual-in_err-body.result _ c.from_residual-in_err-body.ensures.0

pub convert_lambdas-returns-in_err-with_capacity : goal.convert_lambdas-returns-in_err-with_capacity
convert_lambdas-returns-in_err-with_capacity t c = IfOk-from_err c.from_residual.result _ c.from_residual.ensures.0

pub convert_lambdas-returns-in_err-convert_lambda : goal.convert_lambdas-returns-in_err-convert_lambda
convert_lambdas-returns-in_err-convert_lambda t c = IfOk-from_err c.from_residual-in_err-convert_lambda.result _ c.from_residual-in_err-convert_lambda.ensures.0

pub convert_lambdas-returns-in_err-push : goal.convert_lambdas-returns-in_err-push
convert_lambdas-returns-in_err-push t c = IfOk-from_err c.from_residual-in_err-push.result _ c.from_residual-in_err-push.ensures.0
