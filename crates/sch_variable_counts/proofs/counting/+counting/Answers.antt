use Rattle.std.proofs.Common.{ap, refl, cond, length, nat_eq, reverse, ◌+◌, ◌∙◌}
use Rattle.sch_word.specs.trees.VariableCounts.{one_unless}
use Rattle.std.proofs.lemmas.Result.{IfOk-from_err}
use Rattle.sch_lang.specs.Measures.{counts_nothing, variables, variables_each, variables_operands, variables_parts}
use Rattle.sch_lang.specs.View.{expression, expressions_of, lambdas_of}
use Rattle.sch_variable_counts.proofs.ExpressionViews.{branch_view, bind_view, fix_view, letrec_view, call_view}
use Rattle.sch_variable_counts.proofs.CappedCounts.{one_capped, sum_small, part_taken, operand_taken}
use Rattle.sch_variable_counts.proofs.TakenMarks.{sum_taken, with_taken, at_once, call_taken, lambda_taken, under_taken, let_taken, fix_taken, rec_taken, body_taken, each_init, each_next, each_taken, lambdas_init, lambdas_next, lambdas_taken}
use Rattle.sch_variable_counts.proofs.counting.+counting.Goals as goal

pub count_in-returns-in-Constant-clause-count : goal.count_in-returns-in-Constant-clause-count
count_in-returns-in-Constant-clause-count t c = rw c.in-Constant.is (record { taken = λ rest h. (h, record { variables_are = refl; few_is = refl }) })

pub count_in-returns-in-Literal-clause-count : goal.count_in-returns-in-Literal-clause-count
count_in-returns-in-Literal-clause-count t c = rw c.in-Literal.is (record { taken = λ rest h. (h, record { variables_are = refl; few_is = refl }) })

pub count_in-returns-in-Local-clause-count : goal.count_in-returns-in-Local-clause-count
count_in-returns-in-Local-clause-count t c = rw c.in-Local.is (record { taken = λ rest h. (h, record { variables_are = refl; few_is = refl }) })

pub count_in-returns-in-Global-clause-count : goal.count_in-returns-in-Global-clause-count
count_in-returns-in-Global-clause-count t c = rw c.in-Global.is (record { taken = λ rest h. (h, record { variables_are = refl; few_is = refl }) })

pub count_in-returns-in_ok-c-in-If-clause-count : goal.count_in-returns-in_ok-c-in-If-clause-count
count_in-returns-in_ok-c-in-If-clause-count t c =
    let a = c.in_ok-a-in-If.ensures in
    let b = c.in_ok-b-in-If.ensures in
    rw (branch_view _ _ _ c.in-If.is c.deref-in-If.ensures c.deref-in-If-2.ensures c.deref-in-If-3.ensures)
    (sum_taken a.count (sum_taken (at_once (variables (expression c.deref-in-If-2.result.now)) a.once b.count) (at_once (variables (expression c.deref-in-If-3.result.now)) (b.once ∙ a.once) c.in_ok-c-in-If.ensures.count) c.sum.ensures.variables c.sum.ensures.few) c.sum-in-If.ensures.variables c.sum-in-If.ensures.few)

pub count_in-returns-in-Prim-clause-count : goal.count_in-returns-in-Prim-clause-count
count_in-returns-in-Prim-clause-count t c = rw c.in-Prim.is c.count_operands-in-Prim.ensures.count

pub count_let-returns-clause-count : goal.count_let-returns-clause-count
count_let-returns-clause-count t c =
    let E = expression c.deref.result.now in
    rw (bind_view _ _ _ c.in-Let.is c.deref.ensures)
    (let_taken (expressions_of c.in-Let.inits) E c.in-Let.field-0 c.count.result c.args.once.now.items c.count.ensures c.in_ok-first.ensures.count
    (under_taken E c.count.result c.args.once.now.items c.count_each.new.once.items c.bind_assigned.new.once.items (c.in_ok-bound.ensures.count E) (c.in_ok-bound.ensures.once E) c.in_ok-first.ensures.once c.in_ok-inside.ensures.count c.with.ensures.variables c.with.ensures.few)
    c.sum.ensures.variables c.sum.ensures.few refl)

pub count_fix-returns-clause-count : goal.count_fix-returns-clause-count
count_fix-returns-clause-count t c =
    rw (fix_view _ _ c.in-Fix.is c.deref.ensures)
    (fix_taken (expression c.deref.result.now) c.count_lambdas-bound.result c.args.once.now.items c.bind_all.new.scope.items (lambdas_of c.in-Fix.lambdas) c.count_lambdas-bound.ensures c.in_ok-few.ensures c.in_ok-bind_all.ensures.bound c.in_ok-inside.ensures.count
    c.with.ensures.variables c.with.ensures.few c.sum.ensures.variables c.sum.ensures.few)

pub count_rec-returns-clause-count : goal.count_rec-returns-clause-count
count_rec-returns-clause-count t c =
    rw (letrec_view _ _ _ c.in-Rec.is c.deref.ensures)
    (rec_taken (expression c.deref.result.now) c.count-bound.result c.args.once.now.items c.bind_all.new.scope.items (expressions_of c.in-Rec.inits) c.in-Rec.field-0 c.three_each.result c.count_each.new.once.items c.count-bound.ensures c.three_each.ensures c.in_ok-bind_all.ensures.bound c.in_ok-first.ensures.count c.in_ok-first.ensures.once
    c.in_ok-inside.ensures.count c.sum.ensures.variables c.sum.ensures.few c.with.ensures.variables c.with.ensures.few)

pub count_value-returns-clause-count : goal.count_value-returns-clause-count
count_value-returns-clause-count t c =
    with_taken c.value_count-here.result (one_unless (counts_nothing (expression c.args.e.now) (reverse c.args.once.now.items)))
    (c.value_count-here.ensures ∙ ap (λ o. one_unless (counts_nothing (expression c.args.e.now) (reverse o))) c.as_slice.ensures.value ∙ one_capped _) c.in_ok-inside.ensures.count c.with.ensures.variables c.with.ensures.few

pub count_each-loop-e-init : goal.count_each-loop-e-init
count_each-loop-e-init t c = record { turn = each_init (λ es. variables_each es (reverse c.args.once.now.items)) c.as_slice-e-items.result.now refl refl; small = refl; once = refl }

pub count_each-loop-e-preserved : goal.count_each-loop-e-preserved
count_each-loop-e-preserved t c =
    let i = c.loop-e.invariant in
    record {
      turn = each_next (λ es. variables_each es (reverse c.args.once.now.items)) c.as_slice-e-items.result.now c.loop-e.e-index c.e-item.result (variables (expression c.e-item.result) (reverse c.args.once.now.items)) c.loop-e-test.true c.e-item.is refl i.turn
          (at_once (variables (expression c.e-item.result)) i.once c.in_ok-here.ensures.count) c.sum-total.ensures.variables c.sum-total.ensures.few;
      small = sum_small _ _ c.sum-total.ensures.variables;
      once = c.in_ok-here.ensures.once ∙ i.once;
    }

pub count_operands-loop-e-init : goal.count_operands-loop-e-init
count_operands-loop-e-init t c = record { turn = each_init (λ es. variables_operands es (reverse c.args.once.now.items)) c.as_slice-e-items.result.now refl refl; small = refl; once = refl }

pub count_operands-loop-e-preserved : goal.count_operands-loop-e-preserved
count_operands-loop-e-preserved t c =
    let i = c.loop-e.invariant in
    let e = expression c.e-item.result in
    record {
      turn = each_next (λ es. variables_operands es (reverse c.args.once.now.items)) c.as_slice-e-items.result.now c.loop-e.e-index c.e-item.result (one_unless (counts_nothing e (reverse c.args.once.now.items)) + variables e (reverse c.args.once.now.items)) c.loop-e-test.true c.e-item.is
          (operand_taken e _ (reverse c.args.once.now.items)) i.turn
          (at_once (λ o. one_unless (counts_nothing e o) + variables e o) i.once c.in_ok-here.ensures.count) c.sum-total.ensures.variables c.sum-total.ensures.few;
      small = sum_small _ _ c.sum-total.ensures.variables;
      once = c.in_ok-here.ensures.once ∙ i.once;
    }

pub count_parts-loop-i-init : goal.count_parts-loop-i-init
count_parts-loop-i-init t c = record { turn = each_init (λ es. variables_parts es (reverse c.args.once.now.items)) c.as_slice-items.result.now refl refl; small = refl; once = refl }

pub count_each_lambda-loop-l-init : goal.count_each_lambda-loop-l-init
count_each_lambda-loop-l-init t c = record { turn = lambdas_init c.as_slice-l-items.result.now }

pub count_each_lambda-loop-l-preserved : goal.count_each_lambda-loop-l-preserved
count_each_lambda-loop-l-preserved t c =
    record { turn = lambdas_next c.as_slice-l-items.result.now c.loop-l.l-index c.l-item.result c.loop-l-test.true c.l-item.is c.loop-l.invariant.turn c.in_ok-here.ensures c.both-few.ensures }

pub count_in-returns-in_ok-others-in-Call-clause-count : goal.count_in-returns-in_ok-others-in-Call-clause-count
count_in-returns-in_ok-others-in-Call-clause-count t c =
    let f = c.in_ok-first-in-Call.ensures in
    rw (call_view _ _ _ c.in-Call.is c.deref-in-Call.ensures)
    (call_taken (expression c.deref-in-Call.result.now) (expressions_of c.in-Call.operands) c.in-Call.field-0 (reverse c.args.once.now.items) f.count (at_once (variables_operands (expressions_of c.in-Call.operands)) f.once c.in_ok-others-in-Call.ensures.count) c.sum-in-Call.ensures.variables c.sum-in-Call.ensures.few)

pub count_in-returns-in_ok-few-in-Lambda-clause-count : goal.count_in-returns-in_ok-few-in-Lambda-clause-count
count_in-returns-in_ok-few-in-Lambda-clause-count t c =
    lambda_taken c.in-Lambda.l c.deref.result.now c.deref-in-Lambda.result.now (reverse c.args.once.now.items) c.in-Lambda.is c.deref.ensures c.deref-in-Lambda.ensures c.in_ok-few-in-Lambda.ensures

pub count_each-returns-clause-count : goal.count_each-returns-clause-count
count_each-returns-clause-count t c =
    each_taken (λ es. variables_each es (reverse c.args.once.now.items)) c.as_slice-e-items.result.now c.args.es.now c.loop-e.e-index c.as_slice-e-items.ensures refl c.loop-e-test.false c.loop-e.invariant.small c.loop-e.invariant.turn

pub count_operands-returns-clause-count : goal.count_operands-returns-clause-count
count_operands-returns-clause-count t c =
    each_taken (λ es. variables_operands es (reverse c.args.once.now.items)) c.as_slice-e-items.result.now c.args.es.now c.loop-e.e-index c.as_slice-e-items.ensures refl c.loop-e-test.false c.loop-e.invariant.small c.loop-e.invariant.turn

pub count_parts-loop-i-preserved : goal.count_parts-loop-i-preserved
count_parts-loop-i-preserved t c =
    let i = c.loop-i.invariant in
    let items = c.as_slice-items.result.now in
    let e = expression c.index-items-i.result in
    let last = nat_eq (c.loop-i.i + 1) (length items) in
    record {
      turn = each_next (λ es. variables_parts es (reverse c.args.once.now.items)) items c.loop-i.i c.index-items-i.result (cond last 0 (one_unless (counts_nothing e (reverse c.args.once.now.items))) + variables e (reverse c.args.once.now.items)) c.loop-i-test.true c.index-items-i.is
          (part_taken items c.loop-i.i c.index-items-i.result (reverse c.args.once.now.items) c.loop-i-test.true) i.turn
          (at_once (λ o. cond last 0 (one_unless (counts_nothing e o)) + variables e o) i.once c.in_ok-here.ensures.count) c.sum-total.ensures.variables c.sum-total.ensures.few;
      small = sum_small _ _ c.sum-total.ensures.variables;
      once = c.in_ok-here.ensures.once ∙ i.once;
    }

pub count_parts-returns-clause-count : goal.count_parts-returns-clause-count
count_parts-returns-clause-count t c =
    each_taken (λ es. variables_parts es (reverse c.args.once.now.items)) c.as_slice-items.result.now c.args.es.now c.loop-i.i c.as_slice-items.ensures refl c.loop-i-test.false c.loop-i.invariant.small c.loop-i.invariant.turn

pub count_each_lambda-returns : goal.count_each_lambda-returns
count_each_lambda-returns t c = lambdas_taken c.as_slice-l-items.result.now c.args.ls.now c.loop-l.l-index c.as_slice-l-items.ensures c.loop-l-test.false c.loop-l.invariant.turn

pub count_body-returns : goal.count_body-returns
count_body-returns t c =
    let E = expression c.args.e.now in
    body_taken E c.args.formals c.new-once.ensures.items
    (under_taken E c.args.formals c.new-once.result.items c.new-once.result.items c.bind_assigned.new.once.items (c.in_ok-bound.ensures.count E) (c.in_ok-bound.ensures.once E) refl c.in_ok-inside.ensures.count c.with-all.ensures.variables c.with-all.ensures.few)
    c.both.ensures

-- ## What errors leave

pub count_in-returns-in_err-few-in-Lambda : goal.count_in-returns-in_err-few-in-Lambda
count_in-returns-in_err-few-in-Lambda t c = record { count = IfOk-from_err c.from_residual.result _ c.from_residual.ensures.0; once = IfOk-from_err c.from_residual.result _ c.from_residual.ensures.0 }

pub count_in-returns-in_err-a-in-If : goal.count_in-returns-in_err-a-in-If
count_in-returns-in_err-a-in-If t c = record { count = IfOk-from_err c.from_residual-in_err-a-in-If.result _ c.from_residual-in_err-a-in-If.ensures.0; once = IfOk-from_err c.from_residual-in_err-a-in-If.result _ c.from_residual-in_err-a-in-If.ensures.0 }

pub count_in-returns-in_err-b-in-If : goal.count_in-returns-in_err-b-in-If
count_in-returns-in_err-b-in-If t c = record { count = IfOk-from_err c.from_residual-in_err-b-in-If.result _ c.from_residual-in_err-b-in-If.ensures.0; once = IfOk-from_err c.from_residual-in_err-b-in-If.result _ c.from_residual-in_err-b-in-If.ensures.0 }

pub count_in-returns-in_err-c-in-If : goal.count_in-returns-in_err-c-in-If
count_in-returns-in_err-c-in-If t c = record { count = IfOk-from_err c.from_residual-in_err-c-in-If.result _ c.from_residual-in_err-c-in-If.ensures.0; once = IfOk-from_err c.from_residual-in_err-c-in-If.result _ c.from_residual-in_err-c-in-If.ensures.0 }

pub count_in-returns-in_err-first-in-Call : goal.count_in-returns-in_err-first-in-Call
count_in-returns-in_err-first-in-Call t c = record { count = IfOk-from_err c.from_residual-in_err-first-in-Call.result _ c.from_residual-in_err-first-in-Call.ensures.0; once = IfOk-from_err c.from_residual-in_err-first-in-Call.result _ c.from_residual-in_err-first-in-Call.ensures.0 }

pub count_in-returns-in_err-others-in-Call : goal.count_in-returns-in_err-others-in-Call
count_in-returns-in_err-others-in-Call t c = record { count = IfOk-from_err c.from_residual-in_err-others-in-Call.result _ c.from_residual-in_err-others-in-Call.ensures.0; once = IfOk-from_err c.from_residual-in_err-others-in-Call.result _ c.from_residual-in_err-others-in-Call.ensures.0 }

pub count_let-returns-in_err-first : goal.count_let-returns-in_err-first
count_let-returns-in_err-first t c = record { count = IfOk-from_err c.from_residual.result _ c.from_residual.ensures.0; once = IfOk-from_err c.from_residual.result _ c.from_residual.ensures.0 }

pub count_let-returns-in_err-bound : goal.count_let-returns-in_err-bound
count_let-returns-in_err-bound t c = record { count = IfOk-from_err c.from_residual-in_err-bound.result _ c.from_residual-in_err-bound.ensures.0; once = IfOk-from_err c.from_residual-in_err-bound.result _ c.from_residual-in_err-bound.ensures.0 }

pub count_let-returns-in_err-inside : goal.count_let-returns-in_err-inside
count_let-returns-in_err-inside t c = record { count = IfOk-from_err c.from_residual-in_err-inside.result _ c.from_residual-in_err-inside.ensures.0; once = IfOk-from_err c.from_residual-in_err-inside.result _ c.from_residual-in_err-inside.ensures.0 }

pub count_fix-returns-in_err-few : goal.count_fix-returns-in_err-few
count_fix-returns-in_err-few t c = record { count = IfOk-from_err c.from_residual.result _ c.from_residual.ensures.0; once = IfOk-from_err c.from_residual.result _ c.from_residual.ensures.0 }

pub count_fix-returns-in_err-bind_all : goal.count_fix-returns-in_err-bind_all
count_fix-returns-in_err-bind_all t c = record { count = IfOk-from_err c.from_residual-in_err-bind_all.result _ c.from_residual-in_err-bind_all.ensures.0; once = IfOk-from_err c.from_residual-in_err-bind_all.result _ c.from_residual-in_err-bind_all.ensures.0 }

pub count_fix-returns-in_err-inside : goal.count_fix-returns-in_err-inside
count_fix-returns-in_err-inside t c = record { count = IfOk-from_err c.from_residual-in_err-inside.result _ c.from_residual-in_err-inside.ensures.0; once = IfOk-from_err c.from_residual-in_err-inside.result _ c.from_residual-in_err-inside.ensures.0 }

pub count_rec-returns-in_err-bind_all : goal.count_rec-returns-in_err-bind_all
count_rec-returns-in_err-bind_all t c = record { count = IfOk-from_err c.from_residual.result _ c.from_residual.ensures.0; once = IfOk-from_err c.from_residual.result _ c.from_residual.ensures.0 }

pub count_rec-returns-in_err-first : goal.count_rec-returns-in_err-first
count_rec-returns-in_err-first t c = record { count = IfOk-from_err c.from_residual-in_err-first.result _ c.from_residual-in_err-first.ensures.0; once = IfOk-from_err c.from_residual-in_err-first.result _ c.from_residual-in_err-first.ensures.0 }

pub count_rec-returns-in_err-inside : goal.count_rec-returns-in_err-inside
count_rec-returns-in_err-inside t c = record { count = IfOk-from_err c.from_residual-in_err-inside.result _ c.from_residual-in_err-inside.ensures.0; once = IfOk-from_err c.from_residual-in_err-inside.result _ c.from_residual-in_err-inside.ensures.0 }

pub count_value-returns-in_err-inside : goal.count_value-returns-in_err-inside
count_value-returns-in_err-inside t c = record { count = IfOk-from_err c.from_residual.result _ c.from_residual.ensures.0; once = IfOk-from_err c.from_residual.result _ c.from_residual.ensures.0 }

pub count_each-returns-in_err-here : goal.count_each-returns-in_err-here
count_each-returns-in_err-here t c = record { count = IfOk-from_err c.from_residual.result _ c.from_residual.ensures.0; once = IfOk-from_err c.from_residual.result _ c.from_residual.ensures.0 }

pub count_operands-returns-in_err-here : goal.count_operands-returns-in_err-here
count_operands-returns-in_err-here t c = record { count = IfOk-from_err c.from_residual.result _ c.from_residual.ensures.0; once = IfOk-from_err c.from_residual.result _ c.from_residual.ensures.0 }

pub count_parts-returns-in_err-here : goal.count_parts-returns-in_err-here
count_parts-returns-in_err-here t c = record { count = IfOk-from_err c.from_residual.result _ c.from_residual.ensures.0; once = IfOk-from_err c.from_residual.result _ c.from_residual.ensures.0 }

pub count_part-returns-in_err-inside : goal.count_part-returns-in_err-inside
count_part-returns-in_err-inside t c = record { count = IfOk-from_err c.from_residual.result _ c.from_residual.ensures.0; once = IfOk-from_err c.from_residual.result _ c.from_residual.ensures.0 }

pub count_part-returns-in_err-inside-2 : goal.count_part-returns-in_err-inside-2
count_part-returns-in_err-inside-2 t c = record { count = IfOk-from_err c.from_residual-in_err-inside-2.result _ c.from_residual-in_err-inside-2.ensures.0; once = IfOk-from_err c.from_residual-in_err-inside-2.result _ c.from_residual-in_err-inside-2.ensures.0 }

pub count_each_lambda-returns-in_err-here : goal.count_each_lambda-returns-in_err-here
count_each_lambda-returns-in_err-here t c = IfOk-from_err c.from_residual.result _ c.from_residual.ensures.0

pub count_body-returns-in_err-bound : goal.count_body-returns-in_err-bound
count_body-returns-in_err-bound t c = IfOk-from_err c.from_residual.result _ c.from_residual.ensures.0

pub count_body-returns-in_err-inside : goal.count_body-returns-in_err-inside
count_body-returns-in_err-inside t c = IfOk-from_err c.from_residual-in_err-inside.result _ c.from_residual-in_err-inside.ensures.0
