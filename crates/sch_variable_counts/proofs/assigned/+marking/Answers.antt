use Rattle.std.proofs.Common.{ap, ◌∙◌, ◌+◌, arith, reverse, sym}
use Rattle.std.proofs.lemmas.Result.{IfOk-from_err}
use Rattle.sch_lang.specs.Variables.{assigns, assigns_each, assigns_lambdas}
use Rattle.sch_lang.specs.View.{expression, expressions_of, lambdas_of}
use Rattle.sch_variable_counts.specs.Walked.{marks_of, marks_in_each, marks_in_lambdas}
use Rattle.sch_word.specs.trees.Assigned.{marked}
use Rattle.sch_variable_counts.proofs.FreeLists.{each_whole, lambdas_whole}
use Rattle.sch_variable_counts.proofs.Marks.{under_marked}
use Rattle.sch_word.proofs.facts.AssignedMarks.{marked_none}
use Rattle.sch_variable_counts.proofs.MarkSteps.{set_marked, branch_marked, bind_marked, fix_marked, letrec_marked, call_marked, marked_turn, stacked_turn, lambda_marked_turn, lambda_stacked_turn, marked_end, lambda_marked_end}
use Rattle.sch_variable_counts.proofs.ExpressionViews.{set_local_view, branch_view, bind_view, fix_view, letrec_view, call_view}
use Rattle.sch_variable_counts.proofs.assigned.+marking.Goals as goal

pub mark-returns-in-Constant-clause-scope : goal.mark-returns-in-Constant-clause-scope
mark-returns-in-Constant-clause-scope t c = rw c.in-Constant.is (sym (marked_none 0 (reverse c.args.scope.now.items)))

pub mark-returns-in-Literal-clause-scope : goal.mark-returns-in-Literal-clause-scope
mark-returns-in-Literal-clause-scope t c = rw c.in-Literal.is (sym (marked_none 0 (reverse c.args.scope.now.items)))

pub mark-returns-in-Local-clause-scope : goal.mark-returns-in-Local-clause-scope
mark-returns-in-Local-clause-scope t c = rw c.in-Local.is (sym (marked_none 0 (reverse c.args.scope.now.items)))

pub mark-returns-in-Global-clause-scope : goal.mark-returns-in-Global-clause-scope
mark-returns-in-Global-clause-scope t c = rw c.in-Global.is (sym (marked_none 0 (reverse c.args.scope.now.items)))

pub mark-returns-in_ok-mark-in-SetLocal-clause-scope : goal.mark-returns-in_ok-mark-in-SetLocal-clause-scope
mark-returns-in_ok-mark-in-SetLocal-clause-scope t c =
    set_marked _ _ (set_local_view _ _ c.in-SetLocal.is c.deref.ensures) c.mark_variable.ensures c.in_ok-mark-in-SetLocal.ensures.scope

pub mark-returns-in_ok-mark-in-If-3-clause-scope : goal.mark-returns-in_ok-mark-in-If-3-clause-scope
mark-returns-in_ok-mark-in-If-3-clause-scope t c =
    branch_marked _ (branch_view _ _ _ c.in-If.is c.deref-in-If-3.ensures c.deref-in-If-2.ensures c.deref-in-If.ensures) c.in_ok-mark-in-If.ensures.scope c.in_ok-mark-in-If-2.ensures.scope c.in_ok-mark-in-If-3.ensures.scope

pub mark-returns-in_ok-mark_each-in-Let-clause-scope : goal.mark-returns-in_ok-mark_each-in-Let-clause-scope
mark-returns-in_ok-mark_each-in-Let-clause-scope t c =
    bind_marked _ _ _ (bind_view _ _ _ c.in-Let.is c.deref-in-Let.ensures) c.count.ensures c.in_ok-mark_under-in-Let.ensures.scope c.in_ok-mark_each-in-Let.ensures.scope

pub mark_fix-returns-clause-scope : goal.mark_fix-returns-clause-scope
mark_fix-returns-clause-scope t c =
    fix_marked _ _ (fix_view _ _ c.in-Fix.is c.deref.ensures) c.count_lambdas-bound.ensures c.in_ok-bind_all.ensures.bound c.in_ok-mark.ensures.scope c.in_ok-mark_lambdas.ensures.scope c.leave.ensures

pub mark_rec-returns-clause-scope : goal.mark_rec-returns-clause-scope
mark_rec-returns-clause-scope t c =
    letrec_marked _ _ _ (letrec_view _ _ _ c.in-Rec.is c.deref.ensures) c.count-bound.ensures c.in_ok-bind_all.ensures.bound c.in_ok-mark.ensures.scope c.in_ok-mark_each.ensures.scope c.leave.ensures

pub mark-returns-in_ok-mark-in-Call-clause-scope : goal.mark-returns-in_ok-mark-in-Call-clause-scope
mark-returns-in_ok-mark-in-Call-clause-scope t c =
    call_marked _ _ (call_view _ _ _ c.in-Call.is c.deref-in-Call.ensures) c.in_ok-mark_each-in-Call.ensures.scope c.in_ok-mark-in-Call.ensures.scope

pub mark_each-loop-left-init : goal.mark_each-loop-left-init
mark_each-loop-left-init t c =
    let items = c.as_slice-items.result.now in
    record {
      scope = ap (λ es. marked (assigns_each es) 0 (reverse c.args.scope.now.items)) (each_whole items);
      stack = ap (λ es. marks_in_each es (reverse c.args.stack.now.items)) (each_whole items);
      bound = omega arith;
    }

pub mark_each-loop-left-preserved : goal.mark_each-loop-left-preserved
mark_each-loop-left-preserved t c =
    let items = c.as_slice-items.result.now in
    let n = c.loop-left.left in
    let e = c.index-items-left.result in
    let i = c.loop-left.invariant in
    record {
      scope = marked_turn n _ _ _ items e c.loop-left-test.true i.bound c.index-items-left.is c.in_ok-mark.ensures.scope i.scope;
      stack = stacked_turn n _ _ _ items e c.loop-left-test.true i.bound c.index-items-left.is c.in_ok-mark.ensures.stack i.stack;
      bound = omega (arith, i.bound);
    }

pub mark_lambdas-loop-left-init : goal.mark_lambdas-loop-left-init
mark_lambdas-loop-left-init t c =
    let items = c.as_slice-items.result.now in
    record {
      scope = ap (λ ls. marked (assigns_lambdas ls) 0 (reverse c.args.scope.now.items)) (lambdas_whole items);
      stack = ap (λ ls. marks_in_lambdas ls (reverse c.args.stack.now.items)) (lambdas_whole items);
      bound = omega arith;
    }

pub mark_lambdas-loop-left-preserved : goal.mark_lambdas-loop-left-preserved
mark_lambdas-loop-left-preserved t c =
    let items = c.as_slice-items.result.now in
    let n = c.loop-left.left in
    let l = c.index-items-left.result in
    let i = c.loop-left.invariant in
    record {
      scope = lambda_marked_turn n _ _ _ items l c.loop-left-test.true i.bound c.index-items-left.is c.in_ok-mark_under.ensures.scope i.scope;
      stack = lambda_stacked_turn n _ _ _ items l c.loop-left-test.true i.bound c.index-items-left.is c.in_ok-mark_under.ensures.stack i.stack;
      bound = omega (arith, i.bound);
    }

pub mark_each-returns-clause-scope : goal.mark_each-returns-clause-scope
mark_each-returns-clause-scope t c =
    marked_end c.loop-left.left _ _ c.loop-left-test.false c.as_slice-items.result.now c.loop-left.invariant.scope
    ∙ ap (λ es. marked (assigns_each (expressions_of es)) 0 (reverse c.args.scope.now.items)) c.as_slice-items.ensures

pub mark_lambdas-returns-clause-scope : goal.mark_lambdas-returns-clause-scope
mark_lambdas-returns-clause-scope t c =
    lambda_marked_end c.loop-left.left _ _ c.loop-left-test.false c.as_slice-items.result.now c.loop-left.invariant.scope
    ∙ ap (λ ls. marked (assigns_lambdas (lambdas_of ls)) 0 (reverse c.args.scope.now.items)) c.as_slice-items.ensures

pub mark_under-returns-clause-scope : goal.mark_under-returns-clause-scope
mark_under-returns-clause-scope t c =
    let f = assigns (expression c.args.e.now) in
    let scope = reverse c.args.scope.now.items in
    (c.in_ok-close.ensures f (marked (λ i. f (i + c.args.count)) 0 scope) (under_marked f c.args.count scope c.in_ok-bind_all.ensures.bound c.in_ok-mark.ensures.scope)).0

pub mark_under-returns-clause-stack : goal.mark_under-returns-clause-stack
mark_under-returns-clause-stack t c =
    let f = assigns (expression c.args.e.now) in
    let scope = reverse c.args.scope.now.items in
    (c.in_ok-close.ensures f (marked (λ i. f (i + c.args.count)) 0 scope) (under_marked f c.args.count scope c.in_ok-bind_all.ensures.bound c.in_ok-mark.ensures.scope)).1
    ∙ ap (marks_of c.args.count f) c.in_ok-mark.ensures.stack

-- ## What errors leave

pub mark-returns-in_err-mark-in-SetLocal : goal.mark-returns-in_err-mark-in-SetLocal
mark-returns-in_err-mark-in-SetLocal t c = record { scope = IfOk-from_err c.from_residual.result _ c.from_residual.ensures.0; stack = IfOk-from_err c.from_residual.result _ c.from_residual.ensures.0 }

pub mark-returns-in_err-mark-in-If : goal.mark-returns-in_err-mark-in-If
mark-returns-in_err-mark-in-If t c = record { scope = IfOk-from_err c.from_residual-in_err-mark-in-If.result _ c.from_residual-in_err-mark-in-If.ensures.0; stack = IfOk-from_err c.from_residual-in_err-mark-in-If.result _ c.from_residual-in_err-mark-in-If.ensures.0 }

pub mark-returns-in_err-mark-in-If-2 : goal.mark-returns-in_err-mark-in-If-2
mark-returns-in_err-mark-in-If-2 t c = record { scope = IfOk-from_err c.from_residual-in_err-mark-in-If-2.result _ c.from_residual-in_err-mark-in-If-2.ensures.0; stack = IfOk-from_err c.from_residual-in_err-mark-in-If-2.result _ c.from_residual-in_err-mark-in-If-2.ensures.0 }

pub mark-returns-in_err-mark-in-If-3 : goal.mark-returns-in_err-mark-in-If-3
mark-returns-in_err-mark-in-If-3 t c = record { scope = IfOk-from_err c.from_residual-in_err-mark-in-If-3.result _ c.from_residual-in_err-mark-in-If-3.ensures.0; stack = IfOk-from_err c.from_residual-in_err-mark-in-If-3.result _ c.from_residual-in_err-mark-in-If-3.ensures.0 }

pub mark-returns-in_err-mark_under-in-Let : goal.mark-returns-in_err-mark_under-in-Let
mark-returns-in_err-mark_under-in-Let t c = record { scope = IfOk-from_err c.from_residual-in_err-mark_under-in-Let.result _ c.from_residual-in_err-mark_under-in-Let.ensures.0; stack = IfOk-from_err c.from_residual-in_err-mark_under-in-Let.result _ c.from_residual-in_err-mark_under-in-Let.ensures.0 }

pub mark-returns-in_err-mark_each-in-Let : goal.mark-returns-in_err-mark_each-in-Let
mark-returns-in_err-mark_each-in-Let t c = record { scope = IfOk-from_err c.from_residual-in_err-mark_each-in-Let.result _ c.from_residual-in_err-mark_each-in-Let.ensures.0; stack = IfOk-from_err c.from_residual-in_err-mark_each-in-Let.result _ c.from_residual-in_err-mark_each-in-Let.ensures.0 }

pub mark-returns-in_err-mark_each-in-Call : goal.mark-returns-in_err-mark_each-in-Call
mark-returns-in_err-mark_each-in-Call t c = record { scope = IfOk-from_err c.from_residual-in_err-mark_each-in-Call.result _ c.from_residual-in_err-mark_each-in-Call.ensures.0; stack = IfOk-from_err c.from_residual-in_err-mark_each-in-Call.result _ c.from_residual-in_err-mark_each-in-Call.ensures.0 }

pub mark-returns-in_err-mark-in-Call : goal.mark-returns-in_err-mark-in-Call
mark-returns-in_err-mark-in-Call t c = record { scope = IfOk-from_err c.from_residual-in_err-mark-in-Call.result _ c.from_residual-in_err-mark-in-Call.ensures.0; stack = IfOk-from_err c.from_residual-in_err-mark-in-Call.result _ c.from_residual-in_err-mark-in-Call.ensures.0 }

pub mark_fix-returns-in_err-bind_all : goal.mark_fix-returns-in_err-bind_all
mark_fix-returns-in_err-bind_all t c = record { scope = IfOk-from_err c.from_residual.result _ c.from_residual.ensures.0; stack = IfOk-from_err c.from_residual.result _ c.from_residual.ensures.0 }

pub mark_fix-returns-in_err-mark : goal.mark_fix-returns-in_err-mark
mark_fix-returns-in_err-mark t c = record { scope = IfOk-from_err c.from_residual-in_err-mark.result _ c.from_residual-in_err-mark.ensures.0; stack = IfOk-from_err c.from_residual-in_err-mark.result _ c.from_residual-in_err-mark.ensures.0 }

pub mark_fix-returns-in_err-mark_lambdas : goal.mark_fix-returns-in_err-mark_lambdas
mark_fix-returns-in_err-mark_lambdas t c = record { scope = IfOk-from_err c.from_residual-in_err-mark_lambdas.result _ c.from_residual-in_err-mark_lambdas.ensures.0; stack = IfOk-from_err c.from_residual-in_err-mark_lambdas.result _ c.from_residual-in_err-mark_lambdas.ensures.0 }

pub mark_rec-returns-in_err-bind_all : goal.mark_rec-returns-in_err-bind_all
mark_rec-returns-in_err-bind_all t c = record { scope = IfOk-from_err c.from_residual.result _ c.from_residual.ensures.0; stack = IfOk-from_err c.from_residual.result _ c.from_residual.ensures.0 }

pub mark_rec-returns-in_err-mark : goal.mark_rec-returns-in_err-mark
mark_rec-returns-in_err-mark t c = record { scope = IfOk-from_err c.from_residual-in_err-mark.result _ c.from_residual-in_err-mark.ensures.0; stack = IfOk-from_err c.from_residual-in_err-mark.result _ c.from_residual-in_err-mark.ensures.0 }

pub mark_rec-returns-in_err-mark_each : goal.mark_rec-returns-in_err-mark_each
mark_rec-returns-in_err-mark_each t c = record { scope = IfOk-from_err c.from_residual-in_err-mark_each.result _ c.from_residual-in_err-mark_each.ensures.0; stack = IfOk-from_err c.from_residual-in_err-mark_each.result _ c.from_residual-in_err-mark_each.ensures.0 }

pub mark_under-returns-in_err-bind_all : goal.mark_under-returns-in_err-bind_all
mark_under-returns-in_err-bind_all t c = record { scope = IfOk-from_err c.from_residual.result _ c.from_residual.ensures.0; stack = IfOk-from_err c.from_residual.result _ c.from_residual.ensures.0 }

pub mark_under-returns-in_err-mark : goal.mark_under-returns-in_err-mark
mark_under-returns-in_err-mark t c = record { scope = IfOk-from_err c.from_residual-in_err-mark.result _ c.from_residual-in_err-mark.ensures.0; stack = IfOk-from_err c.from_residual-in_err-mark.result _ c.from_residual-in_err-mark.ensures.0 }

pub mark_under-returns-in_err-close : goal.mark_under-returns-in_err-close
mark_under-returns-in_err-close t c = record { scope = IfOk-from_err c.from_residual-in_err-close.result _ c.from_residual-in_err-close.ensures.0; stack = IfOk-from_err c.from_residual-in_err-close.result _ c.from_residual-in_err-close.ensures.0 }

pub mark_each-returns-in_err-mark : goal.mark_each-returns-in_err-mark
mark_each-returns-in_err-mark t c = record { scope = IfOk-from_err c.from_residual.result _ c.from_residual.ensures.0; stack = IfOk-from_err c.from_residual.result _ c.from_residual.ensures.0 }

pub mark_lambdas-returns-in_err-mark_under : goal.mark_lambdas-returns-in_err-mark_under
mark_lambdas-returns-in_err-mark_under t c = record { scope = IfOk-from_err c.from_residual.result _ c.from_residual.ensures.0; stack = IfOk-from_err c.from_residual.result _ c.from_residual.ensures.0 }
