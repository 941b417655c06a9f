use Rattle.std.proofs.Common.{[], ◌∙◌, ap, arith, length, reverse}
use Rattle.std.specs.Prelude.{◌&&◌, nat_le}
use Rattle.sch_word.specs.trees.Shape.{max_free_variables}
use Rattle.sch_word.proofs.facts.Booleans.{and_true}
use Rattle.std.proofs.lemmas.Result.{IfOk-from_err}
use Rattle.sch_lang.specs.View.{expression, expressions_of, lambdas_of}
use Rattle.sch_variable_counts.specs.Walked.{found, found_each, found_lambdas}
use Rattle.sch_variable_counts.specs.Within.{has_few_free, each_procedure_in, each_lambda}
use Rattle.sch_variable_counts.proofs.FreeFound.{is_once, once_found, once_found_each, once_found_lambdas}
use Rattle.sch_variable_counts.proofs.FreeLists.{few_are, each_whole, each_turn, few_turn, lambdas_whole, lambdas_turn, lambdas_few_turn}
use Rattle.sch_variable_counts.proofs.free.+finding.Goals as goal

pub find_each-loop-left-init : goal.find_each-loop-left-init
find_each-loop-left-init t c =
    let items = c.as_slice-items.result.now in
    record {
      found = ap (λ es. found_each es (reverse c.args.xs.now.items)) (each_whole items);
      few = and_true _ ∙ ap (each_procedure_in has_few_free) (each_whole items);
      bound = omega arith;
    }

pub find_each-loop-left-preserved : goal.find_each-loop-left-preserved
find_each-loop-left-preserved t c =
    let items = c.as_slice-items.result.now in
    let n = c.loop-left.left in
    let e = c.index-items-left.result in
    let i = c.loop-left.invariant in
    record {
      found = each_turn items n e (reverse c.loop-left.xs.items) (reverse c.find.new.xs.items) _ c.loop-left-test.true i.bound c.index-items-left.is c.in_ok-here.ensures.found i.found;
      few = few_turn has_few_free items n e c.loop-left.few _ _ c.loop-left-test.true i.bound c.index-items-left.is (c.both-few.ensures ∙ ap (λ b. b && c.loop-left.few) c.in_ok-here.ensures.few) i.few;
      bound = omega (arith, i.bound);
    }

pub find_lambdas-loop-left-init : goal.find_lambdas-loop-left-init
find_lambdas-loop-left-init t c =
    let items = c.as_slice-items.result.now in
    record {
      found = ap (λ ls. found_lambdas ls (reverse c.args.xs.now.items)) (lambdas_whole items);
      few = and_true _ ∙ ap (each_lambda has_few_free) (lambdas_whole items);
      bound = omega arith;
    }

pub find_lambdas-loop-left-preserved : goal.find_lambdas-loop-left-preserved
find_lambdas-loop-left-preserved t c =
    let items = c.as_slice-items.result.now in
    let n = c.loop-left.left in
    let e = c.index-items-left.result in
    let i = c.loop-left.invariant in
    record {
      found = lambdas_turn items n e (reverse c.loop-left.xs.items) (reverse c.find_procedure.new.xs.items) _ c.loop-left-test.true i.bound c.index-items-left.is c.in_ok-here.ensures.found i.found;
      few = lambdas_few_turn has_few_free items n e c.loop-left.few _ _ c.loop-left-test.true i.bound c.index-items-left.is (c.both-few.ensures ∙ ap (λ b. b && c.loop-left.few) c.in_ok-here.ensures.few) i.few;
      bound = omega (arith, i.bound);
    }

pub find_procedure-returns-clause-few : goal.find_procedure-returns-clause-few
find_procedure-returns-clause-few t c =
    c.both.ensures ∙ ap (λ n. nat_le n max_free_variables && c.in_ok-few.few) (ap length c.as_slice-outer.ensures.value)
    ∙ few_are c.args.formals c.in_ok-own.own.items c.as_slice.result.now (expression c.args.e.now) c.find.new.xs.items c.new-inside.result.items _ c.in_ok-own.ensures c.as_slice.ensures.value c.new-inside.ensures.items c.in_ok-few.ensures.found c.in_ok-few.ensures.few

pub find_let-insert_list-requires : goal.find_let-insert_list-requires
find_let-insert_list-requires t c =
    let E = expression c.deref.result.now in
    is_once c.count.result c.in_ok-outer.outer.items c.as_slice.result.now c.find.new.xs.items (found E []) c.in_ok-outer.ensures c.as_slice.ensures.value
    (c.in_ok-few.ensures.found ∙ ap (λ l. found E (reverse l)) c.new-inside.ensures.items) (once_found c.count.result E)

pub find_fix-insert_list-requires : goal.find_fix-insert_list-requires
find_fix-insert_list-requires t c =
    let E = expression c.deref.result.now in
    let ls = lambdas_of c.in-Fix.lambdas in
    is_once c.count_lambdas.result c.in_ok-outer.outer.items c.as_slice.result.now c.find_lambdas.new.xs.items (found_lambdas ls (found E [])) c.in_ok-outer.ensures c.as_slice.ensures.value
    (c.in_ok-first.ensures.found ∙ ap (found_lambdas ls) (c.in_ok-few.ensures.found ∙ ap (λ l. found E (reverse l)) c.new-inside.ensures.items)) (once_found_lambdas c.count_lambdas.result E ls)

pub find_rec-insert_list-requires : goal.find_rec-insert_list-requires
find_rec-insert_list-requires t c =
    let E = expression c.deref.result.now in
    let es = expressions_of c.in-Rec.inits in
    is_once c.count.result c.in_ok-outer.outer.items c.as_slice.result.now c.find_each.new.xs.items (found_each es (found E [])) c.in_ok-outer.ensures c.as_slice.ensures.value
    (c.in_ok-first.ensures.found ∙ ap (found_each es) (c.in_ok-few.ensures.found ∙ ap (λ l. found E (reverse l)) c.new-inside.ensures.items)) (once_found_each c.count.result E es)

-- ## What errors leave

pub find_procedure-returns-in_err-few : goal.find_procedure-returns-in_err-few
find_procedure-returns-in_err-few t c = record { found = IfOk-from_err c.from_residual.result _ c.from_residual.ensures.0; few = IfOk-from_err c.from_residual.result _ c.from_residual.ensures.0 }

pub find_procedure-returns-in_err-own : goal.find_procedure-returns-in_err-own
find_procedure-returns-in_err-own t c = record { found = IfOk-from_err c.from_residual-in_err-own.result _ c.from_residual-in_err-own.ensures.0; few = IfOk-from_err c.from_residual-in_err-own.result _ c.from_residual-in_err-own.ensures.0 }

pub find_procedure-returns-in_err-insert_numbers : goal.find_procedure-returns-in_err-insert_numbers
find_procedure-returns-in_err-insert_numbers t c = record { found = IfOk-from_err c.from_residual-in_err-insert_numbers.result _ c.from_residual-in_err-insert_numbers.ensures.0; few = IfOk-from_err c.from_residual-in_err-insert_numbers.result _ c.from_residual-in_err-insert_numbers.ensures.0 }

pub find-returns-in_err-insert_number-in-Local : goal.find-returns-in_err-insert_number-in-Local
find-returns-in_err-insert_number-in-Local t c = record { found = IfOk-from_err c.from_residual.result _ c.from_residual.ensures.0; few = IfOk-from_err c.from_residual.result _ c.from_residual.ensures.0 }

pub find-returns-in_err-few-in-SetLocal : goal.find-returns-in_err-few-in-SetLocal
find-returns-in_err-few-in-SetLocal t c = record { found = IfOk-from_err c.from_residual-in_err-few-in-SetLocal.result _ c.from_residual-in_err-few-in-SetLocal.ensures.0; few = IfOk-from_err c.from_residual-in_err-few-in-SetLocal.result _ c.from_residual-in_err-few-in-SetLocal.ensures.0 }

pub find-returns-in_err-insert_number-in-SetLocal : goal.find-returns-in_err-insert_number-in-SetLocal
find-returns-in_err-insert_number-in-SetLocal t c = record { found = IfOk-from_err c.from_residual-in_err-insert_number-in-SetLocal.result _ c.from_residual-in_err-insert_number-in-SetLocal.ensures.0; few = IfOk-from_err c.from_residual-in_err-insert_number-in-SetLocal.result _ c.from_residual-in_err-insert_number-in-SetLocal.ensures.0 }

pub find-returns-in_err-c-in-If : goal.find-returns-in_err-c-in-If
find-returns-in_err-c-in-If t c = record { found = IfOk-from_err c.from_residual-in_err-c-in-If.result _ c.from_residual-in_err-c-in-If.ensures.0; few = IfOk-from_err c.from_residual-in_err-c-in-If.result _ c.from_residual-in_err-c-in-If.ensures.0 }

pub find-returns-in_err-b-in-If : goal.find-returns-in_err-b-in-If
find-returns-in_err-b-in-If t c = record { found = IfOk-from_err c.from_residual-in_err-b-in-If.result _ c.from_residual-in_err-b-in-If.ensures.0; few = IfOk-from_err c.from_residual-in_err-b-in-If.result _ c.from_residual-in_err-b-in-If.ensures.0 }

pub find-returns-in_err-a-in-If : goal.find-returns-in_err-a-in-If
find-returns-in_err-a-in-If t c = record { found = IfOk-from_err c.from_residual-in_err-a-in-If.result _ c.from_residual-in_err-a-in-If.ensures.0; few = IfOk-from_err c.from_residual-in_err-a-in-If.result _ c.from_residual-in_err-a-in-If.ensures.0 }

pub find-returns-in_err-others-in-Call : goal.find-returns-in_err-others-in-Call
find-returns-in_err-others-in-Call t c = record { found = IfOk-from_err c.from_residual-in_err-others-in-Call.result _ c.from_residual-in_err-others-in-Call.ensures.0; few = IfOk-from_err c.from_residual-in_err-others-in-Call.result _ c.from_residual-in_err-others-in-Call.ensures.0 }

pub find-returns-in_err-first-in-Call : goal.find-returns-in_err-first-in-Call
find-returns-in_err-first-in-Call t c = record { found = IfOk-from_err c.from_residual-in_err-first-in-Call.result _ c.from_residual-in_err-first-in-Call.ensures.0; few = IfOk-from_err c.from_residual-in_err-first-in-Call.result _ c.from_residual-in_err-first-in-Call.ensures.0 }

pub find_let-returns-in_err-few : goal.find_let-returns-in_err-few
find_let-returns-in_err-few t c = record { found = IfOk-from_err c.from_residual.result _ c.from_residual.ensures.0; few = IfOk-from_err c.from_residual.result _ c.from_residual.ensures.0 }

pub find_let-returns-in_err-outer : goal.find_let-returns-in_err-outer
find_let-returns-in_err-outer t c = record { found = IfOk-from_err c.from_residual-in_err-outer.result _ c.from_residual-in_err-outer.ensures.0; few = IfOk-from_err c.from_residual-in_err-outer.result _ c.from_residual-in_err-outer.ensures.0 }

pub find_let-returns-in_err-insert_list : goal.find_let-returns-in_err-insert_list
find_let-returns-in_err-insert_list t c = record { found = IfOk-from_err c.from_residual-in_err-insert_list.result _ c.from_residual-in_err-insert_list.ensures.0; few = IfOk-from_err c.from_residual-in_err-insert_list.result _ c.from_residual-in_err-insert_list.ensures.0 }

pub find_let-returns-in_err-first : goal.find_let-returns-in_err-first
find_let-returns-in_err-first t c = record { found = IfOk-from_err c.from_residual-in_err-first.result _ c.from_residual-in_err-first.ensures.0; few = IfOk-from_err c.from_residual-in_err-first.result _ c.from_residual-in_err-first.ensures.0 }

pub find_fix-returns-in_err-few : goal.find_fix-returns-in_err-few
find_fix-returns-in_err-few t c = record { found = IfOk-from_err c.from_residual.result _ c.from_residual.ensures.0; few = IfOk-from_err c.from_residual.result _ c.from_residual.ensures.0 }

pub find_fix-returns-in_err-first : goal.find_fix-returns-in_err-first
find_fix-returns-in_err-first t c = record { found = IfOk-from_err c.from_residual-in_err-first.result _ c.from_residual-in_err-first.ensures.0; few = IfOk-from_err c.from_residual-in_err-first.result _ c.from_residual-in_err-first.ensures.0 }

pub find_fix-returns-in_err-outer : goal.find_fix-returns-in_err-outer
find_fix-returns-in_err-outer t c = record { found = IfOk-from_err c.from_residual-in_err-outer.result _ c.from_residual-in_err-outer.ensures.0; few = IfOk-from_err c.from_residual-in_err-outer.result _ c.from_residual-in_err-outer.ensures.0 }

pub find_fix-returns-in_err-insert_list : goal.find_fix-returns-in_err-insert_list
find_fix-returns-in_err-insert_list t c = record { found = IfOk-from_err c.from_residual-in_err-insert_list.result _ c.from_residual-in_err-insert_list.ensures.0; few = IfOk-from_err c.from_residual-in_err-insert_list.result _ c.from_residual-in_err-insert_list.ensures.0 }

pub find_rec-returns-in_err-few : goal.find_rec-returns-in_err-few
find_rec-returns-in_err-few t c = record { found = IfOk-from_err c.from_residual.result _ c.from_residual.ensures.0; few = IfOk-from_err c.from_residual.result _ c.from_residual.ensures.0 }

pub find_rec-returns-in_err-first : goal.find_rec-returns-in_err-first
find_rec-returns-in_err-first t c = record { found = IfOk-from_err c.from_residual-in_err-first.result _ c.from_residual-in_err-first.ensures.0; few = IfOk-from_err c.from_residual-in_err-first.result _ c.from_residual-in_err-first.ensures.0 }

pub find_rec-returns-in_err-outer : goal.find_rec-returns-in_err-outer
find_rec-returns-in_err-outer t c = record { found = IfOk-from_err c.from_residual-in_err-outer.result _ c.from_residual-in_err-outer.ensures.0; few = IfOk-from_err c.from_residual-in_err-outer.result _ c.from_residual-in_err-outer.ensures.0 }

pub find_rec-returns-in_err-insert_list : goal.find_rec-returns-in_err-insert_list
find_rec-returns-in_err-insert_list t c = record { found = IfOk-from_err c.from_residual-in_err-insert_list.result _ c.from_residual-in_err-insert_list.ensures.0; few = IfOk-from_err c.from_residual-in_err-insert_list.result _ c.from_residual-in_err-insert_list.ensures.0 }

pub find_each-returns-in_err-here : goal.find_each-returns-in_err-here
find_each-returns-in_err-here t c = record { found = IfOk-from_err c.from_residual.result _ c.from_residual.ensures.0; few = IfOk-from_err c.from_residual.result _ c.from_residual.ensures.0 }

pub find_lambdas-returns-in_err-here : goal.find_lambdas-returns-in_err-here
find_lambdas-returns-in_err-here t c = record { found = IfOk-from_err c.from_residual.result _ c.from_residual.ensures.0; few = IfOk-from_err c.from_residual.result _ c.from_residual.ensures.0 }
