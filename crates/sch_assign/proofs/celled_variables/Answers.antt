use Rattle.std.proofs.Common.{◌∙◌, length, rules}
use Rattle.std.proofs.lemmas.Result.{IfOk-from_err}
use Rattle.sch_cells.specs.ProgramView.{source}
use Rattle.sch_assign.proofs.Laws.{in_range, table_of, none_noted_length}
use Rattle.sch_assign.proofs.celled_variables.Goals as goal

pub mark_lambdas-requires-clause-within : goal.mark_lambdas-requires-clause-within
mark_lambdas-requires-clause-within c =
    let v = c.args.p.now in
    (in_range (source v) (length c.in_ok-celled.celled.items) (none_noted_length v.variables c.in_ok-celled.celled.items c.in_ok-celled.ensures) v.scoped v.formed).library

pub mark_each-requires-clause-within : goal.mark_each-requires-clause-within
mark_each-requires-clause-within c =
    let v = c.args.p.now in
    (in_range (source v) (length c.mark_lambdas.new.celled.items) (c.mark_lambdas.ensures.size ∙ none_noted_length v.variables c.in_ok-celled.celled.items c.in_ok-celled.ensures) v.scoped v.formed).forms

pub returns : goal.returns
returns c =
    let v = c.args.p.now in
    table_of (source v) c.in_ok-celled.celled.items c.mark_lambdas.new.celled.items c.mark_each.new.celled.items v.scoped v.formed c.in_ok-celled.ensures c.mark_lambdas.ensures.marked c.mark_each.ensures.marked

pub returns-in_err-celled : goal.returns-in_err-celled
returns-in_err-celled c = IfOk-from_err c.from_residual.result _ c.from_residual.ensures.0

pub mark_lambdas-requires-clause-small : goal.mark_lambdas-requires-clause-small
mark_lambdas-requires-clause-small c =
    let v = c.args.p.now in
    rw (none_noted_length v.variables c.in_ok-celled.celled.items c.in_ok-celled.ensures) (search rules)

pub mark_each-requires-clause-small : goal.mark_each-requires-clause-small
mark_each-requires-clause-small c =
    let v = c.args.p.now in
    rw (c.mark_lambdas.ensures.size ∙ none_noted_length v.variables c.in_ok-celled.celled.items c.in_ok-celled.ensures) (search rules)
