use Rattle.std.proofs.Common.{sym}
use Rattle.sch_form_choices.proofs.ClauseLists.{cases_next, cases_stop}
use Rattle.sch_form_choices.proofs.cases.are_cases.Goals as goal

pub loop-i-preserved : goal.loop-i-preserved
loop-i-preserved c =
    cases_next c.args.scope.now c.args.items.now c.loop-i.i c.index-items-i.result c.is_case.result _ c.loop-i-test.true c.index-items-i.is c.is_case.ensures c.if-not-is_case.false c.loop-i.invariant

pub returns-then-not-is_case : goal.returns-then-not-is_case
returns-then-not-is_case c =
    sym (cases_stop c.args.scope.now c.args.items.now c.loop-i.i c.index-items-i.result c.is_case.result _ c.loop-i-test.true c.index-items-i.is c.is_case.ensures c.if-not-is_case.true c.loop-i.invariant)
