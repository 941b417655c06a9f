use Rattle.std.proofs.Common.{sym}
use Rattle.sch_form_choices.proofs.ClauseLists.{clauses_next, clauses_stop}
use Rattle.sch_form_choices.proofs.clauses.are_clauses.Goals as goal

pub loop-i-preserved : goal.loop-i-preserved
loop-i-preserved c =
    clauses_next c.args.scope.now c.args.items.now c.loop-i.i c.index-items-i.result c.is_clause.result _ c.loop-i-test.true c.index-items-i.is c.is_clause.ensures c.if-not-is_clause.false c.loop-i.invariant

pub returns-then-not-is_clause : goal.returns-then-not-is_clause
returns-then-not-is_clause c =
    sym (clauses_stop c.args.scope.now c.args.items.now c.loop-i.i c.index-items-i.result c.is_clause.result _ c.loop-i-test.true c.index-items-i.is c.is_clause.ensures c.if-not-is_clause.true c.loop-i.invariant)
