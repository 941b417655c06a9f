use Rattle.std.proofs.Common.{sym, ◌∙◌}
use Rattle.sch_saves.proofs.TwoSetsOf.{none_before}
use Rattle.sch_saves.proofs.needs.need_before.Goals as goal

pub returns-else-not-is_empty-clause-on_true : goal.returns-else-not-is_empty-clause-on_true
returns-else-not-is_empty-clause-on_true g c = none_before _ c.args.on_true.now (sym c.meet-before.ensures ∙ c.is_empty.ensures.empty.0 c.if-not-is_empty.false)

pub returns-else-not-is_empty-clause-on_false : goal.returns-else-not-is_empty-clause-on_false
returns-else-not-is_empty-clause-on_false g c = none_before _ c.args.on_false.now (sym c.meet-before.ensures ∙ c.is_empty.ensures.empty.0 c.if-not-is_empty.false)
