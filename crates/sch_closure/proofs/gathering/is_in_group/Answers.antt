use Rattle.std.proofs.Common.{◌∙◌, sym, arith}
use Rattle.sch_closure.proofs.Loops.{from_group, compared}
use Rattle.sch_closure.proofs.gathering.is_in_group.Goals as goal
use Rattle.sch_word.proofs.facts.NumberSets.{below_numbers}

pub returns-then-x-first : goal.returns-then-x-first
returns-then-x-first c = from_group c.args.x c.args.first c.args.count (omega (arith, c.if-x-first.true))

pub returns-else-x-first : goal.returns-else-x-first
returns-else-x-first c = compared c.args.first c.args.x (omega (arith, c.if-x-first.false)) ∙ sym (below_numbers c.args.x c.args.first c.args.count (omega (arith, c.if-x-first.false)))
