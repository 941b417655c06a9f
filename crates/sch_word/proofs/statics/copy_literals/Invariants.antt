use Rattle.std.proofs.Common.{length}
use Rattle.sch_word.proofs.facts.TreesInOrder.{ComeBefore}
use Rattle.sch_word.specs.values.LiteralParts.{parts, plain, lent}
use Rattle.sch_word.specs.values.MadeView.{made}
use Rattle.sch_word.proofs.statics.copy_literals.Given as goal

-- the copies are of the literals behind those that are left
abbrev pub invariant-each : goal.invariant-each
invariant-each l = ComeBefore parts (lent l.order) (made l.copies) (plain l.ls)

abbrev pub decreases-each : goal.decreases-each
decreases-each l = length l.order
