use Rattle.std.proofs.Common.{List, ◌++◌}
use Rattle.sch_word.specs.values.Literals.{Literal}
use Rattle.sch_word.specs.values.LiteralParts.{parts, sizes, plain, lent}
use Rattle.sch_word.proofs.facts.TreesInOrder.{Walk}
use Rattle.sch_word.proofs.literal_order.literals_in_order.Given as goal

-- the nodes of what is left complete those of all
abbrev pub invariant-each : goal.invariant-each
invariant-each l = (nodes : List Literal) → Walk parts nodes (plain l.left) → Walk parts (lent l.order ++ nodes) (plain l.literals)

abbrev pub decreases-each : goal.decreases-each
decreases-each l = sizes (plain l.left)
