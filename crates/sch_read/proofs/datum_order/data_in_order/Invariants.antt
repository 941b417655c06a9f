use Rattle.std.proofs.Common.{List, ◌++◌}
use Rattle.sch_read.specs.Grammar as grammar
use Rattle.sch_read.specs.DatumParts.{parts, trees_of, lent_trees}
use Rattle.sch_word.proofs.facts.TreesInOrder.{Walk}
use Rattle.sch_read.proofs.datum_order.data_in_order.Given as goal
use Rattle.sch_read.specs.Valid.{weights}
use Rattle.sch_read.specs.Views.{gather}

-- the nodes of what is left complete those of all
abbrev pub invariant-each : goal.invariant-each
invariant-each l = (nodes : List grammar.Datum) → Walk parts nodes (trees_of l.left) → Walk parts (lent_trees l.order ++ nodes) (trees_of l.items)

abbrev pub decreases-each : goal.decreases-each
decreases-each l = weights (gather (trees_of l.left))
