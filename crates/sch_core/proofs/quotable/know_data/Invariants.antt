use Rattle.sch_read.specs.DatumParts.{trees_of}
use Rattle.sch_read.specs.Valid.{weights}
use Rattle.sch_read.specs.Views.{gather}
use Rattle.sch_core.specs.Quotable.{AreQuotable}
use Rattle.sch_core.proofs.quotable.know_data.Given as goal

-- all are in range where those that are left are
abbrev pub invariant-each : goal.invariant-each
invariant-each l = AreQuotable (trees_of l.left) → AreQuotable (trees_of l.items)

abbrev pub decreases-each : goal.decreases-each
decreases-each l = weights (gather (trees_of l.left))
