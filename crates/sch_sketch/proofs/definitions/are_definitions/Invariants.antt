use Rattle.std.proofs.Common.{◌≡◌}
use Rattle.sch_read.specs.Valid.{weights}
use Rattle.sch_read.specs.Views.{data_of}
use Rattle.sch_sketch.specs.Definitions.{are_definitions}
use Rattle.sch_sketch.proofs.definitions.are_definitions.Given as goal

abbrev pub invariant-each : goal.invariant-each
invariant-each l = are_definitions l.scope (data_of l.left) ≡ are_definitions l.scope (data_of l.items)

abbrev pub decreases-each : goal.decreases-each
decreases-each l = weights (data_of l.left)
