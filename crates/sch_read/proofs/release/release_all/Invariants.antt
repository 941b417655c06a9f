use Rattle.std.proofs.Common.{◌≡◌, [], IfNone}
use Rattle.sch_read.specs.ReleaseEffort.{weight_next}
use Rattle.sch_word.specs.values.Effort.{effort}
use Rattle.sch_read.specs.Valid.{weights}
use Rattle.sch_read.specs.Views.{data_of}
use Rattle.sch_read.proofs.release.release_all.Given as goal

abbrev pub invariant-each : goal.invariant-each
invariant-each l = IfNone l.next (l.rest.items ≡ [])

abbrev pub decreases-each : goal.decreases-each
decreases-each l = effort (weight_next l.next) (weights (data_of l.rest.items))
