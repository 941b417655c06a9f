use Rattle.std.proofs.Common.{◌≡◌, [], IfNone}
use Rattle.sch_word.specs.values.Effort.{effort}
use Rattle.sch_word.specs.values.LiteralParts.{plain, sizes, size_next}
use Rattle.sch_word.proofs.literal_release.release.Given as goal

abbrev pub invariant-each : goal.invariant-each
invariant-each l = IfNone l.next (l.rest.items ≡ [])

abbrev pub decreases-each : goal.decreases-each
decreases-each l = effort (size_next l.next) (sizes (plain l.rest.items))
