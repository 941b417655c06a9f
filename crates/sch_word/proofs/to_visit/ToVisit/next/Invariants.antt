use Rattle.std.proofs.Common.{◌≡◌, ◌++◌, vec_len}
use Rattle.sch_word.specs.ToVisit.{items_of}
use Rattle.sch_word.proofs.to_visit.ToVisit.next.Given as goal

abbrev pub invariant-each : goal.invariant-each
invariant-each g l = l.self-inside.items.now ++ items_of l.self-inside.behind.items ≡ l.fn.self

abbrev pub decreases-each : goal.decreases-each
decreases-each g l = vec_len l.self-inside.behind
