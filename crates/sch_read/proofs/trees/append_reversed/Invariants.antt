use Rattle.std.proofs.Common.{◌≡◌, ◌++◌, reverse, length}
use Rattle.sch_read.proofs.trees.append_reversed.Given as goal

abbrev pub invariant-each : goal.invariant-each
invariant-each l = l.onto ++ reverse l.before ≡ l.fn.onto ++ reverse l.fn.before

abbrev pub decreases-each : goal.decreases-each
decreases-each l = length l.before
