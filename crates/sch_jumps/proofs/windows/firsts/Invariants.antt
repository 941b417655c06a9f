use Rattle.sch_jumps.proofs.FirstsAndLasts.{FirstsUpTo}
use Rattle.sch_jumps.proofs.windows.firsts.Given as goal

abbrev pub invariant-loop-k : goal.invariant-loop-k
invariant-loop-k l = FirstsUpTo l.highs l.longs l.k l.firsts.items
