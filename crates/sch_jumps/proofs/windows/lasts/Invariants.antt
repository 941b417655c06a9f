use Rattle.sch_jumps.proofs.FirstsAndLasts.{LastsUpTo}
use Rattle.sch_jumps.proofs.windows.lasts.Given as goal

abbrev pub invariant-loop-k : goal.invariant-loop-k
invariant-loop-k l = LastsUpTo l.lows l.longs l.k l.lasts.items
