use Rattle.sch_jumps.proofs.FirstsAndLasts.{MaximaUpTo}
use Rattle.sch_jumps.proofs.windows.prefix_maxima.Given as goal

abbrev pub invariant-loop-i : goal.invariant-loop-i
invariant-loop-i l = MaximaUpTo l.fn.numbers.items l.i l.greatest l.numbers.items
