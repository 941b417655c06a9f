use Rattle.sch_jumps.proofs.FirstsAndLasts.{MinimaFrom}
use Rattle.sch_jumps.proofs.windows.suffix_minima.Given as goal

abbrev pub invariant-loop-i : goal.invariant-loop-i
invariant-loop-i l = MinimaFrom l.fn.numbers.items l.i l.least l.numbers.items
