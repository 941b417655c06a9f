use Rattle.std.proofs.Common.{◌≡◌, take}
use Rattle.sch_control.proofs.copies.copy_operands.Given as goal

abbrev pub invariant-loop-o : goal.invariant-loop-o
invariant-loop-o l = l.all ≡ take l.o-index l.o-items
