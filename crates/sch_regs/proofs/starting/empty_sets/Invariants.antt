use Rattle.std.proofs.Common.{◌≡◌, replicate}
use Rattle.std.specs.FinSet as set
use Rattle.sch_regs.proofs.starting.empty_sets.Given as goal

abbrev pub invariant-loop-done : goal.invariant-loop-done
invariant-loop-done g l = l.sets.items ≡ replicate l.done set.empty
