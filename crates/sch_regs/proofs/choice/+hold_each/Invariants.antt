use Rattle.std.proofs.Common.{length}
use Rattle.sch_regs.proofs.choice.+hold_each.Given as goal

abbrev pub decreases-hold_each : goal.decreases-hold_each
decreases-hold_each g l = length l.registers.now
