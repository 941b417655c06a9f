use Rattle.std.proofs.Common.{length}
use Rattle.sch_expansion.proofs.walk.Walk.forget.Given as goal

abbrev pub decreases-loop-node : goal.decreases-loop-node
decreases-loop-node l = length l.self.stack
