use Rattle.std.proofs.Common.{◌≡◌, ◌<◌, ℕ, false}
use Rattle.sch_insn.specs.Machine.{holds}
use Rattle.sch_step.specs.Layout.{segments_view, segment_at}
use Rattle.sch_step.proofs.processor.Processor.search.Given as goal

abbrev pub invariant-loop-i : goal.invariant-loop-i
invariant-loop-i l = (j : ℕ) → j < l.i → holds (segment_at (segments_view l.self.segments) j) l.address l.n ≡ false
