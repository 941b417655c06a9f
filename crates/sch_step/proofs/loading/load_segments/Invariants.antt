use Rattle.std.proofs.Common.{◌≡◌, take}
use Rattle.sch_elf.specs.Layout.{memory}
use Rattle.sch_step.specs.Layout.{segments_view}
use Rattle.sch_step.proofs.loading.load_segments.Given as goal

abbrev pub invariant-loop-segment : goal.invariant-loop-segment
invariant-loop-segment l = segments_view l.segments ≡ memory (take l.segment-index l.image.segments)
