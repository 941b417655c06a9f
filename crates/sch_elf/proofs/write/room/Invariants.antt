use Rattle.std.proofs.Common.{◌≡◌, ◌+◌, drop}
use Rattle.sch_elf.specs.Writing.{need, start}
use Rattle.sch_elf.proofs.write.room.Given as goal

abbrev pub invariant-loop-segment : goal.invariant-loop-segment
invariant-loop-segment l = l.size + need (drop l.segment-index l.segments) ≡ start l.segments + need l.segments
