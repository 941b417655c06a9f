use Rattle.std.proofs.Common.{◌≡◌, ◌≤◌, ◌+◌, ◌++◌, drop, length}
use Rattle.sch_elf.specs.Writing.{contents, need}
use Rattle.sch_elf.proofs.write.put_contents.Given as goal

abbrev pub invariant-loop-segment : goal.invariant-loop-segment
invariant-loop-segment l =
    (l.file.items ++ contents (length l.file.items) (drop l.segment-index l.segments) ≡ l.fn.file.items ++ contents (length l.fn.file.items) l.segments)
    × (length l.file.items + need (drop l.segment-index l.segments) ≤ length l.fn.file.items + need l.segments)
