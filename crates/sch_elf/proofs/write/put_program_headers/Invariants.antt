use Rattle.std.proofs.Common.{◌≡◌, ◌≤◌, ◌+◌, ◌++◌, drop}
use Rattle.std.specs.List.{flat_map}
use Rattle.sch_elf.specs.Writing.{need, placed, program_header_bytes, start}
use Rattle.sch_elf.proofs.write.put_program_headers.Given as goal

abbrev pub invariant-loop-segment : goal.invariant-loop-segment
invariant-loop-segment l =
    (l.file.items ++ flat_map program_header_bytes (placed l.end (drop l.segment-index l.segments))
    ≡ l.fn.file.items ++ flat_map program_header_bytes (placed (start l.segments) l.segments))
    × (l.end + need (drop l.segment-index l.segments) ≤ start l.segments + need l.segments)
