use Rattle.std.proofs.Common.{◌≡◌, take, map}
use Rattle.sch_elf.specs.Stands.{file_segment}
use Rattle.sch_elf.proofs.read.read_segments.Given as goal

abbrev pub invariant-loop-header : goal.invariant-loop-header
invariant-loop-header l = l.segments ≡ map (file_segment l.file) (take l.header-index l.loads)
