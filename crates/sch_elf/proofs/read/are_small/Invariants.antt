use Rattle.std.proofs.Common.{◌≡◌, ◌+◌, take}
use Rattle.std.specs.Prelude.{sum_by}
use Rattle.sch_elf.specs.Constants.{max_image_size}
use Rattle.sch_elf.proofs.read.are_small.Given as goal

abbrev pub invariant-loop-header : goal.invariant-loop-header
invariant-loop-header l = l.room + sum_by (λ header. header.p_memsz) (take l.header-index l.loads) ≡ max_image_size
