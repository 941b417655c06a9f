use Rattle.std.proofs.Common.{ℕ, ◌<◌, get_or}
use Rattle.sch_elf.specs.Stands.{DoNotOverlap}
use Rattle.sch_elf.specs.declared.header.ProgramHeader.{ProgramHeader}
use Rattle.sch_elf.proofs.sound.is_apart.Given as goal

abbrev pub invariant-loop-other : goal.invariant-loop-other
invariant-loop-other l = (k : ℕ) (d : ProgramHeader) → k < l.other-index → DoNotOverlap (get_or l.earlier k d) l.header
