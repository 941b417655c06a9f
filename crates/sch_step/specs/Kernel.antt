-- The core after a write where there are no spare words.
use Rattle.std.specs.Prelude.{ℕ, ◌-◌, ◌^◌, []}
use Rattle.sch_word.specs.declared.answer.Answer.{Answer}
use Rattle.sch_word.specs.declared.answer.Answer.TheVariants.{Took, Failed}
use Rattle.sch_insn.specs.Machine.{Core}
use Rattle.sch_insn.specs.Step.{after_write}
use Rattle.sch_step.specs.Run.{state_of}

abbrev pub rax_of : Answer → ℕ
rax_of (Took k) = k
rax_of Failed = 2 ^ 64 - 5

unfoldable pub written_core : Core → ℕ → ℕ → Core
written_core c next rax = (after_write (state_of c [] []) next rax [] []).core
