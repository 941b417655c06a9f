-- Why an instruction is stuck: why its row is.
use Rattle.std.proofs.Common.{◌≡◌, ◌∙◌, sym, ap, Option}
use Rattle.std.specs.Result.{result_err}
use Rattle.sch_insn.specs.declared.insn.Insn.{Insn}
use Rattle.sch_insn.specs.declared.state.StuckCause.{StuckCause}
use Rattle.sch_insn.specs.Machine.{Core}
use Rattle.sch_step.specs.View.{act}

pub row : {cause : Option StuckCause} {i j : Insn} (c : Core) → i ≡ j → cause ≡ result_err (act j c) → cause ≡ result_err (act i c)
row c is known = known ∙ sym (ap (λ k. result_err (act k c)) is)
