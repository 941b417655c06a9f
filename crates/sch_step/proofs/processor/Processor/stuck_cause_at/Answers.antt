use Rattle.sch_step.specs.View.{core_of}
use Rattle.sch_step.proofs.MachineRuns.{looked_at}
use Rattle.sch_step.proofs.processor.Processor.stuck_cause_at.Goals as goal

pub returns-in_default : goal.returns-in_default
returns-in_default c = λ b k. looked_at c.args.insn.now _ (core_of c.args.self.now) b k c.stuck_cause.result c.in_default.not-Syscall c.stuck_cause.ensures
