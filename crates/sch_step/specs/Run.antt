-- What a machine does over an outlet, which may tell what it takes and which answers it holds, or not.
use Rattle.std.specs.Prelude.{◌≡◌, ℕ, ◌≤◌, List, [], ◌++◌, Option, Some, None, All}
use Rattle.sch_word.specs.declared.answer.Answer.{Answer}
use Rattle.sch_word.specs.runs.Answers.{TakesNothing}
use Rattle.sch_io.specs.Told.{Tells}
use Rattle.sch_io.specs.Counters.{Rose}
use Rattle.sch_insn.specs.declared.insn.Insn.{Insn}
use Rattle.sch_insn.specs.declared.state.StuckCause.{StuckCause}
use Rattle.sch_insn.specs.Machine.{Core, State}
use Rattle.sch_insn.specs.Step.{Progress, Runs, Exited, Stuck, kernel, perform, step}
use Rattle.sch_step.specs.declared.ends.StepEnd.{StepEnd}
use Rattle.sch_step.specs.declared.ends.StepEnd.TheVariants as step_end
use Rattle.sch_step.specs.declared.ends.RunEnd.{RunEnd}
use Rattle.sch_step.specs.declared.ends.RunEnd.TheVariants as run_end

-- The state with a core, the bytes written so far and the kernel's answers. There are no spare words.
abbrev pub state_of : Core → List ℕ → List Answer → State
state_of c bytes answers = record { core = c; output = bytes; answers = answers; spare = [] }

-- What a machine has come to at the end of a step, and at the end of a run, with the core, the bytes and
-- the answers that there are then.
abbrev pub reached_by_step : StepEnd → Core → List ℕ → List Answer → Progress
reached_by_step step_end.Ran c bytes answers = Runs (state_of c bytes answers)
reached_by_step (step_end.Exited status) c bytes answers = Exited status (state_of c bytes answers)
reached_by_step (step_end.Stuck stuck) c bytes answers = Stuck stuck.cause (state_of c bytes answers)

abbrev pub reached_by_run : RunEnd → Core → List ℕ → List Answer → Progress
reached_by_run run_end.Spent c bytes answers = Runs (state_of c bytes answers)
reached_by_run (run_end.Exited status) c bytes answers = Exited status (state_of c bytes answers)
reached_by_run (run_end.Stuck stuck) c bytes answers = Stuck stuck.cause (state_of c bytes answers)

-- Something was done over an outlet. `P bytes answers bytes' answers'` says that with these bytes written
-- and these answers of the kernel before it there are those after it. It took some bytes and was given
-- some answers: with these answers, before any others, P holds; where the outlet tells the answers that
-- it holds, P holds with those; where it tells its bytes, it took these bytes. An answer took nothing
-- only where the outlet's faults rose.
pub record Does (P : List ℕ → List Answer → List ℕ → List Answer → Type 0)
    (old_bytes new_bytes : Option (List ℕ)) (old_left new_left : Option (List Answer)) (old_faults new_faults : ℕ) : Type 0 where
  pub took : List ℕ
  pub given : List Answer
  pub untold : (bytes : List ℕ) (more : List Answer) → P bytes (given ++ more) (bytes ++ took) more
  pub told : Tells old_left new_left (λ before after. (bytes : List ℕ) → P bytes before (bytes ++ took) after)
  pub bytes_told : Tells old_bytes new_bytes (λ before after. after ≡ before ++ took)
  pub faults : old_faults ≤ new_faults
  pub refused : All (λ answer. TakesNothing answer → Rose old_faults new_faults) given

abbrev pub KernelTo : ℕ → StepEnd → Core → Core → (List ℕ → List Answer → List ℕ → List Answer → Type 0)
KernelTo next end c d = λ bytes answers bytes' answers'. kernel (state_of c bytes answers) next ≡ reached_by_step end d bytes' answers'

abbrev pub StepsTo : StepEnd → Core → Core → (List ℕ → List Answer → List ℕ → List Answer → Type 0)
StepsTo end c d = λ bytes answers bytes' answers'. step (state_of c bytes answers) ≡ reached_by_step end d bytes' answers'

abbrev pub PerformsTo : Insn → ℕ → StepEnd → Core → Core → (List ℕ → List Answer → List ℕ → List Answer → Type 0)
PerformsTo i next end c d = λ bytes answers bytes' answers'. perform i next (state_of c bytes answers) ≡ reached_by_step end d bytes' answers'

-- The address of a stuck machine is that of the instruction that has no row.
abbrev pub IsAt : StepEnd → ℕ → Type 0
IsAt step_end.Ran place = Unit {0}
IsAt (step_end.Exited status) place = Unit {0}
IsAt (step_end.Stuck stuck) place = stuck.at ≡ place

abbrev pub IsRunAt : RunEnd → ℕ → Type 0
IsRunAt run_end.Spent place = Unit {0}
IsRunAt (run_end.Exited status) place = Unit {0}
IsRunAt (run_end.Stuck stuck) place = stuck.at ≡ place

-- What is seen of a state where no step is left: that it has a row, or why it has none.
abbrev pub looked : Option StuckCause → Core → List ℕ → List Answer → Progress
looked None c bytes answers = Runs (state_of c bytes answers)
looked (Some cause) c bytes answers = Stuck cause (state_of c bytes answers)
