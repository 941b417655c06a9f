-- A machine of the program, as what a machine has come to.
use Rattle.std.specs.Prelude.{◌≡◌, ◌≢◌, ℕ, List, [], length, Option, Some, None}
use Rattle.sch_word.specs.declared.answer.Answer.{Answer}
use Rattle.sch_word.specs.values.Memory.{Segment}
use Rattle.sch_io.specs.Told.{Tells}
use Rattle.sch_insn.specs.Machine.{Core, State}
use Rattle.sch_insn.specs.Step.{Progress, Runs, Exited, Stuck, step, mach, go_on}
use Rattle.sch_insn.specs.Path.{Path}
use Rattle.sch_insn.specs.Behaves.{start, zeros}
use Rattle.sch_step.specs.declared.ends.StepEnd.{StepEnd}
use Rattle.sch_step.specs.declared.ends.StepEnd.TheVariants as step_end
use Rattle.sch_step.specs.declared.ends.RunEnd.{RunEnd}
use Rattle.sch_step.specs.declared.ends.RunEnd.TheVariants as run_end
use Rattle.sch_step.specs.declared.machine.Machine.{Machine}
use Rattle.sch_step.specs.View as view
use Rattle.sch_step.specs.Run.{state_of, reached_by_step, reached_by_run, IsAt}

abbrev pub core_of : Machine → Core
core_of m = view.core_of m.processor

-- A machine that has exited with a status, or one that has not.
abbrev pub stands : Option ℕ → Core → List ℕ → List Answer → Progress
stands None c bytes answers = Runs (state_of c bytes answers)
stands (Some status) c bytes answers = Exited status (state_of c bytes answers)

abbrev pub standing_of : Machine → List ℕ → List Answer → Progress
standing_of m bytes answers = stands m.exited (core_of m) bytes answers

-- Where a machine stands after a step, and after a run. One that is stuck stands where it was.
abbrev pub left_by_step : StepEnd → Core → List ℕ → List Answer → Progress
left_by_step step_end.Ran c bytes answers = Runs (state_of c bytes answers)
left_by_step (step_end.Exited status) c bytes answers = Exited status (state_of c bytes answers)
left_by_step (step_end.Stuck stuck) c bytes answers = Runs (state_of c bytes answers)

abbrev pub left_by_run : RunEnd → Core → List ℕ → List Answer → Progress
left_by_run run_end.Spent c bytes answers = Runs (state_of c bytes answers)
left_by_run (run_end.Exited status) c bytes answers = Exited status (state_of c bytes answers)
left_by_run (run_end.Stuck stuck) c bytes answers = Runs (state_of c bytes answers)

-- A machine that has exited stays so; any other makes one step.
abbrev pub MachineSteps : StepEnd → Machine → Machine → (List ℕ → List Answer → List ℕ → List Answer → Type 0)
MachineSteps end old new = λ bytes answers bytes' answers'. go_on (standing_of old bytes answers) step ≡ reached_by_step end (core_of new) bytes' answers'

-- The same for a bounded run.
abbrev pub MachineRuns : ℕ → RunEnd → Machine → Machine → (List ℕ → List Answer → List ℕ → List Answer → Type 0)
MachineRuns steps end old new = λ bytes answers bytes' answers'. go_on (standing_of old bytes answers) (mach steps) ≡ reached_by_run end (core_of new) bytes' answers'

-- From a state a path of this number of steps leads to where a machine runs on.
pub record Comes (steps : ℕ) (s : State) (e : Progress) : Type 0 where
  pub way : List State
  pub last : State
  pub path : Path s way last
  pub long : length way ≡ steps
  pub runs : e ≡ Runs last

-- In this number of steps one comes from one standing to another. One that has ended makes no step.
abbrev pub ComesTo : ℕ → Progress → Progress → Type 0
ComesTo steps (Runs s) e = Comes steps s e
ComesTo steps (Exited status s) e = (steps ≡ 0) × (e ≡ Exited status s)
ComesTo steps (Stuck cause s) e = (steps ≡ 0) × (e ≡ Stuck cause s)

abbrev pub MachineComes : ℕ → Machine → Machine → (List ℕ → List Answer → List ℕ → List Answer → Type 0)
MachineComes steps old new = λ bytes answers bytes' answers'. ComesTo steps (standing_of old bytes answers) (standing_of new bytes' answers')

-- The machine has ended: it stands so, and whatever was written and the kernel holds, a step ends so again
-- and changes nothing.
pub record HasEnded (m : Machine) (end : StepEnd) : Type 0 where
  pub ends : end ≢ step_end.Ran
  pub at : IsAt end (core_of m).place
  pub stands : (bytes : List ℕ) (answers : List Answer) → standing_of m bytes answers ≡ left_by_step end (core_of m) bytes answers
  pub again : (bytes : List ℕ) (answers : List Answer) → go_on (standing_of m bytes answers) step ≡ reached_by_step end (core_of m) bytes answers

-- Nothing was done: the core is the same, and so are the bytes and the answers that the outlet still tells.
pub record IsStill (old new : Machine) (ob nb : Option (List ℕ)) (ol nl : Option (List Answer)) : Type 0 where
  pub core : core_of new ≡ core_of old
  pub bytes : Tells ob nb (λ before after. after ≡ before)
  pub left : Tells ol nl (λ before after. after ≡ before)

-- How the last step of a run ended.
abbrev pub last_of : RunEnd → StepEnd
last_of run_end.Spent = step_end.Ran
last_of (run_end.Exited status) = step_end.Exited status
last_of (run_end.Stuck stuck) = step_end.Stuck stuck

-- The core of a machine that was loaded: that of the start to which nothing is given.
abbrev pub loaded : ℕ → List Segment → Core
loaded entry segments = (start entry segments zeros []).core
