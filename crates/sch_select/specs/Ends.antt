-- That a machine exits within a bound of steps.
use Rattle.std.specs.Prelude.{◌≡◌, ℕ, List, Some}
use Rattle.sch_word.specs.declared.answer.Answer.{Answer}
use Rattle.sch_word.specs.values.Memory.{Segment}
use Rattle.sch_word.specs.runs.Runs.{Run, ended}
use Rattle.sch_insn.specs.Behaves.{Given, exit_of, start}
use Rattle.sch_insn.specs.Step.{mach}

-- Where a run has ended, the machine has exited with its status and its output after a number of steps, by the
-- entries that the run took, the answers that it used and the bytes that it charged.
pub record EndsWithin (entry : ℕ) (segments : List Segment) (runs : List Answer → (entries : ℕ) → Run)
    (bound : (entries answers charged : ℕ) → ℕ) : Type 0 where
  pub within : (g : Given) (answers : List Answer) (n status : ℕ) → (runs answers n).end ≡ ended status
      → exit_of (mach (bound (runs answers n).entries (runs answers n).answers (runs answers n).charged)
      (start entry segments g answers)) ≡ Some (status, (runs answers n).output)
