-- A program that was run ends as it means, and stops at a failed output only where the outlet failed.
use Rattle.std.proofs.Common.{◌≡◌, ℕ, List, [], refl, sym, ap, ◌∙◌, subst, arith}
use Rattle.sch_io.proofs.PutSteps.{tells_map}
use Rattle.sch_word.specs.declared.answer.Answer.{Answer}
use Rattle.sch_word.specs.declared.stop.Stop.{Stop}
use Rattle.sch_word.specs.declared.stop.Stop.TheVariants.{WrongType, OutOfRange, NotProcedure, WrongCount, DivideByZero, Overflow, HeapLimit, DepthLimit, Unset, OutputFailed}
use Rattle.sch_word.specs.runs.Computation.{Outcome, State as states, gives, stops, spent}
use Rattle.sch_word.specs.runs.Runs.{End, Run, ended, going}
use Rattle.sch_word.specs.runs.Runs.{seen as observed}
use Rattle.sch_word.specs.runs.Stops.{status_of}
use Rattle.sch_word.specs.values.Values.{Value}
use Rattle.sch_elf.specs.declared.image.Image.{Image}
use Rattle.sch_elf.specs.Layout.{memory}
use Rattle.sch_insn.specs.Machine.{unknown_flags}
use Rattle.sch_insn.specs.Step.{Progress, Runs, Exited, Stuck, mach}
use Rattle.sch_insn.specs.Behaves.{FollowsRuns, Given, IsPrefix, output_of, exit_of}
use Rattle.sch_lang.specs.Tree as tree
use Rattle.sch_lang.specs.Meaning.{Closure}
use Rattle.sch_lang.specs.Run.{outcome, run}
use Rattle.sch_lang.proofs.OutputFails.{fails_by_answer, refused_gives}
use Rattle.sch_driver.specs.Headline.{IsImageOf}
use Rattle.sch_step.specs.declared.ends.RunEnd.{RunEnd}
use Rattle.sch_cli.specs.declared.status.Status.{Status}
use Rattle.sch_cli.specs.declared.status.Status.TheVariants.{Stopped}
use Rattle.sch_cli.specs.Executes.{EndsUnder, Executes, run_end_of, started}
use Rattle.sch_cli.specs.Seen.{StreamChange, StreamFailed}
use Rattle.sch_cli.specs.Statuses.{end_status, exit_status, status_number}
use Rattle.sch_cli.specs.Steps.{EndsAs, RunsProgram}

-- ---- a run ends with 0 or a stop's status

-- an exit with this status is named so: the program's status has the same number, and is not that of
-- steps that were spent
pub record IsNamed (status : ℕ) : Type 0 where
  pub number : status_number (exit_status status) ≡ status
  pub not_spent : (runs : List Answer → ℕ → Run) (steps : ℕ) (answers : List Answer) (output : List ℕ) →
      (runs answers steps).end ≡ ended (status_number (exit_status status)) → (runs answers steps).output ≡ output → EndsAs runs steps answers (exit_status status) output

zero_named : IsNamed 0
zero_named = record { number = refl; not_spent = λ runs steps answers output end is. (end, is) }

stop_named : (why : Stop) → IsNamed (status_of why)
stop_named WrongType = record { number = refl; not_spent = λ runs steps answers output end is. (end, is) }
stop_named OutOfRange = record { number = refl; not_spent = λ runs steps answers output end is. (end, is) }
stop_named NotProcedure = record { number = refl; not_spent = λ runs steps answers output end is. (end, is) }
stop_named WrongCount = record { number = refl; not_spent = λ runs steps answers output end is. (end, is) }
stop_named DivideByZero = record { number = refl; not_spent = λ runs steps answers output end is. (end, is) }
stop_named Overflow = record { number = refl; not_spent = λ runs steps answers output end is. (end, is) }
stop_named HeapLimit = record { number = refl; not_spent = λ runs steps answers output end is. (end, is) }
stop_named DepthLimit = record { number = refl; not_spent = λ runs steps answers output end is. (end, is) }
stop_named Unset = record { number = refl; not_spent = λ runs steps answers output end is. (end, is) }
stop_named OutputFailed = record { number = refl; not_spent = λ runs steps answers output end is. (end, is) }

status_of_end : End → ℕ
status_of_end (ended status) = status
status_of_end going = 0

seen_named : (answers : List Answer) (entries : ℕ) (o : Outcome (states Closure) Value) (status : ℕ) → (observed answers entries o).end ≡ ended status → IsNamed status
unfolding status_of_end
seen_named answers entries (gives v s) status is = subst IsNamed (ap status_of_end is) zero_named
seen_named answers entries (stops why s) status is = subst IsNamed (ap status_of_end is) (stop_named why)
seen_named answers entries (spent s) status is = absurd cc

pub run_named : (p : tree.Source) (table : List (List ℕ)) (heap depth : ℕ) (answers : List Answer) (entries status : ℕ) → (run p table heap depth answers entries).end ≡ ended status → IsNamed status
run_named p table heap depth answers entries status is = seen_named answers entries (outcome p table heap depth answers entries) status is

-- ---- an image that does what the program means

-- what a machine is given that starts with registers that are 0
zeros : Given
zeros = record { registers = λ r. 0; flags = unknown_flags; spare = []; registers_fit = λ r. omega arith; spare_fit = λ k d lt. absurd (omega arith) }

module _ (image : Image) (p : tree.Source) (table : List (List ℕ)) (heap depth : ℕ) (does : FollowsRuns image.entry (memory image.segments) (run p table heap depth)) where
  -- how it ends, by what a bounded run has come to
  ends : (steps : ℕ) (answers : List Answer) (q : Progress) → mach steps (started image answers) ≡ q → EndsAs (run p table heap depth) steps answers (end_status (run_end_of q)) (output_of q)
  unfolding zeros
  ends steps answers (Runs s) is = subst (λ q. IsPrefix (output_of q) (run p table heap depth answers steps).output) is (does.covered zeros answers steps).output
  ends steps answers (Exited status s) is =
      let end = (does.covered zeros answers steps).end status s.output (ap exit_of is) in
      let named = run_named p table heap depth answers steps status end.0 in
      named.not_spent (run p table heap depth) steps answers s.output (end.0 ∙ ap ended (sym named.number)) end.1
  ends steps answers (Stuck cause s) is = absurd (does.never_stuck zeros answers steps cause s is)

  ends_as : (steps : ℕ) (answers : List Answer) (end : RunEnd) (output : List ℕ) → EndsUnder image steps answers end output → EndsAs (run p table heap depth) steps answers (end_status end) output
  ends_as steps answers end output r =
      subst (λ e. EndsAs (run p table heap depth) steps answers (end_status e) output) r.end_is
      (subst (λ o. EndsAs (run p table heap depth) steps answers (end_status (run_end_of (mach steps (started image answers)))) o) r.output_is
      (ends steps answers (mach steps (started image answers)) refl))

-- a run that ends with this status has this end
end_number : (runs : List Answer → ℕ → Run) (steps : ℕ) (answers : List Answer) (status : Status) (output : List ℕ) → status ≡ Stopped OutputFailed → EndsAs runs steps answers status output
    → (runs answers steps).end ≡ ended 74
end_number runs steps answers status output is h = (subst (λ s. EndsAs runs steps answers s output) is h).0

pub runs_program : (p : tree.Source) (table : List (List ℕ)) (heap depth : ℕ) (image : Image) (steps : ℕ) (end : RunEnd) (out : StreamChange) → IsImageOf image p table heap depth
    → Executes image steps end out →
    RunsProgram p table heap depth image steps end out
runs_program p table heap depth image steps end out does executed =
    let runs = run p table heap depth in
    let end_is = ends_as image p table heap depth does.follows.runs steps in
    let given = end_is executed.given end executed.output executed.under_given in
    record {
      executed = executed;
      under_given = given;
      under_left = tells_map out.before.left out.after.left (λ before after. EndsUnder image steps before end executed.output) (λ before after. EndsAs runs steps before (end_status end) executed.output)
          executed.under_left (λ before after r. end_is before end executed.output r);
      output_failed = λ is.
          refused_gives (StreamFailed out) executed.given
          ((fails_by_answer p).nothing_taken table heap depth executed.given steps (end_number runs steps executed.given (end_status end) executed.output is given))
          executed.refused;
    }
