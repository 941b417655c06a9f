-- A source whose program's run ends, and that has steps enough, ends in time.
use Rattle.std.proofs.Common.{◌≡◌, ◌≢◌, ℕ, Bool, true, false, List, Option, Some, None, ap, ◌∙◌, subst}
use Rattle.std.specs.Prelude.{◌==◌, if◌then◌else◌}
use Rattle.sch_io.proofs.PutSteps.{tells_map}
use Rattle.sch_word.specs.declared.answer.Answer.{Answer}
use Rattle.sch_word.specs.declared.stop.Stop.{Stop}
use Rattle.sch_word.specs.runs.Stops.{stop_of}
use Rattle.sch_elf.specs.declared.image.Image.{Image}
use Rattle.sch_elf.specs.Layout.{memory}
use Rattle.sch_elf.proofs.OneRefusal.{one_image}
use Rattle.sch_insn.specs.Behaves.{exit_of, zeros}
use Rattle.sch_insn.specs.Step.{Progress, Runs, Exited, Stuck, mach}
use Rattle.sch_lang.specs.Run.{run}
use Rattle.sch_lang.specs.Tree as tree
use Rattle.sch_select.specs.Ends.{EndsWithin}
use Rattle.sch_driver.specs.Assembled.{steps_of}
use Rattle.sch_driver.proofs.Steps.{exit_stays}
use Rattle.sch_step.specs.declared.ends.RunEnd.{RunEnd}
use Rattle.sch_cli.specs.Builds.{HasFile}
use Rattle.sch_cli.specs.Executes.{EndsUnder, Executes, run_end_of, started}
use Rattle.sch_cli.specs.Seen.{StreamChange}
use Rattle.sch_cli.specs.Statuses.{end_status, exit_status, status_number, stop_status}
use Rattle.sch_cli.specs.Steps.{EndsInTime, RunsProgram, RunsText}
use Rattle.sch_cli.specs.declared.status.Status.TheVariants.{Done, StepsSpent}
use Rattle.sch_cli.proofs.CompiledFiles.{does_text}
use Rattle.sch_cli.proofs.ProgramRuns.{IsNamed, run_named, runs_program}

-- ---- an exit is no end of steps

chosen_not_spent : (zero : Bool) (stop : Option Stop) → (if zero then Done else stop_status stop) ≢ StepsSpent
chosen_not_spent true stop e = cc
chosen_not_spent false None e = cc
chosen_not_spent false (Some why) e = cc

exit_not_spent : (status : ℕ) → exit_status status ≢ StepsSpent
exit_not_spent status = chosen_not_spent (status == 0) (stop_of status)

status_in : Option (ℕ × List ℕ) → ℕ
status_in None = 0
status_in (Some exit) = exit.0

-- what has exited with a status that is named so has this end
exited_so : (q : Progress) (status : ℕ) (output : List ℕ) (end : RunEnd) → IsNamed status → exit_of q ≡ Some (status, output) → run_end_of q ≡ end
    → (end_status end ≢ StepsSpent) × (status_number (end_status end) ≡ status)
unfolding status_in
exited_so (Runs s) status output end named e is = absurd cc
exited_so (Stuck cause s) status output end named e is = absurd cc
exited_so (Exited own s) status output end named e is =
    let same : own ≡ status = ap status_in e in
    subst (λ x. (end_status x ≢ StepsSpent) × (status_number (end_status x) ≡ status)) is
    (exit_not_spent own, ap (λ n. status_number (exit_status n)) same ∙ named.number)

-- ---- an image

module _ (image : Image) (p : tree.Source) (table : List (List ℕ)) (heap depth instructions : ℕ)
    (ends : EndsWithin image.entry (memory image.segments) (run p table heap depth) (steps_of instructions)) where
  ends_in_time : (steps : ℕ) (answers : List Answer) (end : RunEnd) (output : List ℕ) → EndsUnder image steps answers end output
      → EndsInTime (run p table heap depth) instructions steps answers (end_status end)
  ends_in_time steps answers end output under n status is enough =
      let r = run p table heap depth answers n in
      exited_so (mach steps (started image answers)) status r.output end (run_named p table heap depth answers n status is)
      (exit_stays (steps_of instructions r.entries r.answers r.charged) steps (started image answers) (status, r.output) enough (ends.within zeros answers n status is))
      under.end_is

-- ---- a text

ends_text : (text : List ℕ) (heap depth : ℕ) (image : Image) (built : HasFile text heap depth image)
    → EndsWithin image.entry (memory image.segments) (run built.made.compiled.program built.made.listing.orders heap depth) (steps_of built.made.listing.instructions)
ends_text text heap depth image built =
    let program = built.made.compiled.is_program in
    subst (λ i. EndsWithin i.entry (memory i.segments) (run built.made.compiled.program built.made.listing.orders heap depth) (steps_of built.made.listing.instructions))
    (one_image built.file program.image image program.stands built.stands) built.made.compiled.ends

pub runs_text : (text : List ℕ) (heap depth steps : ℕ) (end : RunEnd) (out : StreamChange) (image : Image) → HasFile text heap depth image → Executes image steps end out
    → RunsText text heap depth steps end out
runs_text text heap depth steps end out image built executed =
    let made = built.made in
    let p = made.compiled.program in
    let orders = made.listing.orders in
    let count = made.listing.instructions in
    let in_time : (answers : List Answer) (output : List ℕ) → EndsUnder image steps answers end output → EndsInTime (run p orders heap depth) count steps answers (end_status end) =
    λ answers output. ends_in_time image p orders heap depth count (ends_text text heap depth image built) steps answers end output in
    let ran : RunsProgram p orders heap depth image steps end out = runs_program p orders heap depth image steps end out (does_text text heap depth image built) executed in
    record {
      file = built.file;
      made = made;
      image = image;
      stands = built.stands;
      runs = ran;
      in_time_given = in_time ran.executed.given ran.executed.output ran.executed.under_given;
      in_time_left = tells_map out.before.left out.after.left (λ before after. EndsUnder image steps before end executed.output)
          (λ before after. EndsInTime (run p orders heap depth) count steps before (end_status end))
          executed.under_left (λ before after r. in_time before executed.output r);
    }
