-- What a count of the machine that an image was loaded into says of the image.
use Rattle.std.proofs.Common.{◌≡◌, ℕ, List, [], length, Result, Ok, Err, subst}
use Rattle.std.specs.Prelude.{IfSome}
use Rattle.sch_word.specs.declared.answer.Answer.{Answer}
use Rattle.sch_asm.specs.Stands.{marks_at}
use Rattle.sch_elf.specs.declared.image.Image.{Image}
use Rattle.sch_elf.specs.Layout.{memory}
use Rattle.sch_insn.specs.Step.{Runs}
use Rattle.sch_step.specs.Run.{IsRunAt, state_of}
use Rattle.sch_step.specs.Machine.{core_of, loaded, standing_of}
use Rattle.sch_step.specs.declared.ends.RunEnd.TheVariants as run_end
use Rattle.sch_step.specs.declared.machine.Machine.{Machine}
use Rattle.sch_listing.specs.declared.listing.Listing.{Listing}
use Rattle.sch_count.specs.ActivationCounts.{AreRows}
use Rattle.sch_count.specs.TracedCounts.{AreCounted, Follows, marks_from, run_end_of, status_of}
use Rattle.sch_count.specs.declared.counts.Counts.{Counts}
use Rattle.sch_count.specs.declared.error.CountError.{CountError}
use Rattle.sch_count.specs.declared.error.CountError.TheVariants as count_error
use Rattle.sch_cli.specs.Counts.{CountsImage}
use Rattle.sch_cli.proofs.MachineEnds.{comes_to}

module _ (image : Image) (listing : Listing) (steps : ℕ) (old new : Machine)
    (starts : (bytes : List ℕ) (answers : List Answer) → standing_of old bytes answers ≡ Runs (state_of (loaded image.entry (memory image.segments)) bytes answers)) where
  -- it took these bytes, where it was given no answers
  pub counts_image : (took : List ℕ) (answer : Result Counts CountError) → IfSome (run_end_of (status_of answer)) (λ end. IsRunAt end (core_of new).place)
      → Follows steps (marks_at listing.marks) (AreCounted (length listing.bodies) answer) (status_of answer) old new [] [] took [] → CountsImage image listing steps answer
  counts_image took (Ok counts) at h = record {
    output = took;
    ends = comes_to image steps old new (run_end.Exited counts.status) at starts [] [] took h.0;
    rows = subst (λ p. AreRows (length listing.bodies) (marks_from (marks_at listing.marks) steps p) counts.rows) (starts [] []) h.1;
  }
  counts_image took (Err count_error.Spent) at h = record { output = took; ends = comes_to image steps old new run_end.Spent at starts [] [] took h; rows = tt }
  counts_image took (Err (count_error.Stuck stuck)) at h = record { output = took; ends = comes_to image steps old new (run_end.Stuck stuck) at starts [] [] took h; rows = tt }
  counts_image took (Err count_error.Memory) at h = record { output = []; ends = tt; rows = tt }
