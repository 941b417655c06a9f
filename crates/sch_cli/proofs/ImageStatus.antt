-- The status of `step` follows from the bytes of its file.
use Rattle.std.proofs.Common.{◌≢◌, ◌<◌, ◌≤◌, inl, inr, ℕ, List, length, Result, refl, sym, subst, arith}
use Rattle.sch_elf.specs.Refused as images
use Rattle.sch_elf.specs.Stands.{StandsFor}
use Rattle.sch_elf.specs.declared.error.ImageError.{ImageError}
use Rattle.sch_elf.specs.declared.error.ImageError.TheVariants as image_error
use Rattle.sch_elf.specs.declared.image.Image.{Image}
use Rattle.sch_elf.proofs.OneRefusal.{no_image, one_image}
use Rattle.sch_step.specs.declared.ends.RunEnd.{RunEnd}
use Rattle.sch_cli.specs.Executes.{Executes}
use Rattle.sch_cli.specs.Failures.{image_status}
use Rattle.sch_cli.specs.Images.{FollowsBytes, FollowsImage}
use Rattle.sch_cli.specs.Seen.{DiskChange, StreamChange, DiskFailed, SameFiles}
use Rattle.sch_cli.specs.Statuses.{end_status, status_number}
use Rattle.sch_cli.specs.Steps as runs
use Rattle.sch_cli.specs.Steps.{EndsRun, StepsImage, max_image_file_size, run_status}
use Rattle.sch_cli.specs.declared.failure.Failure.{Failure}
use Rattle.sch_cli.proofs.SourceStatus.{told_any, told_is}

within : (file : List ℕ) → max_image_file_size < length file → length file ≤ max_image_file_size → ⊥
within file many few = omega (arith, many, few)

module _ (steps : ℕ) (disk : DiskChange) (out : StreamChange) where
  abbrev Of : ℕ → List ℕ → Type 0
  Of status file = FollowsBytes file steps status disk out

  -- ---- of bytes

  unread : DiskFailed disk → (file : List ℕ) → Of 2 file
  unread failed file = record {
    too_many = λ many. inr (inr (refl, failed));
    no_image = λ few none. inr (inr (refl, failed));
    stepped = λ few image stands. inr (inr (refl, failed));
    only = λ e. absurd (omega (arith, e));
  }

  no_memory : (file : List ℕ) → Of 10 file
  no_memory file = record {
    too_many = λ many. inr (inl refl);
    no_image = λ few none. inr (inl refl);
    stepped = λ few image stands. inr (inl refl);
    only = λ e. absurd (omega (arith, e));
  }

  of_many : (file : List ℕ) → max_image_file_size < length file → Of 7 file
  of_many file many = record {
    too_many = λ _. inl refl;
    no_image = λ few none. absurd (within file many few);
    stepped = λ few image stands. absurd (within file many few);
    only = λ e. absurd (omega (arith, e));
  }

  of_none : (file : List ℕ) (error : ImageError) → error ≢ image_error.Memory → length file ≤ max_image_file_size → images.IsRefused file error → Of 8 file
  of_none file error known few is =
      let none : (image : Image) → StandsFor file image → ⊥ = λ image stands. no_image file error image is known stands in
      record {
        too_many = λ many. absurd (within file many few);
        no_image = λ _ _. inl refl;
        stepped = λ _ image stands. absurd (none image stands);
        only = λ e. (few, inl none);
      }

  of_refused : (file : List ℕ) (error : ImageError) → length file ≤ max_image_file_size → images.IsRefused file error → Of (status_number (image_status error)) file
  of_refused file image_error.Short few is = of_none file image_error.Short (λ e. cc) few is
  of_refused file image_error.NotElf few is = of_none file image_error.NotElf (λ e. cc) few is
  of_refused file image_error.NotThisMachine few is = of_none file image_error.NotThisMachine (λ e. cc) few is
  of_refused file (image_error.BadSegment index) few is = of_none file (image_error.BadSegment index) (λ e. cc) few is
  of_refused file image_error.TooLarge few is = of_none file image_error.TooLarge (λ e. cc) few is
  of_refused file image_error.Memory few is = no_memory file

  of_image : (file : List ℕ) (image : Image) (end : RunEnd) → length file ≤ max_image_file_size → StandsFor file image → Executes image steps end out
      → Of (status_number (end_status end)) file
  of_image file image end few stands executed = record {
    too_many = λ many. absurd (within file many few);
    no_image = λ _ none. absurd (none image stands);
    stepped = λ _ other is. inl (end, refl, subst (λ i. Executes i steps end out) (one_image file image other stands is) executed);
    only = λ e. (few, inr (image, stands, (end, sym e, executed)));
  }

  -- ---- of the verb

  module _ (name : List ℕ) where
    step_follows : (answer : Result RunEnd Failure) → SameFiles disk → StepsImage name steps disk out answer
        → FollowsImage name steps (status_number (run_status answer)) disk out
    step_follows _ unchanged (runs.not_read failed nothing) = told_any disk name (Of 2) unchanged (unread failed)
    step_follows _ unchanged (runs.no_memory nothing) = told_any disk name (Of 10) unchanged no_memory
    step_follows _ unchanged (runs.too_long long nothing) = told_is disk name (λ file. max_image_file_size < length file) (Of 7) long of_many
    step_follows _ unchanged (runs.no_image error is nothing) =
        told_is disk name (λ file. (length file ≤ max_image_file_size) × images.IsRefused file error) (Of (status_number (image_status error))) is
        (λ file h. of_refused file error h.0 h.1)
    step_follows _ unchanged (runs.stepped image end is executed) =
        told_is disk name (λ file. (length file ≤ max_image_file_size) × StandsFor file image) (Of (status_number (end_status end))) is
        (λ file h. of_image file image end h.0 h.1 executed)

    pub step_image : (status : ℕ) (err : StreamChange) → EndsRun name status disk err (StepsImage name steps disk out) → FollowsImage name steps status disk out
    step_image status err ends = subst (λ s. FollowsImage name steps s disk out) (sym ends.status_is) (step_follows ends.answer ends.unchanged ends.did)
