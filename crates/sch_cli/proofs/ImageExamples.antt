-- Worked rows: which statuses of `step` follow from the bytes of its file; which command is `step`; which failures a text can have.
use Rattle.std.proofs.Common.{◌≡◌, ◌≢◌, ◌≤◌, inl, inr, ℕ, List, [], ◌∷◌, length, None, Some, refl, sym, ◌∙◌, subst, arith}
use Rattle.sch_elf.specs.Stands.{StandsFor}
use Rattle.sch_elf.specs.declared.error.ImageError.{ImageError}
use Rattle.sch_elf.specs.declared.image.Image.{Image}
use Rattle.sch_insn.specs.Step.{mach}
use Rattle.sch_step.specs.declared.ends.RunEnd.{RunEnd}
use Rattle.sch_step.specs.declared.ends.RunEnd.TheVariants as run_end
use Rattle.sch_step.specs.declared.ends.Stuck as stuck_place
use Rattle.sch_driver.specs.declared.error.CompileError.{CompileError}
use Rattle.sch_commands.specs.Command.{compile, count, gen, list, run, step}
use Rattle.sch_cli.specs.Executes.{run_end_of, started}
use Rattle.sch_cli.specs.Images.{EndsStepped, FollowsBytes, FollowsImage, IsNoImage, IsStep, OrUnread}
use Rattle.sch_cli.specs.Refusals.{IsOfText}
use Rattle.sch_cli.specs.Seen.{StreamChange, StreamState}
use Rattle.sch_cli.specs.Statuses.{end_status, status_number}
use Rattle.sch_cli.specs.declared.failure.Failure.TheVariants as failure
use Rattle.sch_cli.proofs.SourceExamples.{calm, failed, held, told}

-- ---- the status of `step`

-- a stream that tells that nothing was taken, and no answers are held ready
abbrev pub empty_stream : StreamState
empty_stream = record { bytes = Some []; left = Some []; faults = 0 }

abbrev pub quiet : StreamChange
quiet = record { before = empty_stream; after = empty_stream }

-- neither what is due, nor 10, nor 2 where the disk did not fail
not_due : (status due : ℕ) → status ≢ due → status ≢ 10 → OrUnread (status ≡ due) status calm → ⊥
not_due status due other known (inl e) = other e
not_due status due other known (inr (inl e)) = known e
not_due status due other known (inr (inr h)) = omega (arith, h.1)

-- the empty file stands for no image
nothing_is_none : IsNoImage []
nothing_is_none image stands = omega (arith, stands.long)

nothing_8 : (steps : ℕ) → FollowsBytes [] steps 8 calm quiet
nothing_8 steps = record {
  too_many = λ many. absurd (omega (arith, many));
  no_image = λ few none. inl refl;
  stepped = λ few image stands. absurd (nothing_is_none image stands);
  only = λ e. (omega arith, inl nothing_is_none);
}

-- no other status follows from it, but for 10
nothing_is_8 : (steps status : ℕ) → status ≢ 8 → status ≢ 10 → FollowsBytes [] steps status calm quiet → ⊥
nothing_is_8 steps status other known h = not_due status 8 other known (h.no_image (omega arith) nothing_is_none)

-- 2 where the disk failed
failed_2 : OrUnread (◌≡◌ {A = ℕ} 2 8) 2 failed
failed_2 = inr (inr (refl, omega arith))

-- a byte past 128 MiB, and none past it
long_is_7 : (file : List ℕ) (steps status : ℕ) → status ≢ 7 → status ≢ 10 → length file ≡ 134217729 → FollowsBytes file steps status calm quiet → ⊥
long_is_7 file steps status other known size h = not_due status 7 other known (h.too_many (omega (arith, size)))

longest_is_8 : (file : List ℕ) (steps status : ℕ) → status ≢ 8 → status ≢ 10 → length file ≡ 134217728 → IsNoImage file → FollowsBytes file steps status calm quiet → ⊥
longest_is_8 file steps status other known size none h = not_due status 8 other known (h.no_image (omega (arith, size)) none)

-- the file `a` of a disk that tells it: its one byte stands for no image
byte_is_none : IsNoImage (41 ∷ [])
byte_is_none image stands = omega (arith, stands.long)

held_0 : (steps : ℕ) → FollowsImage (97 ∷ []) steps 0 told quiet → ⊥
held_0 steps h = not_due 0 8 (λ e. cc) (λ e. cc) ((h (41 ∷ []) held).no_image (omega arith) byte_is_none)

-- bytes that stand for an image, which comes to this end
module _ (file : List ℕ) (image : Image) (stands : StandsFor file image) (few : length file ≤ 134217728) (steps : ℕ) (end : RunEnd)
    (comes : run_end_of (mach steps (started image [])) ≡ end) where
  -- no other status than that of this end
  other_status : (status : ℕ) → status ≢ status_number (end_status end) → status ≢ 10 → FollowsBytes file steps status calm quiet → ⊥
  other_status status other known h = by (h.stepped few image stands)
    where
      by : OrUnread (EndsStepped image steps status quiet) status calm → ⊥
      by (inl ends) = other (ends.1 ∙ sym (same (sym comes ∙ ends.2.under_left.end_is)))
        where
          same : end ≡ ends.0 → status_number (end_status end) ≡ status_number (end_status ends.0)
          same e = subst (λ found. status_number (end_status end) ≡ status_number (end_status found)) e refl
      by (inr (inl e)) = known e
      by (inr (inr h)) = omega (arith, h.1)

module _ (file : List ℕ) (image : Image) (stands : StandsFor file image) (few : length file ≤ 134217728) (steps : ℕ) where
  abbrev Comes : RunEnd → Type 0
  Comes end = run_end_of (mach steps (started image [])) ≡ end

  -- an exit with 0 is not 8, nor are steps that are spent
  exits_8 : Comes (run_end.Exited 0) → FollowsBytes file steps 8 calm quiet → ⊥
  exits_8 comes = other_status file image stands few steps (run_end.Exited 0) comes 8 (λ e. cc) (λ e. cc)

  spent_8 : Comes run_end.Spent → FollowsBytes file steps 8 calm quiet → ⊥
  spent_8 comes = other_status file image stands few steps run_end.Spent comes 8 (λ e. cc) (λ e. cc)

  -- an exit with 42, which is no stop's, is 8; with 71, which is one's, it is 71
  exits_42_is_8 : (status : ℕ) → status ≢ 8 → status ≢ 10 → Comes (run_end.Exited 42) → FollowsBytes file steps status calm quiet → ⊥
  exits_42_is_8 status other known comes = other_status file image stands few steps (run_end.Exited 42) comes status other known

  stops_71 : (status : ℕ) → status ≢ 71 → status ≢ 10 → Comes (run_end.Exited 71) → FollowsBytes file steps status calm quiet → ⊥
  stops_71 status other known comes = other_status file image stands few steps (run_end.Exited 71) comes status other known

  -- one that got stuck is 8
  stuck_is_8 : (stuck : stuck_place.Stuck) (status : ℕ) → status ≢ 8 → status ≢ 10 → Comes (run_end.Stuck stuck) → FollowsBytes file steps status calm quiet → ⊥
  stuck_is_8 stuck status other known comes = other_status file image stands few steps (run_end.Stuck stuck) comes status other known

-- ---- the command

step_is : (image : List ℕ) (steps : ℕ) → IsStep (Some (step image steps))
step_is image steps = tt

none_is_no_step : IsStep None → ⊥
none_is_no_step h = h

compile_is_no_step : (source target : List ℕ) (heap depth : ℕ) → IsStep (Some (compile source target None heap depth)) → ⊥
compile_is_no_step source target heap depth h = h

run_is_no_step : (source : List ℕ) (heap depth steps : ℕ) → IsStep (Some (run source heap depth steps)) → ⊥
run_is_no_step source heap depth steps h = h

list_is_no_step : (source : List ℕ) (heap depth : ℕ) → IsStep (Some (list source heap depth)) → ⊥
list_is_no_step source heap depth h = h

count_is_no_step : (source : List ℕ) (heap depth steps : ℕ) → IsStep (Some (count source heap depth steps)) → ⊥
count_is_no_step source heap depth steps h = h

gen_is_no_step : (number steps : ℕ) → IsStep (Some (gen number steps)) → ⊥
gen_is_no_step number steps h = h

-- ---- the failures that a text can have

long_text : IsOfText failure.TooLong
long_text = tt

refused_text : (error : CompileError) → IsOfText (failure.Compile error)
refused_text error = tt

text_out_of_memory : IsOfText failure.Memory
text_out_of_memory = tt

unread_text : IsOfText failure.ReadFailed → ⊥
unread_text h = h

unwritten_text : IsOfText failure.WriteFailed → ⊥
unwritten_text h = h

unlisted_text : IsOfText failure.ListingFailed → ⊥
unlisted_text h = h

image_of_text : (error : ImageError) → IsOfText (failure.Image error) → ⊥
image_of_text error h = h

spent_text : IsOfText failure.StepsSpent → ⊥
spent_text h = h

unprinted_text : IsOfText failure.OutputFailed → ⊥
unprinted_text h = h
