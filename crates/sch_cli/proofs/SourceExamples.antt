-- Worked rows: which statuses follow from what is said of a source, and when a run has ended in time.
use Rattle.std.proofs.Common.{◌≡◌, inl, inr, ℕ, List, [], ◌∷◌, Some, None, Ok, Err, ap, get_or, refl, sym, ◌∙◌, arith, lit<}
use Rattle.std.specs.FinMap.{empty, get, get-insert, insert}
use Rattle.std.specs.Cmp.Lexicographic.{nat_list_cmp_total}
use Rattle.sch_word.specs.declared.answer.Answer.{Answer}
use Rattle.sch_word.specs.runs.Runs.{Run, ended, going}
use Rattle.sch_driver.specs.Assembled.{steps_of}
use Rattle.sch_cli.specs.Seen.{DiskChange, DiskState}
use Rattle.sch_io.specs.Files.{Files}
use Rattle.sch_cli.specs.Sources.{CompletesCompile, Follows, TextIs}
use Rattle.sch_cli.specs.Steps.{EndsInTime}
use Rattle.sch_cli.specs.declared.failure.Failure.TheVariants.{TooLong}
use Rattle.sch_cli.specs.declared.status.Status.TheVariants.{Done, StepsSpent, Usage}

-- ---- statuses

abbrev disk_at : ℕ → DiskState
disk_at faults = record { files = None; faults = faults; calls = 0 }

-- a disk that did not fail, and one that did
abbrev pub calm : DiskChange
calm = record { before = disk_at 0; after = disk_at 0 }

abbrev pub failed : DiskChange
failed = record { before = disk_at 0; after = disk_at 1 }

long_7 : Follows (Err TooLong) 7 calm
long_7 = inl refl

long_10 : Follows (Err TooLong) 10 calm
long_10 = inr (inl refl)

long_2 : Follows (Err TooLong) 2 failed
long_2 = inr (inr (refl, omega arith))

-- neither another cause, nor a failure of a disk that did not fail, nor 0
long_4 : Follows (Err TooLong) 4 failed → ⊥
long_4 (inl e) = cc
long_4 (inr (inl e)) = cc
long_4 (inr (inr (e, rose))) = cc

long_calm : Follows (Err TooLong) 2 calm → ⊥
long_calm (inl e) = cc
long_calm (inr (inl e)) = cc
long_calm (inr (inr (e, rose))) = omega (arith, rose)

long_0 : Follows (Err TooLong) 0 failed → ⊥
long_0 (inl e) = cc
long_0 (inr (inl e)) = cc
long_0 (inr (inr (e, rose))) = cc

accepted_0 : Follows (Ok tt) 0 calm
accepted_0 = inl (lit< tt)

accepted_65 : Follows (Ok tt) 65 calm
accepted_65 = inr (lit< tt)

pub accepted_7 : Follows (Ok tt) 7 failed → ⊥
accepted_7 (inl l) = omega (arith, l)
accepted_7 (inr l) = omega (arith, l)

accepted_3 : Follows (Ok tt) 3 calm
accepted_3 = inl (lit< tt)

accepted_8 : Follows (Ok tt) 8 calm
accepted_8 = inr (lit< tt)

accepted_4 : Follows (Ok tt) 4 calm → ⊥
accepted_4 (inl l) = omega (arith, l)
accepted_4 (inr l) = omega (arith, l)

-- ---- what a disk tells

-- the file `a` has one byte
abbrev one_file : Files
one_file = insert empty (97 ∷ []) (41 ∷ [])

abbrev telling : DiskState
telling = record { files = Some one_file; faults = 0; calls = 0 }

abbrev pub told : DiskChange
told = record { before = telling; after = telling }

pub held : get one_file (97 ∷ []) ≡ Some (41 ∷ [])
held = get-insert nat_list_cmp_total empty (97 ∷ []) (41 ∷ []) (97 ∷ [])

-- the text of the source is that byte, and no other
told_text : TextIs told (97 ∷ []) (λ text. text ≡ 41 ∷ [])
told_text text is = same text (sym held ∙ is)
  where
    same : (text : List ℕ) → Some (41 ∷ []) ≡ Some text → text ≡ 41 ∷ []
    same text e = cc

not_told : TextIs told (97 ∷ []) (λ text. text ≡ 40 ∷ []) → ⊥
not_told h = forty (ap (λ text. get_or text 0 0) (h (41 ∷ []) held))
  where
    forty : ◌≡◌ {A = ℕ} 41 40 → ⊥
    forty e = omega (arith, e)

-- a disk that does not tell says nothing
untold : TextIs calm (97 ∷ []) (λ text. ⊥)
untold = tt

-- nothing is promised where the disk failed
failed_disk : (heap depth status : ℕ) → CompletesCompile (97 ∷ []) (98 ∷ []) None heap depth status failed
failed_disk heap depth status firm = absurd (firm (omega arith))

-- ---- in time

-- a run that ends after two entries, and one that goes on
abbrev two_entries : List Answer → ℕ → Run
two_entries answers n = record { output = []; entries = 2; charged = 3; answers = 1; end = ended 0 }

abbrev no_end : List Answer → ℕ → Run
no_end answers n = record { output = []; entries = 2; charged = 3; answers = 1; end = going }

-- three times 768 for each of ten instructions, 10 for the answer and 24 for the bytes
two_steps : steps_of 10 2 1 3 ≡ 23074
two_steps = refl

enough : EndsInTime two_entries 10 23074 [] Done
enough n end is most = ((λ e. cc), ended_is (two_entries [] n) end refl is)
  where
    ended_is : (r : Run) (end : ℕ) → r.end ≡ ended 0 → r.end ≡ ended end → 0 ≡ end
    ended_is r end a b = cc

not_spent : EndsInTime two_entries 10 23074 [] StepsSpent → ⊥
not_spent h = (h 2 0 refl (omega arith)).0 refl

-- nor is the status another than that of the end
not_other : EndsInTime two_entries 10 23074 [] Usage → ⊥
not_other h = one_is_not_zero (h 2 0 refl (omega arith)).1
  where
    one_is_not_zero : ◌≡◌ {A = ℕ} 1 0 → ⊥
    one_is_not_zero e = omega (arith, e)

-- one step fewer, or no end, and they may be spent
too_few : EndsInTime two_entries 10 23073 [] StepsSpent
too_few n end is most = absurd (omega (arith, most))

endless : EndsInTime no_end 10 23074 [] StepsSpent
endless n end is most = absurd cc
