-- The status of a verb on a source follows from what is said of the source itself, and a small source is compiled and run.
use Rattle.std.proofs.Common.{◌≡◌, ◌≢◌, ◌<◌, ◌⊎◌, inl, inr, ℕ, Bool, true, false, List, Option, Some, None, Result, Ok, Err, refl, sym, ap, subst, lit<}
use Rattle.std.specs.Prelude.{⊤, IsSomeAnd, ◌==◌, if◌then◌else◌}
use Rattle.std.specs.FinMap.{get}
use Rattle.sch_word.specs.declared.stop.Stop.{Stop}
use Rattle.sch_word.specs.declared.stop.Stop.TheVariants.{WrongType, OutOfRange, NotProcedure, WrongCount, DivideByZero, Overflow, HeapLimit, DepthLimit, Unset, OutputFailed}
use Rattle.sch_word.specs.runs.Stops.{status_of, stop_of}
use Rattle.sch_io.specs.Files.{Files}
use Rattle.sch_io.specs.Told.{Tells}
use Rattle.sch_lang.specs.Tree as tree
use Rattle.sch_prelude.specs.LibraryText.{library_text}
use Rattle.sch_step.specs.declared.ends.RunEnd.{RunEnd}
use Rattle.sch_step.specs.declared.ends.RunEnd.TheVariants as run_end
use Rattle.sch_driver.specs.Bounds.{IsSmall}
use Rattle.sch_driver.proofs.SmallTexts.{only_memory}
use Rattle.sch_generator.specs.GeneratedText.{generated_text}
use Rattle.sch_listing.specs.ListingText.{listing_text}
use Rattle.sch_commands.specs.Command.{default_depth, default_heap}
use Rattle.sch_cli.specs.Builds.{IsFileOf}
use Rattle.sch_cli.specs.Compiles as compiles
use Rattle.sch_cli.specs.Compiles.{Compiles, EndsCompile, HasProgram, WroteProgramOf, WroteProgramUnlisted}
use Rattle.sch_cli.specs.Counts as counts
use Rattle.sch_cli.specs.Counts.{CountsSource, EndsCount}
use Rattle.sch_cli.specs.Failures.{done_status, failure_status, refusal_status}
use Rattle.sch_cli.specs.Laws.{IsVerdict}
use Rattle.sch_cli.specs.Laws as laws
use Rattle.sch_cli.specs.Figures.{figures_text}
use Rattle.sch_cli.specs.Lists as lists
use Rattle.sch_cli.specs.Lists.{EndsList, ListsSource}
use Rattle.sch_cli.specs.LoneRuns.{HasNoExit}
use Rattle.sch_cli.specs.Prints.{EndsGen, Generates, Prints, whole, in_part, measured, not_measured}
use Rattle.sch_cli.specs.Refusals.{IsAccepted, IsRefused}
use Rattle.sch_cli.specs.Seen.{DiskChange, StreamChange, DiskFailed, FilesChange, SameFiles}
use Rattle.sch_cli.specs.Sources.{CompletesCompile, CompletesRun, Follows, FollowsNumber, FollowsSource, TextIs}
use Rattle.sch_cli.specs.Statuses.{end_status, status_number, stop_status}
use Rattle.sch_cli.specs.Steps as runs
use Rattle.sch_cli.specs.Steps.{EndsRun, RunsSource, RunsText, run_status}
use Rattle.sch_cli.specs.declared.failure.Failure.{Failure}
use Rattle.sch_cli.specs.declared.failure.Failure.TheVariants as failure
use Rattle.sch_cli.specs.declared.status.Status.{Status}
use Rattle.sch_cli.specs.declared.status.Status.TheVariants.{Done, Usage, ReadFailed, WriteFailed, BadText, BadForm, Unbound, PastLimit, BadImage, StepsSpent, OutOfMemory, Stopped}
use Rattle.sch_cli.proofs.OneStatus.{both_lengths, compiled, same}

-- ---- what is told

-- what follows from how the files changed and from the text of the source
module _ (disk : DiskChange) (source : List ℕ) where
  told : (P : Files → Files → Type 0) (IsSo : List ℕ → Type 0) → FilesChange disk P
      → ((before after : Files) → P before after → (text : List ℕ) → get before source ≡ Some text → IsSo text) → TextIs disk source IsSo
  told P IsSo change f = by disk.before.files disk.after.files change
    where
      by : (before after : Option Files) → Tells before after P → Tells before after (λ b _. (text : List ℕ) → get b source ≡ Some text → IsSo text)
      by before None t = tt
      by None (Some a) t = absurd t
      by (Some b) (Some a) t = f b a t

  -- from what its file is
  pub told_is : (Is IsSo : List ℕ → Type 0) → FilesChange disk (λ before _. IsSomeAnd (get before source) Is) → ((text : List ℕ) → Is text → IsSo text) → TextIs disk source IsSo
  told_is Is IsSo change f =
      told (λ before _. IsSomeAnd (get before source) Is) IsSo change
      (λ before after is text e. f text (subst (λ found. IsSomeAnd found Is) e is))

  -- from nothing but that it is told
  pub told_any : (IsSo : List ℕ → Type 0) → SameFiles disk → ((text : List ℕ) → IsSo text) → TextIs disk source IsSo
  told_any IsSo unchanged f = told (λ before after. after ≡ before) IsSo unchanged (λ before after is text e. f text)

-- ---- verdicts

memory_or_not : (s : Status) → (s ≡ OutOfMemory) ⊎ (s ≢ OutOfMemory)
memory_or_not Done = inr (λ e. cc)
memory_or_not Usage = inr (λ e. cc)
memory_or_not ReadFailed = inr (λ e. cc)
memory_or_not WriteFailed = inr (λ e. cc)
memory_or_not BadText = inr (λ e. cc)
memory_or_not BadForm = inr (λ e. cc)
memory_or_not Unbound = inr (λ e. cc)
memory_or_not PastLimit = inr (λ e. cc)
memory_or_not BadImage = inr (λ e. cc)
memory_or_not StepsSpent = inr (λ e. cc)
memory_or_not OutOfMemory = inl refl
memory_or_not (Stopped why) = inr (λ e. cc)

-- 2 of a disk that failed, and 10, whatever the verdict
unread_follows : (verdict : Result ⊤ Failure) (disk : DiskChange) → DiskFailed disk → Follows verdict 2 disk
unread_follows (Ok done) disk failed = inl (lit< tt)
unread_follows (Err why) disk failed = inr (inr (refl, failed))

memory_follows : (verdict : Result ⊤ Failure) (disk : DiskChange) → Follows verdict 10 disk
memory_follows (Ok done) disk = inr (lit< tt)
memory_follows (Err why) disk = inr (inl refl)

module _ (text : List ℕ) (depth : ℕ) (disk : DiskChange) (verdict : Result ⊤ Failure) (is : IsVerdict text depth verdict) where
  refused_follows : (why : Failure) → IsRefused text depth why → Follows verdict (status_number (failure_status why)) disk
  refused_follows why h = by (memory_or_not (failure_status why))
    where
      by : (failure_status why ≡ OutOfMemory) ⊎ (failure_status why ≢ OutOfMemory) → Follows verdict (status_number (failure_status why)) disk
      by (inl e) = subst (λ s. Follows verdict (status_number s) disk) (sym e) (memory_follows verdict disk)
      by (inr n) =
          subst (λ v. Follows v (status_number (failure_status why)) disk) (same text depth (Err why) verdict (laws.refused why h n) is) (inl refl)

  -- of a text of which there is a file
  accepted_follows : (heap : ℕ) (file : List ℕ) → IsFileOf text heap depth file → (status : ℕ) → (status < 4) ⊎ (7 < status) → Follows verdict status disk
  accepted_follows heap file made status other =
      subst (λ v. Follows v status disk) (same text depth (Ok tt) verdict (compiled text depth heap file made.listing made.short made.compiled) is) other

-- ---- how an image ends

stop_high : (why : Stop) → 7 < status_of why
stop_high WrongType = lit< tt
stop_high OutOfRange = lit< tt
stop_high NotProcedure = lit< tt
stop_high WrongCount = lit< tt
stop_high DivideByZero = lit< tt
stop_high Overflow = lit< tt
stop_high HeapLimit = lit< tt
stop_high DepthLimit = lit< tt
stop_high Unset = lit< tt
stop_high OutputFailed = lit< tt

abbrev IsOther : ℕ → Type 0
IsOther status = (status < 4) ⊎ (7 < status)

chosen_other : (zero : Bool) (stop : Option Stop) → IsOther (status_number (if zero then Done else stop_status stop))
chosen_other true stop = inl (lit< tt)
chosen_other false None = inr (lit< tt)
chosen_other false (Some why) = inr (stop_high why)

end_other : (end : RunEnd) → IsOther (status_number (end_status end))
end_other run_end.Spent = inr (lit< tt)
end_other (run_end.Exited status) = chosen_other (status == 0) (stop_of status)
end_other (run_end.Stuck stuck) = inr (lit< tt)

printed_other : (text : List ℕ) (out : StreamChange) (answer : Result ⊤ Failure) → Prints text out answer → IsOther (status_number (done_status answer))
printed_other text out _ (whole all) = inl (lit< tt)
printed_other text out _ (in_part failed front) = inl (lit< tt)

-- ---- the verbs

module _ (source : List ℕ) (heap depth : ℕ) (disk : DiskChange) where
  abbrev Of : ℕ → List ℕ → Type 0
  Of status text = (verdict : Result ⊤ Failure) → IsVerdict text depth verdict → Follows verdict status disk

  no_read : DiskFailed disk → SameFiles disk → FollowsSource source depth 2 disk
  no_read failed unchanged = told_any disk source (Of 2) unchanged (λ text verdict is. unread_follows verdict disk failed)

  none_left : SameFiles disk → FollowsSource source depth 10 disk
  none_left unchanged = told_any disk source (Of 10) unchanged (λ text verdict is. memory_follows verdict disk)

  at_fault : (why : Failure) → FilesChange disk (λ before _. IsSomeAnd (get before source) (λ text. IsRefused text depth why))
      → FollowsSource source depth (status_number (failure_status why)) disk
  at_fault why refused =
      told_is disk source (λ text. IsRefused text depth why) (Of (status_number (failure_status why))) refused
      (λ text h verdict is. refused_follows text depth disk verdict is why h)

  -- of a source of which there is a file
  filed : (status : ℕ) → IsOther status → FilesChange disk (λ before _. IsSomeAnd (get before source) (HasProgram heap depth)) → FollowsSource source depth status disk
  filed status other has =
      told_is disk source (HasProgram heap depth) (Of status) has
      (λ text h verdict is. accepted_follows text depth disk verdict is heap h.0 h.1 status other)

  -- of which a text is known that has one
  filed_text : (status : ℕ) → IsOther status → (text file : List ℕ) → IsFileOf text heap depth file
      → FilesChange disk (λ before _. IsSomeAnd (get before source) (λ found. found ≡ text)) → FollowsSource source depth status disk
  filed_text status other text file made found =
      told_is disk source (λ found. found ≡ text) (Of status) found
      (λ found e verdict is. accepted_follows found depth disk verdict is heap file (subst (λ t. IsFileOf t heap depth file) (sym e) made) status other)

  -- ---- `compile`

  module _ (target : List ℕ) (listing : Option (List ℕ)) where
    written_from : (wanted : Option (List ℕ)) (before after : Files) → WroteProgramOf source target wanted heap depth before after → (text : List ℕ) → get before source ≡ Some text
        → HasProgram heap depth text
    written_from wanted before after wrote text e =
        let has = subst (λ found. IsSomeAnd found (λ text. compiles.WroteProgram text target wanted heap depth before after)) e wrote in
        (has.file, has.made)

    compiled_from : (status : ℕ) → IsOther status → (P : Files → Files → Type 0) → FilesChange disk P
        → ((before after : Files) → P before after → (text : List ℕ) → get before source ≡ Some text → HasProgram heap depth text) → FollowsSource source depth status disk
    compiled_from status other P change f =
        told disk source P (Of status) change
        (λ before after p text e verdict is. let has = f before after p text e in accepted_follows text depth disk verdict is heap has.0 has.1 status other)

    compile_follows : (answer : Result ⊤ Failure) → Compiles source target listing heap depth disk answer → FollowsSource source depth (status_number (done_status answer)) disk
    compile_follows _ (compiles.written_all wrote calls) = compiled_from 0 (inl (lit< tt)) (WroteProgramOf source target listing heap depth) wrote (written_from listing)
    compile_follows _ (compiles.not_read failed unchanged calls) = no_read failed unchanged
    compile_follows _ (compiles.not_written failed has spoils calls) = filed 3 (inl (lit< tt)) has
    compile_follows _ (compiles.not_listed name is failed wrote calls) =
        compiled_from 3 (inl (lit< tt)) (WroteProgramUnlisted source target name heap depth) wrote (λ before after w. written_from None before w.0 w.1)
    compile_follows _ (compiles.refused why of h unchanged calls) = at_fault why h
    compile_follows _ (compiles.no_memory unchanged calls) = none_left unchanged

    pub compile_source : (status : ℕ) (err : StreamChange) → EndsCompile source target listing heap depth status disk err → FollowsSource source depth status disk
    compile_source status err ends = subst (λ s. FollowsSource source depth s disk) (sym ends.status_is) (compile_follows ends.answer ends.compiles)

  -- ---- `run`, `list` and `count`

  run_follows : (steps : ℕ) (out : StreamChange) (answer : Result RunEnd Failure) → SameFiles disk → RunsSource source heap depth steps disk out answer
      → FollowsSource source depth (status_number (run_status answer)) disk
  run_follows steps out _ unchanged (runs.not_read failed nothing) = no_read failed unchanged
  run_follows steps out _ unchanged (runs.no_memory nothing) = none_left unchanged
  run_follows steps out _ unchanged (runs.refused why of h nothing) = at_fault why h
  run_follows steps out _ unchanged (runs.ran text end found ran) = filed_text (status_number (end_status end)) (end_other end) text ran.file ran.made found

  pub run_source : (steps status : ℕ) (err out : StreamChange) → EndsRun source status disk err (RunsSource source heap depth steps disk out) → FollowsSource source depth status disk
  run_source steps status err out ends = subst (λ s. FollowsSource source depth s disk) (sym ends.status_is) (run_follows steps out ends.answer ends.unchanged ends.did)

  list_follows : (out : StreamChange) (answer : Result ⊤ Failure) → SameFiles disk → ListsSource source heap depth disk out answer
      → FollowsSource source depth (status_number (done_status answer)) disk
  list_follows out _ unchanged (lists.not_read failed nothing) = no_read failed unchanged
  list_follows out _ unchanged (lists.no_memory nothing) = none_left unchanged
  list_follows out _ unchanged (lists.refused why of h nothing) = at_fault why h
  list_follows out _ unchanged (lists.listed answer text file found made prints) =
      filed_text (status_number (done_status answer)) (printed_other (listing_text made.listing) out answer prints) text file made found

  pub list_source : (status : ℕ) (err out : StreamChange) → EndsList source heap depth status disk err out → FollowsSource source depth status disk
  list_source status err out ends = subst (λ s. FollowsSource source depth s disk) (sym ends.status_is) (list_follows out ends.answer ends.unchanged ends.lists)

  count_follows : (steps : ℕ) (out : StreamChange) (answer : Result ⊤ Failure) → SameFiles disk → CountsSource source heap depth steps disk out answer
      → FollowsSource source depth (status_number (done_status answer)) disk
  count_follows steps out _ unchanged (counts.not_read failed nothing) = no_read failed unchanged
  count_follows steps out _ unchanged (counts.no_memory nothing) = none_left unchanged
  count_follows steps out _ unchanged (counts.refused why of h nothing) = at_fault why h
  count_follows steps out _ unchanged (counts.spent text found spends nothing) = filed_text 9 (inr (lit< tt)) text spends.runs.file spends.runs.made found
  count_follows steps out _ unchanged (counts.counted answer text printed found counted prints) =
      filed_text (status_number (done_status answer)) (printed_other printed out answer prints) text counted.exits.runs.file counted.exits.runs.made found

  pub count_source : (steps status : ℕ) (err out : StreamChange) → EndsCount source heap depth steps status disk err out → FollowsSource source depth status disk
  count_source steps status err out ends = subst (λ s. FollowsSource source depth s disk) (sym ends.status_is) (count_follows steps out ends.answer ends.unchanged ends.counts)

-- ---- `gen`

no_exit_follows : (text : List ℕ) (heap depth steps : ℕ) (disk : DiskChange) (verdict : Result ⊤ Failure) → IsVerdict text depth verdict → (why : Failure) → HasNoExit text heap depth steps why
    → Follows verdict (status_number (failure_status why)) disk
no_exit_follows text heap depth steps disk verdict is failure.StepsSpent h = accepted_follows text depth disk verdict is heap h.runs.file h.runs.made 9 (inr (lit< tt))
no_exit_follows text heap depth steps disk verdict is why h = refused_follows text depth disk verdict is why h

gen_follows : (number steps : ℕ) (disk : DiskChange) (out : StreamChange) (answer : Result ⊤ Failure) → Generates number steps out answer
    → FollowsNumber number (status_number (done_status answer)) disk
gen_follows number steps disk out _ (measured answer figures are prints) verdict is =
    accepted_follows (generated_text number) default_depth disk verdict is default_heap are.exits.runs.file are.exits.runs.made (status_number (done_status answer)) (printed_other (figures_text figures) out answer prints)
gen_follows number steps disk out _ (not_measured why none nothing) verdict is = no_exit_follows (generated_text number) default_heap default_depth steps disk verdict is why none

pub gen_number : (number steps status : ℕ) (disk : DiskChange) (err out : StreamChange) → EndsGen number steps status err out → FollowsNumber number status disk
gen_number number steps status disk err out ends =
    subst (λ s. FollowsNumber number s disk) (sym ends.status_is) (gen_follows number steps disk out ends.answer ends.generates)

-- ---- a small source

-- is refused for a lack of memory alone
small_refused : (text : List ℕ) (depth : ℕ) (p : tree.Source) → IsAccepted text p → IsSmall p depth → (why : Failure) → IsRefused text depth why
    → status_number (failure_status why) ≡ 10
small_refused text depth p is small failure.TooLong h = absurd (both_lengths text h is.short)
small_refused text depth p is small (failure.Compile error) h = ap (λ e. status_number (refusal_status e)) (only_memory library_text text depth p is.means small error h.1)
small_refused text depth p is small failure.Memory h = refl
small_refused text depth p is small failure.ReadFailed h = absurd h
small_refused text depth p is small failure.WriteFailed h = absurd h
small_refused text depth p is small failure.ListingFailed h = absurd h
small_refused text depth p is small (failure.Image error) h = absurd h
small_refused text depth p is small failure.StepsSpent h = absurd h
small_refused text depth p is small failure.OutputFailed h = absurd h

module _ (source : List ℕ) (heap depth : ℕ) (disk : DiskChange) where
  module _ (target : List ℕ) (listing : Option (List ℕ)) where
    abbrev Written : ℕ → List ℕ → Type 0
    Written status text = (p : tree.Source) → IsAccepted text p → IsSmall p depth
        → ((status ≡ 0) × FilesChange disk (WroteProgramOf source target listing heap depth)) ⊎ ((status ≡ 10) × SameFiles disk)

    compile_ends : (answer : Result ⊤ Failure) → Compiles source target listing heap depth disk answer
        → CompletesCompile source target listing heap depth (status_number (done_status answer)) disk
    compile_ends _ (compiles.written_all wrote calls) firm =
        told disk source (WroteProgramOf source target listing heap depth) (Written 0) wrote (λ before after w text e p is small. inl (refl, wrote))
    compile_ends _ (compiles.not_read failed unchanged calls) firm = absurd (firm failed)
    compile_ends _ (compiles.not_written failed has spoils calls) firm = absurd (firm failed)
    compile_ends _ (compiles.not_listed name is failed wrote calls) firm = absurd (firm failed)
    compile_ends _ (compiles.refused why of h unchanged calls) firm =
        told_is disk source (λ text. IsRefused text depth why) (Written (status_number (failure_status why))) h
        (λ text refused p is small. inr (small_refused text depth p is small why refused, unchanged))
    compile_ends _ (compiles.no_memory unchanged calls) firm = told_any disk source (Written 10) unchanged (λ text p is small. inr (refl, unchanged))

    pub compile_completes : (status : ℕ) (err : StreamChange) → EndsCompile source target listing heap depth status disk err → CompletesCompile source target listing heap depth status disk
    compile_completes status err ends = subst (λ s. CompletesCompile source target listing heap depth s disk) (sym ends.status_is) (compile_ends ends.answer ends.compiles)

  module _ (steps : ℕ) (out : StreamChange) where
    abbrev Run : ℕ → List ℕ → Type 0
    Run status text = (p : tree.Source) → IsAccepted text p → IsSmall p depth
        → ((end : RunEnd) × (status ≡ status_number (end_status end)) × RunsText text heap depth steps end out) ⊎ (status ≡ 10)

    run_ends : (answer : Result RunEnd Failure) → SameFiles disk → RunsSource source heap depth steps disk out answer
        → CompletesRun source heap depth steps (status_number (run_status answer)) disk out
    run_ends _ unchanged (runs.not_read failed nothing) firm = absurd (firm failed)
    run_ends _ unchanged (runs.no_memory nothing) firm = told_any disk source (Run 10) unchanged (λ text p is small. inr refl)
    run_ends _ unchanged (runs.refused why of h nothing) firm =
        told_is disk source (λ text. IsRefused text depth why) (Run (status_number (failure_status why))) h
        (λ text refused p is small. inr (small_refused text depth p is small why refused))
    run_ends _ unchanged (runs.ran text end found ran) firm =
        told_is disk source (λ found. found ≡ text) (Run (status_number (end_status end))) found
        (λ found e p is small. inl (end, refl, subst (λ t. RunsText t heap depth steps end out) (sym e) ran))

    pub run_completes : (status : ℕ) (err : StreamChange) → EndsRun source status disk err (RunsSource source heap depth steps disk out) → CompletesRun source heap depth steps status disk out
    run_completes status err ends = subst (λ s. CompletesRun source heap depth steps s disk out) (sym ends.status_is) (run_ends ends.answer ends.unchanged ends.did)
