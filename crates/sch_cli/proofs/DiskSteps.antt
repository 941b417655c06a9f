-- What a read of the source and the writes of the target and of its listing make of the disk, one after the other.
use Rattle.std.proofs.Common.{◌≡◌, ℕ, ◌≤◌, List, [], ◌∷◌, Option, Some, None, Result, Ok, Err, OnOk, OnErr, IfErr, refl, sym, subst, arith}
use Rattle.std.specs.Prelude.{⊤, IsSomeAnd}
use Rattle.std.specs.FinMap.{get, insert}
use Rattle.sch_io.proofs.PutSteps.{tells_then}
use Rattle.sch_io.specs.Counters.{Rose, raised}
use Rattle.sch_io.specs.Files.{Files, Replaces, Spoils, written}
use Rattle.sch_io.specs.Told.{Tells}
use Rattle.sch_driver.specs.Causes.{max_source_size}
use Rattle.sch_listing.specs.ListingText.{listing_text}
use Rattle.sch_cli.specs.Builds.{IsFileOf}
use Rattle.sch_cli.specs.Compiles.{Compiles, HasProgram, WroteProgram, WroteProgramOf, WroteProgramUnlisted, outputs, written_all, not_read, not_written, not_listed, refused, no_memory}
use Rattle.sch_cli.specs.Counts as counts
use Rattle.sch_cli.specs.Counts.{CountsSource}
use Rattle.sch_cli.specs.Files.{IsUnread, HasRead, WritesBoth, both_written, no_listing, no_target}
use Rattle.sch_cli.specs.Lists as lists
use Rattle.sch_cli.specs.Lists.{ListsSource}
use Rattle.sch_cli.specs.LoneRuns.{HasNoExit}
use Rattle.sch_cli.specs.Refusals.{IsRefused}
use Rattle.sch_cli.specs.Seen.{DiskChange, DiskState, StreamChange, TookNothing, SameFiles, FilesChange, FileIs, HadAtMostCalls, HadCalls, DiskFailed}
use Rattle.sch_cli.specs.Steps as runs
use Rattle.sch_cli.specs.Steps.{RunsSource, StepsImage, max_image_file_size}
use Rattle.sch_cli.specs.declared.failure.Failure.{Failure}
use Rattle.sch_cli.specs.declared.failure.Failure.TheVariants as failure
use Rattle.sch_cli.proofs.TextFailures.{refused_of_text}

some_is : (found : Option (List ℕ)) (bytes : List ℕ) (P : List ℕ → Type 0) → IsSomeAnd found (λ file. file ≡ bytes) → P bytes → IsSomeAnd found P
some_is None bytes P h p = h
some_is (Some file) bytes P h p = subst P (sym h) p

tells_so : (before after : Option Files) (name bytes : List ℕ) (P : List ℕ → Type 0) → Tells before after (λ all _. IsSomeAnd (get all name) (λ file. file ≡ bytes)) → P bytes →
    Tells before after (λ all _. IsSomeAnd (get all name) P)
tells_so before None name bytes P h p = tt
tells_so None (Some a) name bytes P h p = h
tells_so (Some b) (Some a) name bytes P h p = some_is (get b name) bytes P h p

-- the file that was read is so
pub file_is : (disk : DiskChange) (name bytes : List ℕ) (P : List ℕ → Type 0) → FileIs disk name (λ file. file ≡ bytes) → P bytes → FileIs disk name P
file_is disk name bytes P h p = tells_so disk.before.files disk.after.files name bytes P h p

-- one call is at most one
pub at_most_one : (disk : DiskChange) → HadCalls 1 disk → HadAtMostCalls 1 disk
at_most_one disk calls few = let one = calls few in (omega (arith, one), omega (arith, one))

-- ---- a source that was not read

pub unread_compiles : (source target : List ℕ) (listing : Option (List ℕ)) (heap depth : ℕ) (disk : DiskChange) (why : Failure) → IsUnread source max_source_size why disk → SameFiles disk
    → HadCalls 1 disk → Compiles source target listing heap depth disk (Err why)
unread_compiles source target listing heap depth disk failure.ReadFailed h same calls = not_read h same calls
unread_compiles source target listing heap depth disk failure.TooLong h same calls = refused failure.TooLong tt h same calls
unread_compiles source target listing heap depth disk failure.Memory h same calls = no_memory same (at_most_one disk calls)
unread_compiles source target listing heap depth disk _ h same calls = absurd h

pub took_nothing : {A : Type 0} (told : Option A) → Tells told told (λ before after. after ≡ before)
took_nothing None = tt
took_nothing (Some before) = refl

pub unread_runs : (name : List ℕ) (heap depth steps : ℕ) (disk : DiskChange) (out : StreamChange) (why : Failure) → IsUnread name max_source_size why disk → TookNothing out
    → RunsSource name heap depth steps disk out (Err why)
unread_runs name heap depth steps disk out failure.ReadFailed h nothing = runs.not_read h nothing
unread_runs name heap depth steps disk out failure.TooLong h nothing = runs.refused failure.TooLong tt h nothing
unread_runs name heap depth steps disk out failure.Memory h nothing = runs.no_memory nothing
unread_runs name heap depth steps disk out _ h nothing = absurd h

pub unread_steps : (name : List ℕ) (steps : ℕ) (disk : DiskChange) (out : StreamChange) (why : Failure) → IsUnread name max_image_file_size why disk → TookNothing out
    → StepsImage name steps disk out (Err why)
unread_steps name steps disk out failure.ReadFailed h nothing = runs.not_read h nothing
unread_steps name steps disk out failure.TooLong h nothing = runs.too_long h nothing
unread_steps name steps disk out failure.Memory h nothing = runs.no_memory nothing
unread_steps name steps disk out _ h nothing = absurd h

pub unread_lists : (name : List ℕ) (heap depth : ℕ) (disk : DiskChange) (out : StreamChange) (why : Failure) → IsUnread name max_source_size why disk → TookNothing out
    → ListsSource name heap depth disk out (Err why)
unread_lists name heap depth disk out failure.ReadFailed h nothing = lists.not_read h nothing
unread_lists name heap depth disk out failure.TooLong h nothing = lists.refused failure.TooLong tt h nothing
unread_lists name heap depth disk out failure.Memory h nothing = lists.no_memory nothing
unread_lists name heap depth disk out _ h nothing = absurd h

pub unread_counts : (name : List ℕ) (heap depth steps : ℕ) (disk : DiskChange) (out : StreamChange) (why : Failure) → IsUnread name max_source_size why disk → TookNothing out
    → CountsSource name heap depth steps disk out (Err why)
unread_counts name heap depth steps disk out failure.ReadFailed h nothing = counts.not_read h nothing
unread_counts name heap depth steps disk out failure.TooLong h nothing = counts.refused failure.TooLong tt h nothing
unread_counts name heap depth steps disk out failure.Memory h nothing = counts.no_memory nothing
unread_counts name heap depth steps disk out _ h nothing = absurd h

-- ---- a source that was read, and comes to no exit

pub uncounted : (name : List ℕ) (heap depth steps : ℕ) (disk : DiskChange) (out : StreamChange) (source : List ℕ) (why : Failure) → HasNoExit source heap depth steps why
    → FileIs disk name (λ found. found ≡ source) → TookNothing out → CountsSource name heap depth steps disk out (Err why)
uncounted name heap depth steps disk out source failure.StepsSpent h found nothing = counts.spent source found h nothing
uncounted name heap depth steps disk out source why h found nothing =
    counts.refused why (refused_of_text source depth why h) (file_is disk name source (λ file. IsRefused file depth why) found h) nothing

-- ---- what was written

-- what is told of both calls
both : {A : Type 0} (before middle after : Option A) (P R Q : A → A → Type 0) → Tells before middle (λ b m. m ≡ b) → Tells before middle P → Tells middle after R →
    ((b m a : A) → m ≡ b → P b m → R m a → Q b a) → Tells before after Q
both before middle None P R Q same h r f = tt
both before None (Some a) P R Q same h r f = absurd r
both None (Some m) (Some a) P R Q same h r f = absurd same
both (Some b) (Some m) (Some a) P R Q same h r f = f b m a same h r

-- a source of which there is a program was read, and then something was done with the disk
module _ (source target text file : List ℕ) (heap depth : ℕ) (b m a : DiskState) (read : HasRead source max_source_size text (record { before = b; after = m }))
    (same : SameFiles (record { before = b; after = m })) (faults : b.faults ≤ m.faults) (calls : HadCalls 1 (record { before = b; after = m })) (made : IsFileOf text heap depth file) where
  two_calls : HadCalls 1 (record { before = m; after = a }) → HadCalls 2 (record { before = b; after = a })
  two_calls more few = let one = calls (omega arith) in let two = more (omega arith) in omega arith

  three_calls : HadCalls 2 (record { before = m; after = a }) → HadCalls 3 (record { before = b; after = a })
  three_calls more few = let one = calls (omega arith) in let three = more (omega arith) in omega arith

  failed : DiskFailed (record { before = m; after = a }) → DiskFailed (record { before = b; after = a })
  failed rose = omega (arith, faults, rose)

  -- what follows from the source and from what was done
  from_source : (P Q : Files → Files → Type 0) → FilesChange (record { before = m; after = a }) P
      → ((before after : Files) → IsSomeAnd (get before source) (λ found. found ≡ text) → P before after → Q before after) → FilesChange (record { before = b; after = a }) Q
  from_source P Q p f = both b.files m.files a.files (λ before _. IsSomeAnd (get before source) (λ found. found ≡ text)) P Q same read.found p
      (λ before middle after is found p. f before after found (subst (λ all. P all after) is p))

  program_of : (listing : Option (List ℕ)) (before after : Files) → IsSomeAnd (get before source) (λ found. found ≡ text)
      → after ≡ written before (outputs target listing file (listing_text made.listing)) → WroteProgramOf source target listing heap depth before after
  program_of listing before after found writes =
      some_is (get before source) text (λ found. WroteProgram found target listing heap depth before after) found (record { file = file; made = made; writes = writes })

  unwritten : DiskFailed (record { before = m; after = a }) → FilesChange (record { before = m; after = a }) (Spoils target) → HadCalls 1 (record { before = m; after = a })
      → (listing : Option (List ℕ)) → Compiles source target listing heap depth (record { before = b; after = a }) (Err failure.WriteFailed)
  unwritten rose spoils more listing = not_written (failed rose)
      (from_source (Spoils target) (λ before _. IsSomeAnd (get before source) (HasProgram heap depth)) spoils (λ before after found _. some_is (get before source) text (HasProgram heap depth) found (file, made)))
      (from_source (Spoils target) (Spoils target) spoils (λ before after found spoils. spoils)) (two_calls more)

  -- the target alone was written
  pub written_compiles : (answer : Result ⊤ Failure) → OnOk answer (FilesChange (record { before = m; after = a }) (Replaces target file))
      → OnErr answer (FilesChange (record { before = m; after = a }) (Spoils target)) → OnErr answer (DiskFailed (record { before = m; after = a }))
      → IfErr answer (λ why. why ≡ failure.WriteFailed) → HadCalls 1 (record { before = m; after = a })
      → Compiles source target None heap depth (record { before = b; after = a }) answer
  written_compiles (Ok done) ok err rose only more =
      written_all (from_source (Replaces target file) (WroteProgramOf source target None heap depth) ok (program_of None)) (two_calls more)
  written_compiles (Err why) ok err rose only more =
      subst (λ why. Compiles source target None heap depth (record { before = b; after = a }) (Err why)) (sym only) (unwritten rose err more None)

  -- so was the text of the listing
  pub listed_compiles : (name : List ℕ) (answer : Result ⊤ Failure) → WritesBoth target file name (listing_text made.listing) (record { before = m; after = a }) answer
      → Compiles source target (Some name) heap depth (record { before = b; after = a }) answer
  listed_compiles name _ (both_written writes more) =
      written_all
      (from_source (λ before after. after ≡ written before (outputs target (Some name) file (listing_text made.listing))) (WroteProgramOf source target (Some name) heap depth) writes (program_of (Some name)))
      (three_calls more)
  listed_compiles name _ (no_target rose spoils more) = unwritten rose spoils more (Some name)
  listed_compiles name _ (no_listing rose spoils more) =
      not_listed name refl (failed rose)
      (from_source (λ before after. Spoils name (insert before target file) after) (WroteProgramUnlisted source target name heap depth) spoils
      (λ before after found spoils. (insert before target file, program_of None before (insert before target file) found refl, spoils)))
      (three_calls more)

-- two writes, of which the first fails
pub first_fails : (target file name text : List ℕ) (disk : DiskChange) (why : Failure) → why ≡ failure.WriteFailed → DiskFailed disk → FilesChange disk (Spoils target) → HadCalls 1 disk
    → WritesBoth target file name text disk (Err why)
first_fails target file name text disk why is rose spoils calls = subst (λ why. WritesBoth target file name text disk (Err why)) (sym is) (no_target rose spoils calls)

-- the first was done
module _ (target file name text : List ℕ) (b m a : DiskState) (faults : b.faults ≤ m.faults) (calls : HadCalls 1 (record { before = b; after = m })) where
  second_call : a.calls ≡ raised m.calls → HadCalls 2 (record { before = b; after = a })
  second_call more few = let one = calls (omega arith) in omega (arith, more, one)

  after_first : (P Q : Files → Files → Type 0) → FilesChange (record { before = b; after = m }) (Replaces target file) → FilesChange (record { before = m; after = a }) P
      → ((before after : Files) → P (insert before target file) after → Q before after) → FilesChange (record { before = b; after = a }) Q
  after_first P Q first p f = tells_then b.files m.files a.files (Replaces target file) P Q first p (λ before middle after is p. f before after (subst (λ all. P all after) is p))

  pub both_done : FilesChange (record { before = b; after = m }) (Replaces target file) → FilesChange (record { before = m; after = a }) (Replaces name text) → a.calls ≡ raised m.calls
      → WritesBoth target file name text (record { before = b; after = a }) (Ok tt)
  both_done first second more = both_written (after_first (Replaces name text) (λ before after. after ≡ written before ((target, file) ∷ (name, text) ∷ [])) first second (λ before after is. is)) (second_call more)

  pub second_fails : FilesChange (record { before = b; after = m }) (Replaces target file) → FilesChange (record { before = m; after = a }) (Spoils name) → Rose m.faults a.faults
      → a.calls ≡ raised m.calls → WritesBoth target file name text (record { before = b; after = a }) (Err failure.ListingFailed)
  second_fails first second rose more =
      no_listing (omega (arith, faults, rose)) (after_first (Spoils name) (λ before after. Spoils name (insert before target file) after) first second (λ before after spoils. spoils)) (second_call more)
