-- What `compile` promises of the source and of the files that it writes.
use Rattle.std.specs.Prelude.{◌≡◌, ℕ, List, [], ◌∷◌, Option, Some, None, Result, Ok, Err, ⊤, IsSomeAnd}
use Rattle.std.specs.FinMap.{get}
use Rattle.sch_io.specs.Files.{Files, Spoils, written}
use Rattle.sch_listing.specs.ListingText.{listing_text}
use Rattle.sch_cli.specs.Builds.{IsFileOf}
use Rattle.sch_cli.specs.Failures.{done_status, failure_line}
use Rattle.sch_cli.specs.Messages.{Says}
use Rattle.sch_cli.specs.Refusals.{IsOfText, IsRefused}
use Rattle.sch_cli.specs.Seen.{DiskChange, StreamChange, FilesChange, SameFiles, FileIs, HadAtMostCalls, HadCalls, DiskFailed}
use Rattle.sch_cli.specs.Statuses.{status_number}
use Rattle.sch_cli.specs.declared.failure.Failure.{Failure}
use Rattle.sch_cli.specs.declared.failure.Failure.TheVariants.{ReadFailed, WriteFailed, ListingFailed, Memory}

-- ---- what is written

-- The files that are written, each with its bytes: the executable, and then the text of its listing, where a name is given
-- for it.
abbrev pub outputs : (target : List ℕ) → (listing : Option (List ℕ)) → (file text : List ℕ) → List (List ℕ × List ℕ)
outputs target None file text = (target, file) ∷ []
outputs target (Some name) file text = (target, file) ∷ (name, text) ∷ []

-- From these files to those one program for the text was written, under these limits, with its own listing.
pub record WroteProgram (text target : List ℕ) (listing : Option (List ℕ)) (heap depth : ℕ) (before after : Files) : Type 0 where
  pub file : List ℕ
  pub made : IsFileOf text heap depth file
  pub writes : after ≡ written before (outputs target listing file (listing_text made.listing))

-- the program of the source that was there before
abbrev pub WroteProgramOf : (source target : List ℕ) → (listing : Option (List ℕ)) → (heap depth : ℕ) → Files → Files → Type 0
WroteProgramOf source target listing heap depth before after =
    IsSomeAnd (get before source) (λ text. WroteProgram text target listing heap depth before after)

-- The program was written, and a failed write leaves any bytes in the file of this name.
abbrev pub WroteProgramUnlisted : (source target name : List ℕ) → (heap depth : ℕ) → Files → Files → Type 0
WroteProgramUnlisted source target name heap depth before after =
    (middle : Files) × WroteProgramOf source target None heap depth before middle × Spoils name middle after

-- a text of which there is a program, under these limits
abbrev pub HasProgram : (heap depth : ℕ) → (text : List ℕ) → Type 0
HasProgram heap depth text = (file : List ℕ) × IsFileOf text heap depth file

-- how many calls of the disk are made where everything is written
abbrev pub calls_with : (listing : Option (List ℕ)) → ℕ
calls_with None = 2
calls_with (Some name) = 3

-- What `compile` did with the disk, under these limits, by what it answers.
pub data Compiles (source target : List ℕ) (listing : Option (List ℕ)) (heap depth : ℕ) (disk : DiskChange) : Result ⊤ Failure → Type 0 where
  written_all : FilesChange disk (WroteProgramOf source target listing heap depth) → HadCalls (calls_with listing) disk →
      Compiles source target listing heap depth disk (Ok tt)
  not_read : DiskFailed disk → SameFiles disk → HadCalls 1 disk → Compiles source target listing heap depth disk (Err ReadFailed)
  -- the source is one that compiles; a failed write leaves any bytes in the target
  not_written : DiskFailed disk → FileIs disk source (HasProgram heap depth) → FilesChange disk (Spoils target) → HadCalls 2 disk →
      Compiles source target listing heap depth disk (Err WriteFailed)
  -- the target holds the program
  not_listed : (name : List ℕ) → listing ≡ Some name → DiskFailed disk → FilesChange disk (WroteProgramUnlisted source target name heap depth) →
      HadCalls 3 disk → Compiles source target listing heap depth disk (Err ListingFailed)
  refused : (failure : Failure) → IsOfText failure → FileIs disk source (λ text. IsRefused text depth failure) → SameFiles disk → HadCalls 1 disk →
      Compiles source target listing heap depth disk (Err failure)
  -- the words were not read, or the source was not, or nothing was made of it
  no_memory : SameFiles disk → HadAtMostCalls 1 disk → Compiles source target listing heap depth disk (Err Memory)

-- ---- how it ends

-- a failed write concerns the file that was written, any other failure the source
abbrev pub concerned : (source target : List ℕ) → (listing : Option (List ℕ)) → Failure → List ℕ
concerned source target listing WriteFailed = target
concerned source target (Some name) ListingFailed = name
concerned source target listing _ = source

abbrev pub compile_line : (source target : List ℕ) → (listing : Option (List ℕ)) → Result ⊤ Failure → List ℕ
compile_line source target listing (Ok done) = []
compile_line source target listing (Err failure) = failure_line (concerned source target listing failure) failure

-- How `compile` ends: with the status, the line and the disk of one answer.
pub record EndsCompile (source target : List ℕ) (listing : Option (List ℕ)) (heap depth status : ℕ) (disk : DiskChange) (err : StreamChange) : Type 0 where
  pub answer : Result ⊤ Failure
  pub status_is : status ≡ status_number (done_status answer)
  pub says : Says (compile_line source target listing answer) err
  pub compiles : Compiles source target listing heap depth disk answer
