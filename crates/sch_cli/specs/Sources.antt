-- What a source alone decides of how a verb on it ends.
use Rattle.std.specs.Prelude.{◌≡◌, ◌<◌, ◌⊎◌, ℕ, List, Option, Some, Result, Ok, Err, ⊤}
use Rattle.std.specs.FinMap.{get}
use Rattle.sch_lang.specs.Tree as tree
use Rattle.sch_step.specs.declared.ends.RunEnd.{RunEnd}
use Rattle.sch_driver.specs.Bounds.{IsSmall}
use Rattle.sch_generator.specs.GeneratedText.{generated_text}
use Rattle.sch_commands.specs.Command.{default_depth}
use Rattle.sch_cli.specs.Compiles.{WroteProgramOf}
use Rattle.sch_cli.specs.Failures.{failure_status}
use Rattle.sch_cli.specs.Laws.{IsVerdict}
use Rattle.sch_cli.specs.Refusals.{IsAccepted}
use Rattle.sch_cli.specs.Seen.{DiskChange, StreamChange, DiskFailed, FilesChange, SameFiles}
use Rattle.sch_cli.specs.Statuses.{end_status, status_number}
use Rattle.sch_cli.specs.Steps.{RunsText}
use Rattle.sch_cli.specs.declared.failure.Failure.{Failure}

-- The text of the source is so, where the disk tells it.
abbrev pub TextIs : DiskChange → (source : List ℕ) → (List ℕ → Type 0) → Type 0
TextIs disk source IsSo = FilesChange disk (λ before _. (text : List ℕ) → get before source ≡ Some text → IsSo text)

-- ---- the status of a source

-- What follows from the verdict on a text. One that is refused has the status of its cause, but where the disk failed or there
-- was no memory; one that is accepted has none from 4 to 7.
abbrev pub Follows : Result ⊤ Failure → (status : ℕ) → DiskChange → Type 0
Follows (Ok done) status disk = (status < 4) ⊎ (7 < status)
Follows (Err failure) status disk = (status ≡ status_number (failure_status failure)) ⊎ ((status ≡ 10) ⊎ ((status ≡ 2) × DiskFailed disk))

abbrev pub FollowsSource : (source : List ℕ) → (depth status : ℕ) → DiskChange → Type 0
FollowsSource source depth status disk =
    TextIs disk source (λ text. (verdict : Result ⊤ Failure) → IsVerdict text depth verdict → Follows verdict status disk)

-- The same of the text that is made of a number.
abbrev pub FollowsNumber : (number status : ℕ) → DiskChange → Type 0
FollowsNumber number status disk = (verdict : Result ⊤ Failure) → IsVerdict (generated_text number) default_depth verdict → Follows verdict status disk

-- ---- a small source

-- Where the disk did not fail and tells the source, and this means a program that is small at the depth, it is so.
abbrev pub IfSmall : DiskChange → (source : List ℕ) → (depth : ℕ) → (List ℕ → Type 0) → Type 0
IfSmall disk source depth IsSo =
    (DiskFailed disk → ⊥) → TextIs disk source (λ text. (p : tree.Source) → IsAccepted text p → IsSmall p depth → IsSo text)

-- Its files are written, and the status is 0; or there was no memory, and no file changed.
abbrev pub CompletesCompile : (source target : List ℕ) → (listing : Option (List ℕ)) → (heap depth status : ℕ) → DiskChange → Type 0
CompletesCompile source target listing heap depth status disk = IfSmall disk source depth (λ text.
    ((status ≡ 0) × FilesChange disk (WroteProgramOf source target listing heap depth)) ⊎ ((status ≡ 10) × SameFiles disk))

-- It is run, and the status is that of its end; or there was no memory.
abbrev pub CompletesRun : (source : List ℕ) → (heap depth steps status : ℕ) → DiskChange → StreamChange → Type 0
CompletesRun source heap depth steps status disk out = IfSmall disk source depth (λ text.
    ((end : RunEnd) × (status ≡ status_number (end_status end)) × RunsText text heap depth steps end out) ⊎ (status ≡ 10))
