-- How the verbs `run` and `step` end, each by its cause.
use Rattle.std.specs.Prelude.{◌≡◌, ◌≢◌, ◌≤◌, ◌<◌, ℕ, List, length, Result, Ok, Err}
use Rattle.sch_word.specs.declared.answer.Answer.{Answer}
use Rattle.sch_word.specs.declared.stop.Stop.TheVariants.{OutputFailed}
use Rattle.sch_word.specs.runs.Runs.{Run, ended}
use Rattle.sch_io.specs.Told.{Tells}
use Rattle.sch_elf.specs.declared.error.ImageError.{ImageError}
use Rattle.sch_elf.specs.declared.image.Image.{Image}
use Rattle.sch_elf.specs.Refused as images
use Rattle.sch_elf.specs.Stands.{StandsFor}
use Rattle.sch_insn.specs.Behaves.{IsPrefix}
use Rattle.sch_lang.specs.Run.{run}
use Rattle.sch_lang.specs.Tree as tree
use Rattle.sch_driver.specs.Assembled.{steps_of}
use Rattle.sch_step.specs.declared.ends.RunEnd.{RunEnd}
use Rattle.sch_cli.specs.declared.failure.Failure.{Failure}
use Rattle.sch_cli.specs.declared.failure.Failure.TheVariants.{ReadFailed, TooLong, Image as NoImage, Memory}
use Rattle.sch_cli.specs.declared.status.Status.{Status}
use Rattle.sch_cli.specs.declared.status.Status.TheVariants.{StepsSpent, Stopped}
use Rattle.sch_cli.specs.Builds.{IsFileOf}
use Rattle.sch_cli.specs.Executes.{Executes}
use Rattle.sch_cli.specs.Failures.{failure_line, failure_status}
use Rattle.sch_cli.specs.Messages.{Says, end_line}
use Rattle.sch_cli.specs.Refusals.{IsOfText, IsRefused}
use Rattle.sch_cli.specs.Seen.{DiskChange, StreamChange, SameFiles, FileIs, HadAtMostCalls, HadCalls, DiskFailed, TookNothing, StreamFailed}
use Rattle.sch_cli.specs.Statuses.{end_status, status_number}

-- the most bytes of an image's file: 128 MiB
abbrev pub max_image_file_size : ℕ
max_image_file_size = 0x800_0000

-- ---- an image that is executed

-- `step NAME`: the file was not read, or is too long; or its bytes stand for no image; or they stand for
-- an image, which was executed.
pub data StepsImage (name : List ℕ) (steps : ℕ) (disk : DiskChange) (out : StreamChange) : Result RunEnd Failure → Type 0 where
  not_read : DiskFailed disk → TookNothing out → StepsImage name steps disk out (Err ReadFailed)
  no_memory : TookNothing out → StepsImage name steps disk out (Err Memory)
  too_long : FileIs disk name (λ file. max_image_file_size < length file) → TookNothing out → StepsImage name steps disk out (Err TooLong)
  no_image : (error : ImageError) → FileIs disk name (λ file. (length file ≤ max_image_file_size) × images.IsRefused file error) →
      TookNothing out → StepsImage name steps disk out (Err (NoImage error))
  stepped : (image : Image) (end : RunEnd) → FileIs disk name (λ file. (length file ≤ max_image_file_size) × StandsFor file image) →
      Executes image steps end out → StepsImage name steps disk out (Ok end)

-- ---- a source that is run

-- Against these answers the run with at most `steps` procedure entries ends so: the machine's steps are
-- spent and it has put out a prefix of the run's output; or the status is the end of the run, which has
-- this output.
abbrev pub EndsAs : (List Answer → (entries : ℕ) → Run) → (steps : ℕ) → List Answer → Status → (output : List ℕ) → Type 0
EndsAs runs steps answers StepsSpent output = IsPrefix output (runs answers steps).output
EndsAs runs steps answers status output =
    ((runs answers steps).end ≡ ended (status_number status)) × ((runs answers steps).output ≡ output)

-- An image was executed, and ended as a core program means.
pub record RunsProgram (p : tree.Source) (table : List (List ℕ)) (heap depth : ℕ)
    (image : Image) (steps : ℕ) (end : RunEnd) (out : StreamChange) : Type 0 where
  pub executed : Executes image steps end out
  pub under_given : EndsAs (run p table heap depth) steps executed.given (end_status end) executed.output
  pub under_left : Tells out.before.left out.after.left
      (λ before after. EndsAs (run p table heap depth) steps before (end_status end) executed.output)
  pub output_failed : end_status end ≡ Stopped OutputFailed → StreamFailed out

-- Where a run against these answers has ended, with whatever procedure entries, and the steps are no fewer than a machine with
-- so many instructions takes for it at most, they were not spent, and the status is that of the run's end.
abbrev pub EndsInTime : (List Answer → (entries : ℕ) → Run) → (instructions steps : ℕ) → List Answer → Status → Type 0
EndsInTime runs instructions steps answers status =
    (n end : ℕ) → (runs answers n).end ≡ ended end
    → steps_of instructions (runs answers n).entries (runs answers n).answers (runs answers n).charged ≤ steps
    → (status ≢ StepsSpent) × (status_number status ≡ end)

-- A text was run, under these limits: the image of a file that is compiled of it was executed, and ended as its core
-- program means under the orders that are listed of this file; in time, by the instructions that are listed.
pub record RunsText (text : List ℕ) (heap depth steps : ℕ) (end : RunEnd) (out : StreamChange) : Type 0 where
  pub file : List ℕ
  pub made : IsFileOf text heap depth file
  pub image : Image
  pub stands : StandsFor file image
  pub runs : RunsProgram made.compiled.program made.listing.orders heap depth image steps end out
  pub in_time_given : EndsInTime (run made.compiled.program made.listing.orders heap depth) made.listing.instructions steps runs.executed.given (end_status end)
  pub in_time_left : Tells out.before.left out.after.left
      (λ before after. EndsInTime (run made.compiled.program made.listing.orders heap depth) made.listing.instructions steps before (end_status end))

-- `run NAME`: the source was not read; or it is refused; or it is neither, and was run.
pub data RunsSource (name : List ℕ) (heap depth steps : ℕ) (disk : DiskChange) (out : StreamChange) : Result RunEnd Failure → Type 0 where
  not_read : DiskFailed disk → TookNothing out → RunsSource name heap depth steps disk out (Err ReadFailed)
  no_memory : TookNothing out → RunsSource name heap depth steps disk out (Err Memory)
  refused : (failure : Failure) → IsOfText failure → FileIs disk name (λ text. IsRefused text depth failure) → TookNothing out →
      RunsSource name heap depth steps disk out (Err failure)
  ran : (text : List ℕ) (end : RunEnd) → FileIs disk name (λ found. found ≡ text) → RunsText text heap depth steps end out →
      RunsSource name heap depth steps disk out (Ok end)

-- ---- the verbs

abbrev pub run_status : Result RunEnd Failure → Status
run_status (Ok end) = end_status end
run_status (Err failure) = failure_status failure

abbrev pub run_line : (name : List ℕ) → Result RunEnd Failure → List ℕ
run_line name (Ok end) = end_line name end
run_line name (Err failure) = failure_line name failure

-- How a verb ends that reads one file and runs it: with the status, the line, the disk and the standard
-- output of one answer. One call of the disk is made, or at most one where there was no memory. No file changes.
pub record EndsRun (name : List ℕ) (status : ℕ) (disk : DiskChange) (err : StreamChange)
    (Did : Result RunEnd Failure → Type 0) : Type 0 where
  pub answer : Result RunEnd Failure
  pub status_is : status ≡ status_number (run_status answer)
  pub says : Says (run_line name answer) err
  pub unchanged : SameFiles disk
  pub calls : answer ≢ Err Memory → HadCalls 1 disk
  pub few_calls : HadAtMostCalls 1 disk
  pub did : Did answer
