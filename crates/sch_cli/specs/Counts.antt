-- The counts of a source that is compiled and run, and how the verb `count` ends.
use Rattle.std.specs.Prelude.{◌≡◌, ◌≢◌, ◌<◌, ◌^◌, ℕ, List, [], length, All, IfOk, IfSome, Result, Err, ⊤}
use Rattle.std.specs.List.{flat_map}
use Rattle.sch_word.specs.declared.mark.MarkKind.{MarkKind}
use Rattle.sch_insn.specs.Path.{traced}
use Rattle.sch_asm.specs.Stands.{marks_at}
use Rattle.sch_asm.specs.declared.item.Mark.{Mark}
use Rattle.sch_elf.specs.declared.image.Image.{Image}
use Rattle.sch_listing.specs.declared.listing.Listing.{Listing}
use Rattle.sch_count.specs.ActivationCounts.{AreRows}
use Rattle.sch_count.specs.CountsText.{counts_text}
use Rattle.sch_count.specs.Tallied.{IsKnown}
use Rattle.sch_count.specs.TracedCounts as counting
use Rattle.sch_count.specs.declared.counts.Counts.{Counts}
use Rattle.sch_count.specs.declared.error.CountError.{CountError}
use Rattle.sch_count.specs.declared.row.Row.{Row}
use Rattle.sch_cli.specs.Executes.{EndsUnder, started}
use Rattle.sch_cli.specs.Failures.{done_line, done_status}
use Rattle.sch_cli.specs.LoneRuns.{ExitsAlone, SpendsSteps}
use Rattle.sch_cli.specs.Messages.{Says}
use Rattle.sch_cli.specs.Prints.{Prints}
use Rattle.sch_cli.specs.Refusals.{IsOfText, IsRefused}
use Rattle.sch_cli.specs.Seen.{DiskChange, StreamChange, SameFiles, FileIs, HadAtMostCalls, HadCalls, DiskFailed, TookNothing}
use Rattle.sch_cli.specs.Statuses.{status_number}
use Rattle.sch_cli.specs.declared.failure.Failure.{Failure}
use Rattle.sch_cli.specs.declared.failure.Failure.TheVariants.{ReadFailed, StepsSpent, Memory}

-- ---- an image that is counted

-- The marks that the machine of an image passes in at most these steps, where no answers of the kernel are held ready: those
-- of each instruction as it begins, in their order.
abbrev pub marks_alone : List Mark → Image → (steps : ℕ) → List MarkKind
marks_alone marks image steps = flat_map (marks_at marks) (traced steps (started image [])).trace

-- Each entry that is listed is that of one of the bodies, which a number of 32 bits counts.
pub record EntersListed (listing : Listing) : Type 0 where
  pub few : length listing.bodies < 2 ^ 32
  pub known : All (λ mark. IsKnown (length listing.bodies) mark.kind) listing.marks

-- The image ends so after at most these steps, unless there was no memory. Where it has exited, the rows are the numbers of
-- its bodies.
pub record CountsImage (image : Image) (listing : Listing) (steps : ℕ) (answer : Result Counts CountError) : Type 0 where
  pub output : List ℕ
  pub ends : IfSome (counting.run_end_of (counting.status_of answer)) (λ end. EndsUnder image steps [] end output)
  pub rows : IfOk answer (λ counts. AreRows (length listing.bodies) (marks_alone listing.marks image steps) counts.rows)

-- ---- a source that is counted

-- The text is that of the counts of one file that is compiled of the source, with its listing. Its image exits within these
-- steps, with the status in the last line, and the rows are the numbers of its bodies in the whole run.
pub record IsCountsText (source : List ℕ) (heap depth steps : ℕ) (text : List ℕ) : Type 0 where
  pub rows : List Row
  pub status : ℕ
  pub output : List ℕ
  pub exits : ExitsAlone source heap depth steps status output
  pub counted : AreRows (length exits.runs.made.listing.bodies) (marks_alone exits.runs.made.listing.marks exits.runs.image steps) rows
  pub is : text ≡ counts_text exits.runs.made.listing.bodies rows status

-- `count NAME`: the source was not read; or it is refused, or its steps are spent; or the text of its counts was printed.
pub data CountsSource (name : List ℕ) (heap depth steps : ℕ) (disk : DiskChange) (out : StreamChange) : Result ⊤ Failure → Type 0 where
  not_read : DiskFailed disk → TookNothing out → CountsSource name heap depth steps disk out (Err ReadFailed)
  no_memory : TookNothing out → CountsSource name heap depth steps disk out (Err Memory)
  refused : (failure : Failure) → IsOfText failure → FileIs disk name (λ source. IsRefused source depth failure) → TookNothing out →
      CountsSource name heap depth steps disk out (Err failure)
  spent : (source : List ℕ) → FileIs disk name (λ found. found ≡ source) → SpendsSteps source heap depth steps → TookNothing out →
      CountsSource name heap depth steps disk out (Err StepsSpent)
  counted : (answer : Result ⊤ Failure) (source text : List ℕ) → FileIs disk name (λ found. found ≡ source) →
      IsCountsText source heap depth steps text → Prints text out answer → CountsSource name heap depth steps disk out answer

-- How `count` ends: with the status, the line, the disk and the standard output of one answer.
pub record EndsCount (name : List ℕ) (heap depth steps status : ℕ) (disk : DiskChange) (err out : StreamChange) : Type 0 where
  pub answer : Result ⊤ Failure
  pub status_is : status ≡ status_number (done_status answer)
  pub says : Says (done_line name answer) err
  pub unchanged : SameFiles disk
  pub calls : answer ≢ Err Memory → HadCalls 1 disk
  pub few_calls : HadAtMostCalls 1 disk
  pub counts : CountsSource name heap depth steps disk out answer
