-- How the verb `list` ends, by its cause.
use Rattle.std.specs.Prelude.{◌≡◌, ◌≢◌, ℕ, List, Result, Err, ⊤}
use Rattle.sch_listing.specs.ListingText.{listing_text}
use Rattle.sch_cli.specs.Builds.{IsFileOf}
use Rattle.sch_cli.specs.Failures.{done_line, done_status}
use Rattle.sch_cli.specs.Messages.{Says}
use Rattle.sch_cli.specs.Prints.{Prints}
use Rattle.sch_cli.specs.Refusals.{IsOfText, IsRefused}
use Rattle.sch_cli.specs.Seen.{DiskChange, StreamChange, SameFiles, FileIs, HadAtMostCalls, HadCalls, DiskFailed, TookNothing}
use Rattle.sch_cli.specs.Statuses.{status_number}
use Rattle.sch_cli.specs.declared.failure.Failure.{Failure}
use Rattle.sch_cli.specs.declared.failure.Failure.TheVariants.{ReadFailed, Memory}

-- `list NAME`: the source was not read; or it is refused; or it is neither, and the text of the listing was printed that
-- stands beside a file that is compiled of it.
pub data ListsSource (name : List ℕ) (heap depth : ℕ) (disk : DiskChange) (out : StreamChange) : Result ⊤ Failure → Type 0 where
  not_read : DiskFailed disk → TookNothing out → ListsSource name heap depth disk out (Err ReadFailed)
  no_memory : TookNothing out → ListsSource name heap depth disk out (Err Memory)
  refused : (failure : Failure) → IsOfText failure → FileIs disk name (λ text. IsRefused text depth failure) → TookNothing out →
      ListsSource name heap depth disk out (Err failure)
  listed : (answer : Result ⊤ Failure) (text file : List ℕ) → FileIs disk name (λ found. found ≡ text) → (made : IsFileOf text heap depth file) →
      Prints (listing_text made.listing) out answer → ListsSource name heap depth disk out answer

-- How `list` ends: with the status, the line, the disk and the standard output of one answer.
pub record EndsList (name : List ℕ) (heap depth status : ℕ) (disk : DiskChange) (err out : StreamChange) : Type 0 where
  pub answer : Result ⊤ Failure
  pub status_is : status ≡ status_number (done_status answer)
  pub says : Says (done_line name answer) err
  pub unchanged : SameFiles disk
  pub calls : answer ≢ Err Memory → HadCalls 1 disk
  pub few_calls : HadAtMostCalls 1 disk
  pub lists : ListsSource name heap depth disk out answer
