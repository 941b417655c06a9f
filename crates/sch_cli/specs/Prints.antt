-- What it is to print a text on the standard output, and how the verb `gen` ends.
use Rattle.std.specs.Prelude.{◌≡◌, ℕ, List, ◌++◌, take, Result, Ok, Err, ⊤}
use Rattle.std.specs.Fmt.{decimal}
use Rattle.sch_generator.specs.GeneratedText.{generated_text}
use Rattle.sch_cli.specs.Failures.{done_line, done_status}
use Rattle.sch_cli.specs.Figures.{AreFiguresOf, HasNoFigures, figures_text}
use Rattle.sch_cli.specs.Messages.{Says}
use Rattle.sch_cli.specs.Seen.{StreamChange, BytesChange, StreamFailed, TookNothing}
use Rattle.sch_cli.specs.Statuses.{status_number}
use Rattle.sch_cli.specs.declared.failure.Failure.{Failure}
use Rattle.sch_cli.specs.declared.failure.Failure.TheVariants.{OutputFailed}
use Rattle.sch_cli.specs.declared.figures.Figures.{Figures}

-- The stream took the whole text, or it failed and took a prefix.
pub data Prints (text : List ℕ) (out : StreamChange) : Result ⊤ Failure → Type 0 where
  whole : BytesChange out (λ before after. after ≡ before ++ text) → Prints text out (Ok tt)
  in_part : StreamFailed out → BytesChange out (λ before after. (count : ℕ) × (after ≡ before ++ take count text)) →
      Prints text out (Err OutputFailed)

-- `gen`: the figures of the text that is made of the number were printed; or there are none, and nothing was printed.
pub data Generates (number steps : ℕ) (out : StreamChange) : Result ⊤ Failure → Type 0 where
  measured : (answer : Result ⊤ Failure) (figures : Figures) → AreFiguresOf (generated_text number) steps figures →
      Prints (figures_text figures) out answer → Generates number steps out answer
  not_measured : (failure : Failure) → HasNoFigures (generated_text number) steps failure → TookNothing out →
      Generates number steps out (Err failure)

-- How `gen` ends: with the status, the line and the standard output of one answer. A line that names the program names its
-- number.
pub record EndsGen (number steps status : ℕ) (err out : StreamChange) : Type 0 where
  pub answer : Result ⊤ Failure
  pub status_is : status ≡ status_number (done_status answer)
  pub says : Says (done_line (decimal number) answer) err
  pub generates : Generates number steps out answer
