-- That each text has a cause of a status, and one only.
use Rattle.std.specs.Prelude.{◌≡◌, ◌≢◌, ◌≤◌, ℕ, cond, nat_lt, List, length, Result, Ok, Err, ⊤}
use Rattle.sch_word.specs.runs.ProgramLayout.{max_text_size}
use Rattle.sch_lang.specs.Tree as tree
use Rattle.sch_prelude.specs.LibraryText.{library_text}
use Rattle.sch_select.specs.Program.{frames_bytes, max_stack}
use Rattle.sch_driver.specs.Causes.{frame_words_of, max_source_size, text_bytes_of}
use Rattle.sch_driver.specs.Compiled.{IsCompiled}
use Rattle.sch_driver.specs.declared.error.CompileError.TheVariants.{StackTooLarge, TextTooLarge}
use Rattle.sch_listing.specs.declared.listing.Listing.{Listing}
use Rattle.sch_cli.specs.Failures.{failure_status}
use Rattle.sch_cli.specs.Refusals.{IsAccepted, IsRefused}
use Rattle.sch_cli.specs.declared.failure.Failure.{Failure}
use Rattle.sch_cli.specs.declared.failure.Failure.TheVariants.{Compile}
use Rattle.sch_cli.specs.declared.status.Status.TheVariants.{OutOfMemory}

-- What is said of a program at a depth by the sizes of what is compiled of it: its frames are too large for the stack, or
-- else its text is too large, or else it is accepted.
unfoldable pub by_size : tree.Source → (depth : ℕ) → Result ⊤ Failure
by_size p depth =
    cond (nat_lt max_stack (frames_bytes (frame_words_of p) depth)) (Err (Compile (StackTooLarge (frame_words_of p))))
    (cond (nat_lt max_text_size (text_bytes_of p)) (Err (Compile (TextTooLarge (text_bytes_of p)))) (Ok tt))

-- What is said of a text itself, compiled for a depth: it means a program, which is accepted or too large; or it is refused,
-- and not for a lack of memory.
pub data IsVerdict (text : List ℕ) (depth : ℕ) : Result ⊤ Failure → Type 0 where
  built : (verdict : Result ⊤ Failure) (p : tree.Source) → IsAccepted text p → verdict ≡ by_size p depth → IsVerdict text depth verdict
  refused : (failure : Failure) → IsRefused text depth failure → failure_status failure ≢ OutOfMemory → IsVerdict text depth (Err failure)

-- A text has a verdict at each depth, and one only: so it has one status and one line, which are functions of it. A text
-- that is compiled is accepted.
pub record HasOneVerdict (text : List ℕ) (depth : ℕ) : Type 0 where
  pub some : (verdict : Result ⊤ Failure) × IsVerdict text depth verdict
  pub same : (one other : Result ⊤ Failure) → IsVerdict text depth one → IsVerdict text depth other → one ≡ other
  pub compiled : (heap : ℕ) (file : List ℕ) (listing : Listing) → length text ≤ max_source_size
      → IsCompiled library_text text heap depth file listing → IsVerdict text depth (Ok tt)
