-- Worked rows: what `count` may answer by what it printed and by what failed; what follows from a verdict on the text of a source, or on
-- that of a number; and that a file that is compiled has a header.
use Rattle.std.proofs.Common.{◌≡◌, ◌++◌, ℕ, List, [], ◌∷◌, length, Some, Result, Ok, Err, ◌∙◌, subst, arith}
use Rattle.std.specs.Prelude.{⊤, codes}
use Rattle.std.specs.Fmt.{decimal}
use Rattle.sch_prelude.specs.LibraryText.{library_text}
use Rattle.sch_generator.specs.GeneratedText.{generated_text}
use Rattle.sch_driver.specs.Compiled.{IsCompiled}
use Rattle.sch_listing.specs.declared.listing.Listing.{Listing}
use Rattle.sch_count.specs.CountsText.{rows_text}
use Rattle.sch_cli.specs.Counts.{CountsSource, counted, no_memory, not_read, refused, spent}
use Rattle.sch_cli.specs.Laws.{IsVerdict}
use Rattle.sch_cli.specs.Prints.{Prints, in_part, whole}
use Rattle.sch_cli.specs.Refusals.{IsOfText}
use Rattle.sch_cli.specs.Seen.{StreamChange, StreamState}
use Rattle.sch_cli.specs.Sources.{FollowsNumber, FollowsSource}
use Rattle.sch_cli.specs.declared.failure.Failure.{Failure}
use Rattle.sch_cli.specs.declared.failure.Failure.TheVariants as failure
use Rattle.sch_cli.proofs.ImageExamples.{empty_stream, quiet}
use Rattle.sch_cli.proofs.SourceExamples.{accepted_7, calm, held, told}

-- ---- what `count` may answer

-- a stream that did not fail and took one byte
abbrev one_byte : StreamState
one_byte = record { bytes = Some (48 ∷ []); left = Some []; faults = 0 }

abbrev wrote : StreamChange
wrote = record { before = empty_stream; after = one_byte }

one_error : (one other : Failure) → ◌≡◌ {A = Result ⊤ Failure} (Err one) (Err other) → one ≡ other
one_error one other e = cc

-- what was printed, or in part, is no other failure
printed_or_failed : (text : List ℕ) (out : StreamChange) (answer : Result ⊤ Failure) → Prints text out answer → answer ≡ Err failure.StepsSpent → ⊥
printed_or_failed text out _ (whole all) e = cc
printed_or_failed text out _ (in_part failed front) e = cc

-- the text of counts ends with a line
never_empty : (xs ys : List ℕ) (y : ℕ) → [] ≡ xs ++ (y ∷ ys) → ⊥
never_empty [] ys y e = cc
never_empty (x ∷ xs) ys y e = cc

module _ (name : List ℕ) (heap depth steps : ℕ) where
  -- steps that are spent after something was printed
  spent_after_a_byte : (answer : Result ⊤ Failure) → answer ≡ Err failure.StepsSpent → CountsSource name heap depth steps calm wrote answer → ⊥
  spent_after_a_byte _ e (not_read failed nothing) = cc
  spent_after_a_byte _ e (no_memory nothing) = cc
  spent_after_a_byte _ e (refused why of h nothing) = subst IsOfText (one_error why failure.StepsSpent e) of
  spent_after_a_byte _ e (spent source found spends nothing) = cc
  spent_after_a_byte _ e (counted answer source text found is prints) = printed_or_failed text wrote answer prints e

  -- a failed output where the stream did not fail
  failed_in_calm : (answer : Result ⊤ Failure) → answer ≡ Err failure.OutputFailed → CountsSource name heap depth steps calm wrote answer → ⊥
  failed_in_calm _ e (not_read failed nothing) = cc
  failed_in_calm _ e (no_memory nothing) = cc
  failed_in_calm _ e (refused why of h nothing) = subst IsOfText (one_error why failure.OutputFailed e) of
  failed_in_calm _ e (spent source found spends nothing) = cc
  failed_in_calm _ e (counted answer source text found is prints) = by answer prints e
    where
      by : (answer : Result ⊤ Failure) → Prints text wrote answer → answer ≡ Err failure.OutputFailed → ⊥
      by _ (whole all) e = cc
      by _ (in_part failed front) e = omega (arith, failed)

  -- all was counted, and nothing printed
  nothing_printed : (answer : Result ⊤ Failure) → answer ≡ Ok tt → CountsSource name heap depth steps calm quiet answer → ⊥
  nothing_printed _ e (not_read failed nothing) = cc
  nothing_printed _ e (no_memory nothing) = cc
  nothing_printed _ e (refused why of h nothing) = cc
  nothing_printed _ e (spent source found spends nothing) = cc
  nothing_printed _ e (counted answer source text found is prints) = by answer prints e
    where
      by : (answer : Result ⊤ Failure) → Prints text quiet answer → answer ≡ Ok tt → ⊥
      by _ (whole all) e = never_empty (rows_text is.exits.runs.made.listing.bodies is.rows) (codes "tatus " ++ (decimal is.status ++ codes "\n")) 115 (all ∙ is.is)
      by _ (in_part failed front) e = cc

-- ---- what follows from a verdict

-- a text that is accepted has no 7, in a file and of a number
source_7 : (depth : ℕ) → IsVerdict (41 ∷ []) depth (Ok tt) → FollowsSource (97 ∷ []) depth 7 told → ⊥
source_7 depth is h = accepted_7 (h (41 ∷ []) held (Ok tt) is)

number_7 : (number : ℕ) → IsVerdict (generated_text number) 100000 (Ok tt) → FollowsNumber number 7 calm → ⊥
number_7 number is h = accepted_7 (h (Ok tt) is)

-- ---- files that are compiled

-- They have a header: none of them has 7 bytes.
seven_bytes : (text : List ℕ) (heap depth : ℕ) (file : List ℕ) (listing : Listing) → IsCompiled library_text text heap depth file listing → length file ≡ 7 → ⊥
seven_bytes text heap depth file listing compiled size = omega (arith, compiled.is_program.stands.long, size)
