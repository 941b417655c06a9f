-- Which texts are accepted, and for which failures the others are refused.
use Rattle.std.specs.Prelude.{◌<◌, ◌≤◌, ℕ, List, length}
use Rattle.sch_lang.specs.Tree as tree
use Rattle.sch_prelude.specs.LibraryText.{library_text}
use Rattle.sch_driver.specs.Causes.{IsErrorOf, Means, max_source_size}
use Rattle.sch_cli.specs.declared.failure.Failure.{Failure}
use Rattle.sch_cli.specs.declared.failure.Failure.TheVariants.{TooLong, Compile, Memory}

-- a text that is no longer than a source may be, and means a program with the library
pub record IsAccepted (text : List ℕ) (p : tree.Source) : Type 0 where
  pub short : length text ≤ max_source_size
  pub means : Means library_text text p

-- The failure is one of the text with the library, compiled for a depth. Out of memory may come in place of any other;
-- the failures of the disk, and those of an image, are none of a text.
abbrev pub IsRefused : List ℕ → (depth : ℕ) → Failure → Type 0
IsRefused text depth TooLong = max_source_size < length text
IsRefused text depth (Compile error) = (length text ≤ max_source_size) × IsErrorOf library_text text depth error
IsRefused text depth Memory = Unit {0}
IsRefused text depth _ = ⊥

-- The failures that a text can have, whatever it is.
abbrev pub IsOfText : Failure → Type 0
IsOfText TooLong = Unit {0}
IsOfText (Compile error) = Unit {0}
IsOfText Memory = Unit {0}
IsOfText _ = ⊥
