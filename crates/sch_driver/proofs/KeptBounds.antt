-- The sizes that are listed or told of a text are within the bounds of the program that it means.
use Rattle.std.proofs.Common.{◌≤◌, ℕ, List, length, subst}
use Rattle.std.specs.List.{flat_map}
use Rattle.sch_insn.specs.Spelling.{spelling}
use Rattle.sch_lang.specs.Tree.{Source}
use Rattle.sch_driver.specs.Bounds.{AreWordsOf}
use Rattle.sch_driver.specs.Causes.{IsStackTooLarge, IsTextTooLarge, Means, frame_bound, text_bound}
use Rattle.sch_driver.specs.Compiled.{IsCompiled}
use Rattle.sch_listing.specs.declared.listing.Listing.{Listing}
use Rattle.sch_driver.proofs.Meanings.{same_program}

pub told_words : (library text : List ℕ) (p : Source) → Means library text p → (depth words : ℕ) → IsStackTooLarge library text depth words → AreWordsOf p words
told_words library text p means depth words is = (is.frame.few, subst (λ q. words ≤ frame_bound q) (same_program library text is.program p is.means means) is.frame.bound)

pub told_bytes : (library text : List ℕ) (p : Source) → Means library text p → (depth bytes : ℕ) → IsTextTooLarge library text depth bytes → bytes ≤ text_bound p
told_bytes library text p means depth bytes is = subst (λ q. bytes ≤ text_bound q) (same_program library text is.program p is.means means) is.bound

-- of a text that is compiled
module _ (library text : List ℕ) (p : Source) (means : Means library text p) (heap depth : ℕ) (file : List ℕ) (listing : Listing) (c : IsCompiled library text heap depth file listing) where
  pub listed_words : AreWordsOf p listing.frame_words
  listed_words = (c.few_words, subst (λ q. listing.frame_words ≤ frame_bound q) (same_program library text c.program p c.means means) c.words_bound)

  pub laid_bytes : length (flat_map spelling c.is_program.does.laid_out.code) ≤ text_bound p
  laid_bytes = subst (λ q. length (flat_map spelling c.is_program.does.laid_out.code) ≤ text_bound q) (same_program library text c.program p c.means means) c.bound
