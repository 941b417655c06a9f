-- The sizes of what is compiled of a program, by what fits it.
use Rattle.std.proofs.Common.{◌≡◌, ◌≤◌, ℕ, List, ap, ◌∙◌, subst}
use Rattle.sch_word.specs.runs.ProgramLayout.{max_text_size}
use Rattle.sch_lang.specs.Tree as tree
use Rattle.sch_control.specs.Tree as control
use Rattle.sch_registers.specs.Registers.{registers_words}
use Rattle.sch_select.specs.Program.{frames_bytes, max_stack}
use Rattle.sch_driver.specs.Causes.{HasFrames, frame_words_of, text_bytes_of}
use Rattle.sch_driver.specs.Compiled.{IsCompiled}
use Rattle.sch_driver.specs.FitsProgram.{FitsProgram}
use Rattle.sch_driver.specs.Framed.{framed_size}
use Rattle.sch_listing.specs.declared.listing.Listing.{Listing}

pub words_of : (p : tree.Source) (q : control.Source) → FitsProgram p q → registers_words q.bodies ≡ frame_words_of p
unfolding frame_words_of
words_of p q fits = ap (λ r. registers_words r.bodies) fits.made

pub bytes_of : (p : tree.Source) (q : control.Source) → FitsProgram p q → framed_size q ≡ text_bytes_of p
unfolding text_bytes_of
bytes_of p q fits = ap framed_size fits.made

-- of an error that names them
pub frame_is : (p : tree.Source) (words : ℕ) → HasFrames p words → words ≡ frame_words_of p
frame_is p words has = has.largest ∙ words_of p has.control has.fits_program

-- of a file that is compiled they are within the limits
module _ (library text : List ℕ) (heap depth : ℕ) (file : List ℕ) (listing : Listing) (c : IsCompiled library text heap depth file listing) where
  pub stack_fits : frames_bytes (frame_words_of c.program) depth ≤ max_stack
  stack_fits = subst (λ n. frames_bytes n depth ≤ max_stack) (c.listed.words ∙ words_of c.program c.listed.program c.listed.fits_program) c.fits

  pub text_fits : text_bytes_of c.program ≤ max_text_size
  text_fits = subst (λ n. n ≤ max_text_size) (c.size ∙ bytes_of c.program c.listed.program c.listed.fits_program) c.is_program.does.laid_out.short
