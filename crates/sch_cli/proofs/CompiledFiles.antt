-- What the driver compiles is a file of its text, and the image of such a file does what the text means.
use Rattle.std.proofs.Common.{◌≡◌, ◌≤◌, ℕ, List, length, subst, sym}
use Rattle.sch_elf.specs.declared.image.Image.{Image}
use Rattle.sch_elf.specs.Stands.{StandsFor}
use Rattle.sch_elf.proofs.OneRefusal.{one_image}
use Rattle.sch_prelude.specs.LibraryText.{library_text}
use Rattle.sch_driver.specs.Causes.{max_source_size}
use Rattle.sch_driver.specs.Compiled.{IsCompiled}
use Rattle.sch_driver.specs.Headline.{IsImageOf}
use Rattle.sch_driver.proofs.RoundSteps as driver
use Rattle.sch_listing.specs.declared.listing.Listing.{Listing}
use Rattle.sch_cli.specs.Builds.{HasFile, IsFileOf}

abbrev pub file_of : (text file : List ℕ) (listing : Listing) (heap depth : ℕ) → length text ≤ max_source_size → IsCompiled library_text text heap depth file listing → IsFileOf text heap depth file
file_of text file listing heap depth short compiled = record {
  short = short;
  listing = listing;
  compiled = compiled;
  in_time = driver.in_time library_text text heap depth file listing compiled;
}

-- such a file stands for an image, that of its program
pub has_image : (text file bytes : List ℕ) (listing : Listing) (heap depth : ℕ) → IsCompiled library_text text heap depth file listing → bytes ≡ file → (image : Image) × StandsFor bytes image
has_image text file bytes listing heap depth compiled same =
    let program = compiled.is_program in
    (program.image, subst (λ bytes. StandsFor bytes program.image) (sym same) program.stands)

-- a file stands for one image, which is that of its program
pub does_text : (text : List ℕ) (heap depth : ℕ) (image : Image) (built : HasFile text heap depth image) → IsImageOf image built.made.compiled.program built.made.listing.orders heap depth
does_text text heap depth image built =
    let program = built.made.compiled.is_program in
    subst (λ i. IsImageOf i built.made.compiled.program built.made.listing.orders heap depth) (one_image built.file program.image image program.stands built.stands) program.does
