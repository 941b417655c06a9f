-- What is built of a source, under limits of heap, in bytes, and of depth.
use Rattle.std.specs.Prelude.{◌≤◌, ℕ, List, length}
use Rattle.sch_elf.specs.declared.image.Image.{Image}
use Rattle.sch_elf.specs.Stands.{StandsFor}
use Rattle.sch_prelude.specs.LibraryText.{library_text}
use Rattle.sch_driver.specs.Bounds.{ExitsInTime}
use Rattle.sch_driver.specs.Causes.{max_source_size}
use Rattle.sch_driver.specs.Compiled.{IsCompiled}
use Rattle.sch_listing.specs.declared.listing.Listing.{Listing}

-- The file is compiled of the text, which is no longer than a source may be, with the library's text and beside some
-- listing: it is all that the driver promises of the two. Where a run of its program has ended, its image has
-- exited within the round number of steps.
pub record IsFileOf (text : List ℕ) (heap depth : ℕ) (file : List ℕ) : Type 0 where
  pub short : length text ≤ max_source_size
  pub listing : Listing
  pub compiled : IsCompiled library_text text heap depth file listing
  pub in_time : ExitsInTime library_text text heap depth file listing

-- The image is the one that such a file stands for.
pub record HasFile (text : List ℕ) (heap depth : ℕ) (image : Image) : Type 0 where
  pub file : List ℕ
  pub made : IsFileOf text heap depth file
  pub stands : StandsFor file image
