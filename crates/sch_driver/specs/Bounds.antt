-- What the core program of a text alone says of how it is compiled: whether it is small enough, and how long its image runs at most.
use Rattle.std.specs.Prelude.{◌≤◌, ◌+◌, ◌*◌, ℕ, List}
use Rattle.sch_word.specs.runs.ProgramLayout.{max_text_size}
use Rattle.sch_elf.specs.declared.image.Image.{Image}
use Rattle.sch_elf.specs.Layout.{memory}
use Rattle.sch_elf.specs.Stands.{StandsFor}
use Rattle.sch_lang.specs.Run.{run}
use Rattle.sch_lang.specs.Tree as tree
use Rattle.sch_frames.specs.Valid.{max_words}
use Rattle.sch_select.specs.Ends.{EndsWithin}
use Rattle.sch_select.specs.Program.{frames_bytes, max_stack}
use Rattle.sch_driver.specs.Causes.{Means, frame_bound, text_bound}
use Rattle.sch_listing.specs.declared.listing.Listing.{Listing}

-- The words of a frame are within the bounds of a program: 2,048, and twice the variables of its largest body and 216.
abbrev pub AreWordsOf : tree.Source → ℕ → Type 0
AreWordsOf p words = (words ≤ max_words) × (words ≤ frame_bound p)

-- A program is small at a depth: the most bytes that its size allows for a text are within those of an image, and frames of the
-- most words that its variables allow fit the stack.
pub record IsSmall (p : tree.Source) (depth : ℕ) : Type 0 where
  pub text : text_bound p ≤ max_text_size
  pub stack : frames_bytes (frame_bound p) depth ≤ max_stack

-- The most steps that a machine takes for a run that has ended, in round numbers: 2,048 for each instruction of its text, once
-- for each procedure entry of the run, for each form and once more, 8 for each byte that the run charged, and 32 for each
-- answer that it used.
abbrev pub round_steps : (instructions forms entries answers charged : ℕ) → ℕ
round_steps instructions forms entries answers charged = 2048 * instructions * (entries + forms + 1) + 8 * charged + 32 * answers

-- Where a run of what the text means has ended, the machine of the image that the file stands for has exited within these
-- steps, by the instructions that are listed.
abbrev pub ExitsInTime : (library text : List ℕ) → (heap depth : ℕ) → (file : List ℕ) → Listing → Type 0
ExitsInTime library text heap depth file listing =
    (p : tree.Source) (image : Image) → Means library text p → StandsFor file image
    → EndsWithin image.entry (memory image.segments) (run p listing.orders heap depth) (round_steps listing.instructions (tree.count p.forms))
