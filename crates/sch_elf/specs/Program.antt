-- How the image of a compiled program lies in memory.
use Rattle.std.specs.Prelude.{◌≡◌, ℕ, List, [], ◌∷◌, true, false}
use Rattle.sch_word.specs.runs.ProgramLayout.{text_address, data_address}
use Rattle.sch_elf.specs.declared.image.Segment.{Segment}
use Rattle.sch_elf.specs.declared.image.Image.{Image}

-- the text, which can be read and executed
abbrev pub text_segment : List ℕ → Segment
text_segment text = record { address = text_address; read = true; write = false; execute = true; bytes = text; zeros = 0 }

-- the data, which can be read and written: bytes, and zeros after them
abbrev pub data_segment : List ℕ → ℕ → Segment
data_segment bytes zeros = record { address = data_address; read = true; write = true; execute = false; bytes = bytes; zeros = zeros }

-- The image is that of a compiled program with this text and these data: it is entered at the first byte
-- of its text, and its memory is the text and the data.
pub record IsProgramImage (text bytes : List ℕ) (zeros : ℕ) (image : Image) : Type 0 where
  pub entry : image.entry ≡ text_address
  pub segments : image.segments ≡ text_segment text ∷ data_segment bytes zeros ∷ []
