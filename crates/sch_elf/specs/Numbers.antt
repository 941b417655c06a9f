-- Numbers in a file, with their lowest byte first (ELFDATA2LSB).
use Rattle.std.specs.Prelude.{ℕ, List, drop}
use Rattle.byteorder.specs.Endian.{little_number}

-- the number of `size` bytes at a place
abbrev pub number : ℕ → ℕ → List ℕ → ℕ
number size place file = little_number size (drop place file)
