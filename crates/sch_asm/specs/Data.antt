-- The data of a program, from their address on.
use Rattle.std.specs.Prelude.{◌≡◌, ℕ, ◌+◌, ◌-◌, ◌^◌, ◌<◌, ◌≤◌, List, ◌++◌, length, drop, true, false, ℤ, pos, ◌+ℤ◌, ◌*ℤ◌, ◌⊎◌}
use Rattle.std.specs.Int.{w64, to_le_bytes, from_le_bytes}
use Rattle.sch_word.specs.values.Fixnum.{IsFixnum}
use Rattle.sch_word.specs.values.Memory.{Segment}
use Rattle.sch_word.specs.runs.ProgramLayout.{data_address}
use Rattle.sch_insn.specs.Machine.{put_bytes}

abbrev pub data_at : List ℕ → Segment
data_at bytes = record { address = data_address; readable = true; writable = true; executable = false; bytes = bytes }

-- The word at an address, and the data with another word there.
abbrev pub word_in : List ℕ → ℕ → ℕ
word_in bytes a = from_le_bytes w64 (drop (a - data_address) bytes)

abbrev pub with_word : List ℕ → ℕ → ℕ → List ℕ
with_word bytes a v = put_bytes bytes (a - data_address) (to_le_bytes w64 v)

-- The eight bytes of a word lie in data of a size.
pub record Inside (size a : ℕ) : Type 0 where
  pub low : data_address ≤ a
  pub high : a + 8 ≤ data_address + size

-- The bytes of a piece lie at an address.
pub record PieceAt (bytes : List ℕ) (a : ℕ) (piece : List ℕ) : Type 0 where
  pub rest : List ℕ
  pub is : drop (a - data_address) bytes ≡ piece ++ rest
  pub low : data_address ≤ a
  pub high : a + length piece ≤ data_address + length bytes

-- A number shifted by three, in 64 bits.
abbrev pub IsShifted : ℤ → ℕ → Type 0
IsShifted n x = (pos x ≡ pos 8 *ℤ n) ⊎ (pos x ≡ (pos 8 *ℤ n) +ℤ pos 18446744073709551616)

-- The word of a fixnum: the fixnum above three bits of tag, which are 0.
pub record FixnumWord (n : ℤ) (x : ℕ) : Type 0 where
  pub range : IsFixnum n
  pub fits : x < 2 ^ 64
  pub shifted : IsShifted n x
