-- The instructions that a text spells, one after the other.
use Rattle.std.specs.Prelude.{◌≡◌, ℕ, zero, suc, List, [], ◌∷◌, length, drop, Option, Some, None}
use Rattle.std.specs.List.{flat_map}
use Rattle.sch_insn.specs.declared.insn.Insn.{Insn}
use Rattle.sch_insn.specs.Decode.{decode}
use Rattle.sch_insn.specs.Spelling.{AllValid, spelling}

-- the one that bytes begin with, and those of the bytes behind it
abbrev pub and_behind : (List ℕ → List Insn) → List ℕ → Option (Insn × ℕ) → List Insn
and_behind rest bs None = []
and_behind rest bs (Some p) = p.0 ∷ rest (drop p.1 bs)

abbrev pub first_spelled : (most : ℕ) → List ℕ → List Insn
first_spelled zero bs = []
first_spelled (suc n) bs = and_behind (first_spelled n) bs (decode bs)

unfoldable pub spelled_by : List ℕ → List Insn
spelled_by bs = first_spelled (length bs) bs

-- The bytes are nothing but the spellings of this number of instructions.
pub record IsText (bytes : List ℕ) (count : ℕ) : Type 0 where
  pub valid : AllValid (spelled_by bytes)
  pub whole : bytes ≡ flat_map spelling (spelled_by bytes)
  pub counted : count ≡ length (spelled_by bytes)
