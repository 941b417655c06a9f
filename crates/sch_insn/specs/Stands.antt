-- What stands where in a memory: instructions, and bytes that may be read.
use Rattle.std.specs.Prelude.{◌≡◌, ℕ, ◌+◌, ◌-◌, ◌<◌, ◌≤◌, List, [], ◌∷◌, ◌++◌, length, drop, Some}
use Rattle.std.proofs.Common.{◌⊎◌}
use Rattle.sch_word.specs.values.Memory.{Segment}
use Rattle.sch_insn.specs.declared.insn.Insn.{Insn}
use Rattle.sch_insn.specs.Spelling.{spelling}
use Rattle.sch_insn.specs.Machine.{bytes_from}
use Rattle.sch_insn.specs.Step.{fetch}

-- The instruction at an address, with its length.
abbrev pub StandsAt : List Segment → ℕ → Insn → Type 0
StandsAt gs p i = fetch gs p ≡ Some (i, length (spelling i))

-- Instructions one after the other from an address on.
abbrev pub HasAt : List Segment → ℕ → List Insn → Type 0
HasAt gs p [] = Unit {0}
HasAt gs p (i ∷ is) = StandsAt gs p i × HasAt gs (p + length (spelling i)) is

-- Bytes stand in memory that may be read: from each of their places on, all that is left of them.
pub record HasBytes (gs : List Segment) (a : ℕ) (xs : List ℕ) : Type 0 where
  pub from : (k : ℕ) → k < length xs → (rest : List ℕ) × (bytes_from (λ g. g.readable) gs (a + k) (length xs - k) ≡ Some (drop k xs ++ rest))

-- Two segments have no byte in common.
abbrev pub Apart : Segment → Segment → Type 0
Apart g h = (g.address + length g.bytes ≤ h.address) ⊎ (h.address + length h.bytes ≤ g.address)

-- A segment has no byte in common with any of a list.
abbrev pub ApartFrom : Segment → List Segment → Type 0
ApartFrom g [] = Unit {0}
ApartFrom g (h ∷ hs) = Apart g h × ApartFrom g hs
