-- How the memory of a machine lies: no two segments hold the same byte, and none ends behind 2^47.
use Rattle.std.specs.Prelude.{◌≡◌, ℕ, ◌+◌, ◌<◌, ◌≤◌, ◌^◌, List, [], length, map, true, false, Vec}
use Rattle.std.proofs.Common.{get_or}
use Rattle.std.specs.declared.alloc.Global.{Global}
use Rattle.sch_word.specs.values.Memory as words
use Rattle.sch_insn.specs.Machine.{holds}
use Rattle.sch_step.specs.declared.segment.Segment.{Segment}

-- A segment as the definitions have it.
abbrev pub segment_view : Segment → words.Segment
segment_view g = record { address = g.address; readable = g.readable; writable = g.writable; executable = g.executable; bytes = g.bytes.items }

abbrev pub segments_view : Vec Segment Global → List words.Segment
segments_view gs = map segment_view gs.items

abbrev pub nowhere : words.Segment
nowhere = record { address = 0; readable = false; writable = false; executable = false; bytes = [] }

abbrev pub segment_at : List words.Segment → ℕ → words.Segment
segment_at gs i = get_or gs i nowhere

pub record IsMemory (gs : List words.Segment) : Type 0 where
  pub apart : (i j a n : ℕ) → i < j → j < length gs → 0 < n → holds (segment_at gs j) a n ≡ true → holds (segment_at gs i) a n ≡ false
  pub ends : (i : ℕ) → (segment_at gs i).address + length (segment_at gs i).bytes ≤ 2 ^ 47

-- No segment holds these bytes.
abbrev pub NoneHolds : List words.Segment → ℕ → ℕ → Type 0
NoneHolds gs a n = (i : ℕ) → i < length gs → holds (segment_at gs i) a n ≡ false
