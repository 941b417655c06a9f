-- Instructions that are kept once they were fetched, from where nothing can write over them.
use Rattle.std.specs.Prelude.{◌≡◌, ℕ, ◌+◌, ◌<◌, ◌≤◌, ◌^◌, List, Bool, ◌&&◌, not, Option, Some, All}
use Rattle.sch_word.specs.values.Memory.{Segment}
use Rattle.sch_insn.specs.declared.insn.Insn.{Insn}
use Rattle.sch_insn.specs.declared.insn.Insn.TheVariants.{Cqo}
use Rattle.sch_insn.specs.Spelling.{IsValid}
use Rattle.sch_insn.specs.Decode.{decode}
use Rattle.sch_word.specs.values.Options.{when_some}
use Rattle.sch_insn.specs.Machine.{bytes_from}
use Rattle.sch_step.specs.declared.fetched.Fetched.{Fetched}

-- The segment may be executed and not written, so its instructions stay as they are.
abbrev pub is_fixed : Segment → Bool
is_fixed g = g.executable && not g.writable

-- The instruction at an address, which lies in one segment that stays as it is, and its length.
abbrev pub fetch_fixed : List Segment → ℕ → Option (Insn × ℕ)
fetch_fixed gs p = when_some (bytes_from is_fixed gs p 1) decode

-- The instruction and its length are those at the address, and stay so.
pub record IsFetched (gs : List Segment) (f : Fetched) : Type 0 where
  pub valid : IsValid f.insn
  pub low : f.at + f.size ≤ 2 ^ 47
  pub fixed : fetch_fixed gs f.at ≡ Some (f.insn, f.size)

-- An instruction of no bytes stands where none is kept.
abbrev pub nothing_fetched : Fetched
nothing_fetched = record { at = 0; size = 0; insn = Cqo }

abbrev pub AreFetched : List Segment → List Fetched → Type 0
AreFetched gs fs = All (λ f. 0 < f.size → IsFetched gs f) fs
