-- A memory is a list of segments: bytes from an address on, with the rights to read, write and
-- execute them (ELF-64, program header: p_vaddr, p_flags).
use Rattle.std.specs.Prelude.{ℕ, Bool, List}

pub record Segment : Type 0 where
  pub address : ℕ
  pub readable : Bool
  pub writable : Bool
  pub executable : Bool
  pub bytes : List ℕ
