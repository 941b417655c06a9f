-- The range of fixnums, the integers of a program (R5RS 6.2.3 lets an implementation bound them).
use Rattle.std.specs.Prelude.{ℤ, ◌≤ℤ◌, int_le, Bool, ◌&&◌}
use Rattle.sch_word.specs.declared.fix.TheConstants.{FIXNUM_MIN, FIXNUM_MAX}

-- an integer is a fixnum where it is from the least to the greatest one
pub record IsFixnum (z : ℤ) : Type 0 where
  pub low : FIXNUM_MIN ≤ℤ z
  pub high : z ≤ℤ FIXNUM_MAX

-- the same as a test
abbrev pub is_fixnum : ℤ → Bool
is_fixnum z = int_le FIXNUM_MIN z && int_le z FIXNUM_MAX
