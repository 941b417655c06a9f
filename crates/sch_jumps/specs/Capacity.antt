-- What the tables of spans have room for.
use Rattle.std.specs.Prelude.{ℕ, ◌+◌, ◌≤◌, vec_len, vec_capacity}
use Rattle.sch_jumps.specs.declared.spans.Spans.{Spans}

-- Each table has room for n jumps more.
pub record HasCapacity (n : ℕ) (s : Spans) : Type 0 where
  pub lows : vec_len s.lows + n ≤ vec_capacity s.lows
  pub highs : vec_len s.highs + n ≤ vec_capacity s.highs
  pub growths : vec_len s.growths + n ≤ vec_capacity s.growths
  pub rooms : vec_len s.rooms + n ≤ vec_capacity s.rooms
  pub longs : vec_len s.longs + n ≤ vec_capacity s.longs
