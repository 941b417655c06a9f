-- Numbers that are drawn one after the other, as by the portable `rand` of ISO C (C11 7.22.2.2, the example): here each
-- below a bound, with a state of 31 bits.
use Rattle.std.specs.Prelude.{ℕ, ◌+◌, ◌*◌, ◌/◌, ◌%◌, ◌^◌}

-- what a draw answers, and the state after it
pub record Draw : Type 0 where
  pub answer : ℕ
  pub state : ℕ

-- a state has 31 bits
abbrev pub modulus : ℕ
modulus = 2 ^ 31

-- an answer is made of a state without its low 16 bits
abbrev pub divisor : ℕ
divisor = 2 ^ 16

-- the state after x
abbrev pub next_state : ℕ → ℕ
next_state x = (1103515245 * x + 12345) % modulus

-- the draw of a number below k at the state x
unfoldable pub draw : ℕ → ℕ → Draw
draw x k = record { answer = next_state x / divisor % k; state = next_state x }
