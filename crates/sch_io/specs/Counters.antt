-- Counters of a device. A counter is raised by one up to 2^64 - 1, its last value, and stands there.
use Rattle.std.specs.Prelude.{ℕ, ◌+◌, ◌-◌, ◌^◌, ◌≤◌, min}

-- the counter after it was raised once
abbrev pub raised : ℕ → ℕ
raised n = min (n + 1) (2 ^ 64 - 1)

-- the counter was raised at least once on the way
abbrev pub Rose : ℕ → ℕ → Type 0
Rose before now = raised before ≤ now
