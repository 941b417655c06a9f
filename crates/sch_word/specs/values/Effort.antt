-- What is left to do while trees are let go, in numbers.
use Rattle.std.specs.Prelude.{ℕ, ◌+◌, ◌*◌}

-- It falls with each step: either all trees together are smaller, or they are as large as before and the next one is
-- smaller.
abbrev pub effort : (next rest : ℕ) → ℕ
effort next rest = (next + rest) * (next + rest) + next
