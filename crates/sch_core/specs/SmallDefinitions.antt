-- Definitions that are too small to have too much of anything.
use Rattle.std.specs.Prelude.{ℕ, ◌+◌, Bool, nat_le}
use Rattle.sch_sketch.specs.DraftMeasures.{size}
use Rattle.sch_link_tables.specs.Programs.{Definition}

-- A node of a body counts as one variable at most, and a bound variable as three; three times this is below 1,000.
abbrev pub max_small : ℕ
max_small = 333

-- whether a definition, which is a procedure, has at most so many nodes and bound variables
abbrev pub is_small : Definition → Bool
is_small d = nat_le (1 + d.formals + size d.body) max_small
