use Rattle.std.proofs.Common.{◌≡◌, ◌<◌, ℕ, get_or}
use Rattle.sch_sets.proofs.Set.is_empty.Given as goal

abbrev pub invariant-words : goal.invariant-words
invariant-words g l = (j : ℕ) → j < l.i → get_or l.self-inside.words j 0 ≡ 0
