use Rattle.std.proofs.Common.{◌≡◌, ◌<◌, ℕ, length, get_or}
use Rattle.std.specs.Prelude.{bit_or}
use Rattle.sch_sets.proofs.Set.union.Given as goal

abbrev pub invariant-words : goal.invariant-words
invariant-words g l = record {
  size : length l.words ≡ g.row.N;
  written : (j : ℕ) → j < l.i → get_or l.words j 0 ≡ bit_or (get_or l.self-inside.words j 0) (get_or l.other-inside.words j 0);
}
