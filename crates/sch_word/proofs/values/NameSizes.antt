-- How large names are.
use Rattle.std.proofs.Common.{◌≤◌, ℕ, List, [], ◌∷◌, length, arith}
use Rattle.sch_word.specs.runs.Runs.{names_size}

-- each name takes one at least
pub names_few : (names : List (List ℕ)) → length names ≤ names_size names
names_few [] = omega arith
names_few (name ∷ names) = let h = names_few names in omega (arith, h)
