-- Which variables are assigned, as marks of the variables in scope.
use Rattle.std.specs.Prelude.{ℕ, suc, Bool, ◌||◌, List, [], ◌∷◌}

-- marks of the variables from j on, with those that a test tells
abbrev pub marked : (ℕ → Bool) → (j : ℕ) → List Bool → List Bool
marked test j [] = []
marked test j (b ∷ bs) = (b || test j) ∷ marked test (suc j) bs
