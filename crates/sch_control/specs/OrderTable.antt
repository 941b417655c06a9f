-- The order table under which a normal program runs: at each site what is bound, in order, then the other parts by
-- their numbers.
use Rattle.std.specs.Prelude.{ℕ, List, [], ◌∷◌, ◌++◌}
use Rattle.sch_word.specs.trees.NumberSets.{has, unless}
use Rattle.sch_word.specs.trees.Bindings.{numbers}
use Rattle.sch_control.specs.Tree.{Source}

-- the numbers of a list that are not among these
abbrev pub others : List ℕ → List ℕ → List ℕ
others parts [] = []
others parts (k ∷ ks) = unless (has k parts) k (others parts ks)

abbrev pub given_order : (width : ℕ) → (parts : List ℕ) → List ℕ
given_order width parts = parts ++ others parts (numbers 0 width)

abbrev pub given_orders : (sites : List ℕ) → (bound : List (List ℕ)) → List (List ℕ)
given_orders (width ∷ sites) (parts ∷ bound) = given_order width parts ∷ given_orders sites bound
given_orders _ _ = []

abbrev pub given_table : Source → List (List ℕ)
given_table p = given_orders p.sites p.bound
