-- What operands give, over what places hold.
use Rattle.std.specs.Prelude.{ℕ, List, [], ◌∷◌}
use Rattle.sch_word.specs.declared.place.Place.{Place}
use Rattle.sch_word.specs.declared.primitive.Primitive.{Primitive}
use Rattle.sch_shuffle.specs.Tree.{Tree, Trees, place, fixed, literal, read, no_trees, and_tree}

-- A way of reading operands that are no places, in anything V that places may hold: what a word is, what a
-- literal is, by its number alone, and what a primitive reads of what its operands give.
pub record Reading (V : Type 0) : Type 0 where
  pub fixed : ℕ → V
  pub literal : ℕ → V
  pub read : Primitive → List V → V

-- what an operand gives where each place holds what s has there
abbrev mutual
  pub given : {V : Type 0} → Reading V → (Place → V) → Tree → V
  given r s (place p) = s p
  given r s (fixed n) = r.fixed n
  given r s (literal k) = r.literal k
  given r s (read primitive xs) = r.read primitive (each_given r s xs)

  pub each_given : {V : Type 0} → Reading V → (Place → V) → Trees → List V
  each_given r s no_trees = []
  each_given r s (and_tree x xs) = given r s x ∷ each_given r s xs
