-- Operands as plain data, and which places they use.
use Rattle.std.specs.Prelude.{ℕ, Bool, false, ◌||◌, List, [], ◌∷◌}
use Rattle.sch_word.specs.declared.place.Place.{Place}
use Rattle.sch_word.specs.declared.primitive.Primitive.{Primitive}
use Rattle.sch_word.specs.values.Places.{same_place}

-- what a place holds, a word, the literal with this number, or what a primitive reads of operands
mutual
  pub data Tree : Type 0 where
    place : Place → Tree
    fixed : ℕ → Tree
    literal : ℕ → Tree
    read : Primitive → Trees → Tree

  pub data Trees : Type 0 where
    no_trees : Trees
    and_tree : Tree → Trees → Trees

-- a list of operands, as an operand has it
abbrev pub trees : List Tree → Trees
trees [] = no_trees
trees (x ∷ xs) = and_tree x (trees xs)

-- whether an operand, or one of several, uses a place
abbrev mutual
  pub uses : Tree → Place → Bool
  uses (place q) p = same_place q p
  uses (fixed n) p = false
  uses (literal k) p = false
  uses (read primitive xs) p = uses_one xs p

  pub uses_one : Trees → Place → Bool
  uses_one no_trees p = false
  uses_one (and_tree x xs) p = uses x p || uses_one xs p
