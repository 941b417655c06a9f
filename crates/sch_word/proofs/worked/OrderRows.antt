-- A vector of a dotted pair, in the order in which each comes before its parts, and in others.
use Rattle.std.proofs.Common.{[], ◌∷◌}
use Rattle.sch_word.specs.trees.InOrder.{AreInOrder, none, next}
use Rattle.sch_word.specs.values.LiteralParts.{parts}
use Rattle.sch_word.specs.values.Literals.{Literal, constant, list, elements, no_literals, and_literal}
use Rattle.sch_word.proofs.facts.TreesInOrder.{walks}
use Rattle.sch_word.specs.declared.constant.Const.TheVariants.{Nil, Unspecified}

abbrev first : Literal
first = constant Unspecified

abbrev last : Literal
last = constant Nil

abbrev pair : Literal
pair = list (and_literal first no_literals) last

abbrev vector : Literal
vector = elements (and_literal pair no_literals)

in_order : AreInOrder parts (vector ∷ pair ∷ first ∷ last ∷ []) (vector ∷ [])
in_order = next vector (pair ∷ first ∷ last ∷ []) [] [] (next pair (first ∷ last ∷ []) [] [] (next first [] (last ∷ []) (last ∷ []) none (next last [] [] [] none none)) none) none

-- the end of the pair before what it begins with
turned : AreInOrder parts (vector ∷ pair ∷ last ∷ first ∷ []) (vector ∷ []) → ⊥
turned w = let same = (walks parts _ _ w).2.2.1 in absurd cc

-- a part is missing
without_last : AreInOrder parts (vector ∷ pair ∷ first ∷ []) (vector ∷ []) → ⊥
without_last w = let v = walks parts _ _ w in let other = v.2.2.1 in let left = v.2.2.2 in absurd cc
