-- The words of literals that are made from the last one to the first, as contracts see them.
use Rattle.std.specs.Prelude.{◌≡◌, ℕ, ◌+◌, ◌*◌, ◌/◌, List, ◌∷◌, ◌++◌, length, reverse}
use Rattle.sch_word.specs.values.Literals.{Literal}
use Rattle.sch_word.specs.values.LiteralParts.{parts}
use Rattle.sch_select_data.specs.declared.placed_values.PlacedValues.{PlacedValues}
use Rattle.sch_select_data.specs.declared.placing.Placed.{Placed}
use Rattle.sch_select_data.specs.PlacedWords.{ArePlaced}

-- the words of literals, the first one first
abbrev pub in_turn : PlacedValues → List ℕ
in_turn values = reverse values.items.items

-- What is put is these literals, whose objects end at a unit.
abbrev pub ArePut : List Literal → (end : ℕ) → Placed → Type 0
ArePut ls end placed = ArePlaced ls placed.unit end (reverse placed.words) (in_turn placed.values)

-- an object is put before the others, and its word before those of literals
pub record IsObjectPut (contents : List ℕ) (tag : ℕ) (before after : Placed) : Type 0 where
  pub begins : after.unit + length contents / 2 ≡ before.unit
  pub words_are : after.words ≡ before.words ++ reverse contents
  pub values_are : in_turn after.values ≡ (16 * after.unit + tag) ∷ in_turn before.values

-- A literal is put in place of its parts, which came first of those that were put.
abbrev pub IsPut : Literal → (before after : Placed) → Type 0
IsPut l before after = (others : List Literal) (end : ℕ) → ArePut (parts l ++ others) end before → ArePut (l ∷ others) end after
