-- The parts and the words of some literals, which compute.
use Rattle.std.proofs.Common.{◌≡◌, ℕ, List, [], ◌∷◌, ◌++◌, false, refl, replicate}
use Rattle.sch_word.specs.trees.InOrder.{AreInOrder, none, next}
use Rattle.sch_word.specs.values.LiteralParts.{parts}
use Rattle.sch_word.specs.declared.constant.Const.TheVariants.{Fixnum, Character, Boolean, Nil, Symbol}
use Rattle.sch_word.specs.values.Values.{fixnum, vector, string}
use Rattle.sch_word.specs.values.Literals.{Literal, Literals, constant, text, list, elements, literals, literal_values, objects_of_each}
use Rattle.sch_select_memory.specs.Parts.{a_pair, a_vector, a_string, Parts}
use Rattle.sch_asm.specs.declared.assembly.Word.TheVariants.{Fixed}
use Rattle.std.specs.Prelude.{map, pos, negsuc}
use Rattle.sch_select_data.specs.ObjectParts.{object_parts, parts_at}
use Rattle.sch_select_data.specs.ObjectWords.{value_word, object_contents, objects_contents, object_words}
use Rattle.sch_select_data.specs.PlacedWords.{placed_values, placed_each, units_in, own_units, ArePlaced}
use Rattle.sch_select_data.specs.PlacedView.{in_turn, IsObjectPut}
use Rattle.sch_select_data.specs.declared.placed_values.PlacedValues.{PlacedValues}

-- (1 (2 . 3) "ab" #\a sym), whose symbol has the number 7
abbrev one : Literal
one = list (literals (constant (Fixnum (pos 1)) ∷ list (literals (constant (Fixnum (pos 2)) ∷ [])) (constant (Fixnum (pos 3))) ∷ text (97 ∷ 98 ∷ []) ∷ constant (Character 97) ∷ constant (Symbol 7)
    ∷ [])) (constant Nil)

parts_one : object_parts 0 (objects_of_each (literals (one ∷ [])) 0) ≡
    record { owner = a_pair 0; more = 0 } ∷ record { owner = a_pair 1; more = 0 } ∷ record { owner = a_pair 2; more = 0 }
    ∷ record { owner = a_pair 3; more = 0 } ∷ record { owner = a_pair 4; more = 0 } ∷ record { owner = a_pair 5; more = 0 }
    ∷ record { owner = a_string 6; more = 0 } ∷ []
parts_one = refl

words_one : objects_contents (parts_at 100 (objects_of_each (literals (one ∷ [])) 0)) (objects_of_each (literals (one ∷ [])) 0) ≡
    8 ∷ 1617 ∷ 1681 ∷ 1633 ∷ 1699 ∷ 1649 ∷ 24878 ∷ 1665 ∷ 61 ∷ 22 ∷ 16 ∷ 24 ∷ 16 ∷ 25185 ∷ []
words_one = refl

placed_one : placed_each (literals (one ∷ [])) 100 ≡
    8 ∷ 1617 ∷ 1681 ∷ 1633 ∷ 1699 ∷ 1649 ∷ 24878 ∷ 1665 ∷ 61 ∷ 22 ∷ 16 ∷ 24 ∷ 16 ∷ 25185 ∷ []
placed_one = refl

value_one : (map (value_word (parts_at 100 (objects_of_each (literals (one ∷ [])) 0))) (literal_values (literals (one ∷ [])) 0) ≡ 1601 ∷ []) × (placed_values (literals (one ∷ [])) 100 ≡ 1601 ∷ [])
value_one = (refl, refl)

-- a vector of 1, an empty vector, an empty string and -1; and then #f
abbrev two : Literals
two = literals (elements (literals (constant (Fixnum (pos 1)) ∷ elements (literals []) ∷ text [] ∷ constant (Fixnum (negsuc 0)) ∷ [])) ∷ constant (Boolean false) ∷ [])

parts_two : object_parts 0 (objects_of_each two 0) ≡
    record { owner = a_vector 0; more = 2 } ∷ record { owner = a_vector 1; more = 0 } ∷ record { owner = a_string 2; more = 0 } ∷ []
parts_two = refl

words_two : objects_contents (parts_at 100 (objects_of_each two 0)) (objects_of_each two 0) ≡
    32 ∷ 8 ∷ 1650 ∷ 1667 ∷ 18446744073709551608 ∷ 0 ∷ 0 ∷ 0 ∷ 0 ∷ 0 ∷ []
words_two = refl

placed_two : (placed_each two 100 ≡ 32 ∷ 8 ∷ 1650 ∷ 1667 ∷ 18446744073709551608 ∷ 0 ∷ 0 ∷ 0 ∷ 0 ∷ 0 ∷ []) × (placed_values two 100 ≡ 1602 ∷ 6 ∷ [])
placed_two = (refl, refl)

-- strings of eight bytes and of nine
eight_bytes : (parts : Parts) → object_contents parts (string (1 ∷ 2 ∷ 3 ∷ 4 ∷ 5 ∷ 6 ∷ 7 ∷ 8 ∷ [])) ≡ 64 ∷ 0x807060504030201 ∷ []
eight_bytes parts = refl

nine_bytes : (parts : Parts) → object_contents parts (string (1 ∷ 2 ∷ 3 ∷ 4 ∷ 5 ∷ 6 ∷ 7 ∷ 8 ∷ 9 ∷ [])) ≡ 72 ∷ 0x807060504030201 ∷ 9 ∷ 0 ∷ []
nine_bytes parts = refl

as_data : (parts : Parts) → object_words parts (vector (fixnum (pos 5) ∷ [])) ≡ Fixed 8 ∷ Fixed 40 ∷ []
as_data parts = refl

-- ## Units, and literals one behind the other

own_units_rows :
    (own_units (constant Nil) ≡ 0) × (own_units (text []) ≡ 1)
    × (own_units (text (replicate 8 97)) ≡ 1) × (own_units (text (replicate 9 97)) ≡ 2)
    × (own_units (elements (literals (text [] ∷ []))) ≡ 1)
    × (own_units (elements (literals (text [] ∷ constant Nil ∷ []))) ≡ 2)
    × (own_units (list (literals (text [] ∷ constant Nil ∷ [])) (text [])) ≡ 2)
own_units_rows = (refl, refl, refl, refl, refl, refl, refl)

-- two pairs and two strings of a unit each
all_units : units_in (list (literals (text [] ∷ constant Nil ∷ [])) (text [])) ≡ 4
all_units = refl

-- `#("")` and `#()` from unit 3 on
placed_row : ArePlaced (elements (literals (text [] ∷ [])) ∷ elements (literals []) ∷ []) 3 6 (8 ∷ 67 ∷ 0 ∷ 0 ∷ 0 ∷ 0 ∷ []) (50 ∷ 82 ∷ [])
placed_row = record { ends = refl; words_are = refl; values_are = refl }

object_put : (words : List ℕ) (from to : PlacedValues) → in_turn to ≡ 34 ∷ in_turn from →
    IsObjectPut (8 ∷ 40 ∷ []) 2 (record { words = words; values = from; unit = 3 }) (record { words = words ++ 40 ∷ 8 ∷ []; values = to; unit = 2 })
object_put words from to e = record { begins = refl; words_are = refl; values_are = e }

-- ## Literals in order

-- a pair and what stands behind it
two_in_order : (a b c : Literal) → parts a ≡ [] → parts b ≡ [] → parts c ≡ []
    → AreInOrder parts (list (literals (a ∷ [])) b ∷ a ∷ b ∷ c ∷ []) (list (literals (a ∷ [])) b ∷ c ∷ [])
two_in_order a b c no_a no_b no_c =
    let leaf : (l : Literal) → parts l ≡ [] → AreInOrder parts [] (parts l) = λ l e. rw e none in
    next (list (literals (a ∷ [])) b) (a ∷ b ∷ []) (c ∷ []) (c ∷ [])
    (next a [] (b ∷ []) (b ∷ []) (leaf a no_a) (next b [] [] [] (leaf b no_b) none))
    (next c [] [] [] (leaf c no_c) none)
