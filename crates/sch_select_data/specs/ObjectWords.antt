-- The words of values and of objects, with the parts that the objects have.
use Rattle.std.specs.Prelude.{ℕ, zero, suc, ◌+◌, ◌*◌, ◌/◌, List, [], ◌∷◌, ◌++◌, length, map, drop, Option, Some, None, pos, ◌*ℤ◌}
use Rattle.std.specs.Int.{w64, from_le_bytes}
use Rattle.sch_word.specs.values.Values.{Value, fixnum, character, boolean, nil, unspecified, symbol, object, procedure, cell, Object, pair, vector, string}
use Rattle.sch_insn.specs.Machine.{word}
use Rattle.sch_asm.specs.declared.assembly.Word.{Word}
use Rattle.sch_asm.specs.declared.assembly.Word.TheVariants.{Fixed}
use Rattle.sch_select_memory.specs.Parts.{a_procedure, a_cell, a_pair, a_vector, a_string, Parts, Spot, spot}
use Rattle.sch_select_memory.specs.Encoded.{boolean_word, nil_word, unspecified_word, character_tag, symbol_tag, pair_tag, vector_tag, string_tag, procedure_tag, cell_tag}

-- ## Words of values

-- the word of what has a spot, and another one where it has none
abbrev pub word_at_spot : Option Spot → (tag other : ℕ) → ℕ
word_at_spot None tag other = other
word_at_spot (Some at) tag other = 16 * at.unit + tag

-- the word of an object, by the kind of its part
abbrev pub object_word : Parts → (n : ℕ) → ℕ
object_word parts n =
    word_at_spot (spot parts (a_pair n)) pair_tag
    (word_at_spot (spot parts (a_vector n)) vector_tag
    (word_at_spot (spot parts (a_string n)) string_tag 0))

abbrev pub value_word : Parts → Value → ℕ
value_word parts (fixnum n) = word (pos 8 *ℤ n)
value_word parts (character byte) = 256 * byte + character_tag
value_word parts (boolean b) = boolean_word b
value_word parts nil = nil_word
value_word parts unspecified = unspecified_word
value_word parts (symbol n) = 8 * n + symbol_tag
value_word parts (object n) = object_word parts n
value_word parts (procedure n) = word_at_spot (spot parts (a_procedure n)) procedure_tag 0
value_word parts (cell n) = word_at_spot (spot parts (a_cell n)) cell_tag 0

-- ## Words of objects (R5RS 6.3)

-- n words of bytes, the lowest byte first, with zeros behind the last
abbrev pub text_words : (n : ℕ) → List ℕ → List ℕ
text_words zero bytes = []
text_words (suc n) bytes = from_le_bytes w64 bytes ∷ text_words n (drop 8 bytes)

-- a word 0 behind words of which one more makes whole units
abbrev pub in_units : List ℕ → List ℕ
in_units [] = []
in_units (a ∷ []) = a ∷ 0 ∷ []
in_units (a ∷ (b ∷ ws)) = a ∷ b ∷ in_units ws

-- A vector and a string begin with the word of their length.
abbrev pub vector_contents : List ℕ → List ℕ
vector_contents elements = in_units (8 * length elements ∷ elements)

abbrev pub string_contents : List ℕ → List ℕ
string_contents text = in_units (8 * length text ∷ text_words ((length text + 7) / 8) text)

abbrev pub object_contents : Parts → Object → List ℕ
object_contents parts (pair a d) = value_word parts a ∷ value_word parts d ∷ []
object_contents parts (vector elements) = vector_contents (map (value_word parts) elements)
object_contents parts (string text) = string_contents text

abbrev pub objects_contents : Parts → List Object → List ℕ
objects_contents parts [] = []
objects_contents parts (o ∷ os) = object_contents parts o ++ objects_contents parts os

-- ## As words of data

abbrev pub object_words : Parts → Object → List Word
object_words parts o = map Fixed (object_contents parts o)

abbrev pub objects_words : Parts → List Object → List Word
objects_words parts os = map Fixed (objects_contents parts os)
