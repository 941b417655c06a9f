-- The word of each value, with the parts of a heap.
use Rattle.std.specs.Prelude.{◌≡◌, ℕ, zero, suc, ◌+◌, ◌-◌, ◌*◌, ◌^◌, ◌<◌, Bool, true, false, Option, Some, None, ℤ, pos, neg_ℤ, ◌*ℤ◌, ◌⊎◌}
use Rattle.sch_word.specs.declared.constant.Const.{Const}
use Rattle.sch_word.specs.declared.constant.Const.TheVariants.{Fixnum, Character, Boolean, Nil, Unspecified, Symbol}
use Rattle.sch_word.specs.values.Values.{Value, fixnum, character, boolean, nil, unspecified, symbol, object, procedure, cell}
use Rattle.sch_asm.specs.Data.{FixnumWord}
use Rattle.sch_select_memory.specs.Parts.{Owner, a_procedure, a_cell, a_pair, a_vector, a_string, Parts, Spot, spot}

-- The low three bits of a word are its tag: 0 of a fixnum, 6 of an immediate. The low byte of an immediate
-- says which it is. Only a character has bits above, and the two booleans differ in bit 7 alone.
abbrev pub false_word : ℕ
false_word = 6

abbrev pub true_word : ℕ
true_word = 134

abbrev pub nil_word : ℕ
nil_word = 22

abbrev pub unspecified_word : ℕ
unspecified_word = 30

-- what stands where a global or a cell has no value; no value has this word
abbrev pub unset_word : ℕ
unset_word = 38

abbrev pub character_tag : ℕ
character_tag = 46

abbrev pub boolean_word : Bool → ℕ
boolean_word false = false_word
boolean_word true = true_word

abbrev pub procedure_tag : ℕ
procedure_tag = 4

abbrev pub cell_tag : ℕ
cell_tag = 7

abbrev pub pair_tag : ℕ
pair_tag = 1

abbrev pub vector_tag : ℕ
vector_tag = 2

abbrev pub string_tag : ℕ
string_tag = 3

abbrev pub symbol_tag : ℕ
symbol_tag = 5

abbrev pub fixnum_tag : ℕ
fixnum_tag = 0

-- the bits of a word that are its tag, and those that say which immediate it is; without the last of these both booleans
-- are the same
abbrev pub tag_mask : ℕ
tag_mask = 7

abbrev pub byte_mask : ℕ
byte_mask = 255

abbrev pub boolean_mask : ℕ
boolean_mask = 127

-- The displacement of a word of a part from a word with a tag that names the part, by how many words of the part are before it. A
-- tag is below 8, the bytes of a word.
abbrev pub word_displacement : (tag index : ℕ) → ℤ
word_displacement tag zero = neg_ℤ (pos tag)
word_displacement tag (suc k) = pos (8 - tag + 8 * k)

-- how far a number of units of 16 bytes is above the end of that of their bytes
abbrev pub unit_shift : ℕ
unit_shift = 4

-- how far a fixnum's number and a character's byte are above the end of their words
abbrev pub fixnum_shift : ℕ
fixnum_shift = 3

abbrev pub character_shift : ℕ
character_shift = 8

-- symbols are numbered below this number
abbrev pub max_symbols : ℕ
max_symbols = 4294967296

-- A word names a part: the address of its first unit, and a tag.
pub record Names (parts : Parts) (o : Owner) (tag x : ℕ) : Type 0 where
  pub at : Spot
  pub there : spot parts o ≡ Some at
  pub is : x ≡ 16 * at.unit + tag
  pub fits : x < 2 ^ 64

-- A word of an object, by its kind.
abbrev pub NamesObject : Parts → (n : ℕ) → (x : ℕ) → Type 0
NamesObject parts n x = Names parts (a_pair n) pair_tag x ⊎ (Names parts (a_vector n) vector_tag x ⊎ Names parts (a_string n) string_tag x)

-- A word of a value.
abbrev pub IsWord : Parts → Value → ℕ → Type 0
IsWord parts (fixnum n) x = FixnumWord n x
IsWord parts (character byte) x = (x ≡ 256 * byte + character_tag) × (byte < 256)
IsWord parts (boolean b) x = x ≡ boolean_word b
IsWord parts nil x = x ≡ nil_word
IsWord parts unspecified x = x ≡ unspecified_word
IsWord parts (symbol n) x = (x ≡ 8 * n + symbol_tag) × (n < max_symbols) × (n < parts.symbols)
IsWord parts (object n) x = NamesObject parts n x
IsWord parts (procedure n) x = Names parts (a_procedure n) procedure_tag x
IsWord parts (cell n) x = Names parts (a_cell n) cell_tag x

-- The word of what may be unset: a global, or what a cell holds.
abbrev pub IsHeld : Parts → Option Value → ℕ → Type 0
IsHeld parts None x = x ≡ unset_word
IsHeld parts (Some v) x = IsWord parts v x

-- Each word of a value under some parts is one under others.
abbrev pub Words : (before after : Parts) → Type 0
Words before after = (v : Value) (x : ℕ) → IsWord before v x → IsWord after v x

-- The word of a constant, as a number with a sign.
abbrev pub constant_number : Const → ℤ
constant_number (Fixnum n) = pos 8 *ℤ n
constant_number (Character byte) = pos (256 * byte + character_tag)
constant_number (Boolean b) = pos (boolean_word b)
constant_number Nil = pos nil_word
constant_number Unspecified = pos unspecified_word
constant_number (Symbol n) = pos (8 * n + symbol_tag)
