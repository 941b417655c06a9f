-- Values and objects of a running program (R5RS 3.4 and 6).
use Rattle.std.specs.Prelude.{ℕ, ℤ, Bool, true, false, ◌&&◌, nat_eq, nat_lt, int_le, List}
use Rattle.std.specs.List.{list_all}
use Rattle.sch_word.specs.declared.constant.Const.{Const}
use Rattle.sch_word.specs.declared.constant.Const.TheVariants.{Fixnum, Character, Boolean, Nil, Unspecified, Symbol}
use Rattle.sch_word.specs.values.Fixnum.{is_fixnum}

-- A value is a number or a name and never code: symbols, objects and procedures are known by their
-- numbers. A character is a byte. The number of a cell stands only in variables of languages in
-- which an assigned variable holds its cell; the source language has no such value.
pub data Value : Type 0 where
  fixnum : ℤ → Value
  character : ℕ → Value
  boolean : Bool → Value
  nil : Value
  unspecified : Value
  symbol : ℕ → Value
  object : ℕ → Value
  procedure : ℕ → Value
  cell : ℕ → Value

-- what an object holds; a string is a list of bytes (R5RS 6.3.2, 6.3.5, 6.3.6)
pub data Object : Type 0 where
  pair : Value → Value → Object
  vector : List Value → Object
  string : List ℕ → Object

-- the value of a constant
abbrev pub constant_value : Const → Value
constant_value (Fixnum n) = fixnum n
constant_value (Character byte) = character byte
constant_value (Boolean b) = boolean b
constant_value Nil = nil
constant_value Unspecified = unspecified
constant_value (Symbol n) = symbol n

-- a byte, and a text of bytes
abbrev pub is_byte : ℕ → Bool
is_byte n = nat_lt n 256

abbrev pub are_bytes : List ℕ → Bool
are_bytes = list_all is_byte

-- a constant is a word: its number is a fixnum, its character a byte
abbrev pub is_constant : Const → Bool
is_constant (Fixnum n) = is_fixnum n
is_constant (Character byte) = is_byte byte
is_constant _ = true

-- every value counts as true in a test but `#f` (R5RS 6.3.1)
abbrev pub is_true : Value → Bool
is_true (boolean b) = b
is_true _ = true

abbrev pub same_integer : ℤ → ℤ → Bool
same_integer a b = int_le a b && int_le b a

abbrev pub same_boolean : Bool → Bool → Bool
same_boolean true b = b
same_boolean false true = false
same_boolean false false = true

-- `eqv?` and `eq?`: two values are the same word (R5RS 6.1)
abbrev pub same_value : Value → Value → Bool
same_value (fixnum a) (fixnum b) = same_integer a b
same_value (character a) (character b) = nat_eq a b
same_value (boolean a) (boolean b) = same_boolean a b
same_value nil nil = true
same_value unspecified unspecified = true
same_value (symbol a) (symbol b) = nat_eq a b
same_value (object a) (object b) = nat_eq a b
same_value (procedure a) (procedure b) = nat_eq a b
same_value (cell a) (cell b) = nat_eq a b
same_value _ _ = false
