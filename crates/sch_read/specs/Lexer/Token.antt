-- The token that a lexeme is (R5RS 7.1.1). White space and comments are none.
use Rattle.std.specs.Prelude.{◌==◌, ◌||◌, ◌&&◌, ◌+◌, ℕ, ℤ, Bool, true, false, List, [], ◌∷◌, if◌then◌else◌, codes, drop, slice_index}
use Rattle.std.specs.Str.{bytes_eq}
use Rattle.std.specs.Str.Parse.{without_leading_sign, signed_digits_value}
use Rattle.sch_word.specs.values.Fixnum.{is_fixnum}
use Rattle.sch_read.specs.Lexer.Letters.{is_white, folded, is_escape, escaped}
use Rattle.sch_read.specs.Lexer.Lexeme.{is_empty}
use Rattle.sch_read.specs.Lexer.Numerals.{is_number_like, base_of, numeral_of, are_digits}
use Rattle.sch_read.specs.Lexer.Identifiers.{is_identifier}
use Rattle.sch_read.specs.Grammar.{Token, Open, Close, Dot, Plain, Huge, Bad, parenthesis, hash_parenthesis, quote_mark, bad_token, bad_number, bad_string, boolean, integer, character, text, symbol}

abbrev pub integer_at : ℕ → ℤ → Token
integer_at at z = if is_fixnum z then Plain at (integer z) else Huge at

-- an optional sign, and at least one digit of the base
abbrev pub number_at : ℕ → ℕ → List ℕ → Token
number_at at base numeral =
    if are_digits base (without_leading_sign numeral) then integer_at at (signed_digits_value base numeral)
    else Bad at bad_number

-- what follows `#\`: one byte, or one of the two names
abbrev pub character_at : ℕ → List ℕ → Token
character_at at [] = Bad at bad_token
character_at at (b ∷ bs) =
    if is_empty bs then Plain at (character b)
    else (if bytes_eq (folded (b ∷ bs)) (codes "space") then Plain at (character 32)
    else (if bytes_eq (folded (b ∷ bs)) (codes "newline") then Plain at (character 10)
    else Bad at bad_token))

-- a word that is neither a number nor a character
abbrev pub name_at : ℕ → List ℕ → Token
name_at at word =
    if bytes_eq word (codes ".") then Dot at
    else (if bytes_eq (folded word) (codes "#t") then Plain at (boolean true)
    else (if bytes_eq (folded word) (codes "#f") then Plain at (boolean false)
    else (if is_identifier word then Plain at (symbol (folded word))
    else Bad at bad_token)))

abbrev pub is_character : List ℕ → Bool
is_character word = slice_index word 0 == 35 && slice_index word 1 == 92

abbrev pub word_at : ℕ → List ℕ → Token
word_at at word =
    if bytes_eq word (codes "#(") then Open at hash_parenthesis
    else (if is_character word then character_at at (drop 2 word)
    else (if is_number_like word then number_at at (base_of word) (numeral_of word)
    else name_at at word))

-- what is read between a string's quotes: its bytes, or nothing where it does not end or has an escape
-- that is none, at a place
pub data Content : Type 0 where
  Whole : List ℕ → Content
  Unended : Content
  NoEscape : ℕ → Content

abbrev pub with_byte : ℕ → Content → Content
with_byte b (Whole bs) = Whole (b ∷ bs)
with_byte b Unended = Unended
with_byte b (NoEscape at) = NoEscape at

-- the rest of a string, from a place on
abbrev mutual
  pub content : ℕ → List ℕ → Content
  content at [] = Unended
  content at (b ∷ bs) = if b == 34 then Whole [] else (if b == 92 then escape_content at bs else with_byte b (content (at + 1) bs))

  pub escape_content : ℕ → List ℕ → Content
  escape_content at [] = Unended
  escape_content at (b ∷ bs) = if is_escape b then with_byte (escaped b) (content (at + 2) bs) else NoEscape at

-- an ill formed escape stands at its backslash, and a string with no end at its opening quote
abbrev pub string_of : ℕ → Content → Token
string_of at (Whole bs) = Plain at (text bs)
string_of at Unended = Bad at bad_string
string_of at (NoEscape place) = Bad place bad_string

abbrev pub string_at : ℕ → List ℕ → Token
string_at at rest = string_of at (content (at + 1) rest)

abbrev pub token_at : ℕ → List ℕ → List Token
token_at at [] = []
token_at at (b ∷ bs) =
    if is_white b || b == 59 then []
    else (if b == 40 then Open at parenthesis ∷ []
    else (if b == 41 then Close at ∷ []
    else (if b == 39 then Open at quote_mark ∷ []
    else (if b == 34 then string_at at bs ∷ []
    else word_at at (b ∷ bs) ∷ []))))
