-- Valid data, and their weight.
use Rattle.std.specs.Prelude.{◌≡◌, ◌≢◌, ◌+◌, ℕ, ◌*◌, true, length}
use Rattle.sch_read.specs.Grammar.{Atom, boolean, integer, character, text, symbol, Datum, Data, atom, list, dotted, vector, none, cons}
use Rattle.sch_read.specs.Lexer.Letters.{folded}
use Rattle.sch_read.specs.Lexer.Identifiers.{is_identifier}

-- a symbol is an identifier in lower case
abbrev pub IsValidAtom : Atom → Type 0
IsValidAtom (boolean b) = Unit {0}
IsValidAtom (integer z) = Unit {0}
IsValidAtom (character c) = Unit {0}
IsValidAtom (text bs) = Unit {0}
IsValidAtom (symbol bs) = (is_identifier bs ≡ true) × (folded bs ≡ bs)

abbrev pub IsNoList : Datum → Type 0
IsNoList (atom at a) = Unit {0}
IsNoList (list at xs) = ⊥
IsNoList (dotted at xs last) = ⊥
IsNoList (vector at xs) = Unit {0}

-- no list after a dot, and something before it
abbrev mutual
  pub IsValid : Datum → Type 0
  IsValid (atom at a) = IsValidAtom a
  IsValid (list at xs) = AreValid xs
  IsValid (dotted at xs last) = (xs ≢ none) × AreValid xs × IsNoList last × IsValid last
  IsValid (vector at xs) = AreValid xs

  pub AreValid : Data → Type 0
  AreValid none = Unit {0}
  AreValid (cons x xs) = IsValid x × AreValid xs

abbrev pub bytes_in : Atom → ℕ
bytes_in (boolean b) = 0
bytes_in (integer z) = 0
bytes_in (character c) = 0
bytes_in (text bs) = length bs
bytes_in (symbol bs) = length bs

-- how many data there are at every level, and how many bytes in texts and symbols
abbrev mutual
  pub weight : Datum → ℕ
  weight (atom at a) = 1 + bytes_in a
  weight (list at xs) = 1 + weights xs
  weight (dotted at xs last) = 1 + weights xs + weight last
  weight (vector at xs) = 1 + weights xs

  pub weights : Data → ℕ
  weights none = 0
  weights (cons x xs) = weight x + weights xs

-- the most weight of the data of a text for each of its bytes
abbrev pub max_byte_weight : ℕ
max_byte_weight = 7

-- the most weight of the data of a text of 1 MiB
abbrev pub max_weight : ℕ
max_weight = max_byte_weight * 0x100000
