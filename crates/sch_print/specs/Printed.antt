-- The text of a datum (R5RS 6.6.3, `write`). A quote is written as the list that it means.
use Rattle.std.specs.Prelude.{◌≡◌, ◌==◌, ◌||◌, ◌++◌, ℕ, List, [], ◌∷◌, if◌then◌else◌, codes}
use Rattle.std.specs.Fmt.{signed_decimal}
use Rattle.sch_read.specs.Grammar.{Atom, boolean, integer, character, text, symbol, Datum, Data, atom, list, dotted, vector, none, cons, one}
use Rattle.sch_read.specs.Text.{Spells}

-- space and line feed have names
abbrev pub character_name : ℕ → List ℕ
character_name c = if c == 32 then codes "space" else (if c == 10 then codes "newline" else c ∷ [])

-- a quote and a backslash are escaped, and nothing else
abbrev pub escaped_text : List ℕ → List ℕ
escaped_text [] = []
escaped_text (b ∷ bs) = if b == 34 || b == 92 then 92 ∷ b ∷ escaped_text bs else b ∷ escaped_text bs

abbrev pub atom_text : Atom → List ℕ
atom_text (boolean b) = if b then codes "#t" else codes "#f"
atom_text (integer z) = signed_decimal z
atom_text (character c) = codes "#\\" ++ character_name c
atom_text (text bs) = codes "\"" ++ escaped_text bs ++ codes "\""
atom_text (symbol bs) = bs

-- items are parted by one space, and a dot has one on each side
abbrev mutual
  pub datum_text : Datum → List ℕ
  datum_text (atom at a) = atom_text a
  datum_text (list at xs) = codes "(" ++ items_text xs ++ codes ")"
  datum_text (dotted at xs last) = codes "(" ++ items_text xs ++ codes " . " ++ datum_text last ++ codes ")"
  datum_text (vector at xs) = codes "#(" ++ items_text xs ++ codes ")"

  pub items_text : Data → List ℕ
  items_text none = []
  items_text (cons x xs) = datum_text x ++ more_text xs

  pub more_text : Data → List ℕ
  more_text none = []
  more_text (cons x xs) = codes " " ++ datum_text x ++ more_text xs

-- data with all places at 0
abbrev mutual
  pub without_places : Datum → Datum
  without_places (atom at a) = atom 0 a
  without_places (list at xs) = list 0 (all_without_places xs)
  without_places (dotted at xs last) = dotted 0 (all_without_places xs) (without_places last)
  without_places (vector at xs) = vector 0 (all_without_places xs)

  pub all_without_places : Data → Data
  all_without_places none = none
  all_without_places (cons x xs) = cons (without_places x) (all_without_places xs)

-- the text spells the datum, apart from places
abbrev pub IsTextOf : Datum → List ℕ → Type 0
IsTextOf d bytes = (x : Datum) × Spells bytes (one x) × (without_places x ≡ without_places d)
