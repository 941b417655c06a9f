-- What may be quoted in a draft: data in range, and names of bytes.
use Rattle.std.specs.Prelude.{◌≡◌, ℕ, Bool, true, ◌&&◌, List, [], ◌∷◌}
use Rattle.sch_word.specs.values.Fixnum.{is_fixnum}
use Rattle.sch_word.specs.values.Values.{is_byte, are_bytes}
use Rattle.sch_read.specs.Grammar.{Atom, boolean, integer, character, text, symbol as symbol_atom, Datum, Data, atom, list, dotted, vector, none, cons}
use Rattle.sch_sketch.specs.Draft.{Draft, Drafts}
use Rattle.sch_link_tables.specs.Named.{symbols_in, symbols_in_each}
use Rattle.sch_link_tables.specs.Quoted.{quotes_in, quotes_in_each}

abbrev pub atom_in_range : Atom → Bool
atom_in_range (boolean b) = true
atom_in_range (integer z) = is_fixnum z
atom_in_range (character c) = is_byte c
atom_in_range (text bs) = are_bytes bs
atom_in_range (symbol_atom x) = are_bytes x

-- whether what an atom has is in range; any other datum has nothing but its parts
abbrev pub own_in_range : Datum → Bool
own_in_range (atom at a) = atom_in_range a
own_in_range _ = true

abbrev mutual
  pub datum_in_range : Datum → Bool
  datum_in_range (atom at a) = atom_in_range a
  datum_in_range (list at xs) = data_in_range xs
  datum_in_range (dotted at xs x) = data_in_range xs && datum_in_range x
  datum_in_range (vector at xs) = data_in_range xs

  pub data_in_range : Data → Bool
  data_in_range none = true
  data_in_range (cons x xs) = datum_in_range x && data_in_range xs

-- a datum of integers that are fixnums, and of characters, texts and symbols of bytes
abbrev pub IsQuotable : Datum → Type 0
IsQuotable d = datum_in_range d ≡ true

abbrev pub AreQuotable : List Datum → Type 0
AreQuotable [] = Unit {0}
AreQuotable (d ∷ ds) = IsQuotable d × AreQuotable ds

abbrev pub AllQuotable : Data → Type 0
AllQuotable none = Unit {0}
AllQuotable (cons d ds) = IsQuotable d × AllQuotable ds

abbrev pub AreBytes : List (List ℕ) → Type 0
AreBytes [] = Unit {0}
AreBytes (x ∷ xs) = (are_bytes x ≡ true) × AreBytes xs

-- what a draft quotes, and the names of its symbols
abbrev pub HasWords : Draft → Type 0
HasWords e = AreQuotable (quotes_in e) × AreBytes (symbols_in e)

abbrev pub HaveWords : Drafts → Type 0
HaveWords es = AreQuotable (quotes_in_each es) × AreBytes (symbols_in_each es)
