-- Data of which each integer is a fixnum, as the type of the code's integers keeps.
use Rattle.std.specs.Prelude.{◌≡◌, true}
use Rattle.sch_read.specs.Grammar.{Atom, boolean, integer, character, text, symbol, Datum, Data, atom, list, dotted, vector, none, cons}
use Rattle.sch_word.specs.values.Fixnum.{is_fixnum}

abbrev pub IsFixnumAtom : Atom → Type 0
IsFixnumAtom (boolean b) = Unit {0}
IsFixnumAtom (integer z) = is_fixnum z ≡ true
IsFixnumAtom (character c) = Unit {0}
IsFixnumAtom (text bs) = Unit {0}
IsFixnumAtom (symbol bs) = Unit {0}

abbrev mutual
  pub HasFixnums : Datum → Type 0
  HasFixnums (atom at a) = IsFixnumAtom a
  HasFixnums (list at xs) = HaveFixnums xs
  HasFixnums (dotted at xs last) = HaveFixnums xs × HasFixnums last
  HasFixnums (vector at xs) = HaveFixnums xs

  pub HaveFixnums : Data → Type 0
  HaveFixnums none = Unit {0}
  HaveFixnums (cons x xs) = HasFixnums x × HaveFixnums xs
