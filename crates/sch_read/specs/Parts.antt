-- What a datum is taken apart into.
use Rattle.std.specs.Prelude.{ℕ, zero, suc}
use Rattle.sch_read.specs.Grammar.{Datum, Data, atom, list, dotted, vector, none, cons, symbol}

-- the offset of a datum: the number of bytes before it
abbrev pub offset : Datum → ℕ
offset (atom at a) = at
offset (list at xs) = at
offset (dotted at xs x) = at
offset (vector at xs) = at

abbrev pub how_many : Data → ℕ
how_many none = zero
how_many (cons x xs) = suc (how_many xs)

abbrev pub IsNoAtom : Datum → Type 0
IsNoAtom (atom at a) = ⊥
IsNoAtom _ = Unit {0}

abbrev pub IsNoSymbol : Datum → Type 0
IsNoSymbol (atom at (symbol x)) = ⊥
IsNoSymbol _ = Unit {0}

-- a list without a dot is a proper one
abbrev pub IsNoProperList : Datum → Type 0
IsNoProperList (list at xs) = ⊥
IsNoProperList _ = Unit {0}
