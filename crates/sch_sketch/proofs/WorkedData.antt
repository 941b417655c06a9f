-- The data of worked rows: numbers, names and bindings, each at a place of the text.
use Rattle.std.proofs.Common.{ℕ, pos, List, codes}
use Rattle.sch_read.specs.Grammar.{Datum, atom, list, none, cons, integer, symbol}

-- a number stands at its own value
abbrev pub number : ℕ → Datum
number n = atom n (integer (pos n))

abbrev pub x : List ℕ
x = codes "x"

abbrev pub y : List ℕ
y = codes "y"

abbrev pub named : ℕ → List ℕ → Datum
named at v = atom at (symbol v)

abbrev pub binding_of : ℕ → List ℕ → Datum
binding_of n v = list n (cons (named n v) (cons (number n) none))
