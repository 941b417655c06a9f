-- The levels of data.
use Rattle.std.specs.Prelude.{ℕ, suc, max}
use Rattle.sch_read.specs.Grammar.{Datum, Data, atom, list, dotted, vector, none, cons}

-- each list and each vector is a level
abbrev mutual
  pub depth : Datum → ℕ
  depth (atom at a) = 0
  depth (list at xs) = suc (depths xs)
  depth (dotted at xs last) = suc (max (depths xs) (depth last))
  depth (vector at xs) = suc (depths xs)

  pub depths : Data → ℕ
  depths none = 0
  depths (cons x xs) = max (depth x) (depths xs)
