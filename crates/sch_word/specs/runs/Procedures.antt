-- The procedures of a run of a program whose bodies stand in a list.
use Rattle.std.specs.Prelude.{ℕ, List, [], ◌∷◌}
use Rattle.sch_word.specs.values.Values.{Value}

-- a procedure: the label of its body, and the values of its free variables
pub record Procedure : Type 0 where
  pub label : ℕ
  pub fields : List Value

-- the procedures of the library, by their labels, which have no free variables
abbrev pub library_procedures : List ℕ → List Procedure
library_procedures [] = []
library_procedures (label ∷ library) = record { label = label; fields = [] } ∷ library_procedures library
