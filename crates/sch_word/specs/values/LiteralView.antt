-- The plain data of a literal of the program's type.
use Rattle.std.specs.Prelude.{List}
use Rattle.sch_word.specs.declared.literal.Lit.{Lit, Constant, Text, List', Vector, Vector', Row_of-Lit, end_of-Lit, more_of-Lit}
use Rattle.sch_word.specs.values.Literals.{Literal, Literals, constant, text, list, elements, no_literals, and_literal}

abbrev mutual
  pub literal : Lit → Literal
  literal (Constant c) = constant c
  literal (Text bytes) = text bytes
  literal (List' s items p tail) = list (literals_of_row items) (literal tail)
  literal (Vector' s items) = elements (literals_of_row items)

  pub literals_of_row : {m : _} → Row_of-Lit m → Literals
  literals_of_row end_of-Lit = no_literals
  literals_of_row (more_of-Lit l ls) = and_literal (literal l) (literals_of_row ls)

abbrev pub listed : Literal → Literals
listed (elements ls) = ls
listed _ = no_literals

-- the literals of a list, as a vector has them
abbrev pub literals_of : List Lit → Literals
literals_of ls = listed (literal (Vector ls))
