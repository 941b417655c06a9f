-- The plain data of operands and moves.
use Rattle.std.specs.Prelude.{List, map}
use Rattle.sch_shuffle.specs.declared.operand.Operand.{Operand, Place as InPlace, Fixed, Literal, Read, Read', Row_of-Operand, end_of-Operand, more_of-Operand}
use Rattle.sch_shuffle.specs.declared.moves.Move.{Move}
use Rattle.sch_word.specs.declared.primitive.Primitive.TheVariants.{Eq}
use Rattle.sch_shuffle.specs.Tree.{Tree, Trees, place, fixed, literal, read, no_trees, and_tree}
use Rattle.sch_shuffle.specs.Assignment.{Transfer}

abbrev mutual
  pub tree : Operand → Tree
  tree (InPlace p) = place p
  tree (Fixed n) = fixed n
  tree (Literal k) = literal k
  tree (Read' primitive shape operands) = read primitive (trees_of_row operands)

  pub trees_of_row : {m : _} → Row_of-Operand m → Trees
  trees_of_row end_of-Operand = no_trees
  trees_of_row (more_of-Operand x xs) = and_tree (tree x) (trees_of_row xs)

abbrev pub operands_of : Tree → Trees
operands_of (read primitive xs) = xs
operands_of _ = no_trees

-- the operands of a list, as a vector has them
abbrev pub trees_of : List Operand → Trees
trees_of operands = operands_of (tree (Read Eq operands))

abbrev pub arguments : List Operand → List Tree
arguments operands = map tree operands

abbrev pub transfer_of : Move → Transfer
transfer_of m = record { from = tree m.from; to = m.to; argument = m.argument; temp = m.temp }

abbrev pub transfers_of : List Move → List Transfer
transfers_of moves = map transfer_of moves
