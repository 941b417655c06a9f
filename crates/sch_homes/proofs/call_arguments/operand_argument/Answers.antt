use Rattle.std.proofs.Common.{◌∙◌, ap, map, sym}
use Rattle.sch_shuffle.specs.Tree.{read, trees}
use Rattle.sch_shuffle.proofs.OperandRows.{trees_of_list}
use Rattle.sch_homes.specs.CallMoves.{atom_tree, operand_tree}
use Rattle.sch_homes.proofs.call_arguments.operand_argument.Goals as goal

pub returns-in_ok-atoms-in-Read : goal.returns-in_ok-atoms-in-Read
returns-in_ok-atoms-in-Read c =
    ap (read c.in-Read.which) (trees_of_list _ ∙ ap trees (c.in_ok-atoms-in-Read.ensures ∙ ap (map atom_tree) c.as_slice.ensures)) ∙ ap operand_tree (sym c.in-Read.is)
