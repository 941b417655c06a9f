use Rattle.std.proofs.Common.{◌∙◌, ap, map}
use Rattle.std.proofs.lemmas.List.{take_all}
use Rattle.sch_shuffle.specs.View.{tree}
use Rattle.sch_shuffle.proofs.OperandRows.{same_trees}
use Rattle.sch_shuffle.proofs.operand.+copying.Goals as goal

pub copy_each-returns : goal.copy_each-returns
copy_each-returns t c =
    same_trees _ _ (c.loop-operand.invariant ∙ ap (map tree) (take_all _ _ c.loop-operand-test.false ∙ c.as_slice-operand-items.ensures))
