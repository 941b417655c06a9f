use Rattle.std.proofs.Common.{◌≡◌, take, map}
use Rattle.sch_shuffle.specs.View.{tree}
use Rattle.sch_shuffle.proofs.operand.+copying.Given as goal

abbrev pub invariant-copy_each-loop-operand : goal.invariant-copy_each-loop-operand
invariant-copy_each-loop-operand l = map tree l.all ≡ map tree (take l.operand-index l.operand-items)
