use Rattle.std.proofs.Common.{◌≡◌, drop}
use Rattle.sch_shuffle.specs.Tree.{uses_one}
use Rattle.sch_shuffle.proofs.OperandRows.{left}
use Rattle.sch_shuffle.proofs.operand.+using.Given as goal

abbrev pub invariant-one_uses-loop-operand : goal.invariant-one_uses-loop-operand
invariant-one_uses-loop-operand l = uses_one (left (drop l.operand-index l.operand-items)) l.place ≡ uses_one (left l.operand-items) l.place
