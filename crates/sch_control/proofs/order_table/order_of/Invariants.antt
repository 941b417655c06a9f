use Rattle.std.proofs.Common.{◌≡◌, ◌++◌, ◌-◌}
use Rattle.sch_word.specs.trees.Bindings.{numbers}
use Rattle.sch_control.specs.OrderTable.{others, given_order}
use Rattle.sch_control.proofs.order_table.order_of.Given as goal

abbrev pub invariant-loop-k : goal.invariant-loop-k
invariant-loop-k l = l.all ++ others l.parts (numbers l.k (l.width - l.k)) ≡ given_order l.width l.parts
