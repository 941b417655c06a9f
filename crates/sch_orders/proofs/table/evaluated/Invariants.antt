use Rattle.std.proofs.Common.{◌≡◌, ◌++◌, drop}
use Rattle.sch_control.specs.OrderTable.{others}
use Rattle.sch_orders.specs.ListedTable.{evaluated}
use Rattle.sch_orders.proofs.table.evaluated.Given as goal

abbrev pub invariant-loop-k : goal.invariant-loop-k
invariant-loop-k l = l.all ++ others l.bound (drop l.k-index l.order) ≡ evaluated l.bound l.order
