use Rattle.std.proofs.Common.{◌≡◌, ◌++◌, drop}
use Rattle.sch_control.specs.OrderTable.{given_orders}
use Rattle.sch_control.proofs.order_table.orders_of.Given as goal

abbrev pub invariant-loop-i : goal.invariant-loop-i
invariant-loop-i l = l.all ++ given_orders (drop l.i l.sites) (drop l.i l.bound) ≡ given_orders l.sites l.bound
