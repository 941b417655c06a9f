use Rattle.std.proofs.Common.{◌≡◌, ◌++◌, drop}
use Rattle.sch_listing.specs.Lines.{orders_text}
use Rattle.sch_listing.proofs.printing.write_orders.Given as goal

abbrev pub invariant-loop-site : goal.invariant-loop-site
invariant-loop-site l = l.out ++ orders_text l.site (drop l.site l.orders) ≡ l.fn.out ++ orders_text 0 l.orders
