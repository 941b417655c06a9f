use Rattle.std.proofs.Common.{◌≡◌, drop, true}
use Rattle.sch_control.specs.Fits.{fits}
use Rattle.sch_control.specs.ProgramView.{source}
use Rattle.sch_orders.specs.ListedTable.{listed_table, with_calls}
use Rattle.sch_orders.proofs.table.listed_orders.Given as goal

abbrev pub invariant-loop-call : goal.invariant-loop-call
invariant-loop-call l = record {
  whole : with_calls l.p.bound l.table.items (drop l.call-index l.calls) ≡ listed_table (source l.p) l.calls;
  fits : fits l.p.sites l.p.bound l.table.items ≡ true;
}
