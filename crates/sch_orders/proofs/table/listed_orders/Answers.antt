use Rattle.std.proofs.Common.{◌≡◌, ◌<◌, ◌∙◌, IsTrue, length, ap, subst, sym, true}
use Rattle.sch_word.specs.runs.Orders.{is_order_table}
use Rattle.sch_control.specs.Fits.{fits}
use Rattle.sch_control.specs.ProgramView.{source}
use Rattle.sch_control.proofs.FittingTable.{fitting_orders, given_table_fits}
use Rattle.sch_orders.specs.ListedTable.{with_call}
use Rattle.sch_orders.proofs.TableFits.{call_at, call_put}
use Rattle.sch_orders.proofs.TableLoops.{table_turn}
use Rattle.sch_orders.proofs.table.listed_orders.Goals as goal

pub put_order-requires-clause-bound : goal.put_order-requires-clause-bound
put_order-requires-clause-bound c =
    let p = c.args.p.now in
    subst (λ b. c.call-item.result.site < length b) (sym c.as_slice.ensures)
    (call_at p.sites p.bound c.loop-call.table.items c.args.calls.now c.loop-call.call-index c.call-item.result c.loop-call-test.true c.call-item.is c.requires c.loop-call.invariant.fits).1

pub put_order-requires-clause-table : goal.put_order-requires-clause-table
put_order-requires-clause-table c =
    let p = c.args.p.now in
    (call_at p.sites p.bound c.loop-call.table.items c.args.calls.now c.loop-call.call-index c.call-item.result c.loop-call-test.true c.call-item.is c.requires c.loop-call.invariant.fits).2

pub loop-call-preserved : goal.loop-call-preserved
loop-call-preserved c =
    let p = c.args.p.now in
    let put : c.put_order.new.table.items ≡ with_call p.bound c.loop-call.table.items c.call-item.result =
    c.in_ok-put_order.ensures ∙ ap (λ b. with_call b c.loop-call.table.items c.call-item.result) c.as_slice.ensures in
    record {
      whole = table_turn p.bound c.loop-call.table.items _ _ c.args.calls.now c.loop-call.call-index c.call-item.result c.loop-call-test.true c.call-item.is put c.loop-call.invariant.whole;
      fits = subst (λ t. fits p.sites p.bound t ≡ true) (sym put)
          (call_put p.sites p.bound (given_table_fits (source p) p.ordered) c.loop-call.table.items c.call-item.result c.loop-call.invariant.fits
          (call_at p.sites p.bound c.loop-call.table.items c.args.calls.now c.loop-call.call-index c.call-item.result c.loop-call-test.true c.call-item.is c.requires c.loop-call.invariant.fits).0);
    }

pub returns-clause-permutations : goal.returns-clause-permutations
returns-clause-permutations c =
    let p = c.args.p.now in
    subst (λ t. IsTrue (is_order_table p.sites t)) (sym c.from_vec.ensures) (fitting_orders p.sites p.bound c.loop-call.table.items c.loop-call.invariant.fits)
