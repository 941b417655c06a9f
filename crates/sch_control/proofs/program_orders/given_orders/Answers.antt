use Rattle.std.proofs.Common.{◌∙◌, IsTrue, length, ap, sym, subst}
use Rattle.sch_word.proofs.WhenOk.{if_ok}
use Rattle.sch_word.specs.runs.Orders.{is_order_table}
use Rattle.sch_control.specs.Fits.{table_fits}
use Rattle.sch_control.specs.ProgramView.{source}
use Rattle.sch_control.specs.OrderTable.{given_orders}
use Rattle.sch_control.proofs.OrderLists.{as_many}
use Rattle.sch_control.proofs.FittingTable.{fitting_orders, given_table_fits}
use Rattle.sch_control.proofs.program_orders.given_orders.Goals as goal

pub orders_of-requires : goal.orders_of-requires
orders_of-requires c = let p = c.args.p.now in ap length c.as_slice.ensures ∙ as_many p.sites p.bound p.ordered ∙ sym (ap length c.as_slice-2.ensures)

pub returns-clause-orders : goal.returns-clause-orders
returns-clause-orders c =
    if_ok c.orders_of.result _ _ c.orders_of.ensures (λ q made. made ∙ ap (λ s. given_orders s c.as_slice-2.result.now) c.as_slice.ensures ∙ ap (given_orders c.args.p.now.sites) c.as_slice-2.ensures)

pub returns-clause-fits : goal.returns-clause-fits
returns-clause-fits c =
    let p = c.args.p.now in
    if_ok c.orders_of.result _ _ c.orders_of.ensures
    (λ q made. subst (λ t. IsTrue (table_fits (source p) t)) (sym (made ∙ ap (λ s. given_orders s c.as_slice-2.result.now) c.as_slice.ensures ∙ ap (given_orders p.sites) c.as_slice-2.ensures))
    (given_table_fits (source p) p.ordered))

pub returns-clause-permutations : goal.returns-clause-permutations
returns-clause-permutations c =
    let p = c.args.p.now in
    if_ok c.orders_of.result _ _ c.orders_of.ensures
    (λ q made. subst (λ t. IsTrue (is_order_table p.sites t)) (sym (made ∙ ap (λ s. given_orders s c.as_slice-2.result.now) c.as_slice.ensures ∙ ap (given_orders p.sites) c.as_slice-2.ensures))
    (fitting_orders p.sites p.bound (given_orders p.sites p.bound) (given_table_fits (source p) p.ordered)))
