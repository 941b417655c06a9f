use Rattle.sch_control.proofs.FittingTable.{fitting_orders}
use Rattle.sch_control.proofs.program_orders.a_table_that_fits_is_an_order_table.Goals as goal

pub returns : goal.returns
returns c = let p = c.args.p.now in fitting_orders p.sites p.bound c.args.orders.now c.requires
