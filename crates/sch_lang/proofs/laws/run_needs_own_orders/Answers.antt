use Rattle.sch_lang.proofs.OwnOrders.{needs_own_orders}
use Rattle.sch_lang.proofs.laws.run_needs_own_orders.Goals as goal

pub returns : goal.returns
returns c = needs_own_orders _
