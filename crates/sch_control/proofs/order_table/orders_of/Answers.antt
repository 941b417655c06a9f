use Rattle.std.proofs.Common.{◌∙◌, get_or, ap, arith}
use Rattle.sch_control.specs.OrderTable.{given_order}
use Rattle.sch_control.proofs.OrderLists.{orders_turn, orders_end}
use Rattle.sch_control.proofs.order_table.orders_of.Goals as goal

pub loop-i-preserved : goal.loop-i-preserved
loop-i-preserved c =
    orders_turn c.args.sites.now c.args.bound.now c.loop-i.i c.index-bound-i.result c.in_ok-order_of.field-0 c.loop-i.all _ _ (omega arith) (omega arith) c.index-bound-i.is
    (c.in_ok-order_of.ensures ∙ ap (given_order (get_or c.args.sites.now c.loop-i.i 0)) c.as_slice.ensures) c.in_ok-push.ensures.ok c.loop-i.invariant

pub returns : goal.returns
returns c = orders_end c.args.sites.now c.args.bound.now c.loop-i.i c.loop-i.all _ (omega arith) c.loop-i.invariant
