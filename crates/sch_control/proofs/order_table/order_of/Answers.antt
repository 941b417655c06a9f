use Rattle.std.proofs.Common.{arith}
use Rattle.sch_control.proofs.OrderLists.{others_turn, others_end}
use Rattle.sch_control.proofs.order_table.order_of.Goals as goal

pub loop-k-preserved : goal.loop-k-preserved
loop-k-preserved c = others_turn c.args.parts.now c.loop-k.all _ _ c.loop-k.k c.args.width (omega arith) c.in_ok-add_other.ensures c.loop-k.invariant

pub returns : goal.returns
returns c = others_end c.args.parts.now c.loop-k.all _ c.loop-k.k c.args.width (omega arith) c.loop-k.invariant
