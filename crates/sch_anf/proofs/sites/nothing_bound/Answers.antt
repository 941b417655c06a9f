use Rattle.std.proofs.Common.{[]}
use Rattle.sch_anf.proofs.PlacedLists.{replicate_turn}
use Rattle.sch_anf.proofs.sites.nothing_bound.Goals as goal

pub loop-done-preserved : goal.loop-done-preserved
loop-done-preserved c = replicate_turn [] c.new.result c.loop-done.bound.items c.push.new.self.items c.loop-done.done c.new.ensures c.in_ok-push.ensures.items c.loop-done.invariant
