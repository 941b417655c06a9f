use Rattle.sch_homes.specs.CallMoves.{temporary}
use Rattle.sch_homes.proofs.Numbered.{map_more}
use Rattle.sch_homes.proofs.temporaries.temporaries.Goals as goal

pub loop-k-preserved : goal.loop-k-preserved
loop-k-preserved c = map_more (temporary c.args.places.now c.args.first) c.loop-k.k _ _ _ c.loop-k.invariant c.in_ok-push.ensures.ok c.temporary.ensures
