use Rattle.sch_layout.specs.BodyLayout.{target}
use Rattle.sch_homes.specs.CallMoves.{next_frame}
use Rattle.sch_homes.proofs.Numbered.{map_more}
use Rattle.sch_homes.proofs.temporaries.targets.Goals as goal

pub loop-k-preserved : goal.loop-k-preserved
loop-k-preserved c = map_more (target c.args.tail next_frame) c.loop-k.k _ _ _ c.loop-k.invariant c.in_ok-push.ensures.ok c.target.ensures
