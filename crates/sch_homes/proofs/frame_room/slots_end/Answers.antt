use Rattle.sch_homes.proofs.HomeLoops.{next_end, one_end}
use Rattle.sch_homes.proofs.frame_room.slots_end.Goals as goal

pub end_with-end-requires : goal.end_with-end-requires
end_with-end-requires c = one_end c.loop-p.p-index c.loop-p.end _ _ c.args.places.now _ c.loop-p-test.true c.loop-p.invariant c.requires

pub loop-p-preserved : goal.loop-p-preserved
loop-p-preserved c = next_end c.loop-p.p-index c.loop-p.end c.end_with-end.result _ c.args.places.now _ c.loop-p-test.true c.end_with-end.ensures c.loop-p.invariant
