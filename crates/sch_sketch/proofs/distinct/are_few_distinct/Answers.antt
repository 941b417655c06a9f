use Rattle.sch_sketch.proofs.NamesBefore.{next_name, next_fresh}
use Rattle.sch_sketch.proofs.distinct.are_few_distinct.Goals as goal
use Rattle.sch_sketch.proofs.distinct.are_few_distinct.Goals.{in-Some+else-is_among, in_default}

pub loop-i-preserved : goal.loop-i-preserved
loop-i-preserved c = elim c.match-names-i.branch [
  | in-Some+else-is_among w ↦ next_name c.args.names.now c.loop-i.i w.in-Some.x _ c.loop-i-test.true w.in-Some.is w.if-is_among.ensures c.loop-i.invariant
  | in_default w ↦ next_fresh c.args.names.now c.loop-i.i _ c.loop-i-test.true w.in_default.is c.loop-i.invariant
]
