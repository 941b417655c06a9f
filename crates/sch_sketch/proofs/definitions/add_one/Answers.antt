use Rattle.sch_sketch.proofs.PartLists.{pushed}
use Rattle.sch_sketch.proofs.definitions.add_one.Goals as goal

pub returns-clause-parts : goal.returns-clause-parts
returns-clause-parts c = pushed _ _ _ c.in_ok-push-2.ensures.ok c.defined_sketch.ensures
