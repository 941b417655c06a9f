use Rattle.sch_layout.proofs.does.PlacedBodies.{body_does}
use Rattle.sch_layout.proofs.laid_bodies_do.Goals as goal

pub returns : goal.returns
returns _ plan entry e is uses callee callee' follow depth self arguments l s marks marks' = body_does plan entry e is uses callee callee' follow depth self arguments l s marks marks'
