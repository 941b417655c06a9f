use Rattle.sch_homes.proofs.KeptByType.{body_placed}
use Rattle.sch_homes.proofs.bodies_are_placed.Goals as goal

pub returns : goal.returns
returns g c = body_placed c.args.b.now
