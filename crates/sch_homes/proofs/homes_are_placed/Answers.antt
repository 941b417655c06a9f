use Rattle.sch_homes.proofs.HomesPlaced.{homes_placed}
use Rattle.sch_homes.proofs.homes_are_placed.Goals as goal

pub returns : goal.returns
returns c = homes_placed
