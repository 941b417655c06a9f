use Rattle.sch_homes.proofs.FrameValid.{homes_framed}
use Rattle.sch_homes.proofs.homes_are_framed.Goals as goal

pub returns : goal.returns
returns c = homes_framed
