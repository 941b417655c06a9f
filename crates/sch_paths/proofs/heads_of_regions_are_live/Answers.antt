use Rattle.sch_paths.proofs.saves.ValidBodies.{heads_are_live}
use Rattle.sch_paths.proofs.heads_of_regions_are_live.Goals as goal

pub returns : goal.returns
returns _ c listed is = heads_are_live c listed is
