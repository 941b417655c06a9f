use Rattle.sch_homes.proofs.FewMoves.{moves_few}
use Rattle.sch_homes.proofs.moves_are_few.Goals as goal

pub returns : goal.returns
returns c = moves_few
