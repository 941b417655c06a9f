use Rattle.sch_paths.proofs.saves.ValidBodies.{saves_followed_by}
use Rattle.sch_paths.proofs.saves_are_followed_by_calls.Goals as goal

pub returns : goal.returns
returns _ c listed is es r path = saves_followed_by c listed is es r path
