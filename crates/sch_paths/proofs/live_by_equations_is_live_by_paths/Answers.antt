use Rattle.std.proofs.Common.{◌≡◌, true}
use Rattle.sch_paths.proofs.paths.LiveByPaths.{live_is}
use Rattle.sch_paths.proofs.live_by_equations_is_live_by_paths.Goals as goal

pub returns : goal.returns
returns _ x inside e behind = live_is x inside e (λ t. behind t ≡ true)
