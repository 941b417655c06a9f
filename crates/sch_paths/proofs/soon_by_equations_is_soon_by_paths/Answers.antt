use Rattle.std.proofs.Common.{◌≡◌, true}
use Rattle.sch_paths.proofs.paths.LiveByPaths.{soon_is}
use Rattle.sch_paths.proofs.soon_by_equations_is_soon_by_paths.Goals as goal

pub returns : goal.returns
returns _ x inside e behind = soon_is x inside e (λ t. behind t ≡ true)
