use Rattle.std.proofs.Common.{◌≡◌, true}
use Rattle.sch_paths.proofs.paths.BoundAndReferenced.{literal}
use Rattle.sch_paths.proofs.live_is_bound_before_and_referenced.Goals as goal

pub returns : goal.returns
returns _ e scope i u inside behind f x = literal e scope i u inside (λ x t. behind x t ≡ true) f x
