use Rattle.sch_paths.proofs.paths.PathResults.{may_give_is}
use Rattle.sch_paths.proofs.what_is_given_is_given_by_paths.Goals as goal

pub returns : goal.returns
returns _ inside e r = may_give_is inside e r
