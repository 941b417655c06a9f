use Rattle.sch_paths.proofs.paths.CallEvents.{lists_live}
use Rattle.sch_paths.proofs.sets_have_what_is_live_after_calls.Goals as goal

pub returns : goal.returns
returns _ e sets = lists_live e sets
