use Rattle.sch_paths.proofs.runs.SameWithoutMarks.{plainly_unlisted}
use Rattle.sch_paths.proofs.lists_change_nothing.Goals as goal

pub returns : goal.returns
returns _ e callee depth environment w = plainly_unlisted callee depth e environment w
