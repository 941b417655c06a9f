use Rattle.sch_paths.proofs.saves.TwoSets.{by_result, needs_is}
use Rattle.sch_paths.proofs.the_two_sets_give_what_is_needed.Goals as goal

pub returns : goal.returns
returns _ x inside e = (by_result x inside e, needs_is x inside e)
