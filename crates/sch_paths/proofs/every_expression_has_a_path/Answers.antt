use Rattle.sch_paths.proofs.paths.MeetsByCases.{has_path}
use Rattle.sch_paths.proofs.every_expression_has_a_path.Goals as goal

pub returns : goal.returns
returns _ inside e = has_path inside e
