use Rattle.sch_link_drafts.proofs.NumberSteps.{found_name}
use Rattle.sch_link_drafts.proofs.expressions.name_at.Goals as goal

pub returns-in-Some : goal.returns-in-Some
returns-in-Some c = found_name c.args.names.now c.args.at c.in-Some.v.now c.in-Some.ensures.lookup.3.0 c.in-Some.ensures.lookup.1
