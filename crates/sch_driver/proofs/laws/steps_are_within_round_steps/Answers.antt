use Rattle.sch_driver.proofs.RoundSteps.{rounded}
use Rattle.sch_driver.proofs.laws.steps_are_within_round_steps.Goals as goal

pub returns : goal.returns
returns c = rounded
