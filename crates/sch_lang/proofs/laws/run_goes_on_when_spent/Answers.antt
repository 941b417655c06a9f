use Rattle.sch_lang.proofs.SpentComputations.{goes_on_when_spent}
use Rattle.sch_lang.proofs.laws.run_goes_on_when_spent.Goals as goal

pub returns : goal.returns
returns c = goes_on_when_spent _
