use Rattle.sch_lang.proofs.OutputFails.{fails_by_answer}
use Rattle.sch_lang.proofs.laws.run_fails_by_answer.Goals as goal

pub returns : goal.returns
returns c = fails_by_answer _
