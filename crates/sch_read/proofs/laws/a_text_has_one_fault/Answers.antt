use Rattle.sch_read.proofs.texts.TextAnswers.{fault_one}
use Rattle.sch_read.proofs.laws.a_text_has_one_fault.Goals as goal

pub returns : goal.returns
returns c = fault_one
