use Rattle.sch_core.proofs.programs.ValidForms.{text_not_large}
use Rattle.sch_core.proofs.validity.program_of_text_is_not_large.Goals as goal

pub returns : goal.returns
returns c = λ ds globals own fs forms d h. text_not_large ds globals own fs forms d h
