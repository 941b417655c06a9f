use Rattle.sch_core.proofs.programs.ValidForms.{forms_constants}
use Rattle.sch_core.proofs.validity.constants_are_of_data.Goals as goal

pub returns : goal.returns
returns c = λ globals fs forms h d. forms_constants globals fs forms h d
