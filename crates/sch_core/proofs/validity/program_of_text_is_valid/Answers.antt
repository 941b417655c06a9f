use Rattle.sch_core.proofs.programs.ValidForms.{valid_text}
use Rattle.sch_core.proofs.validity.program_of_text_is_valid.Goals as goal

pub returns : goal.returns
returns c = λ ds globals own fs forms l t m v. valid_text ds globals own fs forms l.0 l.1 t.0 t.1 t.2 t.3 t.4 m v
