use Rattle.sch_core.proofs.readings.AssignedNames.{assigned_names}
use Rattle.sch_core.proofs.laws.text_assigns_the_names_found.Goals as goal

pub returns : goal.returns
returns c = assigned_names
