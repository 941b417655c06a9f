use Rattle.sch_core.proofs.DataLaws.{one_program}
use Rattle.sch_core.proofs.laws.data_have_one_program.Goals as goal

pub returns : goal.returns
returns c = one_program
