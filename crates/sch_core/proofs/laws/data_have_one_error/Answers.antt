use Rattle.sch_core.proofs.DataLaws.{one_error}
use Rattle.sch_core.proofs.laws.data_have_one_error.Goals as goal

pub returns : goal.returns
returns c = one_error
