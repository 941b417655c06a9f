use Rattle.sch_shuffle.proofs.SetAside.{few_set_aside}
use Rattle.sch_shuffle.proofs.few_are_set_aside.Goals as goal

pub returns : goal.returns
returns c = few_set_aside
