use Rattle.sch_expansion.proofs.Readings.{unique}
use Rattle.sch_core.proofs.laws.expansion_is_unique.Goals as goal

pub returns : goal.returns
returns c = λ g n s t d a b p q. unique g p q
