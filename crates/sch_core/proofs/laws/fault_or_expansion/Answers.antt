use Rattle.sch_core.proofs.DatumLaws.{never_both, given}
use Rattle.sch_core.proofs.laws.fault_or_expansion.Goals as goal

pub returns-clause-excluded : goal.returns-clause-excluded
returns-clause-excluded c = never_both

pub returns-clause-given : goal.returns-clause-given
returns-clause-given c = given
