use Rattle.sch_elf.proofs.OneRefusal.{one_reason}
use Rattle.sch_elf.proofs.laws.a_file_is_refused_for_one_reason.Goals as goal

pub returns : goal.returns
returns c = one_reason
