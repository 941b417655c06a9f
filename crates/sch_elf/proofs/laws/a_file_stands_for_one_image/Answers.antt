use Rattle.sch_elf.proofs.OneRefusal.{one_image}
use Rattle.sch_elf.proofs.laws.a_file_stands_for_one_image.Goals as goal

pub returns : goal.returns
returns c = one_image
