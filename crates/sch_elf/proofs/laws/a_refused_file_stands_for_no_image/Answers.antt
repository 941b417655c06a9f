use Rattle.sch_elf.proofs.OneRefusal.{no_image}
use Rattle.sch_elf.proofs.laws.a_refused_file_stands_for_no_image.Goals as goal

pub returns : goal.returns
returns c = no_image
