use Rattle.sch_layout.proofs.marks.MarksStand.{laid_stands}
use Rattle.sch_layout.proofs.laid_marks_stand.Goals as goal

pub returns : goal.returns
returns _ c plan e code laid homes enters = laid_stands c plan e code laid homes enters
