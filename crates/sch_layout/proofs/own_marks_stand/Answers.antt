use Rattle.sch_layout.proofs.marks.OwnMarks.{own_marks_stand}
use Rattle.sch_layout.proofs.own_marks_stand.Goals as goal

pub returns : goal.returns
returns _ codes own w c plan e laid called = own_marks_stand codes own w c plan e laid called
