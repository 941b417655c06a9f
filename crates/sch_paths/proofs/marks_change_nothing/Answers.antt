use Rattle.sch_paths.proofs.runs.RestoresAreEnough.{enough_with_marks}
use Rattle.sch_paths.proofs.marks_change_nothing.Goals as goal

pub returns : goal.returns
returns _ reading c e is callee callee' alike depth environment w w' q =
    enough_with_marks c e is.body is.scopes is.numbers reading is.saved is.restores callee callee' alike depth environment w w' q
