use Rattle.sch_paths.proofs.runs.RestoresAreEnough.{enough_without_marks}
use Rattle.sch_paths.proofs.restores_are_enough.Goals as goal

pub returns : goal.returns
returns _ keeps c e is callee depth environment w =
    enough_without_marks c e is.body is.scopes is.numbers keeps is.saved is.restores callee depth environment w
