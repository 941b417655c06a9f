use Rattle.sch_paths.proofs.saves.TwoSets.{needs_unsaved}
use Rattle.sch_paths.proofs.regions_change_no_needs.Goals as goal

pub returns : goal.returns
returns _ x e = needs_unsaved x e
