use Rattle.sch_sets.proofs.WordSets.{numbers_in-below}
use Rattle.sch_sets.proofs.Set.members_are_below.Goals as goal

pub returns : goal.returns
returns g c = rw (← c.self.view_is, ← c.self.told) (numbers_in-below c.self.inside.words)
