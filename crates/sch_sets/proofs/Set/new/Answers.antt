use Rattle.sch_sets.proofs.WordSets.{numbers_in-replicate}
use Rattle.sch_sets.proofs.Set.new.Goals as goal

pub returns : goal.returns
returns g c = numbers_in-replicate g.row.N
