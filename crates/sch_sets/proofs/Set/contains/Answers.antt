use Rattle.std.proofs.lemmas.Nat.Bits.{shr_and_one}
use Rattle.sch_sets.specs.Members.{has_bit}
use Rattle.sch_sets.proofs.WordSets.{contains-numbers_in}
use Rattle.sch_sets.proofs.Set.contains.Goals as goal

pub returns : goal.returns
unfolding has_bit
returns g c = rw (← c.self.view_is, contains-numbers_in, shr_and_one)
