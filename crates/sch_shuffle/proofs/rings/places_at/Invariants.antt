use Rattle.std.proofs.Common.{◌≡◌, drop, ◌++◌}
use Rattle.sch_shuffle.specs.CycleSearch.{places_at}
use Rattle.sch_shuffle.proofs.rings.places_at.Given as goal

abbrev pub invariant-loop-k : goal.invariant-loop-k
invariant-loop-k l = l.places ++ places_at l.targets (drop l.k-index l.ring) ≡ places_at l.targets l.ring
