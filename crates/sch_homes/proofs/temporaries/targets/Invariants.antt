use Rattle.std.proofs.Common.{◌≡◌}
use Rattle.sch_homes.specs.CallMoves.{targets}
use Rattle.sch_homes.proofs.temporaries.targets.Given as goal

abbrev pub invariant-loop-k : goal.invariant-loop-k
invariant-loop-k l = l.places ≡ targets l.tail l.k
