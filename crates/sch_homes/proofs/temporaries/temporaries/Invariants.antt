use Rattle.std.proofs.Common.{◌≡◌}
use Rattle.sch_homes.specs.CallMoves.{temporaries}
use Rattle.sch_homes.proofs.temporaries.temporaries.Given as goal

abbrev pub invariant-loop-k : goal.invariant-loop-k
invariant-loop-k l = l.made ≡ temporaries l.places l.first l.k
