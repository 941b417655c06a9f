use Rattle.std.proofs.Common.{◌≡◌, drop}
use Rattle.sch_closure.specs.Closed.{place_from, place}
use Rattle.sch_closure.proofs.closing.place_variable.Given as goal

abbrev pub invariant-loop-k : goal.invariant-loop-k
invariant-loop-k l = record { left : place_from l.k (drop l.k l.fields) l.x ≡ place l.fields l.x }
