use Rattle.std.proofs.Common.{◌≡◌, ◌++◌, drop, map}
use Rattle.sch_flat.specs.View.{used}
use Rattle.sch_closure.specs.Closed.{place}
use Rattle.sch_closure.proofs.closing.place_each.Given as goal

abbrev pub invariant-loop-x : goal.invariant-loop-x
invariant-loop-x l = record { made : map used l.all ++ map (place l.fields) (drop l.x-index l.xs) ≡ map (place l.fields) l.xs }
