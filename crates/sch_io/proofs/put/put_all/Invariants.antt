use Rattle.std.proofs.Common.{◌≤◌, length}
use Rattle.sch_io.proofs.PutSteps.{Along}
use Rattle.sch_io.proofs.put.put_all.Given as goal

abbrev pub invariant-loop-rest : goal.invariant-loop-rest
invariant-loop-rest g l = (g.O.Outlet.faults l.fn.out ≤ g.O.Outlet.faults l.out)
    × Along l.fn.piece l.rest (g.O.Outlet.bytes l.fn.out) (g.O.Outlet.bytes l.out) (g.O.Outlet.left l.fn.out) (g.O.Outlet.left l.out)

abbrev pub decreases-loop-rest : goal.decreases-loop-rest
decreases-loop-rest g l = length l.rest
