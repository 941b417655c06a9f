use Rattle.sch_step.specs.Run.{Does}
use Rattle.sch_step.specs.Machine.{MachineComes}
use Rattle.sch_step.proofs.machine.advance_by.Given as goal

abbrev pub invariant-loop-i : goal.invariant-loop-i
invariant-loop-i g l = Does (MachineComes l.i l.fn.m l.m) (g.O.Outlet.bytes l.fn.out) (g.O.Outlet.bytes l.out) (g.O.Outlet.left l.fn.out) (g.O.Outlet.left l.out) (g.O.Outlet.faults l.fn.out)
    (g.O.Outlet.faults l.out)
