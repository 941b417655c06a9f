use Rattle.sch_step.proofs.MachineRuns.{exited_does}
use Rattle.sch_step.proofs.machine.advance.Goals as goal

pub returns-in-Some-clause-did : goal.returns-in-Some-clause-did
returns-in-Some-clause-did g c = exited_does c.args.m.now c.in-Some.status (g.O.Outlet.bytes c.args.out.now) (g.O.Outlet.left c.args.out.now) (g.O.Outlet.faults c.args.out.now) c.in-Some.is
