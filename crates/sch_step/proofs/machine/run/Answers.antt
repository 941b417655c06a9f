use Rattle.sch_step.proofs.EndedMachines.{run_again, run_still}
use Rattle.sch_step.proofs.machine.run.Goals as goal

pub returns-clause-again : goal.returns-clause-again
returns-clause-again g c = λ end. run_again c.args.steps end c.advance_by.result c.args.m.now c.advance_by.new.m (g.O.Outlet.bytes c.args.out.now) (g.O.Outlet.bytes c.advance_by.new.out)
    (g.O.Outlet.left c.args.out.now) (g.O.Outlet.left c.advance_by.new.out) (g.O.Outlet.faults c.args.out.now)
    (g.O.Outlet.faults c.advance_by.new.out) c.advance_by.ensures.at c.advance_by.ensures.did

pub returns-clause-still : goal.returns-clause-still
returns-clause-still g c = λ end. run_still c.args.steps end c.advance_by.result c.args.m.now c.advance_by.new.m (g.O.Outlet.bytes c.args.out.now) (g.O.Outlet.bytes c.advance_by.new.out)
    (g.O.Outlet.left c.args.out.now) (g.O.Outlet.left c.advance_by.new.out) (g.O.Outlet.faults c.args.out.now)
    (g.O.Outlet.faults c.advance_by.new.out) c.advance_by.ensures.at c.advance_by.ensures.did
