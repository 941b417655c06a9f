use Rattle.sch_step.proofs.EndedMachines.{has_ended, again, still}
use Rattle.sch_step.proofs.machine.step.Goals as goal

pub returns-clause-ended : goal.returns-clause-ended
returns-clause-ended g c = has_ended c.advance.result c.args.m.now c.advance.new.m (g.O.Outlet.bytes c.args.out.now) (g.O.Outlet.bytes c.advance.new.out) (g.O.Outlet.left c.args.out.now)
    (g.O.Outlet.left c.advance.new.out) (g.O.Outlet.faults c.args.out.now) (g.O.Outlet.faults c.advance.new.out) c.advance.ensures.at c.advance.ensures.stands c.advance.ensures.did

pub returns-clause-again : goal.returns-clause-again
returns-clause-again g c = λ end. again end c.advance.result c.args.m.now c.advance.new.m (g.O.Outlet.bytes c.args.out.now) (g.O.Outlet.bytes c.advance.new.out) (g.O.Outlet.left c.args.out.now)
    (g.O.Outlet.left c.advance.new.out) (g.O.Outlet.faults c.args.out.now) (g.O.Outlet.faults c.advance.new.out) c.advance.ensures.at c.advance.ensures.did

pub returns-clause-still : goal.returns-clause-still
returns-clause-still g c = λ ends. still c.advance.result c.args.m.now c.advance.new.m (g.O.Outlet.bytes c.args.out.now) (g.O.Outlet.bytes c.advance.new.out) (g.O.Outlet.left c.args.out.now)
    (g.O.Outlet.left c.advance.new.out) (g.O.Outlet.faults c.args.out.now) (g.O.Outlet.faults c.advance.new.out) ends c.advance.ensures.did
