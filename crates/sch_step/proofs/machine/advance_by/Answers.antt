use Rattle.std.proofs.Common.{◌≡◌, arith, subst}
use Rattle.sch_step.specs.Run.{Does}
use Rattle.sch_step.specs.Machine.{MachineComes}
use Rattle.sch_step.proofs.MachineRuns.{comes_first, comes_next, run_exits, run_stuck, run_rests}
use Rattle.sch_step.proofs.machine.advance_by.Goals as goal

pub loop-i-init : goal.loop-i-init
loop-i-init g c = comes_first c.args.m.now (g.O.Outlet.bytes c.args.out.now) (g.O.Outlet.left c.args.out.now) (g.O.Outlet.faults c.args.out.now)

pub loop-i-preserved : goal.loop-i-preserved
loop-i-preserved g c = comes_next c.loop-i.i c.args.m.now c.loop-i.m c.step.new.m (g.O.Outlet.bytes c.args.out.now) (g.O.Outlet.bytes c.loop-i.out) (g.O.Outlet.bytes c.step.new.out)
    (g.O.Outlet.left c.args.out.now) (g.O.Outlet.left c.loop-i.out) (g.O.Outlet.left c.step.new.out) (g.O.Outlet.faults c.args.out.now) (g.O.Outlet.faults c.loop-i.out)
    (g.O.Outlet.faults c.step.new.out) c.in-Ran.ensures.stands c.loop-i.invariant c.in-Ran.ensures.did

pub returns-in-Exited-clause-did : goal.returns-in-Exited-clause-did
returns-in-Exited-clause-did g c = run_exits c.loop-i.i c.args.steps c.in-Exited.status c.args.m.now c.loop-i.m c.step.new.m (g.O.Outlet.bytes c.args.out.now) (g.O.Outlet.bytes c.loop-i.out)
    (g.O.Outlet.bytes c.step.new.out) (g.O.Outlet.left c.args.out.now) (g.O.Outlet.left c.loop-i.out) (g.O.Outlet.left c.step.new.out) (g.O.Outlet.faults c.args.out.now)
    (g.O.Outlet.faults c.loop-i.out) (g.O.Outlet.faults c.step.new.out) c.loop-i-test.true c.loop-i.invariant c.in-Exited.ensures.did

pub returns-in-Stuck-clause-did : goal.returns-in-Stuck-clause-did
returns-in-Stuck-clause-did g c = run_stuck c.loop-i.i c.args.steps c.in-Stuck.stuck c.args.m.now c.loop-i.m c.step.new.m (g.O.Outlet.bytes c.args.out.now) (g.O.Outlet.bytes c.loop-i.out)
    (g.O.Outlet.bytes c.step.new.out) (g.O.Outlet.left c.args.out.now) (g.O.Outlet.left c.loop-i.out) (g.O.Outlet.left c.step.new.out) (g.O.Outlet.faults c.args.out.now)
    (g.O.Outlet.faults c.loop-i.out) (g.O.Outlet.faults c.step.new.out) c.loop-i-test.true c.loop-i.invariant c.in-Stuck.ensures.did

pub returns-clause-did : goal.returns-clause-did
returns-clause-did g c =
    let last = c.loop-i.auto.i-end in
    let over = c.loop-i-test.false in
    let all : c.loop-i.i ≡ c.args.steps = omega (arith, last, over) in
    run_rests c.args.steps c.rest.result c.args.m.now c.loop-i.m c.rest.new.m (g.O.Outlet.bytes c.args.out.now) (g.O.Outlet.bytes c.loop-i.out) (g.O.Outlet.left c.args.out.now)
    (g.O.Outlet.left c.loop-i.out) (g.O.Outlet.faults c.args.out.now) (g.O.Outlet.faults c.loop-i.out) c.rest.ensures.rested
    (subst (λ i. Does (MachineComes i c.args.m.now c.loop-i.m) (g.O.Outlet.bytes c.args.out.now) (g.O.Outlet.bytes c.loop-i.out) (g.O.Outlet.left c.args.out.now) (g.O.Outlet.left c.loop-i.out)
    (g.O.Outlet.faults c.args.out.now) (g.O.Outlet.faults c.loop-i.out)) all c.loop-i.invariant)
