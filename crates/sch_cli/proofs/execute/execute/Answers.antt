use Rattle.sch_cli.specs.Seen.{stream_change}
use Rattle.sch_cli.proofs.MachineEnds.{executes}
use Rattle.sch_cli.proofs.execute.execute.Goals as goal

pub returns-clause-ok : goal.returns-clause-ok
returns-clause-ok g c =
    let r = c.run in
    executes c.args.image.now c.args.steps c.in_ok-machine.machine r.new.m r.result r.ensures.at c.in_ok-machine.ensures.starts
    (stream_change g.O.Outlet.bytes g.O.Outlet.left g.O.Outlet.faults c.args.out.now r.new.out) r.ensures.did
