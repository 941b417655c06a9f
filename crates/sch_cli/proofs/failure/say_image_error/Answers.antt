use Rattle.std.proofs.Common.{subst, sym}
use Rattle.sch_cli.specs.Failures.{image_line}
use Rattle.sch_cli.specs.Messages.{Says}
use Rattle.sch_cli.specs.Seen.{stream_change}
use Rattle.sch_cli.proofs.failure.say_image_error.Goals as goal

pub returns-in-NotThisMachine-clause-line : goal.returns-in-NotThisMachine-clause-line
returns-in-NotThisMachine-clause-line g c =
    let err = stream_change g.E.Outlet.bytes g.E.Outlet.left g.E.Outlet.faults c.args.err.now c.say-in-NotThisMachine.new.err in
    subst (λ error. Says (image_line c.args.name.now error) err) (sym c.in-NotThisMachine.is) c.say-in-NotThisMachine.ensures.line
