use Rattle.std.proofs.Common.{subst, sym}
use Rattle.sch_cli.specs.Failures.{failure_line}
use Rattle.sch_cli.specs.Messages.{Says}
use Rattle.sch_cli.specs.Seen.{stream_change}
use Rattle.sch_cli.proofs.failure.say_failure.Goals as goal

pub returns-in-ReadFailed-clause-line : goal.returns-in-ReadFailed-clause-line
returns-in-ReadFailed-clause-line g c =
    let err = stream_change g.E.Outlet.bytes g.E.Outlet.left g.E.Outlet.faults c.args.err.now c.say.new.err in
    subst (λ failure. Says (failure_line c.args.name.now failure) err) (sym c.in-ReadFailed.is) c.say.ensures.line

pub returns-in-TooLong-clause-line : goal.returns-in-TooLong-clause-line
returns-in-TooLong-clause-line g c =
    let err = stream_change g.E.Outlet.bytes g.E.Outlet.left g.E.Outlet.faults c.args.err.now c.say-in-TooLong.new.err in
    subst (λ failure. Says (failure_line c.args.name.now failure) err) (sym c.in-TooLong.is) c.say-in-TooLong.ensures.line

pub returns-in-OutputFailed-clause-line : goal.returns-in-OutputFailed-clause-line
returns-in-OutputFailed-clause-line g c =
    let err = stream_change g.E.Outlet.bytes g.E.Outlet.left g.E.Outlet.faults c.args.err.now c.say-in-OutputFailed.new.err in
    subst (λ failure. Says (failure_line c.args.name.now failure) err) (sym c.in-OutputFailed.is) c.say-in-OutputFailed.ensures.line
