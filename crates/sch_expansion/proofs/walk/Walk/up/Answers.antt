use Rattle.std.proofs.Common.{refl, reverse}
use Rattle.sch_expansion.proofs.Stacks.{part_made}
use Rattle.sch_expansion.proofs.walk.Walk.up.Goals as goal

pub returns-clause-ready : goal.returns-clause-ready
returns-clause-ready c = λ w h f.
    c.resume.ensures.ready w h
    (part_made w c.args.node _ (reverse c.args.self.now.stack) c.args.self.now.scope _ c.args.fault.now c.args.e refl refl refl refl c.in_ok-push.ensures.ok c.leave.ensures refl f)
