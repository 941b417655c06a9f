use Rattle.std.proofs.Common.{arith, ◌∙◌}
use Rattle.sch_names.proofs.ScopeLists.{one_less}
use Rattle.sch_names.proofs.scope.Scope.leave.Goals as goal

pub loop-self-preserved : goal.loop-self-preserved
loop-self-preserved c = one_less c.loop-self.self c.unbind.new.self c.args.depth (omega (arith, c.loop-self-test.true, c.depth.ensures)) c.unbind.ensures ∙ c.loop-self.invariant
