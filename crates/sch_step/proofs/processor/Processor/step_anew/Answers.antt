use Rattle.std.proofs.Common.{sym, ◌∙◌}
use Rattle.sch_step.proofs.ProcessorSteps.{no_fetch_does}
use Rattle.sch_step.specs.View.{core_of}
use Rattle.sch_step.proofs.processor.Processor.step_anew.Goals as goal

pub returns-in-None-clause-did : goal.returns-in-None-clause-did
returns-in-None-clause-did g c = no_fetch_does (core_of c.args.self.now) (core_of c.fetch.new.self) c.fetch.new.self.at c.stuck.result (g.O.Outlet.bytes c.args.out.now)
    (g.O.Outlet.left c.args.out.now) (g.O.Outlet.faults c.args.out.now) c.fetch.ensures.same c.stuck.ensures (sym c.fetch.ensures.value ∙ c.in-None.is)
