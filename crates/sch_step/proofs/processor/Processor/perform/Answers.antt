use Rattle.sch_step.proofs.ProcessorSteps.{go_does}
use Rattle.sch_step.specs.View.{core_of}
use Rattle.sch_step.proofs.processor.Processor.perform.Goals as goal

pub returns-in_default-clause-did : goal.returns-in_default-clause-did
returns-in_default-clause-did g c = go_does c.args.insn.now _ c.go.result (core_of c.args.self.now) (core_of c.go.new.self) (g.O.Outlet.bytes c.args.out.now) (g.O.Outlet.left c.args.out.now)
    (g.O.Outlet.faults c.args.out.now) c.in_default.not-Syscall c.go.ensures.went
