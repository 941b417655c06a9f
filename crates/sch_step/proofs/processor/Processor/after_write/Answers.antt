use Rattle.sch_step.specs.View.{core_of}
use Rattle.sch_step.proofs.KernelRows.{written}
use Rattle.sch_step.proofs.processor.Processor.after_write.Goals as goal

pub returns : goal.returns
returns c = written (core_of c.args.self.now) (core_of c.set_reg.new.self) (core_of c.set_reg-2.new.self)
    (core_of c.set_reg-3.new.self) c.args.next c.args.rax c.set_reg.ensures c.set_reg-2.ensures c.set_reg-3.ensures
