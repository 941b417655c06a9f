use Rattle.std.proofs.Common.{sym, ◌∙◌}
use Rattle.sch_step.proofs.KernelRows.{no_row}
use Rattle.sch_step.proofs.ProcessorSteps.{exit_does, stuck_does, empty_does}
use Rattle.sch_step.specs.View.{core_of}
use Rattle.sch_step.proofs.processor.Processor.kernel.Goals as goal

pub returns-then-reg-clause-did : goal.returns-then-reg-clause-did
returns-then-reg-clause-did g c = exit_does (core_of c.args.self.now) c.args.next c.reg-then-reg.result c.reg.result (g.O.Outlet.bytes c.args.out.now) (g.O.Outlet.left c.args.out.now)
    (g.O.Outlet.faults c.args.out.now) c.if-reg.true c.reg.ensures c.reg-then-reg.ensures

pub returns-then-not-asks_to_write-clause-did : goal.returns-then-not-asks_to_write-clause-did
returns-then-not-asks_to_write-clause-did g c = stuck_does (core_of c.args.self.now) c.args.next c.args.self.now.at c.reg-then-not-asks_to_write.result c.stuck.result
    (g.O.Outlet.bytes c.args.out.now) (g.O.Outlet.left c.args.out.now) (g.O.Outlet.faults c.args.out.now) c.stuck.ensures c.reg-then-not-asks_to_write.ensures
    (λ b k. no_row (core_of c.args.self.now) c.args.next b k (λ e. c.if-reg.false (c.reg.ensures ∙ e)) (sym c.asks_to_write.ensures ∙ c.if-not-asks_to_write.true))

pub returns-then-reg-eq0-clause-did : goal.returns-then-reg-eq0-clause-did
returns-then-reg-eq0-clause-did g c = empty_does (core_of c.args.self.now) (core_of c.after_write.new.self) c.args.next (g.O.Outlet.bytes c.args.out.now) (g.O.Outlet.left c.args.out.now)
    (g.O.Outlet.faults c.args.out.now) c.after_write.ensures (sym c.asks_to_write.ensures ∙ c.if-not-asks_to_write.false) (sym c.reg-2.ensures ∙ c.if-reg-eq0.true)
