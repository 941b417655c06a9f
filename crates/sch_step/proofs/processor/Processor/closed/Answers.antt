use Rattle.std.proofs.Common.{refl, sym}
use Rattle.sch_insn.specs.Machine.{with_place}
use Rattle.sch_step.proofs.Memory.{may_write, may_not_write}
use Rattle.sch_step.specs.View.{core_of}
use Rattle.sch_step.proofs.processor.Processor.closed.Goals as goal

pub returns-in-Some : goal.returns-in-Some
returns-in-Some c = λ place ys size. sym (may_write
    (with_place place (core_of c.args.self.now)) c.args.self.now.segments.items _ c.args.address c.args.n ys refl size c.requires.some c.args.self.now.laid_out c.in-Some.ensures.within
    c.in-Some.ensures.some c.in-Some.ensures.writable)

pub returns-in-None : goal.returns-in-None
returns-in-None c = λ place ys size. sym (may_not_write (with_place place (core_of c.args.self.now)) c.args.address ys (c.place_to_write.ensures.none c.in-None.is ys size c.requires.some))
