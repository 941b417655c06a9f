use Rattle.sch_step.proofs.Memory.{no_place, shut_place, open_place}
use Rattle.sch_step.proofs.processor.Processor.place_to_write.Goals as goal

pub returns-in_err-i-clause-none : goal.returns-in_err-i-clause-none
returns-in_err-i-clause-none c = λ e ys size some. no_place _ c.args.address c.args.n ys size (c.find.ensures.none c.in_err-i.was)

pub returns-then-not-index-clause-none : goal.returns-then-not-index-clause-none
returns-then-not-index-clause-none c = λ e ys size some. shut_place c.args.self.now.segments.items c.in_ok-i.i c.args.address c.args.n c.index.result.now ys size some c.args.self.now.laid_out
    c.in_ok-i.ensures.within c.in_ok-i.ensures.some c.index.ensures c.if-not-index.true

pub returns-clause-writable : goal.returns-clause-writable
returns-clause-writable c = open_place c.args.self.now.segments.items c.in_ok-i.i c.index.result.now c.in_ok-i.ensures.within c.index.ensures c.if-not-index.false
