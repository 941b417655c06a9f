use Rattle.std.proofs.Common.{◌∙◌, sym, ap, arith, Some}
use Rattle.std.specs.Prelude.{option_map}
use Rattle.sch_step.proofs.Memory.{begins_before, lies_within, served_open, served_shut, none_serves}
use Rattle.sch_step.proofs.processor.Processor.bytes_from.Goals as goal

pub returns-in_err-i-clause-found : goal.returns-in_err-i-clause-found
returns-in_err-i-clause-found c = ap (option_map (λ s. s.now)) c.from_residual.ensures ∙ sym (none_serves (λ g. g.readable) _ c.args.address c.args.n (c.find.ensures.none c.in_err-i.was))

pub returns-then-not-s-clause-found : goal.returns-then-not-s-clause-found
returns-then-not-s-clause-found c = sym (served_shut
    (λ g. g.readable) c.args.self.now.segments.items c.in_ok-i.i c.args.address c.args.n c.index-s.result.now c.requires.some c.args.self.now.laid_out c.in_ok-i.ensures.within
    c.in_ok-i.ensures.some c.index-s.ensures c.if-not-s.true)

pub returns-clause-found : goal.returns-clause-found
returns-clause-found c = ap Some c.tail.ensures ∙ sym
    (served_open (λ g. g.readable) c.args.self.now.segments.items c.in_ok-i.i c.args.address c.args.n c.index-s.result.now c.requires.some c.args.self.now.laid_out c.in_ok-i.ensures.within
    c.in_ok-i.ensures.some c.index-s.ensures c.if-not-s.false)

pub overflow_sub-address : goal.overflow_sub-address
overflow_sub-address c = begins_before c.args.self.now.segments.items c.in_ok-i.i _ c.args.n c.index-s.result.now c.in_ok-i.ensures.within c.in_ok-i.ensures.some c.index-s.ensures

pub tail-requires : goal.tail-requires
tail-requires c =
    let room = lies_within c.args.self.now.segments.items c.in_ok-i.i c.args.address c.args.n c.index-s.result.now c.in_ok-i.ensures.within c.in_ok-i.ensures.some c.index-s.ensures in
    omega (arith, room)
