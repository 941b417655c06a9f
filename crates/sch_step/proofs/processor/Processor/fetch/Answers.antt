use Rattle.std.proofs.Common.{◌∙◌, refl, sym, ap, arith}
use Rattle.sch_insn.specs.Decode.{decode}
use Rattle.sch_word.specs.values.Options.{when_some}
use Rattle.sch_step.specs.Fetched.{is_fixed}
use Rattle.sch_step.proofs.Memory.{begins_before, lies_within, served_open, served_shut, none_serves}
use Rattle.sch_step.proofs.FetchedStays.{is_fixed_by, read_low}
use Rattle.sch_step.specs.Layout.{segment_view}
use Rattle.sch_step.proofs.processor.Processor.fetch.Goals as goal

pub returns-in_err-i-clause-value : goal.returns-in_err-i-clause-value
returns-in_err-i-clause-value c = c.from_residual.ensures ∙ sym (ap (λ o. when_some o decode) (none_serves (λ g. g.executable) _ c.args.self.now.at 1 (c.find.ensures.none c.in_err-i.was)))

pub returns-then-not-s-clause-value : goal.returns-then-not-s-clause-value
returns-then-not-s-clause-value c = sym (ap (λ o. when_some o decode)
    (served_shut (λ g. g.executable) c.args.self.now.segments.items c.in_ok-i.i c.args.self.now.at 1 c.index-s.result.now
    (omega arith) c.args.self.now.laid_out c.in_ok-i.ensures.within c.in_ok-i.ensures.some c.index-s.ensures c.if-not-s.true))

pub returns-then-not-s-2-clause-value : goal.returns-then-not-s-2-clause-value
returns-then-not-s-2-clause-value c = c.decode-found.ensures.read ∙ ap decode c.tail.ensures
    ∙ sym (ap (λ o. when_some o decode) (served_open (λ g. g.executable) c.args.self.now.segments.items c.in_ok-i.i c.args.self.now.at 1 c.index-s.result.now
    (omega arith) c.args.self.now.laid_out c.in_ok-i.ensures.within c.in_ok-i.ensures.some c.index-s.ensures c.if-not-s.false))

pub returns-else-not-s-2-clause-value : goal.returns-else-not-s-2-clause-value
returns-else-not-s-2-clause-value c = c.decode-found.ensures.read ∙ ap decode c.tail.ensures
    ∙ sym (ap (λ o. when_some o decode) (served_open (λ g. g.executable) c.args.self.now.segments.items c.in_ok-i.i c.args.self.now.at 1 c.index-s.result.now
    (omega arith) c.args.self.now.laid_out c.in_ok-i.ensures.within c.in_ok-i.ensures.some c.index-s.ensures c.if-not-s.false))

pub returns-else-not-s-2-clause-low : goal.returns-else-not-s-2-clause-low
returns-else-not-s-2-clause-low c = read_low c.args.self.now.segments.items c.in_ok-i.i c.args.self.now.at c.index-s.result.now c.tail.result.now c.decode-found.result
    c.args.self.now.laid_out c.in_ok-i.ensures.within c.in_ok-i.ensures.some c.index-s.ensures c.tail.ensures c.decode-found.ensures.within

pub keep-requires-clause-fixed : goal.keep-requires-clause-fixed
keep-requires-clause-fixed c = ap (λ o. when_some o decode) (served_open is_fixed c.args.self.now.segments.items c.in_ok-i.i c.args.self.now.at 1 c.index-s.result.now
    (omega arith) c.args.self.now.laid_out c.in_ok-i.ensures.within c.in_ok-i.ensures.some c.index-s.ensures
    (is_fixed_by (segment_view c.index-s.result.now) c.if-not-s.false c.if-not-s-2.true)) ∙ sym (c.decode-found.ensures.read ∙ ap decode c.tail.ensures)

pub returns-then-not-s-2-clause-low : goal.returns-then-not-s-2-clause-low
returns-then-not-s-2-clause-low c = read_low c.args.self.now.segments.items c.in_ok-i.i c.args.self.now.at c.index-s.result.now c.tail.result.now c.decode-found.result
    c.args.self.now.laid_out c.in_ok-i.ensures.within c.in_ok-i.ensures.some c.index-s.ensures c.tail.ensures c.decode-found.ensures.within

pub invariant_of-self : goal.invariant_of-self
invariant_of-self c = record { laid_out = c.args.self.now.laid_out; counted = c.args.self.now.counted; kept = c.args.self.now.kept }

pub overflow_sub-self : goal.overflow_sub-self
overflow_sub-self c = begins_before c.args.self.now.segments.items c.in_ok-i.i _ 1 c.index-s.result.now c.in_ok-i.ensures.within c.in_ok-i.ensures.some c.index-s.ensures

pub tail-requires : goal.tail-requires
tail-requires c =
    let room = lies_within c.args.self.now.segments.items c.in_ok-i.i c.args.self.now.at 1 c.index-s.result.now c.in_ok-i.ensures.within c.in_ok-i.ensures.some c.index-s.ensures in
    omega (arith, room)

pub returns-then-not-s-clause-same : goal.returns-then-not-s-clause-same
returns-then-not-s-clause-same c = refl

pub returns-then-not-s-clause-valid : goal.returns-then-not-s-clause-valid
returns-then-not-s-clause-valid c = tt

pub returns-then-not-s-clause-low : goal.returns-then-not-s-clause-low
returns-then-not-s-clause-low c = tt

pub returns-then-not-s-2-clause-same : goal.returns-then-not-s-2-clause-same
returns-then-not-s-2-clause-same c = c.keep.ensures

pub returns-then-not-s-2-clause-valid : goal.returns-then-not-s-2-clause-valid
returns-then-not-s-2-clause-valid c = c.decode-found.ensures.valid

pub returns-else-not-s-2-clause-same : goal.returns-else-not-s-2-clause-same
returns-else-not-s-2-clause-same c = refl

pub returns-else-not-s-2-clause-valid : goal.returns-else-not-s-2-clause-valid
returns-else-not-s-2-clause-valid c = c.decode-found.ensures.valid

pub keep-requires-clause-valid : goal.keep-requires-clause-valid
keep-requires-clause-valid c = c.decode-found.ensures.valid

pub keep-requires-clause-low : goal.keep-requires-clause-low
keep-requires-clause-low c = read_low c.args.self.now.segments.items c.in_ok-i.i c.args.self.now.at c.index-s.result.now c.tail.result.now c.decode-found.result
    c.args.self.now.laid_out c.in_ok-i.ensures.within c.in_ok-i.ensures.some c.index-s.ensures c.tail.ensures c.decode-found.ensures.within
