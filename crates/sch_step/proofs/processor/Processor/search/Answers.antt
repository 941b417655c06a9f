use Rattle.std.proofs.Common.{◌≡◌, false, sym, ◌∙◌}
use borrow.Author.Count.{below_more}
use Rattle.sch_insn.specs.Machine.{holds}
use Rattle.sch_step.specs.Layout.{segments_view, segment_at}
use Rattle.sch_step.proofs.processor.Processor.search.Goals as goal

pub loop-i-preserved : goal.loop-i-preserved
loop-i-preserved c = below_more (λ j. holds (segment_at (segments_view c.args.self.now.segments) j) c.args.address c.args.n ≡ false)
    c.loop-i.i c.loop-i.invariant (sym c.holds_at.ensures ∙ c.if-holds_at.false)
