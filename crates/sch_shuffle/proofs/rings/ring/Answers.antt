use Rattle.std.proofs.Common.{◌≡◌, ◌∙◌, ap, arith, sym, length, slice_index, ◌-◌, ◌+◌, get_or}
use Rattle.sch_shuffle.proofs.Paths.{walk, ring_walk, is_later_true}
use Rattle.sch_shuffle.proofs.WalkTurns.{walk_back, walk_on, walk_ends}
use Rattle.sch_shuffle.proofs.rings.ring.Goals as goal

pub returns-then-next-start : goal.returns-then-next-start
returns-then-next-start c =
    c.in_ok-push.ensures.items
    ∙ sym (walk_back (slice_index c.args.successors.now) (length c.args.successors.now) c.args.start _ c.loop-step._step c.loop-step.done.items c.loop-step.at c.loop-step-test.true
    c.if-next-start.true)
    ∙ c.loop-step.invariant.1 ∙ sym (ring_walk (slice_index c.args.successors.now) (length c.args.successors.now) c.args.start c.requires)

pub returns-then-not-is_later : goal.returns-then-not-is_later
returns-then-not-is_later c =
    c.new.ensures.items
    ∙ sym (walk_ends (slice_index c.args.successors.now) (length c.args.successors.now) c.args.start _ c.loop-step._step c.loop-step.done.items c.loop-step.at c.loop-step-test.true
    c.if-next-start.false (sym c.is_later.ensures ∙ c.if-not-is_later.true))
    ∙ c.loop-step.invariant.1 ∙ sym (ring_walk (slice_index c.args.successors.now) (length c.args.successors.now) c.args.start c.requires)

pub loop-step-preserved : goal.loop-step-preserved
loop-step-preserved c =
    let n = length c.args.successors.now in
    let S = slice_index c.args.successors.now in
    let on = sym c.is_later.ensures ∙ c.if-not-is_later.false in
    let next = get_or c.args.successors.now c.loop-step.at 0 in (
      (is_later_true c.args.start next n on).1,
      ap (λ xs. walk S n c.args.start (n - (c.loop-step._step + 1)) xs next) c.in_ok-push.ensures.items
          ∙ sym (walk_on S n c.args.start n c.loop-step._step c.loop-step.done.items c.loop-step.at c.loop-step-test.true c.if-next-start.false on)
          ∙ c.loop-step.invariant.1,
    )

pub returns : goal.returns
returns c =
    let n = length c.args.successors.now in
    let S = slice_index c.args.successors.now in
    let spent : n - c.loop-step._step ≡ 0 = omega (arith, c.loop-step-test.false) in
    c.new-2.ensures.items
    ∙ sym (ap (λ m. walk S n c.args.start m c.loop-step.done.items c.loop-step.at) spent)
    ∙ c.loop-step.invariant.1 ∙ sym (ring_walk S n c.args.start c.requires)
