use Rattle.std.proofs.Common.{refl, ap, ◌∙◌}
use Rattle.sch_variable_counts.proofs.FreeLists.{goes_outside, stays_inside, none_inside}
use Rattle.sch_variable_counts.proofs.free.outside_group.Goals as goal
use Rattle.sch_variable_counts.proofs.free.outside_group.Goals.{then-x-count+in_ok-push, else-x-count}

pub loop-x-preserved : goal.loop-x-preserved
loop-x-preserved c =
    let n = c.args.count in
    let xs = c.args.xs.now in
    let i = c.loop-x.x-index in
    elim c.if-x-count.branch [
      | then-x-count+in_ok-push w ↦ goes_outside n xs i _ c.loop-x.left.items c.if-x-count.left.items _ c.loop-x-test.true w.if-x-count.true refl (ap (λ v. v.items) w.left-is ∙ w.in_ok-push.ensures.items) c.loop-x.invariant
      | else-x-count w ↦ stays_inside n xs i c.loop-x.left.items c.if-x-count.left.items _ c.loop-x-test.true w.if-x-count.false (ap (λ v. v.items) w.left-is) c.loop-x.invariant
    ]

pub returns : goal.returns
returns c = none_inside c.args.count c.args.xs.now c.loop-x.x-index c.loop-x.left.items _ c.loop-x-test.false c.loop-x.invariant
