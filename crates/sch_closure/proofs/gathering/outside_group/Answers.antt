use Rattle.std.proofs.Common.{◌∙◌, sym, ap}
use Rattle.sch_word.specs.trees.Bindings.{numbers, without}
use Rattle.sch_cells.proofs.Without.{without_none}
use Rattle.sch_closure.proofs.Loops.{stays, goes, none_left, without_append, without_one}
use Rattle.sch_closure.proofs.gathering.outside_group.Goals as goal
use Rattle.sch_closure.proofs.gathering.outside_group.Goals.{then-not-is_in_group+in_ok-push, else-not-is_in_group}

pub loop-x-preserved : goal.loop-x-preserved
loop-x-preserved c =
    let W = (without c.args.first c.args.count) in
    let over = (without_append c.args.first c.args.count) in
    let one = (without_one c.args.first c.args.count) in
    let xs = c.args.xs.now in
    let i = c.loop-x.x-index in
    elim c.if-not-is_in_group.branch [
      | then-not-is_in_group+in_ok-push w ↦ record { left = stays W (numbers c.args.first c.args.count) over one xs i c.loop-x.left.items c.if-not-is_in_group.left.items _ c.loop-x-test.true (sym c.is_in_group.ensures ∙ w.if-not-is_in_group.true) (ap (λ v. v.items) w.left-is ∙ w.in_ok-push.ensures.items) c.loop-x.invariant.left }
      | else-not-is_in_group w ↦ record { left = goes W (numbers c.args.first c.args.count) over one xs i c.loop-x.left.items c.if-not-is_in_group.left.items _ c.loop-x-test.true (sym c.is_in_group.ensures ∙ w.if-not-is_in_group.false) (ap (λ v. v.items) w.left-is) c.loop-x.invariant.left }
    ]

pub returns : goal.returns
returns c = none_left (without c.args.first c.args.count) c.args.xs.now c.loop-x.x-index c.loop-x.left.items _ c.loop-x-test.false (without_none c.args.first c.args.count) c.loop-x.invariant.left
