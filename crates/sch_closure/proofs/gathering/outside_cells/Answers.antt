use Rattle.std.proofs.Common.{◌∙◌, sym, ap}
use Rattle.sch_cells.specs.Variables.{cells_bound, without_each}
use Rattle.sch_cells.proofs.Without.{without_each_none}
use Rattle.sch_closure.proofs.Loops.{stays, goes, none_left, without_each_append, without_each_one}
use Rattle.sch_closure.proofs.gathering.outside_cells.Goals as goal
use Rattle.sch_closure.proofs.gathering.outside_cells.Goals.{then-not-is_cell+in_ok-push, else-not-is_cell}

pub loop-x-preserved : goal.loop-x-preserved
loop-x-preserved c =
    let W = (without_each (cells_bound c.args.cs.now)) in
    let over = (without_each_append (cells_bound c.args.cs.now)) in
    let one = (without_each_one (cells_bound c.args.cs.now)) in
    let xs = c.args.xs.now in
    let i = c.loop-x.x-index in
    elim c.if-not-is_cell.branch [
      | then-not-is_cell+in_ok-push w ↦ record { left = stays W (cells_bound c.args.cs.now) over one xs i c.loop-x.left.items c.if-not-is_cell.left.items _ c.loop-x-test.true (sym c.is_cell.ensures ∙ w.if-not-is_cell.true) (ap (λ v. v.items) w.left-is ∙ w.in_ok-push.ensures.items) c.loop-x.invariant.left }
      | else-not-is_cell w ↦ record { left = goes W (cells_bound c.args.cs.now) over one xs i c.loop-x.left.items c.if-not-is_cell.left.items _ c.loop-x-test.true (sym c.is_cell.ensures ∙ w.if-not-is_cell.false) (ap (λ v. v.items) w.left-is) c.loop-x.invariant.left }
    ]

pub returns : goal.returns
returns c = none_left (without_each (cells_bound c.args.cs.now)) c.args.xs.now c.loop-x.x-index c.loop-x.left.items _ c.loop-x-test.false (without_each_none (cells_bound c.args.cs.now)) c.loop-x.invariant.left
