use Rattle.std.proofs.Common.{◌∙◌, refl, arith}
use Rattle.std.proofs.lemmas.Result.{on_ok_weaker}
use Rattle.sch_writer.specs.Regions.{inside}
use Rattle.sch_writer.proofs.WholeLayout.{group_written, labels_same}
use Rattle.sch_writer.proofs.body_layout.+lay.Goals as goal

pub lay-returns-in_ok-write_store-in-Bind-clause-labels : goal.lay-returns-in_ok-write_store-in-Bind-clause-labels
lay-returns-in_ok-write_store-in-Bind-clause-labels g t c =
    let a = labels_same (g.R.Restores.lists c.args.around.now.allocation.now.restores) _ _ c.deref.ensures in
    let b = labels_same (g.R.Restores.lists c.args.around.now.allocation.now.restores) _ _ c.deref-in-Bind.ensures in
    on_ok_weaker c.lay-in-Bind.result
    (λ h. rw c.in-Bind.is (omega (arith, h, a, b, c.in_ok-lay-in-Bind.ensures.labels, c.in_ok-write_store-in-Bind.ensures.labels))) c.lay-in-Bind.ensures.labels

pub lay-returns-in_ok-lay-in-Seq-clause-labels : goal.lay-returns-in_ok-lay-in-Seq-clause-labels
lay-returns-in_ok-lay-in-Seq-clause-labels g t c =
    let a = labels_same (g.R.Restores.lists c.args.around.now.allocation.now.restores) _ _ c.deref-in-Seq.ensures in
    let b = labels_same (g.R.Restores.lists c.args.around.now.allocation.now.restores) _ _ c.deref-in-Seq-2.ensures in
    on_ok_weaker c.lay-in-Seq-2.result (λ h. rw c.in-Seq.is (omega (arith, h, a, b, c.in_ok-lay-in-Seq.ensures.labels))) c.lay-in-Seq-2.ensures.labels

pub lay-returns-in_ok-lay-in-If-3-clause-labels : goal.lay-returns-in_ok-lay-in-If-3-clause-labels
lay-returns-in_ok-lay-in-If-3-clause-labels g t c =
    let first = labels_same (g.R.Restores.lists c.args.around.now.allocation.now.restores) _ _ c.deref-in-If.ensures in
    let second = labels_same (g.R.Restores.lists c.args.around.now.allocation.now.restores) _ _ c.deref-in-If-2.ensures in
    let third = labels_same (g.R.Restores.lists c.args.around.now.allocation.now.restores) _ _ c.deref-in-If-3.ensures in
    on_ok_weaker c.write_label.result
    (λ h. rw c.in-If.is (omega (
      arith,
      h,
      first,
      second,
      third,
      c.new_label-no.ensures.labels,
      c.new_label-end.ensures.labels,
      c.in_ok-lay-in-If.ensures.labels,
      c.in_ok-lay-in-If-2.ensures.labels,
      c.in_ok-write_else-in-If.ensures.labels,
      c.in_ok-lay-in-If-3.ensures.labels,
    ))) c.write_label.ensures.labels

pub lay-returns-in_ok-write_group-in-Fix-clause-labels : goal.lay-returns-in_ok-write_group-in-Fix-clause-labels
lay-returns-in_ok-write_group-in-Fix-clause-labels g t c =
    let e = labels_same (g.R.Restores.lists c.args.around.now.allocation.now.restores) _ _ c.deref-in-Fix.ensures in
    on_ok_weaker c.lay-in-Fix.result (λ h. rw c.in-Fix.is (omega (arith, h, e, c.in_ok-write_group-in-Fix.ensures.labels))) c.lay-in-Fix.ensures.labels

pub lay-returns-in-Save-clause-labels : goal.lay-returns-in-Save-clause-labels
lay-returns-in-Save-clause-labels g t c =
    let e = labels_same (g.R.Restores.lists c.args.around.now.allocation.now.restores) _ _ c.deref-in-Save.ensures in
    on_ok_weaker c.lay_region.result (λ h. rw c.in-Save.is (omega (arith, h, e))) c.lay_region.ensures.labels

pub lay_region-returns-clause-instructions : goal.lay_region-returns-clause-instructions
lay_region-returns-clause-instructions g t c =
    on_ok_weaker c.lay.result (λ h rest. h rest ∙ (c.in_ok-write_heads.ensures.instructions _ ∙ rw c.in_ok-write_heads.ensures.labels refl)) c.lay.ensures.instructions

pub lay-returns-in_ok-write_group-in-Fix-clause-instructions : goal.lay-returns-in_ok-write_group-in-Fix-clause-instructions
lay-returns-in_ok-write_group-in-Fix-clause-instructions g t c =
    on_ok_weaker c.lay-in-Fix.result
    (λ h. rw c.in-Fix.is (λ rest. group_written (g.P.VariablePlaces.plan c.args.around.now.allocation.now.places) (g.R.Restores.lists c.args.around.now.allocation.now.restores) (inside c.args.around.now.regions)
    _ _ _ _ _ _ c.args.test _ _ _ rest c.as_slice.ensures c.deref-in-Fix.ensures c.in_ok-write_group-in-Fix.ensures.labels c.in_ok-write_group-in-Fix.ensures.instructions (h rest))) c.lay-in-Fix.ensures.instructions
