use Rattle.std.proofs.Common.{◌∙◌, ◌∷◌, [], ◌++◌, get_or, ap}
use Rattle.std.proofs.lemmas.List.{get_or_default}
use Rattle.sch_anf.proofs.BindingLists.{labels_turn, labels_end}
use Rattle.sch_anf.proofs.operands.new_labels.Goals as goal

pub loop-label-preserved : goal.loop-label-preserved
loop-label-preserved c =
    let labels = c.args.labels.now in
    let i = c.loop-label.label-index in
    let label = get_or labels i 0 in
    record {
      made = labels_turn c.args.starts.now labels i c.loop-label.all _ _ label c.loop-label-test.true (get_or_default labels i 0 label c.loop-label-test.true)
          (c.in_ok-push.ensures.ok ∙ ap (λ x. c.loop-label.all ++ x ∷ []) c.new_label.ensures) c.loop-label.invariant.made;
    }

pub returns : goal.returns
returns c = labels_end c.args.starts.now c.args.labels.now c.loop-label.label-index c.loop-label.all _ c.loop-label-test.false c.loop-label.invariant.made
