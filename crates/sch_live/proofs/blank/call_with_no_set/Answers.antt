use Rattle.std.proofs.Common.{ap, ◌∙◌}
use Rattle.std.specs.FinSet as set
use Rattle.std.proofs.lemmas.Result.{IfOk-weaker}
use Rattle.sch_control.specs.Tree.{call}
use Rattle.sch_control.specs.flow.Middle.{listed}
use Rattle.sch_live.proofs.EmptySets.{items_empty}
use Rattle.sch_live.proofs.blank.call_with_no_set.Goals as goal

pub returns : goal.returns
returns g c =
    IfOk-weaker c.boxed_call.result _ _
    (λ x l. ap listed l
    ∙ (ap (λ z. call z (set.items c.new.result)) c.in_ok-a.ensures
    ∙ (ap (λ z. call c.args.a.now (set.items z)) c.new.ensures ∙ ap (λ z. call c.args.a.now z) items_empty)))
    c.boxed_call.ensures
