use Rattle.std.proofs.Common.{ap, sym, ◌∙◌, refl}
use Rattle.std.proofs.lemmas.Result.{IfOk-weaker}
use Rattle.sch_control.specs.flow.Middle.{listed}
use Rattle.sch_saves.specs.LazyRegions as lazily
use Rattle.sch_saves.proofs.TwoSetsOf.{equal_tree, bind_sets, call_sets, sequence_sets, branch_sets, return_sets, end_sets, tail_sets, branch_made}
use Rattle.sch_saves.proofs.needs.+with_needs.Goals as goal

pub returns-in_ok-b-in-Bind-clause-sets : goal.returns-in_ok-b-in-Bind-clause-sets
returns-in_ok-b-in-Bind-clause-sets g t c =
    IfOk-weaker c.boxed_bind.result _ _
    (λ x l. equal_tree c.args.variables.now.count _ _ _ _ (ap listed c.in-Bind.is)
    (bind_sets c.args.variables.now.count c.in-Bind.x (listed c.in-Bind.a.value) (listed c.in-Bind.b.value) _ _ _ _ _ _ c.need_before.ensures.on_true c.need_before.ensures.on_false
    (equal_tree c.args.variables.now.count (listed c.in-Bind.a.value) _ _ _ (ap listed (sym c.deref.ensures)) c.in_ok-a-in-Bind.ensures.sets)
    (equal_tree c.args.variables.now.count (listed c.in-Bind.b.value) _ _ _ (ap listed (sym c.deref-in-Bind.ensures)) c.in_ok-b-in-Bind.ensures.sets)))
    c.boxed_bind.ensures

pub returns-in_ok-b-in-Seq-clause-sets : goal.returns-in_ok-b-in-Seq-clause-sets
returns-in_ok-b-in-Seq-clause-sets g t c =
    IfOk-weaker c.boxed_seq.result _ _
    (λ x l. equal_tree c.args.variables.now.count _ _ _ _ (ap listed c.in-Seq.is)
    (sequence_sets c.args.variables.now.count (listed c.in-Seq.a.value) (listed c.in-Seq.b.value) _ _ _ _ _ _ c.need_before-in-Seq.ensures.on_true c.need_before-in-Seq.ensures.on_false
    (equal_tree c.args.variables.now.count (listed c.in-Seq.a.value) _ _ _ (ap listed (sym c.deref-in-Seq.ensures)) c.in_ok-a-in-Seq.ensures.sets)
    (equal_tree c.args.variables.now.count (listed c.in-Seq.b.value) _ _ _ (ap listed (sym c.deref-in-Seq-2.ensures)) c.in_ok-b-in-Seq.ensures.sets)))
    c.boxed_seq.ensures

pub returns-in_ok-c-in-If-clause-sets : goal.returns-in_ok-c-in-If-clause-sets
returns-in_ok-c-in-If-clause-sets g t c =
    IfOk-weaker c.boxed_if.result _ _
    (λ x l. equal_tree c.args.variables.now.count _ _ _ _ (ap listed c.in-If.is)
    (branch_sets c.args.variables.now.count (listed c.in-If.a.value) (listed c.in-If.b.value) (listed c.in-If.c.value) _ _ _ _ _ _ _ _ c.need_either.ensures c.need_either-in-If.ensures
    (equal_tree c.args.variables.now.count (listed c.in-If.a.value) _ _ _ (ap listed (sym c.deref-in-If.ensures)) c.in_ok-a-in-If.ensures.sets)
    (equal_tree c.args.variables.now.count (listed c.in-If.b.value) _ _ _ (ap listed (sym c.deref-in-If-2.ensures)) c.in_ok-first-in-If.ensures.sets)
    (equal_tree c.args.variables.now.count (listed c.in-If.c.value) _ _ _ (ap listed (sym c.deref-in-If-3.ensures)) c.in_ok-second-in-If.ensures.sets)))
    c.boxed_if.ensures

pub returns-in_ok-e-in-Return-clause-sets : goal.returns-in_ok-e-in-Return-clause-sets
returns-in_ok-e-in-Return-clause-sets g t c =
    IfOk-weaker c.boxed_return.result _ _
    (λ x l. equal_tree c.args.variables.now.count _ _ _ _ (ap listed c.in-Return.is)
    (return_sets c.args.variables.now.count (listed c.in-Return.e.value) _ _ _ _ _ refl c.settle.ensures.on_true c.settle.ensures.on_false
    (equal_tree c.args.variables.now.count (listed c.in-Return.e.value) _ _ _ (ap listed (sym c.deref-in-Return.ensures)) c.in_ok-e-in-Return.ensures.sets)))
    c.boxed_return.ensures

pub returns-in_ok-e-in-End-clause-sets : goal.returns-in_ok-e-in-End-clause-sets
returns-in_ok-e-in-End-clause-sets g t c =
    IfOk-weaker c.boxed_end.result _ _
    (λ x l. equal_tree c.args.variables.now.count _ _ _ _ (ap listed c.in-End.is)
    (end_sets c.args.variables.now.count (listed c.in-End.e.value) _ _ _ _ _ refl c.settle-in-End.ensures.on_true c.settle-in-End.ensures.on_false
    (equal_tree c.args.variables.now.count (listed c.in-End.e.value) _ _ _ (ap listed (sym c.deref-in-End.ensures)) c.in_ok-e-in-End.ensures.sets)))
    c.boxed_end.ensures

pub returns-in_ok-c-in-If-clause-made : goal.returns-in_ok-c-in-If-clause-made
returns-in_ok-c-in-If-clause-made g t c =
    IfOk-weaker c.boxed_if.result _ _
    (λ x l. ap listed l
    ∙ (branch_made c.args.variables.now.count (listed c.in-If.a.value) (listed c.in-If.b.value) (listed c.in-If.c.value) (listed c.in_ok-a-in-If.a.value) (listed c.in_ok-first-in-If.first.value)
    (listed c.in_ok-b-in-If.b.value) (listed c.in_ok-second-in-If.second.value) (listed c.in_ok-c-in-If.c.value) _ _ _ _
    (c.in_ok-a-in-If.ensures.made ∙ ap (λ z. lazily.with_needs c.args.variables.now.count (listed z)) c.deref-in-If.ensures)
    (c.in_ok-first-in-If.ensures.made ∙ ap (λ z. lazily.with_needs c.args.variables.now.count (listed z)) c.deref-in-If-2.ensures)
    (equal_tree c.args.variables.now.count (listed c.in-If.b.value) _ _ _ (ap listed (sym c.deref-in-If-2.ensures)) c.in_ok-first-in-If.ensures.sets)
    c.in_ok-b-in-If.ensures
    (c.in_ok-second-in-If.ensures.made ∙ ap (λ z. lazily.with_needs c.args.variables.now.count (listed z)) c.deref-in-If-3.ensures)
    (equal_tree c.args.variables.now.count (listed c.in-If.c.value) _ _ _ (ap listed (sym c.deref-in-If-3.ensures)) c.in_ok-second-in-If.ensures.sets)
    c.in_ok-c-in-If.ensures
    ∙ ap (λ z. lazily.with_needs c.args.variables.now.count (listed z)) (sym c.in-If.is)))
    c.boxed_if.ensures

pub returns-in-TailCall-clause-sets : goal.returns-in-TailCall-clause-sets
returns-in-TailCall-clause-sets g t c =
    IfOk-weaker c.copied_tail_call.result _ _
    (λ x l. equal_tree c.args.variables.now.count _ _ _ _ (ap listed c.in-TailCall.is)
    (tail_sets c.args.variables.now.count c.in-TailCall.a _ _ c.clear.ensures.on_true c.clear.ensures.on_false))
    c.copied_tail_call.ensures

pub returns-in-Call-clause-sets : goal.returns-in-Call-clause-sets
returns-in-Call-clause-sets g t c =
    let v = c.args.variables.now in
    IfOk-weaker c.copied_call.result _ _
    (λ x l. equal_tree v.count _ _ _ _ (ap listed c.in-Call.is)
    (call_sets v.count c.in-Call.a c.in-Call.live v.all.now _ _ _ v.whole refl c.need_live.ensures.on_true c.need_live.ensures.on_false))
    c.copied_call.ensures

pub returns-in-Do-clause-sets : goal.returns-in-Do-clause-sets
returns-in-Do-clause-sets g t c =
    IfOk-weaker c.copied_do.result _ _
    (λ x l. equal_tree c.args.variables.now.count _ _ _ _ (ap listed c.in-Do.is) c.need_value.ensures)
    c.copied_do.ensures
