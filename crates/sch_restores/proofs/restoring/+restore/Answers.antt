use Rattle.std.proofs.Common.{ap, sym, ◌∙◌}
use Rattle.std.specs.Prelude.{◌||◌, ◌&&◌, not}
use Rattle.std.specs.FinSet as set
use Rattle.std.proofs.lemmas.Result.{IfOk-weaker}
use Rattle.sch_word.specs.trees.NumberSets.{has}
use Rattle.sch_control.specs.AtomsAndSites.{member_atoms}
use Rattle.sch_control.specs.Valid.{member_variables}
use Rattle.sch_control.specs.flow.Live.{named}
use Rattle.sch_control.specs.flow.LiveTests.{behind}
use Rattle.sch_control.specs.flow.Middle.{listed}
use Rattle.sch_control.specs.flow.RestoredView.{restored}
use Rattle.sch_restores.proofs.EagerSteps.{bind_made, bind_soon, bind_unbound, branch_made, branch_soon, branch_unbound, call_made, end_made, end_soon, fix_soon, fix_unbound, made_given, made_of, return_made, return_soon, save_made, save_soon, save_unbound, sequence_made, sequence_soon, sequence_unbound, soon_given, soon_of, unbound_of}
use Rattle.sch_restores.proofs.restoring.+restore.Goals as goal

pub returns-in_ok-a-in-Bind-clause-made : goal.returns-in_ok-a-in-Bind-clause-made
returns-in_ok-a-in-Bind-clause-made g t c =
    IfOk-weaker c.boxed_bind.result _ _
    (λ x l. ap restored l ∙ made_of c.args.around.now.count (set.contains c.args.around.now.inside.now) (behind c.args.around.now.on_true.now c.args.around.now.on_false.now) _ _ _ (ap listed (sym c.in-Bind.is)) (bind_made c.args.around.now.count (set.contains c.args.around.now.inside.now) (behind c.args.around.now.on_true.now c.args.around.now.on_false.now) c.in-Bind.x (listed c.in-Bind.a.value) (listed c.in-Bind.b.value) (restored c.in_ok-a-in-Bind.a.value) (restored c.in_ok-b-in-Bind.b.value) c.restore.new.soon c.remove.new.self
    (soon_of c.restore.new.soon (behind c.args.around.now.on_true.now c.args.around.now.on_false.now) _ (listed c.in-Bind.b.value) (ap listed c.deref.ensures) c.in_ok-b-in-Bind.ensures.soon) c.remove.ensures
    (made_given c.args.around.now.count _ c.args.around.now.inside.now _ c.remove.new.self _ c.remove.new.self _ _ (listed c.in-Bind.a.value) _ c.with_behind.ensures.count c.with_behind.ensures.inside c.with_behind.ensures.on_true c.with_behind.ensures.on_false (ap listed c.deref-in-Bind.ensures) c.in_ok-a-in-Bind.ensures.made)
    (made_of c.args.around.now.count (set.contains c.args.around.now.inside.now) (behind c.args.around.now.on_true.now c.args.around.now.on_false.now) _ _ (listed c.in-Bind.b.value) (ap listed c.deref.ensures) c.in_ok-b-in-Bind.ensures.made)))
    c.boxed_bind.ensures

pub returns-in_ok-a-in-Bind-clause-soon : goal.returns-in_ok-a-in-Bind-clause-soon
returns-in_ok-a-in-Bind-clause-soon g t c =
    IfOk-weaker c.boxed_bind.result _ _
    (λ x l. soon_of _ (behind c.args.around.now.on_true.now c.args.around.now.on_false.now) _ _ (ap listed (sym c.in-Bind.is)) (bind_soon c.args.around.now.count (set.contains c.args.around.now.inside.now) (behind c.args.around.now.on_true.now c.args.around.now.on_false.now) c.in-Bind.x (listed c.in-Bind.a.value) (listed c.in-Bind.b.value) c.restore.new.soon c.remove.new.self _
    (soon_of c.restore.new.soon (behind c.args.around.now.on_true.now c.args.around.now.on_false.now) _ (listed c.in-Bind.b.value) (ap listed c.deref.ensures) c.in_ok-b-in-Bind.ensures.soon) c.remove.ensures
    (soon_given c.restore-in-Bind.new.soon c.remove.new.self _ c.remove.new.self _ (listed c.in-Bind.a.value) _ c.with_behind.ensures.on_true c.with_behind.ensures.on_false (ap listed c.deref-in-Bind.ensures) c.in_ok-a-in-Bind.ensures.soon)))
    c.boxed_bind.ensures

pub returns-in_ok-a-in-Bind-clause-unbound : goal.returns-in_ok-a-in-Bind-clause-unbound
returns-in_ok-a-in-Bind-clause-unbound g t c =
    IfOk-weaker c.boxed_bind.result _ _
    (λ x l. unbound_of c.args.unbound.now _ _ _ (ap listed (sym c.in-Bind.is)) (bind_unbound c.in-Bind.x (listed c.in-Bind.a.value) (listed c.in-Bind.b.value) c.args.unbound.now c.restore.new.unbound c.remove-in-Bind.new.self c.restore-in-Bind.new.unbound
    (unbound_of c.args.unbound.now c.restore.new.unbound _ (listed c.in-Bind.b.value) (ap listed c.deref.ensures) c.in_ok-b-in-Bind.ensures.unbound) c.remove-in-Bind.ensures
    (unbound_of c.remove-in-Bind.new.self c.restore-in-Bind.new.unbound _ (listed c.in-Bind.a.value) (ap listed c.deref-in-Bind.ensures) c.in_ok-a-in-Bind.ensures.unbound)))
    c.boxed_bind.ensures

pub returns-in_ok-a-in-Seq-clause-made : goal.returns-in_ok-a-in-Seq-clause-made
returns-in_ok-a-in-Seq-clause-made g t c =
    IfOk-weaker c.boxed_seq.result _ _
    (λ x l. ap restored l ∙ made_of c.args.around.now.count (set.contains c.args.around.now.inside.now) (behind c.args.around.now.on_true.now c.args.around.now.on_false.now) _ _ _ (ap listed (sym c.in-Seq.is)) (sequence_made c.args.around.now.count (set.contains c.args.around.now.inside.now) (behind c.args.around.now.on_true.now c.args.around.now.on_false.now) (listed c.in-Seq.a.value) (listed c.in-Seq.b.value) (restored c.in_ok-a-in-Seq.a.value) (restored c.in_ok-b-in-Seq.b.value) c.restore-in-Seq.new.soon
    (soon_of c.restore-in-Seq.new.soon (behind c.args.around.now.on_true.now c.args.around.now.on_false.now) _ (listed c.in-Seq.b.value) (ap listed c.deref-in-Seq.ensures) c.in_ok-b-in-Seq.ensures.soon)
    (made_given c.args.around.now.count _ c.args.around.now.inside.now _ c.restore-in-Seq.new.soon _ c.restore-in-Seq.new.soon _ _ (listed c.in-Seq.a.value) _ c.with_behind-in-Seq.ensures.count c.with_behind-in-Seq.ensures.inside c.with_behind-in-Seq.ensures.on_true c.with_behind-in-Seq.ensures.on_false (ap listed c.deref-in-Seq-2.ensures) c.in_ok-a-in-Seq.ensures.made)
    (made_of c.args.around.now.count (set.contains c.args.around.now.inside.now) (behind c.args.around.now.on_true.now c.args.around.now.on_false.now) _ _ (listed c.in-Seq.b.value) (ap listed c.deref-in-Seq.ensures) c.in_ok-b-in-Seq.ensures.made)))
    c.boxed_seq.ensures

pub returns-in_ok-a-in-Seq-clause-soon : goal.returns-in_ok-a-in-Seq-clause-soon
returns-in_ok-a-in-Seq-clause-soon g t c =
    IfOk-weaker c.boxed_seq.result _ _
    (λ x l. soon_of _ (behind c.args.around.now.on_true.now c.args.around.now.on_false.now) _ _ (ap listed (sym c.in-Seq.is)) (sequence_soon c.args.around.now.count (set.contains c.args.around.now.inside.now) (behind c.args.around.now.on_true.now c.args.around.now.on_false.now) (listed c.in-Seq.a.value) (listed c.in-Seq.b.value) c.restore-in-Seq.new.soon _
    (soon_of c.restore-in-Seq.new.soon (behind c.args.around.now.on_true.now c.args.around.now.on_false.now) _ (listed c.in-Seq.b.value) (ap listed c.deref-in-Seq.ensures) c.in_ok-b-in-Seq.ensures.soon)
    (soon_given c.restore-in-Seq-2.new.soon c.restore-in-Seq.new.soon _ c.restore-in-Seq.new.soon _ (listed c.in-Seq.a.value) _ c.with_behind-in-Seq.ensures.on_true c.with_behind-in-Seq.ensures.on_false (ap listed c.deref-in-Seq-2.ensures) c.in_ok-a-in-Seq.ensures.soon)))
    c.boxed_seq.ensures

pub returns-in_ok-a-in-Seq-clause-unbound : goal.returns-in_ok-a-in-Seq-clause-unbound
returns-in_ok-a-in-Seq-clause-unbound g t c =
    IfOk-weaker c.boxed_seq.result _ _
    (λ x l. unbound_of c.args.unbound.now _ _ _ (ap listed (sym c.in-Seq.is)) (sequence_unbound (listed c.in-Seq.a.value) (listed c.in-Seq.b.value) c.args.unbound.now c.restore-in-Seq.new.unbound c.restore-in-Seq-2.new.unbound
    (unbound_of c.args.unbound.now c.restore-in-Seq.new.unbound _ (listed c.in-Seq.b.value) (ap listed c.deref-in-Seq.ensures) c.in_ok-b-in-Seq.ensures.unbound)
    (unbound_of c.restore-in-Seq.new.unbound c.restore-in-Seq-2.new.unbound _ (listed c.in-Seq.a.value) (ap listed c.deref-in-Seq-2.ensures) c.in_ok-a-in-Seq.ensures.unbound)))
    c.boxed_seq.ensures

pub returns-in_ok-a-in-If-clause-made : goal.returns-in_ok-a-in-If-clause-made
returns-in_ok-a-in-If-clause-made g t c =
    IfOk-weaker c.boxed_if.result _ _
    (λ x l. ap restored l ∙ made_of c.args.around.now.count (set.contains c.args.around.now.inside.now) (behind c.args.around.now.on_true.now c.args.around.now.on_false.now) _ _ _ (ap listed (sym c.in-If.is)) (branch_made c.args.around.now.count (set.contains c.args.around.now.inside.now) (behind c.args.around.now.on_true.now c.args.around.now.on_false.now) (listed c.in-If.a.value) (listed c.in-If.b.value) (listed c.in-If.c.value) (restored c.in_ok-a-in-If.a.value) (restored c.in_ok-b-in-If.b.value) (restored c.in_ok-c-in-If.c.value) c.restore-in-If.new.soon c.restore-in-If-2.new.soon
    (soon_of c.restore-in-If.new.soon (behind c.args.around.now.on_true.now c.args.around.now.on_false.now) _ (listed c.in-If.b.value) (ap listed c.deref-in-If.ensures) c.in_ok-b-in-If.ensures.soon)
    (soon_of c.restore-in-If-2.new.soon (behind c.args.around.now.on_true.now c.args.around.now.on_false.now) _ (listed c.in-If.c.value) (ap listed c.deref-in-If-2.ensures) c.in_ok-c-in-If.ensures.soon)
    (made_given c.args.around.now.count _ c.args.around.now.inside.now _ c.restore-in-If.new.soon _ c.restore-in-If-2.new.soon _ _ (listed c.in-If.a.value) _ c.with_behind-in-If.ensures.count c.with_behind-in-If.ensures.inside c.with_behind-in-If.ensures.on_true c.with_behind-in-If.ensures.on_false (ap listed c.deref-in-If-3.ensures) c.in_ok-a-in-If.ensures.made)
    (made_of c.args.around.now.count (set.contains c.args.around.now.inside.now) (behind c.args.around.now.on_true.now c.args.around.now.on_false.now) _ _ (listed c.in-If.b.value) (ap listed c.deref-in-If.ensures) c.in_ok-b-in-If.ensures.made)
    (made_of c.args.around.now.count (set.contains c.args.around.now.inside.now) (behind c.args.around.now.on_true.now c.args.around.now.on_false.now) _ _ (listed c.in-If.c.value) (ap listed c.deref-in-If-2.ensures) c.in_ok-c-in-If.ensures.made)))
    c.boxed_if.ensures

pub returns-in_ok-a-in-If-clause-soon : goal.returns-in_ok-a-in-If-clause-soon
returns-in_ok-a-in-If-clause-soon g t c =
    IfOk-weaker c.boxed_if.result _ _
    (λ x l. soon_of _ (behind c.args.around.now.on_true.now c.args.around.now.on_false.now) _ _ (ap listed (sym c.in-If.is)) (branch_soon c.args.around.now.count (set.contains c.args.around.now.inside.now) (behind c.args.around.now.on_true.now c.args.around.now.on_false.now) (listed c.in-If.a.value) (listed c.in-If.b.value) (listed c.in-If.c.value) c.restore-in-If.new.soon c.restore-in-If-2.new.soon _
    (soon_of c.restore-in-If.new.soon (behind c.args.around.now.on_true.now c.args.around.now.on_false.now) _ (listed c.in-If.b.value) (ap listed c.deref-in-If.ensures) c.in_ok-b-in-If.ensures.soon)
    (soon_of c.restore-in-If-2.new.soon (behind c.args.around.now.on_true.now c.args.around.now.on_false.now) _ (listed c.in-If.c.value) (ap listed c.deref-in-If-2.ensures) c.in_ok-c-in-If.ensures.soon)
    (soon_given c.restore-in-If-3.new.soon c.restore-in-If.new.soon _ c.restore-in-If-2.new.soon _ (listed c.in-If.a.value) _ c.with_behind-in-If.ensures.on_true c.with_behind-in-If.ensures.on_false (ap listed c.deref-in-If-3.ensures) c.in_ok-a-in-If.ensures.soon)))
    c.boxed_if.ensures

pub returns-in_ok-a-in-If-clause-unbound : goal.returns-in_ok-a-in-If-clause-unbound
returns-in_ok-a-in-If-clause-unbound g t c =
    IfOk-weaker c.boxed_if.result _ _
    (λ x l. unbound_of c.args.unbound.now _ _ _ (ap listed (sym c.in-If.is)) (branch_unbound (listed c.in-If.a.value) (listed c.in-If.b.value) (listed c.in-If.c.value) c.args.unbound.now c.restore-in-If.new.unbound c.restore-in-If-2.new.unbound c.restore-in-If-3.new.unbound
    (unbound_of c.args.unbound.now c.restore-in-If.new.unbound _ (listed c.in-If.b.value) (ap listed c.deref-in-If.ensures) c.in_ok-b-in-If.ensures.unbound)
    (unbound_of c.restore-in-If.new.unbound c.restore-in-If-2.new.unbound _ (listed c.in-If.c.value) (ap listed c.deref-in-If-2.ensures) c.in_ok-c-in-If.ensures.unbound)
    (unbound_of c.restore-in-If-2.new.unbound c.restore-in-If-3.new.unbound _ (listed c.in-If.a.value) (ap listed c.deref-in-If-3.ensures) c.in_ok-a-in-If.ensures.unbound)))
    c.boxed_if.ensures

pub returns-in_ok-e-in-Fix-clause-soon : goal.returns-in_ok-e-in-Fix-clause-soon
returns-in_ok-e-in-Fix-clause-soon g t c =
    IfOk-weaker c.copied_fix.result _ _
    (λ x l. soon_of _ (behind c.args.around.now.on_true.now c.args.around.now.on_false.now) _ _ (ap listed (sym c.in-Fix.is)) (fix_soon c.args.around.now.count (set.contains c.args.around.now.inside.now) (behind c.args.around.now.on_true.now c.args.around.now.on_false.now) c.in-Fix.members (listed c.in-Fix.e.value) c.restore-in-Fix.new.soon c.want_group.new.soon
    (soon_of c.restore-in-Fix.new.soon (behind c.args.around.now.on_true.now c.args.around.now.on_false.now) _ (listed c.in-Fix.e.value) (ap listed c.deref-in-Fix.ensures) c.in_ok-e-in-Fix.ensures.soon)
    (λ x. c.want_group.ensures x ∙ ap (λ ms. not (has x (member_variables ms)) && (has x (named (member_atoms ms)) || set.contains c.restore-in-Fix.new.soon x)) c.as_slice.ensures)))
    c.copied_fix.ensures

pub returns-in_ok-e-in-Fix-clause-unbound : goal.returns-in_ok-e-in-Fix-clause-unbound
returns-in_ok-e-in-Fix-clause-unbound g t c =
    IfOk-weaker c.copied_fix.result _ _
    (λ x l. unbound_of c.args.unbound.now _ _ _ (ap listed (sym c.in-Fix.is)) (fix_unbound c.in-Fix.members (listed c.in-Fix.e.value) c.args.unbound.now c.restore-in-Fix.new.unbound c.remove_members.new.live
    (unbound_of c.args.unbound.now c.restore-in-Fix.new.unbound _ (listed c.in-Fix.e.value) (ap listed c.deref-in-Fix.ensures) c.in_ok-e-in-Fix.ensures.unbound)
    (λ x. c.remove_members.ensures x ∙ ap (λ ms. not (has x (member_variables ms)) && set.contains c.restore-in-Fix.new.unbound x) c.as_slice-in-Fix.ensures)))
    c.copied_fix.ensures

pub returns-in-Call-clause-made : goal.returns-in-Call-clause-made
returns-in-Call-clause-made g t c =
    IfOk-weaker c.restoring_call.result _ _
    (λ x l. l ∙ made_of c.args.around.now.count (set.contains c.args.around.now.inside.now) (behind c.args.around.now.on_true.now c.args.around.now.on_false.now) _ _ _ (ap listed (sym c.in-Call.is)) (call_made c.args.around.now.count c.in-Call.a c.in-Call.live (set.contains c.args.around.now.inside.now) (behind c.args.around.now.on_true.now c.args.around.now.on_false.now)))
    c.restoring_call.ensures.made

pub returns-in_ok-e-in-Return-clause-made : goal.returns-in_ok-e-in-Return-clause-made
returns-in_ok-e-in-Return-clause-made g t c =
    IfOk-weaker c.boxed_return.result _ _
    (λ x l. ap restored l ∙ made_of c.args.around.now.count (set.contains c.args.around.now.inside.now) (behind c.args.around.now.on_true.now c.args.around.now.on_false.now) _ _ _ (ap listed (sym c.in-Return.is)) (return_made c.args.around.now.count (set.contains c.args.around.now.inside.now) (behind c.args.around.now.on_true.now c.args.around.now.on_false.now) (listed c.in-Return.e.value) (restored c.in_ok-e-in-Return.e.value) c.new-later.result c.insert.new.self c.new-later.ensures c.insert.ensures
    (made_given c.args.around.now.count _ c.args.around.now.inside.now _ c.insert.new.self _ c.insert.new.self _ _ (listed c.in-Return.e.value) _ c.with_behind-in-Return.ensures.count c.with_behind-in-Return.ensures.inside c.with_behind-in-Return.ensures.on_true c.with_behind-in-Return.ensures.on_false (ap listed c.deref-in-Return.ensures) c.in_ok-e-in-Return.ensures.made)))
    c.boxed_return.ensures

pub returns-in_ok-e-in-Return-clause-soon : goal.returns-in_ok-e-in-Return-clause-soon
returns-in_ok-e-in-Return-clause-soon g t c =
    IfOk-weaker c.boxed_return.result _ _
    (λ x l. soon_of _ (behind c.args.around.now.on_true.now c.args.around.now.on_false.now) _ _ (ap listed (sym c.in-Return.is)) (return_soon c.args.around.now.count (set.contains c.args.around.now.inside.now) (behind c.args.around.now.on_true.now c.args.around.now.on_false.now) (listed c.in-Return.e.value) c.new-later.result c.insert.new.self _ c.new-later.ensures c.insert.ensures
    (soon_given c.restore-in-Return.new.soon c.insert.new.self _ c.insert.new.self _ (listed c.in-Return.e.value) _ c.with_behind-in-Return.ensures.on_true c.with_behind-in-Return.ensures.on_false (ap listed c.deref-in-Return.ensures) c.in_ok-e-in-Return.ensures.soon)))
    c.boxed_return.ensures

pub returns-in_ok-e-in-End-clause-made : goal.returns-in_ok-e-in-End-clause-made
returns-in_ok-e-in-End-clause-made g t c =
    IfOk-weaker c.boxed_end.result _ _
    (λ x l. ap restored l ∙ made_of c.args.around.now.count (set.contains c.args.around.now.inside.now) (behind c.args.around.now.on_true.now c.args.around.now.on_false.now) _ _ _ (ap listed (sym c.in-End.is)) (end_made c.args.around.now.count (set.contains c.args.around.now.inside.now) (behind c.args.around.now.on_true.now c.args.around.now.on_false.now) (listed c.in-End.e.value) (restored c.in_ok-e-in-End.e.value) c.new-later.result c.new-later.ensures
    (made_given c.args.around.now.count _ c.args.around.now.inside.now _ c.new-later.result _ c.new-later.result _ _ (listed c.in-End.e.value) _ c.with_behind-in-End.ensures.count c.with_behind-in-End.ensures.inside c.with_behind-in-End.ensures.on_true c.with_behind-in-End.ensures.on_false (ap listed c.deref-in-End.ensures) c.in_ok-e-in-End.ensures.made)))
    c.boxed_end.ensures

pub returns-in_ok-e-in-End-clause-soon : goal.returns-in_ok-e-in-End-clause-soon
returns-in_ok-e-in-End-clause-soon g t c =
    IfOk-weaker c.boxed_end.result _ _
    (λ x l. soon_of _ (behind c.args.around.now.on_true.now c.args.around.now.on_false.now) _ _ (ap listed (sym c.in-End.is)) (end_soon c.args.around.now.count (set.contains c.args.around.now.inside.now) (behind c.args.around.now.on_true.now c.args.around.now.on_false.now) (listed c.in-End.e.value) c.new-later.result _ c.new-later.ensures
    (soon_given c.restore-in-End.new.soon c.new-later.result _ c.new-later.result _ (listed c.in-End.e.value) _ c.with_behind-in-End.ensures.on_true c.with_behind-in-End.ensures.on_false (ap listed c.deref-in-End.ensures) c.in_ok-e-in-End.ensures.soon)))
    c.boxed_end.ensures

pub returns-in_ok-e-in-Save-clause-made : goal.returns-in_ok-e-in-Save-clause-made
returns-in_ok-e-in-Save-clause-made g t c =
    IfOk-weaker c.copied_save.result _ _
    (λ x l. ap restored l ∙ made_of c.args.around.now.count (set.contains c.args.around.now.inside.now) (behind c.args.around.now.on_true.now c.args.around.now.on_false.now) _ _ _ (ap listed (sym c.in-Save.is)) (save_made c.args.around.now.count c.in-Save.saves c.args.around.now.inside.now c.with_all-within.result (listed c.in-Save.e.value) (restored c.in_ok-e-in-Save.e.value) (behind c.args.around.now.on_true.now c.args.around.now.on_false.now)
    (λ x. c.with_all-within.ensures x ∙ ap (λ z. has x z || set.contains c.args.around.now.inside.now x) c.as_slice-in-Save.ensures)
    (made_given c.args.around.now.count _ c.with_all-within.result _ c.args.around.now.on_true.now _ c.args.around.now.on_false.now _ _ (listed c.in-Save.e.value) _ c.within.ensures.count c.within.ensures.inside c.within.ensures.on_true c.within.ensures.on_false (ap listed c.deref-in-Save.ensures) c.in_ok-e-in-Save.ensures.made)))
    c.copied_save.ensures

pub returns-in_ok-e-in-Save-clause-soon : goal.returns-in_ok-e-in-Save-clause-soon
returns-in_ok-e-in-Save-clause-soon g t c =
    IfOk-weaker c.copied_save.result _ _
    (λ x l. soon_of _ (behind c.args.around.now.on_true.now c.args.around.now.on_false.now) _ _ (ap listed (sym c.in-Save.is)) (save_soon c.in-Save.saves (listed c.in-Save.e.value) c.args.unbound.now c.with_all-own.result c.restore-in-Save.new.unbound (λ x. c.with_all-own.ensures x ∙ ap (λ z. has x z || set.contains c.args.unbound.now x) c.as_slice-in-Save-2.ensures)
    (unbound_of c.with_all-own.result c.restore-in-Save.new.unbound _ (listed c.in-Save.e.value) (ap listed c.deref-in-Save.ensures) c.in_ok-e-in-Save.ensures.unbound)
    (behind c.args.around.now.on_true.now c.args.around.now.on_false.now) c.restore-in-Save.new.soon c.want_heads.new.soon
    (soon_given c.restore-in-Save.new.soon c.args.around.now.on_true.now _ c.args.around.now.on_false.now _ (listed c.in-Save.e.value) _ c.within.ensures.on_true c.within.ensures.on_false (ap listed c.deref-in-Save.ensures) c.in_ok-e-in-Save.ensures.soon)
    (λ x. c.want_heads.ensures x ∙ ap (λ z. (has x z && set.contains c.restore-in-Save.new.unbound x) || set.contains c.restore-in-Save.new.soon x) c.as_slice-in-Save-3.ensures)))
    c.copied_save.ensures

pub returns-in_ok-e-in-Save-clause-unbound : goal.returns-in_ok-e-in-Save-clause-unbound
returns-in_ok-e-in-Save-clause-unbound g t c =
    IfOk-weaker c.copied_save.result _ _
    (λ x l. unbound_of c.args.unbound.now _ _ _ (ap listed (sym c.in-Save.is)) (save_unbound c.in-Save.saves (listed c.in-Save.e.value) c.args.unbound.now c.with_all-own.result c.restore-in-Save.new.unbound (λ x. c.with_all-own.ensures x ∙ ap (λ z. has x z || set.contains c.args.unbound.now x) c.as_slice-in-Save-2.ensures)
    (unbound_of c.with_all-own.result c.restore-in-Save.new.unbound _ (listed c.in-Save.e.value) (ap listed c.deref-in-Save.ensures) c.in_ok-e-in-Save.ensures.unbound)
    c.meet.result c.meet.ensures))
    c.copied_save.ensures
