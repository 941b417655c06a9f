use Rattle.std.proofs.Common.{arith, ap, ◌∙◌}
use Rattle.std.specs.FinSet as set
use Rattle.std.proofs.lemmas.Grind.{common_steps}
use Rattle.sch_control.specs.Tree.{bind, sequence, branch}
use Rattle.sch_control.specs.flow.Middle.{listed}
use Rattle.sch_live.specs.BackwardSets.{IsLiveBefore, ListsAllLive, later_of}
use Rattle.sch_live.proofs.LiveSteps.{bind_before, bind_sets, sequence_before, sequence_sets, branch_before, branch_sets, call_before, call_sets, do_before, tail_before, return_before, return_sets, end_before, end_sets}
use Rattle.sch_live.proofs.backward.+list_live.Goals as goal

pub returns-in-Do-clause-before : goal.returns-in-Do-clause-before
returns-in-Do-clause-before g t c =
    do_before c.in-Do.o c.args.on_true.now c.args.on_false.now c.after_operation.result c.read_operation.new.live c.after_operation.ensures c.read_operation.ensures

pub returns-in-Bind-clause-before : goal.returns-in-Bind-clause-before
returns-in-Bind-clause-before g t c =
    let s = c.args.on_true.now in
    let f = c.args.on_false.now in
    let h : IsLiveBefore (bind c.in-Bind.x (listed c.list_live-in-Bind.new.e) (listed c.list_live.new.e)) s f c.list_live-in-Bind.new.before
    = bind_before c.in-Bind.x (listed c.list_live-in-Bind.new.e) (listed c.list_live.new.e) s f c.list_live.new.before c.remove.new.self
    c.list_live-in-Bind.new.before c.list_live.ensures.before c.remove.ensures c.list_live-in-Bind.ensures.before in
    grind (arith, common_steps, h)

pub returns-in-Bind-clause-sets : goal.returns-in-Bind-clause-sets
returns-in-Bind-clause-sets g t c =
    let s = c.args.on_true.now in
    let f = c.args.on_false.now in
    let h : ListsAllLive (bind c.in-Bind.x (listed c.list_live-in-Bind.new.e) (listed c.list_live.new.e)) (later_of s f)
    = bind_sets c.in-Bind.x (listed c.list_live-in-Bind.new.e) (listed c.list_live.new.e) s f c.list_live.new.before c.remove.new.self
    c.list_live.ensures.before c.remove.ensures c.list_live-in-Bind.ensures.sets c.list_live.ensures.sets in
    grind (arith, common_steps, h)

pub returns-in-Seq-clause-before : goal.returns-in-Seq-clause-before
returns-in-Seq-clause-before g t c =
    let s = c.args.on_true.now in
    let f = c.args.on_false.now in
    let h : IsLiveBefore (sequence (listed c.list_live-in-Seq-2.new.e) (listed c.list_live-in-Seq.new.e)) s f c.list_live-in-Seq-2.new.before
    = sequence_before (listed c.list_live-in-Seq-2.new.e) (listed c.list_live-in-Seq.new.e) s f c.list_live-in-Seq.new.before c.list_live-in-Seq-2.new.before
    c.list_live-in-Seq.ensures.before c.list_live-in-Seq-2.ensures.before in
    grind (arith, common_steps, h)

pub returns-in-Seq-clause-sets : goal.returns-in-Seq-clause-sets
returns-in-Seq-clause-sets g t c =
    let s = c.args.on_true.now in
    let f = c.args.on_false.now in
    let h : ListsAllLive (sequence (listed c.list_live-in-Seq-2.new.e) (listed c.list_live-in-Seq.new.e)) (later_of s f)
    = sequence_sets (listed c.list_live-in-Seq-2.new.e) (listed c.list_live-in-Seq.new.e) s f c.list_live-in-Seq.new.before c.list_live-in-Seq.ensures.before
    c.list_live-in-Seq-2.ensures.sets c.list_live-in-Seq.ensures.sets in
    grind (arith, common_steps, h)

pub returns-in-If-clause-before : goal.returns-in-If-clause-before
returns-in-If-clause-before g t c =
    let s = c.args.on_true.now in
    let f = c.args.on_false.now in
    let h : IsLiveBefore (branch (listed c.list_live-in-If-3.new.e) (listed c.list_live-in-If.new.e) (listed c.list_live-in-If-2.new.e)) s f c.list_live-in-If-3.new.before
    = branch_before (listed c.list_live-in-If-3.new.e) (listed c.list_live-in-If.new.e) (listed c.list_live-in-If-2.new.e) s f c.list_live-in-If.new.before
    c.list_live-in-If-2.new.before c.list_live-in-If-3.new.before c.list_live-in-If.ensures.before c.list_live-in-If-2.ensures.before
    c.list_live-in-If-3.ensures.before in
    grind (arith, common_steps, h)

pub returns-in-If-clause-sets : goal.returns-in-If-clause-sets
returns-in-If-clause-sets g t c =
    let s = c.args.on_true.now in
    let f = c.args.on_false.now in
    let h : ListsAllLive (branch (listed c.list_live-in-If-3.new.e) (listed c.list_live-in-If.new.e) (listed c.list_live-in-If-2.new.e)) (later_of s f)
    = branch_sets (listed c.list_live-in-If-3.new.e) (listed c.list_live-in-If.new.e) (listed c.list_live-in-If-2.new.e) s f c.list_live-in-If.new.before
    c.list_live-in-If-2.new.before c.list_live-in-If.ensures.before c.list_live-in-If-2.ensures.before c.list_live-in-If-3.ensures.sets
    c.list_live-in-If.ensures.sets c.list_live-in-If-2.ensures.sets in
    grind (arith, common_steps, h)

pub returns-in-Call-clause-before : goal.returns-in-Call-clause-before
returns-in-Call-clause-before g t c =
    let s = c.args.on_true.now in
    let f = c.args.on_false.now in
    call_before c.in-Call.a (set.items c.union.result) s f c.union.result c.copy.result c.read_application.new.live c.union.ensures c.copy.ensures
    c.read_application.ensures

pub returns-in-Call-clause-sets : goal.returns-in-Call-clause-sets
returns-in-Call-clause-sets g t c = call_sets c.in-Call.a c.args.on_true.now c.args.on_false.now c.union.result c.union.ensures

pub returns-in-TailCall-clause-before : goal.returns-in-TailCall-clause-before
returns-in-TailCall-clause-before g t c =
    tail_before c.in-TailCall.a c.args.on_true.now c.args.on_false.now c.insert.new.self c.read_application-in-TailCall.new.live
    (c.insert.ensures ∙ ap (λ z. set.insert z 0) c.new.ensures) c.read_application-in-TailCall.ensures

pub returns-in-Return-clause-before : goal.returns-in-Return-clause-before
returns-in-Return-clause-before g t c =
    return_before (listed c.list_live-in-Return.new.e) c.args.on_true.now c.args.on_false.now c.insert-in-Return.new.self c.list_live-in-Return.new.before
    (c.insert-in-Return.ensures ∙ ap (λ z. set.insert z 0) c.new-behind.ensures) c.list_live-in-Return.ensures.before

pub returns-in-Return-clause-sets : goal.returns-in-Return-clause-sets
returns-in-Return-clause-sets g t c =
    return_sets (listed c.list_live-in-Return.new.e) c.args.on_true.now c.args.on_false.now c.insert-in-Return.new.self
    (c.insert-in-Return.ensures ∙ ap (λ z. set.insert z 0) c.new-behind.ensures) c.list_live-in-Return.ensures.sets

pub returns-in-End-clause-before : goal.returns-in-End-clause-before
returns-in-End-clause-before g t c =
    end_before (listed c.list_live-in-End.new.e) c.args.on_true.now c.args.on_false.now c.new-behind.result c.list_live-in-End.new.before c.new-behind.ensures
    c.list_live-in-End.ensures.before

pub returns-in-End-clause-sets : goal.returns-in-End-clause-sets
returns-in-End-clause-sets g t c =
    end_sets (listed c.list_live-in-End.new.e) c.args.on_true.now c.args.on_false.now c.new-behind.result c.new-behind.ensures c.list_live-in-End.ensures.sets
