use Rattle.std.proofs.Common.{ap, refl}
use Rattle.sch_link_tables.proofs.DraftViews.{branch_view, bind_view, letrec_view, call_view}
use Rattle.sch_link_tables.proofs.DraftLists.{next_draft}
use Rattle.sch_link_tables.proofs.NameSteps.{next_named}
use Rattle.sch_toplevel.specs.Assigned.{assigned_in, assigned_in_each}
use Rattle.sch_toplevel.proofs.AssignedDrafts.{branch_assigned, bind_assigned, letrec_assigned, call_assigned}
use Rattle.sch_toplevel.proofs.assigned.+assigning.Goals as goal

pub add_assigned-returns-in_ok-add_assigned-in-If-3 : goal.add_assigned-returns-in_ok-add_assigned-in-If-3
add_assigned-returns-in_ok-add_assigned-in-If-3 t c = branch_assigned _ (branch_view _ _ _ c.in-If.is c.deref-in-If.ensures c.deref-in-If-2.ensures c.deref-in-If-3.ensures) c.in_ok-add_assigned-in-If.ensures c.in_ok-add_assigned-in-If-2.ensures c.in_ok-add_assigned-in-If-3.ensures

pub add_assigned-returns-in_ok-add_assigned-in-Let : goal.add_assigned-returns-in_ok-add_assigned-in-Let
add_assigned-returns-in_ok-add_assigned-in-Let t c = bind_assigned _ (bind_view _ _ _ c.in-Let.is refl c.as_slice-in-Let.ensures c.deref-in-Let.ensures) c.in_ok-add_assigned_each-in-Let.ensures c.in_ok-add_assigned-in-Let.ensures

pub add_assigned-returns-in_ok-add_assigned-in-Letrec : goal.add_assigned-returns-in_ok-add_assigned-in-Letrec
add_assigned-returns-in_ok-add_assigned-in-Letrec t c = letrec_assigned _ (letrec_view _ _ _ _ c.in-Letrec.is refl c.as_slice-in-Letrec.ensures c.deref-in-Letrec.ensures) c.in_ok-add_assigned_each-in-Letrec.ensures c.in_ok-add_assigned-in-Letrec.ensures

pub add_assigned-returns-in_ok-add_assigned_each-in-Call : goal.add_assigned-returns-in_ok-add_assigned_each-in-Call
add_assigned-returns-in_ok-add_assigned_each-in-Call t c = call_assigned _ (call_view _ _ _ c.in-Call.is refl c.deref-in-Call.ensures c.as_slice-in-Call.ensures) c.in_ok-add_assigned-in-Call.ensures c.in_ok-add_assigned_each-in-Call.ensures

pub add_assigned_each-loop-e-preserved : goal.add_assigned_each-loop-e-preserved
add_assigned_each-loop-e-preserved t c =
    let es = c.args.es.now in
    let i = c.loop-e.e-index in
    let e = c.e-item.result in
    let n = next_draft es i e c.loop-e-test.true c.e-item.is in
    next_named assigned_in assigned_in_each _ _ _ es i e c.loop-e-test.true c.e-item.is (ap assigned_in_each n) c.in_ok-add_assigned.ensures c.loop-e.invariant
