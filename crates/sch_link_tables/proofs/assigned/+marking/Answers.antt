use Rattle.sch_word.proofs.facts.AssignedMarks.{marked_none}
use Rattle.sch_link_tables.proofs.DraftViews.{constant_view, symbol_view, literal_view, local_view, global_view, set_local_view, branch_view, bind_view, letrec_view, lambda_view, call_view}
use Rattle.sch_link_tables.proofs.DraftLists.{next_draft, width_is}
use Rattle.sch_link_tables.proofs.MarkSteps.{set_marked, branch_marked, bind_marked, letrec_marked, lambda_marked, call_marked, next_marked, end_marked}
use Rattle.std.proofs.Common.{rules, add-one, refl, sym, arith}
use Rattle.sch_sketch.specs.declared.draft.Draft.{the_lemmas}
use Rattle.sch_link_tables.proofs.assigned.+marking.Goals as goal

pub mark-returns-in-Constant : goal.mark-returns-in-Constant
mark-returns-in-Constant t c = rw (constant_view _ c.in-Constant.is) (sym (marked_none c.args.from c.args.marks.now))

pub mark-returns-in-SetLocal : goal.mark-returns-in-SetLocal
mark-returns-in-SetLocal t c =
    set_marked _ _ _ (set_local_view _ _ c.in-SetLocal.is c.deref.ensures) c.mark_one.ensures c.mark.ensures

pub mark-returns-in-If : goal.mark-returns-in-If
mark-returns-in-If t c =
    branch_marked _ _ (branch_view _ _ _ c.in-If.is c.deref-in-If.ensures c.deref-in-If-2.ensures c.deref-in-If-3.ensures) c.mark-in-If.ensures c.mark-in-If-2.ensures c.mark-in-If-3.ensures

pub mark-returns-in-Let : goal.mark-returns-in-Let
mark-returns-in-Let t c =
    bind_marked _ _ _ _ (bind_view _ _ _ c.in-Let.is refl c.as_slice-in-Let.ensures c.deref-in-Let.ensures) c.mark_each-in-Let.ensures (width_is _ c.len.ensures c.as_slice-in-Let.ensures) refl c.mark-in-Let.ensures

pub mark-returns-in-Letrec : goal.mark-returns-in-Letrec
mark-returns-in-Letrec t c =
    letrec_marked _ _ _ _ (letrec_view _ _ _ _ c.in-Letrec.is refl c.as_slice-in-Letrec.ensures c.deref-in-Letrec.ensures) (width_is _ c.len-in-Letrec.ensures c.as_slice-in-Letrec.ensures) refl c.mark_each-in-Letrec.ensures c.mark-in-Letrec.ensures

pub mark-returns-in-Lambda : goal.mark-returns-in-Lambda
mark-returns-in-Lambda t c =
    lambda_marked _ _ _ (lambda_view _ _ _ c.in-Lambda.is c.deref-in-Lambda.ensures) refl c.mark-in-Lambda.ensures

pub mark-returns-in-Call : goal.mark-returns-in-Call
mark-returns-in-Call t c =
    call_marked _ _ (call_view _ _ _ c.in-Call.is refl c.deref-in-Call.ensures c.as_slice-in-Call.ensures) c.mark-in-Call.ensures c.mark_each-in-Call.ensures

pub mark_each-loop-e-preserved : goal.mark_each-loop-e-preserved
mark_each-loop-e-preserved t c =
    let es = c.args.es.now in
    let i = c.loop-e.e-index in
    let e = c.e-item.result in
    let h = rw (next_draft es i e c.loop-e-test.true c.e-item.is) at c.loop-e.invariant.few in
    record {
      marks = next_marked c.args.from _ _ _ es i e c.loop-e-test.true c.e-item.is c.mark.ensures c.loop-e.invariant.marks;
      few = rw add-one (omega (arith, h));
    }

pub mark_each-returns : goal.mark_each-returns
mark_each-returns t c = end_marked c.args.from _ _ c.args.es.now c.loop-e.e-index c.loop-e-test.false c.loop-e.invariant.marks

pub mark-returns-in-Symbol : goal.mark-returns-in-Symbol
mark-returns-in-Symbol t c = rw (symbol_view _ c.in-Symbol.is) (sym (marked_none c.args.from c.args.marks.now))

pub mark-returns-in-Literal : goal.mark-returns-in-Literal
mark-returns-in-Literal t c = rw (literal_view _ c.in-Literal.is) (sym (marked_none c.args.from c.args.marks.now))

pub mark-returns-in-Local : goal.mark-returns-in-Local
mark-returns-in-Local t c = rw (local_view _ c.in-Local.is) (sym (marked_none c.args.from c.args.marks.now))

pub mark-returns-in-Global : goal.mark-returns-in-Global
mark-returns-in-Global t c = rw (global_view _ c.in-Global.is) (sym (marked_none c.args.from c.args.marks.now))

pub mark-mark-requires-in-Let : goal.mark-mark-requires-in-Let
mark-mark-requires-in-Let t c =
    let h = rw (bind_view _ _ _ c.in-Let.is refl c.as_slice-in-Let.ensures c.deref-in-Let.ensures) at c.requires.few in
    (search (rules, the_lemmas), omega (arith, h, width_is _ c.len.ensures c.as_slice-in-Let.ensures))

pub mark-mark_each-requires-in-Letrec : goal.mark-mark_each-requires-in-Letrec
mark-mark_each-requires-in-Letrec t c =
    let h = rw (letrec_view _ _ _ _ c.in-Letrec.is refl c.as_slice-in-Letrec.ensures refl) at c.requires.few in
    (search (rules, the_lemmas), omega (arith, h, width_is _ c.len-in-Letrec.ensures c.as_slice-in-Letrec.ensures))

pub mark-mark-requires-in-Letrec : goal.mark-mark-requires-in-Letrec
mark-mark-requires-in-Letrec t c =
    let h = rw (letrec_view _ _ _ _ c.in-Letrec.is refl c.as_slice-in-Letrec.ensures c.deref-in-Letrec.ensures) at c.requires.few in
    (search (rules, the_lemmas), omega (arith, h, width_is _ c.len-in-Letrec.ensures c.as_slice-in-Letrec.ensures))

pub mark-overflow_add-inside : goal.mark-overflow_add-inside
mark-overflow_add-inside t c =
    let h = rw (bind_view _ _ _ c.in-Let.is refl c.as_slice-in-Let.ensures refl) at c.requires.few in
    omega (arith, h, width_is _ c.len.ensures c.as_slice-in-Let.ensures)

pub mark-overflow_add-inside-in-Letrec : goal.mark-overflow_add-inside-in-Letrec
mark-overflow_add-inside-in-Letrec t c =
    let h = rw (letrec_view _ _ _ _ c.in-Letrec.is refl refl refl) at c.requires.few in
    omega (arith, h, width_is _ c.len-in-Letrec.ensures refl)

pub mark-overflow_add-inside-in-Lambda : goal.mark-overflow_add-inside-in-Lambda
mark-overflow_add-inside-in-Lambda t c =
    let h = rw (lambda_view _ _ _ c.in-Lambda.is refl) at c.requires.few in
    omega (arith, h)
