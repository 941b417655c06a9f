use Rattle.std.proofs.Common.{refl}
use Rattle.sch_names.specs.NamesView.{names_of}
use Rattle.sch_link_tables.specs.Named.{globals_in, globals_in_each, symbols_in, symbols_in_each}
use Rattle.sch_link_tables.proofs.DraftViews.{branch_view, bind_view, letrec_view, call_view}
use Rattle.sch_link_tables.proofs.DraftLists.{next_draft}
use Rattle.std.proofs.Common.{ap}
use Rattle.sch_link_tables.proofs.NameSteps.{branch_globals, bind_globals, letrec_globals, call_globals, branch_symbols, bind_symbols, letrec_symbols, call_symbols, next_named}
use Rattle.sch_link_tables.proofs.naming.+naming.Goals as goal

pub name_if-returns : goal.name_if-returns
name_if-returns t c =
    let v = branch_view _ _ _ c.in-If.is c.deref.ensures c.deref-2.ensures c.deref-3.ensures in
    let a = c.in_ok-name_draft.ensures in
    let b = c.in_ok-name_draft-2.ensures in
    let d = c.in_ok-name_draft-3.ensures in
    record {
      globals = branch_globals (names_of c.args.own.now) _ v a.globals b.globals d.globals;
      symbols = branch_symbols _ v a.symbols b.symbols d.symbols;
      listed = λ h. d.listed (b.listed (a.listed h));
    }

pub name_let-returns : goal.name_let-returns
name_let-returns t c =
    let v = bind_view _ _ _ c.in-Let.is refl c.as_slice.ensures c.deref.ensures in
    let a = c.in_ok-name_each.ensures in
    let b = c.in_ok-name_draft.ensures in
    record {
      globals = bind_globals (names_of c.args.own.now) _ v a.globals b.globals;
      symbols = bind_symbols _ v a.symbols b.symbols;
      listed = λ h. b.listed (a.listed h);
    }

pub name_letrec-returns : goal.name_letrec-returns
name_letrec-returns t c =
    let v = letrec_view _ _ _ _ c.in-Letrec.is refl c.as_slice.ensures c.deref.ensures in
    let a = c.in_ok-name_each.ensures in
    let b = c.in_ok-name_draft.ensures in
    record {
      globals = letrec_globals (names_of c.args.own.now) _ v a.globals b.globals;
      symbols = letrec_symbols _ v a.symbols b.symbols;
      listed = λ h. b.listed (a.listed h);
    }

pub name_call-returns : goal.name_call-returns
name_call-returns t c =
    let v = call_view _ _ _ c.in-Call.is refl c.deref.ensures c.as_slice.ensures in
    let a = c.in_ok-name_draft.ensures in
    let b = c.in_ok-name_each.ensures in
    record {
      globals = call_globals (names_of c.args.own.now) _ v a.globals b.globals;
      symbols = call_symbols _ v a.symbols b.symbols;
      listed = λ h. b.listed (a.listed h);
    }

pub name_each-loop-e-preserved : goal.name_each-loop-e-preserved
name_each-loop-e-preserved t c =
    let own = names_of c.args.own.now in
    let es = c.args.es.now in
    let i = c.loop-e.e-index in
    let e = c.e-item.result in
    let n = next_draft es i e c.loop-e-test.true c.e-item.is in
    record {
      globals = next_named (globals_in own) (globals_in_each own) _ _ _ es i e c.loop-e-test.true c.e-item.is (ap (globals_in_each own) n) c.in_ok-name_draft.ensures.globals c.loop-e.invariant.globals;
      symbols = next_named symbols_in symbols_in_each _ _ _ es i e c.loop-e-test.true c.e-item.is (ap symbols_in_each n) c.in_ok-name_draft.ensures.symbols c.loop-e.invariant.symbols;
      listed = λ h. c.in_ok-name_draft.ensures.listed (c.loop-e.invariant.listed h);
    }
