use Rattle.std.proofs.Common.{rules, length, map, refl, ap, subst, ◌+◌, arith}
use Rattle.sch_word.specs.values.LiteralView.{literal}
use Rattle.sch_names.specs.NamesView.{names_of}
use Rattle.sch_names.specs.ScopeView.{given_names, one_name}
use Rattle.sch_sketch.specs.DraftMeasures.{size, size_each}
use Rattle.sch_sketch.specs.DraftView.{draft_of, drafts_of}
use Rattle.sch_link_tables.specs.Quoted.{literal_of, quotes_in}
use Rattle.sch_link_tables.specs.Room.{HasRoom}
use Rattle.sch_link_tables.proofs.DraftViews.{literal_view, local_view, set_local_view, set_global_view, define_view, branch_view, sequence_view, bind_view, letrec_view, lambda_view, call_view, operation_view}
use Rattle.sch_link_tables.proofs.DraftLists.{next_draft, width_is}
use Rattle.sch_link_tables.proofs.FewNumbers.{few_parts, room_within, room_same, room_after_site, room_after_letrec, room_after, room_after_each}
use Rattle.sch_link_drafts.proofs.NumberSteps.{sites_more, literals_more, branch_made, bind_made, letrec_made, call_made, operation_made, branch_sites, bind_sites, letrec_sites, call_sites, operation_sites, branch_literals, bind_literals, letrec_literals, call_literals, next_numbered, end_numbered, next_sites, next_literals, branch_constants, bind_constants, letrec_constants, call_constants, next_constants, end_constants, next_room, group_is, unless_is, name_is, local_near, set_local_near, set_global_near, define_near, branch_near, sequence_near, bind_near, letrec_near, lambda_near, call_near, operation_near, each_near, next_variables}
use Rattle.sch_sketch.specs.declared.draft.Draft.{the_lemmas}
use Rattle.sch_link_drafts.proofs.expressions.+numbering.Goals as goal

pub number-returns-in_ok-number_branch-in-If-clause-made : goal.number-returns-in_ok-number_branch-in-If-clause-made
number-returns-in_ok-number_branch-in-If-clause-made t c = c.in_ok-number_branch-in-If.ensures.made _

pub number-returns-in_ok-number_let-in-Let-clause-made : goal.number-returns-in_ok-number_let-in-Let-clause-made
number-returns-in_ok-number_let-in-Let-clause-made t c = c.in_ok-number_let-in-Let.ensures.made _

pub number-returns-in_ok-number_letrec-in-Letrec-clause-made : goal.number-returns-in_ok-number_letrec-in-Letrec-clause-made
number-returns-in_ok-number_letrec-in-Letrec-clause-made t c = c.in_ok-number_letrec-in-Letrec.ensures.made _

pub number-returns-in_ok-number_call-in-Call-clause-made : goal.number-returns-in_ok-number_call-in-Call-clause-made
number-returns-in_ok-number_call-in-Call-clause-made t c = c.in_ok-number_call-in-Call.ensures.made _

pub number_branch-returns-clause-made : goal.number_branch-returns-clause-made
number_branch-returns-clause-made t c = λ v.
    let f = literal_of (names_of c.args.tables.now.symbols.now) in
    let out = c.args.out.now in
    let out1 = c.number.new.out in
    let out2 = c.number-2.new.out in
    let a = c.in_ok-a.ensures in
    let b = c.in_ok-b.ensures in
    branch_made (names_of c.args.tables.now.own.now) (names_of c.args.tables.now.globals.now) (names_of c.args.tables.now.symbols.now) v (length out.sites) (length out.literals) (length out1.sites) (length out1.literals) (length out2.sites) (length out2.literals)
    (branch_view _ _ _ c.in-If.is c.deref.ensures c.deref-2.ensures c.deref-3.ensures) c.in_ok-made.ensures a.made (sites_more out.sites _ a.sites) (literals_more f out.literals out1.literals _ a.literals) b.made (sites_more out1.sites _ b.sites) (literals_more f out1.literals out2.literals _ b.literals)
    c.in_ok-c.ensures.made

pub number_branch-returns-clause-sites : goal.number_branch-returns-clause-sites
number_branch-returns-clause-sites t c =
    branch_sites c.args.out.now.sites (branch_view _ _ _ c.in-If.is c.deref.ensures c.deref-2.ensures c.deref-3.ensures) c.in_ok-a.ensures.sites c.in_ok-b.ensures.sites c.in_ok-c.ensures.sites

pub number_branch-returns-clause-literals : goal.number_branch-returns-clause-literals
number_branch-returns-clause-literals t c =
    branch_literals (literal_of (names_of c.args.tables.now.symbols.now)) (map literal c.args.out.now.literals) (branch_view _ _ _ c.in-If.is c.deref.ensures c.deref-2.ensures c.deref-3.ensures)
    c.in_ok-a.ensures.literals c.in_ok-b.ensures.literals c.in_ok-c.ensures.literals

pub number_branch-returns-clause-constants : goal.number_branch-returns-clause-constants
number_branch-returns-clause-constants t c =
    branch_constants (branch_view _ _ _ c.in-If.is c.deref.ensures c.deref-2.ensures c.deref-3.ensures) c.in_ok-a.ensures.constants c.in_ok-b.ensures.constants c.in_ok-c.ensures.constants

pub number_let-returns-clause-made : goal.number_let-returns-clause-made
number_let-returns-clause-made t c = λ v.
    let f = literal_of (names_of c.args.tables.now.symbols.now) in
    let out = c.args.out.now in
    let out1 = c.new_site.new.out in
    let out2 = c.number_each.new.out in
    let site = c.in_ok-site.ensures in
    let inits = c.in_ok-inits.ensures in
    bind_made (names_of c.args.tables.now.own.now) (names_of c.args.tables.now.globals.now) (names_of c.args.tables.now.symbols.now) v (length out.sites) (length out.literals) c.in_ok-site.site (length out1.sites) (length out1.literals) (length out2.sites) (length out2.literals)
    (bind_view _ _ _ c.in-Let.is c.as_slice.ensures c.as_slice-2.ensures c.deref.ensures) c.in_ok-made.ensures site.number (sites_more out.sites _ site.sites) (ap length site.literals) inits.made (sites_more out1.sites _ inits.sites)
    (literals_more f out1.literals out2.literals _ inits.literals) c.in_ok-body.ensures.made

pub number_let-returns-clause-sites : goal.number_let-returns-clause-sites
number_let-returns-clause-sites t c =
    bind_sites c.args.out.now.sites (bind_view _ _ _ c.in-Let.is c.as_slice.ensures c.as_slice-2.ensures c.deref.ensures) (width_is _ c.len.ensures c.as_slice-2.ensures)
    c.in_ok-site.ensures.sites c.in_ok-inits.ensures.sites c.in_ok-body.ensures.sites

pub number_let-returns-clause-literals : goal.number_let-returns-clause-literals
number_let-returns-clause-literals t c =
    bind_literals (literal_of (names_of c.args.tables.now.symbols.now)) (map literal c.args.out.now.literals) (bind_view _ _ _ c.in-Let.is c.as_slice.ensures c.as_slice-2.ensures c.deref.ensures)
    (ap (map literal) c.in_ok-site.ensures.literals) c.in_ok-inits.ensures.literals c.in_ok-body.ensures.literals

pub number_let-returns-clause-constants : goal.number_let-returns-clause-constants
number_let-returns-clause-constants t c =
    bind_constants (bind_view _ _ _ c.in-Let.is c.as_slice.ensures c.as_slice-2.ensures c.deref.ensures) c.in_ok-inits.ensures.constants c.in_ok-body.ensures.constants

pub number_letrec-returns-clause-made : goal.number_letrec-returns-clause-made
number_letrec-returns-clause-made t c = λ v.
    let f = literal_of (names_of c.args.tables.now.symbols.now) in
    let out = c.args.out.now in
    let out1 = c.site_unless.new.out in
    let out2 = c.number_each.new.out in
    let site = c.in_ok-site.ensures in
    let inits = c.in_ok-inits.ensures in
    letrec_made (names_of c.args.tables.now.own.now) (names_of c.args.tables.now.globals.now) (names_of c.args.tables.now.symbols.now) v (length out.sites) (length out.literals) c.in_ok-site.site (length out1.sites) (length out1.literals) (length out2.sites) (length out2.literals)
    (letrec_view _ _ _ _ c.in-Letrec.is c.as_slice-2.ensures c.as_slice-3.ensures c.deref-2.ensures) c.in_ok-made.ensures
    (group_is _ c.in_ok-group.ensures c.as_slice.ensures c.as_slice-3.ensures c.deref.ensures c.deref-2.ensures)
    site.number (sites_more out.sites _ (unless_is _ out.sites (width_is _ c.len.ensures c.as_slice-3.ensures) site.sites)) (ap length site.literals) inits.made (sites_more out1.sites _ inits.sites) (literals_more f out1.literals out2.literals _ inits.literals) c.in_ok-body.ensures.made

pub number_letrec-returns-clause-sites : goal.number_letrec-returns-clause-sites
number_letrec-returns-clause-sites t c =
    letrec_sites c.args.out.now.sites (letrec_view _ _ _ _ c.in-Letrec.is c.as_slice-2.ensures c.as_slice-3.ensures c.deref-2.ensures)
    (group_is _ c.in_ok-group.ensures c.as_slice.ensures c.as_slice-3.ensures c.deref.ensures c.deref-2.ensures)
    (width_is _ c.len.ensures c.as_slice-3.ensures) c.in_ok-site.ensures.sites c.in_ok-inits.ensures.sites c.in_ok-body.ensures.sites

pub number_letrec-returns-clause-literals : goal.number_letrec-returns-clause-literals
number_letrec-returns-clause-literals t c =
    letrec_literals (literal_of (names_of c.args.tables.now.symbols.now)) (map literal c.args.out.now.literals) (letrec_view _ _ _ _ c.in-Letrec.is c.as_slice-2.ensures c.as_slice-3.ensures c.deref-2.ensures)
    (ap (map literal) c.in_ok-site.ensures.literals) c.in_ok-inits.ensures.literals c.in_ok-body.ensures.literals

pub number_letrec-returns-clause-constants : goal.number_letrec-returns-clause-constants
number_letrec-returns-clause-constants t c =
    letrec_constants (letrec_view _ _ _ _ c.in-Letrec.is c.as_slice-2.ensures c.as_slice-3.ensures c.deref-2.ensures) c.in_ok-inits.ensures.constants c.in_ok-body.ensures.constants

pub number_call-returns-clause-made : goal.number_call-returns-clause-made
number_call-returns-clause-made t c = λ v.
    let f = literal_of (names_of c.args.tables.now.symbols.now) in
    let out = c.args.out.now in
    let out1 = c.call_site.new.out in
    let out2 = c.number.new.out in
    let site = c.in_ok-site.ensures in
    let operator = c.in_ok-operator.ensures in
    call_made (names_of c.args.tables.now.own.now) (names_of c.args.tables.now.globals.now) (names_of c.args.tables.now.symbols.now) v (length out.sites) (length out.literals) c.in_ok-site.site (length out1.sites) (length out1.literals) (length out2.sites) (length out2.literals)
    (call_view _ _ _ c.in-Call.is c.as_slice.ensures c.deref.ensures c.as_slice-2.ensures) c.in_ok-made.ensures site.number (sites_more out.sites _ site.sites) (ap length site.literals) operator.made (sites_more out1.sites _ operator.sites)
    (literals_more f out1.literals out2.literals _ operator.literals) c.in_ok-operands.ensures.made

pub number_call-returns-clause-sites : goal.number_call-returns-clause-sites
number_call-returns-clause-sites t c =
    call_sites c.args.out.now.sites (call_view _ _ _ c.in-Call.is c.as_slice.ensures c.deref.ensures c.as_slice-2.ensures) (width_is _ c.len.ensures c.as_slice-2.ensures)
    c.in_ok-site.ensures.sites c.in_ok-operator.ensures.sites c.in_ok-operands.ensures.sites

pub number_call-returns-clause-literals : goal.number_call-returns-clause-literals
number_call-returns-clause-literals t c =
    call_literals (literal_of (names_of c.args.tables.now.symbols.now)) (map literal c.args.out.now.literals) (call_view _ _ _ c.in-Call.is c.as_slice.ensures c.deref.ensures c.as_slice-2.ensures)
    (ap (map literal) c.in_ok-site.ensures.literals) c.in_ok-operator.ensures.literals c.in_ok-operands.ensures.literals

pub number_call-returns-clause-constants : goal.number_call-returns-clause-constants
number_call-returns-clause-constants t c =
    call_constants (call_view _ _ _ c.in-Call.is c.as_slice.ensures c.deref.ensures c.as_slice-2.ensures) c.in_ok-operator.ensures.constants c.in_ok-operands.ensures.constants

pub number-returns-in_ok-operands-in-Prim-clause-made : goal.number-returns-in_ok-operands-in-Prim-clause-made
number-returns-in_ok-operands-in-Prim-clause-made t c =
    let out = c.args.out.now in
    let out1 = c.new_site.new.out in
    let site = c.in_ok-site-in-Prim.ensures in
    operation_made (names_of c.args.tables.now.own.now) (names_of c.args.tables.now.globals.now) (names_of c.args.tables.now.symbols.now) _ (length out.sites) (length out.literals) c.in_ok-site-in-Prim.site (length out1.sites) (length out1.literals)
    (operation_view _ _ c.in-Prim.is c.as_slice-in-Prim.ensures) c.operation.ensures site.number (sites_more out.sites _ site.sites) (ap length site.literals) c.in_ok-operands-in-Prim.ensures.made

pub number-returns-in_ok-operands-in-Prim-clause-sites : goal.number-returns-in_ok-operands-in-Prim-clause-sites
number-returns-in_ok-operands-in-Prim-clause-sites t c =
    operation_sites c.args.out.now.sites (operation_view _ _ c.in-Prim.is c.as_slice-in-Prim.ensures) (width_is _ c.len.ensures c.as_slice-in-Prim.ensures) c.in_ok-site-in-Prim.ensures.sites c.in_ok-operands-in-Prim.ensures.sites

pub number_each-loop-e-preserved : goal.number_each-loop-e-preserved
number_each-loop-e-preserved t c =
    let f = literal_of (names_of c.args.tables.now.symbols.now) in
    let es = c.args.es.now in
    let i = c.loop-e.e-index in
    let e = c.e-item.result in
    let out = c.loop-e.out in
    let made = c.in_ok-made.ensures in
    record {
      place = ap (λ n. n + 1) c.loop-e.invariant.place;
      made = rw c.in_ok-push.ensures.ok (next_numbered (names_of c.args.tables.now.own.now) (names_of c.args.tables.now.globals.now) (names_of c.args.tables.now.symbols.now) (given_names c.args.names.now) es i (one_name c.name_at-v.result) e c.loop-e.all c.in_ok-made.made (length out.sites) (length out.literals) _ _ _ c.loop-e-test.true c.e-item.is (name_is c.args.names.now c.name_at-v.ensures c.loop-e.invariant.place) made.made (sites_more out.sites _ made.sites) (literals_more f out.literals _ (quotes_in (draft_of e)) made.literals) c.loop-e.invariant.made);
      sites = next_sites es i e out.sites _ _ c.loop-e-test.true c.e-item.is made.sites c.loop-e.invariant.sites;
      literals = next_literals f es i e (map literal out.literals) _ _ c.loop-e-test.true c.e-item.is made.literals c.loop-e.invariant.literals;
      room = next_room es i e out _ c.loop-e-test.true c.e-item.is c.loop-e.invariant.room (sites_more out.sites _ made.sites) (literals_more f out.literals _ (quotes_in (draft_of e)) made.literals);
      variables = next_variables es i e c.loop-e-test.true c.e-item.is c.loop-e.invariant.variables;
      constants = next_constants es i e c.loop-e-test.true c.e-item.is made.constants c.loop-e.invariant.constants;
    }

pub number_each-returns-clause-made : goal.number_each-returns-clause-made
number_each-returns-clause-made t c =
    end_numbered (names_of c.args.tables.now.own.now) (names_of c.args.tables.now.globals.now) (names_of c.args.tables.now.symbols.now) _ c.args.es.now c.loop-e.e-index c.loop-e.all _ _ _ c.loop-e-test.false c.loop-e.invariant.made

pub number_each-returns-clause-constants : goal.number_each-returns-clause-constants
number_each-returns-clause-constants t c = end_constants c.args.es.now c.loop-e.e-index c.loop-e-test.false c.loop-e.invariant.constants

pub number-overflow_cast-nearer : goal.number-overflow_cast-nearer
number-overflow_cast-nearer t c =
    let v = local_near c.requires.variables (local_view _ c.in-Local.is) in
    omega (arith, v)

pub number-overflow_cast-nearer-in-SetLocal : goal.number-overflow_cast-nearer-in-SetLocal
number-overflow_cast-nearer-in-SetLocal t c =
    let v = set_local_near c.requires.variables (set_local_view _ _ c.in-SetLocal.is refl) in
    omega (arith, v.0)

pub number-new_literal-requires : goal.number-new_literal-requires
number-new_literal-requires t c =
    let r = subst (λ d. HasRoom c.args.out.now (size d)) (literal_view _ c.in-Literal.is) c.requires.room in
    record { names = c.requires.names; few = omega (arith, r.literals) }

pub number-number-requires : goal.number-number-requires
number-number-requires t c =
    let r = subst (λ d. HasRoom c.args.out.now (size d)) (set_local_view _ _ c.in-SetLocal.is c.deref.ensures) c.requires.room in
    let v = set_local_near c.requires.variables (set_local_view _ _ c.in-SetLocal.is c.deref.ensures) in
    (search (rules, the_lemmas), (c.requires.names, (room_within c.args.out.now _ r (omega arith), v.1)))

pub number-number-requires-in-SetGlobal : goal.number-number-requires-in-SetGlobal
number-number-requires-in-SetGlobal t c =
    let r = subst (λ d. HasRoom c.args.out.now (size d)) (set_global_view _ _ c.in-SetGlobal.is c.deref-in-SetGlobal.ensures) c.requires.room in
    let v = set_global_near c.requires.variables (set_global_view _ _ c.in-SetGlobal.is c.deref-in-SetGlobal.ensures) in
    let same = c.in_ok-global-in-SetGlobal.ensures in
    (search (rules, the_lemmas), (c.requires.names, (room_same c.args.out.now c.global_number-in-SetGlobal.new.out _ r same.sites same.literals (omega arith), v)))

pub number-number-requires-in-Define : goal.number-number-requires-in-Define
number-number-requires-in-Define t c =
    let r = subst (λ d. HasRoom c.args.out.now (size d)) (define_view _ _ c.in-Define.is c.deref-in-Define.ensures) c.requires.room in
    let v = define_near c.requires.variables (define_view _ _ c.in-Define.is c.deref-in-Define.ensures) in
    let same = c.in_ok-global-in-Define.ensures in
    (search (rules, the_lemmas), (c.requires.names, (room_same c.args.out.now c.global_number-in-Define.new.out _ r same.sites same.literals (omega arith), v)))

pub number-number-requires-in-Lambda : goal.number-number-requires-in-Lambda
number-number-requires-in-Lambda t c =
    let r = subst (λ d. HasRoom c.args.out.now (size d)) (lambda_view _ _ _ c.in-Lambda.is c.deref-in-Lambda.ensures) c.requires.room in
    let v = lambda_near c.requires.variables (lambda_view _ _ _ c.in-Lambda.is c.deref-in-Lambda.ensures) in
    (search (rules, the_lemmas), (c.requires.names, (room_within c.args.out.now _ r (omega arith), v)))

pub number-number_each-requires : goal.number-number_each-requires
number-number_each-requires t c =
    let r = subst (λ d. HasRoom c.args.out.now (size d)) (sequence_view _ c.in-Seq.is c.as_slice.ensures) c.requires.room in
    let v = sequence_near c.requires.variables (sequence_view _ c.in-Seq.is c.as_slice.ensures) in
    (search (rules, the_lemmas), (c.requires.names, (room_within c.args.out.now _ r (omega arith), v)))

pub number-procedure-requires : goal.number-procedure-requires
number-procedure-requires t c =
    let r = subst (λ d. HasRoom c.args.out.now (size d)) (lambda_view _ _ _ c.in-Lambda.is c.deref-in-Lambda.ensures) c.requires.room in
    record { few = omega (arith, r.sites) }

pub number-new_site-requires : goal.number-new_site-requires
number-new_site-requires t c =
    let r = subst (λ d. HasRoom c.args.out.now (size d)) (operation_view _ _ c.in-Prim.is refl) c.requires.room in
    record { few = omega (arith, r.sites); narrow = omega (arith, r.sites, few_parts (drafts_of c.in-Prim.es), width_is c.in-Prim.es c.len.ensures refl) }

pub number-number_each-requires-in-Prim : goal.number-number_each-requires-in-Prim
number-number_each-requires-in-Prim t c =
    let r = subst (λ d. HasRoom c.args.out.now (size d)) (operation_view _ _ c.in-Prim.is c.as_slice-in-Prim.ensures) c.requires.room in
    let v = operation_near c.requires.variables (operation_view _ _ c.in-Prim.is c.as_slice-in-Prim.ensures) in
    let site = c.in_ok-site-in-Prim.ensures in
    (search (rules, the_lemmas), (c.requires.names, (room_after_site c.args.out.now c.new_site.new.out _ r _ site.sites site.literals (omega arith), v)))

pub number_branch-number-requires : goal.number_branch-number-requires
number_branch-number-requires t c =
    let r = subst (λ d. HasRoom c.args.out.now (size d)) (branch_view _ _ _ c.in-If.is c.deref.ensures refl refl) c.requires.room in
    let v = branch_near c.requires.variables (branch_view _ _ _ c.in-If.is c.deref.ensures refl refl) in
    (search (rules, the_lemmas), (c.requires.names, (room_within c.args.out.now _ r (omega arith), v.0)))

pub number_branch-number-requires-2 : goal.number_branch-number-requires-2
number_branch-number-requires-2 t c =
    let f = literal_of (names_of c.args.tables.now.symbols.now) in
    let out = c.args.out.now in
    let out1 = c.number.new.out in
    let a = c.in_ok-a.ensures in
    let r = subst (λ d. HasRoom c.args.out.now (size d)) (branch_view _ _ _ c.in-If.is c.deref.ensures c.deref-2.ensures refl) c.requires.room in
    let v = branch_near c.requires.variables (branch_view _ _ _ c.in-If.is c.deref.ensures c.deref-2.ensures refl) in
    (search (rules, the_lemmas), (c.requires.names, (room_after out out1 (size (draft_of c.deref-2.result.now)) r (draft_of c.deref.result.now) (sites_more out.sites _ a.sites) (literals_more f out.literals out1.literals _ a.literals) (omega arith), v.1)))

pub number_branch-number-requires-3 : goal.number_branch-number-requires-3
number_branch-number-requires-3 t c =
    let f = literal_of (names_of c.args.tables.now.symbols.now) in
    let out = c.args.out.now in
    let out1 = c.number.new.out in
    let out2 = c.number-2.new.out in
    let a = c.in_ok-a.ensures in
    let b = c.in_ok-b.ensures in
    let r = subst (λ d. HasRoom c.args.out.now (size d)) (branch_view _ _ _ c.in-If.is c.deref.ensures c.deref-2.ensures c.deref-3.ensures) c.requires.room in
    let v = branch_near c.requires.variables (branch_view _ _ _ c.in-If.is c.deref.ensures c.deref-2.ensures c.deref-3.ensures) in
    let both = size (draft_of c.deref-2.result.now) + size (draft_of c.deref-3.result.now) in
    let s = room_after out out1 both r (draft_of c.deref.result.now) (sites_more out.sites _ a.sites) (literals_more f out.literals out1.literals _ a.literals) (omega arith) in
    (search (rules, the_lemmas), (c.requires.names, (room_after out1 out2 (size (draft_of c.deref-3.result.now)) s (draft_of c.deref-2.result.now) (sites_more out1.sites _ b.sites) (literals_more f out1.literals out2.literals _ b.literals) (omega arith), v.2)))

pub number_let-new_site-requires : goal.number_let-new_site-requires
number_let-new_site-requires t c =
    let r = subst (λ d. HasRoom c.args.out.now (size d)) (bind_view _ _ _ c.in-Let.is refl refl refl) c.requires.room in
    record { few = omega (arith, r.sites); narrow = omega (arith, r.sites, width_is c.in-Let.es c.len.ensures refl) }

pub number_let-number_each-requires : goal.number_let-number_each-requires
number_let-number_each-requires t c =
    let r = subst (λ d. HasRoom c.args.out.now (size d)) (bind_view _ _ _ c.in-Let.is c.as_slice.ensures c.as_slice-2.ensures refl) c.requires.room in
    let v = bind_near c.requires.variables (bind_view _ _ _ c.in-Let.is c.as_slice.ensures c.as_slice-2.ensures refl) in
    let site = c.in_ok-site.ensures in
    (search (rules, the_lemmas), (c.requires.names, (room_after_site c.args.out.now c.new_site.new.out _ r _ site.sites site.literals (omega arith), v.0)))

pub number_let-number-requires : goal.number_let-number-requires
number_let-number-requires t c =
    let f = literal_of (names_of c.args.tables.now.symbols.now) in
    let out1 = c.new_site.new.out in
    let out2 = c.number_each.new.out in
    let r = subst (λ d. HasRoom c.args.out.now (size d)) (bind_view _ _ _ c.in-Let.is c.as_slice.ensures c.as_slice-2.ensures c.deref.ensures) c.requires.room in
    let v = bind_near c.requires.variables (bind_view _ _ _ c.in-Let.is c.as_slice.ensures c.as_slice-2.ensures c.deref.ensures) in
    let site = c.in_ok-site.ensures in
    let inits = c.in_ok-inits.ensures in
    let both = size_each (drafts_of c.as_slice-2.result.now) + size (draft_of c.deref.result.now) in
    let s = room_after_site c.args.out.now out1 both r _ site.sites site.literals (omega arith) in
    (search (rules, the_lemmas), (c.requires.names, (room_after_each out1 out2 (size (draft_of c.deref.result.now)) s (drafts_of c.as_slice-2.result.now) (sites_more out1.sites _ inits.sites) (literals_more f out1.literals out2.literals _ inits.literals) (omega arith), v.1)))

pub number_letrec-is_group-requires : goal.number_letrec-is_group-requires
number_letrec-is_group-requires t c =
    let r = subst (λ d. HasRoom c.args.out.now (size d)) (letrec_view _ _ _ _ c.in-Letrec.is refl c.as_slice.ensures c.deref.ensures) c.requires.room in
    record { few = omega (arith, r.sites) }

pub number_letrec-site_unless-requires : goal.number_letrec-site_unless-requires
number_letrec-site_unless-requires t c =
    let r = subst (λ d. HasRoom c.args.out.now (size d)) (letrec_view _ _ _ _ c.in-Letrec.is refl refl refl) c.requires.room in
    record { few = omega (arith, r.sites); narrow = omega (arith, r.sites, width_is c.in-Letrec.es c.len.ensures refl) }

pub number_letrec-number_each-requires : goal.number_letrec-number_each-requires
number_letrec-number_each-requires t c =
    let r = subst (λ d. HasRoom c.args.out.now (size d)) (letrec_view _ _ _ _ c.in-Letrec.is c.as_slice-2.ensures c.as_slice-3.ensures refl) c.requires.room in
    let v = letrec_near c.requires.variables (letrec_view _ _ _ _ c.in-Letrec.is c.as_slice-2.ensures c.as_slice-3.ensures refl) in
    let site = c.in_ok-site.ensures in
    (search (rules, the_lemmas), (c.requires.names, (room_after_letrec c.args.out.now c.site_unless.new.out _ r _ _ site.sites site.literals (omega arith), v.0)))

pub number_letrec-number-requires : goal.number_letrec-number-requires
number_letrec-number-requires t c =
    let f = literal_of (names_of c.args.tables.now.symbols.now) in
    let out1 = c.site_unless.new.out in
    let out2 = c.number_each.new.out in
    let r = subst (λ d. HasRoom c.args.out.now (size d)) (letrec_view _ _ _ _ c.in-Letrec.is c.as_slice-2.ensures c.as_slice-3.ensures c.deref-2.ensures) c.requires.room in
    let v = letrec_near c.requires.variables (letrec_view _ _ _ _ c.in-Letrec.is c.as_slice-2.ensures c.as_slice-3.ensures c.deref-2.ensures) in
    let site = c.in_ok-site.ensures in
    let inits = c.in_ok-inits.ensures in
    let both = size_each (drafts_of c.as_slice-3.result.now) + size (draft_of c.deref-2.result.now) in
    let s = room_after_letrec c.args.out.now out1 both r _ _ site.sites site.literals (omega arith) in
    (search (rules, the_lemmas), (c.requires.names, (room_after_each out1 out2 (size (draft_of c.deref-2.result.now)) s (drafts_of c.as_slice-3.result.now) (sites_more out1.sites _ inits.sites) (literals_more f out1.literals out2.literals _ inits.literals) (omega arith), v.1)))

pub number_call-call_site-requires : goal.number_call-call_site-requires
number_call-call_site-requires t c =
    let r = subst (λ d. HasRoom c.args.out.now (size d)) (call_view _ _ _ c.in-Call.is refl refl refl) c.requires.room in
    record { few = omega (arith, r.sites); narrow = omega (arith, r.sites, few_parts (drafts_of c.in-Call.es), width_is c.in-Call.es c.len.ensures refl) }

pub number_call-number-requires : goal.number_call-number-requires
number_call-number-requires t c =
    let r = subst (λ d. HasRoom c.args.out.now (size d)) (call_view _ _ _ c.in-Call.is refl c.deref.ensures refl) c.requires.room in
    let v = call_near c.requires.variables (call_view _ _ _ c.in-Call.is refl c.deref.ensures refl) in
    let site = c.in_ok-site.ensures in
    (search (rules, the_lemmas), (c.requires.names, (room_after_site c.args.out.now c.call_site.new.out _ r _ site.sites site.literals (omega arith), v.0)))

pub number_call-number_each-requires : goal.number_call-number_each-requires
number_call-number_each-requires t c =
    let f = literal_of (names_of c.args.tables.now.symbols.now) in
    let out1 = c.call_site.new.out in
    let out2 = c.number.new.out in
    let r = subst (λ d. HasRoom c.args.out.now (size d)) (call_view _ _ _ c.in-Call.is c.as_slice.ensures c.deref.ensures c.as_slice-2.ensures) c.requires.room in
    let v = call_near c.requires.variables (call_view _ _ _ c.in-Call.is c.as_slice.ensures c.deref.ensures c.as_slice-2.ensures) in
    let site = c.in_ok-site.ensures in
    let operator = c.in_ok-operator.ensures in
    let both = size (draft_of c.deref.result.now) + size_each (drafts_of c.as_slice-2.result.now) in
    let s = room_after_site c.args.out.now out1 both r _ site.sites site.literals (omega arith) in
    (search (rules, the_lemmas), (c.requires.names, (room_after out1 out2 (size_each (drafts_of c.as_slice-2.result.now)) s (draft_of c.deref.result.now) (sites_more out1.sites _ operator.sites) (literals_more f out1.literals out2.literals _ operator.literals) (omega arith), v.1)))

pub number_each-number-requires : goal.number_each-number-requires
number_each-number-requires t c =
    let n = next_draft c.args.es.now c.loop-e.e-index c.e-item.result c.loop-e-test.true c.e-item.is in
    let r = subst (λ ds. HasRoom c.loop-e.out (size_each ds)) n c.loop-e.invariant.room in
    let v = each_near c.loop-e.invariant.variables n in
    (search (rules, the_lemmas), (c.requires.names, (room_within c.loop-e.out _ r (omega arith), v.0)))
