use Rattle.std.proofs.Common.{◌≡◌, ◌^◌, ◌-◌, [], length, map, ap, ◌∙◌, sym, subst, arith, IsTrue}
use Rattle.sch_cells.specs.ProgramView.{source}
use Rattle.sch_flat.specs.View.{body, made}
use Rattle.sch_flat.specs.Valid.{constants_in_range, is_closed, is_formed, within_levels, in_order, sited, statics_known}
use Rattle.sch_closure.specs.Closed.{captured, procedures_lambdas, made_each}
use Rattle.sch_closure.specs.Walked.{with_bodies_lambdas}
use Rattle.sch_closure.proofs.Standing.{stands_library, stands_forms}
use Rattle.sch_closure.proofs.MadeProgram.{made_program, library_length, few_procedures}
use Rattle.sch_closure.proofs.kept.ValidKept.{Given, short, closed_kept, formed_kept, constants_kept, nested_kept, ordered_kept, sited_kept, ready_kept}
use Rattle.sch_closure.proofs.close_program.Goals as goal

pub close_lambdas-requires-clause-short : goal.close_lambdas-requires-clause-short
close_lambdas-requires-clause-short c =
    let p = source c.args.p.now in
    let v = c.args.p.now in
    let g : Given p = record { scoped = v.scoped; formed = v.formed; limited = v.limited } in
    let f = c.as_slice.ensures.value ∙ c.in_ok-fields.ensures in
    rw f (short p g)

pub close_lambdas-requires-clause-stand : goal.close_lambdas-requires-clause-stand
close_lambdas-requires-clause-stand c =
    let p = source c.args.p.now in
    let f = c.as_slice.ensures.value ∙ c.in_ok-fields.ensures in
    rw (f, c.in_ok-bodies.ensures.items) (stands_library captured p.library p.forms)

pub close_lambdas-requires-clause-few : goal.close_lambdas-requires-clause-few
close_lambdas-requires-clause-few c =
    let p = source c.args.p.now in
    let l : length c.in_ok-bodies.bodies.items ≡ 0 = ap length c.in_ok-bodies.ensures.items in
    omega (arith, l, few_procedures p (2 ^ 32 - 2 ^ 10) c.requires.few)

pub close_forms-requires-clause-short : goal.close_forms-requires-clause-short
close_forms-requires-clause-short c =
    let p = source c.args.p.now in
    let v = c.args.p.now in
    let g : Given p = record { scoped = v.scoped; formed = v.formed; limited = v.limited } in
    let f = c.as_slice-3.ensures.value ∙ c.in_ok-fields.ensures in
    rw f (short p g)

pub close_forms-requires-clause-stand : goal.close_forms-requires-clause-stand
close_forms-requires-clause-stand c =
    let p = source c.args.p.now in
    let f = c.as_slice-3.ensures.value ∙ c.in_ok-fields.ensures in
    let n : length c.close_lambdas.new.bodies.items ≡ procedures_lambdas p.library =
    library_length p c.close_lambdas.new.bodies.items (c.in_ok-records.ensures.bodies ∙ ap (λ bs. with_bodies_lambdas p.library (map body bs)) c.in_ok-bodies.ensures.items) in
    rw (f, n) (stands_forms captured p.library p.forms)

pub close_forms-requires-clause-few : goal.close_forms-requires-clause-few
close_forms-requires-clause-few c =
    let p = source c.args.p.now in
    let n : length c.close_lambdas.new.bodies.items ≡ procedures_lambdas p.library =
    library_length p c.close_lambdas.new.bodies.items (c.in_ok-records.ensures.bodies ∙ ap (λ bs. with_bodies_lambdas p.library (map body bs)) c.in_ok-bodies.ensures.items) in
    omega (arith, n, few_procedures p (2 ^ 32 - 2 ^ 10) c.requires.few)

pub returns : goal.returns
returns c =
    let p = source c.args.p.now in
    let empty = c.in_ok-bodies.ensures.items in
    made_program p _ c.in_ok-records.records _ c.close_lambdas.new.bodies.items _ _ _ _ c.in_ok-statics.ensures
    (c.in_ok-records.ensures.made ∙ ap (λ bs. made_each p.library [] (length bs)) empty)
    (c.in_ok-library.ensures ∙ ap (λ ms. map (λ m. m.label) (map made ms)) c.as_slice-2.ensures)
    (c.in_ok-records.ensures.bodies ∙ ap (λ bs. with_bodies_lambdas p.library (map body bs)) empty)
    (ap (map body) c.from_vec.ensures ∙ c.in_ok-forms.ensures.closes.bodies)
    c.in_ok-forms.ensures.closes.made c.in_ok-forms.ensures.starts (c.in_ok-sites.ensures ∙ c.as_slice-4.ensures)

pub invariant_of-result : goal.invariant_of-result
invariant_of-result c =
    let p = source c.args.p.now in
    let v = c.args.p.now in
    let g : Given p = record { scoped = v.scoped; formed = v.formed; limited = v.limited } in
    let empty = c.in_ok-bodies.ensures.items in
    let whole =
    made_program p _ c.in_ok-records.records _ c.close_lambdas.new.bodies.items _ _ _ _ c.in_ok-statics.ensures
    (c.in_ok-records.ensures.made ∙ ap (λ bs. made_each p.library [] (length bs)) empty)
    (c.in_ok-library.ensures ∙ ap (λ ms. map (λ m. m.label) (map made ms)) c.as_slice-2.ensures)
    (c.in_ok-records.ensures.bodies ∙ ap (λ bs. with_bodies_lambdas p.library (map body bs)) empty)
    (ap (map body) c.from_vec.ensures ∙ c.in_ok-forms.ensures.closes.bodies)
    c.in_ok-forms.ensures.closes.made c.in_ok-forms.ensures.starts (c.in_ok-sites.ensures ∙ c.as_slice-4.ensures) in
    record {
      closed = subst (λ q. IsTrue (is_closed q)) (sym whole) (closed_kept p g);
      formed = subst (λ q. IsTrue (is_formed q)) (sym whole) (formed_kept p g);
      nested = subst (λ q. IsTrue (within_levels q)) (sym whole) (nested_kept p g);
      ordered = subst (λ q. IsTrue (in_order q)) (sym whole) (ordered_kept p);
      sited = subst (λ q. IsTrue (sited q)) (sym whole) (sited_kept p g v.sited);
      ready = subst (λ q. IsTrue (statics_known q)) (sym whole) (ready_kept p v.ready);
      words = subst (λ q. IsTrue (constants_in_range q)) (sym whole) (constants_kept p g v.words);
    }
