use Rattle.std.proofs.Common.{◌≡◌, ◌<◌, ◌∙◌, ◌++◌, true, length, map, get_or, refl, ap, sym, subst, arith}
use Rattle.std.specs.List.{list_all}
use Rattle.std.proofs.lemmas.Result.{IfOk-from_err}
use Rattle.sch_flat.specs.View.{body, trees_of}
use Rattle.sch_flat.proofs.Rows.{count_is, trees_of_list}
use Rattle.sch_control.specs.SourceView.{codes_of}
use Rattle.sch_control.specs.Valid.{code_valid}
use Rattle.sch_anf_laws.specs.LabelsFit.{LabelsFitEach}
use Rattle.sch_anf_laws.specs.Normal.{normal_bodies}
use Rattle.sch_anf.proofs.PartSteps.{labels_next}
use Rattle.sch_anf.proofs.CodeLists.{ascends_next, before_last, forms_valid, forms_made, forms_labels, forms_end, between_labels, between_valid}
use Rattle.sch_anf.proofs.body.normalize_bodies.Goals as goal

pub loop-i-init : goal.loop-i-init
loop-i-init c =
    let starts = c.args.starts.now in
    let bodies = map body c.args.bodies.now in
    let items = c.as_slice-items.result.now in
    let es = trees_of_list items in
    let same = c.as_slice-items.ensures in
    record {
      made = rw (c.from_vec-all.ensures ∙ c.in_ok-with_capacity.ensures.items) (ap (λ ts. normal_bodies starts 0 bodies ts starts) (sym es));
      valid = subst (λ ts. list_all code_valid (normal_bodies starts 0 bodies ts starts) ≡ true) (sym (ap trees_of same) ∙ es) c.requires.valid;
      ascends = c.requires.ascends;
      bodies_fit = c.requires.bodies;
      forms_fit = subst (λ ts. LabelsFitEach (length starts) ts) (sym (ap trees_of same) ∙ es) c.requires.forms;
      none = c.new-v.ensures.bound;
      places = c.requires.starts ∙ count_is c.args.forms.now ∙ ap length (sym same);
    }

pub slice_bounds-add_procedures-end : goal.slice_bounds-add_procedures-end
slice_bounds-add_procedures-end c =
    let i = c.loop-i.invariant in
    let a = ascends_next c.args.starts.now c.loop-i.before c.loop-i.i (length c.args.bodies.now) (omega (arith, i.places, c.loop-i-test.true)) i.ascends in
    a.1

pub add_procedures-requires-clause-labels : goal.add_procedures-requires-clause-labels
add_procedures-requires-clause-labels c =
    let i = c.loop-i.invariant in
    let starts = c.args.starts.now in
    between_labels c.args.bodies.now c.loop-i.before (get_or starts c.loop-i.i 0) (length starts) i.bodies_fit

pub add_procedures-requires-clause-valid : goal.add_procedures-requires-clause-valid
add_procedures-requires-clause-valid c =
    let i = c.loop-i.invariant in
    let starts = c.args.starts.now in
    let m : c.loop-i.i < length starts = omega (arith, i.places, c.loop-i-test.true) in
    between_valid starts c.args.bodies.now c.as_slice-items.result.now c.loop-i.before c.loop-i.i (length c.args.bodies.now) (omega (arith, c.loop-i-test.true)) m i.ascends i.valid

pub loop-i-preserved : goal.loop-i-preserved
loop-i-preserved c =
    let i = c.loop-i.invariant in
    let starts = c.args.starts.now in
    let bodies = c.args.bodies.now in
    let items = c.as_slice-items.result.now in
    let e = c.index-items-i.result in
    let place = get_or starts c.loop-i.i 0 in
    let m : c.loop-i.i < length starts = omega (arith, i.places, c.loop-i-test.true) in
    let a = ascends_next starts c.loop-i.before c.loop-i.i (length bodies) m i.ascends in
    record {
      made = forms_made starts bodies items c.loop-i.before c.loop-i.i e place
          (omega (arith, c.loop-i-test.true)) c.index-items-i.is m refl a.0 c.loop-i.all c.add_procedures.new.all c.push.new.self c.in_ok-normalize_form.field-0 _
          c.in_ok-add_procedures.ensures.made c.in_ok-push.ensures.ok c.in_ok-normalize_form.ensures.made i.made;
      valid = (forms_valid starts bodies items c.loop-i.before c.loop-i.i e place (omega (arith, c.loop-i-test.true)) c.index-items-i.is m refl a.0 i.valid).2;
      ascends = a.2;
      bodies_fit = (forms_labels starts bodies items c.loop-i.before c.loop-i.i e place (omega (arith, c.loop-i-test.true)) c.index-items-i.is m refl a.0 (length starts) i.bodies_fit).1;
      forms_fit = (labels_next items c.loop-i.i e (omega (arith, c.loop-i-test.true)) c.index-items-i.is (length starts) i.forms_fit).1;
      none = c.in_ok-normalize_form.ensures.none;
      places = i.places;
    }

pub returns-in_err-with_capacity : goal.returns-in_err-with_capacity
returns-in_err-with_capacity c = IfOk-from_err c.from_residual.result _ c.from_residual.ensures.0

pub returns-in_err-add_procedures : goal.returns-in_err-add_procedures
returns-in_err-add_procedures c = IfOk-from_err c.from_residual-in_err-add_procedures.result _ c.from_residual-in_err-add_procedures.ensures.0

pub returns-in_err-normalize_form : goal.returns-in_err-normalize_form
returns-in_err-normalize_form c = IfOk-from_err c.from_residual-in_err-normalize_form.result _ c.from_residual-in_err-normalize_form.ensures.0

pub returns-in_err-push : goal.returns-in_err-push
returns-in_err-push c = IfOk-from_err c.from_residual-in_err-push.result _ c.from_residual-in_err-push.ensures.0

pub returns-in_err-add_procedures-2 : goal.returns-in_err-add_procedures-2
returns-in_err-add_procedures-2 c = IfOk-from_err c.from_residual-in_err-add_procedures-2.result _ c.from_residual-in_err-add_procedures-2.ensures.0

pub overflow_add-bodies : goal.overflow_add-bodies
overflow_add-bodies c = omega arith

pub offset_bounds-starts-i : goal.offset_bounds-starts-i
offset_bounds-starts-i c = omega arith

pub bounds-starts-i : goal.bounds-starts-i
bounds-starts-i c = omega (arith, c.loop-i.invariant.places, c.loop-i-test.true)

pub offset_bounds-bodies-before : goal.offset_bounds-bodies-before
offset_bounds-bodies-before c =
    let i = c.loop-i.invariant in
    let a = ascends_next c.args.starts.now c.loop-i.before c.loop-i.i (length c.args.bodies.now) (omega (arith, i.places, c.loop-i-test.true)) i.ascends in
    omega (arith, a.0, a.1)

pub slice_bounds-add_procedures-count : goal.slice_bounds-add_procedures-count
slice_bounds-add_procedures-count c =
    let i = c.loop-i.invariant in
    let a = ascends_next c.args.starts.now c.loop-i.before c.loop-i.i (length c.args.bodies.now) (omega (arith, i.places, c.loop-i-test.true)) i.ascends in
    a.0

pub offset_bounds-items-i : goal.offset_bounds-items-i
offset_bounds-items-i c = omega arith

pub bounds-items-i : goal.bounds-items-i
bounds-items-i c = omega (arith, c.loop-i-test.true)

pub normalize_form-requires-clause-labels : goal.normalize_form-requires-clause-labels
normalize_form-requires-clause-labels c =
    let items = c.as_slice-items.result.now in
    (labels_next items c.loop-i.i c.index-items-i.result (omega (arith, c.loop-i-test.true)) c.index-items-i.is (length c.args.starts.now) c.loop-i.invariant.forms_fit).0

pub normalize_form-requires-clause-valid : goal.normalize_form-requires-clause-valid
normalize_form-requires-clause-valid c =
    let i = c.loop-i.invariant in
    let starts = c.args.starts.now in
    let bodies = c.args.bodies.now in
    let items = c.as_slice-items.result.now in
    let place = get_or starts c.loop-i.i 0 in
    let m : c.loop-i.i < length starts = omega (arith, i.places, c.loop-i-test.true) in
    let a = ascends_next starts c.loop-i.before c.loop-i.i (length bodies) m i.ascends in
    (forms_valid starts bodies items c.loop-i.before c.loop-i.i c.index-items-i.result place (omega (arith, c.loop-i-test.true)) c.index-items-i.is m refl a.0 i.valid).1

pub offset_bounds-bodies-before-2 : goal.offset_bounds-bodies-before-2
offset_bounds-bodies-before-2 c = omega (arith, before_last c.args.starts.now c.loop-i.before c.loop-i.i (length c.args.bodies.now) c.loop-i.invariant.ascends)

pub slice_bounds-add_procedures-count-2 : goal.slice_bounds-add_procedures-count-2
slice_bounds-add_procedures-count-2 c = omega (arith, before_last c.args.starts.now c.loop-i.before c.loop-i.i (length c.args.bodies.now) c.loop-i.invariant.ascends)

pub add_procedures-requires-2-clause-valid : goal.add_procedures-requires-2-clause-valid
add_procedures-requires-2-clause-valid c =
    let i = c.loop-i.invariant in
    let none = forms_end c.args.starts.now c.args.bodies.now c.as_slice-items.result.now c.loop-i.before c.loop-i.i c.loop-i-test.false in
    subst (λ r. list_all code_valid r ≡ true) none i.valid

pub returns : goal.returns
returns c =
    let i = c.loop-i.invariant in
    let starts = c.args.starts.now in
    let none = forms_end starts c.args.bodies.now c.as_slice-items.result.now c.loop-i.before c.loop-i.i c.loop-i-test.false in
    c.in_ok-add_procedures-2.ensures.made ∙ ap (λ r. codes_of c.loop-i.all ++ r) (sym none) ∙ i.made
    ∙ ap (λ items. normal_bodies starts 0 (map body c.args.bodies.now) (trees_of items) starts) c.as_slice-items.ensures

pub add_procedures-requires-2-clause-labels : goal.add_procedures-requires-2-clause-labels
add_procedures-requires-2-clause-labels c = between_labels c.args.bodies.now c.loop-i.before (length c.args.bodies.now) (length c.args.starts.now) c.loop-i.invariant.bodies_fit
