use Rattle.std.proofs.Common.{ap, arith}
use Rattle.sch_read.specs.Parts.{offset}
use Rattle.sch_read.specs.Valid.{weights}
use Rattle.sch_read.specs.Views.{data_of}
use Rattle.sch_toplevel.specs.Forms.{form_sketch}
use Rattle.sch_toplevel.proofs.FormLists.{forms_left, forms_end}
use Rattle.sch_toplevel.proofs.forms.add_forms.Goals as goal

pub each-smaller : goal.each-smaller
each-smaller c =
    let b = ap (λ l. weights (data_of l)) c.in-Some.ensures in
    omega (arith, b, c.in_ok-add_form.ensures.less)

pub each-preserved : goal.each-preserved
each-preserved c = record {
  sketches = forms_left form_sketch c.in-Some.d.now _ _ _ _ _ _ c.in-Some.ensures c.in_ok-add_form.ensures.sketches c.each.invariant.sketches;
  places = forms_left offset c.in-Some.d.now _ _ _ _ _ _ c.in-Some.ensures c.in_ok-add_form.ensures.places c.each.invariant.places;
}

pub returns-clause-sketches : goal.returns-clause-sketches
returns-clause-sketches c =
    let none = rw c.in_default.is at c.next.ensures in
    forms_end form_sketch _ _ _ none c.each.invariant.sketches

pub returns-clause-places : goal.returns-clause-places
returns-clause-places c =
    let none = rw c.in_default.is at c.next.ensures in
    forms_end offset _ _ _ none c.each.invariant.places
