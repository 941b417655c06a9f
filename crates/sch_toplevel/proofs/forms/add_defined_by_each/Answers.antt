use Rattle.std.proofs.Common.{◌∙◌}
use Rattle.sch_toplevel.proofs.FormLists.{next_defined}
use Rattle.sch_toplevel.proofs.forms.add_defined_by_each.Goals as goal

pub loop-form-preserved : goal.loop-form-preserved
loop-form-preserved c = record {
  bound = next_defined c.args.forms.now c.loop-form.form-index c.form-item.result _ _ _ c.loop-form-test.true c.form-item.is c.in_ok-add_defined.ensures.bound c.loop-form.invariant.bound;
  own = next_defined c.args.forms.now c.loop-form.form-index c.form-item.result _ _ _ c.loop-form-test.true c.form-item.is c.in_ok-add_defined.ensures.own c.loop-form.invariant.own;
  internal = c.in_ok-add_defined.ensures.internal ∙ c.loop-form.invariant.internal;
}
