use Rattle.sch_toplevel.proofs.FormLists.{next_place}
use Rattle.sch_toplevel.proofs.places.add_places.Goals as goal

pub loop-form-preserved : goal.loop-form-preserved
loop-form-preserved c =
    next_place c.args.forms.now c.loop-form.form-index c.form-item.result _ _ _ _ c.loop-form-test.true c.form-item.is c.place.ensures c.in_ok-push.ensures.ok c.loop-form.invariant
