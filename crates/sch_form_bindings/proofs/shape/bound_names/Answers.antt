use Rattle.sch_form_bindings.proofs.BindingLists.{bound_next, bindings_next, bindings_stop}
use Rattle.sch_form_bindings.proofs.shape.bound_names.Goals as goal

pub loop-d-preserved : goal.loop-d-preserved
loop-d-preserved c =
    let i = c.loop-d.invariant in
    record {
      are = bindings_next c.args.items.now c.loop-d.d-index c.d-item.result _ c.loop-d-test.true c.d-item.is c.in-Some.ensures i.are;
      names = bound_next c.args.items.now c.loop-d.d-index c.d-item.result c.loop-d.names c.push.new.self c.in-Some.x _ c.loop-d-test.true c.d-item.is c.in-Some.ensures c.in_ok-push.ensures.ok i.names;
    }

pub returns-in_default : goal.returns-in_default
returns-in_default c = bindings_stop c.args.items.now c.loop-d.d-index c.d-item.result _ c.loop-d-test.true c.d-item.is c.in_default.ensures c.loop-d.invariant.are
