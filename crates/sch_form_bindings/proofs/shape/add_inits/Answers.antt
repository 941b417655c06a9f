use Rattle.std.proofs.Common.{◌∙◌, sym}
use Rattle.sch_form_bindings.proofs.BindingLists.{inits_next, inits_stop}
use Rattle.sch_form_bindings.proofs.shape.add_inits.Goals as goal

pub loop-d-preserved : goal.loop-d-preserved
loop-d-preserved c = λ ks. inits_next c.args.items.now c.loop-d.d-index _ c.loop-d.parts c.push.new.self _ c.loop-d-test.true c.d-item.is c.in-Some.ensures c.in_ok-push.ensures.ok c.text.ensures ks ∙ c.loop-d.invariant ks

pub returns-in_default : goal.returns-in_default
returns-in_default c = λ ks. sym (inits_stop c.args.items.now c.loop-d.d-index _ c.loop-d.parts c.loop-d-test.true c.d-item.is c.in_default.ensures ks) ∙ c.loop-d.invariant ks
