use Rattle.std.proofs.Common.{ap, sym, ◌∙◌, Some}
use Rattle.sch_control.specs.Tree.{perform}
use Rattle.sch_saves.proofs.TwoSetsOf.{equal_sets, of_true, of_false, of_value}
use Rattle.sch_saves.proofs.needs.need_value.Goals as goal

pub returns-in-Some-true : goal.returns-in-Some-true
returns-in-Some-true g c =
    let v = c.args.variables.now in
    equal_sets v.count (perform c.args.o.now) _ c.clear.new.on_true _ c.copy.result c.clear.ensures.on_true c.copy.ensures
    (of_true v.count c.args.o.now v.all.now v.whole (sym c.known.ensures ∙ (c.in-Some-true.is ∙ ap Some c.in-Some-true.field-0-test)))

pub returns-in-Some-false : goal.returns-in-Some-false
returns-in-Some-false g c =
    let v = c.args.variables.now in
    equal_sets v.count (perform c.args.o.now) _ c.copy-in-Some-false.result _ c.clear.new.on_false c.copy-in-Some-false.ensures c.clear.ensures.on_false
    (of_false v.count c.args.o.now v.all.now v.whole (sym c.known.ensures ∙ (c.in-Some-false.is ∙ ap Some c.in-Some-false.field-0-test)))

pub returns-in-None : goal.returns-in-None
returns-in-None g c =
    let v = c.args.variables.now in
    equal_sets v.count (perform c.args.o.now) _ c.clear.new.on_true _ c.clear.new.on_false c.clear.ensures.on_true c.clear.ensures.on_false
    (of_value v.count c.args.o.now (sym c.known.ensures ∙ c.in-None.is))
