use Rattle.std.proofs.Common.{ap, sym, ◌∙◌, Some}
use Rattle.sch_read.specs.Views.{tree_of}
use Rattle.sch_sketch.proofs.DefinitionSteps.{definition_begins, begin_defines, begin_lighter}
use Rattle.sch_sketch.proofs.definitions.may_define.Goals as goal

pub returns-in_ok-enter-in-Some-Begin-clause-defines : goal.returns-in_ok-enter-in-Some-Begin-clause-defines
returns-in_ok-enter-in-Some-Begin-clause-defines c =
    begin_defines c.args.scope.now (tree_of c.args.d.now) c.in-Some-split.others.now c.enter.new.self c.args.left.now
    (definition_begins _ _ c.in-Some.ensures c.in-Some-split.ensures c.in-Some-name.ensures (sym c.find.ensures ∙ c.in_default-find.is)
    (sym c.keyword_of.ensures ∙ c.in-Some-Begin.is ∙ ap Some c.in-Some-Begin.field-0-is))
    c.in_ok-enter-in-Some-Begin.ensures

pub returns-in_ok-enter-in-Some-Begin-clause-less : goal.returns-in_ok-enter-in-Some-Begin-clause-less
returns-in_ok-enter-in-Some-Begin-clause-less c =
    begin_lighter (tree_of c.args.d.now) c.in-Some-split.others.now c.enter.new.self c.args.left.now c.in-Some.ensures c.in-Some-split.ensures c.in_ok-enter-in-Some-Begin.ensures
