use Rattle.std.proofs.Common.{None, Some, ap, sym, ◌∙◌}
use Rattle.sch_names.specs.ScopeView.{one_name}
use Rattle.sch_core.proofs.items.DefinitionSteps.{begin_defined, begin_made, begin_whole, next_defined, next_made, next_whole}
use Rattle.sch_core.proofs.definitions.definitions.Goals as goal

pub loop-name-init : goal.loop-name-init
loop-name-init c =
    let left = c.reversed-left.ensures in
    record {
      named = begin_defined c.args.names.now c.new-all.result c.new-all.ensures;
      made = begin_made c.args.drafts c.reversed-left.result c.new-all.result c.new-all.ensures left;
      whole = begin_whole c.args.names.now c.args.drafts c.reversed-left.result left c.requires.whole;
    }

pub loop-name-preserved : goal.loop-name-preserved
loop-name-preserved c =
    let l = rw c.in-Some-pop.is at c.pop.ensures in
    let made = c.definition.ensures in
    let named = ap one_name c.in-Some.is ∙ ap Some (sym made.named) in
    record {
      named = next_defined c.args.names.now c.loop-name.name-index _ c.loop-name.all _ c.definition.result _ c.loop-name-test.true c.in_ok-push.ensures.ok named c.loop-name.invariant.named;
      made = next_made c.loop-name.left c.pop.new.self c.in-Some-pop.draft c.loop-name.all _ c.definition.result _ l c.in_ok-push.ensures.ok made.made c.loop-name.invariant.made;
      whole = next_whole c.args.names.now c.loop-name.name-index c.loop-name.left c.loop-name.invariant.whole None c.loop-name-test.true c.pop.new.self c.in-Some-pop.draft l;
    }
