use Rattle.std.proofs.Common.{[], ◌∷◌, ◌++◌, ap, ◌∙◌, sym, subst, List}
use Rattle.std.proofs.lemmas.List.{map-append}
use Rattle.sch_word.proofs.facts.TreesInOrder.{Walk, order_taken, order_ended}
use Rattle.sch_read.specs.Grammar as grammar
use Rattle.sch_read.specs.Views.{tree_of}
use Rattle.sch_read.specs.DatumParts.{parts, trees_of, lent_trees, lent_tree}
use Rattle.sch_read.proofs.DatumSteps.{less_left}
use Rattle.sch_read.proofs.datum_order.data_in_order.Goals as goal

pub each-init : goal.each-init
each-init c = λ nodes h.
    subst (λ l. Walk parts (lent_trees l ++ nodes) (trees_of c.args.items.now)) (sym c.new-order.ensures) (subst (λ l. Walk parts nodes (trees_of l)) c.new-left.ensures h)

pub each-smaller : goal.each-smaller
each-smaller c = less_left (tree_of c.in-Some.d.now) _ _ _ (ap trees_of c.in-Some.ensures) c.in_ok-enter_parts.ensures

pub each-preserved : goal.each-preserved
each-preserved c = λ nodes h.
    let others = trees_of c.next.new.self in
    let d = tree_of c.in-Some.d.now in
    let before : (ms : List grammar.Datum) → Walk parts ms (d ∷ others) → Walk parts (lent_trees c.each.order ++ ms) (trees_of c.args.items.now) =
    λ ms k. c.each.invariant ms (subst (λ l. Walk parts ms l) (sym (ap trees_of c.in-Some.ensures)) k) in
    let k = subst (λ l. Walk parts nodes l) c.in_ok-enter_parts.ensures h in
    subst (λ l. Walk parts (l ++ nodes) (trees_of c.args.items.now)) (sym (ap lent_trees c.in_ok-push.ensures.ok ∙ map-append lent_tree c.each.order (c.in-Some.d ∷ [])))
    (order_taken parts (lent_trees c.each.order) d others (trees_of c.args.items.now) before nodes k)

pub returns : goal.returns
returns c =
    let none = rw c.in_default.is at c.next.ensures in
    order_ended parts (lent_trees c.each.order) _ (λ more h. c.each.invariant more (subst (λ l. Walk parts more l) (sym (ap trees_of none)) h))
