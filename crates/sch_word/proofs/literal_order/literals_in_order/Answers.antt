use Rattle.std.proofs.Common.{[], ◌∷◌, ◌++◌, ap, ◌∙◌, sym, subst, List}
use Rattle.std.proofs.lemmas.List.{map-append}
use Rattle.sch_word.proofs.facts.TreesInOrder.{Walk, order_taken, order_ended}
use Rattle.sch_word.specs.values.Literals.{Literal}
use Rattle.sch_word.specs.values.LiteralView.{literal}
use Rattle.sch_word.specs.values.LiteralParts.{parts, plain, lent, lent_literal}
use Rattle.sch_word.proofs.values.LiteralSteps.{less_left}
use Rattle.sch_word.proofs.literal_order.literals_in_order.Goals as goal

pub each-init : goal.each-init
each-init c = λ nodes h.
    subst (λ l. Walk parts (lent l ++ nodes) (plain c.args.literals.now)) (sym c.new-order.ensures) (subst (λ l. Walk parts nodes (plain l)) c.new-left.ensures h)

pub each-smaller : goal.each-smaller
each-smaller c = less_left (literal c.in-Some.l.now) _ _ _ (ap plain c.in-Some.ensures) c.in_ok-enter_parts.ensures

pub each-preserved : goal.each-preserved
each-preserved c = λ nodes h.
    let others = plain c.next.new.self in
    let d = literal c.in-Some.l.now in
    let before : (ms : List Literal) → Walk parts ms (d ∷ others) → Walk parts (lent c.each.order ++ ms) (plain c.args.literals.now) =
    λ ms k. c.each.invariant ms (subst (λ l. Walk parts ms l) (sym (ap plain c.in-Some.ensures)) k) in
    let k = subst (λ l. Walk parts nodes l) c.in_ok-enter_parts.ensures h in
    subst (λ l. Walk parts (l ++ nodes) (plain c.args.literals.now)) (sym (ap lent c.in_ok-push.ensures.ok ∙ map-append lent_literal c.each.order (c.in-Some.l ∷ [])))
    (order_taken parts (lent c.each.order) d others (plain c.args.literals.now) before nodes k)

pub returns : goal.returns
returns c =
    let none = rw c.in_default.is at c.next.ensures in
    order_ended parts (lent c.each.order) _ (λ more h. c.each.invariant more (subst (λ l. Walk parts more l) (sym (ap plain none)) h))
