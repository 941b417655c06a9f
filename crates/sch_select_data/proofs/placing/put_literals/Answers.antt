use Rattle.std.proofs.Common.{◌≡◌, ◌≤◌, ℕ, ◌+◌, [], ◌∷◌, ◌++◌, reverse, ap, ◌∙◌, subst, arith}
use Rattle.sch_word.specs.trees.InOrder.{AreInOrder}
use Rattle.sch_word.specs.values.Literals.{literals}
use Rattle.sch_word.specs.values.LiteralView.{literal, literals_of}
use Rattle.sch_word.specs.values.LiteralParts.{parts, plain, lent}
use Rattle.sch_word.proofs.facts.TreesInOrder.{ComeBefore, back_begun, back_ended}
use Rattle.sch_select_data.specs.PlacedView.{in_turn, ArePut}
use Rattle.sch_select_data.specs.PlacedWords.{units_in_each}
use Rattle.sch_select_data.proofs.literals.NodeUnits.{units_of_order, last_parts, last_room}
use Rattle.sch_select_data.proofs.literals.PutSteps.{none_placed, values_there}
use Rattle.sch_select_data.proofs.literals.Sizes.{units_bound}
use Rattle.sch_select_data.proofs.placing.put_literals.Goals as goal

pub units_of_nodes-requires : goal.units_of_nodes-requires
units_of_nodes-requires c =
    let n = units_of_order c.in_ok-order.order c.as_slice-2.result.now c.args.literals.now c.as_slice.result.now c.as_slice-2.ensures c.as_slice.ensures c.in_ok-order.ensures in
    let b = units_bound (literals_of c.args.literals.now) in
    omega (arith, n, b, c.requires)

pub overflow_add-placed : goal.overflow_add-placed
overflow_add-placed c =
    let n = units_of_order c.in_ok-order.order c.as_slice-2.result.now c.args.literals.now c.as_slice.result.now c.as_slice-2.ensures c.as_slice.ensures c.in_ok-order.ensures in
    let b = units_bound (literals_of c.args.literals.now) in
    let u = c.units_of_nodes.ensures in
    omega (arith, n, b, u, c.requires)

pub each-init : goal.each-init
each-init c =
    let order = c.in_ok-order.order in
    let ls = c.args.literals.now in
    let n = units_of_order order c.as_slice-2.result.now ls c.as_slice.result.now c.as_slice-2.ensures c.as_slice.ensures c.in_ok-order.ensures in (
      [],
      back_begun parts (lent order) (plain ls) (subst (λ l. AreInOrder parts (lent order) (plain l)) c.as_slice.ensures c.in_ok-order.ensures),
      none_placed (c.args.first_unit + c.units_of_nodes.result) (c.args.first_unit + units_in_each (literals_of ls)) (reverse c.new.result) (in_turn c.new-2.result)
          (ap (λ k. c.args.first_unit + k) (c.units_of_nodes.ensures ∙ n)) (ap reverse c.new.ensures) c.new-2.ensures,
    )

pub put-requires-clause-parts : goal.put-requires-clause-parts
put-requires-clause-parts c =
    let there = c.each.invariant.0 in
    let p = last_parts c.each.order c.pop.new.self c.in-Some.l there c.args.literals.now c.in-Some.ensures c.each.invariant.1 in
    let end = c.args.first_unit + units_in_each (literals_of c.args.literals.now) in
    values_there (parts (literal c.in-Some.l.now)) p.0 c.each.placed.unit end (reverse c.each.placed.words) (in_turn c.each.placed.values)
    (subst (λ t. ArePut t end c.each.placed) p.1 c.each.invariant.2)

pub put-requires-clause-room : goal.put-requires-clause-room
put-requires-clause-room c =
    let there = c.each.invariant.0 in
    let room = last_room c.each.order c.pop.new.self c.in-Some.l there c.args.literals.now c.in-Some.ensures c.each.invariant.1 in
    let placed : ArePut there (c.args.first_unit + units_in_each (literals_of c.args.literals.now)) c.each.placed = c.each.invariant.2 in
    let ends = placed.ends in
    omega (arith, room, ends)

pub put-requires-clause-small : goal.put-requires-clause-small
put-requires-clause-small c =
    let placed : ArePut c.each.invariant.0 (c.args.first_unit + units_in_each (literals_of c.args.literals.now)) c.each.placed = c.each.invariant.2 in
    let ends = placed.ends in
    let b = units_bound (literals_of c.args.literals.now) in
    omega (arith, ends, b, c.requires)

pub each-preserved : goal.each-preserved
each-preserved c =
    let there = c.each.invariant.0 in
    let p = last_parts c.each.order c.pop.new.self c.in-Some.l there c.args.literals.now c.in-Some.ensures c.each.invariant.1 in
    let end = c.args.first_unit + units_in_each (literals_of c.args.literals.now) in
    (literal c.in-Some.l.now ∷ p.0, p.2, c.in_ok-put.ensures p.0 end (subst (λ t. ArePut t end c.each.placed) p.1 c.each.invariant.2))

pub returns : goal.returns
returns c =
    let there = c.each.invariant.0 in
    let ls = c.args.literals.now in
    let none = ap lent c.in_default.ensures.0 in
    let all = back_ended parts there (plain ls) (subst (λ o. ComeBefore parts o there (plain ls)) none c.each.invariant.1) in
    subst (λ t. ArePut t (c.args.first_unit + units_in_each (literals_of ls)) c.each.placed) all c.each.invariant.2
