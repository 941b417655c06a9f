use Rattle.std.proofs.Common.{◌≡◌, ◌∙◌, ℕ, List, suc, length, ap, arith, map, refl, sym}
use Rattle.sch_word.specs.declared.place.Place.{Place}
use Rattle.sch_shuffle.specs.CycleSearch.{cycles}
use Rattle.sch_shuffle.specs.Greedy.{made}
use Rattle.sch_shuffle.specs.GreedySteps.{order}
use Rattle.sch_shuffle.specs.View.{arguments, tree}
use Rattle.sch_homes.specs.HomeTable.{place_in}
use Rattle.sch_homes.proofs.CallLists.{arguments_length, targets_many}
use Rattle.sch_homes.proofs.ListedOrders.{listed_is}
use Rattle.sch_homes.proofs.listed_moves.shuffled_call.Goals as goal

pub evaluation_order-requires-clause-targets : goal.evaluation_order-requires-clause-targets
evaluation_order-requires-clause-targets c =
    targets_many (place_in c.args.lives.now.places.now) c.args.a.now c.args.tail _ _ _ _ c.in_ok-args.ensures c.as_slice.ensures
    refl (let n = c.argument_count-count.ensures in omega (arith, n)) (c.as_slice-2.ensures ∙ c.in_ok-targets.ensures)

pub cycles-requires : goal.cycles-requires
cycles-requires c =
    targets_many (place_in c.args.lives.now.places.now) c.args.a.now c.args.tail _ _ _ _ c.in_ok-args.ensures c.as_slice-3.ensures
    refl (let n = c.argument_count-count.ensures in omega (arith, n)) (c.as_slice-4.ensures ∙ c.in_ok-targets.ensures)

pub returns : goal.returns
returns c end =
    let lives = place_in c.args.lives.now.places.now in
    let a = c.args.a.now in
    let args = c.in_ok-args.args in
    let m : ℕ = length c.as_slice.result.now in
    let n : c.argument_count-count.result ≡ suc (length a.operands) = c.argument_count-count.ensures in
    let moved : (free : List Place) → c.in_ok-order.order ≡ order m (made (arguments c.as_slice.result.now) c.as_slice-2.result.now free) = c.in_ok-order.ensures in
    let round : c.in_ok-cycles.cycles ≡ cycles (arguments c.as_slice-3.result.now) c.as_slice-4.result.now = c.in_ok-cycles.ensures in
    listed_is end lives c.args.tail a (map tree args) c.in_ok-targets.targets c.argument_count-count.result m c.in_ok-order.order c.in_ok-cycles.cycles c.in_ok-args.ensures n c.in_ok-targets.ensures
    (ap length c.as_slice.ensures ∙ (arguments_length lives a args c.in_ok-args.ensures ∙ sym n))
    (λ free. moved free ∙ (ap (λ xs. order m (made (map tree xs) c.as_slice-2.result.now free)) c.as_slice.ensures ∙ ap (λ to. order m (made (map tree args) to free)) c.as_slice-2.ensures))
    (round ∙ (ap (λ xs. cycles (map tree xs) c.as_slice-4.result.now) c.as_slice-3.ensures ∙ ap (cycles (map tree args)) c.as_slice-4.ensures))
