use Rattle.std.proofs.Common.{◌≡◌, ◌<◌, ◌∙◌, ap, sym, arith, length, ◌++◌, [], ◌∷◌, true, false, map, ◌+◌, ◌-◌, List}
use Rattle.std.specs.Prelude.{nat_lt}
use Rattle.sch_word.specs.trees.Bindings.{numbers}
use Rattle.sch_shuffle.specs.View.{arguments}
use Rattle.sch_shuffle.specs.CycleSearch.{successor, places_at, rings}
use Rattle.sch_shuffle.proofs.WalkTurns.{ring_found, found_below, rings_turn}
use Rattle.sch_shuffle.proofs.rings.cycles.Goals as goal
use Rattle.sch_shuffle.proofs.rings.cycles.Goals.{then-is_ring+in_ok-places_at+in_ok-push, else-is_ring}

pub places_at-requires : goal.places_at-requires
places_at-requires c =
    let R = successor (arguments c.args.args.now) c.args.targets.now in
    let k = c.loop-k.k in
    let lt : k < length c.args.targets.now = omega (arith, c.loop-k-test.true, c.requires) in
    found_below c.in_ok-ring.ring.items _ (length c.args.targets.now) k R
    (ring_found c.in_ok-ring.ring.items c.as_slice.result.now c.in_ok-successors.successors.items (length c.args.targets.now) k R c.in_ok-ring.ensures c.as_slice.ensures.value
    c.in_ok-successors.ensures.len c.in_ok-successors.ensures.successors lt)
    c.as_slice-then-is_ring.ensures.value lt

pub loop-k-preserved : goal.loop-k-preserved
loop-k-preserved c =
    let R = successor (arguments c.args.args.now) c.args.targets.now in
    let n = length c.args.targets.now in
    let k = c.loop-k.k in
    let lt : k < n = omega (arith, c.loop-k-test.true, c.requires) in
    let found = ring_found c.in_ok-ring.ring.items c.as_slice.result.now c.in_ok-successors.successors.items n k R c.in_ok-ring.ensures c.as_slice.ensures.value c.in_ok-successors.ensures.len
    c.in_ok-successors.ensures.successors lt in
    let rest : List _ = map (places_at c.args.targets.now) (rings R n (numbers (k + 1) (n - (k + 1)))) in
    let turn = rings_turn (places_at c.args.targets.now) R n k c.loop-k.all c.in_ok-ring.ring.items in
    let long : c.is_ring.result ≡ nat_lt 1 (length c.in_ok-ring.ring.items) = c.is_ring.ensures ∙ ap (λ xs. nat_lt 1 (length xs)) c.as_slice-in-loop-k.ensures.value in
    elim c.if-is_ring.branch [
      | then-is_ring+in_ok-places_at+in_ok-push w ↦
          let made = w.all-is ∙ w.in_ok-push.ensures.ok ∙ ap (λ x. c.loop-k.all ++ x ∷ []) (w.in_ok-places_at.ensures ∙ ap (places_at c.args.targets.now) w.as_slice-then-is_ring.ensures.value) in
          ap (λ xs. xs ++ rest) made ∙ turn true lt found (sym w.if-is_ring.true ∙ long) ∙ c.loop-k.invariant
      | else-is_ring w ↦ ap (λ xs. xs ++ rest) w.all-is ∙ turn false lt found (sym w.if-is_ring.false ∙ long) ∙ c.loop-k.invariant
    ]
