use Rattle.std.proofs.Common.{◌≡◌, ◌∙◌, ap, sym, arith, ℕ, length, get_or, ◌++◌, [], ◌∷◌}
use Rattle.std.proofs.lemmas.List.{length-map, get_or_read}
use Rattle.sch_shuffle.specs.View.{tree, arguments}
use Rattle.sch_shuffle.specs.Greedy.{uses_target, needed, next_of, chosen}
use Rattle.sch_shuffle.proofs.WaitingArguments.{first_waiting, first_choices, standing, taken, kept}
use Rattle.sch_shuffle.proofs.choice.all_choices.Goals as goal

pub loop-turn-init : goal.loop-turn-init
loop-turn-init c =
    let n = length c.args.args.now in
    let W = uses_target (arguments c.args.args.now) c.args.targets.now in
    let e = c.in_ok-waiting.ensures in
    let f = first_waiting n _ e in (
      f.0,
      f.1,
      f.2,
      c.in_ok-users.ensures.len,
      λ k lt. c.in_ok-users.ensures.counts k lt ∙ ap (λ ws. needed W ws k) (sym e),
      first_choices (arguments c.args.args.now) c.args.targets.now _ _ n c.new-all.ensures.items e (length-map c.args.args.now tree),
    )

pub next_of-at-requires-clause-known : goal.next_of-at-requires-clause-known
next_of-at-requires-clause-known c i lt =
    let t = standing (length c.args.args.now) c.loop-turn.waiting.items i c.loop-turn.invariant.2 (omega (arith, lt, ap length c.as_slice.ensures)) in
    let same = ap (λ xs. get_or xs i 0) c.as_slice.ensures in
    omega (arith, t, same, ap length c.as_slice-in-loop-turn.ensures.value, c.loop-turn.invariant.3)

pub index-requires : goal.index-requires
index-requires c =
    let k = taken c.loop-turn.waiting.items c.as_slice.result.now c.next_of-at.result c.remove-k.result c.next_of-at.ensures.within c.as_slice.ensures c.remove-k.ensures.value in
    let t = standing (length c.args.args.now) c.loop-turn.waiting.items c.next_of-at.result c.loop-turn.invariant.2 k.0 in
    omega (arith, t, k.1, c.loop-turn.invariant.3)

pub release-requires-clause-known : goal.release-requires-clause-known
release-requires-clause-known c =
    let k = taken c.loop-turn.waiting.items c.as_slice.result.now c.next_of-at.result c.remove-k.result c.next_of-at.ensures.within c.as_slice.ensures c.remove-k.ensures.value in
    let t = standing (length c.args.args.now) c.loop-turn.waiting.items c.next_of-at.result c.loop-turn.invariant.2 k.0 in
    omega (arith, t, k.1)

pub loop-turn-preserved : goal.loop-turn-preserved
loop-turn-preserved c =
    let ws = c.loop-turn.waiting.items in
    let us = c.loop-turn.users.items in
    let k : ℕ = c.remove-k.result in
    let at : ℕ = c.next_of-at.result in
    let t = taken ws c.as_slice.result.now at k c.next_of-at.ensures.within c.as_slice.ensures c.remove-k.ensures.value in
    let small = standing (length c.args.args.now) ws at c.loop-turn.invariant.2 t.0 in
    let next : get_or ws at 0 ≡ next_of (λ j. get_or us j 0) ws =
    sym (ap (λ xs. get_or xs at 0) c.as_slice.ensures) ∙ c.next_of-at.ensures.next
    ∙ ap (λ xs. next_of (λ j. get_or xs j 0) c.as_slice.result.now) c.as_slice-in-loop-turn.ensures.value
    ∙ ap (λ xs. next_of (λ j. get_or us j 0) xs) c.as_slice.ensures in
    let read : c.index.result.now ≡ get_or us k 0 = get_or_read us k c.index.result.now (omega (arith, small, t.1, c.loop-turn.invariant.3)) c.index.ensures 0 in
    let pushed = c.in_ok-push.ensures.items ∙ ap (λ x. c.loop-turn.all.items ++ x ∷ []) (c.chosen.ensures ∙ ap (λ m. chosen m k) read) in
    kept (arguments c.args.args.now) c.args.targets.now (length c.args.args.now) c.loop-turn._turn ws _ us _ c.loop-turn.all.items _ at k
    c.loop-turn-test.true c.loop-turn.invariant t.0 t.1 next c.remove-k.ensures.items pushed c.release.ensures.len c.release.ensures.released
