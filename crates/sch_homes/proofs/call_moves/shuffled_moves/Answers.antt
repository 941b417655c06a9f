use Rattle.std.proofs.Common.{◌≡◌, ◌≤◌, ◌+◌, ◌^◌, ◌∙◌, ap, map, refl}
use Rattle.std.proofs.lemmas.Result.{IfOk-weaker}
use Rattle.sch_layout.specs.BodyLayout.{arguments_at}
use Rattle.sch_shuffle.specs.Greedy.{made}
use Rattle.sch_shuffle.specs.View.{transfers_of, tree}
use Rattle.sch_homes.specs.CallMoves.{move_of, spare_registers, temporaries}
use Rattle.sch_homes.specs.HomeTable.{place_in}
use Rattle.sch_homes.proofs.CallLists.{moves_whole, targets_many, temporaries_many}
use Rattle.sch_homes.proofs.call_moves.shuffled_moves.Goals as goal

pub make_moves-requires-clause-targets : goal.make_moves-requires-clause-targets
make_moves-requires-clause-targets c =
    targets_many (place_in c.args.lives.now.places.now) c.args.a.now c.args.tail _ _ _ _ c.in_ok-args.ensures c.as_slice-4.ensures c.len-operands.ensures
    refl (c.as_slice-5.ensures ∙ c.in_ok-targets.ensures)

pub make_moves-requires-clause-free : goal.make_moves-requires-clause-free
make_moves-requires-clause-free c =
    temporaries_many (place_in c.args.lives.now.places.now) c.args.a.now _ _ _ _ _ _ c.in_ok-args.ensures c.as_slice-4.ensures c.len-operands.ensures
    refl (c.as_slice-6.ensures ∙ c.in_ok-free.ensures)

pub returns : goal.returns
returns c =
    let lives = place_in c.args.lives.now.places.now in
    let a = c.args.a.now in
    let args = c.in_ok-args.args in
    IfOk-weaker c.moves_from.result _ _
    (λ moves h. moves_whole lives c.args.end c.args.tail a args _ _ _ _ _ _ _ _ c.in_ok-args.ensures c.len-operands.ensures refl c.in_ok-targets.ensures
    (c.in_ok-spare.ensures ∙ (ap (λ xs. spare_registers (map tree xs) c.as_slice-2.result.now) c.as_slice.ensures ∙ ap (spare_registers (map tree args)) c.as_slice-2.ensures))
    c.first_temporary-first.ensures
    (c.in_ok-free.ensures ∙ ap (λ ps. temporaries ps c.first_temporary-first.result (c.len-operands.result + 1)) c.as_slice-3.ensures)
    (c.in_ok-steps.ensures ∙ (ap (λ xs. made (map tree xs) c.as_slice-5.result.now c.as_slice-6.result.now) c.as_slice-4.ensures
    ∙ (ap (λ to. made (map tree args) to c.as_slice-6.result.now) c.as_slice-5.ensures ∙ ap (made (map tree args) c.in_ok-targets.targets) c.as_slice-6.ensures)))
    (h ∙ ap (λ s. map (move_of (arguments_at lives a)) (transfers_of s)) c.as_slice-7.ensures)) c.moves_from.ensures
