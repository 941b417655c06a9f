use Rattle.std.proofs.Common.{◌≡◌, suc, ◌∙◌, ap, arith, length, map}
use Rattle.std.proofs.lemmas.List.{map-append}
use Rattle.sch_word.specs.trees.Bindings.{numbers}
use Rattle.sch_writer.specs.View.{move_of, moves_of}
use Rattle.sch_homes.specs.HomeTable.{place_in}
use Rattle.sch_homes.specs.StraightCalls.{straight_move}
use Rattle.sch_homes.proofs.Numbered.{map_more}
use Rattle.sch_homes.proofs.straight_calls.straight_moves.Goals as goal

pub loop-k-preserved : goal.loop-k-preserved
loop-k-preserved c =
    map_more (straight_move (place_in c.args.lives.now.places.now) c.args.tail c.args.a.now) c.loop-k.k _ _ _ c.loop-k.invariant
    (ap moves_of c.in_ok-push.ensures.ok ∙ map-append move_of _ _) c.in_ok-straight_move.ensures

pub returns : goal.returns
returns c =
    let over = c.loop-k-test.false in
    let within = c.loop-k.auto.k-end in
    let count = c.argument_count-count.ensures in
    let all : c.loop-k.k ≡ suc (length c.args.a.now.operands) = omega (arith, over, within, count) in
    c.loop-k.invariant ∙ ap (λ n. map (straight_move (place_in c.args.lives.now.places.now) c.args.tail c.args.a.now) (numbers 0 n)) all
