use Rattle.std.proofs.Common.{◌∙◌, ℕ, Bool, ap, arith, sym}
use Rattle.std.specs.List.{list_all}
use Rattle.sch_word.specs.trees.Bindings.{numbers}
use Rattle.sch_layout.specs.BodyLayout.{arguments_at}
use Rattle.sch_homes.specs.CallMoves.{argument_of, operand_tree}
use Rattle.sch_homes.specs.HomeTable.{place_in}
use Rattle.sch_homes.specs.StraightCalls.{keeps_off_earlier}
use Rattle.sch_homes.proofs.StraightCalls.{all_passed, failed, passed}
use Rattle.sch_homes.proofs.straight_calls.are_in_order.Goals as goal

pub returns-then-not-argument_keeps_off_earlier : goal.returns-then-not-argument_keeps_off_earlier
returns-then-not-argument_keeps_off_earlier c =
    let off : ℕ → Bool = λ j. keeps_off_earlier c.args.tail j (operand_tree (argument_of (arguments_at (place_in c.args.lives.now.places.now) c.args.a.now) j)) in
    let count : ℕ = c.argument_count-count.result in
    failed off count c.loop-j.j c.loop-j-test.true c.loop-j.invariant (sym c.argument_keeps_off_earlier.ensures ∙ c.if-not-argument_keeps_off_earlier.true)
    ∙ ap (λ n. list_all off (numbers 0 n)) c.argument_count-count.ensures

pub loop-j-preserved : goal.loop-j-preserved
loop-j-preserved c =
    let off : ℕ → Bool = λ j. keeps_off_earlier c.args.tail j (operand_tree (argument_of (arguments_at (place_in c.args.lives.now.places.now) c.args.a.now) j)) in
    let count : ℕ = c.argument_count-count.result in
    passed off count c.loop-j.j c.loop-j-test.true c.loop-j.invariant (sym c.argument_keeps_off_earlier.ensures ∙ c.if-not-argument_keeps_off_earlier.false)

pub returns : goal.returns
returns c =
    let off : ℕ → Bool = λ j. keeps_off_earlier c.args.tail j (operand_tree (argument_of (arguments_at (place_in c.args.lives.now.places.now) c.args.a.now) j)) in
    let count : ℕ = c.argument_count-count.result in
    let over = c.loop-j-test.false in
    let within = c.loop-j.auto.j-end in
    all_passed off count c.loop-j.j (omega (arith, over, within)) c.loop-j.invariant
    ∙ ap (λ n. list_all off (numbers 0 n)) c.argument_count-count.ensures
