use Rattle.std.proofs.Common.{◌≡◌, ℕ, ◌-◌, Bool}
use Rattle.std.specs.List.{list_all}
use Rattle.sch_word.specs.trees.Bindings.{numbers}
use Rattle.sch_layout.specs.BodyLayout.{arguments_at}
use Rattle.sch_homes.specs.CallMoves.{argument_of, operand_tree}
use Rattle.sch_homes.specs.HomeTable.{place_in}
use Rattle.sch_homes.specs.StraightCalls.{keeps_off_earlier}
use Rattle.sch_homes.proofs.straight_calls.are_in_order.Given as goal

abbrev pub invariant-loop-j : goal.invariant-loop-j
invariant-loop-j l =
    let off : ℕ → Bool = λ j. keeps_off_earlier l.tail j (operand_tree (argument_of (arguments_at (place_in l.lives.places.now) l.a) j)) in
    list_all off (numbers l.j (l.count - l.j)) ≡ list_all off (numbers 0 l.count)
