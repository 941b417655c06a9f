use Rattle.std.proofs.Common.{◌≡◌, ℕ, ◌-◌, Bool}
use Rattle.std.specs.Prelude.{not}
use Rattle.std.specs.List.{list_all}
use Rattle.sch_word.specs.trees.Bindings.{numbers}
use Rattle.sch_layout.specs.BodyLayout.{operand_at, target}
use Rattle.sch_shuffle.specs.Tree.{uses}
use Rattle.sch_homes.specs.CallMoves.{next_frame, operand_tree}
use Rattle.sch_homes.specs.HomeTable.{place_in}
use Rattle.sch_homes.proofs.straight_calls.keeps_off_earlier.Given as goal

abbrev pub invariant-loop-k : goal.invariant-loop-k
invariant-loop-k l =
    let free : ℕ → Bool = λ k. not (uses (operand_tree (operand_at (place_in l.lives.places.now) l.o)) (target l.tail next_frame k)) in
    list_all free (numbers l.k (l.j - l.k)) ≡ list_all free (numbers 0 l.j)
