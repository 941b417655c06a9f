-- Calls of which no argument uses the target of an earlier one. Each argument goes straight to its target, in their order, and
-- nothing is set aside: when its turn comes, no argument that still waits uses its target.
use Rattle.std.specs.Prelude.{ℕ, suc, Bool, false, not, List, length, map}
use Rattle.std.specs.List.{list_all}
use Rattle.sch_word.specs.declared.place.Place.{Place}
use Rattle.sch_word.specs.trees.Bindings.{numbers}
use Rattle.sch_control.specs.declared.operation.Application.{Application}
use Rattle.sch_layout.specs.BodyLayout.{arguments_at, target}
use Rattle.sch_layout.specs.Moves.{Move}
use Rattle.sch_shuffle.specs.Tree.{Tree, uses}
use Rattle.sch_homes.specs.CallMoves.{argument_of, next_frame, operand_tree}

-- argument j uses the target of no earlier one
abbrev pub keeps_off_earlier : (tail : Bool) → (j : ℕ) → Tree → Bool
keeps_off_earlier tail j x = list_all (λ k. not (uses x (target tail next_frame k))) (numbers 0 j)

-- no argument of a call uses the target of an earlier one
abbrev pub are_in_order : (lives : ℕ → Place) → (tail : Bool) → Application ℕ → Bool
are_in_order lives tail a = list_all (λ j. keeps_off_earlier tail j (operand_tree (argument_of (arguments_at lives a) j))) (numbers 0 (suc (length a.operands)))

-- an argument goes to its target
abbrev pub straight_move : (lives : ℕ → Place) → (tail : Bool) → Application ℕ → ℕ → Move
straight_move lives tail a k = record { argument = k; from = argument_of (arguments_at lives a) k; to = target tail next_frame k; temp = false }

abbrev pub straight_moves : (lives : ℕ → Place) → (tail : Bool) → Application ℕ → List Move
straight_moves lives tail a = map (straight_move lives tail a) (numbers 0 (suc (length a.operands)))
