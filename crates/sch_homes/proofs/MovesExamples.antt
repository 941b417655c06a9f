-- Worked rows: the moves of calls, where they set arguments aside, and what they are laid out as.
use Rattle.std.proofs.Common.{◌≡◌, ℕ, refl, false, true, Bool, List, [], ◌∷◌}
use Rattle.sch_word.specs.declared.mark.MarkKind.TheVariants as mark
use Rattle.sch_word.specs.declared.place.Place.{Place}
use Rattle.sch_word.specs.declared.place.Place.TheVariants.{Reg, Slot}
use Rattle.sch_word.specs.declared.primitive.Primitive.TheVariants.{Eq}
use Rattle.sch_control.specs.declared.operation.Application.{Application}
use Rattle.sch_control.specs.declared.operation.Atom.TheVariants.{Literal, Variable}
use Rattle.sch_control.specs.declared.operation.Operand.{Operand}
use Rattle.sch_control.specs.declared.operation.Operand.TheVariants as operand
use Rattle.sch_control.specs.declared.operation.Operation.TheVariants as operation
use Rattle.sch_control.specs.Tree.{bind, call, end, tail_call}
use Rattle.sch_control.proofs.Examples.{applied, held_in, number}
use Rattle.sch_frames.specs.declared.instruction.Instruction.{Instruction}
use Rattle.sch_frames.specs.declared.instruction.Instruction.TheVariants.{Do, Store, Copy, Pass, Mark}
use Rattle.sch_layout.specs.BodyLayout.{move_all}
use Rattle.sch_layout.specs.Moves.{Move}
use Rattle.sch_shuffle.specs.Tree.{fixed, literal, place, read, trees}
use Rattle.sch_homes.specs.CallMoves.{aside_end, call_end, call_free, call_moves, first_temporary, is_spare, move_of, next_frame, operand_tree, slot_end, spare_registers, taken, targets, temporaries}
use Rattle.sch_homes.specs.Homes.{calls_end}
use Rattle.sch_homes.specs.HomeTable.{place_in}
use Rattle.sch_homes.specs.StraightCalls.{are_in_order, keeps_off_earlier}
use Rattle.sch_homes.specs.StraightCalls as straight_calls

-- variables 2 to 7 live where the first six operands arrive, 8 and 9 in slots
abbrev lives : ℕ → Place
lives = place_in (Reg 15 ∷ Reg 14 ∷ Reg 3 ∷ Reg 8 ∷ Reg 9 ∷ Reg 10 ∷ Reg 6 ∷ Reg 7 ∷ Slot 0 ∷ Slot 1 ∷ [])

abbrev move : ℕ → Operand Place → Place → Bool → Move
move k from to temp = record { argument = k; from = from; to = to; temp = temp }

-- what a call is laid out as, where slots are in use up to the fifth
abbrev laid : (tail : Bool) → Application ℕ → List Instruction
laid tail a = move_all next_frame (call_moves 5 lives tail a) []

-- ## Operands and places

-- a shuffle is told which places an operand uses
operand_rows :
    (operand_tree (number 7) ≡ fixed 0) × (operand_tree (held_in (Reg 8)) ≡ place (Reg 8))
    × (operand_tree (operand.Read 4 Eq (Variable (Reg 8) ∷ Literal 2 ∷ [])) ≡ read Eq (trees (place (Reg 8) ∷ literal 2 ∷ [])))
operand_rows = (refl, refl, refl)

-- and what is no place is taken from the argument, with its site
taken_rows :
    (taken (place (Slot 6)) (number 7) ≡ held_in (Slot 6))
    × (taken (read Eq (trees (place (Reg 8) ∷ []))) (operand.Read 4 Eq (Variable (Reg 8) ∷ [])) ≡ operand.Read 4 Eq (Variable (Reg 8) ∷ []))
taken_rows = (refl, refl)

move_row : move_of (held_in (Reg 3) ∷ number 7 ∷ []) (record { from = fixed 0; to = Reg 3; argument = 1; temp = false }) ≡ move 1 (number 7) (Reg 3) false
move_row = refl

-- the operator goes to R14 and six operands to registers; the others to slots, of the next frame where it is no tail call
target_rows :
    (targets false 8 ≡ Reg 14 ∷ Reg 3 ∷ Reg 8 ∷ Reg 9 ∷ Reg 10 ∷ Reg 6 ∷ Reg 7 ∷ Slot 4096 ∷ [])
    × (targets true 8 ≡ Reg 14 ∷ Reg 3 ∷ Reg 8 ∷ Reg 9 ∷ Reg 10 ∷ Reg 6 ∷ Reg 7 ∷ Slot 0 ∷ [])
target_rows = (refl, refl)

-- neither a target nor what an argument uses is spare
spare_rows :
    (is_spare (place (Reg 9) ∷ []) (Reg 14 ∷ []) (Reg 14) ≡ false) × (is_spare (place (Reg 9) ∷ []) (Reg 14 ∷ []) (Reg 9) ≡ false)
    × (spare_registers (place (Reg 9) ∷ place (Reg 3) ∷ []) (Reg 14 ∷ Reg 3 ∷ []) ≡ Reg 8 ∷ Reg 10 ∷ Reg 6 ∷ Reg 7 ∷ [])
spare_rows = (refl, refl, refl)

temporary_rows : (temporaries (Reg 8 ∷ Reg 10 ∷ []) 5 4 ≡ Reg 8 ∷ Reg 10 ∷ Slot 5 ∷ Slot 6 ∷ []) × (temporaries (Reg 8 ∷ Reg 10 ∷ []) 5 1 ≡ Reg 8 ∷ [])
temporary_rows = (refl, refl)

-- ten operands of a tail call are handed over in the slots 0 to 3
first_rows : (first_temporary 5 10 ≡ 5) × (first_temporary 2 10 ≡ 4)
first_rows = (refl, refl)

-- ## A call that needs no temporary

-- `(f x y)`: only `f` does not stand where it should
abbrev straight : Application ℕ
straight = applied 0 (held_in 4) (held_in 2 ∷ held_in 3 ∷ [])

straight_moves : call_moves 5 lives false straight ≡ move 0 (held_in (Reg 9)) (Reg 14) false ∷ move 1 (held_in (Reg 3)) (Reg 3) false ∷ move 2 (held_in (Reg 8)) (Reg 8) false ∷ []
straight_moves = refl

straight_laid : laid false straight ≡ Copy (Reg 14) (Reg 9) ∷ []
straight_laid = refl

straight_end : call_end 5 lives false straight ≡ 5
straight_end = refl

-- each operand uses its own target, and no argument that of another one
straight_ordered : (keeps_off_earlier false 0 (operand_tree (held_in (Reg 9))) ≡ true) × (keeps_off_earlier false 1 (operand_tree (held_in (Reg 3))) ≡ true) × (are_in_order lives false straight ≡ true)
straight_ordered = (refl, refl, refl)

straight_list : straight_calls.straight_moves lives false straight ≡ call_moves 5 lives false straight
straight_list = refl

-- ## Arguments that use the targets of later ones alone

-- `(x 7)`: the operator stands where the operand is wanted, and goes before it
abbrev handed : Application ℕ
handed = applied 0 (held_in 2) (number 7 ∷ [])

handed_moves : call_moves 5 lives false handed ≡ move 0 (held_in (Reg 3)) (Reg 14) false ∷ move 1 (number 7) (Reg 3) false ∷ []
handed_moves = refl

handed_ordered : are_in_order lives false handed ≡ true
handed_ordered = refl

handed_list : straight_calls.straight_moves lives false handed ≡ call_moves 5 lives false handed
handed_list = refl

handed_end : call_end 5 lives false handed ≡ 5
handed_end = refl

-- `(x y z)`: each argument stands where the next one is wanted
abbrev shifted : Application ℕ
shifted = applied 0 (held_in 2) (held_in 3 ∷ held_in 4 ∷ [])

shifted_ordered : are_in_order lives false shifted ≡ true
shifted_ordered = refl

shifted_list : straight_calls.straight_moves lives false shifted ≡ call_moves 5 lives false shifted
shifted_list = refl

-- `(f z x)`: the second operand stands where the first is wanted, and goes before it
abbrev turned : Application ℕ
turned = applied 0 (held_in 1) (held_in 4 ∷ held_in 2 ∷ [])

turned_not_ordered : (keeps_off_earlier false 2 (operand_tree (held_in (Reg 3))) ≡ false) × (are_in_order lives false turned ≡ false)
turned_not_ordered = (refl, refl)

-- ## A swap in a tail call

-- `(f y x)`: one of them by way of R9
abbrev swap : Application ℕ
swap = applied 0 (held_in 1) (held_in 3 ∷ held_in 2 ∷ [])

swap_moves : call_moves 5 lives true swap ≡
    move 0 (held_in (Reg 14)) (Reg 14) false ∷ move 1 (held_in (Reg 8)) (Reg 9) true ∷ move 2 (held_in (Reg 3)) (Reg 8) false ∷ move 1 (held_in (Reg 9)) (Reg 3) false ∷ []
swap_moves = refl

-- one mark of a temporary, of a register, and so no slot
swap_laid : laid true swap ≡ Mark mark.Temp ∷ Copy (Reg 9) (Reg 8) ∷ Copy (Reg 8) (Reg 3) ∷ Copy (Reg 3) (Reg 9) ∷ []
swap_laid = refl

swap_end : call_end 5 lives true swap ≡ 5
swap_end = refl

-- each of the two uses the target of the other, so the later one that of an earlier one
swap_not_ordered : (keeps_off_earlier true 1 (operand_tree (held_in (Reg 8))) ≡ true) × (keeps_off_earlier true 2 (operand_tree (held_in (Reg 3))) ≡ false) × (are_in_order lives true swap ≡ false)
swap_not_ordered = (refl, refl, refl)

-- ## Seven operands: the last goes to a slot

abbrev seven : Application ℕ
seven = applied 0 (held_in 1) (held_in 2 ∷ held_in 3 ∷ held_in 4 ∷ held_in 5 ∷ held_in 6 ∷ held_in 7 ∷ held_in 9 ∷ [])

-- of the next frame, under its mark
seven_laid : laid false seven ≡ Do (operation.Operand (held_in (Slot 1))) ∷ Mark mark.Argument ∷ Pass 0 ∷ []
seven_laid = refl

-- or of the own one
seven_tail : laid true seven ≡ Do (operation.Operand (held_in (Slot 1))) ∷ Mark mark.Argument ∷ Store (Slot 0) ∷ []
seven_tail = refl

-- where variable 8 lives there, which goes to RDI: it goes first
abbrev late : Application ℕ
late = applied 0 (held_in 1) (held_in 2 ∷ held_in 3 ∷ held_in 4 ∷ held_in 5 ∷ held_in 6 ∷ held_in 8 ∷ held_in 9 ∷ [])

late_laid : laid true late ≡ Copy (Reg 7) (Slot 0) ∷ Do (operation.Operand (held_in (Slot 1))) ∷ Mark mark.Argument ∷ Store (Slot 0) ∷ []
late_laid = refl

-- ## All six registers are targets: a temporary is a slot behind those in use

abbrev six : Application ℕ
six = applied 0 (held_in 1) (held_in 3 ∷ held_in 2 ∷ held_in 4 ∷ held_in 5 ∷ held_in 6 ∷ held_in 7 ∷ [])

six_free : call_free 5 lives false six ≡ Slot 5 ∷ Slot 6 ∷ Slot 7 ∷ Slot 8 ∷ Slot 9 ∷ Slot 10 ∷ Slot 11 ∷ []
six_free = refl

six_laid : laid false six ≡ Mark mark.Temp ∷ Copy (Slot 5) (Reg 8) ∷ Copy (Reg 8) (Reg 3) ∷ Copy (Reg 3) (Slot 5) ∷ []
six_laid = refl

-- one slot is used of those that there are
six_end : call_end 5 lives false six ≡ 6
six_end = refl

-- a register is no slot, and what is not set aside does not count
end_rows : (slot_end (Reg 9) ≡ 0) × (aside_end 5 (move 1 (held_in (Reg 8)) (Slot 8) false ∷ []) ≡ 5) × (aside_end 5 (move 1 (held_in (Reg 8)) (Slot 8) true ∷ []) ≡ 9)
end_rows = (refl, refl, refl)

-- the call that needs most
most_row : calls_end 5 lives (bind 10 (call six []) (end (tail_call swap))) ≡ 6
most_row = refl
