-- Moves of calls, and what goes wrong where less is asked of them.
use Rattle.std.proofs.Common.{◌≡◌, ℕ, zero, suc, List, [], ◌∷◌, Option, Some, None, Bool, true, false, cond, refl, ap}
use Rattle.std.specs.Prelude.{slice_get}
use Rattle.sch_word.specs.declared.place.Place.{Place}
use Rattle.sch_word.specs.declared.place.Place.TheVariants.{Reg, Slot}
use Rattle.sch_word.specs.declared.constant.Const.TheVariants.{Boolean}
use Rattle.sch_word.specs.values.Values.{Value}
use Rattle.sch_word.specs.runs.Computation.{State, gives}
use Rattle.sch_word.specs.runs.Store.{Store}
use Rattle.sch_word.specs.declared.mark.MarkKind.{MarkKind}
use Rattle.sch_word.specs.declared.mark.MarkKind.TheVariants as mark
use Rattle.sch_control.specs.declared.operation.Application.{Application}
use Rattle.sch_control.specs.declared.operation.Atom.TheVariants.{Constant}
use Rattle.sch_control.specs.declared.operation.Operand.{Operand}
use Rattle.sch_control.specs.declared.operation.Operand.TheVariants as operand
use Rattle.sch_control.specs.declared.operation.Operation.TheVariants as operation
use Rattle.sch_control.specs.Meaning.{Callee}
use Rattle.sch_control.specs.Operations.{operand_value}
use Rattle.sch_word.specs.runs.Procedures.{Procedure}
use Rattle.sch_control.specs.Tree.{tail_call}
use Rattle.sch_control.proofs.Examples.{held_in}
use Rattle.sch_frames.specs.declared.instruction.Instruction.{Instruction}
use Rattle.sch_frames.specs.declared.instruction.Instruction.TheVariants.{Do, Store as Put, Copy, Pass, Return, Mark}
use Rattle.sch_frames.specs.Does.{world}
use Rattle.sch_frames.specs.Meaning.{Is, Link, Junk, Frame, execute_each}
use Rattle.sch_word.specs.values.Places.{same_place}
use Rattle.sch_layout.specs.BodyLayout.{arguments_at, lay, move_all, target, Plan}
use Rattle.sch_layout.specs.Moves.{Contents, Move, Shuffled, moved}
use Rattle.sch_layout.specs.PathMarks.{move_marks}

abbrev move : ℕ → Operand Place → Place → Bool → Move
move argument from to temp = record { argument = argument; from = from; to = to; temp = temp }

abbrev pub given_by : Contents → Store → Option (Operand Place) → Option Value
given_by c t None = None
given_by c t (Some o) = operand_value c t o

-- the return address in R15, the closure in R14, two variables in RBX and R8, and two in slots
abbrev place : ℕ → Place
place zero = Reg 15
place (suc zero) = Reg 14
place (suc (suc zero)) = Reg 3
place (suc (suc (suc zero))) = Reg 8
place (suc (suc (suc (suc k)))) = Slot k

-- ## Two variables change places: the one with the least number is set aside, in a register

abbrev swap : Application ℕ
swap = record { site = 7; spread = false; operator = held_in 1; operands = held_in 3 ∷ held_in 2 ∷ [] }

abbrev swap_moves : List Move
swap_moves =
    move 0 (held_in (Reg 14)) (Reg 14) false ∷ move 1 (held_in (Reg 8)) (Reg 9) true ∷ move 2 (held_in (Reg 3)) (Reg 8) false
    ∷ move 1 (held_in (Reg 9)) (Reg 3) false ∷ []

swap_shuffled : (tail : Bool) → Shuffled (arguments_at place swap) (target tail 2) swap_moves
swap_shuffled tail = record {
  carries = λ t start. ((_, (refl, refl)), ((_, (refl, refl)), ((_, (refl, refl)), ((_, (refl, refl)), tt))));
  arrives = by tail;
} where
  by : (tail : Bool) (t : Store) (start : Contents) (k : ℕ) (o : Operand Place) → slice_get (arguments_at place swap) k ≡ Some o → moved t swap_moves start (target tail 2 k) ≡ operand_value start t o
  by true t start zero o e = ap (given_by start t) e
  by true t start (suc zero) o e = ap (given_by start t) e
  by true t start (suc (suc zero)) o e = ap (given_by start t) e
  by true t start (suc (suc (suc k))) o e = absurd (cc)
  by false t start zero o e = ap (given_by start t) e
  by false t start (suc zero) o e = ap (given_by start t) e
  by false t start (suc (suc zero)) o e = ap (given_by start t) e
  by false t start (suc (suc (suc k))) o e = absurd (cc)

-- the operator stands where it is wanted; the one mark is at a write of a register
swap_laid : move_all 2 swap_moves [] ≡ Mark mark.Temp ∷ Copy (Reg 9) (Reg 8) ∷ Copy (Reg 8) (Reg 3) ∷ Copy (Reg 3) (Reg 9) ∷ []
swap_laid = refl

swap_marks : move_marks swap_moves ≡ mark.Temp ∷ []
swap_marks = refl

-- ## A tail call in whose slots the variables live that it hands over there, in the other order

abbrev number : Operand ℕ
number = operand.Atom (Constant (Boolean true))

abbrev eight : Application ℕ
eight = record { site = 8; spread = false; operator = held_in 1; operands = number ∷ number ∷ number ∷ number ∷ number ∷ number ∷ held_in 5 ∷ held_in 4 ∷ [] }

abbrev to_register : ℕ → ℕ → Move
to_register k r = move k (operand.Atom (Constant (Boolean true))) (Reg r) false

abbrev eight_moves : List Move
eight_moves =
    move 0 (held_in (Reg 14)) (Reg 14) false ∷ to_register 1 3 ∷ to_register 2 8 ∷ to_register 3 9 ∷ to_register 4 10 ∷ to_register 5 6 ∷ to_register 6 7
    ∷ move 7 (held_in (Slot 1)) (Slot 2) true ∷ move 8 (held_in (Slot 0)) (Slot 1) false ∷ move 7 (held_in (Slot 2)) (Slot 0) false ∷ []

eight_shuffled : Shuffled (arguments_at place eight) (target true 3) eight_moves
eight_shuffled = record {
  carries = λ t start. ((_, (refl, refl)), ((_, (refl, refl)), ((_, (refl, refl)), ((_, (refl, refl)), ((_, (refl, refl)), ((_, (refl, refl)), ((_, (refl, refl)), ((_, (refl, refl)), ((_, (refl, refl)), ((_, (refl, refl)), tt))))))))));
  arrives = λ t start k o e. by t start k o e;
} where
  by : (t : Store) (start : Contents) (k : ℕ) (o : Operand Place) → slice_get (arguments_at place eight) k ≡ Some o → moved t eight_moves start (target true 3 k) ≡ operand_value start t o
  by t start zero o e = ap (given_by start t) e
  by t start (suc zero) o e = ap (given_by start t) e
  by t start (suc (suc zero)) o e = ap (given_by start t) e
  by t start (suc (suc (suc zero))) o e = ap (given_by start t) e
  by t start (suc (suc (suc (suc zero)))) o e = ap (given_by start t) e
  by t start (suc (suc (suc (suc (suc zero))))) o e = ap (given_by start t) e
  by t start (suc (suc (suc (suc (suc (suc zero)))))) o e = ap (given_by start t) e
  by t start (suc (suc (suc (suc (suc (suc (suc zero))))))) o e = ap (given_by start t) e
  by t start (suc (suc (suc (suc (suc (suc (suc (suc zero)))))))) o e = ap (given_by start t) e
  by t start (suc (suc (suc (suc (suc (suc (suc (suc (suc k))))))))) o e = absurd (cc)

-- each store to a slot has its mark directly before it
eight_ends : move_all 3 (move 7 (held_in (Slot 1)) (Slot 2) true ∷ move 8 (held_in (Slot 0)) (Slot 1) false ∷ move 7 (held_in (Slot 2)) (Slot 0) false ∷ []) []
    ≡ Do (operation.Operand (held_in (Slot 1))) ∷ Mark mark.Temp ∷ Put (Slot 2)
    ∷ Do (operation.Operand (held_in (Slot 0))) ∷ Mark mark.Argument ∷ Put (Slot 1)
    ∷ Do (operation.Operand (held_in (Slot 2))) ∷ Mark mark.Argument ∷ Put (Slot 0) ∷ []
eight_ends = refl

-- in a call the slots behind the frame are those of the next one
next_frame : move_all 3 (move 7 (held_in (Reg 3)) (Slot 4) false ∷ []) [] ≡ Do (operation.Operand (held_in (Reg 3))) ∷ Mark mark.Argument ∷ Pass 1 ∷ []
next_frame = refl

-- ## What goes wrong

-- One argument, which stands in its target already; and a move that sets aside what a slot holds, which no argument is.
abbrev idle : Application ℕ
idle = record { site = 9; spread = false; operator = held_in 1; operands = held_in 2 ∷ [] }

abbrev idle_moves : List Move
idle_moves = move 1 (held_in (Slot 1)) (Slot 0) true ∷ []

-- They leave in each target what its argument gave before, and write nothing but a slot that is no target and that no argument
-- uses.
idle_arrives : (t : Store) (start : Contents) (k : ℕ) (o : Operand Place) → slice_get (arguments_at place idle) k ≡ Some o → moved t idle_moves start (target true 2 k) ≡ operand_value start t o
idle_arrives t start zero o e = ap (given_by start t) e
idle_arrives t start (suc zero) o e = ap (given_by start t) e
idle_arrives t start (suc (suc k)) o e = absurd (cc)

abbrev idle_plan : Plan
idle_plan = record { place = place; home = λ x. Slot 9; limit = 2; moves = λ tail a. idle_moves }

abbrev entered : Value → Value → Frame
entered self v = record {
  accumulator = Junk;
  places = λ p. cond (same_place p (Reg 15)) Link (cond (same_place p (Reg 14)) (Is self) (cond (same_place p (Reg 3)) (Is v) Junk));
  outgoing = λ k. Junk;
}

-- But the body reads a word that is no value: it is wrong, whatever it calls.
idle_wrong : (callee : Callee) (depth : ℕ) (self v : Value) (s : State Procedure) (marks : List MarkKind)
    → execute_each callee depth (lay idle_plan (tail_call idle) (λ x. false) 0 None []) None (entered self v) (world s marks) ≡ None
idle_wrong callee depth self v s marks = refl

-- A swap with a slot to set aside in that is no target and that no argument uses. A variable lives there that is read behind the call.
abbrev over_moves : List Move
over_moves =
    move 0 (held_in (Reg 14)) (Reg 14) false ∷ move 1 (held_in (Reg 8)) (Slot 0) true ∷ move 2 (held_in (Reg 3)) (Reg 8) false
    ∷ move 1 (held_in (Slot 0)) (Reg 3) false ∷ []

-- what the accumulator has at the end
abbrev then_reads : List Instruction
then_reads = move_all 2 over_moves (Do (operation.Operand (held_in (Slot 0))) ∷ Mark mark.Return ∷ Return ∷ [])

abbrev before_swap : (a b c : Value) → Frame
before_swap a b c = record {
  accumulator = Junk;
  places = λ p. cond (same_place p (Reg 15)) Link (cond (same_place p (Reg 14)) (Is a) (cond (same_place p (Reg 3)) (Is a) (cond (same_place p (Reg 8)) (Is b) (cond (same_place p (Slot 0)) (Is c) Junk))));
  outgoing = λ k. Junk;
}

-- the variable was c, and now it is b
over_wrong : (callee : Callee) (depth : ℕ) (a b c : Value) (s : State Procedure)
    → execute_each callee depth then_reads None (before_swap a b c) (world s []) ≡ Some (gives b (world s (mark.Temp ∷ mark.Return ∷ [])))
over_wrong callee depth a b c s = refl
