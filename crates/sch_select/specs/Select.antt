-- The items of each instruction of a body. What follows is an argument, so nothing is appended. RAX is the
-- accumulator, RCX has a second operand, and RDX and R11 are free. Of code that is not covered nothing is claimed, whatever
-- its items are here.
use Rattle.std.specs.Prelude.{ℕ, ◌+◌, List, [], ◌∷◌, pos}
use Rattle.sch_word.specs.declared.place.Place.{Place}
use Rattle.sch_word.specs.declared.place.Place.TheVariants as place
use Rattle.sch_word.specs.declared.registers.TheConstants.{LINK_REGISTER, RAX}
use Rattle.sch_control.specs.declared.operation.Operand.{Operand}
use Rattle.sch_control.specs.declared.operation.Operand.TheVariants as operand
use Rattle.sch_control.specs.declared.operation.Operation.{Operation}
use Rattle.sch_control.specs.declared.operation.Operation.TheVariants as operation
use Rattle.sch_frames.specs.declared.instruction.Instruction.{Instruction}
use Rattle.sch_frames.specs.declared.instruction.Instruction.TheVariants as instruction
use Rattle.sch_insn.specs.declared.condition.TheConstants.{E}
use Rattle.sch_insn.specs.declared.insn.Arg.TheVariants.{Reg}
use Rattle.sch_insn.specs.declared.insn.Insn.{Insn}
use Rattle.sch_insn.specs.declared.insn.Insn.TheVariants.{MovTo, MovFrom, CmpNumber, JumpTo}
use Rattle.sch_asm.specs.declared.item.Item.{Item}
use Rattle.sch_asm.specs.declared.item.Item.TheVariants.{Label, Plain, Jump, JumpIf, Mark}
use Rattle.sch_select_memory.specs.Encoded.{false_word}
use Rattle.sch_select_memory.specs.Addresses.{place_operand}
use Rattle.sch_select_operations.specs.ClosureCode.{group_code}
use Rattle.sch_select_operations.specs.OperationCode.{operation_code}
use Rattle.sch_select_operations.specs.CallCode.{call_code, tail_code}

-- ## How many labels of its own an instruction needs at most

-- an operand that is an atom needs none
abbrev pub operand_needs : Operand Place → ℕ
operand_needs (operand.Atom a) = 0
operand_needs (operand.Read site which atoms) = 4

-- a primitive has four for each of two operands, and four behind them
abbrev pub operation_needs : Operation Place → ℕ
operation_needs (operation.Operand o) = operand_needs o
operation_needs (operation.Prim site which operands) = 12
operation_needs (operation.SetGlobal g o) = operand_needs o
operation_needs (operation.CellSet x o) = operand_needs o
operation_needs _ = 0

-- a call has the one at which the procedure returns
abbrev pub labels_needed : Instruction → ℕ
labels_needed (instruction.Do o) = operation_needs o
labels_needed (instruction.Call spread count) = 1
labels_needed _ = 0

-- those of a body's instructions together
abbrev pub all_labels_needed : List Instruction → ℕ
all_labels_needed [] = 0
all_labels_needed (i ∷ instructions) = labels_needed i + all_labels_needed instructions

-- ## The items

-- One `mov` from a place to another. One of the two is a register: of two slots, which no body copies, RAX would have
-- the one.
abbrev pub copy_insn : (to from : Place) → Insn
copy_insn to (place.Reg r) = MovTo (place_operand to) r
copy_insn (place.Reg r) from = MovFrom r (place_operand from)
copy_insn (place.Slot j) from = MovFrom RAX (place_operand from)

-- The labels of a body are numbered from `base` on, and `out` stands behind it. A frame has this number of words, the
-- heap ends there, and the program has this number of literals.
module _ (base out words heap_end literals : ℕ) where
  abbrev pub instruction_code : (n : ℕ) → Instruction → List Item → List Item
  instruction_code n (instruction.Do o) rest = operation_code heap_end literals n o rest
  instruction_code n (instruction.Store p) rest = Plain (MovTo (place_operand p) RAX) ∷ rest
  instruction_code n (instruction.Copy to from) rest = Plain (copy_insn to from) ∷ rest
  instruction_code n (instruction.Pass k) rest = Plain (MovTo (place_operand (place.Slot (words + k))) RAX) ∷ rest
  instruction_code n (instruction.Fix members spills) rest = group_code heap_end members spills rest
  instruction_code n (instruction.Call spread count) rest = call_code words n count rest
  instruction_code n (instruction.Tail spread count) rest = tail_code count rest
  instruction_code n instruction.Return rest = Plain (JumpTo (Reg LINK_REGISTER)) ∷ rest
  instruction_code n instruction.End rest = Jump out ∷ rest
  instruction_code n (instruction.IfFalse l) rest = Plain (CmpNumber (Reg RAX) (pos false_word)) ∷
      (JumpIf E (base + l) ∷ rest)
  instruction_code n (instruction.Jump l) rest = Jump (base + l) ∷ rest
  instruction_code n (instruction.Label l) rest = Label (base + l) ∷ rest
  instruction_code n (instruction.Mark m) rest = Mark m ∷ rest

  -- each instruction has the labels that it needs, from n on
  abbrev pub body_code : (n : ℕ) → List Instruction → List Item → List Item
  body_code n [] rest = rest
  body_code n (i ∷ instructions) rest = instruction_code n i (body_code (n + labels_needed i) instructions rest)
