-- The items of a procedure with a rest variable (R5RS 4.1.4) before its body, and the routine that makes the list of the
-- operands that are left over. A pair begins where the heap's register has it, and the pairs stand one behind the other.
use Rattle.std.specs.Prelude.{ℕ, suc, ◌+◌, ◌-◌, ◌*◌, Bool, true, false, nat_lt, List, [], ◌∷◌, drop, length, pos}
use Rattle.sch_word.specs.runs.Charges.{pair_bytes}
use Rattle.sch_word.specs.runs.ProgramLayout.{data_address}
use Rattle.sch_word.specs.values.Registers.{argument_registers}
use Rattle.sch_word.specs.declared.stop.Stop.TheVariants.{WrongCount, HeapLimit}
use Rattle.sch_word.specs.declared.registers.TheConstants.{FRAME_REGISTER, HEAP_REGISTER, RAX, RCX, RDX, R11}
use Rattle.sch_insn.specs.declared.condition.TheConstants.{B, E, NE, A}
use Rattle.sch_insn.specs.declared.insn.Arg.{Arg}
use Rattle.sch_insn.specs.declared.insn.Arg.TheVariants.{Reg, Base32}
use Rattle.sch_insn.specs.declared.insn.Insn.TheVariants.{MovTo, MovFrom, MovNumber, AddTo, AddNumber, SubNumber}
use Rattle.sch_insn.specs.declared.insn.Insn.TheVariants.{CmpNumber, Shl, JumpTo}
use Rattle.sch_asm.specs.declared.item.Item.{Item}
use Rattle.sch_asm.specs.declared.item.Item.TheVariants.{Label, Plain, Jump, JumpIf, LoadLabel}
use Rattle.sch_asm.specs.declared.routine.LeftOver.TheVariants.{FromFirst}
use Rattle.sch_asm.specs.declared.routine.Routine.TheVariants.{NewList}
use Rattle.sch_asm.specs.Routines.{label_of}
use Rattle.sch_select_memory.specs.Encoded.{nil_word, pair_tag, unit_shift}
use Rattle.sch_select_memory.specs.Addresses.{heap_offset, stop_label, part_operand}

-- ## Labels of the routine

-- a list whose first operand is in the register for the operand with m before it, or where there is none in a slot
abbrev pub list_label : (m : ℕ) → ℕ
list_label m = label_of (NewList FromFirst) + m

-- where the heap has room for it
abbrev pub rest_label : (m : ℕ) → ℕ
rest_label m = 81 + m

-- where there is such an operand
abbrev pub some_label : (m : ℕ) → ℕ
some_label m = 88 + m

-- where the pair before that of such an operand is made
abbrev pub more_label : (m : ℕ) → ℕ
more_label m = 95 + m

-- how many operands are in registers: the first with as many before it is in a slot
abbrev pub first_in_slot : ℕ
first_in_slot = length argument_registers

abbrev pub loop_label : ℕ
loop_label = 102

abbrev pub done_label : ℕ
done_label = 103

-- ## The routine: RAX counts the operands that are left, and R11 has where to return. Where they are in slots alone, RCX has the
-- number of bytes before the first of these in the frame.

abbrev pub slot_operand : Arg
slot_operand = Base32 RCX (pos 0)

-- RCX has the address of the slot
abbrev pub slot_address : List Item → List Item
slot_address rest = Plain (AddTo (Reg RCX) FRAME_REGISTER) ∷ rest

-- the heap has a pair for each of them, or stop 71
abbrev pub check_pairs : (heap_end : ℕ) → List Item → List Item
check_pairs heap_end rest =
    Plain (MovTo (Reg RDX) RAX) ∷ (Plain (Shl (Reg RDX) unit_shift) ∷ (Plain (AddTo (Reg RDX) HEAP_REGISTER) ∷
    (Plain (SubNumber (Reg RDX) (pos data_address))
    ∷ (Plain (CmpNumber (Reg RDX) (pos (heap_offset heap_end))) ∷ (JumpIf A (stop_label HeapLimit) ∷ rest)))))

-- the pair is the last one where its operand is
abbrev pub one_less : List Item → List Item
one_less rest = Plain (SubNumber (Reg RAX) (pos 1)) ∷ (JumpIf E done_label ∷ rest)

-- the rest of a pair is the next one, where the heap's register goes on
abbrev pub next_pair : List Item → List Item
next_pair rest =
    Plain (MovTo (Reg RDX) HEAP_REGISTER) ∷ (Plain (AddNumber (Reg RDX) (pos (pair_bytes + pair_tag))) ∷ (Plain (MovTo (part_operand 8) RDX) ∷
    (Plain (AddNumber (Reg HEAP_REGISTER) (pos pair_bytes)) ∷ rest)))

-- the rest of the last pair is the empty list
abbrev pub done_code : List Item → List Item
done_code rest =
    Label done_label ∷ (Plain (MovNumber (part_operand 8) (pos nil_word)) ∷ (Plain (AddNumber (Reg HEAP_REGISTER) (pos pair_bytes)) ∷
    (Plain (JumpTo (Reg R11)) ∷ rest)))

-- the operand in a slot, and then the next one
abbrev pub slot_pair : List Item → List Item
slot_pair rest =
    Plain (MovFrom RDX slot_operand) ∷ (Plain (MovTo (part_operand 0) RDX) ∷ (Plain (AddNumber (Reg RCX) (pos 8)) ∷
    (Jump loop_label ∷ rest)))

abbrev pub loop_code : List Item → List Item
loop_code rest = Label loop_label ∷ one_less (next_pair (slot_pair (done_code rest)))

abbrev pub slots_code : List Item → List Item
slots_code rest = Label (more_label first_in_slot) ∷ (Plain (MovTo (Reg RCX) FRAME_REGISTER) ∷ loop_code rest)

-- an operand in a register, and then those in others
abbrev pub more_code : (m r : ℕ) → List Item → List Item
more_code m r rest = Label (more_label m) ∷ one_less (next_pair (Plain (MovTo (part_operand 0) r) ∷ rest))

abbrev pub registers_code : (m : ℕ) → List ℕ → List Item → List Item
registers_code m [] rest = rest
registers_code m (r ∷ rs) rest = more_code m r (registers_code (suc m) rs rest)

-- where no operand is left, the list is empty
abbrev pub none_code : (m : ℕ) → Arg → List Item → List Item
none_code m to rest =
    Label (rest_label m) ∷ (Plain (CmpNumber (Reg RAX) (pos 0)) ∷ (JumpIf NE (some_label m) ∷
    (Plain (MovNumber to (pos nil_word)) ∷ (Plain (JumpTo (Reg R11)) ∷ (Label (some_label m) ∷ rest)))))

-- the first operand is in a register, which then has the list
abbrev pub first_code : (m r : ℕ) → List Item → List Item
first_code m r rest =
    none_code m (Reg r) (Plain (MovTo (part_operand 0) r) ∷ (Plain (MovTo (Reg r) HEAP_REGISTER) ∷
    (Plain (AddNumber (Reg r) (pos pair_tag)) ∷ (Jump (more_label (suc m)) ∷ rest))))

abbrev pub firsts_code : (heap_end m : ℕ) → List ℕ → List Item → List Item
firsts_code heap_end m [] rest = rest
firsts_code heap_end m (r ∷ rs) rest =
    Label (list_label m) ∷ check_pairs heap_end (first_code m r (firsts_code heap_end (suc m) rs rest))

-- the first operand is in a slot, which then has the list
abbrev pub first_slot_code : List Item → List Item
first_slot_code rest =
    none_code first_in_slot slot_operand (Plain (MovFrom RDX slot_operand) ∷ (Plain (MovTo (part_operand 0) RDX) ∷
    (Plain (MovTo (Reg RDX) HEAP_REGISTER) ∷ (Plain (AddNumber (Reg RDX) (pos pair_tag)) ∷ (Plain (MovTo slot_operand RDX) ∷
    (Plain (AddNumber (Reg RCX) (pos 8)) ∷ (Jump loop_label ∷ rest)))))))

-- those of all operands in registers but the first
abbrev pub later_registers : List ℕ
later_registers = drop 1 argument_registers

abbrev pub rest_routine : (heap_end : ℕ) → List Item → List Item
rest_routine heap_end rest =
    firsts_code heap_end 0 argument_registers (Label (list_label first_in_slot) ∷ slot_address (check_pairs heap_end
    (first_slot_code (registers_code 1 later_registers (slots_code rest)))))

-- ## Before a body: RAX has the number of operands, of which `required` are not left over

-- enough operands, or stop 68; then the number of those that are left over
abbrev pub check_enough : (required : ℕ) → List Item → List Item
check_enough required rest =
    Plain (CmpNumber (Reg RAX) (pos required)) ∷ (JumpIf B (stop_label WrongCount) ∷
    (Plain (SubNumber (Reg RAX) (pos required)) ∷ rest))

-- RCX has the number of bytes before the slot for the operand with `required` before it
abbrev pub slot_code : (required : ℕ) → List Item → List Item
slot_code required rest = Plain (MovNumber (Reg RCX) (pos (8 * (required - first_in_slot)))) ∷ rest

abbrev pub list_code : Bool → (required n : ℕ) → List Item → List Item
list_code true required n rest = LoadLabel R11 n ∷ (Jump (list_label required) ∷ (Label n ∷ rest))
list_code false required n rest = slot_code required (LoadLabel R11 n ∷ (Jump (list_label first_in_slot) ∷ (Label n ∷ rest)))

-- the label n is the body's own
abbrev pub rest_entry : (required n : ℕ) → List Item → List Item
rest_entry required n rest = check_enough required (list_code (nat_lt required first_in_slot) required n rest)
