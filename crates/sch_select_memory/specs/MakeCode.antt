-- A new vector and a new string (R5RS 6.3.5, 6.3.6): RAX has the word of its length, RCX its elements, and R11 where to return.
use Rattle.std.specs.Prelude.{ℕ, List, ◌∷◌, pos}
use Rattle.sch_word.specs.declared.stop.Stop.TheVariants.{WrongType, OutOfRange, HeapLimit}
use Rattle.sch_word.specs.runs.ProgramLayout.{data_address}
use Rattle.sch_word.specs.declared.registers.TheConstants.{HEAP_REGISTER, RAX, RCX, RDX}
use Rattle.sch_insn.specs.declared.condition.TheConstants.{A, L, NE}
use Rattle.sch_insn.specs.declared.insn.Arg.TheVariants.{Reg}
use Rattle.sch_insn.specs.declared.insn.Insn.TheVariants.{MovTo, AddTo, AddNumber, SubNumber, CmpNumber, Shr}
use Rattle.sch_asm.specs.declared.item.Item.{Item}
use Rattle.sch_asm.specs.declared.item.Item.TheVariants as item
use Rattle.sch_asm.specs.declared.routine.Routine.TheVariants as routine
use Rattle.sch_asm.specs.Routines.{label_of}
use Rattle.sch_select_memory.specs.Encoded.{byte_mask, character_shift, character_tag, fixnum_shift}
use Rattle.sch_select_memory.specs.Addresses.{heap_offset, stop_label, part_operand}
use Rattle.sch_select_memory.specs.Checks.{low_bits, check_fixnum, round_code}

-- RAX has a number that is not negative, or stop 66
abbrev pub check_length : List Item → List Item
check_length rest = item.Plain (CmpNumber (Reg RAX) (pos 0)) ∷ (item.JumpIf L (stop_label OutOfRange) ∷ rest)

-- The heap has as many bytes left as RDX says, or stop 71. As a number without a sign, RDX is below 2^64 still.
abbrev pub check_room : (heap_end : ℕ) → List Item → List Item
check_room heap_end rest =
    item.Plain (AddTo (Reg RDX) HEAP_REGISTER)
    ∷ (item.Plain (SubNumber (Reg RDX) (pos data_address))
    ∷ (item.Plain (CmpNumber (Reg RDX) (pos (heap_offset heap_end))) ∷ (item.JumpIf A (stop_label HeapLimit) ∷ rest)))

-- as many elements as RAX says, behind the word of the length
abbrev pub fill_code : (label : ℕ) → List Item → List Item
fill_code label rest =
    item.Plain (MovTo (Reg RDX) RAX)
    ∷ (item.Plain (Shr (Reg RDX) fixnum_shift)
    ∷ (item.Plain (MovTo (Reg RAX) HEAP_REGISTER) ∷ (item.Plain (AddNumber (Reg RAX) (pos 8)) ∷ (item.Jump label ∷ rest))))

abbrev pub make_vector_code : (heap_end : ℕ) → List Item → List Item
make_vector_code heap_end rest =
    check_fixnum RAX (check_length (item.Plain (MovTo (Reg RDX) RAX) ∷ round_code (check_room heap_end
    (item.Plain (MovTo (part_operand 0) RAX) ∷ fill_code (label_of routine.FillWords) rest))))

-- RAX has a number that is not negative and RCX a character, or stop 65 or 66
abbrev pub check_filling : List Item → List Item
check_filling rest =
    check_fixnum RAX (low_bits RCX byte_mask (item.Plain (CmpNumber (Reg RDX) (pos character_tag))
    ∷ (item.JumpIf NE (stop_label WrongType) ∷ check_length rest)))

abbrev pub make_string_code : (heap_end : ℕ) → List Item → List Item
make_string_code heap_end rest =
    check_filling (item.Plain (MovTo (Reg RDX) RAX) ∷ (item.Plain (Shr (Reg RDX) fixnum_shift)
    ∷ round_code (check_room heap_end (item.Plain (MovTo (part_operand 0) RAX)
    ∷ (item.Plain (Shr (Reg RCX) character_shift) ∷ fill_code (label_of routine.FillBytes) rest)))))
