-- Calls: the register of the closure has the operator, that of the depth how many calls may still be pending, and that of the
-- link where to return.
use Rattle.std.specs.Prelude.{ℕ, ◌*◌, List, ◌∷◌, pos}
use Rattle.sch_word.specs.declared.stop.Stop.TheVariants.{NotProcedure, WrongCount, DepthLimit}
use Rattle.sch_word.specs.declared.registers.TheConstants.{CLOSURE_REGISTER, DEPTH_REGISTER, FRAME_REGISTER, LINK_REGISTER, RAX, RCX, RDX}
use Rattle.sch_insn.specs.declared.condition.TheConstants.{E, NE}
use Rattle.sch_insn.specs.declared.insn.Arg.TheVariants.{Reg, Base32}
use Rattle.sch_insn.specs.declared.insn.Insn.TheVariants.{MovFrom, MovNumber, AddNumber, SubNumber, CmpNumber, JumpTo}
use Rattle.sch_asm.specs.declared.item.Item.{Item}
use Rattle.sch_asm.specs.declared.item.Item.TheVariants.{Label, Plain, JumpIf, LoadLabel}
use Rattle.sch_select_memory.specs.Encoded.{procedure_tag, tag_mask, word_displacement}
use Rattle.sch_select_memory.specs.Addresses.{stop_label}
use Rattle.sch_select_memory.specs.Checks.{low_bits}

-- the register of the closure has a procedure, or stop 67
abbrev pub check_operator : List Item → List Item
check_operator rest =
    low_bits CLOSURE_REGISTER tag_mask (Plain (CmpNumber (Reg RDX) (pos procedure_tag)) ∷ (JumpIf NE (stop_label NotProcedure) ∷ rest))

-- some depth is left, or stop 72
abbrev pub check_depth : List Item → List Item
check_depth rest = Plain (CmpNumber (Reg DEPTH_REGISTER) (pos 0)) ∷ (JumpIf E (stop_label DepthLimit) ∷ rest)

-- RAX counts the operands, and the procedure's record has the address of its code
abbrev pub enter_code : (count : ℕ) → List Item → List Item
enter_code count rest =
    Plain (MovNumber (Reg RAX) (pos count))
    ∷ (Plain (MovFrom RCX (Base32 CLOSURE_REGISTER (word_displacement procedure_tag 0))) ∷ (Plain (JumpTo (Reg RCX)) ∷ rest))

-- a frame is opened behind the own one, and closed where the procedure returns
abbrev pub open_code : (words n : ℕ) → List Item → List Item
open_code words n rest =
    Plain (SubNumber (Reg DEPTH_REGISTER) (pos 1))
    ∷ (Plain (AddNumber (Reg FRAME_REGISTER) (pos (8 * words))) ∷ (LoadLabel LINK_REGISTER n ∷ rest))

abbrev pub close_code : (words n : ℕ) → List Item → List Item
close_code words n rest =
    Label n ∷ (Plain (SubNumber (Reg FRAME_REGISTER) (pos (8 * words))) ∷ (Plain (AddNumber (Reg DEPTH_REGISTER) (pos 1)) ∷ rest))

abbrev pub call_code : (words n count : ℕ) → List Item → List Item
call_code words n count rest =
    check_operator (check_depth (open_code words n (enter_code count (close_code words n rest))))

abbrev pub tail_code : (count : ℕ) → List Item → List Item
tail_code count rest = check_operator (enter_code count rest)

-- the operands are as many as the formals, or stop 68
abbrev pub check_count : (formals : ℕ) → List Item → List Item
check_count formals rest = Plain (CmpNumber (Reg RAX) (pos formals)) ∷ (JumpIf NE (stop_label WrongCount) ∷ rest)
