-- How an instruction names a register: as the base of an operand in memory (SDM volume 2, section 2.1.5), or itself; and which
-- items name the one that has the address of the frame.
use Rattle.std.specs.Prelude.{ℕ, nat_eq, Bool, true, false, ◌&&◌, ◌||◌, not, Option, Some, None}
use Rattle.sch_word.specs.declared.registers.TheConstants.{FRAME_REGISTER, RCX}
use Rattle.sch_insn.specs.declared.insn.Arg.{Arg}
use Rattle.sch_insn.specs.declared.insn.Arg.TheVariants.{Reg, Base, Base8, Base32}
use Rattle.sch_insn.specs.declared.insn.Insn.{Insn}
use Rattle.sch_insn.specs.declared.insn.Insn.TheVariants as insn
use Rattle.sch_asm.specs.declared.item.Item.{Item}
use Rattle.sch_asm.specs.declared.item.Item.TheVariants as item
use Rattle.sch_asm.specs.Narrow.{operand_of}

-- ## Operands

abbrev pub has_base : (base : ℕ) → Arg → Bool
has_base base (Base b) = nat_eq b base
has_base base (Base8 b d) = nat_eq b base
has_base base (Base32 b d) = nat_eq b base
has_base base _ = false

-- the register beside the operand that may be in memory (SDM volume 2, the page of each mnemonic)
abbrev pub register_of : Insn → Option ℕ
register_of (insn.MovTo m r) = Some r
register_of (insn.MovFrom r m) = Some r
register_of (insn.StoreByte m r) = Some r
register_of (insn.LoadByte r m) = Some r
register_of (insn.Lea r m) = Some r
register_of (insn.AddTo m r) = Some r
register_of (insn.OrTo m r) = Some r
register_of (insn.AndTo m r) = Some r
register_of (insn.SubTo m r) = Some r
register_of (insn.XorTo m r) = Some r
register_of (insn.CmpTo m r) = Some r
register_of (insn.AddFrom r m) = Some r
register_of (insn.OrFrom r m) = Some r
register_of (insn.AndFrom r m) = Some r
register_of (insn.SubFrom r m) = Some r
register_of (insn.XorFrom r m) = Some r
register_of (insn.CmpFrom r m) = Some r
register_of (insn.TestTo m r) = Some r
register_of (insn.Imul r m) = Some r
register_of _ = None

abbrev pub is_beside : (register : ℕ) → Option ℕ → Bool
is_beside register (Some r) = nat_eq r register
is_beside register None = false

abbrev pub is_itself : (register : ℕ) → Arg → Bool
is_itself register (Reg r) = nat_eq r register
is_itself register _ = false

-- The instruction names the register nowhere: not beside the operand, nor as the operand, nor as its base.
abbrev pub is_without : (register : ℕ) → Insn → Bool
is_without register (insn.MovWord r n) = not (nat_eq r register)
is_without register i =
    not (is_beside register (register_of i)) && (not (is_itself register (operand_of i)) && not (has_base register (operand_of i)))

-- ## The register of the frame

abbrev pub is_frame_register : Option ℕ → Bool
is_frame_register r = is_beside FRAME_REGISTER r

abbrev pub is_frame_itself : Arg → Bool
is_frame_itself m = is_itself FRAME_REGISTER m

-- the address of the frame goes into RCX, or is added to what RCX has
abbrev pub hands_frame : Insn → Bool
hands_frame (insn.MovTo (Reg d) r) = nat_eq r FRAME_REGISTER && nat_eq d RCX
hands_frame (insn.AddTo (Reg d) r) = nat_eq r FRAME_REGISTER && nat_eq d RCX
hands_frame _ = false

-- The frame's register is nowhere in the item, or the address that it has goes into RCX. What is done with RCX then is not looked
-- at.
abbrev pub leaves_frame : Item → Bool
leaves_frame (item.Plain i) = is_without FRAME_REGISTER i || hands_frame i
leaves_frame (item.LoadLabel r l) = not (nat_eq r FRAME_REGISTER)
leaves_frame (item.LoadWord r a) = not (nat_eq r FRAME_REGISTER)
leaves_frame (item.StoreWord a r) = not (nat_eq r FRAME_REGISTER)
leaves_frame _ = true
