-- The narrow forms of instructions. A displacement or a number from -128 to 127 has a form of one byte, which does what the
-- same in four bytes does; a displacement of zero has one too, since the form without any is not used. Jumps to labels have
-- theirs from where they stand, and `mov` has none for its number.
-- Source: Intel SDM, volume 2, section 2.1.5 (displacements), and the pages of add, or, and, sub, xor and cmp.
use Rattle.std.specs.Prelude.{List, map, Bool, true, false, cond, not, ◌&&◌, ℤ, pos, negsuc, int_le}
use Rattle.sch_insn.specs.declared.insn.Arg.{Arg}
use Rattle.sch_insn.specs.declared.insn.Arg.TheVariants.{Reg, Base8, Base32}
use Rattle.sch_insn.specs.declared.insn.Insn.{Insn}
use Rattle.sch_insn.specs.declared.insn.Insn.TheVariants.{MovTo, MovFrom, MovNumber, StoreByte, LoadByte, Lea, AddTo, OrTo, AndTo, SubTo, XorTo, CmpTo}
use Rattle.sch_insn.specs.declared.insn.Insn.TheVariants.{AddFrom, OrFrom, AndFrom, SubFrom, XorFrom, CmpFrom, AddNumber, OrNumber, AndNumber, SubNumber}
use Rattle.sch_insn.specs.declared.insn.Insn.TheVariants.{XorNumber, CmpNumber, AddNumber8, OrNumber8, AndNumber8, SubNumber8, XorNumber8, CmpNumber8}
use Rattle.sch_insn.specs.declared.insn.Insn.TheVariants.{TestTo, Imul, Neg, Idiv, Shl, Shr, Sar, JumpTo}
use Rattle.sch_asm.specs.declared.item.Item.{Item}
use Rattle.sch_asm.specs.declared.item.Item.TheVariants.{Plain}

-- whether a number with a sign fits one byte
abbrev pub is_byte : ℤ → Bool
is_byte n = int_le (negsuc 127) n && int_le n (pos 127)

-- ---- operands

-- An operand's displacement stands in four bytes and fits one.
abbrev pub is_long_arg : Arg → Bool
is_long_arg (Base32 b d) = is_byte d
is_long_arg _ = false

abbrev pub short_arg : Arg → Arg
short_arg (Base32 b d) = Base8 b d
short_arg m = m

abbrev pub narrow_arg : Arg → Arg
narrow_arg m = cond (is_long_arg m) (short_arg m) m

-- The operand of an instruction, or a register where it has none,
abbrev pub operand_of : Insn → Arg
operand_of (MovTo m r) = m
operand_of (MovFrom r m) = m
operand_of (MovNumber m n) = m
operand_of (StoreByte m r) = m
operand_of (LoadByte r m) = m
operand_of (Lea r m) = m
operand_of (AddTo m r) = m
operand_of (OrTo m r) = m
operand_of (AndTo m r) = m
operand_of (SubTo m r) = m
operand_of (XorTo m r) = m
operand_of (CmpTo m r) = m
operand_of (AddFrom r m) = m
operand_of (OrFrom r m) = m
operand_of (AndFrom r m) = m
operand_of (SubFrom r m) = m
operand_of (XorFrom r m) = m
operand_of (CmpFrom r m) = m
operand_of (AddNumber m n) = m
operand_of (OrNumber m n) = m
operand_of (AndNumber m n) = m
operand_of (SubNumber m n) = m
operand_of (XorNumber m n) = m
operand_of (CmpNumber m n) = m
operand_of (AddNumber8 m n) = m
operand_of (OrNumber8 m n) = m
operand_of (AndNumber8 m n) = m
operand_of (SubNumber8 m n) = m
operand_of (XorNumber8 m n) = m
operand_of (CmpNumber8 m n) = m
operand_of (TestTo m r) = m
operand_of (Imul r m) = m
operand_of (Neg m) = m
operand_of (Idiv m) = m
operand_of (Shl m k) = m
operand_of (Shr m k) = m
operand_of (Sar m k) = m
operand_of (JumpTo m) = m
operand_of _ = Reg 0

-- and the instruction with another one.
abbrev pub with_operand : Arg → Insn → Insn
with_operand other (MovTo m r) = MovTo other r
with_operand other (MovFrom r m) = MovFrom r other
with_operand other (MovNumber m n) = MovNumber other n
with_operand other (StoreByte m r) = StoreByte other r
with_operand other (LoadByte r m) = LoadByte r other
with_operand other (Lea r m) = Lea r other
with_operand other (AddTo m r) = AddTo other r
with_operand other (OrTo m r) = OrTo other r
with_operand other (AndTo m r) = AndTo other r
with_operand other (SubTo m r) = SubTo other r
with_operand other (XorTo m r) = XorTo other r
with_operand other (CmpTo m r) = CmpTo other r
with_operand other (AddFrom r m) = AddFrom r other
with_operand other (OrFrom r m) = OrFrom r other
with_operand other (AndFrom r m) = AndFrom r other
with_operand other (SubFrom r m) = SubFrom r other
with_operand other (XorFrom r m) = XorFrom r other
with_operand other (CmpFrom r m) = CmpFrom r other
with_operand other (AddNumber m n) = AddNumber other n
with_operand other (OrNumber m n) = OrNumber other n
with_operand other (AndNumber m n) = AndNumber other n
with_operand other (SubNumber m n) = SubNumber other n
with_operand other (XorNumber m n) = XorNumber other n
with_operand other (CmpNumber m n) = CmpNumber other n
with_operand other (AddNumber8 m n) = AddNumber8 other n
with_operand other (OrNumber8 m n) = OrNumber8 other n
with_operand other (AndNumber8 m n) = AndNumber8 other n
with_operand other (SubNumber8 m n) = SubNumber8 other n
with_operand other (XorNumber8 m n) = XorNumber8 other n
with_operand other (CmpNumber8 m n) = CmpNumber8 other n
with_operand other (TestTo m r) = TestTo other r
with_operand other (Imul r m) = Imul r other
with_operand other (Neg m) = Neg other
with_operand other (Idiv m) = Idiv other
with_operand other (Shl m k) = Shl other k
with_operand other (Shr m k) = Shr other k
with_operand other (Sar m k) = Sar other k
with_operand other (JumpTo m) = JumpTo other
with_operand other i = i

-- ---- numbers

-- Its number stands in four bytes and fits one, and there is a form with one.
abbrev pub is_long_number : Insn → Bool
is_long_number (AddNumber m n) = is_byte n
is_long_number (OrNumber m n) = is_byte n
is_long_number (AndNumber m n) = is_byte n
is_long_number (SubNumber m n) = is_byte n
is_long_number (XorNumber m n) = is_byte n
is_long_number (CmpNumber m n) = is_byte n
is_long_number _ = false

abbrev pub short_number : Insn → Insn
short_number (AddNumber m n) = AddNumber8 m n
short_number (OrNumber m n) = OrNumber8 m n
short_number (AndNumber m n) = AndNumber8 m n
short_number (SubNumber m n) = SubNumber8 m n
short_number (XorNumber m n) = XorNumber8 m n
short_number (CmpNumber m n) = CmpNumber8 m n
short_number i = i

abbrev pub narrow_number : Insn → Insn
narrow_number i = cond (is_long_number i) (short_number i) i

-- ---- instructions and items

-- No number and no displacement of an instruction stands in four bytes that fits one.
abbrev pub is_narrow : Insn → Bool
is_narrow i = not (is_long_arg (operand_of i)) && not (is_long_number i)

abbrev pub narrow_operand : Insn → Insn
narrow_operand i = with_operand (narrow_arg (operand_of i)) i

-- the narrow form: the shortest of those with one byte or four for the displacement and for the number
abbrev pub narrow : Insn → Insn
narrow i = narrow_operand (narrow_number i)

abbrev pub is_narrow_item : Item → Bool
is_narrow_item (Plain i) = is_narrow i
is_narrow_item _ = true

abbrev pub narrow_item : Item → Item
narrow_item (Plain i) = Plain (narrow i)
narrow_item i = i

abbrev pub narrowed : List Item → List Item
narrowed is = map narrow_item is
