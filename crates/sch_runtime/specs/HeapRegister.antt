-- How items use the register of the heap, which has the address at which the next part begins: it goes on by numbers of bytes that are
-- multiples of 16, or in bodies by what RDX has, and it is set to nothing, but that the first items of a program set it to where the heap begins
-- (FrameWords of sch_select). That this is what was charged, and what RDX has where it is added, is not seen here.
use Rattle.std.specs.Prelude.{◌%◌, nat_eq, Bool, true, false, ◌&&◌, ◌||◌, not, ℤ, pos, negsuc}
use Rattle.sch_word.specs.declared.registers.TheConstants.{HEAP_REGISTER, RDX}
use Rattle.sch_insn.specs.declared.insn.Arg.TheVariants.{Reg}
use Rattle.sch_insn.specs.declared.insn.Insn.{Insn}
use Rattle.sch_insn.specs.declared.insn.Insn.TheVariants as insn
use Rattle.sch_asm.specs.declared.item.Item.{Item}
use Rattle.sch_asm.specs.declared.item.Item.TheVariants as item
use Rattle.sch_asm.specs.Narrow.{operand_of}
use Rattle.sch_runtime.specs.FrameRegister.{is_beside, is_itself, register_of}

-- what parts of the heap take is a multiple of 16 bytes
abbrev pub is_charge : ℤ → Bool
is_charge (pos n) = nat_eq (n % 16) 0
is_charge (negsuc n) = false

-- the next part begins behind one of this number of bytes, or behind a vector or a string, whose bytes are in RDX
abbrev pub passes_part : Insn → Bool
passes_part (insn.AddTo m r) = nat_eq r RDX
passes_part (insn.AddNumber m n) = is_charge n
passes_part (insn.AddNumber8 m n) = is_charge n
passes_part _ = false

-- another register gets the address at which a part begins, or it is added to what that has
abbrev pub copies_address : Insn → Bool
copies_address (insn.MovTo (Reg d) r) = true
copies_address (insn.AddTo (Reg d) r) = true
copies_address _ = false

-- The heap's register is the base of an operand in memory, or another register gets what it has, or it goes on behind a part, or it is not
-- there.
abbrev pub keeps_part : Insn → Bool
keeps_part (insn.MovWord r n) = not (nat_eq r HEAP_REGISTER)
keeps_part i =
    (not (is_beside HEAP_REGISTER (register_of i)) || copies_address i) && (not (is_itself HEAP_REGISTER (operand_of i)) || passes_part i)

-- The same of items: nor does it get a word of the data that is named by its number, or the address of a label, nor is it stored in such a
-- word.
abbrev pub leaves_heap : Item → Bool
leaves_heap (item.Plain i) = keeps_part i
leaves_heap (item.LoadLabel r l) = not (nat_eq r HEAP_REGISTER)
leaves_heap (item.LoadWord r a) = not (nat_eq r HEAP_REGISTER)
leaves_heap (item.StoreWord a r) = not (nat_eq r HEAP_REGISTER)
leaves_heap _ = true

-- it goes on by what a register has
abbrev pub adds_word : Insn → Bool
adds_word (insn.AddTo m r) = is_itself HEAP_REGISTER m
adds_word _ = false

-- the items of routines, in which it goes on by numbers alone
abbrev pub passes_by_numbers : Item → Bool
passes_by_numbers (item.Plain i) = keeps_part i && not (adds_word i)
passes_by_numbers i = leaves_heap i
