-- The form of routines, what they read of RCX, and how the heap's register goes on: the items of this crate keep to it, and each rule is
-- broken by a few items.
use Rattle.std.proofs.Common.{◌≡◌, ◌+◌, List, [], ◌∷◌, ◌++◌, map, replicate, true, false, refl}
use Rattle.std.specs.Prelude.{pos, negsuc}
use Rattle.std.specs.List.{list_all}
use Rattle.sch_word.specs.runs.ProgramLayout.{data_address}
use Rattle.sch_insn.specs.declared.condition.TheConstants.{E}
use Rattle.sch_insn.specs.declared.insn.Arg.{Arg}
use Rattle.sch_insn.specs.declared.insn.Arg.TheVariants.{Reg, Base, Base8, Base32}
use Rattle.sch_insn.specs.declared.insn.Insn.{Insn}
use Rattle.sch_insn.specs.declared.insn.Insn.TheVariants.{MovTo, MovFrom, MovNumber, MovWord, StoreByte, LoadByte, Lea, AddTo, OrTo, AndTo}
use Rattle.sch_insn.specs.declared.insn.Insn.TheVariants.{SubTo, XorTo, CmpTo, AddFrom, OrFrom, AndFrom, SubFrom, XorFrom, CmpFrom}
use Rattle.sch_insn.specs.declared.insn.Insn.TheVariants.{AddNumber, OrNumber, AndNumber, SubNumber, XorNumber, CmpNumber, AddNumber8}
use Rattle.sch_insn.specs.declared.insn.Insn.TheVariants.{OrNumber8, AndNumber8, SubNumber8, XorNumber8, CmpNumber8, TestTo, Imul, Neg}
use Rattle.sch_insn.specs.declared.insn.Insn.TheVariants.{Idiv, Cqo, Shl, Shr, Sar, JumpTo, Syscall}
use Rattle.sch_word.specs.declared.registers.TheConstants.{FRAME_REGISTER, HEAP_REGISTER, RAX, RCX, RDX, RBX, RBP, RSI, RDI, R11, R15}
use Rattle.sch_asm.specs.declared.item.Item.{Item}
use Rattle.sch_asm.specs.declared.item.Item.TheVariants.{Label, Plain, Jump, JumpIf, LoadLabel, LoadWord, StoreWord}
use Rattle.sch_runtime.specs.Code.{exit_code, kept_r11, kept_rsi, routine_items}
use Rattle.sch_runtime.specs.Form.{keeps_form, writes_memory}
use Rattle.sch_runtime.specs.FrameRegister.{is_without}
use Rattle.sch_runtime.specs.HeapRegister.{is_charge, keeps_part, passes_by_numbers}
use Rattle.sch_runtime.specs.HandedWord.{comes_with_word, is_handed, reads_register, sets_first, sets_register}

routines_keep : keeps_form routine_items ≡ true
routines_keep = refl

-- a routine with R11 in a word, around what is done there
abbrev around : List Item → List Item → List Item
around inside behind = Label 11 ∷ StoreWord kept_r11 R11 ∷ (inside ++ (LoadWord R11 kept_r11 ∷ Plain (JumpTo (Reg R11)) ∷ behind))

-- One call, one with another word stored and loaded meanwhile, and one in a loop that may exit.
kept :
    (keeps_form (around (Plain Syscall ∷ []) []) ≡ true)
    × (keeps_form (around (StoreWord kept_rsi RSI ∷ Plain Syscall ∷ LoadWord RSI kept_rsi ∷ []) []) ≡ true)
    × (keeps_form (around (Label 64 ∷ Plain Syscall ∷ JumpIf E 10 ∷ JumpIf E 64 ∷ []) (Label 10 ∷ exit_code 74)) ≡ true)
kept = (refl, refl, refl)

-- R11 is written by another instruction: a move, a load from another word, a label's address.
written_else :
    (keeps_form (Label 11 ∷ Plain (MovTo (Reg R11) RAX) ∷ Plain (JumpTo (Reg R11)) ∷ []) ≡ false)
    × (keeps_form (around (Plain Syscall ∷ Plain (AddNumber (Reg R11) (pos 0)) ∷ []) []) ≡ false)
    × (keeps_form (Label 11 ∷ StoreWord kept_r11 R11 ∷ Plain Syscall ∷ LoadWord R11 kept_rsi ∷ Plain (JumpTo (Reg R11)) ∷ []) ≡ false)
    × (keeps_form (Label 11 ∷ LoadWord R11 kept_r11 ∷ Plain (JumpTo (Reg R11)) ∷ []) ≡ false)
    × (keeps_form (Label 11 ∷ LoadLabel R11 11 ∷ Plain (JumpTo (Reg R11)) ∷ []) ≡ false)
    × (keeps_form (around (Plain Syscall ∷ LoadLabel R11 11 ∷ []) []) ≡ false)
written_else = (refl, refl, refl, refl, refl, refl)

-- What R11 has goes to memory by another store, or to another register, from which it could; or R11 is the base of an operand.
taken_else :
    (keeps_form (Label 11 ∷ Plain (MovTo (Base RSI) R11) ∷ Plain (JumpTo (Reg R11)) ∷ []) ≡ false)
    × (keeps_form (Label 11 ∷ Plain (StoreByte (Base RSI) R11) ∷ Plain (JumpTo (Reg R11)) ∷ []) ≡ false)
    × (keeps_form (Label 11 ∷ Plain (AddTo (Base RSI) R11) ∷ Plain (JumpTo (Reg R11)) ∷ []) ≡ false)
    × (keeps_form (Label 11 ∷ Plain (MovTo (Reg RDX) R11) ∷ StoreWord kept_r11 RDX ∷ Plain (JumpTo (Reg R11)) ∷ []) ≡ false)
    × (keeps_form (Label 11 ∷ Plain (MovFrom RDX (Reg R11)) ∷ StoreWord kept_r11 RDX ∷ Plain (JumpTo (Reg R11)) ∷ []) ≡ false)
    × (keeps_form (Label 11 ∷ Plain (Lea RDX (Base R11)) ∷ StoreWord kept_r11 RDX ∷ Plain (JumpTo (Reg R11)) ∷ []) ≡ false)
    × (keeps_form (Label 11 ∷ Plain (MovTo (Base R11) RDX) ∷ Plain (JumpTo (Reg R11)) ∷ []) ≡ false)
    × (keeps_form (around (Plain (MovTo (Reg RDX) R11) ∷ Plain Syscall ∷ StoreWord kept_rsi RDX ∷ []) []) ≡ false)
taken_else = (refl, refl, refl, refl, refl, refl, refl, refl)

abbrev part : Arg
part = Base RSI

-- R11 is found where it stands beside the operand,
beside : map (is_without R11) (MovTo part R11 ∷ MovFrom R11 part ∷ MovWord R11 (pos 1) ∷ StoreByte part R11 ∷ LoadByte R11 part
    ∷ Lea R11 part ∷ AddTo part R11 ∷ OrTo part R11 ∷ AndTo part R11 ∷ SubTo part R11 ∷ XorTo part R11 ∷ CmpTo part R11
    ∷ AddFrom R11 part ∷ OrFrom R11 part ∷ AndFrom R11 part ∷ SubFrom R11 part ∷ XorFrom R11 part ∷ CmpFrom R11 part
    ∷ TestTo part R11 ∷ Imul R11 part ∷ [])
    ≡ replicate 20 false
beside = refl

-- and where it is the operand or its base
abbrev operands : Arg → Type 0
operands m = map (is_without R11) (MovTo m RAX ∷ MovFrom RAX m ∷ MovNumber m (pos 1) ∷ AddTo m RAX ∷ OrTo m RAX ∷ AndTo m RAX
    ∷ SubTo m RAX ∷ XorTo m RAX ∷ CmpTo m RAX ∷ AddFrom RAX m ∷ OrFrom RAX m ∷ AndFrom RAX m ∷ SubFrom RAX m
    ∷ XorFrom RAX m ∷ CmpFrom RAX m ∷ AddNumber m (pos 1) ∷ OrNumber m (pos 1) ∷ AndNumber m (pos 1) ∷ SubNumber m (pos 1)
    ∷ XorNumber m (pos 1) ∷ CmpNumber m (pos 1) ∷ AddNumber8 m (pos 1) ∷ OrNumber8 m (pos 1) ∷ AndNumber8 m (pos 1)
    ∷ SubNumber8 m (pos 1) ∷ XorNumber8 m (pos 1) ∷ CmpNumber8 m (pos 1) ∷ TestTo m RAX ∷ Imul RAX m ∷ Neg m
    ∷ Idiv m ∷ Shl m 1 ∷ Shr m 1 ∷ Sar m 1 ∷ JumpTo m ∷ [])
    ≡ replicate 35 false

in_operand : operands (Reg R11) × operands (Base R11) × operands (Base8 R11 (pos 8)) × operands (Base32 R11 (pos 8))
    × (map (is_without R11) (StoreByte (Base R11) RAX ∷ LoadByte RAX (Base R11) ∷ Lea RAX (Base R11) ∷ []) ≡ replicate 3 false)
in_operand = (refl, refl, refl, refl, refl)

-- others name it nowhere, whatever their numbers are
others :
    map (is_without R11) (MovTo part RAX ∷ MovFrom RAX part ∷ MovWord RAX (pos 11) ∷ MovNumber part (pos 11) ∷ Shl (Reg RAX) 11 ∷ Cqo ∷ [])
    ≡ replicate 6 true
others = refl

-- The word that has it is written meanwhile, whole or in part, or may be; or R11 is stored once more.
overwritten :
    (keeps_form (around (Plain Syscall ∷ StoreWord kept_r11 RSI ∷ []) []) ≡ false)
    × (keeps_form (around (Plain Syscall ∷ StoreWord (data_address + 7) RSI ∷ []) []) ≡ false)
    × (keeps_form (Label 11 ∷ StoreWord kept_rsi R11 ∷ Plain Syscall ∷ StoreWord (data_address + 1) RSI ∷ LoadWord R11 kept_rsi
    ∷ Plain (JumpTo (Reg R11)) ∷ []) ≡ false)
    × (keeps_form (around (Plain (StoreByte (Base RSI) RDX) ∷ Plain Syscall ∷ []) []) ≡ false)
    × (keeps_form (around (Plain Syscall ∷ StoreWord kept_rsi R11 ∷ []) []) ≡ false)
    × (keeps_form (around (Plain Syscall ∷ []) (around (Plain Syscall ∷ []) [])) ≡ false)
overwritten = (refl, refl, refl, refl, refl, refl)

-- It returns by another register, or while the address is in the word, or by what memory has.
returned_else :
    (keeps_form (Label 11 ∷ Plain (JumpTo (Reg R15)) ∷ []) ≡ false)
    × (keeps_form (Label 11 ∷ Plain (JumpTo (Base R11)) ∷ []) ≡ false)
    × (keeps_form (Label 11 ∷ StoreWord kept_r11 R11 ∷ Plain Syscall ∷ Plain (JumpTo (Reg R11)) ∷ []) ≡ false)
    × (keeps_form (Label 11 ∷ StoreWord kept_r11 R11 ∷ Plain Syscall ∷ []) ≡ false)
    × (keeps_form (around (Plain Syscall ∷ Plain (JumpTo (Reg R15)) ∷ []) []) ≡ false)
returned_else = (refl, refl, refl, refl, refl)

-- The kernel is called where R11 has the address, or a jump goes out of what is between the store and the load, or into it; or
-- another routine is entered there.
uncovered :
    (keeps_form (Label 11 ∷ Plain Syscall ∷ Plain (JumpTo (Reg R11)) ∷ []) ≡ false)
    × (keeps_form (Label 65 ∷ around (JumpIf E 65 ∷ Plain Syscall ∷ []) []) ≡ false)
    × (keeps_form (Label 65 ∷ JumpIf E 64 ∷ around (Label 64 ∷ Plain Syscall ∷ []) []) ≡ false)
    × (keeps_form (around (Label 12 ∷ Plain Syscall ∷ []) []) ≡ false)
uncovered = (refl, refl, refl, refl)

-- which instructions write memory, where their operand is there,
abbrev writing : Arg → List Insn
writing m = MovTo m RAX ∷ MovNumber m (pos 1) ∷ StoreByte m RAX ∷ AddTo m RAX ∷ OrTo m RAX ∷ AndTo m RAX ∷ SubTo m RAX
    ∷ XorTo m RAX ∷ AddNumber m (pos 1) ∷ OrNumber m (pos 1) ∷ AndNumber m (pos 1) ∷ SubNumber m (pos 1)
    ∷ XorNumber m (pos 1) ∷ AddNumber8 m (pos 1) ∷ OrNumber8 m (pos 1) ∷ AndNumber8 m (pos 1) ∷ SubNumber8 m (pos 1)
    ∷ XorNumber8 m (pos 1) ∷ Neg m ∷ Shl m 1 ∷ Shr m 1 ∷ Sar m 1 ∷ []

-- and which do not, as they read it alone
writers :
    (map writes_memory (writing part) ≡ replicate 22 true)
    × (map writes_memory (writing (Reg RSI)) ≡ replicate 22 false)
    × (map writes_memory (MovFrom RAX part ∷ LoadByte RAX part ∷ Lea RAX part ∷ AddFrom RAX part ∷ CmpTo part RAX ∷ TestTo part RAX
    ∷ CmpNumber8 part (pos 1) ∷ Imul RAX part ∷ Idiv part ∷ []) ≡ replicate 9 false)
writers = (refl, refl, refl)

-- Behind the last item the text goes on: the routine has no jump, or one with a condition.
goes_on :
    (keeps_form (around (Plain Syscall ∷ []) (Label 12 ∷ Jump 11 ∷ [])) ≡ true)
    × (keeps_form (Label 11 ∷ []) ≡ false)
    × (keeps_form (Label 11 ∷ Plain (MovTo (Reg RAX) RDX) ∷ []) ≡ false)
    × (keeps_form (around (Plain Syscall ∷ []) (Label 12 ∷ JumpIf E 11 ∷ [])) ≡ false)
    × (keeps_form (Label 11 ∷ StoreWord kept_r11 R11 ∷ Plain Syscall ∷ LoadWord R11 kept_r11 ∷ []) ≡ false)
goes_on = (refl, refl, refl, refl, refl)

-- An exit has no `mov rax, 60` directly before its call, another number, or more than one way; or it names R11,
-- or writes memory.
exits_else :
    (keeps_form (Label 10 ∷ exit_code 74) ≡ true)
    × (keeps_form (Label 10 ∷ Plain (MovNumber (Reg RAX) (pos 60)) ∷ Plain (MovNumber (Reg RDI) (pos 74)) ∷ Plain Syscall ∷ []) ≡ false)
    × (keeps_form (Label 10 ∷ Plain (MovNumber (Reg RAX) (pos 1)) ∷ Plain Syscall ∷ []) ≡ false)
    × (keeps_form (Label 10 ∷ JumpIf E 11 ∷ (exit_code 74 ++ (Label 11 ∷ Plain (JumpTo (Reg R11)) ∷ []))) ≡ false)
    × (keeps_form (Label 10 ∷ Plain (JumpTo (Reg R11)) ∷ []) ≡ false)
    × (keeps_form (Label 11 ∷ exit_code 74) ≡ false)
    × (keeps_form (Label 10 ∷ Plain (MovNumber (Reg R11) (pos 1)) ∷ exit_code 74) ≡ false)
    × (keeps_form (Label 10 ∷ Plain (MovTo (Reg RDX) R11) ∷ exit_code 74) ≡ false)
    × (keeps_form (Label 10 ∷ Plain (MovTo (Base RSI) RDX) ∷ exit_code 74) ≡ false)
    × (keeps_form (Label 10 ∷ Plain (JumpTo (Reg R15)) ∷ exit_code 74) ≡ false)
    × (keeps_form (Label 10 ∷ Plain (MovNumber (Reg RAX) (pos 1)) ∷ Plain (MovNumber (Reg RDI) (pos 60)) ∷ Plain Syscall ∷ []) ≡ false)
    × (keeps_form (Label 10 ∷ StoreWord kept_rsi RSI ∷ exit_code 74) ≡ false)
    × (keeps_form (Label 10 ∷ JumpIf E 1 ∷ exit_code 74) ≡ false)
exits_else = (refl, refl, refl, refl, refl, refl, refl, refl, refl, refl, refl, refl, refl)

-- ## RCX

-- what sets RCX whatever it had, and what does not
setting : map (sets_register RCX) (MovTo (Reg RCX) RAX ∷ MovFrom RCX part ∷ MovNumber (Reg RCX) (pos 8) ∷ MovWord RCX (pos 8) ∷ LoadByte RCX part ∷ Lea RCX part
    ∷ MovTo (Reg RAX) RCX ∷ MovTo part RCX ∷ AddTo (Reg RCX) RAX ∷ AddNumber (Reg RCX) (pos 8) ∷ CmpNumber (Reg RCX) (pos 8) ∷ MovWord RAX (pos 8) ∷ [])
    ≡ true ∷ true ∷ true ∷ true ∷ true ∷ true ∷ false ∷ false ∷ false ∷ false ∷ false ∷ false ∷ []
setting = refl

-- what uses the word that RCX had,
reading : map (reads_register RCX) (MovTo (Reg RAX) RCX ∷ MovTo part RCX ∷ MovTo (Base RCX) RAX ∷ MovFrom RAX (Reg RCX) ∷ MovFrom RAX (Base8 RCX (pos 8))
    ∷ MovFrom RCX (Base32 RCX (pos 8)) ∷ MovNumber (Base RCX) (pos 8) ∷ LoadByte RAX (Base RCX) ∷ Lea RAX (Base RCX) ∷ AddTo (Reg RAX) RCX ∷ AddNumber (Reg RCX) (pos 8)
    ∷ CmpNumber (Reg RCX) (pos 8) ∷ Shl (Reg RCX) 3 ∷ JumpTo (Reg RCX) ∷ StoreByte part RCX ∷ [])
    ≡ replicate 15 true
reading = refl

-- and what does not
not_reading : map (reads_register RCX) (MovTo (Reg RCX) RAX ∷ MovFrom RCX part ∷ MovNumber (Reg RCX) (pos 8) ∷ MovWord RCX (pos 8) ∷ AddTo (Reg RAX) RBX ∷ [])
    ≡ replicate 5 false
not_reading = refl

-- The fills, what makes a vector or a string, and the list of operands in slots alone are handed a word; no stop, no put and no other list is.
handed :
    (map is_handed (13 ∷ 14 ∷ 16 ∷ 17 ∷ 24 ∷ []) ≡ replicate 5 true)
    × (map is_handed (0 ∷ 1 ∷ 2 ∷ 3 ∷ 4 ∷ 5 ∷ 6 ∷ 7 ∷ 8 ∷ 9 ∷ 10 ∷ 11 ∷ 12 ∷ 15 ∷ 18 ∷ 19 ∷ 20 ∷ 21 ∷ 22 ∷ 23 ∷ 25 ∷ 64 ∷ 70 ∷ 1024 ∷ []) ≡ replicate 24 false)
    × (map comes_with_word (13 ∷ 14 ∷ 16 ∷ 17 ∷ 24 ∷ 68 ∷ 70 ∷ 71 ∷ 72 ∷ 73 ∷ 87 ∷ 94 ∷ 102 ∷ []) ≡ replicate 13 true)
    × (map comes_with_word (0 ∷ 1 ∷ 2 ∷ 3 ∷ 4 ∷ 5 ∷ 6 ∷ 7 ∷ 8 ∷ 9 ∷ 10 ∷ 11 ∷ 12 ∷ 15 ∷ 18 ∷ 19 ∷ 20 ∷ 21 ∷ 22 ∷ 23 ∷ []) ≡ replicate 20 false)
handed = (refl, refl, refl, refl)

-- what it returns by
abbrev back : List Item
back = Plain (JumpTo (Reg R11)) ∷ []

-- A routine sets RCX and then reads it, by an instruction or from a word of the data; one that is handed a word reads it at once.
first_set :
    (sets_first true (Label 11 ∷ Plain (MovNumber (Reg RCX) (pos 10)) ∷ Plain (Idiv (Reg RCX)) ∷ back) ≡ true)
    × (sets_first true (Label 11 ∷ LoadWord RCX kept_rsi ∷ StoreWord kept_rsi RCX ∷ back) ≡ true)
    × (sets_first true (Label 11 ∷ Plain (MovTo (Reg RCX) RBP) ∷ Jump 70 ∷ Label 13 ∷ Label 70 ∷ Plain (MovTo part RCX) ∷ JumpIf E 70 ∷ back) ≡ true)
    × (sets_first true (Label 11 ∷ (back ++ (Label 24 ∷ Plain (AddTo (Reg RCX) RBP) ∷ back))) ≡ true)
    × (sets_first true (Label 11 ∷ Jump 12 ∷ Label 17 ∷ Plain (Shl (Reg RCX) 3) ∷ JumpIf E 12 ∷ Jump 14 ∷ []) ≡ true)
    × (sets_first true routine_items ≡ true)
first_set = (refl, refl, refl, refl, refl, refl)

-- One that is handed none reads it at once, or behind a test, as a base, by a store of a word of the data, or behind a call of the kernel, where it was
-- set before that too; or it was set before a label to which others come; or another register was set, or stored;
not_set :
    map (λ is. sets_first true (Label 11 ∷ (is ++ back)))
    ((Plain (MovTo part RCX) ∷ [])
    ∷ (Plain (AddTo (Reg RCX) RBP) ∷ [])
    ∷ (Plain (MovFrom RAX (Base RCX)) ∷ [])
    ∷ (StoreWord kept_rsi RCX ∷ [])
    ∷ (JumpIf E 12 ∷ Plain (Idiv (Reg RCX)) ∷ [])
    ∷ (Plain Syscall ∷ Plain (MovTo (Reg RAX) RCX) ∷ [])
    ∷ (Plain (MovNumber (Reg RCX) (pos 10)) ∷ Plain Syscall ∷ Plain (Idiv (Reg RCX)) ∷ [])
    ∷ (Plain (MovNumber (Reg RCX) (pos 10)) ∷ Label 12 ∷ Plain (Idiv (Reg RCX)) ∷ [])
    ∷ (LoadWord RAX kept_rsi ∷ Plain (MovTo part RCX) ∷ [])
    ∷ (LoadLabel RAX 12 ∷ Plain (MovTo part RCX) ∷ [])
    ∷ (StoreWord kept_rsi RAX ∷ Plain (MovTo part RCX) ∷ []) ∷ []) ≡ replicate 11 false
not_set = refl

-- or goes to where it is read: by a jump, by one with a condition, by an address that is loaded, or since that stands next.
goes_unset :
    map (λ is. sets_first true (Label 11 ∷ (is ++ (Label 13 ∷ Plain (MovTo part RCX) ∷ back))))
    ((Jump 13 ∷ []) ∷ (Jump 71 ∷ []) ∷ (JumpIf E 24 ∷ back) ∷ (LoadLabel RAX 13 ∷ back) ∷ (Plain (MovNumber (Reg RAX) (pos 8)) ∷ [])
    ∷ (Plain (MovNumber (Reg RCX) (pos 10)) ∷ Plain Syscall ∷ Jump 13 ∷ []) ∷ back ∷ [])
    ≡ false ∷ false ∷ false ∷ false ∷ false ∷ false ∷ true ∷ []
goes_unset = refl

-- ## The heap's register

-- a word of the heap, and one of the frame
abbrev heap : Arg
heap = Base8 HEAP_REGISTER (pos 8)

abbrev slot : Arg
slot = Base32 FRAME_REGISTER (pos 8)

abbrev itself : Arg
itself = Reg HEAP_REGISTER

-- what is charged is a multiple of 16 bytes
charges : map is_charge (pos 0 ∷ pos 16 ∷ pos 48 ∷ pos 8 ∷ pos 17 ∷ negsuc 15 ∷ negsuc 0 ∷ []) ≡ true ∷ true ∷ true ∷ false ∷ false ∷ false ∷ false ∷ []
charges = refl

-- It is a base, another register gets what it has, it goes on behind a part, or it is not there.
passed : map keeps_part (MovTo heap RBX ∷ MovFrom RBX heap ∷ MovNumber heap (pos 8) ∷ MovTo (Reg RDX) HEAP_REGISTER ∷ AddTo (Reg RDX) HEAP_REGISTER ∷ AddNumber itself (pos 32)
    ∷ AddNumber8 itself (pos 16) ∷ AddTo itself RDX ∷ MovWord RAX (pos 16) ∷ MovTo slot RBX ∷ AddTo (Reg RAX) RBX ∷ AddNumber (Reg RAX) (pos 1) ∷ JumpTo (Reg R15) ∷ [])
    ≡ replicate 13 true
passed = refl

-- It gets the word of another register, of memory or of an instruction, or the address of a word;
replaced : map keeps_part (MovTo itself RAX ∷ MovTo itself RDX ∷ MovTo itself HEAP_REGISTER ∷ MovFrom HEAP_REGISTER slot ∷ MovFrom HEAP_REGISTER heap ∷ MovFrom HEAP_REGISTER (Reg RAX)
    ∷ MovNumber itself (pos 0x10000340) ∷ MovWord HEAP_REGISTER (pos 0x10000340) ∷ LoadByte HEAP_REGISTER slot ∷ Lea HEAP_REGISTER slot ∷ Lea HEAP_REGISTER heap ∷ [])
    ≡ replicate 11 false
replaced = refl

-- it goes on by what another register or a word has, or by no multiple of 16, or goes back.
not_passed : map keeps_part (AddTo itself RAX ∷ AddTo itself RCX ∷ AddTo itself HEAP_REGISTER ∷ AddFrom HEAP_REGISTER (Reg RDX) ∷ AddFrom HEAP_REGISTER slot ∷ AddNumber itself (pos 8)
    ∷ AddNumber itself (negsuc 15) ∷ AddNumber8 itself (pos 8) ∷ AddNumber8 itself (negsuc 15) ∷ SubNumber itself (pos 16) ∷ SubNumber8 itself (pos 16) ∷ SubTo itself RDX
    ∷ OrTo itself RDX ∷ AndTo itself RDX ∷ XorTo itself RDX ∷ CmpTo itself RDX ∷ TestTo itself RDX ∷ [])
    ≡ replicate 17 false
not_passed = refl

-- Nor is it the register beside what is in memory, or else beside an operand,
beside_heap : map keeps_part (MovTo heap HEAP_REGISTER ∷ MovTo slot HEAP_REGISTER ∷ StoreByte heap HEAP_REGISTER ∷ AddTo heap HEAP_REGISTER ∷ OrTo heap HEAP_REGISTER
    ∷ AndTo (Reg RDX) HEAP_REGISTER ∷ SubTo (Reg RDX) HEAP_REGISTER ∷ XorTo heap HEAP_REGISTER ∷ CmpTo (Reg RDX) HEAP_REGISTER ∷ OrFrom HEAP_REGISTER heap ∷ AndFrom HEAP_REGISTER heap
    ∷ SubFrom HEAP_REGISTER heap ∷ XorFrom HEAP_REGISTER heap ∷ CmpFrom HEAP_REGISTER heap ∷ TestTo (Reg RDX) HEAP_REGISTER ∷ Imul HEAP_REGISTER heap ∷ [])
    ≡ replicate 16 false
beside_heap = refl

-- nor the only operand, unless it goes on.
alone : map keeps_part (OrNumber itself (pos 16) ∷ AndNumber itself (pos 16) ∷ XorNumber itself (pos 16) ∷ CmpNumber itself (pos 16)
    ∷ OrNumber8 itself (pos 16) ∷ AndNumber8 itself (pos 16) ∷ XorNumber8 itself (pos 16) ∷ CmpNumber8 itself (pos 16)
    ∷ Neg itself ∷ Shl itself 3 ∷ Shr itself 3 ∷ Sar itself 3 ∷ Idiv itself ∷ JumpTo itself ∷ [])
    ≡ replicate 14 false
alone = refl

-- Routines go on behind parts of a number of bytes. None adds what a register has, or sets it to a number, to a word of the data or to the
-- address of a label, or stores it in such a word.
left :
    (list_all passes_by_numbers (Plain (AddNumber itself (pos 16)) ∷ Plain (MovTo (Reg RDX) HEAP_REGISTER) ∷ Plain (MovTo heap RBX) ∷ LoadWord RAX kept_rsi ∷ StoreWord kept_rsi RAX
    ∷ LoadLabel RAX 11 ∷ Label 12 ∷ Jump 12 ∷ Plain (MovWord RAX (pos 8)) ∷ []) ≡ true)
    × (map passes_by_numbers (Plain (MovWord HEAP_REGISTER (pos 0x10000340)) ∷ LoadWord HEAP_REGISTER kept_rsi ∷ StoreWord kept_rsi HEAP_REGISTER ∷ LoadLabel HEAP_REGISTER 11
    ∷ Plain (MovTo itself RAX) ∷ Plain (AddNumber itself (pos 8)) ∷ Plain (AddTo itself RDX) ∷ []) ≡ replicate 7 false)
    × (list_all passes_by_numbers routine_items ≡ true)
left = (refl, refl, refl)
