-- Where RCX may have the address of a slot, and what is known of the bases of operands, worked.
use Rattle.std.proofs.Common.{◌≡◌, List, [], ◌∷◌, ◌++◌, map, replicate, true, false, Bool, refl}
use Rattle.std.specs.Prelude.{pos}
use Rattle.sch_insn.specs.declared.insn.Arg.TheVariants.{Reg, Base, Base8, Base32, Rip}
use Rattle.sch_insn.specs.declared.insn.Insn.TheVariants as insn
use Rattle.sch_asm.specs.declared.item.Item.{Item}
use Rattle.sch_asm.specs.declared.item.Item.TheVariants as item
use Rattle.sch_asm.specs.Narrow.{narrowed}
use Rattle.sch_select_memory.specs.RestCode.{list_code, rest_routine}
use Rattle.sch_select_operations.specs.ArithmeticCode.{modulo_code}
use Rattle.sch_select_operations.specs.CallCode.{call_code}
use Rattle.sch_select_operations.specs.CellCode.{read_cell_code}
use Rattle.sch_select_operations.specs.ObjectCode.{string_code, symbol_ref_code, vector_code, vector_set_code}
use Rattle.sch_select_operations.specs.OperandCode.{put_code}
use Rattle.sch_select.specs.KnownBases.{bases_known}
use Rattle.sch_select.specs.Program.{own_label, program_code, selected_code}
use Rattle.sch_select.specs.SlotAddress.{overwrites_slot}
use Rattle.sch_select.proofs.items.StoreExamples.{part, slot}
use Rattle.sch_select.proofs.frame.FrameExamples.{listing}

-- ## RCX behind the routine of lists. The labels of bodies are below 1,025, and 1,030 is the one at which the routine returns.

abbrev behind : List Item → Bool
behind rest = overwrites_slot 1025 false [] (list_code false 7 1030 rest)

-- it is set and then used, or not used;
overwritten : map behind ([]
    ∷ (item.Plain (insn.MovFrom 1 slot) ∷ item.Plain (insn.MovTo (Reg 0) 1) ∷ [])
    ∷ (item.LoadWord 1 0x10000328 ∷ item.StoreWord 0x10000328 1 ∷ [])
    ∷ (item.LoadLabel 1 1024 ∷ item.Plain (insn.MovTo part 1) ∷ [])
    ∷ (item.Plain (insn.MovTo (Reg 0) 3) ∷ item.Jump 1031 ∷ []) ∷ []) ≡ replicate 5 true
overwritten = refl

-- it is the base of a load, or of a store, or goes on: to another register, into the heap, into a slot, into a word of the data, as part of a
-- sum, or a number is added to it first, or another register gets a word of the data, or is stored there;
used : map behind ((item.Plain (insn.MovFrom 0 (Base 1)) ∷ [])
    ∷ (item.Plain (insn.MovTo (Base8 1 (pos 8)) 0) ∷ [])
    ∷ (item.Plain (insn.MovTo (Reg 3) 1) ∷ [])
    ∷ (item.Plain (insn.MovTo part 1) ∷ [])
    ∷ (item.Plain (insn.MovTo slot 1) ∷ [])
    ∷ (item.StoreWord 0x10000328 1 ∷ [])
    ∷ (item.Plain (insn.AddTo (Reg 0) 1) ∷ [])
    ∷ (item.Plain (insn.AddNumber (Reg 1) (pos 8)) ∷ item.Plain (insn.MovFrom 0 (Base 1)) ∷ [])
    ∷ (item.LoadWord 0 0x10000328 ∷ item.Plain (insn.MovTo part 1) ∷ [])
    ∷ (item.StoreWord 0x10000328 0 ∷ item.Plain (insn.MovTo part 1) ∷ []) ∷ []) ≡ replicate 10 false
used = refl

-- it is set on one way to a label and not on the other; or on both; or not, since the procedure that is called, or the one that returns, may
-- have made a list, or since a jump comes from where it was not, or what stands before the label does
ways : map behind ((item.JumpIf 4 1031 ∷ item.Plain (insn.MovFrom 1 slot) ∷ item.Label 1031 ∷ item.Plain (insn.MovTo (Reg 0) 1) ∷ [])
    ∷ (item.JumpIf 4 1031 ∷ item.Plain (insn.MovFrom 1 slot) ∷ item.Jump 1032 ∷ item.Label 1031 ∷ item.Plain (insn.MovWord 1 (pos 8)) ∷ item.Label 1032 ∷ item.Plain (insn.MovTo (Reg 0) 1) ∷ [])
    ∷ (item.Plain (insn.MovFrom 1 slot) ∷ item.Label 1024 ∷ item.Plain (insn.MovTo (Reg 0) 1) ∷ [])
    ∷ call_code 2 1031 1 (item.Plain (insn.MovTo (Reg 0) 1) ∷ [])
    ∷ (item.Plain (insn.MovFrom 1 slot) ∷ modulo_code 1031 [])
    ∷ modulo_code 1031 []
    ∷ (item.Jump 1031 ∷ item.Label 1031 ∷ item.Plain (insn.MovTo (Reg 0) 1) ∷ [])
    ∷ (item.Label 1031 ∷ item.Plain (insn.MovTo (Reg 0) 1) ∷ []) ∷ [])
    ≡ false ∷ true ∷ false ∷ false ∷ true ∷ false ∷ false ∷ false ∷ []
ways = refl

-- A jump goes to a routine that is handed a word in RCX only where RCX has been set: to a fill, to one that makes a vector or a string, or to
-- the one that makes a list of operands in slots.
handed :
    (map (λ l. behind (item.Jump l ∷ [])) (13 ∷ 14 ∷ 16 ∷ 17 ∷ 24 ∷ []) ≡ replicate 5 false)
    × (map (λ l. behind (item.JumpIf 4 l ∷ [])) (13 ∷ 14 ∷ 16 ∷ 17 ∷ 24 ∷ []) ≡ replicate 5 false)
    × (map (λ l. behind (item.Plain (insn.AddNumber (Reg 0) (pos 8)) ∷ item.Jump l ∷ [])) (13 ∷ 14 ∷ 16 ∷ 17 ∷ 24 ∷ []) ≡ replicate 5 false)
    × (map (λ l. behind (item.Plain (insn.MovFrom 1 slot) ∷ item.JumpIf 4 l ∷ item.Jump l ∷ [])) (13 ∷ 14 ∷ 16 ∷ 17 ∷ 24 ∷ []) ≡ replicate 5 true)
    × (map (λ l. behind (item.LoadWord 1 0x10000328 ∷ item.Jump l ∷ [])) (13 ∷ 14 ∷ 16 ∷ 17 ∷ 24 ∷ []) ≡ replicate 5 true)
handed = (refl, refl, refl, refl, refl)

-- To all other routines it goes from anywhere: to an end and a stop, to a put, and to one that makes a list from registers on. Nor is the
-- label of one that is handed a word loaded, be RCX set or not.
not_handed :
    (map (λ l. behind (item.JumpIf 4 l ∷ item.Jump l ∷ []))
    (0 ∷ 1 ∷ 2 ∷ 3 ∷ 4 ∷ 5 ∷ 6 ∷ 7 ∷ 8 ∷ 9 ∷ 10 ∷ 11 ∷ 12 ∷ 15 ∷ 18 ∷ 19 ∷ 20 ∷ 21 ∷ 22 ∷ 23 ∷ []) ≡ replicate 20 true)
    × (map (λ l. behind (item.LoadLabel 0 l ∷ item.Plain (insn.JumpTo (Reg 0)) ∷ [])) (13 ∷ 14 ∷ 16 ∷ 17 ∷ 24 ∷ []) ≡ replicate 5 false)
    × (map (λ l. behind (item.Plain (insn.MovFrom 1 slot) ∷ item.LoadLabel 0 l ∷ [])) (13 ∷ 14 ∷ 16 ∷ 17 ∷ 24 ∷ 15 ∷ 1031 ∷ [])
    ≡ false ∷ false ∷ false ∷ false ∷ false ∷ true ∷ true ∷ [])
not_handed = (refl, refl, refl)

-- what makes a vector or a string needs RCX, what puts a value does not, and the routine of lists needs it where all operands are in slots
needed : map (λ is. overwrites_slot 1025 true [] is) (vector_code 1031 [] ∷ string_code 1031 [] ∷ (item.Plain (insn.MovWord 1 (pos 8)) ∷ vector_code 1031 [])
    ∷ (item.Plain (insn.MovWord 1 (pos 8)) ∷ string_code 1031 []) ∷ put_code 1031 [] ∷ list_code true 5 1031 [] ∷ list_code false 6 1031 []
    ∷ (item.LoadLabel 11 1031 ∷ item.Jump 24 ∷ item.Label 1031 ∷ []) ∷ []) ≡ false ∷ false ∷ true ∷ true ∷ true ∷ true ∷ true ∷ false ∷ []
needed = refl

-- ## Bases

abbrev known : List Item → Bool
known is = bases_known false false false is

-- RBP and the heap's register; a word of a slot or of a variable; a tag that was tested, with an index added; a word of the data
based : map known ((item.Plain (insn.MovTo slot 0) ∷ item.Plain (insn.MovTo part 0) ∷ [])
    ∷ (item.Plain (insn.MovFrom 0 slot) ∷ item.Plain (insn.MovFrom 0 (Base32 0 (pos 12))) ∷ [])
    ∷ (item.Plain (insn.MovFrom 1 (Reg 14)) ∷ item.Plain (insn.MovFrom 1 (Base32 1 (pos 12))) ∷ [])
    ∷ (item.LoadWord 0 0x10000328 ∷ item.Plain (insn.MovFrom 0 (Base 0)) ∷ [])
    ∷ read_cell_code []
    ∷ (item.Plain (insn.MovWord 0 (pos 40)) ∷ read_cell_code [])
    ∷ vector_set_code []
    ∷ symbol_ref_code []
    ∷ call_code 2 1031 1 [] ∷ []) ≡ replicate 9 true
based = refl

-- The same of their shortest forms.
short : map (λ is. known (narrowed is)) (read_cell_code [] ∷ vector_set_code [] ∷ symbol_ref_code [] ∷ call_code 2 1031 1 [] ∷ []) ≡ replicate 4 true
short = refl

-- a number of an instruction, also one to which something was added, or that was copied by a scratch register; the address of a label; what the routine of
-- lists leaves; a word whose tag was tested to be 0, or where the code goes on if it is not that tag, or at a label behind the test; a register
-- of another kind; an address without a base; the address of a label where a word was known; the closure's register, or RAX, of which nothing is
-- known where another register got a word
unknown : map known ((item.Plain (insn.MovWord 0 (pos 0x10000440)) ∷ item.Plain (insn.MovFrom 0 (Base 0)) ∷ [])
    ∷ (item.Plain (insn.MovNumber (Reg 1) (pos 0x10000440)) ∷ item.Plain (insn.MovTo (Base8 1 (pos 8)) 0) ∷ [])
    ∷ (item.Plain (insn.MovFrom 0 slot) ∷ item.Plain (insn.MovNumber (Reg 0) (pos 0x10000440)) ∷ item.Plain (insn.AddTo (Reg 0) 3) ∷ item.Plain (insn.LoadByte 0 (Base 0)) ∷ [])
    ∷ (item.Plain (insn.MovWord 2 (pos 0x10000440)) ∷ item.Plain (insn.MovTo (Reg 0) 2) ∷ item.Plain (insn.MovFrom 0 (Base 0)) ∷ [])
    ∷ (item.LoadLabel 0 1024 ∷ item.Plain (insn.MovFrom 0 (Base 0)) ∷ [])
    ∷ list_code false 7 1030 (item.Plain (insn.MovFrom 0 (Base 1)) ∷ [])
    ∷ (item.Plain (insn.MovTo (Reg 2) 0) ∷ item.Plain (insn.AndNumber (Reg 2) (pos 7)) ∷ item.Plain (insn.CmpNumber (Reg 2) (pos 0)) ∷ item.JumpIf 5 1 ∷ item.Plain (insn.MovFrom 0 (Base 0)) ∷ [])
    ∷ (item.Plain (insn.MovTo (Reg 2) 0) ∷ item.Plain (insn.AndNumber (Reg 2) (pos 7)) ∷ item.Plain (insn.CmpNumber (Reg 2) (pos 1)) ∷ item.JumpIf 4 1 ∷ item.Plain (insn.MovFrom 0 (Base 0)) ∷ [])
    ∷ (item.Plain (insn.MovTo (Reg 2) 0) ∷ item.Plain (insn.AndNumber (Reg 2) (pos 7)) ∷ item.Plain (insn.CmpNumber (Reg 2) (pos 1)) ∷ item.JumpIf 5 1031 ∷ item.Plain (insn.MovFrom 0 (Base 0)) ∷ [])
    ∷ (item.Plain (insn.MovFrom 0 slot) ∷ item.Label 1031 ∷ item.Plain (insn.MovFrom 0 (Base 0)) ∷ [])
    ∷ (item.Plain (insn.MovFrom 3 slot) ∷ item.Plain (insn.MovFrom 0 (Base 3)) ∷ [])
    ∷ (item.Plain (insn.MovFrom 0 (Rip (pos 8))) ∷ [])
    ∷ (item.Plain (insn.MovFrom 0 slot) ∷ item.LoadLabel 0 1024 ∷ item.Plain (insn.MovFrom 0 (Base 0)) ∷ [])
    ∷ (item.Plain (insn.MovFrom 1 slot) ∷ item.LoadLabel 1 1024 ∷ item.Plain (insn.MovFrom 0 (Base 1)) ∷ [])
    ∷ (item.Plain (insn.MovFrom 14 slot) ∷ item.LoadLabel 14 1024 ∷ item.Plain (insn.MovFrom 0 (Base32 14 (pos 4))) ∷ [])
    ∷ (item.Plain (insn.MovFrom 0 (Base32 14 (pos 4))) ∷ [])
    ∷ (item.Plain (insn.MovFrom 1 slot) ∷ item.Plain (insn.MovFrom 0 (Base 0)) ∷ [])
    ∷ (item.Plain (insn.MovTo (Reg 1) 3) ∷ item.Plain (insn.MovFrom 0 (Base 0)) ∷ []) ∷ []) ≡ replicate 18 false
unknown = refl

-- what was known of RAX is not known behind an instruction that changes it otherwise than by adding, and it is behind one that adds
lost : map (λ i. bases_known true false false (item.Plain i ∷ item.Plain (insn.MovFrom 0 (Base 0)) ∷ []))
    (insn.MovWord 0 (pos 8) ∷ insn.MovNumber (Reg 0) (pos 8) ∷ insn.MovTo (Reg 0) 2 ∷ insn.MovFrom 0 (Reg 2) ∷ insn.LoadByte 0 slot ∷ insn.Lea 0 slot
    ∷ insn.OrTo (Reg 0) 3 ∷ insn.OrFrom 0 (Reg 3) ∷ insn.OrNumber (Reg 0) (pos 8) ∷ insn.AndTo (Reg 0) 3 ∷ insn.AndFrom 0 (Reg 3)
    ∷ insn.AndNumber (Reg 0) (pos 8) ∷ insn.SubTo (Reg 0) 3 ∷ insn.SubFrom 0 (Reg 3) ∷ insn.SubNumber (Reg 0) (pos 8) ∷ insn.XorTo (Reg 0) 3
    ∷ insn.XorFrom 0 (Reg 3) ∷ insn.XorNumber (Reg 0) (pos 8) ∷ insn.Imul 0 (Reg 3) ∷ insn.Neg (Reg 0) ∷ insn.Idiv (Reg 3) ∷ insn.Shl (Reg 0) 3
    ∷ insn.Shr (Reg 0) 3 ∷ insn.Sar (Reg 0) 3 ∷ insn.Syscall ∷ [])
    ≡ replicate 25 false
lost = refl

-- nor is that of RCX behind a call of the kernel
forgotten : bases_known false true false (item.Plain insn.Syscall ∷ item.Plain (insn.MovFrom 0 (Base 1)) ∷ []) ≡ false
forgotten = refl

kept : map (λ i. bases_known true false false (item.Plain i ∷ item.Plain (insn.MovFrom 0 (Base 0)) ∷ []))
    (insn.AddTo (Reg 0) 3 ∷ insn.AddFrom 0 (Reg 3) ∷ insn.AddNumber (Reg 0) (pos 8) ∷ insn.CmpTo (Reg 0) 3 ∷ insn.MovTo (Reg 3) 0 ∷ insn.MovFrom 3 (Base 0) ∷ []) ≡ replicate 6 true
kept = refl

-- tests with another mask, of another word, and in another register, in one item of the three or in all, and by numbers of one byte
not_tested : map (λ is. bases_known false false false (is ++ item.JumpIf 5 1 ∷ item.Plain (insn.MovFrom 0 (Base 0)) ∷ []))
    ((item.Plain (insn.MovTo (Reg 2) 0) ∷ item.Plain (insn.AndNumber (Reg 2) (pos 255)) ∷ item.Plain (insn.CmpNumber (Reg 2) (pos 1)) ∷ [])
    ∷ (item.Plain (insn.MovTo (Reg 2) 1) ∷ item.Plain (insn.AndNumber (Reg 2) (pos 7)) ∷ item.Plain (insn.CmpNumber (Reg 2) (pos 1)) ∷ [])
    ∷ (item.Plain (insn.MovTo (Reg 11) 0) ∷ item.Plain (insn.AndNumber (Reg 11) (pos 7)) ∷ item.Plain (insn.CmpNumber (Reg 11) (pos 1)) ∷ [])
    ∷ (item.Plain (insn.MovTo (Reg 11) 0) ∷ item.Plain (insn.AndNumber (Reg 2) (pos 7)) ∷ item.Plain (insn.CmpNumber (Reg 2) (pos 1)) ∷ [])
    ∷ (item.Plain (insn.MovTo (Reg 2) 0) ∷ item.Plain (insn.AndNumber (Reg 11) (pos 7)) ∷ item.Plain (insn.CmpNumber (Reg 2) (pos 1)) ∷ [])
    ∷ (item.Plain (insn.MovTo (Reg 2) 0) ∷ item.Plain (insn.AndNumber (Reg 2) (pos 7)) ∷ item.Plain (insn.CmpNumber (Reg 11) (pos 1)) ∷ [])
    ∷ (item.Plain (insn.MovTo (Reg 2) 0) ∷ item.Plain (insn.AndNumber8 (Reg 11) (pos 7)) ∷ item.Plain (insn.CmpNumber8 (Reg 2) (pos 1)) ∷ [])
    ∷ (item.Plain (insn.MovTo (Reg 2) 0) ∷ item.Plain (insn.AndNumber8 (Reg 2) (pos 15)) ∷ item.Plain (insn.CmpNumber8 (Reg 2) (pos 1)) ∷ [])
    ∷ (item.Plain (insn.MovTo (Reg 2) 0) ∷ item.Plain (insn.AndNumber8 (Reg 2) (pos 7)) ∷ item.Plain (insn.CmpNumber8 (Reg 11) (pos 1)) ∷ [])
    ∷ (item.Plain (insn.MovTo (Reg 2) 0) ∷ item.Plain (insn.AndNumber8 (Reg 2) (pos 7)) ∷ item.Plain (insn.CmpNumber8 (Reg 2) (pos 0)) ∷ []) ∷ []) ≡ replicate 10 false
not_tested = refl

-- ## The program of FrameExamples, whose procedure has a rest variable, and the routine of lists, which uses RCX

programs :
    (overwrites_slot (own_label listing) true [] (selected_code listing 16 1) ≡ true)
    × (overwrites_slot (own_label listing) true [] (program_code listing 16 1) ≡ true)
    × (known (selected_code listing 16 1) ≡ true)
    × (known (program_code listing 16 1) ≡ true)
    × (overwrites_slot 1025 true [] (rest_routine 0x10000340 []) ≡ false)
    × (known (rest_routine 0x10000340 []) ≡ false)
programs = (refl, refl, refl, refl, refl, refl)
