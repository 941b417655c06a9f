-- How items use the address of the frame, and how the heap's register goes on, worked.
use Rattle.std.proofs.Common.{◌≡◌, [], ◌∷◌, map, replicate, true, false, Some, refl}
use Rattle.std.specs.Prelude.{pos, negsuc}
use Rattle.std.specs.List.{list_all}
use Rattle.sch_word.specs.declared.place.Place.TheVariants.{Slot}
use Rattle.sch_word.specs.values.Literals.{no_literals}
use Rattle.sch_control.specs.declared.operation.Atom.TheVariants.{Variable}
use Rattle.sch_control.specs.declared.operation.Operand.TheVariants as operand
use Rattle.sch_control.specs.declared.operation.Operation.TheVariants as operation
use Rattle.sch_frames.specs.declared.instruction.Instruction.TheVariants.{Do, Return}
use Rattle.sch_frames.specs.Tree.{Source}
use Rattle.sch_insn.specs.declared.insn.Arg.TheVariants.{Reg, Base}
use Rattle.sch_insn.specs.declared.insn.Insn.TheVariants as insn
use Rattle.sch_asm.specs.declared.item.Item.TheVariants as item
use Rattle.sch_select_memory.specs.RestCode.{rest_routine, slot_code}
use Rattle.sch_select_operations.specs.ObjectCode.{pair_code, string_code, vector_code}
use Rattle.sch_runtime.specs.FrameRegister.{leaves_frame}
use Rattle.sch_select_data.specs.Data.{heap_of}
use Rattle.sch_select.specs.FrameWords.{begins_and_keeps, keeps_address, keeps_frame, keeps_frames}
use Rattle.sch_select.specs.Program.{program_code, selected_code}
use Rattle.sch_select.proofs.items.StoreExamples.{part, slot}

-- the frame's register is a base, moves by a number, or is not there
kept : map keeps_address (insn.MovTo slot 3 ∷ insn.MovFrom 3 slot ∷ insn.AddFrom 0 slot ∷ insn.AddNumber slot (pos 1) ∷ insn.AddNumber (Reg 5) (pos 16)
    ∷ insn.SubNumber (Reg 5) (pos 16) ∷ insn.MovWord 3 (pos 16) ∷ insn.MovTo part 3 ∷ insn.Lea 3 part ∷ insn.JumpTo (Reg 15) ∷ [])
    ≡ true ∷ true ∷ true ∷ true ∷ true ∷ true ∷ true ∷ true ∷ true ∷ true ∷ []
kept = refl

-- its address goes elsewhere: to another register, into memory, by arithmetic, as the address of a word; or it gets a word of a
-- register or of memory, or a number
lost : map keeps_address (insn.MovTo (Reg 3) 5 ∷ insn.MovFrom 3 (Reg 5) ∷ insn.MovTo part 5 ∷ insn.MovTo slot 5 ∷ insn.AddTo (Reg 3) 5 ∷ insn.AddFrom 3 (Reg 5)
    ∷ insn.Lea 3 slot ∷ insn.CmpTo (Reg 3) 5 ∷ insn.MovTo (Reg 5) 3 ∷ insn.MovFrom 5 slot ∷ insn.MovWord 5 (pos 16) ∷ insn.JumpTo (Reg 5) ∷ [])
    ≡ replicate 12 false
lost = refl

-- nor is it the register beside another operand,
beside : map keeps_address (insn.MovTo part 5 ∷ insn.MovFrom 5 part ∷ insn.StoreByte part 5 ∷ insn.LoadByte 5 part ∷ insn.Lea 5 part ∷ insn.AddTo part 5 ∷ insn.OrTo part 5
    ∷ insn.AndTo part 5 ∷ insn.SubTo part 5 ∷ insn.XorTo part 5 ∷ insn.CmpTo part 5 ∷ insn.AddFrom 5 part ∷ insn.OrFrom 5 part ∷ insn.AndFrom 5 part ∷ insn.SubFrom 5 part
    ∷ insn.XorFrom 5 part ∷ insn.CmpFrom 5 part ∷ insn.TestTo part 5 ∷ insn.Imul 5 part ∷ [])
    ≡ replicate 19 false
beside = refl

-- nor the only operand, unless a number is added to it or taken from it
alone :
    (map keeps_address (insn.MovNumber (Reg 5) (pos 8) ∷ insn.OrNumber (Reg 5) (pos 8) ∷ insn.AndNumber (Reg 5) (pos 8) ∷ insn.XorNumber (Reg 5) (pos 8)
    ∷ insn.CmpNumber (Reg 5) (pos 8) ∷ insn.Neg (Reg 5) ∷ insn.Shl (Reg 5) 3 ∷ insn.Idiv (Reg 5) ∷ insn.Shr (Reg 5) 3 ∷ insn.Sar (Reg 5) 3 ∷ insn.OrNumber8 (Reg 5) (pos 8)
    ∷ insn.AndNumber8 (Reg 5) (pos 8) ∷ insn.XorNumber8 (Reg 5) (pos 8) ∷ insn.CmpNumber8 (Reg 5) (pos 8) ∷ insn.AddTo (Reg 5) 3 ∷ insn.TestTo (Reg 5) 3 ∷ []) ≡ replicate 16 false)
    × (map keeps_address (insn.AddNumber8 (Reg 5) (pos 8) ∷ insn.SubNumber8 (Reg 5) (pos 8) ∷ []) ≡ true ∷ true ∷ [])
alone = (refl, refl)

-- nor is it added to what a register has, be it for the routine of lists
handed :
    map (list_all (keeps_frame 0x10000340 0x10000440)) ((item.Plain (insn.MovTo (Reg 1) 5) ∷ item.Jump 24 ∷ [])
    ∷ (item.Plain (insn.AddTo (Reg 1) 5) ∷ item.Jump 24 ∷ [])
    ∷ slot_code 8 (item.LoadLabel 11 7 ∷ item.Jump 24 ∷ item.Label 7 ∷ []) ∷ []) ≡ false ∷ false ∷ true ∷ []
handed = refl

-- words of the data and labels have nothing to do with it
others :
    map (list_all (keeps_frame 0x10000340 0x10000440)) ((item.StoreWord 0x10000000 0 ∷ item.LoadWord 0 0x10000000 ∷ item.LoadLabel 15 7 ∷ [])
    ∷ (item.StoreWord 0x10000000 5 ∷ []) ∷ (item.LoadWord 5 0x10000000 ∷ [])
    ∷ (item.LoadLabel 5 7 ∷ []) ∷ []) ≡ true ∷ false ∷ false ∷ false ∷ []
others = refl

-- A word that is named by its number ends where the heap begins at the latest: not in the heap, and not in a frame.
named :
    map (keeps_frame 0x10000340 0x10000440) (item.LoadWord 0 0x10000338 ∷ item.StoreWord 0x10000338 0 ∷ item.LoadWord 0 0x10000339 ∷ item.StoreWord 0x10000339 0
    ∷ item.LoadWord 0 0x10000440 ∷ item.StoreWord 0x10000448 0 ∷ []) ≡ true ∷ true ∷ false ∷ false ∷ false ∷ false ∷ []
named = refl

-- ## Where both registers begin

-- the first item sets RBP to where the frames begin, and the second the heap's register to where the heap does;
begun :
    map (λ is. begins_and_keeps 0x10000340 0x10000440 (item.Plain (insn.MovWord 5 (pos 0x10000440)) ∷ item.Plain (insn.MovWord 12 (pos 0x10000340)) ∷ is))
    ([] ∷ (item.Plain (insn.MovWord 13 (pos 1)) ∷ []) ∷ (item.Plain (insn.MovWord 0 (pos 0x10000448)) ∷ item.Plain (insn.AddNumber (Reg 12) (pos 16)) ∷ [])
    ∷ vector_code 7 [] ∷ string_code 7 [] ∷ pair_code 0x10000440 [] ∷ []) ≡ replicate 6 true
begun = refl

-- to another number, or to each other's, or another register in the place of one, or one alone, or in the other order, or none;
not_begun :
    map (begins_and_keeps 0x10000340 0x10000440)
    ((item.Plain (insn.MovWord 5 (pos 0x10000448)) ∷ item.Plain (insn.MovWord 12 (pos 0x10000340)) ∷ [])
    ∷ (item.Plain (insn.MovWord 5 (negsuc 0)) ∷ item.Plain (insn.MovWord 12 (pos 0x10000340)) ∷ [])
    ∷ (item.Plain (insn.MovWord 5 (pos 0x10000440)) ∷ item.Plain (insn.MovWord 12 (pos 0x10000350)) ∷ [])
    ∷ (item.Plain (insn.MovWord 5 (pos 0x10000440)) ∷ item.Plain (insn.MovWord 12 (negsuc 0)) ∷ [])
    ∷ (item.Plain (insn.MovWord 5 (pos 0x10000340)) ∷ item.Plain (insn.MovWord 12 (pos 0x10000440)) ∷ [])
    ∷ (item.Plain (insn.MovWord 5 (pos 0x10000440)) ∷ item.Plain (insn.MovWord 13 (pos 1)) ∷ [])
    ∷ (item.Plain (insn.MovWord 13 (pos 1)) ∷ item.Plain (insn.MovWord 12 (pos 0x10000340)) ∷ [])
    ∷ (item.Plain (insn.MovWord 12 (pos 0x10000340)) ∷ item.Plain (insn.MovWord 5 (pos 0x10000440)) ∷ [])
    ∷ (item.Plain (insn.MovWord 13 (pos 0x10000440)) ∷ item.Plain (insn.MovWord 12 (pos 0x10000340)) ∷ [])
    ∷ (item.Plain (insn.MovWord 5 (pos 0x10000440)) ∷ item.Plain (insn.MovWord 13 (pos 0x10000340)) ∷ [])
    ∷ (item.Plain (insn.MovWord 5 (pos 0x10000440)) ∷ []) ∷ [] ∷ []) ≡ replicate 12 false
not_begun = refl

-- and no other item sets one of them, be it to that number again, or uses it otherwise than as the instructions above and those of HeapRegister.
kept_behind :
    map (λ i. begins_and_keeps 0x10000340 0x10000440 (item.Plain (insn.MovWord 5 (pos 0x10000440)) ∷ item.Plain (insn.MovWord 12 (pos 0x10000340)) ∷ i ∷ []))
    (item.Plain (insn.MovWord 5 (pos 0x10000440)) ∷ item.Plain (insn.MovWord 12 (pos 0x10000340)) ∷ item.Plain (insn.MovFrom 12 (Base 0)) ∷ item.Plain (insn.MovTo (Reg 12) 5)
    ∷ item.Plain (insn.MovTo (Reg 5) 12) ∷ item.Plain (insn.AddNumber (Reg 12) (pos 8)) ∷ item.LoadWord 12 0x10000000 ∷ item.StoreWord 0x10000000 12 ∷ item.LoadLabel 12 7
    ∷ item.LoadWord 5 0x10000000 ∷ item.StoreWord 0x10000000 5 ∷ item.LoadLabel 5 7 ∷ item.LoadWord 0 0x10000339 ∷ []) ≡ replicate 13 false
kept_behind = refl

-- ## A program: a procedure of seven required operands and a rest variable returns the list, which is in its second slot

abbrev pub listing : Source
listing = record {
  statics = record { symbols = []; literals = no_literals; globals = [] };
  library = [];
  bodies = record {
    entry = Some (record { formals = 8; rest = true; fields = 0 });
    words = 2;
    labels = 0;
    instructions = Do (operation.Operand (operand.Atom (Variable (Slot 1)))) ∷ Return ∷ [];
  } ∷ [];
  words = 2;
}

-- In its items, and in their shortest forms, the address of the frame goes nowhere else. The routine of lists has it in RCX.
programs :
    (heap_of listing ≡ 0x10000330)
    × (keeps_frames listing 16 (selected_code listing 16 1) ≡ true)
    × (keeps_frames listing 16 (program_code listing 16 1) ≡ true)
    × (keeps_frames listing 32 (program_code listing 16 1) ≡ false)
    × (list_all (keeps_frame 0x10000330 0x10000340) (rest_routine 0x10000340 []) ≡ false)
programs = (refl, refl, refl, refl, refl)

-- ## Routines

-- the frame's register is not moved, set, read, or the base of an operand; its address may go into RCX, or be added to what that has
left : map leaves_frame (item.Plain (insn.MovTo (Reg 1) 5) ∷ item.Plain (insn.AddTo (Reg 1) 5) ∷ item.Plain (insn.MovTo part 3) ∷ item.Plain (insn.MovTo slot 3) ∷ item.Plain (insn.AddNumber (Reg 5) (pos 8))
    ∷ item.Plain (insn.MovWord 5 (pos 8)) ∷ item.Plain (insn.MovTo (Reg 3) 5) ∷ item.Plain (insn.AddTo (Reg 3) 5) ∷ item.Plain (insn.AddTo (Reg 5) 1) ∷ item.LoadWord 5 0x10000000 ∷ [])
    ≡ true ∷ true ∷ true ∷ false ∷ false ∷ false ∷ false ∷ false ∷ false ∷ false ∷ []
left = refl

-- nor is it taken from what RCX has, stored as a word of the data, set to a label's address, or the base of what is read
not_left : map leaves_frame (item.Plain (insn.SubTo (Reg 1) 5) ∷ item.StoreWord 0x10000000 5 ∷ item.LoadLabel 5 7 ∷ item.Plain (insn.Lea 1 slot) ∷ item.Plain (insn.MovFrom 3 slot) ∷ [])
    ≡ false ∷ false ∷ false ∷ false ∷ false ∷ []
not_left = refl
