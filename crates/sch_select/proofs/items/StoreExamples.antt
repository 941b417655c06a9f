-- Where marks of stores stand and where they do not, worked.
use Rattle.std.proofs.Common.{◌≡◌, List, [], ◌∷◌, map, Bool, None, true, false, refl}
use Rattle.std.specs.Prelude.{pos}
use Rattle.sch_word.specs.declared.mark.MarkKind.TheVariants as mark
use Rattle.sch_word.specs.declared.place.Place.TheVariants.{Reg as Register, Slot}
use Rattle.sch_word.specs.values.Literals.{no_literals}
use Rattle.sch_control.specs.declared.operation.Atom.TheVariants.{Variable}
use Rattle.sch_control.specs.declared.operation.Operand.TheVariants as operand
use Rattle.sch_control.specs.declared.operation.Operation.TheVariants as operation
use Rattle.sch_frames.specs.declared.instruction.Instruction.{Instruction}
use Rattle.sch_frames.specs.declared.instruction.Instruction.TheVariants.{Do, Store, Copy, Fix, End, Mark}
use Rattle.sch_frames.specs.Sizes.{program_copies, program_work}
use Rattle.sch_frames.specs.Standing.{all_marks_stand}
use Rattle.sch_frames.specs.Tree.{Source}
use Rattle.sch_insn.specs.declared.insn.Arg.{Arg}
use Rattle.sch_insn.specs.declared.insn.Arg.TheVariants.{Reg, Base, Base32, Rip}
use Rattle.sch_insn.specs.declared.insn.Insn.TheVariants as insn
use Rattle.sch_asm.specs.declared.item.Item.{Item}
use Rattle.sch_asm.specs.declared.item.Item.TheVariants as item
use Rattle.sch_runtime.specs.FrameRegister.{has_base}
use Rattle.sch_select.specs.MarkedStores.{stores_marked, writes_at}
use Rattle.sch_select.specs.Program.{program_code}
use Rattle.sch_select.specs.Select.{copy_insn}
use Rattle.sch_select.specs.Sizes.{kinds_in, kinds_of, steps_size}

-- a word of the frame, and one of the heap, by the registers that have their addresses
abbrev pub slot : Arg
slot = Base32 5 (pos 8)

abbrev pub part : Arg
part = Base32 12 (pos 8)

bases : map (has_base 5) (Reg 5 ∷ Base 5 ∷ slot ∷ Base 1 ∷ part ∷ Rip (pos 8) ∷ []) ≡ false ∷ true ∷ true ∷ false ∷ false ∷ false ∷ []
bases = refl

-- what writes its operand, what reads it or compares it, and what has none
writers : map (writes_at 5) (insn.MovTo slot 0 ∷ insn.MovNumber slot (pos 1) ∷ insn.StoreByte slot 0 ∷ insn.AddTo slot 0 ∷ insn.OrTo slot 0 ∷ insn.AndTo slot 0
    ∷ insn.SubTo slot 0 ∷ insn.XorTo slot 0 ∷ insn.AddNumber slot (pos 1) ∷ insn.OrNumber slot (pos 1) ∷ insn.AndNumber slot (pos 1) ∷ insn.SubNumber slot (pos 1)
    ∷ insn.XorNumber slot (pos 1) ∷ insn.Neg slot ∷ insn.Shl slot 1 ∷ insn.Shr slot 1 ∷ insn.Sar slot 1 ∷ [])
    ≡ true ∷ true ∷ true ∷ true ∷ true ∷ true ∷ true ∷ true ∷ true ∷ true ∷ true ∷ true ∷ true ∷ true ∷ true ∷ true ∷ true ∷ []
writers = refl

readers : map (writes_at 5) (insn.MovFrom 0 slot ∷ insn.LoadByte 0 slot ∷ insn.Lea 0 slot ∷ insn.CmpTo slot 0 ∷ insn.CmpNumber slot (pos 1) ∷ insn.TestTo slot 0
    ∷ insn.AddFrom 0 slot ∷ insn.Imul 0 slot ∷ insn.Idiv slot ∷ insn.JumpTo slot ∷ insn.MovWord 5 (pos 1) ∷ insn.MovTo part 5 ∷ insn.MovTo (Reg 5) 0 ∷ [])
    ≡ false ∷ false ∷ false ∷ false ∷ false ∷ false ∷ false ∷ false ∷ false ∷ false ∷ false ∷ false ∷ false ∷ []
readers = refl

-- a copy is one `mov`
copies : map (λ from. copy_insn (Register 3) from) (Register 8 ∷ Slot 1 ∷ []) ≡ insn.MovTo (Reg 3) 8 ∷ insn.MovFrom 3 slot ∷ []
copies = refl

copy_to_slot : copy_insn (Slot 1) (Register 8) ≡ insn.MovTo slot 8
copy_to_slot = refl

abbrev marked : List Item → Bool
marked is = stores_marked None is

abbrev store : Item
store = item.Plain (insn.MovTo slot 0)

abbrev load : Item
load = item.Plain (insn.MovFrom 3 slot)

abbrev move : Item
move = item.Plain (insn.MovTo (Reg 3) 0)

-- a store has one mark, which may stand behind that of an entry, and none of another kind
stores :
    (map marked ((item.Mark (mark.Save 1) ∷ store ∷ []) ∷ (item.Mark (mark.Spill 1) ∷ store ∷ []) ∷ (item.Mark mark.Temp ∷ store ∷ [])
    ∷ (item.Mark mark.Argument ∷ store ∷ []) ∷ (item.Mark (mark.Enter 0) ∷ item.Mark (mark.Spill 1) ∷ store ∷ []) ∷ []) ≡ true ∷ true ∷ true ∷ true ∷ true ∷ [])
    × (map marked ((store ∷ []) ∷ (item.Mark (mark.Enter 0) ∷ store ∷ []) ∷ (item.Mark (mark.Save 1) ∷ item.Mark (mark.Spill 1) ∷ store ∷ [])
    ∷ (item.Mark (mark.Restore 1) ∷ store ∷ []) ∷ (item.Mark (mark.Save 1) ∷ item.Label 7 ∷ store ∷ []) ∷ []) ≡ false ∷ false ∷ false ∷ false ∷ false ∷ [])
stores = (refl, refl)

-- only what is set aside may be set aside in a register; what is restored is loaded; and marks have an item behind them
others :
    (map marked ((item.Mark mark.Temp ∷ move ∷ []) ∷ (item.Mark (mark.Restore 1) ∷ load ∷ []) ∷ (move ∷ load ∷ []) ∷ []) ≡ true ∷ true ∷ true ∷ [])
    × (map marked ((item.Mark (mark.Save 1) ∷ move ∷ []) ∷ (item.Mark (mark.Spill 1) ∷ load ∷ []) ∷ (item.Mark mark.Argument ∷ move ∷ [])
    ∷ (item.Mark (mark.Restore 1) ∷ move ∷ []) ∷ (item.Mark mark.Temp ∷ []) ∷ []) ≡ false ∷ false ∷ false ∷ false ∷ false ∷ [])
others = (refl, refl)

-- marks of calls stand before the check of the operator, those of returns before the jump
calls :
    (map marked ((item.Mark (mark.Call 0) ∷ item.Plain (insn.MovTo (Reg 2) 14) ∷ []) ∷ (item.Mark (mark.Tail 0) ∷ item.Plain (insn.MovTo (Reg 2) 14) ∷ [])
    ∷ (item.Mark mark.Return ∷ item.Plain (insn.JumpTo (Reg 15)) ∷ []) ∷ []) ≡ true ∷ true ∷ true ∷ [])
    × (map marked ((item.Mark (mark.Call 0) ∷ store ∷ []) ∷ (item.Mark (mark.Tail 0) ∷ move ∷ []) ∷ (item.Mark mark.Return ∷ item.Plain (insn.JumpTo (Reg 1)) ∷ []) ∷ [])
    ≡ false ∷ false ∷ false ∷ [])
calls = (refl, refl)

-- ## A program: a group of two, of which one comes into a slot; a value that is stored; and one that is set aside in a register

abbrev program : List Instruction → Source
program instructions = record {
  statics = record { symbols = []; literals = no_literals; globals = [] };
  library = [];
  bodies = record { entry = None; words = 2; labels = 0; instructions = instructions } ∷ [];
  words = 2;
}

-- the variable of the member in a slot is 4
abbrev group : Instruction
group = Fix (record { at = Register 3; closure = record { label = 0; fields = [] } } ∷ record { at = Slot 0; closure = record { label = 0; fields = [] } } ∷ []) (4 ∷ [])

abbrev marks_there : Source
marks_there = program (group ∷ Do (operation.Operand (operand.Atom (Variable (Slot 0)))) ∷ Mark (mark.Spill 5) ∷ Store (Slot 1) ∷ Mark mark.Temp ∷ Copy (Register 8) (Slot 1) ∷ End ∷ [])

abbrev mark_missing : Source
mark_missing = program (group ∷ Do (operation.Operand (operand.Atom (Variable (Slot 0)))) ∷ Store (Slot 1) ∷ End ∷ [])

programs :
    (all_marks_stand marks_there.bodies ≡ true)
    × (marked (program_code marks_there 16 1) ≡ true)
    × (kinds_in (program_code marks_there 16 1) ≡ mark.Enter 0 ∷ mark.Spill 4 ∷ mark.Spill 5 ∷ mark.Temp ∷ [])
    × (kinds_of 0 marks_there.bodies ≡ mark.Enter 0 ∷ mark.Spill 4 ∷ mark.Spill 5 ∷ mark.Temp ∷ [])
    × (all_marks_stand mark_missing.bodies ≡ false)
    × (marked (program_code mark_missing 16 1) ≡ false)
programs = (refl, refl, refl, refl, refl, refl)

-- what is counted of it: the group with its members, the operand, the end, and the copies apart
sizes :
    (program_copies marks_there ≡ 2)
    × (program_work marks_there ≡ 6)
    × (steps_size marks_there ≡ 9)
sizes = (refl, refl, refl)
