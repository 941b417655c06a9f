-- The address that the frame's register has goes into no other register and no word of memory. That register is set to a number
-- by the first item alone, to the address at which the frames begin, and each word that is named by its number ends before the heap begins,
-- so that it lies in front of all frames. What the routine of lists leaves in RCX, the address of a slot, is followed by SlotAddress, and
-- what the bases of all operands have by KnownBases. A word of the frame is an operand in memory whose base is the frame's register
-- (SDM volume 2, section 2.1.5).
--
-- The heap's register, which is a base of operands too, gets the address at which the heap begins by the second item alone, and then goes on
-- by multiples of 16 bytes, or by what RDX has (HeapRegister of sch_runtime).
use Rattle.std.specs.Prelude.{ℕ, ◌+◌, nat_eq, nat_le, Bool, true, false, ◌&&◌, ◌||◌, not, ℤ, pos, negsuc, List, ◌∷◌}
use Rattle.std.specs.List.{list_all}
use Rattle.sch_word.specs.declared.registers.TheConstants.{FRAME_REGISTER, HEAP_REGISTER}
use Rattle.sch_insn.specs.declared.insn.Insn.{Insn}
use Rattle.sch_insn.specs.declared.insn.Insn.TheVariants as insn
use Rattle.sch_asm.specs.declared.item.Item.{Item}
use Rattle.sch_asm.specs.declared.item.Item.TheVariants as item
use Rattle.sch_asm.specs.Narrow.{operand_of}
use Rattle.sch_frames.specs.Tree.{Source}
use Rattle.sch_select_data.specs.Data.{heap_of}
use Rattle.sch_runtime.specs.FrameRegister.{has_base, is_frame_itself, is_frame_register, register_of}
use Rattle.sch_runtime.specs.HeapRegister.{leaves_heap}

-- a frame is opened behind another one, or closed
abbrev pub moves_frame : Insn → Bool
moves_frame (insn.AddNumber m n) = true
moves_frame (insn.AddNumber8 m n) = true
moves_frame (insn.SubNumber m n) = true
moves_frame (insn.SubNumber8 m n) = true
moves_frame _ = false

-- the address of a word of the frame, computed
abbrev pub addresses_frame : Insn → Bool
addresses_frame (insn.Lea r m) = has_base FRAME_REGISTER m
addresses_frame _ = false

-- The frame's register is the base of an operand in memory, or a number is added to it or taken from it, or it is not there.
abbrev pub keeps_address : Insn → Bool
keeps_address (insn.MovWord r n) = not (nat_eq r FRAME_REGISTER)
keeps_address i = not (is_frame_register (register_of i)) && ((moves_frame i || not (is_frame_itself (operand_of i))) && not (addresses_frame i))

-- ## All items

abbrev pub is_number : ℤ → ℕ → Bool
is_number (pos n) m = nat_eq n m
is_number (negsuc n) m = false

-- the heap and the frames begin at these addresses, the frames last
module _ (heap stack : ℕ) where
  -- a word that is named by its number
  abbrev pub lies_before : (address : ℕ) → Bool
  lies_before a = nat_le (a + 8) heap

  abbrev pub keeps_frame : Item → Bool
  keeps_frame (item.Plain i) = keeps_address i
  keeps_frame (item.LoadLabel r l) = not (nat_eq r FRAME_REGISTER)
  keeps_frame (item.LoadWord r a) = not (nat_eq r FRAME_REGISTER) && lies_before a
  keeps_frame (item.StoreWord a r) = not (nat_eq r FRAME_REGISTER) && lies_before a
  keeps_frame _ = true

  -- both registers are kept
  abbrev pub keeps_both : Item → Bool
  keeps_both i = leaves_heap i && keeps_frame i

  -- the frame's register is set to where the frames begin, and then that of the heap to where the heap does
  abbrev pub begins_there : Item → Item → Bool
  begins_there (item.Plain (insn.MovWord r n)) (item.Plain (insn.MovWord q k)) =
      (nat_eq r FRAME_REGISTER && is_number n stack) && (nat_eq q HEAP_REGISTER && is_number k heap)
  begins_there _ _ = false

  -- so the first two items do, and all others keep both
  abbrev pub begins_and_keeps : List Item → Bool
  begins_and_keeps (i ∷ (j ∷ is)) = begins_there i j && list_all keeps_both is
  begins_and_keeps _ = false

-- the items of a program whose heap may have this number of bytes, behind which the frames begin
abbrev pub keeps_frames : Source → (limit : ℕ) → List Item → Bool
keeps_frames p limit is = begins_and_keeps (heap_of p) (heap_of p + limit) is
