-- Where the marks of stores stand among items: each write of a word of a frame stands behind one of them, and they stand
-- nowhere else. What is written through the frame's register is looked at, whose address goes nowhere else (FrameWords). One
-- run-time routine, which makes lists of operands, fills slots through RCX: it has no marks, and nothing here is said of it.
use Rattle.std.specs.Prelude.{ℕ, nat_eq, Bool, true, false, ◌&&◌, not, List, [], ◌∷◌, Option, Some, None}
use Rattle.sch_word.specs.declared.mark.MarkKind.{MarkKind}
use Rattle.sch_word.specs.declared.mark.MarkKind.TheVariants as mark
use Rattle.sch_word.specs.declared.registers.TheConstants.{CLOSURE_REGISTER, FRAME_REGISTER, LINK_REGISTER, RDX}
use Rattle.sch_insn.specs.declared.insn.Arg.TheVariants.{Reg}
use Rattle.sch_insn.specs.declared.insn.Insn.{Insn}
use Rattle.sch_insn.specs.declared.insn.Insn.TheVariants as insn
use Rattle.sch_asm.specs.declared.item.Item.{Item}
use Rattle.sch_asm.specs.declared.item.Item.TheVariants as item
use Rattle.sch_runtime.specs.FrameRegister.{has_base}
use Rattle.sch_runtime.specs.Written.{writes_where}

-- ## Instructions

-- whether an instruction writes memory that is named by this register
abbrev pub writes_at : (base : ℕ) → Insn → Bool
writes_at base i = writes_where (has_base base) i

-- ## Items

abbrev pub writes_frame : Item → Bool
writes_frame (item.Plain i) = writes_at FRAME_REGISTER i
writes_frame _ = false

-- a word of the frame into a register
abbrev pub loads_frame : Item → Bool
loads_frame (item.Plain (insn.MovFrom r m)) = has_base FRAME_REGISTER m
loads_frame _ = false

-- one `mov`, into a register or a slot
abbrev pub moves_word : Item → Bool
moves_word (item.Plain (insn.MovTo m r)) = true
moves_word (item.Plain (insn.MovFrom r m)) = true
moves_word _ = false

-- a call begins with the check of its operator
abbrev pub checks_operator : Item → Bool
checks_operator (item.Plain (insn.MovTo (Reg d) r)) = nat_eq d RDX && nat_eq r CLOSURE_REGISTER
checks_operator _ = false

abbrev pub returns : Item → Bool
returns (item.Plain (insn.JumpTo (Reg r))) = nat_eq r LINK_REGISTER
returns _ = false

-- Before which item a mark stands. What is set aside may be set aside in a register.
abbrev pub stands_before : MarkKind → Item → Bool
stands_before (mark.Save x) i = writes_frame i
stands_before (mark.Spill x) i = writes_frame i
stands_before mark.Argument i = writes_frame i
stands_before mark.Temp i = moves_word i
stands_before (mark.Restore x) i = loads_frame i
stands_before (mark.Call site) i = checks_operator i
stands_before (mark.Tail site) i = checks_operator i
stands_before mark.Return i = returns i
stands_before (mark.Enter label) i = true

-- ## All items, with the mark that waits for the next of them. That of an entry stands before any item, also a mark.

abbrev pub waiting_mark : MarkKind → Option MarkKind
waiting_mark (mark.Enter label) = None
waiting_mark m = Some m

abbrev pub stores_marked : (waits : Option MarkKind) → List Item → Bool
stores_marked None [] = true
stores_marked (Some m) [] = false
stores_marked None (item.Mark m ∷ is) = stores_marked (waiting_mark m) is
stores_marked None (i ∷ is) = not (writes_frame i) && stores_marked None is
stores_marked (Some m) (i ∷ is) = stands_before m i && stores_marked None is
