-- What routines read of RCX. Some are handed a word in it. All others set it before they read it, so that whoever jumps to them may have
-- left anything there: that is told by all items of routines (`sets_first`), and by what each instruction reads and sets.
use Rattle.std.specs.Prelude.{ℕ, nat_eq, Bool, true, false, ◌&&◌, ◌||◌, not, List, [], ◌∷◌}
use Rattle.sch_word.specs.trees.NumberSets.{has}
use Rattle.sch_word.specs.declared.registers.TheConstants.{RCX}
use Rattle.sch_insn.specs.declared.insn.Insn.{Insn}
use Rattle.sch_insn.specs.declared.insn.Insn.TheVariants as insn
use Rattle.sch_asm.specs.declared.item.Item.{Item}
use Rattle.sch_asm.specs.declared.item.Item.TheVariants as item
use Rattle.sch_asm.specs.declared.routine.LeftOver.TheVariants.{InSlots}
use Rattle.sch_asm.specs.declared.routine.Routine.TheVariants.{FillWords, FillBytes, NewVector, NewString, NewList}
use Rattle.sch_asm.specs.Routines.{label_of}
use Rattle.sch_select_memory.specs.RestCode.{first_in_slot, rest_label, some_label, loop_label as pair_label}
use Rattle.sch_runtime.specs.Code.{bytes_test, bytes_turn, digit_label, words_test, words_turn}
use Rattle.sch_runtime.specs.FrameRegister.{has_base, is_itself, is_without}

-- ## Instructions (SDM, volume 2, the page of each mnemonic)

-- the instruction sets the register, whatever that had
abbrev pub sets_register : (register : ℕ) → Insn → Bool
sets_register register (insn.MovTo m r) = is_itself register m
sets_register register (insn.MovFrom r m) = nat_eq r register
sets_register register (insn.MovNumber m n) = is_itself register m
sets_register register (insn.MovWord r n) = nat_eq r register
sets_register register (insn.LoadByte r m) = nat_eq r register
sets_register register (insn.Lea r m) = nat_eq r register
sets_register register _ = false

-- The instruction uses what the register had: as a word, or as the base of its operand. RAX and RDX, which some use unnamed, are not meant.
abbrev pub reads_register : (register : ℕ) → Insn → Bool
reads_register register (insn.MovTo m r) = nat_eq r register || has_base register m
reads_register register (insn.MovFrom r m) = is_itself register m || has_base register m
reads_register register (insn.MovNumber m n) = has_base register m
reads_register register (insn.MovWord r n) = false
reads_register register (insn.LoadByte r m) = is_itself register m || has_base register m
reads_register register (insn.Lea r m) = is_itself register m || has_base register m
reads_register register i = not (is_without register i)

-- ## Labels

-- of the routines that are handed a word in RCX: what a fill writes, what a new vector or string has, or where the operands in slots begin
abbrev pub handed_labels : List ℕ
handed_labels =
    label_of FillWords ∷ label_of FillBytes ∷ label_of NewVector ∷ label_of NewString ∷ label_of (NewList InSlots) ∷ []

abbrev pub is_handed : (label : ℕ) → Bool
is_handed l = has l handed_labels

-- of places inside routines to which they go on with a word that they were handed, or with one that they have set
abbrev pub later_labels : List ℕ
later_labels =
    words_turn ∷ words_test ∷ bytes_turn ∷ bytes_test ∷ digit_label ∷ rest_label first_in_slot ∷ some_label first_in_slot ∷ pair_label ∷ []

-- RCX has such a word wherever control comes to this label
abbrev pub comes_with_word : (label : ℕ) → Bool
comes_with_word l = is_handed l || has l later_labels

-- ## All items

-- no jump through a register or a word of memory: what stands behind that is come to by a label alone
abbrev pub falls_through : Insn → Bool
falls_through (insn.JumpTo m) = false
falls_through _ = true

-- the kernel leaves in RCX what it likes (SDM volume 2, SYSCALL)
abbrev pub calls_kernel : Insn → Bool
calls_kernel insn.Syscall = true
calls_kernel _ = false

-- RCX is read only where it has been set, or behind a label at which it has a word. `unset` says that it may have anything: so it may behind
-- each other label, and from there it goes to no label at which it has a word, by a jump or by what stands next.
abbrev pub sets_first : (unset : Bool) → List Item → Bool
sets_first unset [] = true
sets_first unset (item.Label l ∷ is) = (not (comes_with_word l) || not unset) && sets_first (not (comes_with_word l)) is
sets_first unset (item.Jump l ∷ is) = (not (comes_with_word l) || not unset) && sets_first false is
sets_first unset (item.JumpIf c l ∷ is) = (not (comes_with_word l) || not unset) && sets_first unset is
-- an address that is jumped to later
sets_first unset (item.LoadLabel r l ∷ is) = not (comes_with_word l) && sets_first (not (nat_eq r RCX) && unset) is
sets_first unset (item.LoadWord r a ∷ is) = sets_first (not (nat_eq r RCX) && unset) is
sets_first unset (item.StoreWord a r ∷ is) = (not (nat_eq r RCX) || not unset) && sets_first unset is
sets_first unset (item.Plain i ∷ is) =
    (not (reads_register RCX i) || not unset) && sets_first (calls_kernel i || (falls_through i && (not (sets_register RCX i) && unset))) is
sets_first unset (item.Mark m ∷ is) = sets_first unset is
