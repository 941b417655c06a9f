-- Where the base of each operand in memory comes from. It is the frame's register, the heap's register, or one of RAX, RCX and the
-- closure's register where that has got a word of memory, of a register in which bodies have words or of the heap's, or where the tag of its word
-- was tested not to be 0, with what was added to it since. So a register that an instruction sets to a number is no base, nor is what a
-- scratch register had before. A number may still come to be one by way of a variable, a word of memory, a tag or an addition: that the
-- word is that of an object is told by the meaning of the items, and not here. To which number the heap's register is set is told by FrameWords, and
-- how far an operand lies from its base is not looked at.
-- What is known is known from the last label on. No operand is an address without a base, but those of words that are named by their numbers
-- (FrameWords).
use Rattle.std.specs.Prelude.{ℕ, nat_eq, nat_lt, Bool, true, false, ◌&&◌, ◌||◌, not, List, [], ◌∷◌}
use Rattle.sch_word.specs.trees.NumberSets.{has}
use Rattle.sch_word.specs.declared.registers.TheConstants.{CLOSURE_REGISTER, FRAME_REGISTER, HEAP_REGISTER}
use Rattle.sch_word.specs.values.Registers.{body_registers}
use Rattle.sch_insn.specs.declared.condition.TheConstants.{NE}
use Rattle.sch_insn.specs.declared.insn.Arg.{Arg}
use Rattle.sch_insn.specs.declared.insn.Arg.TheVariants.{Reg, Base, Base8, Base32, Rip}
use Rattle.sch_insn.specs.declared.insn.Insn.{Insn}
use Rattle.sch_insn.specs.declared.insn.Insn.TheVariants as insn
use Rattle.sch_word.specs.declared.registers.TheConstants.{RAX, RCX, RDX}
use Rattle.sch_asm.specs.declared.item.Item.{Item}
use Rattle.sch_asm.specs.declared.item.Item.TheVariants as item
use Rattle.sch_asm.specs.declared.routine.TheConstants.{FIRST_LABEL}
use Rattle.sch_asm.specs.Narrow.{operand_of}
use Rattle.sch_runtime.specs.FrameRegister.{is_itself, is_without}
use Rattle.sch_select_memory.specs.Encoded.{tag_mask}
use Rattle.sch_select.specs.FrameWords.{is_number}

-- ## Where a register gets a word that is known (SDM, volume 2, the page of each mnemonic)

-- a register in which bodies have words, or that of the heap
abbrev pub keeps_word : ℕ → Bool
keeps_word r = nat_eq r HEAP_REGISTER || has r body_registers

abbrev pub has_word : Arg → Bool
has_word (Reg r) = keeps_word r
has_word _ = true

abbrev pub gives_word : (register : ℕ) → Insn → Bool
gives_word register (insn.MovTo m r) = is_itself register m && keeps_word r
gives_word register (insn.MovFrom r m) = nat_eq r register && has_word m
gives_word register _ = false

-- ## Tests of tags: RDX gets the word, of which its low three bits are left, and where these are not the tag, a routine goes on

abbrev pub copies_word : (register : ℕ) → Insn → Bool
copies_word register (insn.MovTo m r) = is_itself RDX m && nat_eq r register
copies_word register _ = false

abbrev pub masks_tag : Insn → Bool
masks_tag (insn.AndNumber m n) = is_itself RDX m && is_number n tag_mask
masks_tag (insn.AndNumber8 m n) = is_itself RDX m && is_number n tag_mask
masks_tag _ = false

abbrev pub compares_tag : Insn → Bool
compares_tag (insn.CmpNumber m n) = is_itself RDX m && not (is_number n 0)
compares_tag (insn.CmpNumber8 m n) = is_itself RDX m && not (is_number n 0)
compares_tag _ = false

-- the items behind the `mov` into RDX
abbrev pub tests_tag : List Item → Bool
tests_tag (item.Plain i ∷ (item.Plain j ∷ (item.JumpIf c l ∷ is))) = masks_tag i && (compares_tag j && (nat_eq c NE && nat_lt l FIRST_LABEL))
tests_tag _ = false

-- ## What is known behind an instruction

-- The register is not changed, or something is added to it.
abbrev pub adds_only : (register : ℕ) → Insn → Bool
adds_only register (insn.MovTo m r) = not (is_itself register m)
adds_only register (insn.MovFrom r m) = not (nat_eq r register)
adds_only register (insn.StoreByte m r) = true
adds_only register (insn.AddTo m r) = true
adds_only register (insn.AddFrom r m) = true
adds_only register (insn.AddNumber m n) = true
adds_only register (insn.AddNumber8 m n) = true
adds_only register (insn.CmpTo m r) = true
adds_only register (insn.CmpFrom r m) = true
adds_only register (insn.CmpNumber m n) = true
adds_only register (insn.CmpNumber8 m n) = true
adds_only register (insn.Idiv m) = not (nat_eq register RAX || nat_eq register RDX)
adds_only register insn.Syscall = false
adds_only register i = is_without register i

-- `tested` says that the items behind are a test, and `known` what is known before
abbrev pub knows : (register : ℕ) → (tested known : Bool) → Insn → Bool
knows register tested known i = gives_word register i || ((copies_word register i && tested) || (adds_only register i && known))

-- ## All items, with what is known of RAX, of RCX and of the closure's register

abbrev pub is_known_base : (rax rcx closure : Bool) → ℕ → Bool
is_known_base rax rcx closure b =
    nat_eq b FRAME_REGISTER
    || (nat_eq b HEAP_REGISTER || ((nat_eq b RAX && rax) || ((nat_eq b RCX && rcx) || (nat_eq b CLOSURE_REGISTER && closure))))

abbrev pub has_known_base : (rax rcx closure : Bool) → Arg → Bool
has_known_base rax rcx closure (Reg r) = true
has_known_base rax rcx closure (Base b) = is_known_base rax rcx closure b
has_known_base rax rcx closure (Base8 b d) = is_known_base rax rcx closure b
has_known_base rax rcx closure (Base32 b d) = is_known_base rax rcx closure b
has_known_base rax rcx closure (Rip d) = false

abbrev pub bases_known : (rax rcx closure : Bool) → List Item → Bool
bases_known rax rcx closure [] = true
bases_known rax rcx closure (item.Label l ∷ is) = bases_known false false false is
bases_known rax rcx closure (item.Plain i ∷ is) =
    has_known_base rax rcx closure (operand_of i)
    && bases_known (knows RAX (tests_tag is) rax i) (knows RCX (tests_tag is) rcx i) (knows CLOSURE_REGISTER (tests_tag is) closure i) is
bases_known rax rcx closure (item.LoadLabel r l ∷ is) =
    bases_known (not (nat_eq r RAX) && rax) (not (nat_eq r RCX) && rcx) (not (nat_eq r CLOSURE_REGISTER) && closure) is
bases_known rax rcx closure (item.LoadWord r a ∷ is) =
    bases_known (nat_eq r RAX || rax) (nat_eq r RCX || rcx) (nat_eq r CLOSURE_REGISTER || closure) is
bases_known rax rcx closure (_ ∷ is) = bases_known rax rcx closure is
