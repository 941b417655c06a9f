-- The form to which the items of routines keep, beside what they do: from it whoever reads their text alone can tell where a
-- routine returns. R11 has the address to which it returns. A call of the kernel overwrites R11 (SDM volume 2, SYSCALL), so
-- around such calls a word of the data has that address: one store of R11 puts it there, and one load from that word brings it
-- back. But for these and the jump that returns, no item names R11: none writes it, and none moves what it has to another place.
-- In between, of memory only other words of the data are written. A routine that exits calls the kernel directly behind `mov rax, 60`, and
-- returns nowhere. Behind the last item nothing goes on. That each label stands once and that no instruction is a direct jump is
-- not said here: `Asm` has it.
use Rattle.std.specs.Prelude.{ℕ, ◌+◌, ◌%◌, nat_eq, nat_le, pos, cond, Bool, true, false, ◌&&◌, ◌||◌, not, List, [], ◌∷◌, Option, Some, None}
use Rattle.std.specs.List.{list_any}
use Rattle.std.specs.Bool.{then_some}
use Rattle.sch_insn.specs.declared.insn.Arg.TheVariants.{Reg}
use Rattle.sch_insn.specs.declared.insn.Insn.{Insn}
use Rattle.sch_insn.specs.declared.insn.Insn.TheVariants as insn
use Rattle.sch_word.specs.declared.registers.TheConstants.{RAX, R11}
use Rattle.sch_insn.specs.Spelling.{in_memory}
use Rattle.sch_insn.specs.declared.system_call.TheConstants.{SYS_EXIT}
use Rattle.sch_asm.specs.declared.item.Item.{Item}
use Rattle.sch_asm.specs.declared.item.Item.TheVariants.{Label, Plain, Jump, JumpIf, LoadLabel, LoadWord, StoreWord}
use Rattle.sch_asm.specs.Items.{is_routine}
use Rattle.sch_runtime.specs.Code.{statuses}
use Rattle.sch_runtime.specs.FrameRegister.{is_itself, is_without}
use Rattle.sch_runtime.specs.Written.{writes_where}

-- ## Instructions: which write memory, and `mov rax, 60`

abbrev pub writes_memory : Insn → Bool
writes_memory i = writes_where in_memory i

abbrev pub is_exit_number : Insn → Bool
is_exit_number (insn.MovNumber (Reg r) (pos n)) = nat_eq r RAX && nat_eq n SYS_EXIT
is_exit_number _ = false

-- ## Where the address is to which a routine returns

-- In R11, or in a word of the data; or the routine exits, and `mov rax, 60` stands directly before, or not.
pub data Return : Type 0 where
  in_register : Return
  in_word : ℕ → Return
  exits : (numbered : Bool) → Return

-- a routine that exits is entered by the label of its status
abbrev pub is_exit : ℕ → Bool
is_exit l = list_any (λ s. nat_eq (s % 64) l) statuses

abbrev pub apart : ℕ → ℕ → Bool
apart a b = nat_le (a + 8) b || nat_le (b + 8) a

-- Where it is in R11, the only call of the kernel is to come, and a jump through a register goes there.
abbrev pub register_insn : Insn → Option Return
register_insn insn.Syscall = None
register_insn (insn.JumpTo m) = then_some (is_itself R11 m) in_register
register_insn i = then_some (is_without R11 i) in_register

abbrev pub behind_register : Item → Option Return
behind_register (Label l) = Some (cond (is_exit l) (exits false) in_register)
behind_register (Plain i) = register_insn i
behind_register (LoadLabel r l) = then_some (not (nat_eq r R11)) in_register
behind_register (LoadWord r a) = then_some (not (nat_eq r R11)) in_register
behind_register (StoreWord a r) = Some (cond (nat_eq r R11) (in_word a) in_register)
behind_register _ = Some in_register

-- Where it is in a word, the kernel may be called, no instruction jumps through a register or writes memory, and no routine is entered.
abbrev pub word_insn : ℕ → Insn → Option Return
word_insn a insn.Syscall = Some (in_word a)
word_insn a (insn.JumpTo m) = None
word_insn a i = then_some (is_without R11 i && not (writes_memory i)) (in_word a)

abbrev pub behind_word : ℕ → Item → Option Return
behind_word a (Label l) = then_some (not (is_routine l)) (in_word a)
behind_word a (Plain i) = word_insn a i
behind_word a (LoadLabel r l) = then_some (not (nat_eq r R11)) (in_word a)
behind_word a (LoadWord r b) = cond (nat_eq r R11) (then_some (nat_eq a b) in_register) (Some (in_word a))
behind_word a (StoreWord b r) = then_some (not (nat_eq r R11) && apart a b) (in_word a)
behind_word a _ = Some (in_word a)

-- A routine that exits goes straight on to a call of the kernel. What stands behind that is another routine.
abbrev pub exit_insn : (numbered : Bool) → Insn → Option Return
exit_insn numbered insn.Syscall = then_some numbered in_register
exit_insn numbered (insn.JumpTo m) = None
exit_insn numbered i = then_some (is_without R11 i && not (writes_memory i)) (exits (is_exit_number i))

abbrev pub behind_exit : (numbered : Bool) → Item → Option Return
behind_exit numbered (Plain i) = exit_insn numbered i
behind_exit numbered _ = None

-- behind an item, where it may stand
abbrev pub behind : Return → Item → Option Return
behind in_register i = behind_register i
behind (in_word a) i = behind_word a i
behind (exits numbered) i = behind_exit numbered i

-- ## All items

abbrev pub same : Return → Return → Bool
same in_register in_register = true
same (in_word a) (in_word b) = nat_eq a b
same _ _ = false

-- the labels, each with where the address is behind it
abbrev pub labels_at : Option Return → List Item → List (ℕ × Option Return)
labels_at None is = []
labels_at (Some at) [] = []
labels_at (Some at) (Label l ∷ is) = (l, behind at (Label l)) ∷ labels_at (behind at (Label l)) is
labels_at (Some at) (i ∷ is) = labels_at (behind at i) is

abbrev pub is_there : Return → Option Return → Bool
is_there at None = false
is_there at (Some there) = same at there

-- A jump goes where the address is in the same place, or to a routine that exits.
abbrev pub may_go : List (ℕ × Option Return) → Return → ℕ → Bool
may_go labels at l = is_exit l || list_any (λ there. nat_eq there.0 l && is_there at there.1) labels

abbrev pub goes_right : List (ℕ × Option Return) → Return → Item → Bool
goes_right labels at (Jump l) = may_go labels at l
goes_right labels at (JumpIf c l) = may_go labels at l
goes_right labels at _ = true

abbrev pub each_keeps : List (ℕ × Option Return) → Option Return → List Item → Bool
each_keeps labels None is = false
each_keeps labels (Some at) [] = same at in_register
each_keeps labels (Some at) (i ∷ is) = goes_right labels at i && each_keeps labels (behind at i) is

-- how many stores of R11 there are
abbrev pub kept_times : List Item → ℕ
kept_times [] = 0
kept_times (StoreWord a r ∷ is) = cond (nat_eq r R11) 1 0 + kept_times is
kept_times (i ∷ is) = kept_times is

-- What stands behind the item is reached by a label alone: a jump, or a call of the kernel. Of these calls only one that exits can
-- be the last item, since no text ends where a word has the address.
abbrev pub leaves : Item → Bool
leaves (Jump l) = true
leaves (Plain (insn.JumpTo m)) = true
leaves (Plain insn.Syscall) = true
leaves _ = false

-- whether the last item is such a one
abbrev pub ends : (left : Bool) → List Item → Bool
ends left [] = left
ends left (i ∷ is) = ends (leaves i) is

-- All items keep to the form, from a first one at which R11 has the address.
abbrev pub keeps_form : List Item → Bool
keeps_form is = nat_le (kept_times is) 1 && (ends false is && each_keeps (labels_at (Some in_register) is) (Some in_register) is)
