-- Where what writes memory through the frame's register stands in a text, and under which marks. Words of frames are written so, but
-- for the list of operands that are left over, which a run-time routine puts into its slot.
use Rattle.std.specs.Prelude.{◌≡◌, ◌+◌, ◌⊎◌, ℕ, Bool, true, false, List, [], ◌∷◌, length, filter}
use Rattle.sch_word.specs.declared.mark.MarkKind.{MarkKind}
use Rattle.sch_word.specs.declared.mark.MarkKind.TheVariants as mark
use Rattle.sch_word.specs.declared.registers.TheConstants.{FRAME_REGISTER}
use Rattle.sch_insn.specs.declared.insn.Insn.{Insn}
use Rattle.sch_insn.specs.Spelling.{spelling}
use Rattle.sch_select.specs.MarkedStores.{writes_at}

-- the marks of stores: of a variable that is saved, of one that lives in a slot, and of an operand that is set aside or handed over
abbrev pub is_store : MarkKind → Bool
is_store (mark.Save x) = true
is_store (mark.Spill x) = true
is_store mark.Temp = true
is_store mark.Argument = true
is_store _ = false

-- An instruction with the marks of its address: where it writes memory through the frame's register it has exactly one mark of a
-- store, and any other one has none, but for an operand that is set aside in a register.
pub record HasStoreMark (i : Insn) (kinds : List MarkKind) : Type 0 where
  pub written : writes_at FRAME_REGISTER i ≡ true → (m : MarkKind) × (filter is_store kinds ≡ m ∷ [])
  pub unwritten : writes_at FRAME_REGISTER i ≡ false → (filter is_store kinds ≡ []) ⊎ (filter is_store kinds ≡ mark.Temp ∷ [])

-- so it is of each instruction, where they follow one another from an address on
abbrev pub StoresMarked : (marks_at : ℕ → List MarkKind) → (address : ℕ) → List Insn → Type 0
StoresMarked marks_at address [] = Unit {0}
StoresMarked marks_at address (i ∷ code) = HasStoreMark i (marks_at address) × StoresMarked marks_at (address + length (spelling i)) code
