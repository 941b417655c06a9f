-- The definitions on worked values.
use Rattle.std.proofs.Common.{◌≡◌, ℕ, List, [], ◌∷◌, true, false, cond, ◌==◌, refl, arith, inl, inr}
use Rattle.std.specs.Prelude.{pos, negsuc}
use Rattle.std.proofs.lemmas.Int.{ints}
use Rattle.sch_word.specs.declared.stop.Stop.TheVariants.{WrongType, OutputFailed}
use Rattle.sch_insn.specs.declared.insn.Arg.TheVariants.{Rip}
use Rattle.sch_insn.specs.declared.insn.Insn.{Insn}
use Rattle.sch_insn.specs.declared.insn.Insn.TheVariants as insn
use Rattle.sch_insn.specs.declared.condition.TheConstants.{L}
use Rattle.sch_word.specs.declared.registers.TheConstants.{RAX, RBX, RSI, R11, R12}
use Rattle.sch_asm.specs.declared.assembly.Word.TheVariants.{Fixed, Address}
use Rattle.sch_asm.specs.declared.error.AsmError.TheVariants.{TextTooLarge}
use Rattle.sch_asm.specs.declared.item.Item.{Item}
use Rattle.sch_asm.specs.declared.item.Item.TheVariants.{Label, Plain, Jump, JumpIf, LoadLabel, LoadWord, Mark}
use Rattle.sch_asm.specs.declared.item.Mark as mark
use Rattle.sch_word.specs.declared.mark.MarkKind.TheVariants.{Enter, Save}
use Rattle.sch_asm.specs.declared.routine.LeftOver.TheVariants.{FromFirst, InSlots}
use Rattle.sch_asm.specs.declared.routine.Routine.TheVariants.{End, Stop, Put, PutFixnum, FillWords, FillBytes, PutValue, NewVector, NewString, NewList}
use Rattle.sch_asm.specs.Routines.{label_of}
use Rattle.sch_asm.specs.Items.{IsPlain, is_inner, is_routine, labels_in, marks_arrive, uses_in, word_uses}
use Rattle.sch_asm.specs.Stands.{marks_at}
use Rattle.sch_asm.specs.Codes.{Codes, IsTooLarge, bytes_of, instructions_in, text_size}
use Rattle.sch_asm.specs.Data.{IsShifted, word_in, with_word}
use Rattle.sch_asm.specs.Effects.{is_scratch}

-- ---- items

-- a loop with two marks, a data word and a jump out of it
abbrev items : List Item
items = Label 1024 ∷ Mark (Enter 7) ∷ Mark (Save 0) ∷ LoadWord RBX 0x10000200 ∷ JumpIf L 1025 ∷ LoadLabel R11 1024 ∷ Jump 1024 ∷ Label 1025 ∷ Plain insn.Syscall ∷ []

abbrev place : ℕ → ℕ
place l = cond (l == 1024) 0x400000 0x400019

abbrev code : List Insn
code =
    insn.MovFrom RBX (Rip (pos 0xFC001F9)) ∷ insn.JumpIf L (pos 12) ∷ insn.Lea R11 (Rip (negsuc 19)) ∷ insn.Jump (negsuc 24) ∷ insn.Syscall ∷ []

abbrev marks : List mark.Mark
marks = record { address = 0x400000; kind = Enter 7 } ∷ record { address = 0x400000; kind = Save 0 } ∷ []

is_resolved : Codes place 0x400000 items code marks
is_resolved = (refl, (_, refl, (_, refl, (_, _, refl, refl, (_, _, refl, (refl, refl), (_, _, refl, refl, (_, _, refl, refl, (refl, (_, refl, (refl, refl))))))))))

sizes : text_size items ≡ 27
sizes = refl

counted : (instructions_in items ≡ 5) × (instructions_in (Label 1024 ∷ []) ≡ 0) × (instructions_in (Mark (Save 0) ∷ Plain insn.Syscall ∷ []) ≡ 1)
counted = (refl, refl, refl)

marks_are : (marks_at marks 0x400000 ≡ Enter 7 ∷ Save 0 ∷ []) × (marks_at marks 0x400007 ≡ [])
marks_are = (refl, refl)

labels : (labels_in items ≡ 1024 ∷ 1025 ∷ []) × (uses_in items ≡ 1025 ∷ 1024 ∷ 1024 ∷ []) × (word_uses (Fixed 1026 ∷ Address 1027 ∷ []) ≡ 1027 ∷ [])
labels = (refl, refl, refl)

-- marks arrive at an instruction, and neither at a label nor at the end
arriving :
    (marks_arrive false items ≡ true)
    × (marks_arrive false (Mark (Enter 7) ∷ Label 1024 ∷ Plain insn.Syscall ∷ []) ≡ false)
    × (marks_arrive false (Plain insn.Syscall ∷ Mark (Enter 7) ∷ []) ≡ false)
    × (marks_arrive true (Jump 1024 ∷ []) ≡ true)
arriving = (refl, refl, refl, refl)

-- an instruction that names its own place is not plain
not_plain : (IsPlain (insn.MovTo (Rip (pos 0)) RAX) → ⊥) × (IsPlain (insn.AddNumber8 (Rip (pos 0)) (pos 1)) → ⊥) × (IsPlain (insn.Jump (pos 0)) → ⊥) × (IsPlain (insn.Jump8 (pos 0)) → ⊥)
    × (IsPlain (insn.JumpIf L (pos 0)) → ⊥) × (IsPlain (insn.JumpIf8 L (pos 0)) → ⊥)
not_plain = (λ h. h, λ h. h, λ h. h, λ h. h, λ h. h, λ h. h)

-- ---- words and errors

words : (bytes_of place (Fixed 258) ≡ 2 ∷ 1 ∷ 0 ∷ 0 ∷ 0 ∷ 0 ∷ 0 ∷ 0 ∷ []) × (bytes_of place (Address 1025) ≡ 0x19 ∷ 0 ∷ 0x40 ∷ 0 ∷ 0 ∷ 0 ∷ 0 ∷ 0 ∷ [])
words = (refl, refl)

too_large : IsTooLarge 16777217 (TextTooLarge 16777217)
too_large = (refl, omega arith)

not_too_large : (IsTooLarge 16777216 (TextTooLarge 16777216) → ⊥) × (IsTooLarge 16777218 (TextTooLarge 16777217) → ⊥)
not_too_large = (λ h. omega (arith, h.1), λ h. omega (arith, h.0))

-- ---- routines

routine_labels :
    (label_of End ≡ 0)
    × (label_of (Stop WrongType) ≡ 1)
    × (label_of (Stop OutputFailed) ≡ 10)
    × (label_of Put ≡ 11)
    × (label_of PutFixnum ≡ 12)
    × (label_of FillWords ≡ 13)
    × (label_of FillBytes ≡ 14)
    × (label_of PutValue ≡ 15)
    × (label_of NewVector ≡ 16)
    × (label_of NewString ≡ 17)
    × (label_of (NewList FromFirst) ≡ 18)
    × (label_of (NewList InSlots) ≡ 24)
    × (is_routine 24 ≡ true)
    × (is_routine 25 ≡ false)
routine_labels = (refl, refl, refl, refl, refl, refl, refl, refl, refl, refl, refl, refl, refl, refl)

inner_labels : (is_inner 63 ≡ false) × (is_inner 64 ≡ true) × (is_inner 1023 ≡ true) × (is_inner 1024 ≡ false)
inner_labels = (refl, refl, refl, refl)

scratch : (is_scratch RAX ≡ true) × (is_scratch R11 ≡ true) × (is_scratch RSI ≡ false) × (is_scratch R12 ≡ false)
scratch = (refl, refl, refl, refl)

-- ---- data

data_words : (word_in (9 ∷ 1 ∷ 2 ∷ 0 ∷ 0 ∷ 0 ∷ 0 ∷ 0 ∷ 0 ∷ []) 0x10000001 ≡ 513) × (with_word (9 ∷ 9 ∷ 9 ∷ 9 ∷ 9 ∷ 9 ∷ 9 ∷ 9 ∷ 9 ∷ []) 0x10000001 513 ≡ 9 ∷ 1 ∷ 2 ∷ 0 ∷ 0 ∷ 0 ∷ 0 ∷ 0 ∷ 0 ∷ [])
data_words = (refl, refl)

fixnum_words : IsShifted (pos 5) 40 × IsShifted (negsuc 0) 18446744073709551608 × (IsShifted (negsuc 0) 8 → ⊥)
fixnum_words = (inl refl, inr refl, λ h. not_eight h)
  where
    not_eight : IsShifted (negsuc 0) 8 → ⊥
    not_eight (inl e) = omega (arith, ints, e)
    not_eight (inr e) = omega (arith, ints, e)
