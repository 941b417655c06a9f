-- Which forms are narrow, and the narrow forms, at the numbers next to those of one byte.
use Rattle.std.proofs.Common.{◌≡◌, List, [], ◌∷◌, Bool, true, false, map, refl}
use Rattle.std.specs.Prelude.{ℤ, pos, negsuc}
use Rattle.sch_insn.specs.declared.insn.Arg.{Arg}
use Rattle.sch_insn.specs.declared.insn.Arg.TheVariants.{Reg, Base, Base8, Base32, Rip}
use Rattle.sch_insn.specs.declared.insn.Insn.{Insn}
use Rattle.sch_insn.specs.declared.insn.Insn.TheVariants as insn
use Rattle.sch_word.specs.declared.registers.TheConstants.{RAX, RDX, RBP, R12}
use Rattle.sch_asm.specs.declared.item.Item.TheVariants.{Label, Plain}
use Rattle.sch_asm.specs.Narrow.{is_byte, is_narrow, is_narrow_item, narrow, narrowed}

-- -129, -128, 127 and 128
abbrev around : List ℤ
around = negsuc 128 ∷ negsuc 127 ∷ pos 127 ∷ pos 128 ∷ []

abbrev outside : List Bool
outside = true ∷ false ∷ false ∷ true ∷ []

bytes : map is_byte around ≡ false ∷ true ∷ true ∷ false ∷ []
bytes = refl

-- ---- numbers

abbrev narrow_at : (ℤ → Insn) → List Bool
narrow_at form = map (λ n. is_narrow (form n)) around

long_numbers : (narrow_at (insn.AddNumber (Reg RDX)) ≡ outside) × (narrow_at (insn.OrNumber (Reg RDX)) ≡ outside) × (narrow_at (insn.AndNumber (Reg RDX)) ≡ outside)
    × (narrow_at (insn.SubNumber (Base RDX)) ≡ outside) × (narrow_at (insn.XorNumber (Base RDX)) ≡ outside) × (narrow_at (insn.CmpNumber (Base8 RBP (pos 16))) ≡ outside)
long_numbers = (refl, refl, refl, refl, refl, refl)

-- a move of a number has one form, and a short number is narrow
abbrev always : List Bool
always = true ∷ true ∷ true ∷ true ∷ []

other_numbers : (narrow_at (insn.MovNumber (Reg RDX)) ≡ always) × (narrow_at (insn.MovWord RDX) ≡ always) × (narrow_at (insn.CmpNumber8 (Reg RDX)) ≡ always)
other_numbers = (refl, refl, refl)

-- ---- displacements

abbrev narrow_with : (Arg → Insn) → List Bool
narrow_with form = narrow_at (λ d. form (Base32 RBP d))

displacements : (narrow_with (λ m. insn.MovTo m RAX) ≡ outside) × (narrow_with (insn.MovFrom RAX) ≡ outside) × (narrow_with (λ m. insn.MovNumber m (pos 8)) ≡ outside)
    × (narrow_with (λ m. insn.StoreByte m RAX) ≡ outside) × (narrow_with (insn.LoadByte RAX) ≡ outside) × (narrow_with (insn.Lea RAX) ≡ outside)
displacements = (refl, refl, refl, refl, refl, refl)

arithmetic_to : (narrow_with (λ m. insn.AddTo m RAX) ≡ outside) × (narrow_with (λ m. insn.OrTo m RAX) ≡ outside) × (narrow_with (λ m. insn.AndTo m RAX) ≡ outside)
    × (narrow_with (λ m. insn.SubTo m RAX) ≡ outside) × (narrow_with (λ m. insn.XorTo m RAX) ≡ outside) × (narrow_with (λ m. insn.CmpTo m RAX) ≡ outside)
arithmetic_to = (refl, refl, refl, refl, refl, refl)

arithmetic_from : (narrow_with (insn.AddFrom RAX) ≡ outside) × (narrow_with (insn.OrFrom RAX) ≡ outside) × (narrow_with (insn.AndFrom RAX) ≡ outside)
    × (narrow_with (insn.SubFrom RAX) ≡ outside) × (narrow_with (insn.XorFrom RAX) ≡ outside) × (narrow_with (insn.CmpFrom RAX) ≡ outside)
arithmetic_from = (refl, refl, refl, refl, refl, refl)

with_numbers : (narrow_with (λ m. insn.AddNumber m (pos 1000)) ≡ outside) × (narrow_with (λ m. insn.OrNumber m (pos 1000)) ≡ outside) × (narrow_with (λ m. insn.AndNumber m (pos 1000)) ≡ outside)
    × (narrow_with (λ m. insn.SubNumber m (pos 1000)) ≡ outside) × (narrow_with (λ m. insn.XorNumber m (pos 1000)) ≡ outside) × (narrow_with (λ m. insn.CmpNumber m (pos 1000)) ≡ outside)
with_numbers = (refl, refl, refl, refl, refl, refl)

with_bytes : (narrow_with (λ m. insn.AddNumber8 m (pos 1)) ≡ outside) × (narrow_with (λ m. insn.OrNumber8 m (pos 1)) ≡ outside) × (narrow_with (λ m. insn.AndNumber8 m (pos 1)) ≡ outside)
    × (narrow_with (λ m. insn.SubNumber8 m (pos 1)) ≡ outside) × (narrow_with (λ m. insn.XorNumber8 m (pos 1)) ≡ outside) × (narrow_with (λ m. insn.CmpNumber8 m (pos 1)) ≡ outside)
with_bytes = (refl, refl, refl, refl, refl, refl)

others : (narrow_with (λ m. insn.TestTo m RAX) ≡ outside) × (narrow_with (insn.Imul RAX) ≡ outside) × (narrow_with insn.Neg ≡ outside) × (narrow_with insn.Idiv ≡ outside)
    × (narrow_with (λ m. insn.Shl m 3) ≡ outside) × (narrow_with (λ m. insn.Shr m 3) ≡ outside) × (narrow_with (λ m. insn.Sar m 3) ≡ outside) × (narrow_with insn.JumpTo ≡ outside)
others = (refl, refl, refl, refl, refl, refl, refl, refl)

-- a displacement from the next instruction has four bytes only
from_next : narrow_at (λ d. insn.Lea RAX (Rip d)) ≡ always
from_next = refl

-- ---- narrow forms

forms : (narrow (insn.SubNumber (Base32 RBP (pos 16)) (negsuc 0)) ≡ insn.SubNumber8 (Base8 RBP (pos 16)) (negsuc 0))
    × (narrow (insn.AddNumber (Base32 R12 (pos 128)) (pos 127)) ≡ insn.AddNumber8 (Base32 R12 (pos 128)) (pos 127))
    × (narrow (insn.CmpNumber (Base32 R12 (negsuc 127)) (negsuc 128)) ≡ insn.CmpNumber (Base8 R12 (negsuc 127)) (negsuc 128))
    × (narrow (insn.MovNumber (Base32 R12 (pos 8)) (pos 22)) ≡ insn.MovNumber (Base8 R12 (pos 8)) (pos 22))
    × (narrow (insn.MovFrom RAX (Base32 RBP (pos 128))) ≡ insn.MovFrom RAX (Base32 RBP (pos 128)))
    × (narrow insn.Syscall ≡ insn.Syscall)
forms = (refl, refl, refl, refl, refl, refl)

items : (narrowed (Label 1024 ∷ Plain (insn.AndNumber (Reg RDX) (pos 7)) ∷ []) ≡ Label 1024 ∷ Plain (insn.AndNumber8 (Reg RDX) (pos 7)) ∷ [])
    × (map is_narrow_item (Label 1024 ∷ Plain (insn.AndNumber (Reg RDX) (pos 7)) ∷ Plain (insn.AndNumber (Reg RDX) (pos 255)) ∷ []) ≡ true ∷ false ∷ true ∷ [])
items = (refl, refl)
