-- The narrow form of an instruction does what the instruction does, is valid and plain where that is, and is no longer.
use Rattle.std.proofs.Common.{◌≡◌, ℕ, ◌≤◌, List, [], ◌∷◌, ◌++◌, length, length-append, Bool, true, false, cond, refl, sym, ap, ◌∙◌, subst, arith}
use Rattle.std.specs.Prelude.{ℤ, pos, negsuc, FitsSigned, not, ◌&&◌, int_le}
use Rattle.std.specs.Int.{w8}
use Rattle.std.proofs.lemmas.Bool.{and_parts}
use Rattle.std.proofs.lemmas.Int.{ints}
use Rattle.std.proofs.Math.Nat.{le_trans}
use Rattle.sch_insn.specs.declared.insn.Arg.{Arg}
use Rattle.sch_insn.specs.declared.insn.Arg.TheVariants.{Base8, Base32}
use Rattle.sch_insn.specs.declared.insn.Insn.{Insn}
use Rattle.sch_insn.specs.declared.insn.Insn.TheVariants.{MovTo, MovNumber, MovWord, AddNumber, OrNumber, AndNumber, SubNumber, XorNumber, CmpNumber}
use Rattle.sch_insn.specs.declared.insn.Insn.TheVariants.{AddNumber8, OrNumber8, AndNumber8, SubNumber8, XorNumber8, CmpNumber8, Cqo, Shl, Shr, Sar, Jump, Jump8, JumpIf, JumpIf8, Syscall}
use Rattle.sch_insn.specs.Spelling.{IsValid, four_bytes, one_byte, sib, spelling, wide}
use Rattle.sch_insn.specs.Step.{row}
use Rattle.sch_asm.specs.Items.{IsPlain}
use Rattle.sch_asm.specs.Narrow.{is_byte, is_long_arg, is_long_number, is_narrow, narrow, narrow_arg, narrow_number, narrow_operand, operand_of, short_number, with_operand}

-- ---- what both steps keep

module _ (P : Insn → Type 0) where
  number_kept : ((i : Insn) → is_long_number i ≡ true → P i → P (short_number i)) → (i : Insn) → P i → P (narrow_number i)
  number_kept keeps i h = by (is_long_number i) refl
    where
      by : (t : Bool) → is_long_number i ≡ t → P (cond t (short_number i) i)
      by true e = keeps i e h
      by false e = h

  own_operand : (i : Insn) → with_operand (operand_of i) i ≡ i
  own_operand (MovTo m r) = refl
  own_operand _ = refl

  operand_kept : ((i : Insn) (b : ℕ) (d : ℤ) → is_byte d ≡ true → P (with_operand (Base32 b d) i) → P (with_operand (Base8 b d) i)) → (i : Insn) → P i → P (narrow_operand i)
  operand_kept keeps i h = by (operand_of i) (subst P (sym (own_operand i)) h)
    where
      long : (b : ℕ) (d : ℤ) (t : Bool) → is_byte d ≡ t → P (with_operand (Base32 b d) i) → P (with_operand (cond t (Base8 b d) (Base32 b d)) i)
      long b d true e h = keeps i b d e h
      long b d false e h = h

      by : (m : Arg) → P (with_operand m i) → P (with_operand (narrow_arg m) i)
      by (Base32 b d) h = long b d (is_byte d) refl h
      by _ h = h

  pub narrow_keeps : ((i : Insn) → is_long_number i ≡ true → P i → P (short_number i))
      → ((i : Insn) (b : ℕ) (d : ℤ) → is_byte d ≡ true → P (with_operand (Base32 b d) i) → P (with_operand (Base8 b d) i)) → (i : Insn) → P i → P (narrow i)
  narrow_keeps numbers operands i h = operand_kept operands (narrow_number i) (number_kept numbers i h)

-- what is told of an instruction and does not depend on its form
pub narrow_same : {A : Type 0} (f : Insn → A) → ((i : Insn) → f (short_number i) ≡ f i) → ((i : Insn) (b : ℕ) (d : ℤ) → f (with_operand (Base8 b d) i) ≡ f (with_operand (Base32 b d) i))
    → (i : Insn) → f (narrow i) ≡ f i
narrow_same f numbers operands i = narrow_keeps (λ j. f j ≡ f i) (λ j e h. numbers j ∙ h) (λ j b d e h. operands j b d ∙ h) i refl

-- ---- it does the same

row_numbers : (i : Insn) → row (short_number i) ≡ row i
row_numbers (AddNumber m n) = refl
row_numbers _ = refl

row_operands : (i : Insn) (b : ℕ) (d : ℤ) → row (with_operand (Base8 b d) i) ≡ row (with_operand (Base32 b d) i)
row_operands (MovTo m r) b d = refl
row_operands _ b d = refl

pub row_narrow : (i : Insn) → row (narrow i) ≡ row i
row_narrow i = narrow_same row row_numbers row_operands i

-- ---- it is valid and plain

fits : (n : ℤ) → is_byte n ≡ true → FitsSigned w8 n
fits n e = by n (and_parts (int_le (negsuc 127) n) (int_le n (pos 127)) e)
  where
    by : (n : ℤ) → (int_le (negsuc 127) n ≡ true) × (int_le n (pos 127) ≡ true) → FitsSigned w8 n
    by (pos k) p = let high = p.1 in record { sfits = omega (arith, ints) }
    by (negsuc k) p = let low = p.0 in record { sfits = omega (arith, ints) }

valid_numbers : (i : Insn) → is_long_number i ≡ true → IsValid i → IsValid (short_number i)
valid_numbers (AddNumber m n) e h = (h.0, fits n e)
valid_numbers (OrNumber m n) e h = (h.0, fits n e)
valid_numbers (AndNumber m n) e h = (h.0, fits n e)
valid_numbers (SubNumber m n) e h = (h.0, fits n e)
valid_numbers (XorNumber m n) e h = (h.0, fits n e)
valid_numbers (CmpNumber m n) e h = (h.0, fits n e)
valid_numbers _ e h = h

valid_operands : (i : Insn) (b : ℕ) (d : ℤ) → is_byte d ≡ true → IsValid (with_operand (Base32 b d) i) → IsValid (with_operand (Base8 b d) i)
valid_operands (MovTo m r) b d e h = ((h.0.0, fits d e), h.1)
valid_operands _ b d e h = let f = fits d e in assumption

pub valid_narrow : (i : Insn) → IsValid i → IsValid (narrow i)
valid_narrow i h = narrow_keeps IsValid valid_numbers valid_operands i h

plain_numbers : (i : Insn) → is_long_number i ≡ true → IsPlain i → IsPlain (short_number i)
plain_numbers (AddNumber m n) e h = h
plain_numbers _ e h = h

plain_operands : (i : Insn) (b : ℕ) (d : ℤ) → is_byte d ≡ true → IsPlain (with_operand (Base32 b d) i) → IsPlain (with_operand (Base8 b d) i)
plain_operands (MovTo m r) b d e h = h
plain_operands _ b d e h = h

pub plain_narrow : (i : Insn) → IsPlain i → IsPlain (narrow i)
plain_narrow i h = narrow_keeps IsPlain plain_numbers plain_operands i h

-- ---- it is no longer

number_shorter : (op op' k : ℕ) (m : Arg) (n : ℤ) → length (wide op k m ++ one_byte n) ≤ length (wide op' k m ++ four_bytes n)
number_shorter op op' k m n = omega (arith, length-append (wide op k m) (one_byte n), length-append (wide op' k m) (four_bytes n))

size_numbers : (i : Insn) → length (spelling (short_number i)) ≤ length (spelling i)
size_numbers (AddNumber m n) = number_shorter 0x83 0x81 0 m n
size_numbers (OrNumber m n) = number_shorter 0x83 0x81 1 m n
size_numbers (AndNumber m n) = number_shorter 0x83 0x81 4 m n
size_numbers (SubNumber m n) = number_shorter 0x83 0x81 5 m n
size_numbers (XorNumber m n) = number_shorter 0x83 0x81 6 m n
size_numbers (CmpNumber m n) = number_shorter 0x83 0x81 7 m n
size_numbers _ = omega arith

behind_shorter : (op k b : ℕ) (d : ℤ) (tail : List ℕ) → length (wide op k (Base8 b d) ++ tail) ≤ length (wide op k (Base32 b d) ++ tail)
behind_shorter op k b d tail =
    omega
    (arith, length-append (wide op k (Base8 b d)) tail, length-append (wide op k (Base32 b d)) tail, length-append (sib b) (one_byte d), length-append (sib b) (four_bytes d))

size_operands : (i : Insn) (b : ℕ) (d : ℤ) → length (spelling (with_operand (Base8 b d) i)) ≤ length (spelling (with_operand (Base32 b d) i))
size_operands (MovNumber m n) b d = behind_shorter 0xC7 0 b d (four_bytes n)
size_operands (AddNumber m n) b d = behind_shorter 0x81 0 b d (four_bytes n)
size_operands (OrNumber m n) b d = behind_shorter 0x81 1 b d (four_bytes n)
size_operands (AndNumber m n) b d = behind_shorter 0x81 4 b d (four_bytes n)
size_operands (SubNumber m n) b d = behind_shorter 0x81 5 b d (four_bytes n)
size_operands (XorNumber m n) b d = behind_shorter 0x81 6 b d (four_bytes n)
size_operands (CmpNumber m n) b d = behind_shorter 0x81 7 b d (four_bytes n)
size_operands (AddNumber8 m n) b d = behind_shorter 0x83 0 b d (one_byte n)
size_operands (OrNumber8 m n) b d = behind_shorter 0x83 1 b d (one_byte n)
size_operands (AndNumber8 m n) b d = behind_shorter 0x83 4 b d (one_byte n)
size_operands (SubNumber8 m n) b d = behind_shorter 0x83 5 b d (one_byte n)
size_operands (XorNumber8 m n) b d = behind_shorter 0x83 6 b d (one_byte n)
size_operands (CmpNumber8 m n) b d = behind_shorter 0x83 7 b d (one_byte n)
size_operands (Shl m k) b d = behind_shorter 0xC1 4 b d (k ∷ [])
size_operands (Shr m k) b d = behind_shorter 0xC1 5 b d (k ∷ [])
size_operands (Sar m k) b d = behind_shorter 0xC1 7 b d (k ∷ [])
size_operands _ b d = omega (arith, length-append (sib b) (one_byte d), length-append (sib b) (four_bytes d))

pub size_narrow : (i : Insn) → length (spelling (narrow i)) ≤ length (spelling i)
size_narrow i =
    narrow_keeps (λ j. length (spelling j) ≤ length (spelling i)) (λ j e h. le_trans (size_numbers j) h)
    (λ j b d e h. le_trans (size_operands j b d) h) i (omega arith)

-- ---- it is narrow

short_number_narrow : (i : Insn) → is_long_number (short_number i) ≡ false
short_number_narrow (AddNumber m n) = refl
short_number_narrow (OrNumber m n) = refl
short_number_narrow (AndNumber m n) = refl
short_number_narrow (SubNumber m n) = refl
short_number_narrow (XorNumber m n) = refl
short_number_narrow (CmpNumber m n) = refl
short_number_narrow _ = refl

number_narrow : (i : Insn) → is_long_number (narrow_number i) ≡ false
number_narrow i = by (is_long_number i) refl
  where
    by : (t : Bool) → is_long_number i ≡ t → is_long_number (cond t (short_number i) i) ≡ false
    by true e = short_number_narrow i
    by false e = e

other_number : (m : Arg) (i : Insn) → is_long_number (with_operand m i) ≡ is_long_number i
other_number other (MovTo m r) = refl
other_number other _ = refl

arg_narrow : (m : Arg) → is_long_arg (narrow_arg m) ≡ false
arg_narrow (Base32 b d) = by (is_byte d) refl
  where
    by : (t : Bool) → is_byte d ≡ t → is_long_arg (cond t (Base8 b d) (Base32 b d)) ≡ false
    by true e = refl
    by false e = e
arg_narrow _ = refl

operand_narrow : (m : Arg) (i : Insn) → is_long_arg m ≡ false → is_long_arg (operand_of (with_operand m i)) ≡ false
operand_narrow other (MovWord r n) e = refl
operand_narrow other Cqo e = refl
operand_narrow other (Jump d) e = refl
operand_narrow other (Jump8 d) e = refl
operand_narrow other (JumpIf c d) e = refl
operand_narrow other (JumpIf8 c d) e = refl
operand_narrow other Syscall e = refl
operand_narrow other _ e = e

pub narrow_is_narrow : (i : Insn) → is_narrow (narrow i) ≡ true
narrow_is_narrow i =
    let j = narrow_number i in
    ap (λ t. not t && not (is_long_number (narrow i))) (operand_narrow (narrow_arg (operand_of j)) j (arg_narrow (operand_of j)))
    ∙ ap not (other_number (narrow_arg (operand_of j)) j ∙ number_narrow i)
