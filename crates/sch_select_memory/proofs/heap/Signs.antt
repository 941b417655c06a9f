-- Signs of words, and the range of fixnums.
use Rattle.std.proofs.Common.{◌≡◌, ℕ, suc, ◌+◌, ◌*◌, ◌<◌, ◌≤◌, ◌%◌, true, false, arith, ⊎_elim}
use Rattle.std.specs.Prelude.{ℤ, pos, negsuc, ◌+ℤ◌, ◌*ℤ◌, ◌≤ℤ◌}
use Rattle.std.proofs.lemmas.Bool.{cases_Bool}
use Rattle.std.proofs.lemmas.Bool.Decides.{nat_tests}
use Rattle.std.proofs.lemmas.Int.{ints}
use Rattle.sch_word.specs.values.Fixnum.{IsFixnum, is_fixnum}
use Rattle.sch_word.proofs.values.Fixnums.{is_fixnum_says}
use Rattle.sch_insn.specs.Machine.{is_negative}
use Rattle.sch_asm.specs.Data.{FixnumWord}

pub positive : (x : ℕ) → x < 9223372036854775808 → is_negative x ≡ false
positive x lt = grind (arith, nat_tests)

pub negative : (x : ℕ) → 9223372036854775808 ≤ x → is_negative x ≡ true
negative x le = grind (arith, nat_tests)

pub not_fixnum : (n : ℤ) → (IsFixnum n → ⊥) → is_fixnum n ≡ false
not_fixnum n outside = ⊎_elim (λ e. absurd (outside (is_fixnum_says n e))) (λ e. e) (cases_Bool (is_fixnum n))

-- the range, as numbers that omega reads
pub least : (n : ℤ) → IsFixnum n → negsuc 1152921504606846975 ≤ℤ n
least n range = range.low

pub most : (n : ℤ) → IsFixnum n → n ≤ℤ pos 1152921504606846975
most n range = range.high

-- The word of a number that is not negative, and of one that is.
abbrev pub IsLow : ℤ → ℕ → Type 0
IsLow n x = pos x ≡ pos 8 *ℤ n

abbrev pub IsHigh : ℤ → ℕ → Type 0
IsHigh n x = pos x ≡ (pos 8 *ℤ n) +ℤ pos 18446744073709551616

pub low_small : (n : ℤ) (x : ℕ) → IsFixnum n → IsLow n x → x < 9223372036854775808
low_small n x range e = let m = most n range in omega (arith, ints)

pub high_large : (n : ℤ) (x : ℕ) → IsFixnum n → IsHigh n x → 9223372036854775808 ≤ x
high_large n x range e = let l = least n range in omega (arith, ints)

tag_low : (n : ℤ) (x : ℕ) → IsLow n x → x % 8 ≡ 0
tag_low (pos m) x e = omega (arith, ints)
tag_low (negsuc m) x e = omega (arith, ints)

tag_high : (n : ℤ) (x : ℕ) → IsHigh n x → x % 8 ≡ 0
tag_high (pos m) x e = omega (arith, ints)
tag_high (negsuc m) x e = omega (arith, ints)

-- The three low bits of a fixnum's word are 0.
pub tag_zero : (n : ℤ) (x : ℕ) → FixnumWord n x → x % 8 ≡ 0
tag_zero n x w = ⊎_elim (tag_low n x) (tag_high n x) w.shifted

-- the word, by the sign of its number
pub low_word : (n y : ℕ) → FixnumWord (pos n) y → y ≡ 8 * n
low_word n y w = let f = w.fits in ⊎_elim (λ e. omega (arith, ints, e)) (λ e. absurd (omega (arith, ints, e, f))) w.shifted

pub high_word : (n y : ℕ) → FixnumWord (negsuc n) y → y + 8 * suc n ≡ 18446744073709551616
high_word n y w = ⊎_elim (λ e. absurd (omega (arith, ints, e))) (λ e. omega (arith, ints, e)) w.shifted
