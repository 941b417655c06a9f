-- The product of a fixnum's number and another's word, and the flag of overflow, which is set exactly where the
-- product is no fixnum.
use Rattle.std.proofs.Common.{◌≡◌, ℕ, zero, suc, ◌+◌, ◌-◌, ◌*◌, ◌^◌, ◌<◌, ◌≤◌, ◌%◌, ◌/◌, Bool, true, false, cond, Some, refl, sym, ap, ◌∙◌, arith, ⊎_elim, inl, inr}
use Rattle.std.specs.Prelude.{ℤ, pos, negsuc, ◌*ℤ◌, ◌≤ℤ◌, not, nat_le, nat_lt}
use Rattle.std.proofs.lemmas.Bool.{cases_lt}
use Rattle.std.proofs.lemmas.Bool.Decides.{nat_tests}
use Rattle.std.proofs.lemmas.Int.{ints}
use Rattle.std.proofs.Math.Nat.{mul_comm, mul_left_comm, mul-add}
use lib.IntN.{neg_ℤ}
use Rattle.sch_word.specs.values.Fixnum.{IsFixnum, is_fixnum}
use Rattle.sch_word.proofs.values.Fixnums.{is_fixnum_says, is_fixnum_holds}
use Rattle.sch_insn.specs.Machine.{is_negative, differ, magnitude, product_fits, product_of, shift_right_signed}
use Rattle.sch_asm.specs.Data.{FixnumWord}
use Rattle.sch_select_memory.proofs.heap.Signs.{positive, negative, not_fixnum, low_word, high_word}
use Rattle.sch_select_memory.proofs.heap.Sums.{Computes}

-- The number itself, in two's complement of 64 bits.
abbrev pub IsNumber : ℤ → ℕ → Type 0
IsNumber (pos m) w = w ≡ m
IsNumber (negsuc m) w = w + suc m ≡ 18446744073709551616

-- SAR by three leaves the number of a fixnum's word.
pub untagged : (a : ℤ) (x : ℕ) → FixnumWord a x → IsNumber a (shift_right_signed x 3)
untagged (pos m) x h =
    let hi : pos m ≤ℤ pos 1152921504606846975 = h.range.high in
    let e = low_word m x h in
    let sign = positive x (omega (arith, ints, e, hi)) in
    let q : x / 2 ^ 3 ≡ m = omega (arith, e) in
    ap (λ t. cond t (2 ^ 64 - 1 - (2 ^ 64 - 1 - x) / 2 ^ 3) (x / 2 ^ 3)) sign ∙ q
untagged (negsuc m) x h =
    let lo : negsuc 1152921504606846975 ≤ℤ negsuc m = h.range.low in
    let e = high_word m x h in
    let sign = negative x (omega (arith, ints, e, lo)) in
    let q : (2 ^ 64 - 1 - x) / 2 ^ 3 ≡ m = omega (arith, e) in
    let w : 2 ^ 64 - 1 - (2 ^ 64 - 1 - x) / 2 ^ 3 + suc m ≡ 18446744073709551616 = omega (arith, q, e) in
    ap (λ t. cond t (2 ^ 64 - 1 - (2 ^ 64 - 1 - x) / 2 ^ 3) (x / 2 ^ 3) + suc m) sign ∙ w

-- a product that is not negative
range_pos : (p : ℕ) → p < 1152921504606846976 → IsFixnum (pos p)
range_pos p lt = record { low = omega (arith, ints); high = omega (arith, ints) }

range_neg : (p : ℕ) → p ≤ 1152921504606846976 → IsFixnum (neg_ℤ (pos p))
range_neg zero le = record { low = omega (arith, ints); high = omega (arith, ints) }
range_neg (suc p) le = record { low = omega (arith, ints); high = omega (arith, ints) }

fits_pos : (p : ℕ) → nat_lt (8 * p) (2 ^ 63) ≡ is_fixnum (pos p)
fits_pos p = ⊎_elim (λ lt. yes_lt lt ∙ sym (is_fixnum_holds (pos p) (range_pos p lt)))
    (λ le. no_lt le ∙ sym (not_fixnum (pos p) (λ h. let m : pos p ≤ℤ pos 1152921504606846975 = h.high in omega (arith, ints)))) (cases_lt p 1152921504606846976)
  where
    yes_lt : p < 1152921504606846976 → nat_lt (8 * p) (2 ^ 63) ≡ true
    yes_lt lt = grind (arith, nat_tests)

    no_lt : 1152921504606846976 ≤ p → nat_lt (8 * p) (2 ^ 63) ≡ false
    no_lt le = grind (arith, nat_tests)

over_neg : (p : ℕ) → 1152921504606846976 < p → IsFixnum (neg_ℤ (pos p)) → ⊥
over_neg zero lt h = omega arith
over_neg (suc p) lt h = let l : negsuc 1152921504606846975 ≤ℤ negsuc p = h.low in omega (arith, ints)

fits_neg : (p : ℕ) → nat_le (8 * p) (2 ^ 63) ≡ is_fixnum (neg_ℤ (pos p))
fits_neg p = ⊎_elim (λ lt. no_le lt ∙ sym (not_fixnum (neg_ℤ (pos p)) (over_neg p lt))) (λ le. yes_le le ∙ sym (is_fixnum_holds (neg_ℤ (pos p)) (range_neg p le))) (cases_lt 1152921504606846976 p)
  where
    yes_le : p ≤ 1152921504606846976 → nat_le (8 * p) (2 ^ 63) ≡ true
    yes_le le = grind (arith, nat_tests)

    no_le : 1152921504606846976 < p → nat_le (8 * p) (2 ^ 63) ≡ false
    no_le lt = grind (arith, nat_tests)

-- whether the product fits, by the signs and the magnitudes
fits_by : (w y : ℕ) (s t : Bool) (m n : ℕ) → is_negative w ≡ s → is_negative y ≡ t → cond s (2 ^ 64 - w) w ≡ m → cond t (2 ^ 64 - y) y ≡ 8 * n
    → product_fits w y ≡ cond (differ s t) (nat_le (8 * (m * n)) (2 ^ 63)) (nat_lt (8 * (m * n)) (2 ^ 63))
fits_by w y s t m n e f g h =
    let one : magnitude w ≡ m = ap (λ s. cond s (2 ^ 64 - w) w) e ∙ g in
    let two : magnitude y ≡ 8 * n = ap (λ t. cond t (2 ^ 64 - y) y) f ∙ h in
    let times : magnitude w * magnitude y ≡ 8 * (m * n) = ap (λ k. k * magnitude y) one ∙ ap (λ k. m * k) two ∙ mul_left_comm m 8 n in
    ap (λ p. cond (differ (is_negative w) (is_negative y)) (nat_le p (2 ^ 63)) (nat_lt p (2 ^ 63))) times
    ∙ ap (λ s. cond (differ s (is_negative y)) (nat_le (8 * (m * n)) (2 ^ 63)) (nat_lt (8 * (m * n)) (2 ^ 63))) e
    ∙ ap (λ t. cond (differ s t) (nat_le (8 * (m * n)) (2 ^ 63)) (nat_lt (8 * (m * n)) (2 ^ 63))) f

-- the word of a product
word_pos : (p v : ℕ) → IsFixnum (pos p) → v ≡ 8 * p → FixnumWord (pos p) v
word_pos p v h e = let m : pos p ≤ℤ pos 1152921504606846975 = h.high in record { range = h; fits = omega (arith, ints, e); shifted = inl (omega (arith, ints, e)) }

word_neg : (p v : ℕ) → IsFixnum (neg_ℤ (pos p)) → v < 18446744073709551616 → (p ≡ 0 → v ≡ 0) → (0 < p → v + 8 * p ≡ 18446744073709551616) → FixnumWord (neg_ℤ (pos p)) v
word_neg zero v h f z e = record { range = h; fits = f; shifted = inl (let y = z refl in omega (arith, ints, y)) }
word_neg (suc p) v h f z e = record { range = h; fits = f; shifted = inr (let y = e (omega arith) in omega (arith, ints, y)) }

small_neg : (p : ℕ) → IsFixnum (neg_ℤ (pos p)) → p ≤ 1152921504606846976
small_neg zero h = omega arith
small_neg (suc p) h = let l : negsuc 1152921504606846975 ≤ℤ negsuc p = h.low in omega (arith, ints)

-- A fixnum, or the least one negated, which the division by -1 gives.
pub record IsNear (n : ℤ) : Type 0 where
  pub low : negsuc 1152921504606846975 ≤ℤ n
  pub high : n ≤ℤ pos 1152921504606846976

-- The word of a product, from the number of one factor and the word of the other.
pub product_computes : (a b : ℤ) (w y : ℕ) → IsNear a → IsNumber a w → FixnumWord b y → Computes (a *ℤ b) (product_of w y)
product_computes (pos m) (pos n) w y r u v =
    let la : pos m ≤ℤ pos 1152921504606846976 = r.high in
    let lb : pos n ≤ℤ pos 1152921504606846975 = v.range.high in
    let e = low_word n y v in
    let p = m * n in
    let fit : product_fits w y ≡ is_fixnum (pos p) = fits_by w y false false m n (positive w (omega (arith, ints, u, la))) (positive y (omega (arith, ints, e, lb))) u e ∙ fits_pos p in
    let prod : w * y ≡ 8 * p = ap (λ k. k * y) u ∙ ap (λ k. m * k) e ∙ mul_left_comm m 8 n in
    record {
      flag = ap (λ t. Some (not t)) fit;
      value = λ t. let h = is_fixnum_says (pos p) t in let k : pos p ≤ℤ pos 1152921504606846975 = h.high in
          word_pos p (w * y % 2 ^ 64) h (let s : p ≤ 1152921504606846975 = omega (arith, ints) in omega (arith, prod, s));
    }
product_computes (pos m) (negsuc n) w y r u v =
    let la : pos m ≤ℤ pos 1152921504606846976 = r.high in
    let lb : negsuc 1152921504606846975 ≤ℤ negsuc n = v.range.low in
    let e = high_word n y v in
    let p = m * suc n in
    let fit : product_fits w y ≡ is_fixnum (neg_ℤ (pos p)) =
    fits_by w y false true m (suc n) (positive w (omega (arith, ints, u, la))) (negative y (omega (arith, ints, e, lb))) u (omega (arith, e)) ∙ fits_neg p in
    let whole : m * y + m * (8 * suc n) ≡ m * 18446744073709551616 = sym (mul-add m y (8 * suc n)) ∙ ap (λ k. m * k) e in
    let prod : w * y + 8 * p ≡ 18446744073709551616 * m = ap (λ k. k * y + 8 * p) u ∙ ap (λ k. m * y + k) (sym (mul_left_comm m 8 (suc n))) ∙ whole ∙ mul_comm m 18446744073709551616 in
    record {
      flag = ap (λ t. Some (not t)) fit;
      value = λ t.
          let h = is_fixnum_says (neg_ℤ (pos p)) t in
          let s = small_neg p h in
          word_neg p (w * y % 2 ^ 64) h (omega arith) (λ z. omega (arith, prod, z)) (λ z. omega (arith, prod, z, s));
    }
product_computes (negsuc m) (pos n) w y r u v =
    let la : negsuc 1152921504606846975 ≤ℤ negsuc m = r.low in
    let lb : pos n ≤ℤ pos 1152921504606846975 = v.range.high in
    let e = low_word n y v in
    let p = suc m * n in
    let fit : product_fits w y ≡ is_fixnum (neg_ℤ (pos p)) =
    fits_by w y true false (suc m) n (negative w (omega (arith, ints, u, la))) (positive y (omega (arith, ints, e, lb))) (omega (arith, u)) e ∙ fits_neg p in
    let whole : y * w + y * suc m ≡ y * 18446744073709551616 = sym (mul-add y w (suc m)) ∙ ap (λ k. y * k) u in
    let part : y * suc m ≡ 8 * p = mul_comm y (suc m) ∙ ap (λ k. suc m * k) e ∙ mul_left_comm (suc m) 8 n in
    let prod : w * y + 8 * p ≡ 18446744073709551616 * y = ap (λ k. k + 8 * p) (mul_comm w y) ∙ ap (λ k. y * w + k) (sym part) ∙ whole ∙ mul_comm y 18446744073709551616 in
    record {
      flag = ap (λ t. Some (not t)) fit;
      value = λ t.
          let h = is_fixnum_says (neg_ℤ (pos p)) t in
          let s = small_neg p h in
          word_neg p (w * y % 2 ^ 64) h (omega arith) (λ z. omega (arith, prod, z)) (λ z. omega (arith, prod, z, s));
    }
product_computes (negsuc m) (negsuc n) w y r u v =
    let la : negsuc 1152921504606846975 ≤ℤ negsuc m = r.low in
    let lb : negsuc 1152921504606846975 ≤ℤ negsuc n = v.range.low in
    let e = high_word n y v in
    let p = suc m * suc n in
    let fit : product_fits w y ≡ is_fixnum (pos p) =
    fits_by w y true true (suc m) (suc n) (negative w (omega (arith, ints, u, la))) (negative y (omega (arith, ints, e, lb))) (omega (arith, u)) (omega (arith, e)) ∙ fits_pos p in
    let first : y * w + y * suc m ≡ y * 18446744073709551616 = sym (mul-add y w (suc m)) ∙ ap (λ k. y * k) u in
    let second : suc m * y + suc m * (8 * suc n) ≡ suc m * 18446744073709551616 = sym (mul-add (suc m) y (8 * suc n)) ∙ ap (λ k. suc m * k) e in
    let part : suc m * (8 * suc n) ≡ 8 * p = mul_left_comm (suc m) 8 (suc n) in
    let turned : y * suc m ≡ suc m * y = mul_comm y (suc m) in
    let swapped : w * y ≡ y * w = mul_comm w y in
    let prod : w * y + 18446744073709551616 * suc m ≡ 18446744073709551616 * y + 8 * p = omega (arith, first, second, part, turned, swapped) in
    record {
      flag = ap (λ t. Some (not t)) fit;
      value = λ t. let h = is_fixnum_says (pos p) t in let k : pos p ≤ℤ pos 1152921504606846975 = h.high in
          word_pos p (w * y % 2 ^ 64) h (let s : p ≤ 1152921504606846975 = omega (arith, ints) in omega (arith, prod, s));
    }
