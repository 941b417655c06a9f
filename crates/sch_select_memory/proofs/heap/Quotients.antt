-- What the division of two fixnums' words gives: the quotient's number, and the remainder's word.
use Rattle.std.proofs.Common.{◌≡◌, ℕ, zero, suc, ◌+◌, ◌-◌, ◌*◌, ◌^◌, ◌<◌, ◌≤◌, ◌%◌, ◌/◌, Bool, true, false, cond, refl, ap, ◌∙◌, subst, arith, inl, inr, ◌==◌}
use Rattle.std.specs.Prelude.{ℤ, pos, negsuc, ◌*ℤ◌, ◌≤ℤ◌, nat_le, nat_lt, int_div, int_rem, Ok}
use Rattle.std.proofs.lemmas.Bool.{ne_eqb}
use Rattle.std.proofs.lemmas.Bool.Decides.{nat_tests}
use Rattle.std.proofs.lemmas.Int.{ints}
use Rattle.std.proofs.Math.Nat.{mul-div-mul_left, div-le_self, div-add-mod', mul_left_comm}
use lib.IntN.{neg_ℤ}
use Rattle.sch_insn.specs.Machine.{is_negative, differ, magnitude, signed, product_of}
use Rattle.sch_insn.specs.Step.{quotient_of, dividend_magnitude, is_quotient, sign_word}
use Rattle.sch_asm.specs.Data.{FixnumWord}
use Rattle.sch_select_memory.proofs.heap.Signs.{positive, negative, low_word, high_word}
use Rattle.sch_select_memory.proofs.heap.Sums.{Computes}
use Rattle.sch_select_memory.proofs.heap.Products.{IsNear, IsNumber, product_computes}

-- a multiple of eight by another
part : (m n : ℕ) → 8 * m / (8 * n) ≡ m / n
part m n = mul-div-mul_left m n (omega arith)

left : (m n : ℕ) → 8 * m % (8 * n) ≡ 8 * (m % n)
left m n =
    let d = div-add-mod' (8 * m) (8 * n) in
    let e = div-add-mod' m n in
    let same : 8 * m / (8 * n) * (8 * n) ≡ 8 * (m / n * n) = ap (λ k. k * (8 * n)) (part m n) ∙ mul_left_comm (m / n) 8 n in
    omega (arith, d, e, same)

pos_word : (m x : ℕ) → FixnumWord (pos m) x → (x ≡ 8 * m) × (x < 9223372036854775808)
pos_word m x h = let e = low_word m x h in let hi : pos m ≤ℤ pos 1152921504606846975 = h.range.high in (e, omega (arith, ints, e, hi))

neg_word : (m x : ℕ) → FixnumWord (negsuc m) x → (x + 8 * suc m ≡ 18446744073709551616) × (9223372036854775808 ≤ x)
neg_word m x h = let e = high_word m x h in let lo : negsuc 1152921504606846975 ≤ℤ negsuc m = h.range.low in (e, omega (arith, ints, e, lo))

-- what is divided, by its sign
dividend : (x m : ℕ) (s : Bool) → is_negative x ≡ s → cond s (18446744073709551616 - x) x ≡ m → x < 18446744073709551616 → dividend_magnitude (sign_word x) x ≡ m
dividend x m true e f lt =
    let w : sign_word x ≡ 2 ^ 64 - 1 = ap (λ s. cond s (2 ^ 64 - 1) 0) e in
    ap (λ h. dividend_magnitude h x) w ∙ (let g : 2 ^ 128 - (2 ^ 64 * (2 ^ 64 - 1) + x) ≡ m = omega (arith, f, lt) in g)
dividend x m false e f lt =
    let w : sign_word x ≡ 0 = ap (λ s. cond s (2 ^ 64 - 1) 0) e in
    ap (λ h. dividend_magnitude h x) w ∙ (let g : 2 ^ 64 * 0 + x ≡ m = omega (arith, f) in g)

sign_of_sign : (x : ℕ) (s : Bool) → is_negative x ≡ s → is_negative (sign_word x) ≡ s
sign_of_sign x true e = ap (λ s. is_negative (cond s (2 ^ 64 - 1) 0)) e
sign_of_sign x false e = ap (λ s. is_negative (cond s (2 ^ 64 - 1) 0)) e

fits_quotient : (t : Bool) (q : ℕ) → q ≤ 1152921504606846976 → is_quotient t q ≡ true
fits_quotient true q le = go le
  where
    go : q ≤ 1152921504606846976 → nat_le q (2 ^ 63) ≡ true
    go le = grind (arith, nat_tests)
fits_quotient false q le = go le
  where
    go : q ≤ 1152921504606846976 → nat_lt q (2 ^ 63) ≡ true
    go le = grind (arith, nat_tests)

-- by signs and magnitudes
pub divides_by : (x y m n : ℕ) (s t : Bool) → is_negative x ≡ s → is_negative y ≡ t → cond s (18446744073709551616 - x) x ≡ 8 * m → cond t (18446744073709551616 - y) y ≡ 8 * n
    → x < 18446744073709551616 → 0 < y → m ≤ 1152921504606846976 →
    quotient_of (sign_word x) x y ≡ Ok (signed (differ s t) (m / n), signed s (8 * (m % n)))
divides_by x y m n s t e f g h lt some small =
    let up = dividend x (8 * m) s e g lt in
    let down : magnitude y ≡ 8 * n = ap (λ t. cond t (2 ^ 64 - y) y) f ∙ h in
    let q : dividend_magnitude (sign_word x) x / magnitude y ≡ m / n = ap (λ k. k / magnitude y) up ∙ ap (λ k. 8 * m / k) down ∙ part m n in
    let r : dividend_magnitude (sign_word x) x % magnitude y ≡ 8 * (m % n) = ap (λ k. k % magnitude y) up ∙ ap (λ k. 8 * m % k) down ∙ left m n in
    let nonzero : (y == 0) ≡ false = ne_eqb y 0 (λ z. omega arith) in
    let signs : differ (is_negative (sign_word x)) (is_negative y) ≡ differ s t = ap (λ s. differ s (is_negative y)) (sign_of_sign x s e) ∙ ap (differ s) f in
    let le : m / n ≤ 1152921504606846976 = (let d = div-le_self m n in omega arith) in
    let fit = fits_quotient (differ s t) (m / n) le in
    rw (nonzero, q, r, signs, sign_of_sign x s e, fit) refl

-- What is divided is done: the number of the quotient and the word of the remainder.
pub record Divides (a b : ℤ) (x y : ℕ) : Type 0 where
  pub quotient : ℕ
  pub remainder : ℕ
  pub is : quotient_of (sign_word x) x y ≡ Ok (quotient, remainder)
  pub near : IsNear (int_div a b)
  pub number : IsNumber (int_div a b) quotient
  pub word : FixnumWord (int_rem a b) remainder

negative_number : (p : ℕ) → p ≤ 1152921504606846976 → IsNumber (neg_ℤ (pos p)) (signed true p)
negative_number zero le = refl
negative_number (suc p) le = omega arith

negative_near : (p : ℕ) → p ≤ 1152921504606846976 → IsNear (neg_ℤ (pos p))
negative_near zero le = record { low = omega (arith, ints); high = omega (arith, ints) }
negative_near (suc p) le = record { low = omega (arith, ints); high = omega (arith, ints) }

pub positive_word : (p : ℕ) → p ≤ 1152921504606846975 → FixnumWord (pos p) (8 * p)
positive_word p le = record {
  range = record { low = omega (arith, ints); high = omega (arith, ints, le) };
  fits = omega arith;
  shifted = inl (omega (arith, ints));
}

negative_word : (p : ℕ) → p ≤ 1152921504606846976 → FixnumWord (neg_ℤ (pos p)) (signed true (8 * p))
negative_word zero le = record {
  range = record { low = omega (arith, ints); high = omega (arith, ints) };
  fits = omega arith;
  shifted = inl (omega (arith, ints));
}
negative_word (suc p) le =
    let e : signed true (8 * suc p) + 8 * suc p ≡ 18446744073709551616 = omega arith in
    record {
      range = record { low = omega (arith, ints, le); high = omega (arith, ints) };
      fits = omega arith;
      shifted = inr (omega (arith, ints, e));
    }

pub divides : (a b : ℤ) (x y : ℕ) → FixnumWord a x → FixnumWord b y → 0 < y → Divides a b x y
divides (pos m) (pos n) x y u v some =
    let e = pos_word m x u in let f = pos_word n y v in
    let hi : pos m ≤ℤ pos 1152921504606846975 = u.range.high in
    let small : m ≤ 1152921504606846975 = omega (arith, ints) in
    let q : m / n ≤ 1152921504606846975 = (let d = div-le_self m n in omega arith) in
    let r : m % n ≤ 1152921504606846975 = (let w = div-add-mod' m n in omega (arith, w, small)) in
    record {
      quotient = m / n;
      remainder = 8 * (m % n);
      is = divides_by x y m n false false (positive x e.1) (positive y f.1) e.0 f.0 u.fits some (omega arith);
      near = record { low = omega (arith, ints); high = omega (arith, ints, q) };
      number = refl;
      word = positive_word (m % n) r;
    }
divides (pos m) (negsuc n) x y u v some =
    let e = pos_word m x u in let f = neg_word n y v in
    let hi : pos m ≤ℤ pos 1152921504606846975 = u.range.high in
    let small : m ≤ 1152921504606846975 = omega (arith, ints) in
    let q : m / suc n ≤ 1152921504606846976 = (let d = div-le_self m (suc n) in omega arith) in
    let r : m % suc n ≤ 1152921504606846975 = (let w = div-add-mod' m (suc n) in omega (arith, w, small)) in
    record {
      quotient = signed true (m / suc n);
      remainder = 8 * (m % suc n);
      is = divides_by x y m (suc n) false true (positive x e.1) (negative y f.1) e.0 (omega (arith, f.0)) u.fits some (omega arith);
      near = negative_near (m / suc n) q;
      number = negative_number (m / suc n) q;
      word = positive_word (m % suc n) r;
    }
divides (negsuc m) (pos n) x y u v some =
    let e = neg_word m x u in let f = pos_word n y v in
    let lo : negsuc 1152921504606846975 ≤ℤ negsuc m = u.range.low in
    let small : suc m ≤ 1152921504606846976 = omega (arith, ints) in
    let q : suc m / n ≤ 1152921504606846976 = (let d = div-le_self (suc m) n in omega arith) in
    let r : suc m % n ≤ 1152921504606846976 = (let w = div-add-mod' (suc m) n in omega (arith, w, small)) in
    record {
      quotient = signed true (suc m / n);
      remainder = signed true (8 * (suc m % n));
      is = divides_by x y (suc m) n true false (negative x e.1) (positive y f.1) (omega (arith, e.0)) f.0 u.fits some small;
      near = negative_near (suc m / n) q;
      number = negative_number (suc m / n) q;
      word = negative_word (suc m % n) r;
    }
divides (negsuc m) (negsuc n) x y u v some =
    let e = neg_word m x u in let f = neg_word n y v in
    let lo : negsuc 1152921504606846975 ≤ℤ negsuc m = u.range.low in
    let small : suc m ≤ 1152921504606846976 = omega (arith, ints) in
    let q : suc m / suc n ≤ 1152921504606846976 = (let d = div-le_self (suc m) (suc n) in omega arith) in
    let r : suc m % suc n ≤ 1152921504606846976 = (let w = div-add-mod' (suc m) (suc n) in omega (arith, w, small)) in
    record {
      quotient = suc m / suc n;
      remainder = signed true (8 * (suc m % suc n));
      is = divides_by x y (suc m) (suc n) true true (negative x e.1) (negative y f.1) (omega (arith, e.0)) (omega (arith, f.0)) u.fits some small;
      near = record { low = omega (arith, ints); high = omega (arith, ints, q) };
      number = refl;
      word = negative_word (suc m % suc n) r;
    }

times_one : (n : ℤ) → n *ℤ pos 1 ≡ n
times_one (pos m) = ap pos (omega arith)
times_one (negsuc m) = omega (arith, ints)

one_word : FixnumWord (pos 1) 8
one_word = positive_word 1 (omega arith)

-- The word of a quotient: its number times eight, and overflow where it is no fixnum.
pub quotient_computes : (a b : ℤ) (x y : ℕ) (d : Divides a b x y) → Computes (int_div a b) (product_of d.quotient 8)
quotient_computes a b x y d =
    subst (λ n. Computes n (product_of d.quotient 8)) (times_one (int_div a b)) (product_computes (int_div a b) (pos 1) d.quotient 8 d.near d.number one_word)
