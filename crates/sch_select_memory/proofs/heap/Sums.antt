-- The sum and the difference of two fixnums' words, and the flag of overflow, which is set exactly where
-- the result is no fixnum.
use Rattle.std.proofs.Common.{◌≡◌, ℕ, ◌+◌, ◌^◌, ◌<◌, Bool, true, false, Some, refl, sym, ap, ◌∙◌, arith, ⊎_elim, inl, inr, ◌&&◌}
use Rattle.std.specs.Prelude.{ℤ, ◌+ℤ◌, ◌-ℤ◌, not}
use Rattle.std.proofs.lemmas.Bool.{cases_lt}
use Rattle.std.proofs.lemmas.Int.{ints}
use Rattle.sch_word.specs.values.Fixnum.{IsFixnum, is_fixnum}
use Rattle.sch_word.proofs.values.Fixnums.{is_fixnum_holds}
use Rattle.sch_insn.specs.Machine.{Computed, is_negative, differ, add64, sub64, sum_of, difference_of}
use Rattle.sch_asm.specs.Data.{IsShifted, FixnumWord}
use Rattle.sch_select_memory.proofs.heap.Signs.{IsLow, IsHigh, positive, negative, not_fixnum, least, most, low_small, high_large}

-- What was computed is the word of a number, and overflow is set where that is no fixnum.
pub record Computes (n : ℤ) (c : Computed) : Type 0 where
  pub flag : c.flags.overflow ≡ Some (not (is_fixnum n))
  pub value : is_fixnum n ≡ true → FixnumWord n c.value

within : (n : ℤ) (c : Computed) → c.flags.overflow ≡ Some false → IsFixnum n → c.value < 2 ^ 64 → IsShifted n c.value → Computes n c
within n c flag range fits shifted = record {
  flag = flag ∙ ap (λ b. Some (not b)) (sym (is_fixnum_holds n range));
  value = λ yes. record { range = range; fits = fits; shifted = shifted };
}

outside : (n : ℤ) (c : Computed) → c.flags.overflow ≡ Some true → (IsFixnum n → ⊥) → Computes n c
outside n c flag range =
    let bad = not_fixnum n range in
    record {
      flag = flag ∙ ap (λ b. Some (not b)) (sym bad);
      value = λ yes. absurd (let w : false ≡ true = sym bad ∙ yes in cc);
    }

-- ---- sums

sum_flag : (x y : ℕ) (p q r : Bool) → is_negative x ≡ p → is_negative y ≡ q → is_negative (add64 x y) ≡ r → (sum_of x y).flags.overflow ≡ Some (not (differ p q) && differ p r)
sum_flag x y p q r e f g = rw (e, f, g) refl

sum_low_low : (a b : ℤ) (x y : ℕ) → IsFixnum a → IsFixnum b → IsLow a x → IsLow b y → Computes (a +ℤ b) (sum_of x y)
sum_low_low a b x y ra rb e f =
    let hx = low_small a x ra e in
    let hy = low_small b y rb f in
    let la = least a ra in
    let lb = least b rb in
    let w : add64 x y ≡ x + y = omega arith in
    ⊎_elim
    (λ lt. within (a +ℤ b) (sum_of x y) (sum_flag x y false false false (positive x hx) (positive y hy) (positive (add64 x y) (omega arith)))
    (record { low = omega (arith, ints); high = omega (arith, ints) }) (omega arith) (inl (omega (arith, ints))))
    (λ le. outside (a +ℤ b) (sum_of x y) (sum_flag x y false false true (positive x hx) (positive y hy) (negative (add64 x y) (omega arith))) (λ r. let m = most (a +ℤ b) r in omega (arith, ints)))
    (cases_lt (x + y) 9223372036854775808)

sum_low_high : (a b : ℤ) (x y : ℕ) → IsFixnum a → IsFixnum b → x < 2 ^ 64 → y < 2 ^ 64 → IsLow a x → IsHigh b y → Computes (a +ℤ b) (sum_of x y)
sum_low_high a b x y ra rb fx fy e f =
    let hx = low_small a x ra e in
    let hy = high_large b y rb f in
    let la = least a ra in let lb = least b rb in let ma = most a ra in let mb = most b rb in
    let range : IsFixnum (a +ℤ b) = record { low = omega (arith, ints); high = omega (arith, ints) } in
    ⊎_elim
    (λ lt. let w : add64 x y ≡ x + y = omega arith in
    within (a +ℤ b) (sum_of x y) (sum_flag x y false true true (positive x hx) (negative y hy) (negative (add64 x y) (omega arith))) range (omega arith) (inr (omega (arith, ints))))
    (λ le. let w : add64 x y + 18446744073709551616 ≡ x + y = omega arith in
    within (a +ℤ b) (sum_of x y) (sum_flag x y false true false (positive x hx) (negative y hy) (positive (add64 x y) (omega arith))) range (omega arith) (inl (omega (arith, ints))))
    (cases_lt (x + y) 18446744073709551616)

sum_high_low : (a b : ℤ) (x y : ℕ) → IsFixnum a → IsFixnum b → x < 2 ^ 64 → y < 2 ^ 64 → IsHigh a x → IsLow b y → Computes (a +ℤ b) (sum_of x y)
sum_high_low a b x y ra rb fx fy e f =
    let hx = high_large a x ra e in
    let hy = low_small b y rb f in
    let la = least a ra in let lb = least b rb in let ma = most a ra in let mb = most b rb in
    let range : IsFixnum (a +ℤ b) = record { low = omega (arith, ints); high = omega (arith, ints) } in
    ⊎_elim
    (λ lt. let w : add64 x y ≡ x + y = omega arith in
    within (a +ℤ b) (sum_of x y) (sum_flag x y true false true (negative x hx) (positive y hy) (negative (add64 x y) (omega arith))) range (omega arith) (inr (omega (arith, ints))))
    (λ le. let w : add64 x y + 18446744073709551616 ≡ x + y = omega arith in
    within (a +ℤ b) (sum_of x y) (sum_flag x y true false false (negative x hx) (positive y hy) (positive (add64 x y) (omega arith))) range (omega arith) (inl (omega (arith, ints))))
    (cases_lt (x + y) 18446744073709551616)

sum_high_high : (a b : ℤ) (x y : ℕ) → IsFixnum a → IsFixnum b → x < 2 ^ 64 → y < 2 ^ 64 → IsHigh a x → IsHigh b y → Computes (a +ℤ b) (sum_of x y)
sum_high_high a b x y ra rb fx fy e f =
    let hx = high_large a x ra e in
    let hy = high_large b y rb f in
    let la = least a ra in let lb = least b rb in let ma = most a ra in let mb = most b rb in
    let w : add64 x y + 18446744073709551616 ≡ x + y = omega arith in
    ⊎_elim
    (λ lt. outside (a +ℤ b) (sum_of x y) (sum_flag x y true true false (negative x hx) (negative y hy) (positive (add64 x y) (omega arith))) (λ r. let m = least (a +ℤ b) r in omega (arith, ints)))
    (λ le. within (a +ℤ b) (sum_of x y) (sum_flag x y true true true (negative x hx) (negative y hy) (negative (add64 x y) (omega arith)))
    (record { low = omega (arith, ints); high = omega (arith, ints) }) (omega arith) (inr (omega (arith, ints))))
    (cases_lt (add64 x y) 9223372036854775808)

-- The word of a sum.
pub sum_computes : (a b : ℤ) (x y : ℕ) → FixnumWord a x → FixnumWord b y → Computes (a +ℤ b) (sum_of x y)
sum_computes a b x y u v =
    ⊎_elim
    (λ e. ⊎_elim (λ f. sum_low_low a b x y u.range v.range e f) (λ f. sum_low_high a b x y u.range v.range u.fits v.fits e f) v.shifted)
    (λ e. ⊎_elim (λ f. sum_high_low a b x y u.range v.range u.fits v.fits e f) (λ f. sum_high_high a b x y u.range v.range u.fits v.fits e f) v.shifted)
    u.shifted

-- ---- differences

difference_flag : (x y : ℕ) (p q r : Bool) → is_negative x ≡ p → is_negative y ≡ q → is_negative (sub64 x y) ≡ r → (difference_of x y).flags.overflow ≡ Some (differ p q && differ p r)
difference_flag x y p q r e f g = rw (e, f, g) refl

difference_low_low : (a b : ℤ) (x y : ℕ) → IsFixnum a → IsFixnum b → IsLow a x → IsLow b y → Computes (a -ℤ b) (difference_of x y)
difference_low_low a b x y ra rb e f =
    let hx = low_small a x ra e in
    let hy = low_small b y rb f in
    let la = least a ra in let lb = least b rb in let ma = most a ra in let mb = most b rb in
    let range : IsFixnum (a -ℤ b) = record { low = omega (arith, ints); high = omega (arith, ints) } in
    ⊎_elim
    (λ lt. let w : sub64 x y + y ≡ x + 18446744073709551616 = omega arith in
    within (a -ℤ b) (difference_of x y) (difference_flag x y false false true (positive x hx) (positive y hy) (negative (sub64 x y) (omega arith))) range (omega arith) (inr (omega (arith, ints))))
    (λ le. let w : sub64 x y + y ≡ x = omega arith in
    within (a -ℤ b) (difference_of x y) (difference_flag x y false false false (positive x hx) (positive y hy) (positive (sub64 x y) (omega arith))) range (omega arith) (inl (omega (arith, ints))))
    (cases_lt x y)

difference_low_high : (a b : ℤ) (x y : ℕ) → IsFixnum a → IsFixnum b → x < 2 ^ 64 → y < 2 ^ 64 → IsLow a x → IsHigh b y → Computes (a -ℤ b) (difference_of x y)
difference_low_high a b x y ra rb fx fy e f =
    let hx = low_small a x ra e in
    let hy = high_large b y rb f in
    let la = least a ra in let lb = least b rb in let ma = most a ra in let mb = most b rb in
    let w : sub64 x y + y ≡ x + 18446744073709551616 = omega arith in
    ⊎_elim
    (λ lt. within (a -ℤ b) (difference_of x y) (difference_flag x y false true false (positive x hx) (negative y hy) (positive (sub64 x y) lt))
    (record { low = omega (arith, ints); high = omega (arith, ints) }) (omega arith) (inl (omega (arith, ints))))
    (λ le. outside (a -ℤ b) (difference_of x y) (difference_flag x y false true true (positive x hx) (negative y hy) (negative (sub64 x y) le)) (λ r. let m = most (a -ℤ b) r in omega (arith, ints)))
    (cases_lt (sub64 x y) 9223372036854775808)

difference_high_low : (a b : ℤ) (x y : ℕ) → IsFixnum a → IsFixnum b → x < 2 ^ 64 → y < 2 ^ 64 → IsHigh a x → IsLow b y → Computes (a -ℤ b) (difference_of x y)
difference_high_low a b x y ra rb fx fy e f =
    let hx = high_large a x ra e in
    let hy = low_small b y rb f in
    let la = least a ra in let lb = least b rb in let ma = most a ra in let mb = most b rb in
    let w : sub64 x y + y ≡ x = omega arith in
    ⊎_elim
    (λ lt. outside (a -ℤ b) (difference_of x y) (difference_flag x y true false false (negative x hx) (positive y hy) (positive (sub64 x y) lt)) (λ r. let m = least (a -ℤ b) r in omega (arith, ints)))
    (λ le. within (a -ℤ b) (difference_of x y) (difference_flag x y true false true (negative x hx) (positive y hy) (negative (sub64 x y) le))
    (record { low = omega (arith, ints); high = omega (arith, ints) }) (omega arith) (inr (omega (arith, ints))))
    (cases_lt (sub64 x y) 9223372036854775808)

difference_high_high : (a b : ℤ) (x y : ℕ) → IsFixnum a → IsFixnum b → x < 2 ^ 64 → y < 2 ^ 64 → IsHigh a x → IsHigh b y → Computes (a -ℤ b) (difference_of x y)
difference_high_high a b x y ra rb fx fy e f =
    let hx = high_large a x ra e in
    let hy = high_large b y rb f in
    let la = least a ra in let lb = least b rb in let ma = most a ra in let mb = most b rb in
    let range : IsFixnum (a -ℤ b) = record { low = omega (arith, ints); high = omega (arith, ints) } in
    ⊎_elim
    (λ lt. let w : sub64 x y + y ≡ x + 18446744073709551616 = omega arith in
    within (a -ℤ b) (difference_of x y) (difference_flag x y true true true (negative x hx) (negative y hy) (negative (sub64 x y) (omega arith))) range (omega arith) (inr (omega (arith, ints))))
    (λ le. let w : sub64 x y + y ≡ x = omega arith in
    within (a -ℤ b) (difference_of x y) (difference_flag x y true true false (negative x hx) (negative y hy) (positive (sub64 x y) (omega arith))) range (omega arith) (inl (omega (arith, ints))))
    (cases_lt x y)

-- The word of a difference.
pub difference_computes : (a b : ℤ) (x y : ℕ) → FixnumWord a x → FixnumWord b y → Computes (a -ℤ b) (difference_of x y)
difference_computes a b x y u v =
    ⊎_elim
    (λ e. ⊎_elim (λ f. difference_low_low a b x y u.range v.range e f) (λ f. difference_low_high a b x y u.range v.range u.fits v.fits e f) v.shifted)
    (λ e. ⊎_elim (λ f. difference_high_low a b x y u.range v.range u.fits v.fits e f) (λ f. difference_high_high a b x y u.range v.range u.fits v.fits e f) v.shifted)
    u.shifted
