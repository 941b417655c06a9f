-- The flags of a comparison of two fixnums' words: each condition of signed numbers tests what its name says.
use Rattle.std.proofs.Common.{◌≡◌, ℕ, Bool, true, false, Some, refl, sym, ap, ◌∙◌, arith, ⊎_elim, ◌&&◌}
use Rattle.std.specs.Prelude.{ℤ, pos, negsuc, ◌≤ℤ◌, ◌<ℤ◌, not, ◌||◌, ◌==◌, int_lt, int_le}
use Rattle.std.proofs.lemmas.Bool.{cases_lt, ne_eqb, and_right}
use Rattle.std.proofs.Common.{eq-eqb}
use Rattle.std.proofs.lemmas.Int.{ints}
use Rattle.sch_insn.specs.Machine.{is_negative, differ, sub64, difference_of, condition, test_of}
use Rattle.sch_asm.specs.Data.{FixnumWord}
use Rattle.sch_select_memory.proofs.heap.Signs.{IsLow, IsHigh, positive, negative, low_small, high_large}

-- ---- tests of numbers

pub is_less : (a b : ℤ) → a <ℤ b → int_lt a b ≡ true
is_less a b h = by (int_lt a b) refl
  where
    by : (t : Bool) → int_lt a b ≡ t → t ≡ true
    by true e = refl
    by false e = absurd (omega (arith, ints))

pub is_not_less : (a b : ℤ) → b ≤ℤ a → int_lt a b ≡ false
is_not_less a b h = by (int_lt a b) refl
  where
    by : (t : Bool) → int_lt a b ≡ t → t ≡ false
    by true e = absurd (omega (arith, ints))
    by false e = refl

pub is_at_most : (a b : ℤ) → a ≤ℤ b → int_le a b ≡ true
is_at_most a b h = by (int_le a b) refl
  where
    by : (t : Bool) → int_le a b ≡ t → t ≡ true
    by true e = refl
    by false e = absurd (omega (arith, ints))

is_above : (a b : ℤ) → b <ℤ a → int_le a b ≡ false
is_above a b h = by (int_le a b) refl
  where
    by : (t : Bool) → int_le a b ≡ t → t ≡ false
    by true e = absurd (omega (arith, ints))
    by false e = refl

-- b is at most a where a is not less than b
pub at_most_is : (a b : ℤ) → int_le b a ≡ not (int_lt a b)
at_most_is a b = by (int_lt a b) refl
  where
    by : (t : Bool) → int_lt a b ≡ t → int_le b a ≡ not t
    by true e = is_above b a (omega (arith, ints))
    by false e = is_at_most b a (omega (arith, ints))

or_true : (s : Bool) → ((true && s) || true) ≡ true
or_true true = refl
or_true false = refl

-- ---- less: SF and OF differ

-- by the signs of the two words and of their difference
abbrev SignDiffers : ℕ → ℕ → Bool → Type 0
SignDiffers x y t = differ (is_negative (sub64 x y)) (differ (is_negative x) (is_negative y) && differ (is_negative x) (is_negative (sub64 x y))) ≡ t

signs : (x y : ℕ) (p q r t : Bool) → is_negative x ≡ p → is_negative y ≡ q → is_negative (sub64 x y) ≡ r → differ r (differ p q && differ p r) ≡ t → SignDiffers x y t
signs x y p q r t e f g h = rw (e, f, g) h

module _ (a b : ℤ) (x y : ℕ) (u : FixnumWord a x) (v : FixnumWord b y) where
  la : negsuc 1152921504606846975 ≤ℤ a
  la = u.range.low

  ma : a ≤ℤ pos 1152921504606846975
  ma = u.range.high

  lb : negsuc 1152921504606846975 ≤ℤ b
  lb = v.range.low

  mb : b ≤ℤ pos 1152921504606846975
  mb = v.range.high

  low_low : IsLow a x → IsLow b y → SignDiffers x y (int_lt a b)
  low_low e f =
      let hx = low_small a x u.range e in
      let hy = low_small b y v.range f in
      ⊎_elim
      (λ lt. signs x y false false true (int_lt a b) (positive x hx) (positive y hy) (negative (sub64 x y) (omega arith)) (sym (is_less a b (omega (arith, ints, e, f)))))
      (λ le. signs x y false false false (int_lt a b) (positive x hx) (positive y hy) (positive (sub64 x y) (omega arith)) (sym (is_not_less a b (omega (arith, ints, e, f)))))
      (cases_lt x y)

  low_high : IsLow a x → IsHigh b y → SignDiffers x y (int_lt a b)
  low_high e f =
      let hx = low_small a x u.range e in
      let hy = high_large b y v.range f in
      let fy = v.fits in
      let no = is_not_less a b (omega (arith, ints, e, f)) in
      ⊎_elim
      (λ lt. signs x y false true false (int_lt a b) (positive x hx) (negative y hy) (positive (sub64 x y) lt) (sym no))
      (λ le. signs x y false true true (int_lt a b) (positive x hx) (negative y hy) (negative (sub64 x y) le) (sym no))
      (cases_lt (sub64 x y) 9223372036854775808)

  high_low : IsHigh a x → IsLow b y → SignDiffers x y (int_lt a b)
  high_low e f =
      let hx = high_large a x u.range e in
      let hy = low_small b y v.range f in
      let fx = u.fits in
      let yes = is_less a b (omega (arith, ints, e, f)) in
      ⊎_elim
      (λ lt. signs x y true false false (int_lt a b) (negative x hx) (positive y hy) (positive (sub64 x y) lt) (sym yes))
      (λ le. signs x y true false true (int_lt a b) (negative x hx) (positive y hy) (negative (sub64 x y) le) (sym yes))
      (cases_lt (sub64 x y) 9223372036854775808)

  high_high : IsHigh a x → IsHigh b y → SignDiffers x y (int_lt a b)
  high_high e f =
      let hx = high_large a x u.range e in
      let hy = high_large b y v.range f in
      let fx = u.fits in
      let fy = v.fits in
      ⊎_elim
      (λ lt. signs x y true true true (int_lt a b) (negative x hx) (negative y hy) (negative (sub64 x y) (omega arith)) (sym (is_less a b (omega (arith, ints, e, f)))))
      (λ le. signs x y true true false (int_lt a b) (negative x hx) (negative y hy) (positive (sub64 x y) (omega arith)) (sym (is_not_less a b (omega (arith, ints, e, f)))))
      (cases_lt x y)

  sign_differs : SignDiffers x y (int_lt a b)
  sign_differs =
      ⊎_elim (λ e. ⊎_elim (low_low e) (low_high e) v.shifted) (λ e. ⊎_elim (high_low e) (high_high e) v.shifted) u.shifted

  -- ---- equal: ZF

  same_low : IsLow a x → IsLow b y → (x ≡ y → a ≡ b) × (a ≡ b → x ≡ y)
  same_low e f = ((λ h. omega (arith, ints, e, f, h)), (λ h. omega (arith, ints, e, f, h)))

  not_low_high : IsLow a x → IsHigh b y → (x ≡ y → a ≡ b) × (a ≡ b → x ≡ y)
  not_low_high e f =
      let hx = low_small a x u.range e in let hy = high_large b y v.range f in
      ((λ h. absurd (omega (arith, h, hx, hy))), (λ h. absurd (omega (arith, ints, e, f, h, hx, hy, v.fits))))

  not_high_low : IsHigh a x → IsLow b y → (x ≡ y → a ≡ b) × (a ≡ b → x ≡ y)
  not_high_low e f =
      let hx = high_large a x u.range e in let hy = low_small b y v.range f in
      ((λ h. absurd (omega (arith, h, hx, hy))), (λ h. absurd (omega (arith, ints, e, f, h, hx, hy, u.fits))))

  same_high : IsHigh a x → IsHigh b y → (x ≡ y → a ≡ b) × (a ≡ b → x ≡ y)
  same_high e f = ((λ h. omega (arith, ints, e, f, h)), (λ h. omega (arith, ints, e, f, h)))

  -- two words are the same exactly where their numbers are
  pub same_numbers : (x ≡ y → a ≡ b) × (a ≡ b → x ≡ y)
  same_numbers =
      ⊎_elim (λ e. ⊎_elim (same_low e) (not_low_high e) v.shifted) (λ e. ⊎_elim (not_high_low e) (same_high e) v.shifted) u.shifted

  zero_tested : (sub64 x y == 0) ≡ (int_le a b && int_le b a)
  zero_tested =
      let fx = u.fits in let fy = v.fits in
      by (int_lt a b) (int_lt b a) refl refl
    where
      by : (s t : Bool) → int_lt a b ≡ s → int_lt b a ≡ t → (sub64 x y == 0) ≡ (int_le a b && int_le b a)
      by true t e f =
          let less : int_le b a ≡ false = at_most_is a b ∙ ap not e in
          let fx = u.fits in let fy = v.fits in
          ne_eqb (sub64 x y) 0 (λ z. let same : a ≡ b = same_numbers.0 (omega (arith, z, fx, fy)) in absurd (omega (arith, ints, e, same)))
          ∙ sym (and_right (int_le a b) (int_le b a) less)
      by false true e f =
          let more : int_le a b ≡ false = at_most_is b a ∙ ap not f in
          let fx = u.fits in let fy = v.fits in
          ne_eqb (sub64 x y) 0 (λ z. let same : a ≡ b = same_numbers.0 (omega (arith, z, fx, fy)) in absurd (omega (arith, ints, f, same)))
          ∙ sym (ap (λ t. t && int_le b a) more)
      by false false e f =
          let one : int_le b a ≡ true = at_most_is a b ∙ ap not e in
          let two : int_le a b ≡ true = at_most_is b a ∙ ap not f in
          let fx = u.fits in
          let same : x ≡ y = same_numbers.1 (omega (arith, ints, e, f)) in
          eq-eqb (sub64 x y) 0 (omega (arith, same, fx)) ∙ sym (rw (one, two) refl)

  -- ---- the conditions, by their numbers in Jcc

  pub tests_equal : condition (difference_of x y).flags 4 ≡ Some (int_le a b && int_le b a)
  unfolding test_of
  tests_equal = ap Some zero_tested

  pub tests_less : condition (difference_of x y).flags 12 ≡ Some (int_lt a b)
  unfolding test_of
  tests_less = ap Some sign_differs

  pub tests_greater_equal : condition (difference_of x y).flags 13 ≡ Some (int_le b a)
  unfolding test_of
  tests_greater_equal = ap (λ t. Some (not t)) sign_differs ∙ ap Some (sym (at_most_is a b))

  either_is : ((int_le a b && int_le b a) || int_lt a b) ≡ int_le a b
  either_is = by (int_lt a b) (int_lt b a) refl refl
    where
      by : (s t : Bool) → int_lt a b ≡ s → int_lt b a ≡ t → ((int_le a b && int_le b a) || int_lt a b) ≡ int_le a b
      by true true e f = absurd (omega (arith, ints, e, f))
      by true false e f = let up : int_le a b ≡ true = at_most_is b a ∙ ap not f in rw (up, e) (or_true (int_le b a))
      by false true e f = let up : int_le a b ≡ false = at_most_is b a ∙ ap not f in rw (up, e) refl
      by false false e f = let up : int_le a b ≡ true = at_most_is b a ∙ ap not f in let down : int_le b a ≡ true = at_most_is a b ∙ ap not e in rw (up, down) refl

  tests_either : ((sub64 x y == 0) || differ (is_negative (sub64 x y)) (differ (is_negative x) (is_negative y) && differ (is_negative x) (is_negative (sub64 x y)))) ≡ int_le a b
  tests_either = rw (zero_tested, sign_differs) either_is

  pub tests_less_equal : condition (difference_of x y).flags 14 ≡ Some (int_le a b)
  unfolding test_of
  tests_less_equal = ap Some tests_either

  pub tests_greater : condition (difference_of x y).flags 15 ≡ Some (int_lt b a)
  unfolding test_of
  tests_greater = ap (λ t. Some (not t)) tests_either ∙ ap Some (by (int_lt b a) refl)
    where
      by : (t : Bool) → int_lt b a ≡ t → not (int_le a b) ≡ int_lt b a
      by true e = ap not (at_most_is b a ∙ ap not e) ∙ sym e
      by false e = ap not (at_most_is b a ∙ ap not e) ∙ sym e
