-- A number that is capped at the greatest of 64 bits has the token of the whole number: the cap is no fixnum.
use Rattle.std.proofs.Common.{◌≡◌, ℕ, ◌-◌, ◌^◌, ◌<◌, ◌≤◌, ◌⊎◌, inl, inr, min, arith, sym, ◌∙◌, ap, Bool, true, false, List}
use Rattle.std.specs.Prelude.{ℤ, pos, neg_ℤ, cond, if◌then◌else◌}
use Rattle.std.specs.Str.Parse.{digits_value, starts_with_minus, without_leading_sign, signed_digits_value}
use Rattle.std.proofs.lemmas.Bool.{cases_lt}
use Rattle.std.proofs.lemmas.Bool.Decides.{nat_tests}
use Rattle.sch_read.specs.Grammar.{Plain, Huge, Bad, bad_number, integer}
use Rattle.sch_read.specs.Lexer.Numerals.{are_digits}
use Rattle.sch_read.specs.Lexer.Token.{integer_at, number_at}
use Rattle.sch_word.specs.values.Fixnum.{is_fixnum}

positive-large : (v : ℕ) → 2 ^ 64 - 1 ≤ v → is_fixnum (pos v) ≡ false
positive-large v h = grind (arith, nat_tests)

negative-large : (v : ℕ) → 2 ^ 64 - 1 ≤ v → is_fixnum (neg_ℤ (pos v)) ≡ false
negative-large v h = grind (arith, nat_tests)

huge : (at : ℕ) (z : ℤ) → is_fixnum z ≡ false → integer_at at z ≡ Huge at
huge at z h = ap (λ t. if t then Plain at (integer z) else Huge at) h

capped-positive : (at v most : ℕ) → 2 ^ 64 - 1 ≤ most → integer_at at (pos (min v most)) ≡ integer_at at (pos v)
capped-positive at v most h = go (cases_lt v most)
  where
    go : (v < most) ⊎ (most ≤ v) → integer_at at (pos (min v most)) ≡ integer_at at (pos v)
    go (inl k) = ap (λ n. integer_at at (pos n)) (let e : min v most ≡ v = omega arith in e)
    go (inr k) = huge at (pos (min v most)) (positive-large (min v most) (omega arith)) ∙ sym (huge at (pos v) (positive-large v (omega arith)))

capped-negative : (at v most : ℕ) → 2 ^ 64 - 1 ≤ most → integer_at at (neg_ℤ (pos (min v most))) ≡ integer_at at (neg_ℤ (pos v))
capped-negative at v most h = go (cases_lt v most)
  where
    go : (v < most) ⊎ (most ≤ v) → integer_at at (neg_ℤ (pos (min v most))) ≡ integer_at at (neg_ℤ (pos v))
    go (inl k) = ap (λ n. integer_at at (neg_ℤ (pos n))) (let e : min v most ≡ v = omega arith in e)
    go (inr k) = huge at (neg_ℤ (pos (min v most))) (negative-large (min v most) (omega arith)) ∙ sym (huge at (neg_ℤ (pos v)) (negative-large v (omega arith)))

capped-signed : (at : ℕ) (minus : Bool) (v most : ℕ) → 2 ^ 64 - 1 ≤ most →
    integer_at at (cond minus (neg_ℤ (pos (min v most))) (pos (min v most))) ≡ integer_at at (cond minus (neg_ℤ (pos v)) (pos v))
capped-signed at true v most h = capped-negative at v most h
capped-signed at false v most h = capped-positive at v most h

pub number-signed : (at base : ℕ) (numeral : List ℕ) (size : ℕ) → are_digits base (without_leading_sign numeral) ≡ true →
    size ≡ min (digits_value base (without_leading_sign numeral)) (2 ^ 64 - 1) →
    integer_at at (cond (starts_with_minus numeral) (neg_ℤ (pos size)) (pos size)) ≡ number_at at base numeral
number-signed at base numeral size h e =
    ap (λ n. integer_at at (cond (starts_with_minus numeral) (neg_ℤ (pos n)) (pos n))) e
    ∙ capped-signed at (starts_with_minus numeral) (digits_value base (without_leading_sign numeral)) (2 ^ 64 - 1) (omega arith)
    ∙ sym (ap (λ t. if t then integer_at at (signed_digits_value base numeral) else Bad at bad_number) h)
