-- What the conditions of jumps say after `cmp` of a word and zero.
use Rattle.std.proofs.Common.{◌≡◌, ℕ, ◌^◌, ◌<◌, ◌≤◌, Some, Bool, true, false, refl, ap, ◌∙◌, arith, ◌==◌, ◌&&◌, ◌||◌}
use Rattle.std.specs.Prelude.{not}
use Rattle.std.proofs.lemmas.Bool.{ne_eqb}
use Rattle.std.proofs.lemmas.Bool.Decides.{nat_tests}
use Rattle.sch_insn.specs.declared.condition.TheConstants.{E, NE, GE, LE}
use Rattle.sch_insn.specs.Machine.{sub64, is_negative, differ, difference_of, condition}
use Rattle.sch_insn.proofs.Conditions.{compared_e, compared_ne, on_ge, on_le}

-- ---- signs

pub is_low : (a : ℕ) → a < 2 ^ 63 → is_negative a ≡ false
is_low a low = grind (arith, nat_tests)

pub is_high : (a : ℕ) → 2 ^ 63 ≤ a → is_negative a ≡ true
is_high a high = grind (arith, nat_tests)

-- ---- conditions

pub e_zero : (a : ℕ) → a < 2 ^ 64 → condition (difference_of a 0).flags E ≡ Some (a == 0)
e_zero a lt = compared_e a 0 lt (omega arith)

pub ne_zero : (a : ℕ) → a < 2 ^ 64 → condition (difference_of a 0).flags NE ≡ Some (not (a == 0))
ne_zero a lt = compared_ne a 0 lt (omega arith)

-- less than zero is what has the sign
less : (a : ℕ) (s : Bool) → a < 2 ^ 64 → is_negative a ≡ s → differ (is_negative (sub64 a 0)) (differ (is_negative a) false && differ (is_negative a) (is_negative (sub64 a 0))) ≡ s
less a s lt e =
    let same : sub64 a 0 ≡ a = omega (arith, lt) in
    ap (λ u. differ (is_negative u) (differ (is_negative a) false && differ (is_negative a) (is_negative u))) same
    ∙ ap (λ b. differ b (differ b false && differ b b)) e
    ∙ by s
  where
    by : (s : Bool) → differ s (differ s false && differ s s) ≡ s
    by true = refl
    by false = refl

pub ge_zero : (a : ℕ) (s : Bool) → a < 2 ^ 64 → is_negative a ≡ s → condition (difference_of a 0).flags GE ≡ Some (not s)
ge_zero a s lt e = on_ge (difference_of a 0).flags ∙ ap (λ b. Some (not b)) (less a s lt e)

pub le_zero : (a : ℕ) (s : Bool) → a < 2 ^ 64 → is_negative a ≡ s → condition (difference_of a 0).flags LE ≡ Some ((a == 0) || s)
le_zero a s lt e =
    let same : sub64 a 0 ≡ a = omega (arith, lt) in
    on_le (difference_of a 0).flags
    ∙ ap (λ b. Some ((sub64 a 0 == 0) || b)) (less a s lt e)
    ∙ ap (λ u. Some ((u == 0) || s)) same

-- a number from 1 to 2^63 - 1 is greater than zero
pub passes_le : (a : ℕ) → 0 < a → a < 2 ^ 63 → condition (difference_of a 0).flags LE ≡ Some false
passes_le a some low = le_zero a false (omega (arith, low)) (is_low a low) ∙ ap (λ t. Some (t || false)) (ne_eqb a 0 (λ e. omega arith))
