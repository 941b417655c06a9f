-- Where the arguments of a call go: each to a place of its own.
use Rattle.std.proofs.Common.{◌≡◌, ◌≢◌, ℕ, zero, suc, ◌+◌, Option, Some, None, Bool, true, false, cond, refl, sym, ap, ◌∙◌, subst, arith}
use Rattle.std.specs.Prelude.{nat_eq}
use Rattle.std.proofs.lemmas.Bool.{ne_eqb}
use Rattle.std.specs.Option.{unwrap_or}
use Rattle.sch_word.specs.declared.place.Place.TheVariants.{Reg}
use Rattle.sch_control.specs.flow.Places.{argument_register, argument_slot, register_or_slot}
use Rattle.sch_control.proofs.RegisterOrSlot.{arrival_by}
use Rattle.sch_word.specs.values.Places.{same_place}
use Rattle.sch_frames.proofs.FramePlaces.{slot_of}
use Rattle.sch_layout.specs.BodyLayout.{target}

-- the operand that a register has
abbrev operand_in : ℕ → ℕ
operand_in r = cond (nat_eq r 3) 0 (cond (nat_eq r 8) 1 (cond (nat_eq r 9) 2 (cond (nat_eq r 10) 3 (cond (nat_eq r 6) 4 5))))

-- what is so of the register of each operand that has one
each_register : (P : ℕ → ℕ → Type 0) → P 0 3 → P 1 8 → P 2 9 → P 3 10 → P 4 6 → P 5 7 → (k r : ℕ) → argument_register k ≡ Some r → P k r
each_register P a b c d e f zero r h = subst (P 0) (ap (λ o. unwrap_or o 0) h) a
each_register P a b c d e f (suc zero) r h = subst (P 1) (ap (λ o. unwrap_or o 0) h) b
each_register P a b c d e f (suc (suc zero)) r h = subst (P 2) (ap (λ o. unwrap_or o 0) h) c
each_register P a b c d e f (suc (suc (suc zero))) r h = subst (P 3) (ap (λ o. unwrap_or o 0) h) d
each_register P a b c d e f (suc (suc (suc (suc zero)))) r h = subst (P 4) (ap (λ o. unwrap_or o 0) h) e
each_register P a b c d e f (suc (suc (suc (suc (suc zero))))) r h = subst (P 5) (ap (λ o. unwrap_or o 0) h) f
each_register P a b c d e f (suc (suc (suc (suc (suc (suc k)))))) r h = absurd cc

operand_of : (k r : ℕ) → argument_register k ≡ Some r → operand_in r ≡ k
operand_of = each_register (λ k r. operand_in r ≡ k) refl refl refl refl refl refl

not_closure : (k r : ℕ) → argument_register k ≡ Some r → nat_eq r 14 ≡ false
not_closure = each_register (λ k r. nat_eq r 14 ≡ false) refl refl refl refl refl refl

not_closure' : (k r : ℕ) → argument_register k ≡ Some r → nat_eq 14 r ≡ false
not_closure' = each_register (λ k r. nat_eq 14 r ≡ false) refl refl refl refl refl refl

-- where the slots of operands begin
abbrev first_slot : (tail : Bool) → (limit : ℕ) → ℕ
first_slot true limit = 0
first_slot false limit = limit

target_by : (tail : Bool) (limit k : ℕ) → target tail limit (suc k) ≡ register_or_slot (argument_register k) (first_slot tail limit + argument_slot k)
target_by true limit k = arrival_by k ∙ ap (register_or_slot (argument_register k)) at_zero where
  at_zero : argument_slot k ≡ first_slot true limit + argument_slot k
  at_zero = omega arith
target_by false limit k = refl

pub targets_apart : (tail : Bool) (limit k m : ℕ) → k ≢ m → same_place (target tail limit k) (target tail limit m) ≡ false
targets_apart tail limit zero zero n = absurd (n refl)
targets_apart tail limit zero (suc m) n = ap (same_place (Reg 14)) (target_by tail limit m) ∙ by (argument_register m) refl where
  by : (o : Option ℕ) → argument_register m ≡ o → same_place (Reg 14) (register_or_slot o (first_slot tail limit + argument_slot m)) ≡ false
  by (Some r) e = not_closure' m r e
  by None e = refl
targets_apart tail limit (suc k) zero n = ap (λ p. same_place p (Reg 14)) (target_by tail limit k) ∙ by (argument_register k) refl where
  by : (o : Option ℕ) → argument_register k ≡ o → same_place (register_or_slot o (first_slot tail limit + argument_slot k)) (Reg 14) ≡ false
  by (Some r) e = not_closure k r e
  by None e = refl
targets_apart tail limit (suc k) (suc m) n =
    ap (λ p. same_place p (target tail limit (suc m))) (target_by tail limit k)
    ∙ (ap (same_place (register_or_slot (argument_register k) (first_slot tail limit + argument_slot k))) (target_by tail limit m) ∙ by (argument_register k) (argument_register m) refl refl) where
      by : (o p : Option ℕ) → argument_register k ≡ o → argument_register m ≡ p → same_place (register_or_slot o (first_slot tail limit + argument_slot k)) (register_or_slot p (first_slot tail limit + argument_slot m)) ≡ false
      by (Some r) (Some r') e e' = ne_eqb r r' (λ i. n (ap suc (sym (operand_of k r e) ∙ (ap operand_in i ∙ operand_of m r' e'))))
      by (Some r) None e e' = refl
      by None (Some r') e e' = refl
      by None None e e' = let a = slot_of k e in let b = slot_of m e' in ne_eqb _ _ (λ i. n (omega (arith, a, b, i)))
