-- What the conditions of jumps test: which flags, and how two words compare after `cmp`.
use Rattle.std.proofs.Common.{◌≡◌, ℕ, ◌^◌, ◌<◌, Some, refl, ap, ◌∙◌, ⊎_elim, arith, ◌==◌, ◌||◌}
use Rattle.std.specs.Prelude.{not, nat_lt, nat_le}
use Rattle.std.proofs.lemmas.Bool.{cases_lt}
use Rattle.std.proofs.lemmas.Bool.Decides.{nat_tests}
use Rattle.sch_insn.specs.declared.condition.TheConstants.{O, NO, B, AE, E, NE, BE, A, S, NS, L, GE, LE, G}
use Rattle.sch_insn.specs.declared.state.Flags.{Flags}
use Rattle.sch_insn.specs.Machine.{sub64, differ, difference_of, both, negated, test_of, condition}

-- ---- which flags

pub on_o : (f : Flags) → condition f O ≡ f.overflow
unfolding test_of
on_o f = refl

pub on_no : (f : Flags) → condition f NO ≡ negated f.overflow
unfolding test_of
on_no f = refl

pub on_b : (f : Flags) → condition f B ≡ f.carry
unfolding test_of
on_b f = refl

pub on_ae : (f : Flags) → condition f AE ≡ negated f.carry
unfolding test_of
on_ae f = refl

pub on_e : (f : Flags) → condition f E ≡ f.zero
unfolding test_of
on_e f = refl

pub on_ne : (f : Flags) → condition f NE ≡ negated f.zero
unfolding test_of
on_ne f = refl

pub on_be : (f : Flags) → condition f BE ≡ both (λ a b. a || b) f.carry f.zero
unfolding test_of
on_be f = refl

pub on_a : (f : Flags) → condition f A ≡ negated (both (λ a b. a || b) f.carry f.zero)
unfolding test_of
on_a f = refl

pub on_s : (f : Flags) → condition f S ≡ f.sign
unfolding test_of
on_s f = refl

pub on_ns : (f : Flags) → condition f NS ≡ negated f.sign
unfolding test_of
on_ns f = refl

pub on_l : (f : Flags) → condition f L ≡ both differ f.sign f.overflow
unfolding test_of
on_l f = refl

pub on_ge : (f : Flags) → condition f GE ≡ negated (both differ f.sign f.overflow)
unfolding test_of
on_ge f = refl

pub on_le : (f : Flags) → condition f LE ≡ both (λ a b. a || b) f.zero (both differ f.sign f.overflow)
unfolding test_of
on_le f = refl

pub on_g : (f : Flags) → condition f G ≡ negated (both (λ a b. a || b) f.zero (both differ f.sign f.overflow))
unfolding test_of
on_g f = refl

-- ---- after `cmp` or `sub`, without a sign

same_tested : (a b : ℕ) → a < 2 ^ 64 → b < 2 ^ 64 → (sub64 a b == 0) ≡ (a == b)
same_tested a b ha hb =
    ⊎_elim
    (λ lt. grind (arith, nat_tests))
    (λ le. grind (arith, nat_tests))
    (cases_lt a b)

pub compared_b : (a b : ℕ) → condition (difference_of a b).flags B ≡ Some (nat_lt a b)
compared_b a b = on_b (difference_of a b).flags

pub compared_ae : (a b : ℕ) → condition (difference_of a b).flags AE ≡ Some (not (nat_lt a b))
compared_ae a b = on_ae (difference_of a b).flags

pub compared_e : (a b : ℕ) → a < 2 ^ 64 → b < 2 ^ 64 → condition (difference_of a b).flags E ≡ Some (a == b)
compared_e a b ha hb = on_e (difference_of a b).flags ∙ ap Some (same_tested a b ha hb)

pub compared_ne : (a b : ℕ) → a < 2 ^ 64 → b < 2 ^ 64 → condition (difference_of a b).flags NE ≡ Some (not (a == b))
compared_ne a b ha hb = on_ne (difference_of a b).flags ∙ ap (λ t. Some (not t)) (same_tested a b ha hb)

at_most_tested : (a b : ℕ) → (nat_lt a b || (a == b)) ≡ nat_le a b
at_most_tested a b = grind (arith, nat_tests)

pub compared_be : (a b : ℕ) → a < 2 ^ 64 → b < 2 ^ 64 → condition (difference_of a b).flags BE ≡ Some (nat_le a b)
compared_be a b ha hb = on_be (difference_of a b).flags ∙ ap (λ t. Some (nat_lt a b || t)) (same_tested a b ha hb) ∙ ap Some (at_most_tested a b)

pub compared_a : (a b : ℕ) → a < 2 ^ 64 → b < 2 ^ 64 → condition (difference_of a b).flags A ≡ Some (not (nat_le a b))
compared_a a b ha hb = on_a (difference_of a b).flags ∙ ap (λ t. Some (not (nat_lt a b || t))) (same_tested a b ha hb) ∙ ap (λ t. Some (not t)) (at_most_tested a b)
