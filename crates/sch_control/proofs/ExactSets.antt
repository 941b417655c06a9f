-- The sets of a body are exact, also where it is said as a fact alone.
use Rattle.std.proofs.Common.{◌≡◌, ℕ, Bool, true, false, Option, Some, None, inl, inr, ◌⊎◌}
use Rattle.std.specs.Prelude.{◌↔◌}
use Rattle.std.specs.Bool.{MatchBool}
use Rattle.std.proofs.Math.Logic.{∥∥₁_map, ∥∥₁_elim}
use Rattle.std.proofs.Math.Bool.{Bool-discrete, Bool-set}
use Rattle.std.proofs.Math.Decide.{ℕ_discrete}
use Rattle.sch_word.specs.trees.NumberSets.{has}
use Rattle.sch_control.specs.Tree.{Expression, perform, bind, sequence, branch, fix, call, tail_call, return, end, save}
use Rattle.sch_control.specs.Valid.{member_variables}
use Rattle.sch_control.specs.flow.Live.{Perhaps, known, ByResult, Across, MayGive, Live, Later, nothing_later}
use Rattle.sch_control.specs.flow.LiveSets.{LiveSets, HasLiveSets}

-- ## What is decided

dec_both : {A B : Type 0} → Dec A → Dec B → Dec (A × B)
dec_both (yes a) (yes b) = yes (a, b)
dec_both (yes a) (no n) = no (λ w. n w.1)
dec_both (no n) d = no (λ w. n w.0)

dec_either : {A B : Type 0} → Dec A → Dec B → Dec (A ⊎ B)
dec_either (yes a) d = yes (inl a)
dec_either (no n) (yes b) = yes (inr b)
dec_either (no n) (no m) = no (λ w. elim w [ inl a ↦ n a | inr b ↦ m b ])

dec_not : {A : Type 0} → Dec A → Dec (A → ⊥)
dec_not (yes a) = no (λ f. f a)
dec_not (no n) = yes n

dec_eq : (x y : ℕ) → Dec (x ≡ y)
dec_eq x y = ℕ_discrete x y

dec_test : (t u : Bool) → Dec (t ≡ u)
dec_test t u = Bool-discrete t u

dec_result : (k : Option Bool) (L : Bool → Type 0) → ((t : Bool) → Dec (L t)) → Dec (ByResult k L)
dec_result (Some t) L d = d t
dec_result None L d = dec_either (d true) (d false)

dec_across : (y x : ℕ) (A : Type 0) → Dec A → Dec (Across y x A)
dec_across y x A d = dec_both (dec_not (dec_eq x y)) d

dec_live : (x : ℕ) (e : Expression) (L : Bool → Type 0) → ((t : Bool) → Dec (L t)) → Dec (Live x e L)
dec_live x (perform o) L d = dec_either (dec_test (has x _) true) (dec_result (known o) L d)
dec_live x (bind y a b) L d = dec_live x a _ (λ t. dec_across y x _ (dec_live x b L d))
dec_live x (sequence a b) L d = dec_live x a _ (λ t. dec_live x b L d)
dec_live x (branch a b c) L d =
    dec_live x a (λ t. MatchBool t (Live x b L) (Live x c L)) (λ t. elim t as (λ t. Dec (MatchBool t (Live x b L) (Live x c L))) [
      | true ↦ dec_live x b L d
      | false ↦ dec_live x c L d
    ])
dec_live x (fix members e) L d =
    dec_both (dec_test (has x (member_variables members)) false) (dec_either (dec_test (has x _) true) (dec_live x e L d))
dec_live x (call a listed) L d = dec_either (dec_test (has x _) true) (dec_either (d true) (d false))
dec_live x (tail_call a) L d = dec_either (dec_eq x 0) (dec_test (has x _) true)
dec_live x (return e) L d = dec_live x e _ (λ t. dec_eq x 0)
dec_live x (end e) L d = dec_live x e _ (λ t. no (λ b. b))
dec_live x (save saves e) L d = dec_live x e L d

dec_gives : (e : Expression) (r : Bool) → Dec (MayGive e r)
dec_gives (perform o) r = dec_result (known o) (λ t. t ≡ r) (λ t. dec_test t r)
dec_gives (bind y a b) r = dec_gives b r
dec_gives (sequence a b) r = dec_gives b r
dec_gives (branch a b c) r = dec_either (dec_both (dec_gives a true) (dec_gives b r)) (dec_both (dec_gives a false) (dec_gives c r))
dec_gives (fix members e) r = dec_gives e r
dec_gives (call a listed) r = yes tt
dec_gives (tail_call a) r = yes tt
dec_gives (return e) r = yes tt
dec_gives (end e) r = yes tt
dec_gives (save saves e) r = dec_gives e r

-- ## What is exact

exact_call : (b : Bool) (T : Type 0) → Dec T → ∥ (b ≡ true) ↔ T ∥₁ → (b ≡ true) ↔ T
exact_call b T (yes t) h =
    let fact : IsProp (b ≡ true) = hlevel (Bool-set) in
    (λ e. t, λ u. ∥∥₁_elim h fact (λ w. w.1 u))
exact_call b T (no n) h =
    let fact : IsProp ⊥ = hlevel in
    (λ e. absurd (∥∥₁_elim h fact (λ w. n (w.0 e))), λ u. absurd (n u))

exact_sets : (e : Expression) (Met : Type 0) → Dec Met → (L : Later) → ((x : ℕ) (t : Bool) → Dec (L x t)) → ∥ LiveSets e Met L ∥₁ → LiveSets e Met L
exact_sets (perform o) Met m L d h = tt
exact_sets (bind y a b) Met m L d h = (
  exact_sets a Met m _ (λ x t. dec_across y x _ (dec_live x b (L x) (d x))) (∥∥₁_map h (λ w. w.0)),
  exact_sets b Met m L d (∥∥₁_map h (λ w. w.1)),
)
exact_sets (sequence a b) Met m L d h = (
  exact_sets a Met m _ (λ x t. dec_live x b (L x) (d x)) (∥∥₁_map h (λ w. w.0)),
  exact_sets b Met m L d (∥∥₁_map h (λ w. w.1)),
)
exact_sets (branch a b c) Met m L d h = (
  exact_sets a Met m (λ x t. MatchBool t (Live x b (L x)) (Live x c (L x)))
      (λ x t. elim t as (λ t. Dec (MatchBool t (Live x b (L x)) (Live x c (L x)))) [ true ↦ dec_live x b (L x) (d x) | false ↦ dec_live x c (L x) (d x) ])
      (∥∥₁_map h (λ w. w.0)),
  (
    exact_sets b (Met × MayGive a true) (dec_both m (dec_gives a true)) L d (∥∥₁_map h (λ w. w.1.0)),
    exact_sets c (Met × MayGive a false) (dec_both m (dec_gives a false)) L d (∥∥₁_map h (λ w. w.1.1)),
  ),
)
exact_sets (fix members e) Met m L d h = exact_sets e Met m L d h
exact_sets (call a listed) Met m L d h = λ x. exact_call (has x listed) (Met × Perhaps (L x)) (dec_both m (dec_either (d x true) (d x false))) (∥∥₁_map h (λ w. w x))
exact_sets (tail_call a) Met m L d h = tt
exact_sets (return e) Met m L d h = exact_sets e Met m _ (λ x t. dec_eq x 0) h
exact_sets (end e) Met m L d h = exact_sets e Met m _ (λ x t. no (λ b. b)) h
exact_sets (save saves e) Met m L d h = exact_sets e Met m L d h

-- the sets of a body, from the fact that its type keeps
pub exact : (e : Expression) → ∥ HasLiveSets e ∥₁ → HasLiveSets e
exact e h = exact_sets e (Unit {0}) (yes tt) nothing_later (λ x t. no (λ b. b)) h
