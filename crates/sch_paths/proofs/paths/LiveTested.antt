-- The tests find what is live, and what is wanted before the next call.
use Rattle.std.proofs.Common.{◌≡◌, ◌≢◌, ℕ, Bool, true, false, refl, inl, inr, ◌⊎◌, Option, Some, None, cond}
use Rattle.std.specs.Prelude.{◌↔◌, nat_eq, ◌||◌, ◌&&◌, not}
use Rattle.std.specs.Bool.{MatchBool}
use Rattle.std.proofs.lemmas.Bool.{eqb-true, eq-eqb, eqb-false, ne_eqb}
use Rattle.sch_control.specs.Tree.{Expression, perform, bind, sequence, branch, fix, call, tail_call, return, end, save}
use Rattle.sch_control.specs.flow.Live.{known, ByResult, Perhaps, Live, Soon}
use Rattle.sch_paths.proofs.paths.LiveByPaths.{itself, then_is, either_same, both_same}
use Rattle.sch_control.specs.flow.LiveTests.{by_result, is_live, is_soon}

pub or_is : (a b : Bool) → ((a || b) ≡ true) ↔ ((a ≡ true) ⊎ (b ≡ true))
or_is true b = (λ h. inl refl, λ w. refl)
or_is false b = (λ h. inr h, λ w. elim w [ inl h ↦ absurd (cc) | inr h ↦ h ])

pub and_is : (a b : Bool) → ((a && b) ≡ true) ↔ ((a ≡ true) × (b ≡ true))
and_is true b = (λ h. (refl, h), λ w. w.1)
and_is false b = (λ h. absurd (cc), λ w. w.0)

pub not_is : (a : Bool) → (not a ≡ true) ↔ (a ≡ false)
not_is true = (λ h. absurd (cc), λ h. absurd (cc))
not_is false = (λ h. refl, λ h. refl)

pub equal_is : (x y : ℕ) → (nat_eq x y ≡ true) ↔ (x ≡ y)
equal_is x y = (eqb-true x y, eq-eqb x y)

pub differ_is : (x y : ℕ) → (not (nat_eq x y) ≡ true) ↔ (x ≢ y)
differ_is x y = then_is (not_is (nat_eq x y)) (eqb-false x y, ne_eqb x y)

pub false_is : (false ≡ true) ↔ ⊥
false_is = (λ h. absurd (cc), λ b. absurd b)

pub perhaps_is : (l : Bool → Bool) (L : Bool → Type 0) → ((t : Bool) → (l t ≡ true) ↔ L t) → ((l true || l false) ≡ true) ↔ Perhaps L
perhaps_is l L f = then_is (or_is (l true) (l false)) (either_same (f true) (f false))

pub result_is : (k : Option Bool) (l : Bool → Bool) (L : Bool → Type 0) → ((t : Bool) → (l t ≡ true) ↔ L t) → (by_result k l ≡ true) ↔ ByResult k L
result_is (Some t) l L f = f t
result_is None l L f = perhaps_is l L f

pub match_is : (t : Bool) (b c : Bool) (B C : Type 0) → (b ≡ true) ↔ B → (c ≡ true) ↔ C → (cond t b c ≡ true) ↔ MatchBool t B C
match_is true b c B C f g = f
match_is false b c B C f g = g

pub live_test : (x : ℕ) (e : Expression) (l : Bool → Bool) (L : Bool → Type 0) → ((t : Bool) → (l t ≡ true) ↔ L t) → (is_live x e l ≡ true) ↔ Live x e L
live_test x (perform o) l L f = then_is (or_is _ _) (either_same itself (result_is (known o) l L f))
live_test x (bind y a b) l L f = live_test x a _ _ (λ t. then_is (and_is _ _) (both_same (differ_is x y) (live_test x b l L f)))
live_test x (sequence a b) l L f = live_test x a _ _ (λ t. live_test x b l L f)
live_test x (branch a b c) l L f = live_test x a _ _ (λ t. match_is t _ _ _ _ (live_test x b l L f) (live_test x c l L f))
live_test x (fix members e) l L f =
    then_is (and_is _ _) (both_same (not_is _) (then_is (or_is _ _) (either_same itself (live_test x e l L f))))
live_test x (call a restores) l L f = then_is (or_is _ _) (either_same itself (perhaps_is l L f))
live_test x (tail_call a) l L f = then_is (or_is _ _) (either_same (equal_is x 0) itself)
live_test x (return e) l L f = live_test x e _ _ (λ t. equal_is x 0)
live_test x (end e) l L f = live_test x e _ _ (λ t. false_is)
live_test x (save saves e) l L f = live_test x e l L f

pub soon_test : (x : ℕ) (e : Expression) (s : Bool → Bool) (S : Bool → Type 0) → ((t : Bool) → (s t ≡ true) ↔ S t) → (is_soon x e s ≡ true) ↔ Soon x e S
soon_test x (perform o) s S f = then_is (or_is _ _) (either_same itself (result_is (known o) s S f))
soon_test x (bind y a b) s S f = soon_test x a _ _ (λ t. then_is (and_is _ _) (both_same (differ_is x y) (soon_test x b s S f)))
soon_test x (sequence a b) s S f = soon_test x a _ _ (λ t. soon_test x b s S f)
soon_test x (branch a b c) s S f = soon_test x a _ _ (λ t. match_is t _ _ _ _ (soon_test x b s S f) (soon_test x c s S f))
soon_test x (fix members e) s S f =
    then_is (and_is _ _) (both_same (not_is _) (then_is (or_is _ _) (either_same itself (soon_test x e s S f))))
soon_test x (call a restores) s S f = itself
soon_test x (tail_call a) s S f = then_is (or_is _ _) (either_same (equal_is x 0) itself)
soon_test x (return e) s S f = soon_test x e _ _ (λ t. equal_is x 0)
soon_test x (end e) s S f = soon_test x e _ _ (λ t. false_is)
soon_test x (save saves e) s S f = then_is (or_is _ _) (either_same itself (soon_test x e s S f))
