-- What is live and what is saved does not depend on what is listed at calls.
use Rattle.std.proofs.Common.{◌≡◌, ℕ, Bool, true, false, ◌⊎◌, refl, ap, sym, ◌∙◌, subst}
use Rattle.std.specs.Bool.{MatchBool}
use Rattle.sch_word.specs.trees.NumberSets.{has}
use Rattle.std.proofs.Math.Path.{fun_ext}
use Rattle.sch_control.specs.Meaning.{heads, with_region}
use Rattle.sch_control.specs.Tree.{Expression, perform, bind, sequence, branch, fix, call, tail_call, return, end, save}
use Rattle.sch_control.specs.flow.Live.{Across, MayGive, Live, Soon, Later}
use Rattle.sch_paths.specs.Conditions.{Saved}
use Rattle.sch_paths.proofs.paths.UnlistedPaths.{heads_unlisted}
use Rattle.sch_control.specs.flow.Bare.{unlisted}

pub may_give_unlisted : (e : Expression) (r : Bool) → MayGive (unlisted e) r ≡ MayGive e r
may_give_unlisted (perform o) r = refl
may_give_unlisted (bind y a b) r = may_give_unlisted b r
may_give_unlisted (sequence a b) r = may_give_unlisted b r
may_give_unlisted (branch a b c) r = rw (may_give_unlisted a true, may_give_unlisted a false, may_give_unlisted b r, may_give_unlisted c r) refl
may_give_unlisted (fix members e) r = may_give_unlisted e r
may_give_unlisted (call a listed) r = refl
may_give_unlisted (tail_call a) r = refl
may_give_unlisted (return e) r = refl
may_give_unlisted (end e) r = refl
may_give_unlisted (save saves e) r = may_give_unlisted e r

pub live_unlisted : (x : ℕ) (e : Expression) (L : Bool → Type 0) → Live x (unlisted e) L ≡ Live x e L
live_unlisted x (perform o) L = refl
live_unlisted x (bind y a b) L =
    ap (λ A. Live x (unlisted a) (λ t. Across y x A)) (live_unlisted x b L) ∙ live_unlisted x a (λ t. Across y x (Live x b L))
live_unlisted x (sequence a b) L = ap (λ A. Live x (unlisted a) (λ t. A)) (live_unlisted x b L) ∙ live_unlisted x a (λ t. Live x b L)
live_unlisted x (branch a b c) L =
    ap (λ A. Live x (unlisted a) (λ t. MatchBool t A (Live x (unlisted c) L))) (live_unlisted x b L)
    ∙ (ap (λ A. Live x (unlisted a) (λ t. MatchBool t (Live x b L) A)) (live_unlisted x c L) ∙ live_unlisted x a (λ t. MatchBool t (Live x b L) (Live x c L)))
live_unlisted x (fix members e) L = rw (live_unlisted x e L) refl
live_unlisted x (call a listed) L = refl
live_unlisted x (tail_call a) L = refl
live_unlisted x (return e) L = live_unlisted x e (λ t. x ≡ 0)
live_unlisted x (end e) L = live_unlisted x e (λ t. ⊥)
live_unlisted x (save saves e) L = live_unlisted x e L

pub soon_unlisted : (x : ℕ) (e : Expression) (S : Bool → Type 0) → Soon x (unlisted e) S ≡ Soon x e S
soon_unlisted x (perform o) S = refl
soon_unlisted x (bind y a b) S =
    ap (λ A. Soon x (unlisted a) (λ t. Across y x A)) (soon_unlisted x b S) ∙ soon_unlisted x a (λ t. Across y x (Soon x b S))
soon_unlisted x (sequence a b) S = ap (λ A. Soon x (unlisted a) (λ t. A)) (soon_unlisted x b S) ∙ soon_unlisted x a (λ t. Soon x b S)
soon_unlisted x (branch a b c) S =
    ap (λ A. Soon x (unlisted a) (λ t. MatchBool t A (Soon x (unlisted c) S))) (soon_unlisted x b S)
    ∙ (ap (λ A. Soon x (unlisted a) (λ t. MatchBool t (Soon x b S) A)) (soon_unlisted x c S) ∙ soon_unlisted x a (λ t. MatchBool t (Soon x b S) (Soon x c S)))
soon_unlisted x (fix members e) S = rw (soon_unlisted x e S) refl
soon_unlisted x (call a listed) S = refl
soon_unlisted x (tail_call a) S = refl
soon_unlisted x (return e) S = soon_unlisted x e (λ t. x ≡ 0)
soon_unlisted x (end e) S = soon_unlisted x e (λ t. ⊥)
soon_unlisted x (save saves e) S =
    ap (λ A. (has x (heads (unlisted e) saves) ≡ true) ⊎ A) (soon_unlisted x e S) ∙ ap (λ hs. (has x hs ≡ true) ⊎ Soon x e S) (heads_unlisted e saves)

-- what is live before an expression, by what is live behind it
abbrev pub LiveBefore : Expression → Later → ℕ → Type 0
LiveBefore e L x = Live x e (L x)

pub behind_unlisted : (e : Expression) (L : Later) → LiveBefore (unlisted e) L ≡ LiveBefore e L
behind_unlisted e L = fun_ext (λ x. live_unlisted x e (L x))

pub both_are : {A B C D : Type 0} → A ≡ C → B ≡ D → (A × B) ≡ (C × D)
both_are {B = B} {C = C} e f = ap (λ A. A × B) e ∙ ap (λ B. C × B) f

module _ (keeps : ℕ → Bool) where
  pub saved_unlisted : (e : Expression) (Met : Type 0) (inside : ℕ → Bool) (L : Later) → Saved keeps (unlisted e) Met inside L ≡ Saved keeps e Met inside L
  saved_unlisted (perform o) Met inside L = refl
  saved_unlisted (bind y a b) Met inside L =
      both_are (ap (λ P. Saved keeps (unlisted a) Met inside (λ x t. Across y x (P x))) (behind_unlisted b L) ∙ saved_unlisted a Met inside (λ x t. Across y x (Live x b (L x))))
      (saved_unlisted b Met inside L)
  saved_unlisted (sequence a b) Met inside L =
      both_are (ap (λ P. Saved keeps (unlisted a) Met inside (λ x t. P x)) (behind_unlisted b L) ∙ saved_unlisted a Met inside (λ x t. Live x b (L x)))
      (saved_unlisted b Met inside L)
  saved_unlisted (branch a b c) Met inside L =
      both_are
      (ap (λ P. Saved keeps (unlisted a) Met inside (λ x t. MatchBool t (P x) (Live x (unlisted c) (L x)))) (behind_unlisted b L)
      ∙ (ap (λ P. Saved keeps (unlisted a) Met inside (λ x t. MatchBool t (Live x b (L x)) (P x))) (behind_unlisted c L)
      ∙ saved_unlisted a Met inside (λ x t. MatchBool t (Live x b (L x)) (Live x c (L x)))))
      (both_are (ap (λ E. Saved keeps (unlisted b) (Met × E) inside L) (may_give_unlisted a true) ∙ saved_unlisted b (Met × MayGive a true) inside L)
      (ap (λ E. Saved keeps (unlisted c) (Met × E) inside L) (may_give_unlisted a false) ∙ saved_unlisted c (Met × MayGive a false) inside L))
  saved_unlisted (fix members e) Met inside L = saved_unlisted e Met inside L
  saved_unlisted (call a listed) Met inside L = refl
  saved_unlisted (tail_call a) Met inside L = refl
  saved_unlisted (return e) Met inside L = saved_unlisted e Met inside (λ x t. x ≡ 0)
  saved_unlisted (end e) Met inside L = saved_unlisted e Met inside (λ x t. ⊥)
  saved_unlisted (save saves e) Met inside L = saved_unlisted e Met (with_region saves inside) L

  -- of two expressions that differ only in what is listed at calls
  pub saved_alike : (e e' : Expression) → unlisted e ≡ unlisted e' → (Met : Type 0) (inside : ℕ → Bool) (L : Later) → Saved keeps e Met inside L → Saved keeps e' Met inside L
  saved_alike e e' is Met inside L s =
      subst (λ T. T) (sym (saved_unlisted e Met inside L) ∙ (ap (λ z. Saved keeps z Met inside L) is ∙ saved_unlisted e' Met inside L)) s
