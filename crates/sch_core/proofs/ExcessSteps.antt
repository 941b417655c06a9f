-- The search for the first form that has too much of something, form by form.
use Rattle.std.proofs.Common.{◌≡◌, ◌≤◌, ◌⊎◌, inl, inr, ℕ, ◌+◌, ◌<◌, min, List, [], ◌∷◌, length, drop, get_or, Option, Some, None, refl, sym, ap, ◌∙◌, add-one, arith, drop-cons}
use Rattle.std.proofs.lemmas.List.{drop_all}
use Rattle.sch_lang.specs.declared.tree.Exp.{Exp}
use Rattle.sch_lang.specs.Tree.{no_expressions}
use Rattle.sch_lang.specs.View.{expression}
use Rattle.sch_lang.proofs.ListViews.{left}
use Rattle.sch_variable_counts.proofs.ListsLeft.{next_expression, no_expression}
use Rattle.sch_core.specs.declared.error.Kind.{Kind}
use Rattle.sch_core.specs.Excess.{excess, first_excess}

no_place : (places : List ℕ) → first_excess places no_expressions ≡ None
no_place [] = refl
no_place (at ∷ places) = refl

module _ (places : List ℕ) (forms : List Exp) (i n : ℕ) (m : n ≡ min (length places) (length forms)) (r : Option (Kind × ℕ)) (k : first_excess (drop i places) (left (drop i forms)) ≡ r) where
  pub excess_here : (e : Exp) (at : ℕ) (kind : Kind) → i < n → e ≡ get_or forms i e → at ≡ get_or places i 0 → Some kind ≡ excess 0 (expression e) → ◌≡◌ {A = Option (Kind × ℕ)} (Some (kind, at)) r
  excess_here e at kind l f p h =
      let k' = rw (drop-cons places i 0 (omega (arith, l, m)), sym p, next_expression forms i e (omega (arith, l, m)) f, sym h) at k in
      k'

  pub excess_later : (e : Exp) → i < n → e ≡ get_or forms i e → None ≡ excess 0 (expression e) → first_excess (drop (i + 1) places) (left (drop (i + 1) forms)) ≡ r
  excess_later e l f h =
      let k' = rw (drop-cons places i 0 (omega (arith, l, m)), next_expression forms i e (omega (arith, l, m)) f, sym h) at k in
      rw add-one k'

  pub excess_end : n ≤ i → ◌≡◌ {A = Option (Kind × ℕ)} None r
  excess_end l = elim (shorter (omega (arith, l, m))) [
    | inl a ↦ sym (ap (λ ps. first_excess ps (left (drop i forms))) (drop_all i places a)) ∙ k
    | inr b ↦ sym (ap (first_excess (drop i places)) (no_expression forms i b) ∙ no_place (drop i places)) ∙ k
  ]
    where
      shorter : min (length places) (length forms) ≤ i → (length places ≤ i) ⊎ (length forms ≤ i)
      shorter h = grind arith
