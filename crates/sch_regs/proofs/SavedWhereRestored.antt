-- Where each call restores what is live after it and wanted before the next one, what is live after each call is saved there:
-- what a region farther on saves at its head is wanted there.
use Rattle.std.proofs.Common.{◌≡◌, ℕ, Bool, true, false, List, Option, Some, None, refl, inl, inr, ◌⊎◌}
use Rattle.std.specs.Prelude.{◌&&◌}
use Rattle.std.specs.Bool.{MatchBool}
use Rattle.std.specs.List.{list_all}
use Rattle.std.proofs.lemmas.Bool.{or_cases}
use Rattle.sch_word.specs.trees.NumberSets.{has, without_repeats}
use Rattle.sch_word.proofs.facts.Booleans.{and_left, and_right, or_right}
use Rattle.sch_control.specs.Meaning.{binds, with_region, no_region}
use Rattle.sch_control.specs.Tree.{Expression, perform, bind, sequence, branch, fix, call, tail_call, return, end, save}
use Rattle.sch_control.specs.flow.Live.{known, ByResult, Across, MayGive, Live, Soon, Later}
use Rattle.sch_control.specs.flow.Regions.{restores_saved}
use Rattle.sch_control.proofs.VariableLists.{heads_has}
use Rattle.sch_word.proofs.facts.NumberSets.{each_passes}
use Rattle.sch_paths.specs.Conditions.{Saved, Restored, Fresh}

-- what is live behind an expression is wanted soon there, or is saved round it
abbrev Kept : Expression → (Met : Type 0) → (inside : ℕ → Bool) → (L S : Later) → Type 0
Kept e Met inside L S = (x : ℕ) (t : Bool) → Met → MayGive e t → L x t → S x t ⊎ (inside x ≡ true)

by_result : (k : Option Bool) (L S : Bool → Type 0) (I : Type 0) → ((t : Bool) → ByResult k (λ u. u ≡ t) → L t → S t ⊎ I) → ByResult k L → ByResult k S ⊎ I
by_result (Some t) L S I f l = f t refl l
by_result None L S I f (inl l) = elim (f true (inl refl) l) [ inl s ↦ inl (inl s) | inr i ↦ inr i ]
by_result None L S I f (inr l) = elim (f false (inr refl) l) [ inl s ↦ inl (inr s) | inr i ↦ inr i ]

-- what a call restores is inside a region
call_kept : (inside : ℕ → Bool) (restores : List ℕ) → (without_repeats restores && list_all inside restores) ≡ true → (x : ℕ) → has x restores ≡ true → inside x ≡ true
call_kept inside restores h x m = each_passes inside restores (and_right (without_repeats restores) _ h) x m

kept_live : (e : Expression) (Met : Type 0) → Met → (inside : ℕ → Bool) (L S : Later) → Restored no_region e Met L S → restores_saved e inside ≡ true → Fresh e L
    → Kept e Met inside L S → (x : ℕ) → Live x e (L x) → Soon x e (S x) ⊎ (inside x ≡ true)
kept_live (perform o) Met met inside L S r v f k x (inl m) = inl (inl m)
kept_live (perform o) Met met inside L S r v f k x (inr l) =
    elim (by_result (known o) (L x) (S x) (inside x ≡ true) (λ t g l. k x t met g l) l) [ inl s ↦ inl (inr s) | inr i ↦ inr i ]
kept_live (bind y a b) Met met inside L S r v f k x l =
    kept_live a Met met inside (λ x t. Across y x (Live x b (L x))) (λ x t. Across y x (Soon x b (S x))) r.0 (and_left (restores_saved a inside) _ v) f.0
    (λ x t met g w. elim (kept_live b Met met inside L S r.1 (and_right (restores_saved a inside) _ v) f.1 k x w.1) [ inl s ↦ inl (w.0, s) | inr i ↦ inr i ]) x l
kept_live (sequence a b) Met met inside L S r v f k x l =
    kept_live a Met met inside (λ x t. Live x b (L x)) (λ x t. Soon x b (S x)) r.0 (and_left (restores_saved a inside) _ v) f.0
    (λ x t met g w. kept_live b Met met inside L S r.1 (and_right (restores_saved a inside) _ v) f.1 k x w) x l
kept_live (branch a b c) Met met inside L S r v f k x l =
    let arms = and_right (restores_saved a inside) _ v in
    kept_live a Met met inside (λ x t. MatchBool t (Live x b (L x)) (Live x c (L x))) (λ x t. MatchBool t (Soon x b (S x)) (Soon x c (S x))) r.0
    (and_left (restores_saved a inside) _ v) f.0
    (λ x t met. elim t as (λ t. MayGive a t → MatchBool t (Live x b (L x)) (Live x c (L x)) → MatchBool t (Soon x b (S x)) (Soon x c (S x)) ⊎ (inside x ≡ true)) [
      | true ↦ λ g w. kept_live b (Met × MayGive a true) (met, g) inside L S r.1.0 (and_left (restores_saved b inside) _ arms) f.1.0 (λ x t m h. k x t m.0 (inl (m.1, h))) x w
      | false ↦ λ g w. kept_live c (Met × MayGive a false) (met, g) inside L S r.1.1 (and_right (restores_saved b inside) _ arms) f.1.1 (λ x t m h. k x t m.0 (inr (m.1, h))) x w
    ]) x l
kept_live (fix members e) Met met inside L S r v f k x l = elim l.1 [
  | inl m ↦ inl (l.0, inl m)
  | inr w ↦ elim (kept_live e Met met inside L S r v f k x w) [ inl s ↦ inl (l.0, inr s) | inr i ↦ inr i ]
]
kept_live (call a restores) Met met inside L S r v f k x (inl m) = inl m
kept_live (call a restores) Met met inside L S r v f k x (inr (inl l)) = elim (k x true met tt l) [
  | inl s ↦ inr (call_kept inside restores v x (r x met (inl l) (inl s) refl))
  | inr i ↦ inr i
]
kept_live (call a restores) Met met inside L S r v f k x (inr (inr l)) = elim (k x false met tt l) [
  | inl s ↦ inr (call_kept inside restores v x (r x met (inr l) (inr s) refl))
  | inr i ↦ inr i
]
kept_live (tail_call a) Met met inside L S r v f k x l = inl l
kept_live (return e) Met met inside L S r v f k x l = kept_live e Met met inside (λ x t. x ≡ 0) (λ x t. x ≡ 0) r v f (λ x t met g z. inl z) x l
kept_live (end e) Met met inside L S r v f k x l = kept_live e Met met inside (λ x t. ⊥) (λ x t. ⊥) r v f (λ x t met g b. absurd b) x l
kept_live (save saves e) Met met inside L S r v f k x l =
    elim (kept_live e Met met (with_region saves inside) L S r v f.1 (λ x t met g w. elim (k x t met g w) [ inl s ↦ inl s | inr i ↦ inr (or_right (has x saves) _ i) ]) x l) [
      | inl s ↦ inl (inr s)
      | inr i ↦ elim (or_cases (has x saves) _ i) [ inl h ↦ by (binds x e) refl h | inr j ↦ inr j ]
    ] where
      by : (t : Bool) → binds x e ≡ t → has x saves ≡ true → Soon x (save saves e) (S x) ⊎ (inside x ≡ true)
      by true b h = absurd (f.0 x h b l)
      by false b h = inl (inl (heads_has e saves x h b))

module _ (keeps : ℕ → Bool) where
  pub saved : (e : Expression) (Met : Type 0) (inside : ℕ → Bool) (L S : Later) → Restored no_region e Met L S → restores_saved e inside ≡ true → Fresh e L
      → Kept e Met inside L S → Saved keeps e Met inside L
  saved (perform o) Met inside L S r v f k = tt
  saved (bind y a b) Met inside L S r v f k = (
    saved a Met inside _ (λ x t. Across y x (Soon x b (S x))) r.0 (and_left (restores_saved a inside) _ v) f.0
        (λ x t met g w. elim (kept_live b Met met inside L S r.1 (and_right (restores_saved a inside) _ v) f.1 k x w.1) [ inl s ↦ inl (w.0, s) | inr i ↦ inr i ]),
    saved b Met inside L S r.1 (and_right (restores_saved a inside) _ v) f.1 k,
  )
  saved (sequence a b) Met inside L S r v f k = (
    saved a Met inside _ (λ x t. Soon x b (S x)) r.0 (and_left (restores_saved a inside) _ v) f.0
        (λ x t met g w. kept_live b Met met inside L S r.1 (and_right (restores_saved a inside) _ v) f.1 k x w),
    saved b Met inside L S r.1 (and_right (restores_saved a inside) _ v) f.1 k,
  )
  saved (branch a b c) Met inside L S r v f k =
      let arms = and_right (restores_saved a inside) _ v in (
        saved a Met inside _ (λ x t. MatchBool t (Soon x b (S x)) (Soon x c (S x))) r.0 (and_left (restores_saved a inside) _ v) f.0
            (λ x t met. elim t as (λ t. MayGive a t → MatchBool t (Live x b (L x)) (Live x c (L x)) → MatchBool t (Soon x b (S x)) (Soon x c (S x)) ⊎ (inside x ≡ true)) [
              | true ↦ λ g w. kept_live b (Met × MayGive a true) (met, g) inside L S r.1.0 (and_left (restores_saved b inside) _ arms) f.1.0 (λ x t m h. k x t m.0 (inl (m.1, h))) x w
              | false ↦ λ g w. kept_live c (Met × MayGive a false) (met, g) inside L S r.1.1 (and_right (restores_saved b inside) _ arms) f.1.1 (λ x t m h. k x t m.0 (inr (m.1, h))) x w
            ]),
        (
          saved b (Met × MayGive a true) inside L S r.1.0 (and_left (restores_saved b inside) _ arms) f.1.0 (λ x t m h. k x t m.0 (inl (m.1, h))),
          saved c (Met × MayGive a false) inside L S r.1.1 (and_right (restores_saved b inside) _ arms) f.1.1 (λ x t m h. k x t m.0 (inr (m.1, h))),
        ),
      )
  saved (fix members e) Met inside L S r v f k = saved e Met inside L S r v f k
  saved (call a restores) Met inside L S r v f k = λ x met p n. elim p [
    | inl l ↦ elim (k x true met tt l) [ inl s ↦ call_kept inside restores v x (r x met (inl l) (inl s) refl) | inr i ↦ i ]
    | inr l ↦ elim (k x false met tt l) [ inl s ↦ call_kept inside restores v x (r x met (inr l) (inr s) refl) | inr i ↦ i ]
  ]
  saved (tail_call a) Met inside L S r v f k = tt
  saved (return e) Met inside L S r v f k = saved e Met inside _ (λ x t. x ≡ 0) r v f (λ x t met g z. inl z)
  saved (end e) Met inside L S r v f k = saved e Met inside _ (λ x t. ⊥) r v f (λ x t met g b. absurd b)
  saved (save saves e) Met inside L S r v f k =
      saved e Met (with_region saves inside) L S r v f.1 (λ x t met g w. elim (k x t met g w) [ inl s ↦ inl s | inr i ↦ inr (or_right (has x saves) _ i) ])
