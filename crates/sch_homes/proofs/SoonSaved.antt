-- Where each call restores what is live after it and wanted before the next one, and restores what a region round it saves, what is
-- live after each call is saved there.
use Rattle.std.proofs.Common.{◌≡◌, ℕ, Bool, true, false, [], Option, Some, None, refl, sym, ap, ◌∙◌, ◌⊎◌, inl, inr}
use Rattle.std.specs.Bool.{MatchBool}
use Rattle.std.specs.List.{list_all}
use Rattle.std.specs.Prelude.{◌||◌}
use Rattle.std.proofs.lemmas.Bool.{and_parts}
use Rattle.sch_word.proofs.facts.Booleans.{false_true, neither, or_left}
use Rattle.sch_word.specs.trees.NumberSets.{has}
use Rattle.sch_control.specs.declared.operation.Operation.{Operation}
use Rattle.sch_control.specs.Meaning.{binds, heads, no_region, with_region}
use Rattle.sch_control.specs.Tree.{Expression, perform, bind, sequence, branch, fix, call, tail_call, return, end, save}
use Rattle.sch_control.specs.flow.Live.{known, ByResult, AfterValue, Across, Later, Live, MayGive, Perhaps, Soon, nothing_later}
use Rattle.sch_control.specs.flow.Regions.{restores_saved}
use Rattle.sch_control.proofs.VariableLists.{heads_has}
use Rattle.sch_word.proofs.facts.NumberSets.{each_passes}
use Rattle.sch_paths.specs.Conditions.{Fresh, Restored, Saved}
use Rattle.sch_paths.specs.EachSoonRestored.{EachSoonRestored}
use Rattle.sch_paths.proofs.saves.SavedAndRestored.{restored_kept}

-- behind an expression, what is live is wanted soon, as far as a path comes there
abbrev SoonWhereLive : ℕ → Expression → (L S : Bool → Type 0) → Type 0
SoonWhereLive x e L S = (t : Bool) → MayGive e t → L t → S t

after_value : (o : Operation ℕ) (L S : Bool → Type 0) → ((t : Bool) → AfterValue o (λ r. r ≡ t) → L t → S t) → AfterValue o L → AfterValue o S
after_value o L S f l = by (known o) f l where
  by : (k : Option Bool) → ((t : Bool) → ByResult k (λ r. r ≡ t) → L t → S t) → ByResult k L → ByResult k S
  by (Some t) f l = f t refl l
  by None f (inl l) = inl (f true (inl refl) l)
  by None f (inr l) = inr (f false (inr refl) l)

-- what is live outside all regions is wanted soon
outside_soon : (e : Expression) (Met : Type 0) → Met → (inside : ℕ → Bool) (L S : Later) → restores_saved e inside ≡ true → Restored (λ x. false) e Met L S → Fresh e L
    → (x : ℕ) → inside x ≡ false → SoonWhereLive x e (L x) (S x) → Live x e (L x) → Soon x e (S x)
outside_soon (perform o) Met met inside L S saved r fresh x out behind (inl m) = inl m
outside_soon (perform o) Met met inside L S saved r fresh x out behind (inr l) = inr (after_value o (L x) (S x) behind l)
outside_soon (bind y a b) Met met inside L S saved r fresh x out behind l =
    let parts = and_parts (restores_saved a inside) _ saved in
    outside_soon a Met met inside (λ x t. Across y x (Live x b (L x))) (λ x t. Across y x (Soon x b (S x))) parts.0 r.0 fresh.0 x out
    (λ t g k. (k.0, outside_soon b Met met inside L S parts.1 r.1 fresh.1 x out behind k.1)) l
outside_soon (sequence a b) Met met inside L S saved r fresh x out behind l =
    let parts = and_parts (restores_saved a inside) _ saved in
    outside_soon a Met met inside (λ x t. Live x b (L x)) (λ x t. Soon x b (S x)) parts.0 r.0 fresh.0 x out (λ t g k. outside_soon b Met met inside L S parts.1 r.1 fresh.1 x out behind k) l
outside_soon (branch a b c) Met met inside L S saved r fresh x out behind l =
    let parts = and_parts (restores_saved a inside) _ saved in
    let arms = and_parts (restores_saved b inside) _ parts.1 in
    outside_soon a Met met inside (λ x t. MatchBool t (Live x b (L x)) (Live x c (L x))) (λ x t. MatchBool t (Soon x b (S x)) (Soon x c (S x))) parts.0 r.0 fresh.0 x out
    (λ t g k. by t g
    (λ g. outside_soon b (Met × MayGive a true) (met, g) inside L S arms.0 r.1.0 fresh.1.0 x out (λ t h. behind t (inl (g, h))))
    (λ g. outside_soon c (Met × MayGive a false) (met, g) inside L S arms.1 r.1.1 fresh.1.1 x out (λ t h. behind t (inr (g, h)))) k) l where
      by : (t : Bool) → MayGive a t → (MayGive a true → Live x b (L x) → Soon x b (S x)) → (MayGive a false → Live x c (L x) → Soon x c (S x))
          → MatchBool t (Live x b (L x)) (Live x c (L x)) → MatchBool t (Soon x b (S x)) (Soon x c (S x))
      by true g f h k = f g k
      by false g f h k = h g k
outside_soon (fix members e) Met met inside L S saved r fresh x out behind (o, inl m) = (o, inl m)
outside_soon (fix members e) Met met inside L S saved r fresh x out behind (o, inr l) = (o, inr (outside_soon e Met met inside L S saved r fresh x out behind l))
outside_soon (call a restores) Met met inside L S saved r fresh x out behind (inl m) = m
outside_soon (call a restores) Met met inside L S saved r fresh x out behind (inr l) =
    let parts = and_parts _ (list_all inside restores) saved in
    absurd (false_true (each_passes inside restores parts.1 x (r x met l (by l) refl)) out) where
      by : Perhaps (L x) → Perhaps (S x)
      by (inl l) = inl (behind true tt l)
      by (inr l) = inr (behind false tt l)
outside_soon (tail_call a) Met met inside L S saved r fresh x out behind l = l
outside_soon (return e) Met met inside L S saved r fresh x out behind l =
    outside_soon e Met met inside (λ x t. x ≡ 0) (λ x t. x ≡ 0) saved r fresh x out (λ t g i. i) l
outside_soon (end e) Met met inside L S saved r fresh x out behind l =
    outside_soon e Met met inside (λ x t. ⊥) (λ x t. ⊥) saved r fresh x out (λ t g i. i) l
outside_soon (save saves e) Met met inside L S saved r fresh x out behind l =
    by (has x saves) refl (binds x e) refl (λ o. outside_soon e Met met (with_region saves inside) L S saved r fresh.1 x o behind l) where
      by : (t : Bool) → has x saves ≡ t → (b : Bool) → binds x e ≡ b → (with_region saves inside x ≡ false → Soon x e (S x)) → (has x (heads e saves) ≡ true) ⊎ Soon x e (S x)
      by true h true b more = absurd (fresh.0 x h b l)
      by true h false b more = inl (heads_has e saves x h b)
      by false h b eb more = inr (more (neither (has x saves) _ h out))

-- so what is live after a call is inside a region
saved_where_live : (keeps : ℕ → Bool) (e : Expression) (Met : Type 0) (inside : ℕ → Bool) (L S : Later) → restores_saved e inside ≡ true → Restored (λ x. false) e Met L S → Fresh e L
    → ((x : ℕ) → inside x ≡ false → Met → SoonWhereLive x e (L x) (S x)) → Saved keeps e Met inside L
saved_where_live keeps (perform o) Met inside L S saved r fresh behind = tt
saved_where_live keeps (bind y a b) Met inside L S saved r fresh behind =
    let parts = and_parts (restores_saved a inside) _ saved in (
      saved_where_live keeps a Met inside (λ x t. Across y x (Live x b (L x))) (λ x t. Across y x (Soon x b (S x))) parts.0 r.0 fresh.0
          (λ x o met t g l. (l.0, outside_soon b Met met inside L S parts.1 r.1 fresh.1 x o (behind x o met) l.1)),
      saved_where_live keeps b Met inside L S parts.1 r.1 fresh.1 behind,
    )
saved_where_live keeps (sequence a b) Met inside L S saved r fresh behind =
    let parts = and_parts (restores_saved a inside) _ saved in (
      saved_where_live keeps a Met inside (λ x t. Live x b (L x)) (λ x t. Soon x b (S x)) parts.0 r.0 fresh.0
          (λ x o met t g l. outside_soon b Met met inside L S parts.1 r.1 fresh.1 x o (behind x o met) l),
      saved_where_live keeps b Met inside L S parts.1 r.1 fresh.1 behind,
    )
saved_where_live keeps (branch a b c) Met inside L S saved r fresh behind =
    let parts = and_parts (restores_saved a inside) _ saved in
    let arms = and_parts (restores_saved b inside) _ parts.1 in (
      saved_where_live keeps a Met inside (λ x t. MatchBool t (Live x b (L x)) (Live x c (L x))) (λ x t. MatchBool t (Soon x b (S x)) (Soon x c (S x))) parts.0 r.0 fresh.0
          (λ x o met t g l. by x t g
          (λ g. outside_soon b (Met × MayGive a true) (met, g) inside L S arms.0 r.1.0 fresh.1.0 x o (λ t h. behind x o met t (inl (g, h))))
          (λ g. outside_soon c (Met × MayGive a false) (met, g) inside L S arms.1 r.1.1 fresh.1.1 x o (λ t h. behind x o met t (inr (g, h)))) l),
      (
        saved_where_live keeps b (Met × MayGive a true) inside L S arms.0 r.1.0 fresh.1.0 (λ x o met t h. behind x o met.0 t (inl (met.1, h))),
        saved_where_live keeps c (Met × MayGive a false) inside L S arms.1 r.1.1 fresh.1.1 (λ x o met t h. behind x o met.0 t (inr (met.1, h))),
      ),
    ) where
      by : (x : ℕ) (t : Bool) → MayGive a t → (MayGive a true → Live x b (L x) → Soon x b (S x)) → (MayGive a false → Live x c (L x) → Soon x c (S x))
          → MatchBool t (Live x b (L x)) (Live x c (L x)) → MatchBool t (Soon x b (S x)) (Soon x c (S x))
      by x true g f h k = f g k
      by x false g f h k = h g k
saved_where_live keeps (fix members e) Met inside L S saved r fresh behind = saved_where_live keeps e Met inside L S saved r fresh behind
saved_where_live keeps (call a restores) Met inside L S saved r fresh behind = λ x met l k. by x met l (inside x) refl where
  soon : (x : ℕ) → Met → inside x ≡ false → Perhaps (L x) → Perhaps (S x)
  soon x met o (inl l) = inl (behind x o met true tt l)
  soon x met o (inr l) = inr (behind x o met false tt l)

  by : (x : ℕ) → Met → Perhaps (L x) → (t : Bool) → inside x ≡ t → inside x ≡ true
  by x met l true i = i
  by x met l false i = let parts = and_parts _ (list_all inside restores) saved in each_passes inside restores parts.1 x (r x met l (soon x met i l) refl)
saved_where_live keeps (tail_call a) Met inside L S saved r fresh behind = tt
saved_where_live keeps (return e) Met inside L S saved r fresh behind = saved_where_live keeps e Met inside (λ x t. x ≡ 0) (λ x t. x ≡ 0) saved r fresh (λ x o met t g i. i)
saved_where_live keeps (end e) Met inside L S saved r fresh behind = saved_where_live keeps e Met inside (λ x t. ⊥) (λ x t. ⊥) saved r fresh (λ x o met t g i. i)
saved_where_live keeps (save saves e) Met inside L S saved r fresh behind =
    saved_where_live keeps e Met (with_region saves inside) L S saved r fresh.1 (λ x o met. behind x (outer x (has x saves) refl o) met) where
      outer : (x : ℕ) (t : Bool) → has x saves ≡ t → (has x saves || inside x) ≡ false → inside x ≡ false
      outer x true h o = absurd (false_true (or_left (has x saves) (inside x) h) o)
      outer x false h o = sym (ap (λ t. t || inside x) h) ∙ o

-- whatever a call keeps
pub soon_saved : (keeps : ℕ → Bool) (e : Expression) → restores_saved e no_region ≡ true → EachSoonRestored e → Fresh e nothing_later → Saved keeps e (Unit {0}) no_region nothing_later
soon_saved keeps e saved r fresh = saved_where_live keeps e (Unit {0}) no_region nothing_later nothing_later saved r fresh (λ x o met t g l. l)

pub soon_restored : (keeps : ℕ → Bool) (e : Expression) → EachSoonRestored e → Restored keeps e (Unit {0}) nothing_later nothing_later
soon_restored keeps e r = restored_kept keeps e (Unit {0}) nothing_later nothing_later r
