-- What is live, and what is wanted soon, by the paths and by the cases of an expression.
use Rattle.std.proofs.Common.{◌≡◌, ◌≢◌, ℕ, Bool, true, false, List, [], ◌∷◌, ◌++◌, refl, subst, inl, inr, ◌⊎◌, cond, map}
use Rattle.std.specs.Prelude.{◌↔◌, nat_eq, filter, ◌||◌}
use Rattle.std.specs.Bool.{MatchBool}
use Rattle.std.proofs.lemmas.Bool.{eqb-true, eqb-false}
use Rattle.sch_word.specs.trees.NumberSets.{has}
use Rattle.sch_word.proofs.facts.Booleans.{neither, not_left, not_right}
use Rattle.sch_control.specs.declared.operation.Member.{Member}
use Rattle.sch_control.specs.AtomsAndSites.{operation_atoms, application_atoms, member_atoms}
use Rattle.sch_control.specs.Meaning.{heads, with_region}
use Rattle.sch_control.specs.Tree.{Expression, perform, bind, sequence, branch, fix, call, tail_call, return, end, save}
use Rattle.sch_control.specs.Valid.{member_variables}
use Rattle.sch_control.specs.flow.Live.{named, Mentions, Perhaps, AfterValue, Across, Live, Soon}
use Rattle.sch_control.specs.flow.Paths.{Event, Binds, References, Saves, Calls, Tails, Returns, binding, grouping, Act, Yes, No, On, decided, Meets, MayMeet, live, soon}
use Rattle.sch_paths.proofs.paths.MeetsByCases.{meets-append, Before, before_same, may_meet}

-- ## Equivalences

pub itself : {A : Type 0} → A ↔ A
itself = (λ a. a, λ a. a)

pub then_is : {A B C : Type 0} → A ↔ B → B ↔ C → A ↔ C
then_is f g = (λ a. g.0 (f.0 a), λ c. f.1 (g.1 c))

pub either_same : {A B C D : Type 0} → A ↔ C → B ↔ D → (A ⊎ B) ↔ (C ⊎ D)
either_same f g = (
  λ w. elim w [ inl a ↦ inl (f.0 a) | inr b ↦ inr (g.0 b) ],
  λ w. elim w [ inl a ↦ inl (f.1 a) | inr b ↦ inr (g.1 b) ],
)

pub both_same : {A B C D : Type 0} → A ↔ C → B ↔ D → (A × B) ↔ (C × D)
both_same f g = (λ w. (f.0 w.0, g.0 w.1), λ w. (f.1 w.0, g.1 w.1))

pub flip : {A B : Type 0} → A ↔ B → B ↔ A
flip f = (f.1, f.0)

pub swapped : {A B : Type 0} → (A ⊎ B) ↔ (B ⊎ A)
swapped = (
  λ w. elim w [ inl a ↦ inr a | inr b ↦ inl b ],
  λ w. elim w [ inl a ↦ inr a | inr b ↦ inl b ],
)

nothing_right : {A B : Type 0} → (B → ⊥) → (A ⊎ B) ↔ A
nothing_right n = (λ w. elim w [ inl a ↦ a | inr b ↦ absurd (n b) ], λ a. inl a)

pub match_same : (t : Bool) {A B C D : Type 0} → A ↔ C → B ↔ D → MatchBool t A B ↔ MatchBool t C D
match_same true f g = f
match_same false f g = g

-- ## Events of one kind

-- of events that reference, bind or save, as both `live` and `soon` take them
module _ (x : ℕ) (act : Event → Act) (reads : (y : ℕ) → act (References y) ≡ cond (nat_eq x y) Yes On) (bound : (y : ℕ) → act (Binds y) ≡ cond (nat_eq x y) No On)
    (other : (y : ℕ) → nat_eq x y ≡ false → act (Saves y) ≡ On) where
  references : (ys : List ℕ) (L : Type 0) → Meets act (map References ys) L ↔ ((has x ys ≡ true) ⊎ L)
  references [] L = (λ l. inr l, λ w. elim w [ inl e ↦ absurd (cc) | inr l ↦ l ])
  references (y ∷ ys) L = rw (reads y) (by (nat_eq x y) (references ys L)) where
    by : (t : Bool) → Meets act (map References ys) L ↔ ((has x ys ≡ true) ⊎ L) → decided (cond t Yes On) (Meets act (map References ys) L) ↔ (((t || has x ys) ≡ true) ⊎ L)
    by true f = (λ w. inl refl, λ w. tt)
    by false f = f

  reference_zero : (L : Type 0) → (L → ⊥) → Meets act (References 0 ∷ []) L ↔ (x ≡ 0)
  reference_zero L n = rw (reads 0) (by (nat_eq x 0) refl) where
    by : (t : Bool) → nat_eq x 0 ≡ t → decided (cond t Yes On) L ↔ (x ≡ 0)
    by true e = (λ w. eqb-true x 0 e, λ i. tt)
    by false e = (λ w. absurd (n w), λ i. absurd (eqb-false x 0 e i))

  saves_none : (ys : List ℕ) (L : Type 0) → has x ys ≡ false → Meets act (map Saves ys) L ↔ L
  saves_none [] L n = itself
  saves_none (y ∷ ys) L n = rw (other y (not_left (nat_eq x y) _ n)) (saves_none ys L (not_right (nat_eq x y) _ n))

  binding_is : (inside : ℕ → Bool) (y : ℕ) (L : Type 0) → Meets act (binding inside y) L ↔ Across y x L
  binding_is inside y L = by (inside y) (nat_eq x y) refl where
    by : (i t : Bool) → nat_eq x y ≡ t → Meets act (Binds y ∷ map Saves (cond i (y ∷ []) [])) L ↔ ((x ≢ y) × L)
    by true true e = rw (bound y, e) (λ w. absurd w, λ w. absurd (w.0 (eqb-true x y e)))
    by false true e = rw (bound y, e) (λ w. absurd w, λ w. absurd (w.0 (eqb-true x y e)))
    by true false e = rw (bound y, e, other y e) (λ w. (eqb-false x y e, w), λ w. w.1)
    by false false e = rw (bound y, e) (λ w. (eqb-false x y e, w), λ w. w.1)

  all_bound : (ys : List ℕ) (L : Type 0) → Meets act (map Binds ys) L ↔ ((has x ys ≡ false) × L)
  all_bound [] L = (λ l. (refl, l), λ w. w.1)
  all_bound (y ∷ ys) L = rw (bound y) (by (nat_eq x y) (all_bound ys L)) where
    by : (t : Bool) → Meets act (map Binds ys) L ↔ ((has x ys ≡ false) × L) → decided (cond t No On) (Meets act (map Binds ys) L) ↔ (((t || has x ys) ≡ false) × L)
    by true f = (λ w. absurd w, λ w. absurd (let h = w.0 in cc))
    by false f = f

  has_filter : (inside : ℕ → Bool) (ys : List ℕ) → has x ys ≡ false → has x (filter inside ys) ≡ false
  has_filter inside [] n = refl
  has_filter inside (y ∷ ys) n = by (inside y) (has_filter inside ys (not_right (nat_eq x y) _ n)) where
    by : (t : Bool) → has x (filter inside ys) ≡ false → has x (cond t (y ∷ filter inside ys) (filter inside ys)) ≡ false
    by true f = neither (nat_eq x y) _ (not_left (nat_eq x y) _ n) f
    by false f = f

  grouping_is : (inside : ℕ → Bool) (members : List (Member ℕ)) (L : Type 0)
      → Meets act (grouping inside members) L ↔ ((has x (member_variables members) ≡ false) × (Mentions x (member_atoms members) ⊎ L))
  grouping_is inside members L =
      let ys : List ℕ = member_variables members in
      let zs : List ℕ = named (member_atoms members) in
      then_is (meets-append act (map Binds ys) (map References zs ++ map Saves (filter inside ys)) L)
      (then_is (all_bound ys (Meets act (map References zs ++ map Saves (filter inside ys)) L)) (inner, outer)) where
        rest : has x (member_variables members) ≡ false
            → Meets act (map References (named (member_atoms members)) ++ map Saves (filter inside (member_variables members))) L ↔ (Mentions x (member_atoms members) ⊎ L)
        rest n =
            then_is (meets-append act (map References (named (member_atoms members))) (map Saves (filter inside (member_variables members))) L)
            (then_is (references (named (member_atoms members)) _)
            (either_same itself (saves_none (filter inside (member_variables members)) L (has_filter inside (member_variables members) n))))

        inner : (has x (member_variables members) ≡ false) × Meets act (map References (named (member_atoms members)) ++ map Saves (filter inside (member_variables members))) L
            → (has x (member_variables members) ≡ false) × (Mentions x (member_atoms members) ⊎ L)
        inner w = (w.0, (rest w.0).0 w.1)

        outer : (has x (member_variables members) ≡ false) × (Mentions x (member_atoms members) ⊎ L)
            → (has x (member_variables members) ≡ false) × Meets act (map References (named (member_atoms members)) ++ map Saves (filter inside (member_variables members))) L
        outer w = (w.0, (rest w.0).1 w.1)

  -- references, and then one thing more
  references_then : (ys : List ℕ) (e : Event) (es : List Event) (K L : Type 0) → Meets act (e ∷ es) L ↔ K → Meets act (map References ys ++ e ∷ es) L ↔ ((has x ys ≡ true) ⊎ K)
  references_then ys e es K L f = then_is (meets-append act (map References ys) (e ∷ es) L) (then_is (references ys _) (either_same itself f))

  leaves : (e : Event) (L : Type 0) → act e ≡ No → Meets act (References 0 ∷ e ∷ []) L ↔ (x ≡ 0)
  leaves e L n = reference_zero (Meets act (e ∷ []) L) (λ w. subst (λ a. decided a L) n w)

-- ## Live variables

module _ (x : ℕ) where
  saves_live : (ys : List ℕ) (L : Type 0) → Meets (live x) (map Saves ys) L ↔ L
  saves_live [] L = itself
  saves_live (y ∷ ys) L = saves_live ys L

  live_refs : (ys : List ℕ) (L : Type 0) → Meets (live x) (map References ys) L ↔ ((has x ys ≡ true) ⊎ L)
  live_refs = references x (live x) (λ y. refl) (λ y. refl) (λ y e. refl)

  pub binding_live : (inside : ℕ → Bool) (y : ℕ) (L : Type 0) → Meets (live x) (binding inside y) L ↔ Across y x L
  binding_live inside y L = binding_is x (live x) (λ y. refl) (λ y. refl) (λ y e. refl) inside y L

  pub live_before : (inside : ℕ → Bool) (e : Expression) (L : Bool → Type 0) → Before (live x) inside e L ↔ Live x e L
  live_before inside (perform o) L = live_refs (named (operation_atoms o)) (AfterValue o L)
  live_before inside (bind y a b) L =
      then_is (before_same (live x) inside a _ _ (λ t. then_is (binding_is x (live x) (λ y. refl) (λ y. refl) (λ y e. refl) inside y _) (both_same itself (live_before inside b L))))
      (live_before inside a (λ t. Across y x (Live x b L)))
  live_before inside (sequence a b) L = then_is (before_same (live x) inside a _ _ (λ t. live_before inside b L)) (live_before inside a (λ t. Live x b L))
  live_before inside (branch a b c) L =
      then_is (before_same (live x) inside a _ _ (λ t. match_same t (live_before inside b L) (live_before inside c L)))
      (live_before inside a (λ t. MatchBool t (Live x b L) (Live x c L)))
  live_before inside (fix members e) L =
      then_is (grouping_is x (live x) (λ y. refl) (λ y. refl) (λ y e. refl) inside members _) (both_same itself (either_same itself (live_before inside e L)))
  live_before inside (call a listed) L =
      references_then x (live x) (λ y. refl) (λ y. refl) (λ y e. refl) (named (application_atoms a)) (Calls a listed) [] (Perhaps L) (Perhaps L) itself
  live_before inside (tail_call a) L =
      then_is (references_then x (live x) (λ y. refl) (λ y. refl) (λ y e. refl) (named (application_atoms a)) (References 0) (Tails a ∷ []) (x ≡ 0) (Perhaps L)
      (leaves x (live x) (λ y. refl) (λ y. refl) (λ y e. refl) (Tails a) (Perhaps L) refl)) swapped
  live_before inside (return e) L =
      then_is (before_same (live x) inside e _ _ (λ t. leaves x (live x) (λ y. refl) (λ y. refl) (λ y e. refl) Returns (Perhaps L) refl)) (live_before inside e (λ t. x ≡ 0))
  live_before inside (end e) L = live_before inside e (λ t. ⊥)
  live_before inside (save saves e) L = then_is (saves_live (heads e saves) _) (live_before (with_region saves inside) e L)

  -- a variable is live by the paths where it is by the cases
  pub live_is : (inside : ℕ → Bool) (e : Expression) (L : Bool → Type 0) → MayMeet (live x) inside e L ↔ Live x e L
  live_is inside e L = then_is (may_meet (live x) inside e L) (live_before inside e L)

  -- ## Variables that are wanted soon

  on_other : (y : ℕ) → nat_eq x y ≡ false → soon x (Saves y) ≡ On
  on_other y e = rw e refl

  saves_soon : (ys : List ℕ) (L : Type 0) → Meets (soon x) (map Saves ys) L ↔ ((has x ys ≡ true) ⊎ L)
  saves_soon [] L = (λ l. inr l, λ w. elim w [ inl e ↦ absurd (cc) | inr l ↦ l ])
  saves_soon (y ∷ ys) L = by (nat_eq x y) (saves_soon ys L) where
    by : (t : Bool) → Meets (soon x) (map Saves ys) L ↔ ((has x ys ≡ true) ⊎ L) → decided (cond t Yes On) (Meets (soon x) (map Saves ys) L) ↔ (((t || has x ys) ≡ true) ⊎ L)
    by true f = (λ w. inl refl, λ w. tt)
    by false f = f

  pub soon_before : (inside : ℕ → Bool) (e : Expression) (L : Bool → Type 0) → Before (soon x) inside e L ↔ Soon x e L
  soon_before inside (perform o) L = references x (soon x) (λ y. refl) (λ y. refl) on_other (named (operation_atoms o)) (AfterValue o L)
  soon_before inside (bind y a b) L =
      then_is (before_same (soon x) inside a _ _ (λ t. then_is (binding_is x (soon x) (λ y. refl) (λ y. refl) on_other inside y _) (both_same itself (soon_before inside b L))))
      (soon_before inside a (λ t. Across y x (Soon x b L)))
  soon_before inside (sequence a b) L = then_is (before_same (soon x) inside a _ _ (λ t. soon_before inside b L)) (soon_before inside a (λ t. Soon x b L))
  soon_before inside (branch a b c) L =
      then_is (before_same (soon x) inside a _ _ (λ t. match_same t (soon_before inside b L) (soon_before inside c L)))
      (soon_before inside a (λ t. MatchBool t (Soon x b L) (Soon x c L)))
  soon_before inside (fix members e) L =
      then_is (grouping_is x (soon x) (λ y. refl) (λ y. refl) on_other inside members _) (both_same itself (either_same itself (soon_before inside e L)))
  soon_before inside (call a listed) L =
      then_is (references_then x (soon x) (λ y. refl) (λ y. refl) on_other (named (application_atoms a)) (Calls a listed) [] ⊥ (Perhaps L) itself) (nothing_right (λ b. b))
  soon_before inside (tail_call a) L =
      then_is (references_then x (soon x) (λ y. refl) (λ y. refl) on_other (named (application_atoms a)) (References 0) (Tails a ∷ []) (x ≡ 0) (Perhaps L)
      (leaves x (soon x) (λ y. refl) (λ y. refl) on_other (Tails a) (Perhaps L) refl)) swapped
  soon_before inside (return e) L =
      then_is (before_same (soon x) inside e _ _ (λ t. leaves x (soon x) (λ y. refl) (λ y. refl) on_other Returns (Perhaps L) refl)) (soon_before inside e (λ t. x ≡ 0))
  soon_before inside (end e) L = soon_before inside e (λ t. ⊥)
  soon_before inside (save saves e) L = then_is (saves_soon (heads e saves) _) (either_same itself (soon_before (with_region saves inside) e L))

  pub soon_is : (inside : ℕ → Bool) (e : Expression) (L : Bool → Type 0) → MayMeet (soon x) inside e L ↔ Soon x e L
  soon_is inside e L = then_is (may_meet (soon x) inside e L) (soon_before inside e L)

  pub binding_soon : (inside : ℕ → Bool) (y : ℕ) (L : Type 0) → Meets (soon x) (binding inside y) L ↔ Across y x L
  binding_soon inside y L = binding_is x (soon x) (λ y. refl) (λ y. refl) on_other inside y L

  -- ## A return

  pub return_live : Meets (live x) (References 0 ∷ Returns ∷ []) ⊥ ↔ (x ≡ 0)
  return_live = leaves x (live x) (λ y. refl) (λ y. refl) (λ y e. refl) Returns ⊥ refl

  pub return_soon : Meets (soon x) (References 0 ∷ Returns ∷ []) ⊥ ↔ (x ≡ 0)
  return_soon = leaves x (soon x) (λ y. refl) (λ y. refl) on_other Returns ⊥ refl
