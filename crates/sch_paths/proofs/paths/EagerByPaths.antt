-- What is restored by the cases of an expression is what is restored by the paths.
use Rattle.std.proofs.Common.{◌≡◌, ℕ, Bool, true, false, List, [], ◌∷◌, ◌++◌, refl, subst, inl, inr}
use Rattle.std.specs.Prelude.{◌↔◌}
use Rattle.std.specs.Bool.{MatchBool}
use Rattle.sch_control.specs.Meaning.{no_region, with_region}
use Rattle.sch_control.specs.Tree.{Expression, perform, bind, sequence, branch, fix, call, tail_call, return, end, save}
use Rattle.sch_control.specs.flow.Live.{Later, Live, MayGive, Soon, nothing_later}
use Rattle.sch_control.specs.flow.Paths.{Act, Event, Ends, MayMeet, Meets, References, Returns, binding, live, soon}
use Rattle.sch_paths.specs.Exact.{EagerRestores, EagerSets}
use Rattle.sch_paths.specs.RestoredByPaths.{Onward, RestoredByPaths, RestoredOn, SomeSays, Through}
use Rattle.sch_paths.proofs.paths.LiveByPaths.{binding_live, binding_soon, both_same, either_same, flip, itself, live_is, return_live, return_soon, soon_is, then_is}
use Rattle.sch_paths.proofs.paths.MeetsByCases.{has_path, meets-append, meets-decide, meets-map}

-- some path goes on, whatever the result
abbrev pub GoesOn : Onward → Type 0
GoesOn K = (t : Bool) → (es : List Event) × K t es

module _ (act : Event → Act) where
  says_append : (xs ys : List Event) → Meets act xs (Meets act ys ⊥) → Meets act (xs ++ ys) ⊥
  says_append xs ys m = (meets-append act xs ys ⊥).1 m

  -- what may be met through an expression and on is what some path through it and on meets
  pub through_says : (inside : ℕ → Bool) (e : Expression) (K : Onward) → GoesOn K → MayMeet act inside e (λ r. SomeSays act (K r)) ↔ SomeSays act (Through inside e K)
  through_says inside e K goes = (there, back) where
    there : MayMeet act inside e (λ r. SomeSays act (K r)) → SomeSays act (Through inside e K)
    there w = elim (meets-decide act w.0 (SomeSays act (K w.1)) w.3) [
      | inl here ↦
          let on = goes w.1 in
          (w.0 ++ on.0, (w.0, on.0, w.1, w.2, on.1, refl), says_append w.0 on.0 (meets-map act w.0 ⊥ _ (λ b. absurd b) here))
      | inr past ↦ (w.0 ++ past.0, (w.0, past.0, w.1, w.2, past.1, refl), says_append w.0 past.0 (meets-map act w.0 _ _ (λ s. past.2) w.3))
    ]

    back : SomeSays act (Through inside e K) → MayMeet act inside e (λ r. SomeSays act (K r))
    back w =
        let p = w.1 in
        let m = (meets-append act p.0 p.1 ⊥).0 (subst (λ z. Meets act z ⊥) p.5 w.2) in
        (p.0, p.2, p.3, meets-map act p.0 _ _ (λ q. (p.1, p.4, q)) m)

  may_meet_same : (inside : ℕ → Bool) (e : Expression) (L M : Bool → Type 0) → ((t : Bool) → L t ↔ M t) → MayMeet act inside e L ↔ MayMeet act inside e M
  may_meet_same inside e L M f = (
    λ w. (w.0, w.1, w.2, meets-map act w.0 _ _ (f w.1).0 w.3),
    λ w. (w.0, w.1, w.2, meets-map act w.0 _ _ (f w.1).1 w.3),
  )

  -- of paths that begin with the same events
  pub begin_says : (front : List Event) (Goes : List Event → Type 0) (A : Type 0) → Meets act front A ↔ Meets act front (SomeSays act Goes)
      → ((es : List Event) × Goes es) → Meets act front A ↔ SomeSays act (λ es. (rest : List Event) × Goes rest × (es ≡ front ++ rest))
  begin_says front Goes A f on = then_is f (there, back) where
    there : Meets act front (SomeSays act Goes) → SomeSays act (λ es. (rest : List Event) × Goes rest × (es ≡ front ++ rest))
    there m = elim (meets-decide act front _ m) [
      | inl here ↦ (front ++ on.0, (on.0, on.1, refl), says_append front on.0 (meets-map act front ⊥ _ (λ b. absurd b) here))
      | inr past ↦ (front ++ past.0, (past.0, past.1, refl), says_append front past.0 (meets-map act front _ _ (λ s. past.2) m))
    ]

    back : SomeSays act (λ es. (rest : List Event) × Goes rest × (es ≡ front ++ rest)) → Meets act front (SomeSays act Goes)
    back w =
        let p = w.1 in
        meets-map act front _ _ (λ q. (p.0, p.1, q)) ((meets-append act front p.0 ⊥).0 (subst (λ z. Meets act z ⊥) p.2 w.2))

  pub whole_says : (front : List Event) (A : Type 0) → Meets act front ⊥ ↔ A → A ↔ SomeSays act (λ es. es ≡ front)
  whole_says front A f = (λ a. (front, refl, f.1 a), λ w. f.0 (subst (λ z. Meets act z ⊥) w.1 w.2))

meets_same : (act : Event → Act) (front : List Event) (A B : Type 0) → A ↔ B → Meets act front A ↔ Meets act front B
meets_same act front A B h = (meets-map act front A B h.0, meets-map act front B A h.1)

-- what holds behind an expression, by the cases and by the paths
abbrev pub Agrees : (ℕ → Event → Act) → Later → Onward → Type 0
Agrees act L K = (x : ℕ) (t : Bool) → L x t ↔ SomeSays (act x) (K t)

live_through : (inside : ℕ → Bool) (e : Expression) (L : Later) (K : Onward) → GoesOn K → Agrees live L K → (x : ℕ) → Live x e (L x) ↔ SomeSays (live x) (Through inside e K)
live_through inside e L K goes f x =
    then_is (flip (live_is x inside e (L x))) (then_is (may_meet_same (live x) inside e _ _ (f x)) (through_says (live x) inside e K goes))

soon_through : (inside : ℕ → Bool) (e : Expression) (S : Later) (K : Onward) → GoesOn K → Agrees soon S K → (x : ℕ) → Soon x e (S x) ↔ SomeSays (soon x) (Through inside e K)
soon_through inside e S K goes f x =
    then_is (flip (soon_is x inside e (S x))) (then_is (may_meet_same (soon x) inside e _ _ (f x)) (through_says (soon x) inside e K goes))

goes_through : (inside : ℕ → Bool) (e : Expression) (K : Onward) → GoesOn K → (es : List Event) × Through inside e K es
goes_through inside e K goes =
    let path = has_path inside e in
    let on = goes path.0 in
    (path.1 ++ on.0, (path.1, on.0, path.0, path.2, on.1, refl))

arm_goes : (inside : ℕ → Bool) (b c : Expression) (K : Onward) → GoesOn K → (t : Bool) → (es : List Event) × MatchBool t (Through inside b K es) (Through inside c K es)
arm_goes inside b c K goes true = goes_through inside b K goes
arm_goes inside b c K goes false = goes_through inside c K goes

arm_says : (act : Event → Act) (A B : Type 0) (P Q : List Event → Type 0) → A ↔ SomeSays act P → B ↔ SomeSays act Q
    → (t : Bool) → MatchBool t A B ↔ SomeSays act (λ es. MatchBool t (P es) (Q es))
arm_says act A B P Q f g true = f
arm_says act A B P Q f g false = g

pub restored_on : (e : Expression) (Met : Type 0) (inside : ℕ → Bool) (L S : Later) (K : Onward) → GoesOn K → Agrees live L K → Agrees soon S K
    → EagerSets e Met inside L S → RestoredOn e Met inside K
restored_on (perform o) Met inside L S K goes f g sets = tt
restored_on (bind y a b) Met inside L S K goes f g sets =
    let on = goes_through inside b K goes in (
      restored_on a Met inside _ _ _ (λ t. (binding inside y ++ on.0, (on.0, on.1, refl)))
          (λ x t. then_is (flip (binding_live x inside y (Live x b (L x)))) (begin_says (live x) (binding inside y) (Through inside b K) _
          (meets_same (live x) (binding inside y) _ _ (live_through inside b L K goes f x)) on))
          (λ x t. then_is (flip (binding_soon x inside y (Soon x b (S x)))) (begin_says (soon x) (binding inside y) (Through inside b K) _
          (meets_same (soon x) (binding inside y) _ _ (soon_through inside b S K goes g x)) on)) sets.0,
      restored_on b Met inside L S K goes f g sets.1,
    )
restored_on (sequence a b) Met inside L S K goes f g sets = (
  restored_on a Met inside _ _ _ (λ t. goes_through inside b K goes) (λ x t. live_through inside b L K goes f x) (λ x t. soon_through inside b S K goes g x) sets.0,
  restored_on b Met inside L S K goes f g sets.1,
)
restored_on (branch a b c) Met inside L S K goes f g sets = (
  restored_on a Met inside _ _ _ (arm_goes inside b c K goes)
      (λ x. arm_says (live x) _ _ _ _ (live_through inside b L K goes f x) (live_through inside c L K goes f x))
      (λ x. arm_says (soon x) _ _ _ _ (soon_through inside b S K goes g x) (soon_through inside c S K goes g x)) sets.0,
  (
    restored_on b (Met × MayGive a true) inside L S K goes f g sets.1.0,
    restored_on c (Met × MayGive a false) inside L S K goes f g sets.1.1,
  ),
)
restored_on (fix members e) Met inside L S K goes f g sets = restored_on e Met inside L S K goes f g sets
restored_on (call a restores) Met inside L S K goes f g sets = λ x.
    then_is (sets x) (both_same itself (both_same itself (both_same (either_same (f x true) (f x false)) (either_same (g x true) (g x false)))))
restored_on (tail_call a) Met inside L S K goes f g sets = tt
restored_on (return e) Met inside L S K goes f g sets =
    restored_on e Met inside _ _ _ (λ t. (_, refl)) (λ x t. whole_says (live x) (References 0 ∷ Returns ∷ []) (x ≡ 0) (return_live x))
    (λ x t. whole_says (soon x) (References 0 ∷ Returns ∷ []) (x ≡ 0) (return_soon x)) sets
restored_on (end e) Met inside L S K goes f g sets =
    restored_on e Met inside _ _ _ (λ t. (_, refl)) (λ x t. whole_says (live x) (Ends ∷ []) ⊥ itself) (λ x t. whole_says (soon x) (Ends ∷ []) ⊥ itself) sets
restored_on (save saves e) Met inside L S K goes f g sets = restored_on e Met (with_region saves inside) L S K goes f g sets

pub by_paths : (e : Expression) → EagerRestores e → RestoredByPaths e
by_paths e sets =
    restored_on e (Unit {0}) no_region nothing_later nothing_later (λ t es. es ≡ []) (λ t. ([], refl)) (λ x t. whole_says (live x) [] ⊥ itself)
    (λ x t. whole_says (soon x) [] ⊥ itself) sets
