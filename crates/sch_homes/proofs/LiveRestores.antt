-- What a call of a body restores is live after it, where each call has the set of what is live after it.
use Rattle.std.proofs.Common.{◌≡◌, ℕ, Option, Some, None, Bool, true, false, List, [], ◌∷◌, sym, ◌∙◌, inl, inr}
use Rattle.std.specs.Bool.{MatchBool}
use Rattle.std.specs.FinSet as set
use Rattle.std.specs.List.{list_all}
use Rattle.std.proofs.lemmas.Bool.{and_parts}
use Rattle.sch_word.specs.trees.NumberSets.{has}
use Rattle.sch_sets.specs.Members.{NumberSet}
use Rattle.sch_control.specs.flow.Apart.{EachHas}
use Rattle.sch_control.specs.declared.operation.Operation.{Operation}
use Rattle.sch_control.specs.declared.restoring.Restoring.{Restoring}
use Rattle.sch_control.specs.declared.tree.Exp.{Exp, Do, Bind', Seq', If', Fix', Call, TailCall, Return', End', Save'}
use Rattle.sch_control.specs.flow.Live.{known, ByResult, AfterValue, Across, Later, Live, MayGive, Perhaps}
use Rattle.sch_control.specs.flow.LiveSets.{LiveSets}
use Rattle.sch_control.proofs.NumberLists.{has_items}
use Rattle.sch_homes.specs.RestoresLive.{RestoresLive}
use Rattle.sch_control.specs.flow.RestoredView.{restored, restored_listed}

perhaps_map : (L M : Bool → Type 0) → ((t : Bool) → L t → M t) → Perhaps L → Perhaps M
perhaps_map L M f (inl l) = inl (f true l)
perhaps_map L M f (inr l) = inr (f false l)

after_value_map : (o : Operation ℕ) (L M : Bool → Type 0) → ((t : Bool) → L t → M t) → AfterValue o L → AfterValue o M
after_value_map o L M f l = by (known o) l where
  by : (r : Option Bool) → ByResult r L → ByResult r M
  by None l = perhaps_map L M f l
  by (Some t) l = f t l

-- what is restored is in the set
each_alive : (P : ℕ → Type 0) (live : NumberSet) → ((x : ℕ) → has x (set.items live) ≡ true → P x) → (xs : List ℕ) → list_all (set.contains live) xs ≡ true → EachHas P xs
each_alive P live f [] h = tt
each_alive P live f (x ∷ xs) h = let parts = and_parts (set.contains live x) _ h in (f x (sym (has_items live x) ∙ parts.0), each_alive P live f xs parts.1)

module _ {N : ℕ} where
  -- what is live does not depend on what calls have
  live_as : (e : Exp (Restoring N)) (x : ℕ) (L M : Bool → Type 0) → ((t : Bool) → L t → M t) → Live x (restored_listed e) L → Live x (restored e) M
  live_as (Do o) x L M f (inl m) = inl m
  live_as (Do o) x L M f (inr l) = inr (after_value_map o L M f l)
  live_as (Bind' y p a q b) x L M f l =
      live_as a x (λ t. Across y x (Live x (restored_listed b) L)) (λ t. Across y x (Live x (restored b) M)) (λ t k. (k.0, live_as b x L M f k.1)) l
  live_as (Seq' p a q b) x L M f l = live_as a x (λ t. Live x (restored_listed b) L) (λ t. Live x (restored b) M) (λ t k. live_as b x L M f k) l
  live_as (If' p a q b r c) x L M f l =
      live_as a x (λ t. MatchBool t (Live x (restored_listed b) L) (Live x (restored_listed c) L)) (λ t. MatchBool t (Live x (restored b) M) (Live x (restored c) M))
      (λ t k. by t (live_as b x L M f) (live_as c x L M f) k) l where
        by : (t : Bool) → (Live x (restored_listed b) L → Live x (restored b) M) → (Live x (restored_listed c) L → Live x (restored c) M)
            → MatchBool t (Live x (restored_listed b) L) (Live x (restored_listed c) L) → MatchBool t (Live x (restored b) M) (Live x (restored c) M)
        by true g h k = g k
        by false g h k = h k
  live_as (Fix' members p e) x L M f (o, inl m) = (o, inl m)
  live_as (Fix' members p e) x L M f (o, inr l) = (o, inr (live_as e x L M f l))
  live_as (Call a r) x L M f (inl m) = inl m
  live_as (Call a r) x L M f (inr l) = inr (perhaps_map L M f l)
  live_as (TailCall a) x L M f l = l
  live_as (Return' p e) x L M f l = live_as e x (λ t. x ≡ 0) (λ t. x ≡ 0) (λ t i. i) l
  live_as (End' p e) x L M f l = live_as e x (λ t. ⊥) (λ t. ⊥) (λ t i. i) l
  live_as (Save' saves p e) x L M f l = live_as e x L M f l

  may_give_as : (e : Exp (Restoring N)) (r : Bool) → MayGive (restored_listed e) r → MayGive (restored e) r
  may_give_as (Do o) r g = g
  may_give_as (Bind' y p a q b) r g = may_give_as b r g
  may_give_as (Seq' p a q b) r g = may_give_as b r g
  may_give_as (If' p a q b s c) r (inl g) = inl (may_give_as a true g.0, may_give_as b r g.1)
  may_give_as (If' p a q b s c) r (inr g) = inr (may_give_as a false g.0, may_give_as c r g.1)
  may_give_as (Fix' members p e) r g = may_give_as e r g
  may_give_as (Call a s) r g = tt
  may_give_as (TailCall a) r g = tt
  may_give_as (Return' p e) r g = tt
  may_give_as (End' p e) r g = tt
  may_give_as (Save' saves p e) r g = may_give_as e r g

  pub restores_live : (e : Exp (Restoring N)) (Met Met' : Type 0) (L M : Later) → (Met → Met') → ((x : ℕ) (t : Bool) → L x t → M x t)
      → LiveSets (restored_listed e) Met L → RestoresLive (restored e) Met' M
  restores_live (Do o) Met Met' L M g f h = tt
  restores_live (Bind' y p a q b) Met Met' L M g f h = (
    restores_live a Met Met' (λ x t. Across y x (Live x (restored_listed b) (L x))) (λ x t. Across y x (Live x (restored b) (M x))) g
        (λ x t k. (k.0, live_as b x (L x) (M x) (f x) k.1)) h.0,
    restores_live b Met Met' L M g f h.1,
  )
  restores_live (Seq' p a q b) Met Met' L M g f h = (
    restores_live a Met Met' (λ x t. Live x (restored_listed b) (L x)) (λ x t. Live x (restored b) (M x)) g (λ x t k. live_as b x (L x) (M x) (f x) k) h.0,
    restores_live b Met Met' L M g f h.1,
  )
  restores_live (If' p a q b r c) Met Met' L M g f h = (
    restores_live a Met Met' (λ x t. MatchBool t (Live x (restored_listed b) (L x)) (Live x (restored_listed c) (L x)))
        (λ x t. MatchBool t (Live x (restored b) (M x)) (Live x (restored c) (M x))) g (λ x t k. by x t k) h.0,
    (
      restores_live b (Met × MayGive (restored_listed a) true) (Met' × MayGive (restored a) true) L M (λ m. (g m.0, may_give_as a true m.1)) f h.1.0,
      restores_live c (Met × MayGive (restored_listed a) false) (Met' × MayGive (restored a) false) L M (λ m. (g m.0, may_give_as a false m.1)) f h.1.1,
    ),
  ) where
    by : (x : ℕ) (t : Bool) → MatchBool t (Live x (restored_listed b) (L x)) (Live x (restored_listed c) (L x)) → MatchBool t (Live x (restored b) (M x)) (Live x (restored c) (M x))
    by x true k = live_as b x (L x) (M x) (f x) k
    by x false k = live_as c x (L x) (M x) (f x) k
  restores_live (Fix' members p e) Met Met' L M g f h = restores_live e Met Met' L M g f h
  restores_live (Call a r) Met Met' L M g f h =
      each_alive (λ x. Met' × Perhaps (M x)) r.live (λ x i. let k = (h x).0 i in (g k.0, perhaps_map (L x) (M x) (f x) k.1)) r.restores r.alive
  restores_live (TailCall a) Met Met' L M g f h = tt
  restores_live (Return' p e) Met Met' L M g f h = restores_live e Met Met' (λ x t. x ≡ 0) (λ x t. x ≡ 0) g (λ x t i. i) h
  restores_live (End' p e) Met Met' L M g f h = restores_live e Met Met' (λ x t. ⊥) (λ x t. ⊥) g (λ x t i. i) h
  restores_live (Save' saves p e) Met Met' L M g f h = restores_live e Met Met' L M g f h
