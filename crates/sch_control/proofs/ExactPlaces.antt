-- What the type of a body with places says as a fact alone holds as it is said: that places differ is a denial.
use Rattle.std.proofs.Common.{ℕ, true, false, List, [], ◌∷◌}
use Rattle.std.proofs.Math.Logic.{∥∥₁_map, ∥∥₁_elim}
use Rattle.sch_word.specs.declared.place.Place.{Place}
use Rattle.sch_control.specs.Tree.{Expression, perform, bind, sequence, branch, fix, call, tail_call, return, end, save}
use Rattle.sch_control.specs.Valid.{member_variables}
use Rattle.sch_control.specs.flow.Live.{Perhaps, MayGive, Live, Later, nothing_later}
use Rattle.sch_control.specs.flow.Apart.{EachHas, Around, Alone, Apart, BoundAlone, PointsApart, EachBoundAlone, EachPointApart}

denial : {A : Type 0} → ∥ (A → ⊥) ∥₁ → A → ⊥
denial h a =
    let fact : IsProp ⊥ = hlevel in
    ∥∥₁_elim h fact (λ f. f a)

module _ (place : ℕ → Place) where
  exact_alone : (live : ℕ → Type 0) (y : ℕ) → ∥ Alone place live y ∥₁ → Alone place live y
  exact_alone live y h x l n = denial (∥∥₁_map h (λ f. f x l n))

  exact_each : (live : ℕ → Type 0) (ys : List ℕ) → ∥ EachHas (Alone place live) ys ∥₁ → EachHas (Alone place live) ys
  exact_each live [] h = tt
  exact_each live (y ∷ ys) h = (exact_alone live y (∥∥₁_map h (λ w. w.0)), exact_each live ys (∥∥₁_map h (λ w. w.1)))

  exact_apart : (live : ℕ → Type 0) → ∥ Apart place live ∥₁ → Apart place live
  exact_apart live h x y l m n = denial (∥∥₁_map h (λ f. f x y l m n))

  exact_bound : (e : Expression) (L : Later) → ∥ BoundAlone place e L ∥₁ → BoundAlone place e L
  exact_bound (perform o) L h = tt
  exact_bound (bind y a b) L h = (
    exact_alone (λ x. Live x b (L x)) y (∥∥₁_map h (λ w. w.0)),
    (exact_bound a _ (∥∥₁_map h (λ w. w.1.0)), exact_bound b L (∥∥₁_map h (λ w. w.1.1))),
  )
  exact_bound (sequence a b) L h = (exact_bound a _ (∥∥₁_map h (λ w. w.0)), exact_bound b L (∥∥₁_map h (λ w. w.1)))
  exact_bound (branch a b c) L h = (
    exact_bound a _ (∥∥₁_map h (λ w. w.0)),
    (exact_bound b L (∥∥₁_map h (λ w. w.1.0)), exact_bound c L (∥∥₁_map h (λ w. w.1.1))),
  )
  exact_bound (fix members e) L h = (
    exact_each (Around members (λ x. Live x e (L x))) (member_variables members) (∥∥₁_map h (λ w. w.0)),
    exact_bound e L (∥∥₁_map h (λ w. w.1)),
  )
  exact_bound (call a restores) L h = tt
  exact_bound (tail_call a) L h = tt
  exact_bound (return e) L h = exact_bound e _ h
  exact_bound (end e) L h = exact_bound e _ h
  exact_bound (save saves e) L h = exact_bound e L h

  exact_points : (e : Expression) (Met : Type 0) (L : Later) → ∥ PointsApart place e Met L ∥₁ → PointsApart place e Met L
  exact_points (perform o) Met L h = λ met. exact_apart (λ x. Live x (perform o) (L x)) (∥∥₁_map h (λ w. w met))
  exact_points (bind y a b) Met L h = (exact_points a Met _ (∥∥₁_map h (λ w. w.0)), exact_points b Met L (∥∥₁_map h (λ w. w.1)))
  exact_points (sequence a b) Met L h = (exact_points a Met _ (∥∥₁_map h (λ w. w.0)), exact_points b Met L (∥∥₁_map h (λ w. w.1)))
  exact_points (branch a b c) Met L h = (
    exact_points a Met _ (∥∥₁_map h (λ w. w.0)),
    (
      exact_points b (Met × MayGive a true) L (∥∥₁_map h (λ w. w.1.0)),
      exact_points c (Met × MayGive a false) L (∥∥₁_map h (λ w. w.1.1)),
    ),
  )
  exact_points (fix members e) Met L h = (
    λ met. exact_apart (λ x. Live x (fix members e) (L x)) (∥∥₁_map h (λ w. w.0 met)),
    (
      λ met. exact_apart (Around members (λ x. Live x e (L x))) (∥∥₁_map h (λ w. w.1.0 met)),
      exact_points e Met L (∥∥₁_map h (λ w. w.1.1)),
    ),
  )
  exact_points (call a restores) Met L h =
      λ met. (
        exact_apart (λ x. Live x (call a restores) (L x)) (∥∥₁_map h (λ w. (w met).0)),
        exact_apart (λ x. Perhaps (L x)) (∥∥₁_map h (λ w. (w met).1)),
      )
  exact_points (tail_call a) Met L h = λ met. exact_apart (λ x. Live x (tail_call a) (L x)) (∥∥₁_map h (λ w. w met))
  exact_points (return e) Met L h = exact_points e Met _ h
  exact_points (end e) Met L h = exact_points e Met _ h
  exact_points (save saves e) Met L h = exact_points e Met L h

  -- what a body with places keeps of its bindings
  pub bound_alone : (e : Expression) → ∥ EachBoundAlone place e ∥₁ → EachBoundAlone place e
  bound_alone e h = exact_bound e nothing_later h

  -- and of its points
  pub points_apart : (e : Expression) → ∥ EachPointApart place e ∥₁ → EachPointApart place e
  points_apart e h = exact_points e (Unit {0}) nothing_later h
