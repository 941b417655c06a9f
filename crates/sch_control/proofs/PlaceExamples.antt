-- Worked rows: places, and when variables are apart.
use Rattle.std.proofs.Common.{◌≡◌, ◌≢◌, refl, ℕ, true, false, List, [], ◌∷◌, Some, None, ◌⊎◌}
use Rattle.std.specs.Prelude.{map}
use Rattle.std.specs.Bool.{MatchBool}
use Rattle.sch_word.specs.trees.Bindings.{numbers}
use Rattle.sch_word.specs.declared.place.Place.{Place}
use Rattle.sch_word.specs.declared.place.Place.TheVariants.{Reg, Slot}
use Rattle.sch_control.specs.declared.operation.Member.{Member}
use Rattle.sch_control.specs.Tree.{Expression, bind, sequence, branch, fix, call, return, end, save}
use Rattle.sch_control.specs.flow.Live.{MayGive, Live, Later}
use Rattle.sch_word.specs.values.Places.{link_place, closure_place}
use Rattle.sch_control.specs.flow.Places.{place_of, count_slots, arrival, formals_of, stays, is_usual}
use Rattle.sch_control.specs.flow.Apart.{Around, Alone, Apart, BoundAlone, PointsApart}
use Rattle.sch_control.proofs.Examples.{held_in, applied}

-- ## Places

abbrev listed_places : List Place
listed_places = Reg 15 ∷ Reg 14 ∷ Slot 4 ∷ Reg 3 ∷ Slot 0 ∷ []

places_listed : map (place_of listed_places) (numbers 0 6) ≡ Reg 15 ∷ Reg 14 ∷ Slot 4 ∷ Reg 3 ∷ Slot 0 ∷ Slot 0 ∷ []
places_listed = refl

slots_counted : count_slots listed_places ∷ count_slots [] ∷ [] ≡ 2 ∷ 0 ∷ []
slots_counted = refl

entered_at : link_place ∷ closure_place ∷ [] ≡ Reg 15 ∷ Reg 14 ∷ []
entered_at = refl

arrivals : map arrival (numbers 0 8) ≡ Reg 3 ∷ Reg 8 ∷ Reg 9 ∷ Reg 10 ∷ Reg 6 ∷ Reg 7 ∷ Slot 0 ∷ Slot 1 ∷ []
arrivals = refl

formals_counted : formals_of None ∷ formals_of (Some (record { formals = 3; rest = true; fields = 2 })) ∷ [] ≡ 0 ∷ 3 ∷ []
formals_counted = refl

stays_there : stays (Reg 3) (Reg 3) ∷ stays (Reg 3) (Reg 8) ∷ stays (Reg 3) (Slot 3) ∷ stays (Slot 1) (Slot 1) ∷ stays (Slot 1) (Slot 2) ∷ stays (Slot 3) (Reg 3) ∷ []
    ≡ true ∷ false ∷ true ∷ true ∷ false ∷ false ∷ []
stays_there = refl

usual_places : map (is_usual 2) (Reg 3 ∷ Reg 7 ∷ Reg 14 ∷ Reg 15 ∷ Reg 0 ∷ Slot 0 ∷ Slot 201 ∷ Slot 202 ∷ [])
    ≡ true ∷ true ∷ false ∷ false ∷ false ∷ true ∷ true ∷ false ∷ []
usual_places = refl

-- ## Apart

module _ (place : ℕ → Place) (a b c : Expression) (members : List (Member ℕ)) (L : Later) (Met : Type 0) where
  alone_means : (live : ℕ → Type 0) (y : ℕ) → Alone place live y ≡ ((x : ℕ) → live x → x ≢ y → place x ≢ place y)
  alone_means live y = refl

  apart_means : (live : ℕ → Type 0) → Apart place live ≡ ((x y : ℕ) → live x → live y → x ≢ y → place x ≢ place y)
  apart_means live = refl

  alone_bound : BoundAlone place (bind 5 a b) L
      ≡ (Alone place (λ x. Live x b (L x)) 5 × (BoundAlone place a (λ x t. (x ≢ 5) × Live x b (L x)) × BoundAlone place b L))
  alone_bound = refl

  alone_in_arms : BoundAlone place (branch a b c) L
      ≡ (BoundAlone place a (λ x t. MatchBool t (Live x b (L x)) (Live x c (L x))) × (BoundAlone place b L × BoundAlone place c L))
  alone_in_arms = refl

  alone_inside : BoundAlone place (save (2 ∷ []) (return (sequence a b))) L ≡ (BoundAlone place a (λ x t. Live x b (λ t. x ≡ 0)) × BoundAlone place b (λ x t. x ≡ 0))
  alone_inside = refl

  -- points: an arm is met where its test may go there
  points_of_arms : PointsApart place (branch a b c) Met L
      ≡ (PointsApart place a Met (λ x t. MatchBool t (Live x b (L x)) (Live x c (L x)))
      × (PointsApart place b (Met × MayGive a true) L × PointsApart place c (Met × MayGive a false) L))
  points_of_arms = refl

  points_of_bindings : PointsApart place (bind 5 a b) Met L
      ≡ (PointsApart place a Met (λ x t. (x ≢ 5) × Live x b (L x)) × PointsApart place b Met L)
  points_of_bindings = refl

  -- directly after a call what is live behind it is apart
  points_of_calls : PointsApart place (call (applied 0 (held_in 2) []) (2 ∷ [])) Met L
      ≡ (Met → Apart place (λ x. Live x (call (applied 0 (held_in 2) []) (2 ∷ [])) (L x)) × Apart place (λ x. L x true ⊎ L x false))
  points_of_calls = refl

  points_of_groups : PointsApart place (fix members (end a)) Met L
      ≡ ((Met → Apart place (λ x. Live x (fix members (end a)) (L x)))
      × ((Met → Apart place (Around members (λ x. Live x a (λ t. ⊥)))) × PointsApart place a Met (λ x t. ⊥)))
  points_of_groups = refl

  alone_in_groups : BoundAlone place (fix (record { at = 6; closure = record { label = 1; fields = [] } } ∷ []) (end a)) L
      ≡ ((Alone place (Around (record { at = 6; closure = record { label = 1; fields = [] } } ∷ []) (λ x. Live x a (λ t. ⊥))) 6 × Unit {0}) × BoundAlone place a (λ x t. ⊥))
  alone_in_groups = refl
