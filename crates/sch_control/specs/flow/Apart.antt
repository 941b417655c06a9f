-- Variables that are live at once live in different places.
use Rattle.std.specs.Prelude.{◌≡◌, ◌≢◌, ◌<◌, ℕ, List, true, false, ◌⊎◌}
use Rattle.std.specs.Bool.{MatchBool}
pub use Rattle.std.specs.List.{AllByRecursion as EachHas}
use Rattle.sch_word.specs.declared.place.Place.{Place}
use Rattle.sch_control.specs.declared.operation.Member.{Member}
use Rattle.sch_control.specs.AtomsAndSites.{member_atoms}
use Rattle.sch_control.specs.Tree.{Expression, perform, bind, sequence, branch, fix, call, tail_call, return, end, save}
use Rattle.sch_control.specs.Valid.{member_variables}
use Rattle.sch_control.specs.flow.Live.{Mentions, Perhaps, Across, MayGive, Live, Later, nothing_later}

-- what is live as the members of a group are in their places: what their fields are, and what is live behind the group
abbrev pub Around : List (Member ℕ) → (live : ℕ → Type 0) → ℕ → Type 0
Around members live x = Mentions x (member_atoms members) ⊎ live x

-- Each variable that is bound has a property among what is live directly after its binding, in an arm that is never taken
-- too. `L` has what is live behind the expression.
abbrev pub EachBinding : (P : (live : ℕ → Type 0) → ℕ → Type 0) → Expression → Later → Type 0
EachBinding P (perform o) L = Unit {0}
EachBinding P (bind y a b) L =
    P (λ x. Live x b (L x)) y × (EachBinding P a (λ x t. Across y x (Live x b (L x))) × EachBinding P b L)
EachBinding P (sequence a b) L = EachBinding P a (λ x t. Live x b (L x)) × EachBinding P b L
EachBinding P (branch a b c) L =
    EachBinding P a (λ x t. MatchBool t (Live x b (L x)) (Live x c (L x))) × (EachBinding P b L × EachBinding P c L)
EachBinding P (fix members e) L = EachHas (P (Around members (λ x. Live x e (L x)))) (member_variables members) × EachBinding P e L
EachBinding P (call a restores) L = Unit {0}
EachBinding P (tail_call a) L = Unit {0}
EachBinding P (return e) L = EachBinding P e (λ x t. x ≡ 0)
EachBinding P (end e) L = EachBinding P e (λ x t. ⊥)
EachBinding P (save saves e) L = EachBinding P e L

module _ (place : ℕ → Place) where
  -- no other variable that is live lives where this one does
  abbrev pub Alone : (live : ℕ → Type 0) → ℕ → Type 0
  Alone live y = (x : ℕ) → live x → x ≢ y → place x ≢ place y

  -- variables that are live live in different places
  abbrev pub Apart : (live : ℕ → Type 0) → Type 0
  Apart live = (x y : ℕ) → live x → live y → x ≢ y → place x ≢ place y

  -- a variable that is bound is alone in its place
  abbrev pub BoundAlone : Expression → Later → Type 0
  BoundAlone = EachBinding Alone

  -- What is live has different places at each point to which some path comes, as `Met` says of the expression: before each
  -- operation and each call, directly after a call, before a group and as its members are in their places.
  abbrev pub PointsApart : Expression → (Met : Type 0) → Later → Type 0
  PointsApart (perform o) Met L = Met → Apart (λ x. Live x (perform o) (L x))
  PointsApart (bind y a b) Met L = PointsApart a Met (λ x t. Across y x (Live x b (L x))) × PointsApart b Met L
  PointsApart (sequence a b) Met L = PointsApart a Met (λ x t. Live x b (L x)) × PointsApart b Met L
  PointsApart (branch a b c) Met L =
      PointsApart a Met (λ x t. MatchBool t (Live x b (L x)) (Live x c (L x)))
      × (PointsApart b (Met × MayGive a true) L × PointsApart c (Met × MayGive a false) L)
  PointsApart (fix members e) Met L =
      (Met → Apart (λ x. Live x (fix members e) (L x)))
      × ((Met → Apart (Around members (λ x. Live x e (L x)))) × PointsApart e Met L)
  PointsApart (call a restores) Met L = Met → Apart (λ x. Live x (call a restores) (L x)) × Apart (λ x. Perhaps (L x))
  PointsApart (tail_call a) Met L = Met → Apart (λ x. Live x (tail_call a) (L x))
  PointsApart (return e) Met L = PointsApart e Met (λ x t. x ≡ 0)
  PointsApart (end e) Met L = PointsApart e Met (λ x t. ⊥)
  PointsApart (save saves e) Met L = PointsApart e Met L

  -- what a body is entered with is alone in its place among what is live as it begins
  abbrev pub EnteredAlone : (count : ℕ) → Expression → Type 0
  EnteredAlone count e = (y : ℕ) → y < count → Alone (λ x. Live x e (nothing_later x)) y

  -- so it is in a whole body
  abbrev pub EachBoundAlone : Expression → Type 0
  EachBoundAlone e = BoundAlone e nothing_later

  abbrev pub EachPointApart : Expression → Type 0
  EachPointApart e = PointsApart e (Unit {0}) nothing_later
