-- A plan from tables of places and homes of a body's variables: a variable that is in no table lives behind the frame, so what is
-- asked for all variables is asked for those of the body alone.
use Rattle.std.proofs.Common.{◌≡◌, ◌≢◌, ℕ, ◌<◌, List, length, Bool, true, false, refl, sym, ap, ◌∙◌, arith}
use Rattle.std.specs.Prelude.{nat_lt, slice_get}
use Rattle.std.proofs.lemmas.Bool.{ne_eqb, ltb-true, ltb-false}
use Rattle.std.proofs.lemmas.Option.{slice_get_past}
use Rattle.std.specs.Option.{unwrap_or}
use Rattle.sch_word.specs.declared.place.Place.{Place}
use Rattle.sch_word.specs.declared.place.Place.TheVariants.{Reg, Slot}
use Rattle.sch_control.specs.declared.operation.Application.{Application}
use Rattle.sch_word.specs.values.Places.{same_place, is_slot, link_place}
use Rattle.sch_layout.specs.BodyLayout.{Plan}
use Rattle.sch_layout.specs.Moves.{Move, is_own}
use Rattle.sch_layout.specs.SharedPlaces.{HomeApart, Homes}

module _ (words : ℕ) (places homes : List Place) (moves : Bool → Application ℕ → List Move) where
  abbrev pub plan_of : Plan
  plan_of = record { place = λ x. unwrap_or (slice_get places x) (Slot words); home = λ x. unwrap_or (slice_get homes x) (Slot words); limit = words; moves = moves }

  -- what is asked of one variable of the body
  pub record TableApart (x : ℕ) : Type 0 where
    pub in_slot : is_slot (plan_of.home x) ≡ true
    pub own : is_own words (plan_of.home x) ≡ true
    pub places_apart : (y : ℕ) → y < length places → same_place (plan_of.home x) (plan_of.place y) ≡ false
    pub homes_apart : (y : ℕ) → y < length places → is_slot (plan_of.place y) ≡ false → x ≢ y → same_place (plan_of.home x) (plan_of.home y) ≡ false

  not_behind : (p : Place) → is_own words p ≡ true → same_place p (Slot words) ≡ false
  not_behind (Reg r) own = refl
  not_behind (Slot j) own = let lt : j < words = ltb-true j words own in ne_eqb j words (λ e. omega (arith, e, lt))

  pub table_homes : plan_of.place 0 ≡ link_place → ((x : ℕ) → x < length places → is_slot (plan_of.place x) ≡ false → TableApart x) → Homes plan_of
  table_homes link each = record { link = link; home = λ x s. apart x s (nat_lt x (length places)) refl } where
    apart : (x : ℕ) → is_slot (plan_of.place x) ≡ false → (t : Bool) → nat_lt x (length places) ≡ t → HomeApart plan_of x
    apart x s true i =
        let h = each x (ltb-true x (length places) i) s in
        record { in_slot = h.in_slot; own = h.own; places = λ y. by y h.own h.places_apart (nat_lt y (length places)) refl; homes = λ y r n. also y r n h.homes_apart (nat_lt y (length places)) refl } where
          by : (y : ℕ) → is_own words (plan_of.home x) ≡ true → ((y : ℕ) → y < length places → same_place (plan_of.home x) (plan_of.place y) ≡ false) → (t : Bool) → nat_lt y (length places) ≡ t
              → same_place (plan_of.home x) (plan_of.place y) ≡ false
          by y own apart true j = apart y (ltb-true y (length places) j)
          by y own apart false j = ap (λ o. same_place (plan_of.home x) (unwrap_or o (Slot words))) (slice_get_past places y (ltb-false y (length places) j)) ∙ not_behind (plan_of.home x) own

          also : (y : ℕ) → is_slot (plan_of.place y) ≡ false → x ≢ y → ((y : ℕ) → y < length places → is_slot (plan_of.place y) ≡ false → x ≢ y → same_place (plan_of.home x) (plan_of.home y) ≡ false)
              → (t : Bool) → nat_lt y (length places) ≡ t → same_place (plan_of.home x) (plan_of.home y) ≡ false
          also y r n apart true j = apart y (ltb-true y (length places) j) r n
          also y r n apart false j = absurd (let e = sym (ap (λ o. is_slot (unwrap_or o (Slot words))) (slice_get_past places y (ltb-false y (length places) j))) ∙ r in cc)
    apart x s false i = absurd (let e = sym (ap (λ o. is_slot (unwrap_or o (Slot words))) (slice_get_past places x (ltb-false x (length places) i))) ∙ s in cc)
