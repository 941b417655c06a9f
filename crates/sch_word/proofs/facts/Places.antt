-- Tests of places.
use Rattle.std.proofs.Common.{◌≡◌, ◌≢◌, ℕ, Bool, true, false, refl, ap, inl, inr, ◌⊎◌}
use Rattle.std.proofs.lemmas.Bool.{eq-eqb, eqb-true}
use Rattle.sch_word.specs.declared.place.Place.{Place}
use Rattle.sch_word.specs.declared.place.Place.TheVariants.{Reg, Slot}
use Rattle.sch_word.specs.values.Places.{same_place}

pub place_itself : (p : Place) → same_place p p ≡ true
place_itself (Reg a) = eq-eqb a a refl
place_itself (Slot a) = eq-eqb a a refl

pub place_same : (p q : Place) → p ≡ q → same_place p q ≡ true
place_same p q e = rw e (place_itself q)

pub places_same : (p q : Place) → same_place p q ≡ true → p ≡ q
places_same (Reg a) (Reg b) h = ap Reg (eqb-true a b h)
places_same (Slot a) (Slot b) h = ap Slot (eqb-true a b h)
places_same (Reg a) (Slot b) h = absurd (cc)
places_same (Slot a) (Reg b) h = absurd (cc)

pub place_other : (p q : Place) → p ≢ q → same_place p q ≡ false
place_other p q h =
    let go : (b : Bool) → same_place p q ≡ b → same_place p q ≡ false =
    λ b. elim b as (λ b. same_place p q ≡ b → same_place p q ≡ false) [
      | true ↦ λ e. absurd (h (places_same p q e))
      | false ↦ λ e. e
    ] in
    go (same_place p q) refl

pub cases_place : (p q : Place) → (p ≡ q) ⊎ (p ≢ q)
cases_place p q = go (same_place p q) refl
  where
    go : (b : Bool) → same_place p q ≡ b → (p ≡ q) ⊎ (p ≢ q)
    go true e = inl (places_same p q e)
    go false e = inr (λ h. absurd (let t = place_same p q h in cc))

-- the number of a slot, by which equal slots have equal numbers
abbrev pub slot_number : Place → ℕ
slot_number (Reg r) = 0
slot_number (Slot k) = k
