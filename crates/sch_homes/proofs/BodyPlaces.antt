-- Variables whose places differ lie apart in the frame, and what a body is entered with comes where nothing else stands.
use Rattle.std.proofs.Common.{◌≡◌, ◌≢◌, ℕ, zero, suc, ◌+◌, ◌<◌, ◌≤◌, List, [], ◌∷◌, length, Option, Some, Bool, true, false, cond, refl, sym, ap, ◌∙◌, subst, arith}
use Rattle.std.specs.Prelude.{nat_lt, slice_get}
use Rattle.std.proofs.lemmas.Bool.{eqb-true}
use Rattle.sch_word.proofs.facts.Booleans.{false_true}
use Rattle.sch_word.specs.declared.place.Place.{Place}
use Rattle.sch_word.specs.declared.place.Place.TheVariants.{Reg, Slot}
use Rattle.sch_control.specs.declared.body.Entry.{Entry}
use Rattle.sch_control.specs.Tree.{Expression}
use Rattle.sch_control.specs.flow.Apart as flow
use Rattle.sch_control.specs.flow.Live.{Live, nothing_later}
use Rattle.sch_control.specs.flow.Places.{arrival, place_of, stays, formals_of, variable_arrival}
use Rattle.sch_word.specs.values.Places.{same_place, closure_place, link_place, is_slot}
use Rattle.sch_layout.specs.Laws.{EntersSlots}
use Rattle.sch_layout.specs.SharedPlaces.{Alone, Arrives}
use Rattle.sch_word.proofs.facts.Places.{place_itself, places_same}
use Rattle.sch_homes.specs.Homes.{homes_plan, lives_in, place}

-- ## The places of a body

pub listed_at : (places : List Place) (x : ℕ) → x < length places → slice_get places x ≡ Some (place_of places x)
listed_at [] x lt = absurd (omega (arith, lt))
listed_at (p ∷ places) zero lt = refl
listed_at (p ∷ places) (suc x) lt = listed_at places x (omega (arith, lt))

module _ (entry : Option Entry) (e : Expression) (places : List Place) where
  pub place_is : (x : ℕ) → x < length places → place entry e places x ≡ place_of places x
  place_is x lt = ap lives_in (listed_at places x lt)

  pub places_apart : (x y : ℕ) → x < length places → y < length places → place_of places x ≢ place_of places y
      → same_place (place entry e places x) (place entry e places y) ≡ false
  places_apart x y lx ly n = by (same_place (place entry e places x) (place entry e places y)) refl where
    by : (t : Bool) → same_place (place entry e places x) (place entry e places y) ≡ t → t ≡ false
    by true i = absurd (n (sym (place_is x lx) ∙ (places_same (place entry e places x) (place entry e places y) i ∙ place_is y ly)))
    by false i = refl

  -- a variable that is alone in its place is alone in the frame
  pub alone_in_frame : (live : ℕ → Type 0) → ((x : ℕ) → live x → x < length places) → (y : ℕ) → y < length places → flow.Alone (place_of places) live y → Alone (homes_plan entry e places) live y
  alone_in_frame live low y ly alone x l n = places_apart x y (low x l) ly (alone x l n)

-- ## What a body is entered with

-- A formal stays where it arrives, or comes from a register into a slot.
data Enters (arrives : Place) (p : Place) : Type 0 where
  stays_there : p ≡ arrives → Enters arrives p
  to_slot : (r j : ℕ) → arrives ≡ Reg r → p ≡ Slot j → Enters arrives p

enters_as : (arrives p : Place) → stays arrives p ≡ true → Enters arrives p
enters_as (Reg r) (Reg q) h = stays_there (ap Reg (sym (eqb-true r q h)))
enters_as (Reg r) (Slot j) h = to_slot r j refl refl
enters_as (Slot i) (Reg q) h = absurd (cc)
enters_as (Slot i) (Slot j) h = stays_there (ap Slot (sym (eqb-true i j h)))

module _ (entry : Option Entry) (e : Expression) (places : List Place) (whole : 2 + formals_of entry ≤ length places)
    (link : place_of places 0 ≡ link_place) (closure : place_of places 1 ≡ closure_place)
    (formals : (k : ℕ) → k < formals_of entry → stays (arrival k) (place_of places (2 + k)) ≡ true) where
  abbrev lies : ℕ → Place
  lies = place entry e places

  enters : (x : ℕ) → x < 2 + formals_of entry → Enters (variable_arrival x) (place_of places x)
  enters zero lt = stays_there link
  enters (suc zero) lt = stays_there closure
  enters (suc (suc k)) lt =
      let two : 2 + k ≡ suc (suc k) = omega arith in
      subst (λ n. Enters (arrival k) (place_of places n)) two (enters_as (arrival k) (place_of places (2 + k)) (formals k (omega (arith, lt))))

  lies_at : (x : ℕ) → x < 2 + formals_of entry → lies x ≡ place_of places x
  lies_at x lt = place_is entry e places x (let w = whole in omega (arith, lt, w))

  -- what stays does not come elsewhere
  not_elsewhere : {A : Type 0} (x : ℕ) → x < 2 + formals_of entry → place_of places x ≡ variable_arrival x → same_place (lies x) (variable_arrival x) ≡ false → A
  not_elsewhere x lt i s = absurd (false_true (ap (λ p. same_place p (variable_arrival x)) (lies_at x lt ∙ i) ∙ place_itself (variable_arrival x)) s)

  -- what does not stay comes from a register
  pub from_register : (x : ℕ) → x < 2 + formals_of entry → same_place (lies x) (variable_arrival x) ≡ false → is_slot (variable_arrival x) ≡ false
  from_register x lt s = by (enters x lt) where
    by : Enters (variable_arrival x) (place_of places x) → is_slot (variable_arrival x) ≡ false
    by (stays_there j) = not_elsewhere x lt j s
    by (to_slot r j a p) = ap is_slot a

  pub enters_slots : EntersSlots (homes_plan entry e places) (2 + formals_of entry)
  enters_slots x lt s i = from_register x lt s

  pub arrive_apart : flow.EnteredAlone (place_of places) (2 + formals_of entry) e → Arrives (homes_plan entry e places) (λ x. Live x e (nothing_later x)) (2 + formals_of entry)
  arrive_apart alone y ly s x lx l n = by (enters y ly) (nat_lt x y) (enters x lx) where
    apart : same_place (lies x) (lies y) ≡ false
    apart = places_apart entry e places x y (let w = whole in omega (arith, lx, w)) (let w = whole in omega (arith, ly, w)) (alone y ly x l n)

    by : Enters (variable_arrival y) (place_of places y) → (t : Bool)
        → Enters (variable_arrival x) (place_of places x) → same_place (cond t (lies x) (variable_arrival x)) (lies y) ≡ false
    by (stays_there j) t k = not_elsewhere y ly j s
    by (to_slot r j a p) true k = apart
    by (to_slot r j a p) false (stays_there i) = ap (λ q. same_place q (lies y)) (sym (lies_at x lx ∙ i)) ∙ apart
    by (to_slot r j a p) false (to_slot q i b c) =
        ap (λ z. same_place z (lies y)) b ∙ ap (same_place (Reg q)) (lies_at y ly ∙ p)
