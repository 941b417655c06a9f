-- What is chosen for a variable, and for the members of a group.
use Rattle.std.proofs.Common.{◌≡◌, ◌≢◌, ℕ, suc, ◌<◌, Bool, true, false, List, [], ◌∷◌, ◌++◌, refl, ap, sym, ◌∙◌, inl, inr, ◌⊎◌, arith}
use Rattle.std.specs.Prelude.{nat_eq, ◌||◌, ◌&&◌, not, cond, filter}
use Rattle.std.proofs.lemmas.Bool.{eqb-true, eq-eqb, ne_eqb}
use Rattle.sch_word.specs.trees.NumberSets.{has, without_repeats}
use Rattle.sch_word.specs.declared.place.Place.{Place}
use Rattle.sch_word.specs.declared.place.Place.TheVariants.{Reg, Slot}
use Rattle.sch_word.specs.values.Registers.{argument_registers}
use Rattle.sch_word.proofs.facts.Booleans.{and_left, and_right, and_of, or_left, or_right, neither, not_left, not_right, false_true, not_true, never_true, or_around}
use Rattle.sch_word.proofs.facts.NumberSets.{has_append}
use Rattle.sch_control.specs.flow.Apart.{EachHas, Alone}
use Rattle.sch_word.specs.values.Places.{is_slot, same_place}
use Rattle.sch_word.proofs.facts.Places.{slot_number}
use Rattle.sch_control.proofs.NumberLists.{has_filter, once_filter}
use Rattle.sch_control.proofs.VariableLists.{each_at}
use Rattle.sch_regs.specs.PlaceChoice.{Table, placed, place_in, slots, held, first_free, choose, choose_each, live_first}
use Rattle.sch_regs.specs.Spills.{InSlotWhenFull}

-- ## What is held

pub is_register : (p : Place) (r : ℕ) → same_place p (Reg r) ≡ true → p ≡ Reg r
is_register (Reg q) r h = ap Reg (eqb-true q r h)
is_register (Slot k) r h = absurd (cc)

not_register : (p : Place) (r : ℕ) → same_place p (Reg r) ≡ false → p ≢ Reg r
not_register p r h e = false_true (ap (λ q. same_place q (Reg r)) e ∙ eq-eqb r r refl) h

held_none : (live : ℕ → Bool) (t : Table) (r : ℕ) → held live t r ≡ false → (x : ℕ) → has x (placed t) ≡ true → live x ≡ true → place_in t x ≢ Reg r
held_none live [] r h x m l = absurd (cc)
held_none live (w ∷ t) r h x m l = by (nat_eq x w.0) refl (held_none live t r (not_right (live w.0 && same_place w.1 (Reg r)) _ h) x) m where
  second : (b c : Bool) → b ≡ true → (b && c) ≡ false → c ≡ false
  second true c e h = h
  second false c e h = absurd (cc)

  by : (b : Bool) → nat_eq x w.0 ≡ b → (has x (placed t) ≡ true → live x ≡ true → place_in t x ≢ Reg r) → (b || has x (placed t)) ≡ true
      → cond b w.1 (place_in t x) ≢ Reg r
  by true e f m =
      not_register w.1 r (second (live w.0) _ (sym (ap live (eqb-true x w.0 e)) ∙ l) (not_left (live w.0 && same_place w.1 (Reg r)) _ h))
  by false e f m = f m l

-- a variable that holds a register
abbrev pub Holder : (live : ℕ → Bool) → Table → (register : ℕ) → Type 0
Holder live t r = (x : ℕ) × ((has x (placed t) ≡ true) × ((live x ≡ true) × (place_in t x ≡ Reg r)))

held_some : (live : ℕ → Bool) (t : Table) (r : ℕ) → without_repeats (placed t) ≡ true → held live t r ≡ true → Holder live t r
held_some live [] r o h = absurd (cc)
held_some live (w ∷ t) r o h =
    by (live w.0 && same_place w.1 (Reg r)) refl (held_some live t r (and_right (not (has w.0 (placed t))) _ o)) h where
      by : (b : Bool) → (live w.0 && same_place w.1 (Reg r)) ≡ b → (held live t r ≡ true → Holder live t r) → (b || held live t r) ≡ true → Holder live (w ∷ t) r
      by true e f h = (
        w.0,
        (
          or_left (nat_eq w.0 w.0) _ (eq-eqb w.0 w.0 refl),
          (
            and_left (live w.0) _ e,
            ap (λ b. cond b w.1 (place_in t w.0)) (eq-eqb w.0 w.0 refl) ∙ is_register w.1 r (and_right (live w.0) _ e),
          ),
        ),
      )
      by false e f h =
          let k = f h in
          let other : nat_eq k.0 w.0 ≡ false
          = ne_eqb k.0 w.0 (λ z. false_true k.1.0 (ap (λ y. has y (placed t)) z ∙ not_true (has w.0 (placed t)) (and_left (not (has w.0 (placed t))) _ o))) in
          (k.0, (or_right (nat_eq k.0 w.0) _ k.1.0, (k.1.1.0, ap (λ b. cond b w.1 (place_in t k.0)) other ∙ k.1.1.1)))

-- ## Slots

-- a place that is a slot is below a number
abbrev pub Below : ℕ → Place → Type 0
Below n (Reg r) = Unit {0}
Below n (Slot k) = k < n

abbrev pub SlotsBelow : ℕ → Table → Type 0
SlotsBelow n [] = Unit {0}
SlotsBelow n (w ∷ t) = Below n w.1 × SlotsBelow n t

below_more : (n : ℕ) (p : Place) → Below n p → Below (suc n) p
below_more n (Reg r) h = tt
below_more n (Slot k) h = omega (arith, h)

pub slots_more : (n : ℕ) (t : Table) → SlotsBelow n t → SlotsBelow (suc n) t
slots_more n [] h = tt
slots_more n (w ∷ t) h = (below_more n w.1 h.0, slots_more n t h.1)

pub slot_of : (n : ℕ) (t : Table) → SlotsBelow n t → (x : ℕ) → Below n (place_in t x)
slot_of n [] h x = tt
slot_of n (w ∷ t) h x = by (nat_eq x w.0) (slot_of n t h.1 x) where
  by : (b : Bool) → Below n (place_in t x) → Below n (cond b w.1 (place_in t x))
  by true k = h.0
  by false k = k

not_new : (n : ℕ) (p : Place) → Below n p → p ≢ Slot n
not_new n (Reg r) h e = false_true refl (sym (ap is_slot e))
not_new n (Slot k) h e = let same : k ≡ n = ap slot_number e in absurd (omega (arith, same, h))

-- ## One choice

pub chosen_alone : (live : ℕ → Bool) (t : Table) (rs : List ℕ) → SlotsBelow (slots t) t → (x : ℕ) → has x (placed t) ≡ true → live x ≡ true → place_in t x ≢ first_free live t rs
chosen_alone live t [] s x m l = not_new (slots t) (place_in t x) (slot_of (slots t) t s x)
chosen_alone live t (r ∷ rs) s x m l = by (held live t r) refl (chosen_alone live t rs s x m l) (λ h. held_none live t r h x m l) where
  by : (b : Bool) → held live t r ≡ b → place_in t x ≢ first_free live t rs → (held live t r ≡ false → place_in t x ≢ Reg r)
      → place_in t x ≢ cond b (first_free live t rs) (Reg r)
  by true e f g = f
  by false e f g = g e

pub chosen_full : (live : ℕ → Bool) (t : Table) (rs : List ℕ) → without_repeats (placed t) ≡ true → is_slot (first_free live t rs) ≡ true
    → EachHas (λ r. Holder live t r) rs
chosen_full live t [] o h = tt
chosen_full live t (r ∷ rs) o h = by (held live t r) refl (chosen_full live t rs o) (held_some live t r o) h where
  by : (b : Bool) → held live t r ≡ b → (is_slot (first_free live t rs) ≡ true → EachHas (λ r. Holder live t r) rs)
      → (held live t r ≡ true → Holder live t r) → is_slot (cond b (first_free live t rs) (Reg r)) ≡ true
      → EachHas (λ r. Holder live t r) (r ∷ rs)
  by true e f g h = (g e, f h)
  by false e f g h = absurd (cc)

pub chosen_below : (live : ℕ → Bool) (y : ℕ) (t : Table) → SlotsBelow (slots t) t → SlotsBelow (slots (choose live y t)) (choose live y t)
chosen_below live y t s = by (first_free live t argument_registers) (only live t argument_registers) where
  only : (live : ℕ → Bool) (t : Table) (rs : List ℕ) → Below (suc (slots t)) (first_free live t rs)
  only live t [] = omega arith
  only live t (r ∷ rs) = cased (held live t r) (first_free live t rs) r (only live t rs) where
    cased : (b : Bool) (p : Place) (r : ℕ) → Below (suc (slots t)) p → Below (suc (slots t)) (cond b p (Reg r))
    cased true p r h = h
    cased false p r h = tt

  by : (p : Place) → Below (suc (slots t)) p → SlotsBelow (cond (is_slot p) (suc (slots t)) (slots t)) ((y, p) ∷ t)
  by (Reg r) h = (tt, s)
  by (Slot k) h = (h, slots_more (slots t) t s)

pub each_below : (live : ℕ → Bool) (ys : List ℕ) (t : Table) → SlotsBelow (slots t) t → SlotsBelow (slots (choose_each live ys t)) (choose_each live ys t)
each_below live [] t s = s
each_below live (y ∷ ys) t s = each_below live ys (choose live y t) (chosen_below live y t s)

-- each variable is placed once
pub each_once : (live : ℕ → Bool) (ys : List ℕ) (t : Table) → without_repeats ys ≡ true → ((x : ℕ) → has x ys ≡ true → has x (placed t) ≡ false)
    → without_repeats (placed t) ≡ true → without_repeats (placed (choose_each live ys t)) ≡ true
each_once live [] t once new o = o
each_once live (y ∷ ys) t once new o =
    let not_y : has y ys ≡ false = not_true (has y ys) (and_left (not (has y ys)) _ once) in
    each_once live ys (choose live y t) (and_right (not (has y ys)) _ once)
    (λ x h. neither (nat_eq x y) (has x (placed t))
    (ne_eqb x y (λ e. false_true h (ap (λ z. has z ys) e ∙ not_y))) (new x (or_right (nat_eq x y) _ h)))
    (and_of (not (has y (placed t))) _ (ap not (new y (or_left (nat_eq y y) _ (eq-eqb y y refl)))) o)

-- ## What is in a table

pub each_placed : (live : ℕ → Bool) (ys : List ℕ) (t : Table) (x : ℕ) → has x (placed (choose_each live ys t)) ≡ (has x ys || has x (placed t))
each_placed live [] t x = refl
each_placed live (y ∷ ys) t x = each_placed live ys (choose live y t) x ∙ or_around (nat_eq x y) (has x ys) (has x (placed t))

pub each_kept : (live : ℕ → Bool) (ys : List ℕ) (t : Table) (x : ℕ) → has x ys ≡ false → place_in (choose_each live ys t) x ≡ place_in t x
each_kept live [] t x n = refl
each_kept live (y ∷ ys) t x n =
    each_kept live ys (choose live y t) x (not_right (nat_eq x y) _ n)
    ∙ ap (λ b. cond b (first_free live t argument_registers) (place_in t x)) (not_left (nat_eq x y) _ n)

-- ## Groups

-- a variable that is bound is alone in its place, and has a slot only where no register is left
abbrev pub WellBound : (place : ℕ → Place) → (live : ℕ → Type 0) → ℕ → Type 0
WellBound place live y = Alone place live y × InSlotWhenFull place live y

-- none that is live stands behind one that is not
abbrev pub LiveFirst : (live : ℕ → Bool) → List ℕ → Type 0
LiveFirst live [] = Unit {0}
LiveFirst live (y ∷ ys) = (live y ≡ false → (x : ℕ) → has x ys ≡ true → live x ≡ true → ⊥) × LiveFirst live ys

-- the places of a table are those that are meant
abbrev pub Extends : (P : ℕ → Place) → Table → Type 0
Extends P t = (x : ℕ) → has x (placed t) ≡ true → P x ≡ place_in t x

module _ (live : ℕ → Bool) (P : ℕ → Place) where
  each_full : (y : ℕ) (t : Table) → has y (placed t) ≡ false → Extends P t → (rs : List ℕ) → EachHas (λ r. Holder live t r) rs
      → EachHas (λ r. (x : ℕ) × ((x ≢ y) × ((live x ≡ true) × (P x ≡ Reg r)))) rs
  each_full y t n ext [] h = tt
  each_full y t n ext (r ∷ rs) h =
      let w = h.0 in (
        (w.0, ((λ e. false_true w.1.0 (ap (λ z. has z (placed t)) e ∙ n)), (w.1.1.0, ext w.0 w.1.0 ∙ w.1.1.1))),
        each_full y t n ext rs h.1,
      )

  pub group_well : (ys : List ℕ) (t : Table) → without_repeats ys ≡ true → ((x : ℕ) → has x ys ≡ true → has x (placed t) ≡ false) → LiveFirst live ys
      → SlotsBelow (slots t) t → without_repeats (placed t) ≡ true → Extends P (choose_each live ys t) → ((x : ℕ) → live x ≡ true → (has x (placed t) ≡ true) ⊎ (has x ys ≡ true))
      → EachHas (WellBound P (λ x. live x ≡ true)) ys
  group_well [] t once new order s o ext known = tt
  group_well (y ∷ ys) t once new order s o ext known =
      let t' : Table = choose live y t in
      let not_y : has y ys ≡ false = not_true (has y ys) (and_left (not (has y ys)) _ once) in
      let y_new : has y (placed t) ≡ false = new y (or_left (nat_eq y y) (has y ys) (eq-eqb y y refl)) in
      let ext' : Extends P t'
      = λ x m. ext x (each_placed live ys t' x ∙ or_right (has x ys) _ m) ∙ each_kept live ys t' x (never_true (has x ys) (λ h. (elim (split (nat_eq x y) refl (has x (placed t)) m) [
        | inl e ↦ false_true h (ap (λ z. has z ys) (eqb-true x y e) ∙ not_y)
        | inr k ↦ false_true k (new x (or_right (nat_eq x y) _ h))
      ]))) in
      let py : P y ≡ first_free live t argument_registers
      = ext' y (or_left (nat_eq y y) (has y (placed t)) (eq-eqb y y refl)) ∙ ap (λ b. cond b (first_free live t argument_registers) (place_in t y)) (eq-eqb y y refl) in
      let ext0 : Extends P t
      = λ x m. ext' x (or_right (nat_eq x y) _ m)
      ∙ ap (λ b. cond b (first_free live t argument_registers) (place_in t x)) (ne_eqb x y (λ e. false_true m (ap (λ z. has z (placed t)) e ∙ y_new))) in
      let rest : EachHas (WellBound P (λ x. live x ≡ true)) ys
      = group_well ys t' (and_right (not (has y ys)) _ once)
      (λ x h. never_true (has x (placed t')) (λ m. (elim (split (nat_eq x y) refl (has x (placed t)) m) [
        | inl e ↦ false_true h (ap (λ z. has z ys) (eqb-true x y e) ∙ not_y)
        | inr k ↦ false_true k (new x (or_right (nat_eq x y) _ h))
      ]))) order.1 (chosen_below live y t s) (and_of (not (has y (placed t))) _ (ap not y_new) o) ext
      (λ x l. elim (known x l) [
        | inl m ↦ inl (or_right (nat_eq x y) _ m)
        | inr h ↦ elim (split (nat_eq x y) refl (has x ys) h) [
          | inl e ↦ inl (or_left (nat_eq x y) _ e)
          | inr k ↦ inr k
        ]
      ]) in
      let with_t : (x : ℕ) → has x (placed t) ≡ true → live x ≡ true → P x ≢ P y
      = λ x m l e. chosen_alone live t argument_registers s x m l (sym (ext0 x m) ∙ (e ∙ py)) in
      let alone : Alone P (λ x. live x ≡ true) y
      = λ x l n. elim (known x l) [
        | inl m ↦ with_t x m l
        | inr h ↦ elim (split (nat_eq x y) refl (has x ys) h) [
          | inl e ↦ absurd (n (eqb-true x y e))
          | inr k ↦ λ e. (each_at (WellBound P (λ x. live x ≡ true)) ys rest x k).0 y (not_false (live y) (λ f. order.0 f x k l)) (λ q. n (sym q)) (sym e)
        ]
      ] in
      ((alone, λ h. each_full y t y_new ext0 argument_registers (chosen_full live t argument_registers o (ap is_slot (sym py) ∙ h))), rest)
    where
      split : (b : Bool) {c : Bool} → b ≡ c → (d : Bool) → (b || d) ≡ true → (b ≡ true) ⊎ (d ≡ true)
      split true e d h = inl refl
      split false e d h = inr h

      not_false : (b : Bool) → (b ≡ false → ⊥) → b ≡ true
      not_false true f = refl
      not_false false f = absurd (f refl)

-- ## The order of a group

once_both : (xs ys : List ℕ) → without_repeats xs ≡ true → without_repeats ys ≡ true → ((x : ℕ) → has x xs ≡ true → has x ys ≡ true → ⊥) → without_repeats (xs ++ ys) ≡ true
once_both [] ys h k apart = k
once_both (x ∷ xs) ys h k apart =
    and_of (not (has x (xs ++ ys))) _
    (ap not (has_append x xs ys ∙ neither (has x xs) (has x ys) (not_true (has x xs) (and_left (not (has x xs)) _ h)) (never_true (has x ys) (apart x (or_left (nat_eq x x) (has x xs) (eq-eqb x x refl))))))
    (once_both xs ys (and_right (not (has x xs)) _ h) k (λ z m. apart z (or_right (nat_eq z x) _ m)))

pub has_ordered : (live : ℕ → Bool) (ys : List ℕ) (x : ℕ) → has x (live_first live ys) ≡ has x ys
has_ordered live ys x =
    has_append x (filter live ys) (filter (λ y. not (live y)) ys) ∙ (ap (λ b. b || has x (filter (λ y. not (live y)) ys)) (has_filter live x ys)
    ∙ (ap (λ b. (has x ys && live x) || b) (has_filter (λ y. not (live y)) x ys) ∙ by (has x ys) (live x)))
  where
    by : (b a : Bool) → ((b && a) || (b && not a)) ≡ b
    by true true = refl
    by true false = refl
    by false a = refl

in_live : (live : ℕ → Bool) (ys : List ℕ) (x : ℕ) → has x (filter live ys) ≡ true → live x ≡ true
in_live live ys x h = and_right (has x ys) _ (sym (has_filter live x ys) ∙ h)

in_dead : (live : ℕ → Bool) (ys : List ℕ) (x : ℕ) → has x (filter (λ y. not (live y)) ys) ≡ true → live x ≡ false
in_dead live ys x h = not_true (live x) (and_right (has x ys) _ (sym (has_filter (λ y. not (live y)) x ys) ∙ h))

pub ordered_once : (live : ℕ → Bool) (ys : List ℕ) → without_repeats ys ≡ true → without_repeats (live_first live ys) ≡ true
ordered_once live ys h =
    once_both (filter live ys) (filter (λ y. not (live y)) ys) (once_filter live ys h) (once_filter (λ y. not (live y)) ys h)
    (λ x m k. false_true (in_live live ys x m) (in_dead live ys x k))

live_before : (live : ℕ → Bool) (xs zs : List ℕ) → ((x : ℕ) → has x xs ≡ true → live x ≡ true) → ((x : ℕ) → has x zs ≡ true → live x ≡ true → ⊥) → LiveFirst live (xs ++ zs)
live_before live [] [] f g = tt
live_before live [] (z ∷ zs) f g = ((λ n x h. g x (or_right (nat_eq x z) _ h)), live_before live [] zs f (λ x h. g x (or_right (nat_eq x z) _ h)))
live_before live (x ∷ xs) zs f g =
    ((λ n. absurd (false_true (f x (or_left (nat_eq x x) (has x xs) (eq-eqb x x refl))) n)), live_before live xs zs (λ z h. f z (or_right (nat_eq z x) _ h)) g)

pub ordered_live : (live : ℕ → Bool) (ys : List ℕ) → LiveFirst live (live_first live ys)
ordered_live live ys =
    live_before live (filter live ys) (filter (λ y. not (live y)) ys) (λ x h. in_live live ys x h)
    (λ x h l. false_true l (in_dead live ys x h))
