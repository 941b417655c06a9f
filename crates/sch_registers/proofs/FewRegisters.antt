-- No more variables live in registers at one point than there are registers for them.
use Rattle.std.proofs.Common.{◌≡◌, ℕ, zero, suc, ◌+◌, ◌<◌, ◌≤◌, Bool, true, false, cond, List, [], ◌∷◌, length, Option, Some, None, refl, ap, sym, ◌∙◌, inl, inr, ◌⊎◌, arith}
use Rattle.std.specs.Prelude.{nat_eq, ◌||◌, not, slice_get}
use Rattle.std.proofs.lemmas.Bool.{eqb-true, eq-eqb}
use Rattle.sch_word.specs.declared.place.Place.{Place}
use Rattle.sch_word.specs.declared.place.Place.TheVariants.{Reg, Slot}
use Rattle.sch_word.specs.declared.registers.TheConstants.{CLOSURE_REGISTER, LINK_REGISTER}
use Rattle.sch_word.specs.trees.NumberSets.{has, without_repeats}
use Rattle.sch_word.specs.values.Registers.{argument_registers}
use Rattle.sch_word.proofs.facts.Booleans.{and_left, and_right, false_true, not_left, not_right, not_true, or_left, or_right}
use Rattle.sch_control.specs.RegisterWork.{most_kept}
use Rattle.sch_control.specs.Tree.{Code, Expression}
use Rattle.sch_control.specs.flow.Apart.{Apart, EachHas}
use Rattle.sch_control.specs.flow.Places.{count_slots, is_usual, place_of}
use Rattle.sch_word.specs.values.Places.{is_slot, same_place}
use Rattle.sch_layout.specs.BodyLayout.{Plan}
use Rattle.sch_layout.specs.FewCopies.{in_registers}
use Rattle.sch_homes.specs.Homes.{homes_plan, lives_in}
use Rattle.sch_homes.specs.Laws.{IsPlaced}
use Rattle.sch_registers.proofs.DensePlaces.{listed_place}

-- the return address, the closure, and the six for other variables
abbrev kept_registers : List ℕ
kept_registers = LINK_REGISTER ∷ CLOSURE_REGISTER ∷ argument_registers

same_register : (r q : ℕ) → Reg r ≡ Reg q → q ≡ r
same_register r q h = cc

module _ (c : Code) (e : Expression) (places : List Place) (p : IsPlaced c e places) where
  abbrev plan : Plan
  plan = homes_plan c.entry e places

  abbrev lives : Option Place → Place
  lives = lives_in

  register_of : (x r : ℕ) → same_place (plan.place x) (Reg r) ≡ true → place_of places x ≡ Reg r
  register_of x r h = by (slice_get places x) refl h where
    by : (o : Option Place) → slice_get places x ≡ o → same_place (lives o) (Reg r) ≡ true → place_of places x ≡ Reg r
    by None i h = absurd (cc)
    by (Some (Reg q)) i h = (listed_place places x (Reg q) i).1 ∙ ap Reg (eqb-true q r h)
    by (Some (Slot j)) i h = absurd (cc)

  known_register : (x r : ℕ) → x < length places → place_of places x ≡ Reg r → has r kept_registers ≡ true
  known_register zero r lt h = or_left (nat_eq r LINK_REGISTER) _ (eq-eqb r LINK_REGISTER (same_register LINK_REGISTER r (sym p.link ∙ h)))
  known_register (suc zero) r lt h =
      or_right (nat_eq r LINK_REGISTER) _ (or_left (nat_eq r CLOSURE_REGISTER) _ (eq-eqb r CLOSURE_REGISTER (same_register CLOSURE_REGISTER r (sym p.closure ∙ h))))
  known_register (suc (suc x)) r lt h =
      let w = p.whole in
      or_right (nat_eq r LINK_REGISTER) _ (or_right (nat_eq r CLOSURE_REGISTER) _
      (ap (is_usual (count_slots places)) (sym h) ∙ p.usual (suc (suc x)) (omega arith) (omega (arith, lt, w))))

  in_some : (x : ℕ) → (is_slot (plan.place x) ≡ true) ⊎ ((r : ℕ) × ((plan.place x ≡ Reg r) × (has r kept_registers ≡ true)))
  in_some x = by (slice_get places x) refl where
    by : (o : Option Place) → slice_get places x ≡ o → (is_slot (lives o) ≡ true) ⊎ ((r : ℕ) × ((lives o ≡ Reg r) × (has r kept_registers ≡ true)))
    by None i = inl refl
    by (Some (Slot j)) i = inl refl
    by (Some (Reg r)) i = let at = listed_place places x (Reg r) i in inr (r, (refl, known_register x r at.0 at.1))

  -- ## One register

  abbrev one_in : ℕ → ℕ → ℕ
  one_in r x = cond (same_place (plan.place x) (Reg r)) 1 0

  count_in : ℕ → List ℕ → ℕ
  count_in r [] = 0
  count_in r (x ∷ xs) = one_in r x + count_in r xs

  none_else : (live : ℕ → Type 0) → Apart (place_of places) live → (x r : ℕ) → live x → same_place (plan.place x) (Reg r) ≡ true
      → (xs : List ℕ) → has x xs ≡ false → EachHas live xs → count_in r xs ≡ 0
  unfolding count_in
  none_else live apart x r l i [] n each = refl
  none_else live apart x r l i (y ∷ ys) n each =
      by (same_place (plan.place y) (Reg r)) refl (none_else live apart x r l i ys (not_right (nat_eq x y) _ n) each.1) where
        by : (t : Bool) → same_place (plan.place y) (Reg r) ≡ t → count_in r ys ≡ 0 → cond t 1 0 + count_in r ys ≡ 0
        by true j h =
            absurd (apart x y l each.0 (λ e. false_true (eq-eqb x y e) (not_left (nat_eq x y) _ n)) (register_of x r i ∙ sym (register_of y r j)))
        by false j h = omega (arith, h)

  one_at_most : (live : ℕ → Type 0) → Apart (place_of places) live → (r : ℕ) (xs : List ℕ) → without_repeats xs ≡ true → EachHas live xs → count_in r xs ≤ 1
  unfolding count_in
  one_at_most live apart r [] once each = omega arith
  one_at_most live apart r (x ∷ xs) once each =
      by (same_place (plan.place x) (Reg r)) refl (one_at_most live apart r xs (and_right (not (has x xs)) _ once) each.1) where
        by : (t : Bool) → same_place (plan.place x) (Reg r) ≡ t → count_in r xs ≤ 1 → cond t 1 0 + count_in r xs ≤ 1
        by true i h =
            let none : count_in r xs ≡ 0 = none_else live apart x r each.0 i xs (not_true (has x xs) (and_left (not (has x xs)) _ once)) each.1 in
            omega (arith, none)
        by false i h = omega (arith, h)

  -- ## All of them

  count_all : (registers : List ℕ) → List ℕ → ℕ
  count_all [] xs = 0
  count_all (r ∷ rs) xs = count_in r xs + count_all rs xs

  times_in : (registers : List ℕ) → ℕ → ℕ
  times_in [] x = 0
  times_in (r ∷ rs) x = one_in r x + times_in rs x

  all_few : (live : ℕ → Type 0) → Apart (place_of places) live → (xs : List ℕ) → without_repeats xs ≡ true → EachHas live xs
      → (rs : List ℕ) → count_all rs xs ≤ length rs
  unfolding count_all
  all_few live apart xs once each [] = omega arith
  all_few live apart xs once each (r ∷ rs) =
      let here = one_at_most live apart r xs once each in
      let more = all_few live apart xs once each rs in
      omega (arith, here, more)

  none_all : (rs : List ℕ) → count_all rs [] ≡ 0
  unfolding count_all count_in
  none_all [] = refl
  none_all (r ∷ rs) = let none = none_all rs in omega (arith, none)

  one_more : (rs : List ℕ) (x : ℕ) (xs : List ℕ) → count_all rs (x ∷ xs) ≡ times_in rs x + count_all rs xs
  unfolding count_all times_in count_in
  one_more [] x xs = refl
  one_more (r ∷ rs) x xs = let more = one_more rs x xs in omega (arith, more)

  once_in : (rs : List ℕ) (x r : ℕ) → plan.place x ≡ Reg r → has r rs ≡ true → 1 ≤ times_in rs x
  unfolding times_in
  once_in [] x r i h = absurd (cc)
  once_in (q ∷ rs) x r i h = by (nat_eq r q) refl h (once_in rs x r i) where
    by : (t : Bool) → nat_eq r q ≡ t → (t || has r rs) ≡ true → (has r rs ≡ true → 1 ≤ times_in rs x) → 1 ≤ one_in q x + times_in rs x
    by true j h f =
        let here : same_place (plan.place x) (Reg q) ≡ true = ap (λ p. same_place p (Reg q)) i ∙ j in
        let one : one_in q x ≡ 1 = ap (λ t. cond {A = ℕ} t 1 0) here in
        omega (arith, one)
    by false j h f = let more = f h in omega (arith, more)

  kept_once : (x : ℕ) → cond (is_slot (plan.place x)) 0 1 ≤ times_in kept_registers x
  kept_once x = elim (in_some x) [
    | inl s ↦ let none : cond {A = ℕ} (is_slot (plan.place x)) 0 1 ≡ 0 = ap (λ t. cond {A = ℕ} t 0 1) s in omega (arith, none)
    | inr w ↦
        let once = once_in kept_registers x w.0 w.1.0 w.1.1 in
        let one : cond {A = ℕ} (is_slot (plan.place x)) 0 1 ≡ 1 = ap (λ q. cond {A = ℕ} (is_slot q) 0 1) w.1.0 in
        omega (arith, once, one)
  ]

  kept_all : (xs : List ℕ) → in_registers plan xs ≤ count_all kept_registers xs
  kept_all [] = let none = none_all kept_registers in omega (arith, none)
  kept_all (x ∷ xs) =
      let here = kept_once x in
      let more = one_more kept_registers x xs in
      let rest = kept_all xs in
      omega (arith, here, more, rest)

  pub few_kept : (live : ℕ → Type 0) → Apart (place_of places) live → (xs : List ℕ) → without_repeats xs ≡ true → EachHas live xs → in_registers plan xs ≤ most_kept
  few_kept live apart xs once each =
      let few : count_all kept_registers xs ≤ 8 = all_few live apart xs once each kept_registers in
      let all = kept_all xs in
      omega (arith, few, all)
