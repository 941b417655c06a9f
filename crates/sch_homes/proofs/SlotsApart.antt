-- Where things lie in the frame: variables' slots, homes, and the slots in which arguments are set aside are apart.
use Rattle.std.proofs.Common.{◌≡◌, ◌≢◌, ℕ, zero, suc, ◌+◌, ◌-◌, ◌<◌, ◌≤◌, List, [], ◌∷◌, length, Option, Some, None, Bool, true, false, cond, refl, sym, ap, ◌∙◌, subst, arith}
use Rattle.std.specs.Prelude.{nat_lt, slice_get}
use Rattle.std.proofs.Math.Nat.{le-max_left, le-max_right}
use Rattle.std.proofs.lemmas.Bool.{ne_eqb, lt-ltb, ltb-true, ltb-false}
use Rattle.std.proofs.lemmas.Option.{slice_get_within}
use Rattle.sch_word.proofs.facts.Booleans.{false_true}
use Rattle.sch_word.specs.trees.Shape.{max_operands}
use Rattle.sch_word.specs.declared.place.Place.{Place}
use Rattle.sch_word.specs.declared.place.Place.TheVariants.{Reg, Slot}
use Rattle.sch_control.specs.declared.body.Entry.{Entry}
use Rattle.sch_control.specs.Tree.{Expression}
use Rattle.sch_word.specs.values.Places.{same_place, is_slot, link_place}
use Rattle.sch_word.proofs.facts.Lists.{not_missing}
use Rattle.sch_frames.specs.Valid.{max_words}
use Rattle.sch_layout.specs.SharedPlaces.{HomeApart, Homes}
use Rattle.sch_homes.specs.CallMoves.{next_frame}
use Rattle.sch_homes.specs.Homes.{count_below, first_home, has_home, home, homes_end, homes_plan, late_slots, lives_in, place, slots_end}

-- ## Lists of places

abbrev number_or : ℕ → Option Place → ℕ
number_or n (Some (Slot j)) = j
number_or n _ = n

-- the slot of a variable is before the end of the slots
pub before_end : (late : ℕ) (places : List Place) (x j : ℕ) → slice_get places x ≡ Some (Slot j) → j < slots_end late places
before_end late [] x j h = absurd (cc)
before_end late (Reg r ∷ places) zero j h = absurd (cc)
before_end late (Slot i ∷ places) zero j h =
    let e : i ≡ j = ap (number_or 0) h in
    let le = le-max_left (suc i) (slots_end late places) in
    omega (arith, e, le)
before_end late (Reg r ∷ places) (suc x) j h = before_end late places x j h
before_end late (Slot i ∷ places) (suc x) j h =
    let lt = before_end late places x j h in
    let le = le-max_right (suc i) (slots_end late places) in
    omega (arith, lt, le)

-- ## Counts

pub count_less : (test : ℕ → Bool) (x more : ℕ) → test x ≡ true → count_below test x < count_below test (suc (x + more))
count_less test x zero h =
    let same : x ≡ x + 0 = omega arith in
    subst (λ n. count_below test x < count_below test (suc n)) same
    (subst (λ t. count_below test x < cond t (suc (count_below test x)) (count_below test x)) (sym h) (omega arith))
count_less test x (suc more) h =
    let same : suc (x + more) ≡ x + suc more = omega arith in
    subst (λ n. count_below test x < count_below test (suc n)) same (by (test (suc (x + more))) (count_less test x more h)) where
      by : (t : Bool) → count_below test x < count_below test (suc (x + more)) → count_below test x < cond t (suc (count_below test (suc (x + more)))) (count_below test (suc (x + more)))
      by true lt = omega (arith, lt)
      by false lt = lt

pub count_lt : (test : ℕ → Bool) (x y : ℕ) → test x ≡ true → x < y → count_below test x < count_below test y
count_lt test x y h lt =
    let same : suc (x + (y - suc x)) ≡ y = omega (arith, lt) in
    subst (λ n. count_below test x < count_below test n) same (count_less test x (y - suc x) h)

pub counts_apart : (test : ℕ → Bool) (x y : ℕ) → test x ≡ true → test y ≡ true → x ≢ y → count_below test x ≢ count_below test y
counts_apart test x y hx hy n e = by (nat_lt x y) refl where
  by : (t : Bool) → nat_lt x y ≡ t → ⊥
  by true i = let lt = count_lt test x y hx (ltb-true x y i) in omega (arith, lt, e)
  by false i =
      let le : y ≤ x = ltb-false x y i in
      let lt = count_lt test y x hy (omega (arith, le, n)) in
      omega (arith, lt, e)

-- ## The frame of a body

module _ (entry : Option Entry) (e : Expression) (places : List Place) where
  abbrev first : ℕ
  first = first_home entry e places

  abbrev homed : ℕ → Bool
  homed = has_home entry e places

  abbrev ends : ℕ
  ends = homes_end entry e places

  -- what a variable's place is
  pub data Lives (x : ℕ) : Type 0 where
    nowhere : slice_get places x ≡ None → Lives x
    register : (r : ℕ) → slice_get places x ≡ Some (Reg r) → Lives x
    slot : (j : ℕ) → slice_get places x ≡ Some (Slot j) → Lives x

  pub lives : (x : ℕ) → Lives x
  lives x = by (slice_get places x) refl where
    by : (o : Option Place) → slice_get places x ≡ o → Lives x
    by None i = nowhere i
    by (Some (Reg r)) i = register r i
    by (Some (Slot j)) i = slot j i

  -- a variable's slot is before the homes
  pub slot_before : (x j : ℕ) → slice_get places x ≡ Some (Slot j) → j < first
  slot_before x j h = before_end (late_slots entry) places x j h

  pub lives_before : (x j : ℕ) → x < length places → place entry e places x ≡ Slot j → j < first
  lives_before x j lt h = by (lives x) where
    by : Lives x → j < first
    by (nowhere i) = absurd (not_missing places x lt i)
    by (register r i) = absurd (let bad = sym (ap lives_in i) ∙ h in cc)
    by (slot k i) =
        let same : k ≡ j = ap (number_or 0) (ap Some (sym (ap lives_in i) ∙ h)) in
        let less = slot_before x k i in
        omega (arith, same, less)

  -- ## Homes

  abbrev home_number : ℕ → ℕ
  home_number x = cond (homed x) (first + count_below homed x) (max_words + x)

  -- one that is saved has its home inside the frame
  pub home_inside : (x : ℕ) → homed x ≡ true → x < length places → home_number x < ends
  home_inside x h lt =
      let less = count_lt homed x (length places) h lt in
      subst (λ t. cond t (first + count_below homed x) (max_words + x) < ends) (sym h) (omega (arith, less))

  -- a register is the place of a variable of the body
  pub in_table : (x : ℕ) → is_slot (place entry e places x) ≡ false → (r : ℕ) × (slice_get places x ≡ Some (Reg r))
  in_table x s = by (lives x) where
    by : Lives x → (r : ℕ) × (slice_get places x ≡ Some (Reg r))
    by (nowhere i) = absurd (false_true (ap (λ o. is_slot (lives_in o)) i) s)
    by (register r i) = (r, i)
    by (slot j i) = absurd (false_true (ap (λ o. is_slot (lives_in o)) i) s)

  -- The homes of the frame, and as many slots as a call may have arguments, are no more than the largest frame has, and behind that
  -- there is a slot for each variable.
  pub record HasRoom : Type 0 where
    pub ends_low : ends + suc max_operands ≤ max_words
    pub many : max_words + length places ≤ next_frame

  module _ (room : HasRoom) where
    home_least : (x : ℕ) → first ≤ home_number x
    home_least x = by (homed x) where
      by : (t : Bool) → first ≤ cond t (first + count_below homed x) (max_words + x)
      by true = omega arith
      by false = let low = room.ends_low in omega (arith, low)

    home_most : (x : ℕ) → x < length places → home_number x < max_words + length places
    home_most x lt = by (homed x) refl where
      by : (t : Bool) → homed x ≡ t → cond t (first + count_below homed x) (max_words + x) < max_words + length places
      by true h = let less = count_lt homed x (length places) h lt in let low = room.ends_low in omega (arith, less, low)
      by false h = omega (arith, lt)

    homes_differ : (x y : ℕ) → x < length places → y < length places → x ≢ y → home_number x ≢ home_number y
    homes_differ x y lx ly n i = by (homed x) (homed y) refl refl i where
      by : (t r : Bool) → homed x ≡ t → homed y ≡ r → cond t (first + count_below homed x) (max_words + x) ≡ cond r (first + count_below homed y) (max_words + y) → ⊥
      by true true hx hy i = counts_apart homed x y hx hy n (omega (arith, i))
      by true false hx hy i = let less = count_lt homed x (length places) hx lx in let low = room.ends_low in omega (arith, i, less, low)
      by false true hx hy i = let less = count_lt homed y (length places) hy ly in let low = room.ends_low in omega (arith, i, less, low)
      by false false hx hy i = n (omega (arith, i))

    home_apart : (x : ℕ) → is_slot (place entry e places x) ≡ false → HomeApart (homes_plan entry e places) x
    home_apart x s = record {
      in_slot = refl;
      own = let lt = home_most x (inside x s) in let many = room.many in lt-ltb (home_number x) next_frame (omega (arith, lt, many));
      places = λ y. apart y (lives y);
      homes = λ y r n. ne_eqb _ _ (homes_differ x y (inside x s) (inside y r) n);
    } where
      inside : (x : ℕ) → is_slot (place entry e places x) ≡ false → x < length places
      inside x s = let t = in_table x s in slice_get_within places x (Reg t.0) t.1

      apart : (y : ℕ) → Lives y → same_place (home entry e places x) (place entry e places y) ≡ false
      apart y (nowhere i) =
          ap (λ o. same_place (home entry e places x) (lives_in o)) i
          ∙ (let lt = home_most x (inside x s) in let many = room.many in ne_eqb (home_number x) next_frame (λ i. omega (arith, lt, many, i)))
      apart y (register r i) = ap (λ o. same_place (home entry e places x) (lives_in o)) i
      apart y (slot j i) =
          ap (λ o. same_place (home entry e places x) (lives_in o)) i
          ∙ (let lt = slot_before y j i in let least = home_least x in ne_eqb (home_number x) j (λ i. omega (arith, lt, least, i)))

    -- the return address lives in its register, and what lives in registers has homes
    pub homes_are : slice_get places 0 ≡ Some link_place → Homes (homes_plan entry e places)
    homes_are link = record { link = ap lives_in link; home = home_apart }

    -- ## Slots behind the homes

    module _ (m : ℕ) (behind : ends ≤ m) (low : m < max_words) where
      -- no variable lives there
      pub lives_apart : (x : ℕ) → same_place (place entry e places x) (Slot m) ≡ false
      lives_apart x = by (lives x) where
        by : Lives x → same_place (place entry e places x) (Slot m) ≡ false
        by (nowhere i) = ap (λ o. same_place (lives_in o) (Slot m)) i ∙ ne_eqb next_frame m (λ e. omega (arith, e, low))
        by (register r i) = ap (λ o. same_place (lives_in o) (Slot m)) i
        by (slot j i) = ap (λ o. same_place (lives_in o) (Slot m)) i ∙ (let lt = slot_before x j i in ne_eqb j m (λ e. omega (arith, e, lt, behind)))

      -- and none is saved there
      pub saved_apart : (x : ℕ) → is_slot (place entry e places x) ≡ false → same_place (home entry e places x) (Slot m) ≡ false
      saved_apart x s = by (homed x) refl where
        inside : x < length places
        inside = let t = in_table x s in slice_get_within places x (Reg t.0) t.1

        by : (t : Bool) → homed x ≡ t → same_place (Slot (cond t (first + count_below homed x) (max_words + x))) (Slot m) ≡ false
        by true h = let less = count_lt homed x (length places) h inside in ne_eqb _ m (λ e. omega (arith, e, less, behind))
        by false h = ne_eqb _ m (λ e. omega (arith, e, low))
