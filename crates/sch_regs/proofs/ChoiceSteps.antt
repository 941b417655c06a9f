-- What the sets of variables in registers say of a table, and the steps of a choice.
use Rattle.std.proofs.Common.{◌≡◌, ℕ, zero, suc, ◌+◌, ◌-◌, ◌^◌, ◌<◌, ◌≤◌, Option, Some, None, Bool, true, false, List, [], ◌∷◌, ◌++◌, length, take, drop, length-append, refl, ap, sym, ◌∙◌, arith, subst}
use Rattle.std.specs.Prelude.{nat_eq, nat_lt, ◌||◌, ◌&&◌, not, cond, map, filter, slice_set, slice_get, slice_index_or}
use Rattle.std.specs.List.{list_all}
use Rattle.std.specs.Bool.{OnFalse}
use Rattle.std.proofs.lemmas.Bool.Decides.{nat_tests}
use Rattle.std.specs.FinSet as set
use Rattle.std.proofs.lemmas.Bool.{eqb-true, eq-eqb, ne_eqb}
use Rattle.std.proofs.lemmas.List.{append_assoc, take_all}
use Rattle.std.proofs.Math.Bool.{and-false}
use Rattle.sch_sets.specs.Members.{NumberSet, HasMember}
use Rattle.sch_sets.proofs.Membership.{contains-empty, contains-insert, contains-intersection}
use Rattle.sch_word.specs.trees.Bindings.{numbers}
use Rattle.sch_word.specs.declared.place.Place.{Place}
use Rattle.sch_word.specs.declared.place.Place.TheVariants.{Reg, Slot}
use Rattle.sch_word.proofs.facts.Booleans.{and_left, and_right, and_of, or_left, or_right, false_true, never_true, and_true}
use Rattle.sch_control.specs.declared.operation.Member.{Member}
use Rattle.sch_control.specs.Tree.{Expression, bind, sequence, branch, fix}
use Rattle.sch_control.specs.Valid.{member_variables}
use Rattle.sch_word.specs.values.Places.{is_slot, same_place}
use Rattle.sch_word.specs.values.Options.{first_or_0}
use Rattle.sch_regs.specs.NotedSets.{Noted, assign_noted}
use Rattle.sch_regs.specs.PlaceChoice.{Table, place_in, in_order, held, choose, choose_each, live_first}
use Rattle.sch_regs.specs.Shows.{holds, AreHeld, IsHeld, each_with_held, is_wanted, with_held}

-- ## What is held

held_by : (live : ℕ → Bool) (t : Table) (r : ℕ) → held live t r ≡ true → (x : ℕ) × ((live x ≡ true) × (holds t r x ≡ true))
held_by live [] r h = absurd (cc)
held_by live (w ∷ t) r h = by (live w.0 && same_place w.1 (Reg r)) refl (held_by live t r) h where
  by : (b : Bool) → (live w.0 && same_place w.1 (Reg r)) ≡ b → (held live t r ≡ true → (x : ℕ) × ((live x ≡ true) × (holds t r x ≡ true)))
      → (b || held live t r) ≡ true → (x : ℕ) × ((live x ≡ true) × (holds (w ∷ t) r x ≡ true))
  by true e f h = (
    w.0,
    (and_left (live w.0) _ e, or_left (nat_eq w.0 w.0 && same_place w.1 (Reg r)) _ (and_of (nat_eq w.0 w.0) _ (eq-eqb w.0 w.0 refl) (and_right (live w.0) _ e))),
  )
  by false e f h = let k = f h in (k.0, (k.1.0, or_right (nat_eq k.0 w.0 && same_place w.1 (Reg r)) _ k.1.1))

holder : (live : ℕ → Bool) (t : Table) (r x : ℕ) → live x ≡ true → holds t r x ≡ true → held live t r ≡ true
holder live [] r x l h = absurd (cc)
holder live (w ∷ t) r x l h = by (nat_eq x w.0 && same_place w.1 (Reg r)) refl (holder live t r x l) h where
  by : (b : Bool) → (nat_eq x w.0 && same_place w.1 (Reg r)) ≡ b → (holds t r x ≡ true → held live t r ≡ true) → (b || holds t r x) ≡ true
      → ((live w.0 && same_place w.1 (Reg r)) || held live t r) ≡ true
  by true e f h =
      or_left (live w.0 && same_place w.1 (Reg r)) _ (and_of (live w.0) _ (sym (ap live (eqb-true x w.0 (and_left (nat_eq x w.0) _ e))) ∙ l) (and_right (nat_eq x w.0) _ e))
  by false e f h = or_right (live w.0 && same_place w.1 (Reg r)) _ (f h)

-- whether a register is free, by whether its set meets that of what is live
pub free_register : (live : NumberSet) (t : Table) (r : ℕ) (s m : NumberSet) (free : Bool) → IsHeld t r s → m ≡ set.intersection s live
    → (free ≡ true → m ≡ set.empty) → OnFalse free (HasMember m) → free ≡ not (held (set.contains live) t r)
free_register live t r s m true h meets none has =
    sym (ap not (never_true (held (set.contains live) t r) (λ e.
    let w = held_by (set.contains live) t r e in
    false_true (sym (ap (λ q. set.contains q w.0) (sym meets ∙ none refl)) ∙ (contains-intersection s live w.0 ∙ and_of (set.contains s w.0) _ (h w.0 ∙ w.1.1) w.1.0))
    (contains-empty w.0))))
free_register live t r s m false h meets none has =
    let both : (set.contains s has.0 && set.contains live has.0) ≡ true
    = sym (contains-intersection s live has.0) ∙ (ap (λ q. set.contains q has.0) (sym meets) ∙ has.1) in
    sym (ap not
    (holder (set.contains live) t r has.0 (and_right (set.contains s has.0) _ both) (sym (h has.0) ∙ and_left (set.contains s has.0) _ both)))

-- ## A variable is given a place

pub into_register : (t : Table) (r y : ℕ) (p : Place) (s s' : NumberSet) → same_place p (Reg r) ≡ true → s' ≡ set.insert s y → IsHeld t r s → IsHeld ((y, p) ∷ t) r s'
into_register t r y p s s' here put h x =
    ap (λ q. set.contains q x) put ∙ (contains-insert s y x ∙ (ap (λ b. nat_eq x y || b) (h x) ∙ ap (λ b. b || holds t r x) (sym (ap (λ b. nat_eq x y && b) here ∙ and_true (nat_eq x y)))))

pub elsewhere : (t : Table) (r y : ℕ) (p : Place) (s : NumberSet) → same_place p (Reg r) ≡ false → IsHeld t r s → IsHeld ((y, p) ∷ t) r s
elsewhere t r y p s there h x = h x ∙ ap (λ b. b || holds t r x) (sym (ap (λ b. nat_eq x y && b) there ∙ and-false (nat_eq x y)))

held_after : (t : Table) (r y : ℕ) (p : Place) (s : NumberSet) → IsHeld t r s → IsHeld ((y, p) ∷ t) r (with_held r s y p)
held_after t r y p s h = by (same_place p (Reg r)) refl where
  by : (b : Bool) → same_place p (Reg r) ≡ b → IsHeld ((y, p) ∷ t) r (cond b (set.insert s y) s)
  by true e = into_register t r y p s (set.insert s y) e refl h
  by false e = elsewhere t r y p s e h

at_front : {A : Type 0} (front : List A) (x y : A) (xs : List A) → slice_set (front ++ x ∷ xs) (length front) y ≡ front ++ y ∷ xs
at_front [] x y xs = refl
at_front (z ∷ front) x y xs = ap (λ q. z ∷ q) (at_front front x y xs)

found_at : {A : Type 0} (front : List A) (x d : A) (xs : List A) → slice_index_or (front ++ x ∷ xs) (length front) d ≡ x
found_at [] x d xs = refl
found_at (z ∷ front) x d xs = found_at front x d xs

-- the sets of some registers behind others, once a variable has a place
after_front : (t : Table) (y : ℕ) (p : Place) (registers : List ℕ) (front sets : List NumberSet) → AreHeld t registers sets
    → (after : List NumberSet) × ((each_with_held registers (length front) (front ++ sets) y p ≡ front ++ after) × AreHeld ((y, p) ∷ t) registers after)
after_front t y p [] front [] h = ([], (refl, tt))
after_front t y p [] front (s ∷ sets) h = absurd h
after_front t y p (r ∷ registers) front [] h = absurd h
after_front t y p (r ∷ registers) front (s ∷ sets) h =
    let s' = with_held r s y p in
    let rest = after_front t y p registers (front ++ s' ∷ []) sets h.1 in (
      s' ∷ rest.0,
      (
        ap (λ q. each_with_held registers (length front + 1) (slice_set (front ++ s ∷ sets) (length front) (with_held r q y p)) y p) (found_at front s set.empty sets)
            ∙ (ap (λ q. each_with_held registers (length front + 1) q y p) (at_front front s s' sets ∙ sym (append_assoc front (s' ∷ []) sets))
            ∙ (ap (λ k. each_with_held registers k ((front ++ s' ∷ []) ++ sets) y p) (sym (length-append front (s' ∷ [])))
            ∙ (rest.1.0 ∙ append_assoc front (s' ∷ []) rest.0))),
        (held_after t r y p s h.0, rest.1.1),
      ),
    )

pub all_held : (t : Table) (y : ℕ) (p : Place) (registers : List ℕ) (sets : List NumberSet) → AreHeld t registers sets
    → AreHeld ((y, p) ∷ t) registers (each_with_held registers 0 sets y p)
all_held t y p registers sets h = let a = after_front t y p registers [] sets h in subst (AreHeld ((y, p) ∷ t) registers) (sym a.1.0) a.1.1

-- one register after another
pub next_held : (registers : List ℕ) (k y : ℕ) (p : Place) (sets : List NumberSet) → 1 ≤ length registers
    → each_with_held registers k sets y p
    ≡ each_with_held (take (length registers - 1) (drop 1 registers)) (k + 1) (slice_set sets k (with_held (slice_index_or registers 0 0) (slice_index_or sets k set.empty) y p)) y p
next_held [] k y p sets h = absurd (omega (arith, h))
next_held (r ∷ registers) k y p sets h = ap (λ q. each_with_held q (k + 1) (slice_set sets k (with_held r (slice_index_or sets k set.empty) y p)) y p) (sym whole)
  where
    whole : take (suc (length registers) - 1) registers ≡ registers
    whole = take_all (suc (length registers) - 1) registers (omega arith)

pub none_left : (registers : List ℕ) (k y : ℕ) (p : Place) (sets : List NumberSet) → length registers < 1 → sets ≡ each_with_held registers k sets y p
none_left [] k y p sets h = refl
none_left (r ∷ registers) k y p sets h = absurd (omega (arith, h))

-- the list of places with one more
set_listed : (f : ℕ → Place) (p : Place) (k n y : ℕ) → slice_set (map f (numbers k n)) y p ≡ map (λ x. cond (nat_eq x (k + y)) p (f x)) (numbers k n)
set_listed f p k zero y = refl
set_listed f p k (suc n) zero =
    rw (eq-eqb k (k + zero) (omega arith)) (ap (λ q. p ∷ q) (rest (suc k) n (omega arith))) where
      rest : (j n : ℕ) → k < j → map f (numbers j n) ≡ map (λ x. cond (nat_eq x (k + zero)) p (f x)) (numbers j n)
      rest j zero l = refl
      rest j (suc n) l = rw (ne_eqb j (k + zero) (λ e. omega (arith, l, e))) (ap (λ q. f j ∷ q) (rest (suc j) n (omega (arith, l))))
set_listed f p k (suc n) (suc y) =
    rw (ne_eqb k (k + suc y) (λ e. omega (arith, e)))
    (ap (λ q. f k ∷ q) (set_listed f p (suc k) n y ∙ ap (λ j. map (λ x. cond (nat_eq x j) p (f x)) (numbers (suc k) n)) (omega arith)))

pub place_listed : (t : Table) (count y : ℕ) (p : Place) → slice_set (in_order count t) y p ≡ in_order count ((y, p) ∷ t)
place_listed t count y p = set_listed (place_in t) p 0 count y ∙ ap (λ j. map (λ x. cond (nat_eq x j) p (place_in t x)) (numbers 0 count)) (omega arith)

-- ## Groups

pub wanted_one : (live f : ℕ → Bool) (y : ℕ) (ys : List ℕ) (t : Table)
    → choose_each live (filter f (y ∷ ys)) t ≡ choose_each live (filter f ys) (choose_each live (filter f (y ∷ [])) t)
wanted_one live f y ys t = by (f y) where
  by : (b : Bool) → choose_each live (cond b (y ∷ filter f ys) (filter f ys)) t ≡ choose_each live (filter f ys) (choose_each live (cond b (y ∷ []) []) t)
  by true = refl
  by false = refl

pub each_append : (live : ℕ → Bool) (xs ys : List ℕ) (t : Table) → choose_each live (xs ++ ys) t ≡ choose_each live ys (choose_each live xs t)
each_append live [] ys t = refl
each_append live (x ∷ xs) ys t = each_append live xs ys (choose live x t)

pub both_rounds : (live : ℕ → Bool) (ys : List ℕ) (t : Table)
    → choose_each live (filter (is_wanted live false) ys) (choose_each live (filter (is_wanted live true) ys) t) ≡ choose_each live (live_first live ys) t
both_rounds live ys t = sym (each_append live (filter live ys) (filter (λ y. not (live y)) ys) t)

pub first_some : (members : List (Member ℕ)) (m : Member ℕ) → Some m ≡ slice_get members 0 → m.at ≡ first_or_0 (member_variables members)
first_some [] m h = absurd (cc)
first_some (k ∷ members) m h = ap at_of h where
  at_of : Option (Member ℕ) → ℕ
  at_of None = m.at
  at_of (Some k) = k.at

pub first_none : (members : List (Member ℕ)) → None ≡ slice_get members 0 → members ≡ []
first_none [] h = refl
first_none (k ∷ members) h = absurd (cc)

pub first_below : (members : List (Member ℕ)) (bound : ℕ) (m : Member ℕ) → Some m ≡ slice_get members 0
    → list_all (λ x. nat_lt x bound) (member_variables members) ≡ true → m.at < bound
first_below members bound m is h = subst (λ y. y < bound) (sym (first_some members m is)) (below members is h) where
  below : (members : List (Member ℕ)) → Some m ≡ slice_get members 0 → list_all (λ x. nat_lt x bound) (member_variables members) ≡ true
      → first_or_0 (member_variables members) < bound
  below [] is h = absurd (cc)
  below (k ∷ members) is h = let lt : nat_lt k.at bound ≡ true = and_left (nat_lt k.at bound) _ h in grind (arith, nat_tests, lt)

pub all_within : (xs : List ℕ) (low high : ℕ) → low ≤ high → list_all (λ x. nat_lt x low) xs ≡ true → list_all (λ x. nat_lt x high) xs ≡ true
all_within [] low high l h = refl
all_within (x ∷ xs) low high l h =
    let lt : nat_lt x low ≡ true = and_left (nat_lt x low) _ h in
    let here : nat_lt x high ≡ true = grind (arith, nat_tests, lt, l) in
    and_of (nat_lt x high) _ here (all_within xs low high l (and_right (nat_lt x low) _ h))

-- one slot more, where a place is one, and as many as 32 bits number
pub fewer_slots : (p : Place) (n : ℕ) → cond (is_slot p) (suc n) n < 2 ^ 32 → n < 2 ^ 32
fewer_slots (Reg r) n l = l
fewer_slots (Slot j) n l = omega (arith, l)

pub slot_counted : (p : Place) (n m k : ℕ) → (cond (is_slot p) (n + 1) n < 2 ^ 32 → k ≡ cond (is_slot p) (n + 1) n) → n ≡ m → cond (is_slot p) (suc m) m < 2 ^ 32
    → k ≡ cond (is_slot p) (suc m) m
slot_counted (Reg r) n m k f e l = f (omega (arith, e, l)) ∙ e
slot_counted (Slot j) n m k f e l = let h = f (omega (arith, e, l)) in omega (arith, h, e)

-- ## Walks

module _ (n : Noted) where
  pub bind_walk : (y : ℕ) (a b a' b' e : Expression) (t : Table) → e ≡ bind y a b → a' ≡ a → b' ≡ b
      → assign_noted n b' (choose (n y) y (assign_noted n a' t)) ≡ assign_noted n e t
  bind_walk y a b a' b' e t is first second =
      ap (λ z. assign_noted n z (choose (n y) y (assign_noted n a' t))) second
      ∙ (ap (λ z. assign_noted n b (choose (n y) y (assign_noted n z t))) first ∙ ap (λ z. assign_noted n z t) (sym is))

  pub sequence_walk : (a b a' b' e : Expression) (t : Table) → e ≡ sequence a b → a' ≡ a → b' ≡ b → assign_noted n b' (assign_noted n a' t) ≡ assign_noted n e t
  sequence_walk a b a' b' e t is first second =
      ap (λ z. assign_noted n z (assign_noted n a' t)) second ∙ (ap (λ z. assign_noted n b (assign_noted n z t)) first ∙ ap (λ z. assign_noted n z t) (sym is))

  pub branch_walk : (a b c a' b' c' e : Expression) (t : Table) → e ≡ branch a b c → a' ≡ a → b' ≡ b → c' ≡ c
      → assign_noted n c' (assign_noted n b' (assign_noted n a' t)) ≡ assign_noted n e t
  branch_walk a b c a' b' c' e t is first second third =
      ap (λ z. assign_noted n z (assign_noted n b' (assign_noted n a' t))) third
      ∙ (ap (λ z. assign_noted n c (assign_noted n z (assign_noted n a' t))) second
      ∙ (ap (λ z. assign_noted n c (assign_noted n b (assign_noted n z t))) first ∙ ap (λ z. assign_noted n z t) (sym is)))

  pub fix_walk : (members : List (Member ℕ)) (a a' e : Expression) (t : Table) → e ≡ fix members a → a' ≡ a
      → assign_noted n a' (choose_each (n (first_or_0 (member_variables members))) (live_first (n (first_or_0 (member_variables members))) (member_variables members)) t)
      ≡ assign_noted n e t
  fix_walk members a a' e t is first =
      ap (λ z. assign_noted n z (choose_each (n (first_or_0 (member_variables members))) (live_first (n (first_or_0 (member_variables members))) (member_variables members)) t)) first
      ∙ ap (λ z. assign_noted n z t) (sym is)
