-- The places of what a body is entered with, and of whole bodies.
use Rattle.std.proofs.Common.{◌≡◌, ◌≢◌, ℕ, zero, suc, ◌+◌, ◌<◌, ◌≤◌, Bool, true, false, List, [], ◌∷◌, length, Option, Some, None, refl, ap, sym, ◌∙◌, subst, inl, inr, arith}
use Rattle.std.specs.Prelude.{nat_eq, nat_lt, nat_le, ◌||◌, ◌&&◌, not, cond, map}
use Rattle.std.proofs.lemmas.Bool.{eqb-true, eq-eqb, ne_eqb, or_cases}
use Rattle.std.proofs.lemmas.Bool.Decides.{nat_tests}
use Rattle.sch_word.specs.trees.Bindings.{numbers}
use Rattle.sch_word.specs.trees.NumberSets.{has, without_repeats}
use Rattle.sch_word.specs.declared.place.Place.{Place}
use Rattle.sch_word.specs.declared.place.Place.TheVariants.{Reg, Slot}
use Rattle.sch_word.proofs.facts.Booleans.{and_left, and_right, and_of, or_left, or_right, not_left, not_right, not_true, false_true, never_true}
use Rattle.sch_control.specs.declared.body.Entry.{Entry}
use Rattle.sch_control.specs.Tree.{Expression, Code}
use Rattle.sch_control.specs.Valid.{Position, positioned, last_position, first_scope, in_scope_whole, numbered, ended, is_bare, first_bound, in_scope, bound_in}
use Rattle.sch_control.specs.flow.Apart.{EachBinding, Alone, EachBoundAlone, EachPointApart, EnteredAlone}
use Rattle.sch_control.specs.flow.Bare.{erased}
use Rattle.sch_control.specs.flow.Live.{Live, nothing_later}
use Rattle.sch_word.specs.values.Places.{is_slot, link_place, closure_place}
use Rattle.sch_control.specs.flow.Places.{place_of, count_slots, arrival, formals_of, stays, is_usual, variable_arrival}
use Rattle.sch_control.proofs.NumberLists.{has_first}
use Rattle.sch_word.proofs.facts.NumberSets.{each_passes, distinct_numbers, numbers_mapped}
use Rattle.sch_paths.proofs.paths.UnlistedPaths.{positioned_erased}
use Rattle.sch_paths.proofs.runs.RestoresAreEnough.{scope_erased, bound_erased, valid_once, valid_unbound}
use Rattle.sch_paths.specs.Laws.{Readable}
use Rattle.sch_regs.specs.PlaceChoice.{Table, placed, place_in, slots, arrived, nothing_behind, table_of, places}
use Rattle.sch_regs.specs.Spills.{InSlotWhenFull, SlotsWhenFull}
use Rattle.sch_regs.proofs.UsualPlaces.{proper, proper_of, assign_proper, first_proper, usual_of}
use Rattle.sch_regs.proofs.InScope.{Sits, reads}
use Rattle.sch_regs.proofs.ApartAtPoints.{points, each_binding}
use Rattle.sch_regs.proofs.OneChoice.{Below, SlotsBelow, slots_more, slot_of, WellBound}
use Rattle.sch_regs.proofs.WellBound.{New, well, assign_placed, assign_kept, assign_below, assign_once}

-- ## Arrivals

abbrev rank_of : ℕ → ℕ
rank_of r =
    cond (nat_eq r 15) 0 (cond (nat_eq r 14) 1 (cond (nat_eq r 3) 2 (cond (nat_eq r 8) 3 (cond (nat_eq r 9) 4 (cond (nat_eq r 10) 5 (cond (nat_eq r 6) 6 7))))))

abbrev rank : Place → ℕ
rank (Reg r) = rank_of r
rank (Slot k) = suc (suc (suc (suc (suc (suc (suc (suc k)))))))

rank_variable_arrival : (x : ℕ) → rank (variable_arrival x) ≡ x
rank_variable_arrival zero = refl
rank_variable_arrival (suc zero) = refl
rank_variable_arrival (suc (suc zero)) = refl
rank_variable_arrival (suc (suc (suc zero))) = refl
rank_variable_arrival (suc (suc (suc (suc zero)))) = refl
rank_variable_arrival (suc (suc (suc (suc (suc zero))))) = refl
rank_variable_arrival (suc (suc (suc (suc (suc (suc zero)))))) = refl
rank_variable_arrival (suc (suc (suc (suc (suc (suc (suc zero))))))) = refl
rank_variable_arrival (suc (suc (suc (suc (suc (suc (suc (suc k)))))))) = refl

variable_arrival_apart : (x y : ℕ) → x ≢ y → variable_arrival x ≢ variable_arrival y
variable_arrival_apart x y n e = n (sym (rank_variable_arrival x) ∙ (ap rank e ∙ rank_variable_arrival y))

-- ## The first table

placed_below : (n x : ℕ) → has x (placed (arrived n)) ≡ true → x < suc (suc n)
placed_below zero x h = elim (or_cases (nat_eq x 1) _ h) [
  | inl e ↦ grind (arith, nat_tests, e)
  | inr k ↦ elim (or_cases (nat_eq x 0) _ k) [ inl e ↦ grind (arith, nat_tests, e) | inr z ↦ absurd (false_true z refl) ]
]
placed_below (suc n) x h = elim (or_cases (nat_eq x (suc (suc n))) _ h) [
  | inl e ↦ grind (arith, nat_tests, e)
  | inr k ↦ let lt = placed_below n x k in grind (arith, lt)
]

below_placed : (n x : ℕ) → x < suc (suc n) → has x (placed (arrived n)) ≡ true
below_placed zero zero h = refl
below_placed zero (suc zero) h = refl
below_placed zero (suc (suc x)) h = absurd (omega (arith, h))
below_placed (suc n) x h = by (nat_eq x (suc (suc n))) refl (below_placed n x) where
  by : (b : Bool) → nat_eq x (suc (suc n)) ≡ b → (x < suc (suc n) → has x (placed (arrived n)) ≡ true) → (b || has x (placed (arrived n))) ≡ true
  by true e f = refl
  by false e f = f (grind (arith, nat_tests, e, h))

first_place : (n x : ℕ) → x < suc (suc n) → place_in (arrived n) x ≡ variable_arrival x
first_place zero zero h = refl
first_place zero (suc zero) h = refl
first_place zero (suc (suc x)) h = absurd (omega (arith, h))
first_place (suc n) x h = by (nat_eq x (suc (suc n))) refl (first_place n x) where
  by : (b : Bool) → nat_eq x (suc (suc n)) ≡ b → (x < suc (suc n) → place_in (arrived n) x ≡ variable_arrival x) → cond b (arrival n) (place_in (arrived n) x) ≡ variable_arrival x
  by true e f = sym (ap variable_arrival (eqb-true x (suc (suc n)) e))
  by false e f = f (grind (arith, nat_tests, e, h))

six_more : (k : ℕ) → slots (arrived (suc (suc (suc (suc (suc (suc k))))))) ≡ k
six_more zero = refl
six_more (suc k) = ap suc (six_more k)

more_slots : (k : ℕ) → SlotsBelow k (arrived (suc (suc (suc (suc (suc (suc k)))))))
more_slots zero = (tt, (tt, (tt, (tt, (tt, (tt, (tt, (tt, tt))))))))
more_slots (suc k) = (omega arith, slots_more k (arrived (suc (suc (suc (suc (suc (suc k))))))) (more_slots k))

pub first_slots : (n : ℕ) → SlotsBelow (slots (arrived n)) (arrived n)
first_slots zero = (tt, (tt, tt))
first_slots (suc zero) = (tt, (tt, (tt, tt)))
first_slots (suc (suc zero)) = (tt, (tt, (tt, (tt, tt))))
first_slots (suc (suc (suc zero))) = (tt, (tt, (tt, (tt, (tt, tt)))))
first_slots (suc (suc (suc (suc zero)))) = (tt, (tt, (tt, (tt, (tt, (tt, tt))))))
first_slots (suc (suc (suc (suc (suc zero))))) = (tt, (tt, (tt, (tt, (tt, (tt, (tt, tt)))))))
first_slots (suc (suc (suc (suc (suc (suc k)))))) =
    subst (λ n. SlotsBelow n (arrived (suc (suc (suc (suc (suc (suc k)))))))) (sym (six_more k)) (more_slots k)

pub scope_below : (entry : Option Entry) (x : ℕ) → Readable (first_scope entry) x → x < suc (suc (formals_of entry))
scope_below entry x (inl z) = subst (λ y. y < suc (suc (formals_of entry))) (sym z) (omega arith)
scope_below None x (inr h) = absurd (cc)
scope_below (Some e) x (inr h) = let lt : nat_lt x (2 + e.formals) ≡ true = and_right (nat_lt 0 x) _ h in grind (arith, nat_tests, lt)

bound_above : (entry : Option Entry) (x : ℕ) → nat_le (first_bound entry) x ≡ true → x < suc (suc (formals_of entry)) → ⊥
bound_above None x h k = grind (arith, nat_tests, h, k)
bound_above (Some e) x h k = grind (arith, nat_tests, h, k)

arrived_once : (n : ℕ) → without_repeats (placed (arrived n)) ≡ true
arrived_once zero = refl
arrived_once (suc n) =
    and_of (not (has (suc (suc n)) (placed (arrived n)))) _
    (ap not (never_true (has (suc (suc n)) (placed (arrived n))) (λ h. let lt = placed_below n (suc (suc n)) h in absurd (omega (arith, lt))))) (arrived_once n)

-- ## Lists of places

pub place_at : (f : ℕ → Place) (k n x : ℕ) → x < n → place_of (map f (numbers k n)) x ≡ f (k + x)
place_at f k zero x l = absurd (omega (arith, l))
place_at f k (suc n) zero l = ap f (omega arith)
place_at f k (suc n) (suc x) l = place_at f (suc k) n x (omega (arith, l)) ∙ ap f (omega arith)

-- a number of slots, one more where a place is one
abbrev more : Place → ℕ → ℕ
more p n = cond (is_slot p) (suc n) n

other_slots : (f : ℕ → Place) (y : ℕ) (p : Place) (xs : List ℕ) → has y xs ≡ false → count_slots (map (λ x. cond (nat_eq x y) p (f x)) xs) ≡ count_slots (map f xs)
other_slots f y p [] h = refl
other_slots f y p (x ∷ xs) h =
    ap (λ b. more (cond b p (f x)) (count_slots (map (λ x. cond (nat_eq x y) p (f x)) xs))) (ne_eqb x y (λ e. false_true (eq-eqb y x (sym e)) (not_left (nat_eq y x) _ h)))
    ∙ ap (more (f x)) (other_slots f y p xs (not_right (nat_eq y x) _ h))

more_swap : (p q : Place) (n : ℕ) → more p (more q n) ≡ more q (more p n)
more_swap (Reg a) q n = refl
more_swap (Slot a) (Reg b) n = refl
more_swap (Slot a) (Slot b) n = refl

one_slot : (f : ℕ → Place) (y : ℕ) (p : Place) → is_slot (f y) ≡ false → (xs : List ℕ) → without_repeats xs ≡ true → has y xs ≡ true
    → count_slots (map (λ x. cond (nat_eq x y) p (f x)) xs) ≡ more p (count_slots (map f xs))
one_slot f y p reg [] o h = absurd (cc)
one_slot f y p reg (x ∷ xs) o h =
    by (nat_eq y x) refl h (one_slot f y p reg xs (and_right (not (has x xs)) _ o)) where
      not_x : has x xs ≡ false
      not_x = not_true (has x xs) (and_left (not (has x xs)) _ o)

      by : (b : Bool) → nat_eq y x ≡ b → (b || has y xs) ≡ true
          → (has y xs ≡ true → count_slots (map (λ x. cond (nat_eq x y) p (f x)) xs) ≡ more p (count_slots (map f xs)))
          → more (cond (nat_eq x y) p (f x)) (count_slots (map (λ x. cond (nat_eq x y) p (f x)) xs)) ≡ more p (more (f x) (count_slots (map f xs)))
      by true e h g =
          let is : y ≡ x = eqb-true y x e in
          ap (λ b. more (cond b p (f x)) (count_slots (map (λ x. cond (nat_eq x y) p (f x)) xs))) (eq-eqb x y (sym is))
          ∙ (ap (more p) (other_slots f y p xs (ap (λ z. has z xs) is ∙ not_x)
          ∙ ap (λ b. cond b (suc (count_slots (map f xs))) (count_slots (map f xs))) (sym (ap (λ z. is_slot (f z)) (sym is) ∙ reg))))
      by false e h g =
          ap (λ b. more (cond b p (f x)) (count_slots (map (λ x. cond (nat_eq x y) p (f x)) xs))) (ne_eqb x y (λ z. false_true (eq-eqb y x (sym z)) e))
          ∙ (ap (more (f x)) (g h) ∙ more_swap (f x) p (count_slots (map f xs)))

none_in : (t : Table) (y : ℕ) → has y (placed t) ≡ false → is_slot (place_in t y) ≡ false
none_in [] y h = refl
none_in (w ∷ t) y h = ap (λ b. is_slot (cond b w.1 (place_in t y))) (not_left (nat_eq y w.0) _ h) ∙ none_in t y (not_right (nat_eq y w.0) _ h)

no_slots : (xs : List ℕ) → count_slots (map (place_in []) xs) ≡ 0
no_slots [] = refl
no_slots (x ∷ xs) = no_slots xs

-- as many slots are listed as the table has
pub slots_listed : (t : Table) (xs : List ℕ) → without_repeats xs ≡ true → without_repeats (placed t) ≡ true → ((x : ℕ) → has x (placed t) ≡ true → has x xs ≡ true)
    → count_slots (map (place_in t) xs) ≡ slots t
slots_listed [] xs o once f = no_slots xs
slots_listed (w ∷ t) xs o once f =
    one_slot (place_in t) w.0 w.1 (none_in t w.0 (not_true (has w.0 (placed t)) (and_left (not (has w.0 (placed t))) _ once))) xs o
    (f w.0 (or_left (nat_eq w.0 w.0) _ (eq-eqb w.0 w.0 refl)))
    ∙ ap (more w.1) (slots_listed t xs o (and_right (not (has w.0 (placed t))) _ once) (λ x h. f x (or_right (nat_eq x w.0) _ h)))

-- ## Whole bodies

stays_same : (p : Place) → stays p p ≡ true
stays_same (Reg r) = eq-eqb r r refl
stays_same (Slot k) = eq-eqb k k refl

first_bound_is : (entry : Option Entry) → first_bound entry ≡ suc (suc (formals_of entry))
first_bound_is None = refl
first_bound_is (Some e) = omega arith

-- what the places of a body are to be
pub record IsPlaced (entry : Option Entry) (variables : ℕ) (e : Expression) (ps : List Place) : Type 0 where
  pub whole : length ps ≡ variables
  pub link : place_of ps 0 ≡ link_place
  pub closure : place_of ps 1 ≡ closure_place
  pub usual : (x : ℕ) → 1 < x → x < variables → is_usual (count_slots ps) (place_of ps x) ≡ true
  pub stay : (k : ℕ) → k < formals_of entry → place_of ps (2 + k) ≡ arrival k
  pub formals : (k : ℕ) → k < formals_of entry → stays (arrival k) (place_of ps (2 + k)) ≡ true
  pub entered : EnteredAlone (place_of ps) (2 + formals_of entry) e
  pub alone : EachBoundAlone (place_of ps) e
  pub points : EachPointApart (place_of ps) e
  pub spills : SlotsWhenFull (place_of ps) e

module _ (c : Code) (e : Expression) (is : erased e ≡ c.expression) (i : in_scope_whole c ≡ true) (n : numbered c ≡ true) (d : ended c ≡ true) where
  bound_same : bound_in e ≡ bound_in c.expression
  bound_same = sym (bound_erased e) ∙ ap bound_in is

  abbrev scope : ℕ → Bool
  scope = first_scope c.entry

  pub sits : Sits e scope
  sits = record {
    scoped = sym (scope_erased e scope) ∙ (ap (λ z. in_scope z scope) is ∙ i);
    once = ap without_repeats bound_same ∙ valid_once c n;
    unbound = λ x m. valid_unbound c n x (ap (has x) (sym bound_same) ∙ m);
  }

  abbrev at : Position
  at = last_position c.entry

  stands : positioned e at ≡ true
  stands = sym (positioned_erased e at) ∙ (ap (λ z. positioned z at) is ∙ and_right (is_bare c.expression) _ d)

  abbrev n0 : ℕ
  n0 = formals_of c.entry

  abbrev t0 : Table
  t0 = arrived n0

  abbrev t : Table
  t = table_of c.entry e

  abbrev ps : List Place
  ps = places c.entry c.variables e

  pub enough : suc (suc n0) ≤ c.variables
  enough =
      let k : nat_le (first_bound c.entry) c.variables ≡ true = and_left (nat_le (first_bound c.entry) c.variables) _ (and_right _ _ n) in
      let same = first_bound_is c.entry in
      grind (arith, nat_tests, k, same)

  pub bound_within : (x : ℕ) → has x (bound_in e) ≡ true → (nat_le (first_bound c.entry) x && nat_lt x c.variables) ≡ true
  bound_within x h =
      each_passes (λ x. nat_le (first_bound c.entry) x && nat_lt x c.variables) (bound_in c.expression)
      (and_left _ _ (and_right (nat_le (first_bound c.entry) c.variables) _ (and_right _ _ n))) x (ap (has x) (sym bound_same) ∙ h)

  new0 : New (bound_in e) t0
  new0 x h = never_true (has x (placed t0)) (λ m. bound_above c.entry x (and_left (nat_le (first_bound c.entry) x) _ (bound_within x h)) (placed_below n0 x m))

  once : without_repeats (placed t) ≡ true
  once = assign_once e nothing_behind t0 new0 sits.once (arrived_once n0)

  within : (x : ℕ) → has x (placed t) ≡ true → x < c.variables
  within x h = elim (or_cases (has x (bound_in e)) _ (sym (assign_placed e nothing_behind t0 x) ∙ h)) [
    | inl b ↦ let lt : nat_lt x c.variables ≡ true = and_right (nat_le (first_bound c.entry) x) _ (bound_within x b) in grind (arith, nat_tests, lt)
    | inr m ↦ let lt = placed_below n0 x m in let k = enough in omega (arith, lt, k)
  ]

  listed_at : (x : ℕ) → x < c.variables → place_of ps x ≡ place_in t x
  listed_at x l = place_at (place_in t) 0 c.variables x l ∙ ap (place_in t) (omega arith)

  at_entry : (x : ℕ) → x < suc (suc n0) → place_of ps x ≡ variable_arrival x
  at_entry x h =
      let k = enough in
      listed_at x (omega (arith, h, k))
      ∙ (assign_kept e nothing_behind t0 x (never_true (has x (bound_in e)) (λ b. false_true (below_placed n0 x h) (new0 x b))) ∙ first_place n0 x h)

  pub slots_same : count_slots ps ≡ slots t
  slots_same =
      slots_listed t (numbers 0 c.variables) (distinct_numbers 0 c.variables) once
      (λ x h. has_first x c.variables ∙ (let lt = within x h in grind (arith, nat_tests, lt)))

  well_bound : EachBinding (WellBound (place_of ps)) e nothing_later
  well_bound =
      well (place_of ps) e scope sits nothing_behind nothing_later (λ x r. ((λ h. absurd (false_true h refl)), λ b. absurd b)) (λ x r b. absurd b) t0
      (λ x r. below_placed n0 x (scope_below c.entry x r)) new0 (first_slots n0) (arrived_once n0) (λ x m. listed_at x (within x m))

  live_entered : (x : ℕ) → Live x e (nothing_later x) → x < suc (suc n0)
  live_entered x l = scope_below c.entry x (reads sits nothing_later (λ x r b. absurd b) x l)

  entry_alone : EnteredAlone (place_of ps) (2 + n0) e
  entry_alone y h x l differ same =
      let lx : x < suc (suc n0) = live_entered x l in
      variable_arrival_apart x y differ (sym (at_entry x lx) ∙ (same ∙ at_entry y (omega (arith, h))))

  pub is_placed : IsPlaced c.entry c.variables e ps
  is_placed =
      let stay : (k : ℕ) → k < n0 → place_of ps (2 + k) ≡ arrival k = λ k h. ap (place_of ps) (omega arith) ∙ at_entry (suc (suc k)) (omega (arith, h)) in
      let alone : EachBoundAlone (place_of ps) e = each_binding (WellBound (place_of ps)) (Alone (place_of ps)) (λ live y w. w.0) e nothing_later well_bound in
      record {
        whole = numbers_mapped (place_in t) 0 c.variables;
        link = at_entry 0 (omega arith);
        closure = at_entry 1 (omega arith);
        usual = λ x l m.
            usual_of (slots t) (count_slots ps) (place_of ps x)
            (ap proper (listed_at x m) ∙ proper_of t (assign_proper e nothing_behind t0 (first_proper n0)) x l)
            (subst (Below (slots t)) (sym (listed_at x m)) (slot_of (slots t) t (assign_below e nothing_behind t0 (first_slots n0)) x))
            (let same = slots_same in omega (arith, same));
        stay = stay;
        formals = λ k h. ap (stays (arrival k)) (stay k h) ∙ stays_same (arrival k);
        entered = entry_alone;
        alone = alone;
        points = points (place_of ps) e scope at sits stands (Unit {0}) nothing_later (λ x r b. absurd b) alone
            (λ met x y l m differ. entry_alone y (omega (arith, live_entered y m)) x l differ);
        spills = each_binding (WellBound (place_of ps)) (InSlotWhenFull (place_of ps)) (λ live y w. w.1) e nothing_later well_bound;
      }
