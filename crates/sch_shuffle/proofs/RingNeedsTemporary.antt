-- Each ring needs a temporary, whatever the plan.
use Rattle.std.proofs.Common.{◌≡◌, ◌≢◌, ℕ, zero, suc, ◌+◌, ◌-◌, ◌*◌, ◌<◌, ◌≤◌, Bool, true, false, cond, List, [], ◌∷◌, length, refl, ap, sym, ◌∙◌, arith, inl, inr, ◌⊎◌, get_or, Option, Some, None}
use Rattle.std.specs.Prelude.{nat_eq}
use Rattle.std.specs.List.{AllByRecursion}
use Rattle.std.proofs.lemmas.List.Elements.{recursion_from_All}
use Rattle.std.proofs.lemmas.Bool.{cases_eq, eq-eqb, ne_eqb, eqb-false}
use Rattle.std.proofs.lemmas.Bool.Decides.{nat_tests}
use Rattle.sch_word.specs.declared.place.Place.{Place}
use Rattle.sch_word.specs.values.Values.{Value, object}
use Rattle.sch_word.specs.declared.place.Place.TheVariants.{Reg, Slot}
use Rattle.sch_shuffle.specs.Tree.{Tree, place}
use Rattle.sch_word.specs.values.Places.{same_place}
use Rattle.sch_shuffle.specs.Meaning.{Reading, given}
use Rattle.sch_shuffle.specs.Assignment.{operand_at, place_at, Transfer, moved, after, AlwaysAssigns, AreDistinct, IsSpare}
use Rattle.sch_shuffle.specs.Plans.{Act, direct, aside, across, onward, transfer, transfers, evaluates, sets_aside, goes_on, count, IsAct, IsPlan}
use Rattle.sch_shuffle.specs.Cycles.{IsRing}
use Rattle.sch_shuffle.proofs.MovesAssign.{moved_here, moved_else}
use Rattle.sch_word.proofs.facts.Places.{place_same, place_other, cases_place}

-- ## Values that tell the places apart

abbrev code : Place → ℕ
code (Reg r) = 2 * r
code (Slot j) = 2 * j + 1

code_apart : (p q : Place) → code p ≡ code q → p ≡ q
code_apart (Reg a) (Reg b) h = ap Reg (omega (arith, h))
code_apart (Slot a) (Slot b) h = ap Slot (omega (arith, h))
code_apart (Reg a) (Slot b) h = absurd (omega (arith, h))
code_apart (Slot a) (Reg b) h = absurd (omega (arith, h))

abbrev own_value : Place → Option Value
own_value p = Some (object (code p))

abbrev number_in : Option Value → ℕ
number_in (Some (object n)) = n
number_in _ = 0

value_apart : (p q : Place) → own_value p ≡ own_value q → p ≡ q
value_apart p q h = code_apart p q (ap number_in h)

abbrev reading : Reading (Option Value)
reading = record { fixed = λ n. None; literal = λ k. None; read = λ primitive xs. None }

module _ (args : List Tree) (targets : List Place) where
  abbrev run : List Act → (Place → Option Value) → Place → Option Value
  run acts s = after reading (transfers args targets acts) s

  abbrev writes : Place → Act → Bool
  writes p a = same_place p (transfer args targets a).to

  abbrev From : Place → Place → Act → Type 0
  From here there a = (transfer args targets a).to ≡ here → (transfer args targets a).from ≡ place there

  count_yes : (f : Act → Bool) (a : Act) (acts : List Act) → f a ≡ true → count f (a ∷ acts) ≡ suc (count f acts)
  count_yes f a acts e = rw e refl

  count_no : (f : Act → Bool) (a : Act) (acts : List Act) → f a ≡ false → count f (a ∷ acts) ≡ count f acts
  count_no f a acts e = rw e refl

  -- a place that no move writes keeps its word
  unwritten : (acts : List Act) (s : Place → Option Value) (p : Place) → count (writes p) acts ≡ 0 → run acts s p ≡ s p
  unwritten [] s p none = refl
  unwritten (a ∷ acts) s p none =
      elim (cases_place p (transfer args targets a).to) [
        | inl same ↦ absurd (let c = count_yes (writes p) a acts (place_same p _ same) in omega (arith, c, none))
        | inr other ↦
            unwritten acts _ p (sym (count_no (writes p) a acts (place_other p _ other)) ∙ none) ∙ moved_else reading (transfer args targets a) s p other
      ]

  -- a place that is written once, from a place that is lost, does not get what it should
  lost : (acts : List Act) (s : Place → Option Value) (here there : Place) (want : Option Value) → count (writes there) acts ≡ 0 → count (writes here) acts ≡ 1
      → AllByRecursion (From here there) acts → s there ≢ want → run acts s here ≢ want
  lost [] s here there want none one from bad = absurd (omega (arith, one))
  lost (a ∷ acts) s here there want none one from bad =
      let t : Transfer = transfer args targets a in
      elim (cases_place here t.to) [
        | inl same ↦
            let rest : count (writes here) acts ≡ 0 = let c = count_yes (writes here) a acts (place_same here t.to same) in omega (arith, c, one) in
            λ e. bad (ap (given reading s) (sym (from.0 (sym same))) ∙ sym (unwritten acts (moved reading t s) here rest ∙ moved_here reading t s here same) ∙ e)
        | inr other ↦
            elim (cases_place there t.to) [
              | inl hit ↦ absurd (let c = count_yes (writes there) a acts (place_same there t.to hit) in omega (arith, c, none))
              | inr miss ↦
                  lost acts (moved reading t s) here there want
                  (sym (count_no (writes there) a acts (place_other there t.to miss)) ∙ none)
                  (sym (count_no (writes here) a acts (place_other here t.to other)) ∙ one)
                  from.1 (λ e. bad (sym (moved_else reading t s there miss) ∙ e))
            ]
      ]

  -- which of the first n numbers maps to x
  which : (f : ℕ → Place) (n : ℕ) (x : Place) → ((a : ℕ) × (a < n) × (x ≡ f a)) ⊎ ((a : ℕ) → a < n → x ≢ f a)
  which f zero x = inr (λ a h. absurd (omega (arith, h)))
  which f (suc n) x =
      elim (which f n x) [
        | inl found ↦ inl (found.0, let h = found.1 in omega (arith, h), found.2)
        | inr none ↦
            elim (cases_place x (f n)) [
              | inl here ↦ inl (n, omega arith, here)
              | inr not_here ↦ inr (λ a h. elim (cases_eq a n) [ inl e ↦ rw e not_here | inr ne ↦ none a (omega (arith, h, ne)) ])
            ]
      ]

  -- a cycle: what the place T a holds belongs in T (before a), and T a wants what A a holds
  module _ (n : ℕ) (T A : ℕ → Place) (before next : ℕ → ℕ)
      (before_in : (a : ℕ) → a < n → before a < n) (next_in : (a : ℕ) → a < n → next a < n)
      (to_before : (a : ℕ) → a < n → A (before a) ≡ T a) (from_next : (a : ℕ) → a < n → A a ≡ T (next a))
      (differ : (a : ℕ) → a < n → A a ≢ T a) where
    -- where each place of the cycle is written once, and straight, some place gets a wrong word
    broken : (acts : List Act) (s : Place → Option Value) → ((a : ℕ) → a < n → s (T a) ≡ own_value (T a))
        → ((a : ℕ) → a < n → count (writes (T a)) acts ≡ 1) → ((a : ℕ) → a < n → AllByRecursion (From (T a) (A a)) acts)
        → 0 < n → (a : ℕ) × (a < n) × (run acts s (T a) ≢ own_value (A a))
    broken [] s same one from some = absurd (let h = one 0 some in omega (arith, h))
    broken (x ∷ acts) s same one from some =
        let t : Transfer = transfer args targets x in
        elim (which T n t.to) [
          | inl hit ↦
              let k : ℕ = hit.0 in
              let p : ℕ = before k in
              let pn = before_in k hit.1 in
              let back : T k ≡ t.to = sym hit.2 in
              let written : count (writes (T k)) acts ≡ 0 = let h = one k hit.1 in let c = count_yes (writes (T k)) x acts (place_same (T k) t.to back) in omega (arith, h, c) in
              let apart : T p ≢ t.to = λ e. differ p pn (to_before k hit.1 ∙ back ∙ sym e) in
              let once : count (writes (T p)) acts ≡ 1 = sym (count_no (writes (T p)) x acts (place_other (T p) t.to apart)) ∙ one p pn in
              let now : moved reading t s (T k) ≡ own_value (A k) =
              moved_here reading t s (T k) back ∙ ap (given reading s) ((from k hit.1).0 hit.2) ∙ ap s (from_next k hit.1)
              ∙ same (next k) (next_in k hit.1) ∙ ap own_value (sym (from_next k hit.1)) in
              let lands : AllByRecursion (From (T p) (T k)) acts = rw (← to_before k hit.1) (from p pn).1 in (
                p,
                pn,
                lost acts (moved reading t s) (T p) (T k) (own_value (A p)) written once lands
                    (λ e. differ k hit.1 (value_apart (A k) (T k) (sym now ∙ e ∙ ap own_value (to_before k hit.1)))),
              )
          | inr miss ↦
              let keeps : (a : ℕ) → a < n → T a ≢ t.to = λ a h e. miss a h (sym e) in
              broken acts (moved reading t s) (λ a h. moved_else reading t s (T a) (keeps a h) ∙ same a h)
              (λ a h. sym (count_no (writes (T a)) x acts (place_other (T a) t.to (keeps a h))) ∙ one a h)
              (λ a h. (from a h).1) some
        ]

  -- ## An argument that is never set aside goes straight

  module _ (l : length targets ≡ length args) (apart : AreDistinct targets) (i : ℕ) (inside : i < length args) (home : Place) (is : operand_at args i ≡ place home) where
    no_first : (b : Bool) (n : ℕ) → cond b (suc n) n ≡ 0 → (b ≡ false) × (n ≡ 0)
    no_first true n h = absurd (omega (arith, h))
    no_first false n h = (refl, h)

    goes_direct : (acts : List Act) → AllByRecursion (IsAct args (IsSpare args targets)) acts → count (sets_aside i) acts ≡ 0 → count (goes_on i) acts ≡ 0
        → (count (writes (place_at targets i)) acts ≡ count (evaluates i) acts) × AllByRecursion (From (place_at targets i) home) acts
    goes_direct [] all none stays = (refl, tt)
    goes_direct (direct k ∷ acts) all none stays =
        let rest = goes_direct acts all.1 none stays in
        elim (cases_eq k i) [
          | inl same ↦
              let yes_ = eq-eqb k i same in
              let hit : same_place (place_at targets i) (place_at targets k) ≡ true = place_same _ _ (ap (place_at targets) (sym same)) in
              (rw (yes_, hit) (ap suc rest.0), (λ e. ap (operand_at args) same ∙ is, rest.1))
          | inr other ↦
              let no_ = ne_eqb k i other in
              let off : place_at targets i ≢ place_at targets k =
              λ e. other (sym (apart i k (omega (arith, inside, l)) (let z = all.0 in omega (arith, z, l)) e)) in
              let miss = place_other _ _ off in (rw (no_, miss) rest.0, (λ e. absurd (off (sym e)), rest.1))
        ]
    goes_direct (aside k p ∷ acts) all none stays =
        let first_ = no_first (nat_eq k i) (count (sets_aside i) acts) none in
        let rest = goes_direct acts all.1 first_.1 stays in
        let off : place_at targets i ≢ p = (all.0.1 i inside).0 in
        let miss = place_other (place_at targets i) p off in
        (rw (first_.0, miss) rest.0, (λ e. absurd (off (sym e)), rest.1))
    goes_direct (across k p q ∷ acts) all none stays =
        let rest = goes_direct acts all.1 none stays in
        let off : place_at targets i ≢ q = (all.0.2 i inside).0 in
        let miss = place_other (place_at targets i) q off in
        (rw miss rest.0, (λ e. absurd (off (sym e)), rest.1))
    goes_direct (onward k p ∷ acts) all none stays =
        let first_ = no_first (nat_eq k i) (count (goes_on i) acts) stays in
        let rest = goes_direct acts all.1 none first_.1 in
        let off : place_at targets i ≢ place_at targets k =
        λ e. eqb-false k i first_.0 (sym (apart i k (omega (arith, inside, l)) (let z = all.0.0 in omega (arith, z, l)) e)) in
        let miss = place_other _ _ off in (rw miss rest.0, (λ e. absurd (off (sym e)), rest.1))

  some_positive : (f : ℕ → ℕ) (n : ℕ) → ((a : ℕ) × (a < n) × (1 ≤ f a)) ⊎ ((a : ℕ) → a < n → f a ≡ 0)
  some_positive f zero = inr (λ a h. absurd (omega (arith, h)))
  some_positive f (suc n) =
      elim (some_positive f n) [
        | inl found ↦ inl (found.0, let h = found.1 in omega (arith, h), found.2)
        | inr none ↦
            elim (cases_eq (f n) 0) [
              | inl here ↦ inr (λ a h. elim (cases_eq a n) [ inl e ↦ ap f e ∙ here | inr ne ↦ none a (omega (arith, h, ne)) ])
              | inr not_here ↦ inl (n, omega arith, omega (arith, not_here))
            ]
      ]

  module _ (l : length targets ≡ length args) (apart : AreDistinct targets) (members : List ℕ) (ring : IsRing args targets members) where
    abbrev member : ℕ → ℕ
    member a = get_or members a 0

    abbrev size : ℕ
    size = length members

    abbrev before : ℕ → ℕ
    before a = cond (nat_eq a 0) (size - 1) (a - 1)

    abbrev next : ℕ → ℕ
    next a = cond (nat_eq (a + 1) size) 0 (a + 1)

    abbrev T : ℕ → Place
    T a = place_at targets (member a)

    abbrev A : ℕ → Place
    A a = T (next a)

    before_in : (a : ℕ) → a < size → before a < size
    before_in a h = let two = ring.two in grind (arith, nat_tests)

    next_in : (a : ℕ) → a < size → next a < size
    next_in a h = let two = ring.two in grind (arith, nat_tests)

    next_before : (a : ℕ) → a < size → next (before a) ≡ a
    next_before zero h = let two = ring.two in let e : nat_eq ((size - 1) + 1) size ≡ true = eq-eqb _ _ (omega (arith, two)) in rw e refl
    next_before (suc a) h =
        let z : nat_eq (suc a) 0 ≡ false = ne_eqb _ _ (λ x. absurd (omega (arith, x))) in
        let e : nat_eq ((suc a - 1) + 1) size ≡ false = ne_eqb _ _ (λ x. absurd (omega (arith, x, h))) in
        let f : (suc a - 1) + 1 ≡ suc a = omega arith in rw (z, e) f

    next_differs : (a : ℕ) → a < size → next a ≢ a
    next_differs a h = let two = ring.two in grind (arith, nat_tests)

    holds : (a : ℕ) → a < size → operand_at args (member a) ≡ place (A a)
    holds a h =
        elim (cases_eq (a + 1) size) [
          | inl last ↦
              let start = eq-eqb (a + 1) size last in
              let end : a ≡ size - 1 = omega (arith, last) in rw (start, end) ring.closes
          | inr more ↦ let step = ne_eqb (a + 1) size more in rw step (ring.links a (omega (arith, h, more)))
        ]

    differ : (a : ℕ) → a < size → A a ≢ T a
    differ a h e =
        let x = ring.within (next a) (next_in a h) in
        let y = ring.within a h in
        next_differs a h (ring.distinct (next a) a (next_in a h) h (apart (member (next a)) (member a) (omega (arith, x, l)) (omega (arith, y, l)) e))

    -- some member is set aside
    pub sets_one_aside : (acts : List Act) → IsPlan args (IsSpare args targets) acts → AlwaysAssigns args targets (transfers args targets acts)
        → (a : ℕ) × (a < size) × (1 ≤ count (sets_aside (member a)) acts)
    sets_one_aside acts plan realizes =
        elim (some_positive (λ a. count (sets_aside (member a)) acts) size) [
          | inl found ↦ found
          | inr none ↦
              let straight_ : (a : ℕ) → a < size → (count (writes (T a)) acts ≡ count (evaluates (member a)) acts) × AllByRecursion (From (T a) (A a)) acts =
              let each = recursion_from_All (IsAct args (IsSpare args targets)) acts plan.each in
              λ a h. goes_direct l apart (member a) (ring.within a h) (A a) (holds a h) acts each (none a h) (plan.onward (member a) (ring.within a h) (none a h)) in
              let bad = broken size T A before next before_in next_in (λ a h. ap T (next_before a h)) (λ a h. refl) differ acts own_value (λ a h. refl)
              (λ a h. (straight_ a h).0 ∙ plan.once (member a) (ring.within a h)) (λ a h. (straight_ a h).1) (let two = ring.two in omega (arith, two)) in
              absurd (bad.2 (realizes reading own_value (member bad.0) (ring.within bad.0 bad.1) ∙ ap (given reading own_value) (holds bad.0 bad.1)))
        ]
