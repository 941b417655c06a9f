-- The rings that are found are exactly the rings that there are.
use Rattle.std.proofs.Common.{◌≡◌, ◌≢◌, ℕ, zero, suc, ◌+◌, ◌-◌, ◌<◌, ◌≤◌, Bool, true, false, List, [], ◌∷◌, length, refl, ap, sym, ◌∙◌, arith, inl, inr, ◌⊎◌, get_or}
use Rattle.std.specs.Prelude.{nat_lt}
use Rattle.std.proofs.lemmas.Bool.{cases_eq, cases_lt, cases_Bool}
use Rattle.std.proofs.lemmas.Bool.Decides.{nat_tests}
use Rattle.std.proofs.lemmas.List.{same_lists, length-map, get_or_default, get_or-map}
use Rattle.sch_word.specs.trees.Bindings.{numbers}
use Rattle.sch_word.specs.trees.NumberSets.{has}
use Rattle.sch_word.specs.declared.place.Place.{Place}
use Rattle.sch_word.specs.declared.place.Place.TheVariants.{Reg}
use Rattle.sch_word.proofs.facts.NumberSets.{in_here, in_more, numbers_length}
use Rattle.sch_shuffle.specs.Tree.{Tree, place, fixed, literal, read}
use Rattle.sch_word.specs.values.Places.{same_place}
use Rattle.sch_shuffle.specs.Assignment.{operand_at, place_at, AreDistinct}
use Rattle.sch_shuffle.specs.Greedy.{remove_first}
use Rattle.sch_shuffle.specs.Cycles.{IsRing, AreTheCycles}
use Rattle.std.specs.Fn.{iterate}
use Rattle.sch_shuffle.specs.CycleSearch.{stands_in, first, successor, path, ring, is_ring, rings, all_rings, places_at, cycles}
use Rattle.sch_shuffle.proofs.WaitingArguments.{Rising, Once, in_rest, is_above, below_in, length_remove_first, remove_first_other, in_numbers, rising_numbers, below_numbers, rising_rest}
use Rattle.sch_word.proofs.facts.Places.{place_same, places_same}
use Rattle.sch_shuffle.proofs.Paths.{first_found, Back, length_path, path_at, iter_suc, walks_back, all_differ, ring_walk, ring_cases}

-- ## Lists without repetition

pub length_le : (xs ys : List ℕ) → Once xs → ((j : ℕ) → has j xs ≡ true → has j ys ≡ true) → length xs ≤ length ys
length_le [] ys o h = omega arith
length_le (x ∷ xs) ys o h =
    let inside : has x ys ≡ true = h x (in_here x xs) in
    let less = length_remove_first x ys inside in
    let rest = length_le xs (remove_first x ys) o.1 (λ j e.
    let ne : j ≢ x = λ same. absurd (let bad : has x xs ≡ true = ap (λ i. has i xs) (sym same) ∙ e in let both : true ≡ false = sym bad ∙ o.0 in cc) in
    remove_first_other j x ys ne ∙ h j (in_more j x xs e)) in
    omega (arith, less, rest)

pub few : (n : ℕ) (xs : List ℕ) → Once xs → ((j : ℕ) → has j xs ≡ true → j < n) → length xs ≤ n
few n xs o h =
    let l = length_le xs (numbers 0 n) o (λ j e. in_numbers n 0 j (omega arith) (let k = h j e in omega (arith, k))) in
    let m = numbers_length 0 n in omega (arith, l, m)

pub where_in : (js : List ℕ) (j : ℕ) → has j js ≡ true → (a : ℕ) × (a < length js) × (get_or js a 0 ≡ j)
where_in [] j e = absurd (cc)
where_in (i ∷ js) j e =
    elim (cases_eq i j) [
      | inl same ↦ (0, omega arith, same)
      | inr other ↦ let w = where_in js j (in_rest i j js other e) in (suc w.0, omega (arith, w.1), w.2)
    ]

pub once_from : (js : List ℕ) → ((a b : ℕ) → a < length js → b < length js → get_or js a 0 ≡ get_or js b 0 → a ≡ b) → Once js
once_from [] h = tt
once_from (j ∷ js) h = (
  elim (cases_Bool (has j js)) [
    | inl there ↦ let w = where_in js j there in absurd (let bad = h 0 (suc w.0) (omega arith) (omega (arith, w.1)) (sym w.2) in omega (arith, bad))
    | inr not_there ↦ not_there
  ],
  once_from js (λ a b x y e. let s = h (suc a) (suc b) (omega (arith, x)) (omega (arith, y)) e in omega (arith, s)),
)

-- ## Successors

first_only : (test : ℕ → Bool) (c j k : ℕ) → j ≤ k → k < j + c → test k ≡ true → ((i : ℕ) → j ≤ i → i < j + c → test i ≡ true → i ≡ k) → first test c j ≡ k
first_only test zero j k l h t only = absurd (omega (arith, l, h))
first_only test (suc c) j k l h t only =
    elim (cases_eq j k) [
      | inl same ↦ let t' : test j ≡ true = ap test same ∙ t in rw t' same
      | inr other ↦
          let no_ : test j ≡ false = elim (cases_Bool (test j)) [ inl y ↦ absurd (other (only j (omega arith) (omega arith) y)) | inr n ↦ n ] in
          rw no_ (first_only test c (j + 1) k (omega (arith, l, other)) (omega (arith, h)) t (λ i a b e. only i (omega (arith, a)) (omega (arith, b)) e))
    ]

stands_true : (x : Tree) (p : Place) → stands_in x p ≡ true → x ≡ place p
stands_true (place q) p h = ap place (places_same q p h)
stands_true (fixed n) p h = absurd (cc)
stands_true (literal k) p h = absurd (cc)
stands_true (read primitive xs) p h = absurd (cc)

module _ (args : List Tree) (targets : List Place) (l : length targets ≡ length args) (apart : AreDistinct targets) where
  abbrev n : ℕ
  n = length targets

  abbrev S : ℕ → ℕ
  S = successor args targets

  pub successor_holds : (i : ℕ) → S i < n → operand_at args i ≡ place (place_at targets (S i))
  successor_holds i lt = stands_true (operand_at args i) (place_at targets (S i)) (first_found (λ j. stands_in (operand_at args i) (place_at targets j)) n 0 (omega (arith, lt)))

  pub successor_is : (i j : ℕ) → j < n → operand_at args i ≡ place (place_at targets j) → S i ≡ j
  successor_is i j lt e =
      let same : (a : ℕ) → stands_in (operand_at args i) (place_at targets a) ≡ same_place (place_at targets j) (place_at targets a) = λ a. ap (λ x. stands_in x (place_at targets a)) e in
      first_only (λ a. stands_in (operand_at args i) (place_at targets a)) n 0 j (omega arith) (omega (arith, lt))
      (same j ∙ place_same (place_at targets j) (place_at targets j) refl)
      (λ a x y h. apart a j (omega (arith, y)) lt (sym (places_same (place_at targets j) (place_at targets a) (sym (same a) ∙ h))))

  -- ## Rings

  pub ring_sound : (k m : ℕ) → k < n → Back S n k m k → 2 ≤ m → IsRing args targets (path S m k)
  ring_sound k m kn back two =
      let at : (a : ℕ) → a < m → get_or (path S m k) a 0 ≡ iterate S a k = λ a h. path_at S m k a 0 h in
      let len : length (path S m k) ≡ m = length_path S m k in
      let small : (a : ℕ) → a < m → iterate S a k < n =
      λ a h. elim (cases_eq a 0) [ inl z ↦ rw z kn | inr nz ↦ (back.later a (omega (arith, nz)) h).1 ] in
      let not_less : (a b : ℕ) → a < m → b < m → iterate S a k ≡ iterate S b k → a < b → ⊥ = λ a b x y e h. all_differ S n k m back a b h y e in
      record {
        two = omega (arith, len, two);
        within = λ a h. let e = at a (omega (arith, h, len)) in let s = small a (omega (arith, h, len)) in omega (arith, e, s, l);
        distinct = λ a b x y e.
            let same : iterate S a k ≡ iterate S b k = sym (at a (omega (arith, x, len))) ∙ e ∙ at b (omega (arith, y, len)) in
            elim (cases_lt a b) [
              | inl less ↦ absurd (not_less a b (omega (arith, x, len)) (omega (arith, y, len)) same less)
              | inr not_ ↦ elim (cases_eq a b) [
                | inl yes_ ↦ yes_
                | inr other ↦ absurd (not_less b a (omega (arith, y, len)) (omega (arith, x, len)) (sym same) (omega (arith, not_, other)))
              ]
            ];
        links = λ a h.
            let next : S (iterate S a k) ≡ iterate S (a + 1) k = sym (iter_suc S a k) ∙ ap (λ c. iterate S c k) (plus a) in
            let there : S (iterate S a k) < n = let s = small (a + 1) (omega (arith, h, len)) in omega (arith, next, s) in
            ap (operand_at args) (at a (omega (arith, h, len))) ∙ successor_holds (iterate S a k) there
            ∙ ap (λ c. place (place_at targets c)) (next ∙ sym (at (a + 1) (omega (arith, h, len))));
        closes =
            let last : ℕ = length (path S m k) - 1 in
            let next : S (iterate S last k) ≡ k = sym (iter_suc S last k) ∙ ap (λ c. iterate S c k) (minus m last (omega (arith, len)) two) ∙ back.back in
            let there : S (iterate S last k) < n = omega (arith, next, kn) in
            ap (operand_at args) (at last (omega (arith, len, two))) ∙ successor_holds (iterate S last k) there
            ∙ ap (λ c. place (place_at targets c)) (next ∙ sym (at 0 (omega (arith, two))));
        least = λ a h.
            let e = at a (omega (arith, h, len)) in
            let f = at 0 (omega (arith, two)) in
            elim (cases_eq a 0) [ inl z ↦ rw z (omega arith) | inr nz ↦ let s = back.later a (omega (arith, nz)) (omega (arith, h, len)) in omega (arith, e, f, s.0) ];
      }
    where
      plus : (a : ℕ) → suc a ≡ a + 1
      plus a = omega arith

      minus : (m last : ℕ) → last ≡ m - 1 → 2 ≤ m → suc last ≡ m
      minus m last e t = omega (arith, e, t)

  module _ (ks : List ℕ) (is : IsRing args targets ks) where
    abbrev k : ℕ
    k = get_or ks 0 0

    iterated : (a : ℕ) → a < length ks → iterate S a k ≡ get_or ks a 0
    iterated zero h = refl
    iterated (suc a) h =
        let e : suc a ≡ a + 1 = omega arith in
        let before = iterated a (omega (arith, h)) in
        let w = is.within (a + 1) (omega (arith, h)) in
        let next = successor_is (get_or ks a 0) (get_or ks (a + 1) 0) (omega (arith, w, l)) (is.links a (omega (arith, h))) in
        iter_suc S a k ∙ ap S before ∙ next ∙ ap (λ c. get_or ks c 0) (sym e)

    pub ring_complete : (k < n) × Back S n k (length ks) k × (ks ≡ path S (length ks) k)
    ring_complete =
        let two = is.two in
        let last : ℕ = length ks - 1 in
        let first_ = is.within 0 (omega (arith, two)) in
        let home : S (get_or ks last 0) ≡ k = successor_is (get_or ks last 0) k (omega (arith, first_, l)) is.closes in
        let e : length ks ≡ suc last = omega (arith, two) in (
          omega (arith, first_, l),
          record {
            some = omega (arith, two);
            back = ap (λ c. iterate S c k) e ∙ iter_suc S last k ∙ ap S (iterated last (omega (arith, two))) ∙ home;
            later = λ a h x.
                let at = iterated a x in
                let low = is.least a x in
                let w = is.within a x in
                let ne : get_or ks 0 0 ≢ get_or ks a 0 = λ same. absurd (let z = is.distinct 0 a (omega (arith, two)) x same in omega (arith, z, h)) in
                (omega (arith, at, low, ne), omega (arith, at, w, l));
          },
          same_lists ks (path S (length ks) k) (sym (length_path S (length ks) k))
              (λ a d h. get_or_default ks a d 0 h ∙ sym (iterated a h) ∙ sym (path_at S (length ks) k a d h)),
        )

    pub ring_small : length ks ≤ n
    ring_small =
        let o = once_from ks is.distinct in
        few n ks o (λ j e. let w = where_in ks j e in let x = is.within w.0 w.1 in omega (arith, x, w.2, l))

    pub ring_found_again : ring S n k ≡ ks
    ring_found_again =
        let c = ring_complete in
        ring_walk S n k c.0 ∙ walks_back S n k n [] (length ks) k c.1 ring_small ∙ sym c.2

  -- what is found from k is a ring, if it is two or more
  pub ring_is : (k : ℕ) → k < n → is_ring (ring S n k) ≡ true → IsRing args targets (ring S n k) × (get_or (ring S n k) 0 0 ≡ k)
  ring_is k kn h =
      elim (ring_cases S n k kn) [
        | inl none ↦ absurd (let bad : is_ring (ring S n k) ≡ false = rw none refl in let both : true ≡ false = sym h ∙ bad in cc)
        | inr found ↦
            let two : 2 ≤ found.0 =
            let t : nat_lt 1 (length (path S found.0 k)) ≡ true = rw found.2 at h in
            let len = length_path S found.0 k in
            let u : 1 < length (path S found.0 k) = grind (arith, nat_tests, t) in omega (arith, u, len) in
            rw found.2 (ring_sound k found.0 kn found.1 two, path_at S found.0 k 0 0 (omega (arith, two)))
      ]

  -- ## All of them

  pub rings_sound : (ks : List ℕ) (a : ℕ) → a < length (rings S n ks)
      → (k : ℕ) × (has k ks ≡ true) × (is_ring (ring S n k) ≡ true) × (get_or (rings S n ks) a [] ≡ ring S n k)
  rings_sound [] a h = absurd (omega (arith, h))
  rings_sound (k ∷ ks) a h = go (cases_Bool (is_ring (ring S n k))) (rings_sound ks)
    where
      here : has k (k ∷ ks) ≡ true
      here = in_here k ks

      go : ((is_ring (ring S n k) ≡ true) ⊎ (is_ring (ring S n k) ≡ false))
          → ((a : ℕ) → a < length (rings S n ks) → (j : ℕ) × (has j ks ≡ true) × (is_ring (ring S n j) ≡ true) × (get_or (rings S n ks) a [] ≡ ring S n j))
          → (j : ℕ) × (has j (k ∷ ks) ≡ true) × (is_ring (ring S n j) ≡ true) × (get_or (rings S n (k ∷ ks)) a [] ≡ ring S n j)
      go (inr no_) rest = let f = rest a (rw no_ at h) in (f.0, in_more f.0 k ks f.1, f.2, rw no_ f.3)
      go (inl yes_) rest = at_ a (rw yes_ at h)
        where
          at_ : (b : ℕ) → b < suc (length (rings S n ks)) → (j : ℕ) × (has j (k ∷ ks) ≡ true) × (is_ring (ring S n j) ≡ true) × (get_or (rings S n (k ∷ ks)) b [] ≡ ring S n j)
          at_ zero x = (k, here, yes_, rw yes_ refl)
          at_ (suc b) x = let f = rest b (omega (arith, x)) in (f.0, in_more f.0 k ks f.1, f.2, rw yes_ f.3)

  pub rings_complete : (ks : List ℕ) (k : ℕ) → has k ks ≡ true → is_ring (ring S n k) ≡ true
      → (a : ℕ) × (a < length (rings S n ks)) × (get_or (rings S n ks) a [] ≡ ring S n k)
  rings_complete [] k e h = absurd (cc)
  rings_complete (j ∷ ks) k e h =
      elim (cases_eq j k) [
        | inl same ↦ let yes_ : is_ring (ring S n j) ≡ true = ap (λ i. is_ring (ring S n i)) same ∙ h in (0, rw yes_ (omega arith), rw yes_ (ap (ring S n) same))
        | inr other ↦
            let f = rings_complete ks k (in_rest j k ks other e) h in
            elim (cases_Bool (is_ring (ring S n j))) [
              | inl yes_ ↦ (suc f.0, rw yes_ (omega (arith, f.1)), rw yes_ f.2)
              | inr not_ ↦ (f.0, rw not_ f.1, rw not_ f.2)
            ]
      ]

  -- those that come later have greater starts
  pub rings_rise : (ks : List ℕ) → Rising ks → (a b : ℕ) → a < b → b < length (rings S n ks)
      → (i j : ℕ) × (i < j) × (has j ks ≡ true) × (get_or (rings S n ks) a [] ≡ ring S n i) × (get_or (rings S n ks) b [] ≡ ring S n j)
      × (is_ring (ring S n i) ≡ true) × (is_ring (ring S n j) ≡ true)
  rings_rise [] r a b lt h = absurd (omega (arith, h))
  rings_rise (k ∷ ks) r a b lt h = go (cases_Bool (is_ring (ring S n k))) (rings_rise ks (rising_rest k ks r))
    where
      go : ((is_ring (ring S n k) ≡ true) ⊎ (is_ring (ring S n k) ≡ false))
          → ((a b : ℕ) → a < b → b < length (rings S n ks) → (i j : ℕ) × (i < j) × (has j ks ≡ true) × (get_or (rings S n ks) a [] ≡ ring S n i) × (get_or (rings S n ks) b [] ≡ ring S n j)
          × (is_ring (ring S n i) ≡ true) × (is_ring (ring S n j) ≡ true))
          → (i j : ℕ) × (i < j) × (has j (k ∷ ks) ≡ true) × (get_or (rings S n (k ∷ ks)) a [] ≡ ring S n i) × (get_or (rings S n (k ∷ ks)) b [] ≡ ring S n j)
          × (is_ring (ring S n i) ≡ true) × (is_ring (ring S n j) ≡ true)
      go (inr no_) rest =
          let f = rest a b lt (rw no_ at h) in (f.0, f.1, f.2, in_more f.1 k ks f.3, rw no_ f.4, rw no_ f.5, f.6, f.7)
      go (inl yes_) rest = at_ a b lt (rw yes_ at h)
        where
          at_ : (a b : ℕ) → a < b → b < suc (length (rings S n ks))
              → (i j : ℕ) × (i < j) × (has j (k ∷ ks) ≡ true) × (get_or (rings S n (k ∷ ks)) a [] ≡ ring S n i) × (get_or (rings S n (k ∷ ks)) b [] ≡ ring S n j)
              × (is_ring (ring S n i) ≡ true) × (is_ring (ring S n j) ≡ true)
          at_ a zero x y = absurd (omega (arith, x))
          at_ zero (suc b) x y =
              let f = rings_sound ks b (omega (arith, y)) in
              (k, f.0, is_above k ks r f.0 f.1, in_more f.0 k ks f.1, rw yes_ refl, rw yes_ f.3, yes_, f.2)
          at_ (suc a) (suc b) x y =
              let f = rest a b (omega (arith, x)) (omega (arith, y)) in (f.0, f.1, f.2, in_more f.1 k ks f.3, rw yes_ f.4, rw yes_ f.5, f.6, f.7)

  starts : (k : ℕ) → k < n → is_ring (ring S n k) ≡ true → place_at (places_at targets (ring S n k)) 0 ≡ place_at targets k
  starts k kn h =
      let r = ring_is k kn h in
      get_or-map (place_at targets) (ring S n k) 0 0 (Reg 0) (let t = r.0.two in omega (arith, t)) ∙ ap (place_at targets) r.1

  pub the_cycles : AreTheCycles args targets (cycles args targets)
  the_cycles =
      let rs : List (List ℕ) = all_rings args targets in
      let below = below_numbers n 0 n (omega arith) in
      let rising = rising_numbers n 0 in
      let len : length (cycles args targets) ≡ length rs = length-map rs (places_at targets) in
      record {
        sound = λ a h.
            let x : a < length rs = omega (arith, h, len) in
            let f = rings_sound (numbers 0 n) a x in
            let kn = below_in n (numbers 0 n) below f.0 f.1 in
            (ring S n f.0, (ring_is f.0 kn f.2).0, get_or-map (places_at targets) rs a [] [] x ∙ ap (places_at targets) f.3);
        complete = λ c h.
            let again = ring_found_again h.0 h.1 in
            let whole = ring_complete h.0 h.1 in
            let yes_ : is_ring (ring S n (get_or h.0 0 0)) ≡ true =
            ap is_ring again ∙ (let t = h.1.two in grind (arith, nat_tests, t)) in
            let f = rings_complete (numbers 0 n) (get_or h.0 0 0) (in_numbers n 0 _ (omega arith) (let w = whole.0 in omega (arith, w))) yes_ in
            (f.0, omega (arith, f.1, len), get_or-map (places_at targets) rs f.0 [] [] f.1 ∙ ap (places_at targets) (f.2 ∙ again) ∙ sym h.2);
        once = λ a b lt h e.
            let y : b < length rs = omega (arith, h, len) in
            let x : a < length rs = omega (arith, y, lt) in
            let f = rings_rise (numbers 0 n) rising a b lt y in
            let jn = below_in n (numbers 0 n) below f.1 f.3 in
            let i_n : f.0 < n = let z = f.2 in omega (arith, z, jn) in
            let first_i = ring_is f.0 i_n f.6 in
            let first_j = ring_is f.1 jn f.7 in
            let same : places_at targets (ring S n f.0) ≡ places_at targets (ring S n f.1) =
            ap (places_at targets) (sym f.4) ∙ sym (get_or-map (places_at targets) rs a [] [] x) ∙ e ∙ get_or-map (places_at targets) rs b [] [] y ∙ ap (places_at targets) f.5 in
            let heads : place_at targets (get_or (ring S n f.0) 0 0) ≡ place_at targets (get_or (ring S n f.1) 0 0) =
            sym (get_or-map (place_at targets) (ring S n f.0) 0 0 (place_at targets 0) (let t = first_i.0.two in omega (arith, t)))
            ∙ ap (λ xs. get_or xs 0 (place_at targets 0)) same
            ∙ get_or-map (place_at targets) (ring S n f.1) 0 0 (place_at targets 0) (let t = first_j.0.two in omega (arith, t)) in
            let equal_ = apart f.0 f.1 i_n jn (ap (place_at targets) (sym first_i.1) ∙ heads ∙ ap (place_at targets) first_j.1) in
            let z = f.2 in omega (arith, z, equal_);
        ordered = λ a b lt h.
            let y : b < length rs = omega (arith, h, len) in
            let x : a < length rs = omega (arith, y, lt) in
            let f = rings_rise (numbers 0 n) rising a b lt y in
            let jn = below_in n (numbers 0 n) below f.1 f.3 in
            let i_n : f.0 < n = let z = f.2 in omega (arith, z, jn) in (
              f.0,
              f.1,
              f.2,
              omega (arith, jn, l),
              ap (λ c. place_at c 0) (get_or-map (places_at targets) rs a [] [] x ∙ ap (places_at targets) f.4) ∙ starts f.0 i_n f.6,
              ap (λ c. place_at c 0) (get_or-map (places_at targets) rs b [] [] y ∙ ap (places_at targets) f.5) ∙ starts f.1 jn f.7,
            );
      }
