-- As many temporaries as rings.
use Rattle.std.proofs.Common.{◌≡◌, ℕ, zero, suc, ◌+◌, ◌-◌, ◌<◌, ◌≤◌, Bool, true, false, List, [], ◌∷◌, length, refl, ap, sym, ◌∙◌, arith, inl, inr, get_or}
use Rattle.std.proofs.lemmas.Bool.{cases_eq, cases_lt, ne_eqb, cases_Bool}
use Rattle.sch_word.specs.trees.Bindings.{numbers}
use Rattle.sch_word.specs.trees.NumberSets.{has}
use Rattle.sch_word.specs.declared.place.Place.{Place}
use Rattle.sch_word.proofs.facts.NumberSets.{in_more}
use Rattle.sch_shuffle.specs.Tree.{Tree}
use Rattle.sch_shuffle.specs.Assignment.{AreDistinct, temps}
use Rattle.sch_shuffle.specs.Plans.{Act, direct, aside, across, onward, transfers, sets_aside, count, NeedsTemporaries}
use Rattle.sch_shuffle.specs.Greedy.{uses_target}
use Rattle.std.specs.Fn.{iterate}
use Rattle.sch_shuffle.specs.CycleSearch.{successor, path, ring, is_ring, all_rings}
use Rattle.sch_shuffle.proofs.WaitingArguments.{Once, below_in, in_first, in_rest, rising_numbers, below_numbers}
use Rattle.sch_shuffle.proofs.Paths.{path_at, length_path, iter_add, Back, ring_cases}
use Rattle.sch_shuffle.proofs.ExactCycles.{length_le, where_in, ring_is, rings_sound, rings_rise}
use Rattle.sch_shuffle.proofs.RingNeedsTemporary.{sets_one_aside}

-- ## Whose value goes to a temporary

abbrev pub asides : List Act → List ℕ
asides [] = []
asides (direct k ∷ list) = asides list
asides (aside k p ∷ list) = k ∷ asides list
asides (across k p q ∷ list) = k ∷ asides list
asides (onward k p ∷ list) = asides list

pub temps_asides : (args : List Tree) (targets : List Place) (list : List Act) → temps (transfers args targets list) ≡ length (asides list)
temps_asides args targets [] = refl
temps_asides args targets (direct k ∷ list) = temps_asides args targets list
temps_asides args targets (aside k p ∷ list) = ap suc (temps_asides args targets list)
temps_asides args targets (across k p q ∷ list) = ap suc (temps_asides args targets list)
temps_asides args targets (onward k p ∷ list) = temps_asides args targets list

counted_in : (list : List Act) (i : ℕ) → 1 ≤ count (sets_aside i) list → has i (asides list) ≡ true
counted_in [] i h = absurd (omega (arith, h))
counted_in (direct k ∷ list) i h = counted_in list i h
counted_in (onward k p ∷ list) i h = counted_in list i h
counted_in (across k p q ∷ list) i h = in_more i k (asides list) (counted_in list i h)
counted_in (aside k p ∷ list) i h =
    elim (cases_eq k i) [
      | inl same ↦ in_first k i (asides list) same
      | inr other ↦ let no_ = ne_eqb k i other in in_more i k (asides list) (counted_in list i (rw no_ at h))
    ]

pub in_at_index : (js : List ℕ) (a j : ℕ) → a < length js → get_or js a 0 ≡ j → has j js ≡ true
in_at_index [] a j h e = absurd (omega (arith, h))
in_at_index (i ∷ js) zero j h e = in_first i j js e
in_at_index (i ∷ js) (suc a) j h e = in_more j i js (in_at_index js a j (omega (arith, h)) e)

-- ## At least as many

abbrev Apart : List (List ℕ) → Type 0
Apart rs = (a b : ℕ) → a < b → b < length rs → (v : ℕ) → has v (get_or rs a []) ≡ true → has v (get_or rs b []) ≡ true → ⊥

picked : (rs : List (List ℕ)) (P : ℕ → Type 0) → Apart rs → ((a : ℕ) → a < length rs → (v : ℕ) × (has v (get_or rs a []) ≡ true) × P v)
    → (zs : List ℕ) × (length zs ≡ length rs) × Once zs
    × ((j : ℕ) → has j zs ≡ true → P j × ((a : ℕ) × (a < length rs) × (has j (get_or rs a []) ≡ true)))
picked [] P apart each = ([], refl, tt, λ j e. absurd (cc))
picked (r ∷ rs) P apart each =
    let first_ = each 0 (omega arith) in
    let rest = picked rs P (λ a b h k. apart (suc a) (suc b) (omega (arith, h)) (omega (arith, k))) (λ a h. each (suc a) (omega (arith, h))) in
    let off : has first_.0 rest.0 ≡ false = elim (cases_Bool (has first_.0 rest.0)) [
      | inl there ↦ let w = rest.3 first_.0 there in absurd (apart 0 (suc w.1.0) (omega arith) (let z = w.1.1 in omega (arith, z)) first_.0 first_.1 w.1.2)
      | inr not_ ↦ not_
    ] in (
      first_.0 ∷ rest.0,
      let e = rest.1 in omega (arith, e),
      (off, rest.2),
      λ j e. elim (cases_eq first_.0 j) [
        | inl same ↦ rw (← same) (first_.2, (0, omega arith, first_.1))
        | inr other ↦
            let w = rest.3 j (in_rest first_.0 j rest.0 other e) in (w.0, (suc w.1.0, (let z = w.1.1 in omega (arith, z)), w.1.2))
      ],
    )

module _ (args : List Tree) (targets : List Place) (l : length targets ≡ length args) (apart : AreDistinct targets) where
  abbrev n : ℕ
  n = length targets

  abbrev S : ℕ → ℕ
  S = successor args targets

  abbrev W : ℕ → ℕ → Bool
  W = uses_target args targets

  -- nobody on the way of a ring comes before its start
  no_earlier : (fuel c k m : ℕ) → Back S n k m k → c ≤ fuel → k ≤ iterate S c k
  no_earlier zero c k m back h = let z : c ≡ 0 = omega (arith, h) in rw z (omega arith)
  no_earlier (suc fuel) c k m back h =
      elim (cases_lt c m) [
        | inl less ↦ elim (cases_eq c 0) [ inl z ↦ rw z (omega arith) | inr nz ↦ let w = back.later c (omega (arith, nz)) less in let x = w.0 in omega (arith, x) ]
        | inr more ↦
            let some = back.some in
            let e : m + (c - m) ≡ c = omega (arith, more) in
            let same : iterate S c k ≡ iterate S (c - m) k = ap (λ a. iterate S a k) (sym e) ∙ iter_add S m (c - m) k ∙ ap (iterate S (c - m)) back.back in
            let rest = no_earlier fuel (c - m) k m back (omega (arith, h, some, more)) in omega (arith, same, rest)
      ]

  in_path : (m x v : ℕ) → has v (path S m x) ≡ true → (a : ℕ) × (a < m) × (iterate S a x ≡ v)
  in_path m x v e =
      let w = where_in (path S m x) v e in
      let len = length_path S m x in
      let h : w.0 < m = let z = w.1 in omega (arith, z, len) in (w.0, h, sym (path_at S m x w.0 0 h) ∙ w.2)

  -- rings that start at different arguments have none in common
  rings_apart : (i j v : ℕ) → i < j → j < n → is_ring (ring S n i) ≡ true → is_ring (ring S n j) ≡ true → has v (ring S n i) ≡ true → has v (ring S n j) ≡ true → ⊥
  rings_apart i j v lt jn hi hj vi vj =
      elim (ring_cases S n i (omega (arith, lt, jn))) [
        | inl none ↦ let bad : is_ring (ring S n i) ≡ false = rw none refl in let both : true ≡ false = sym hi ∙ bad in cc
        | inr fi ↦
            elim (ring_cases S n j jn) [
              | inl none ↦ let bad : is_ring (ring S n j) ≡ false = rw none refl in let both : true ≡ false = sym hj ∙ bad in cc
              | inr fj ↦
                  let a = in_path fi.0 i v (rw fi.2 at vi) in
                  let b = in_path fj.0 j v (rw fj.2 at vj) in
                  let rest : ℕ = fi.0 - a.0 in
                  let e : a.0 + rest ≡ fi.0 = let z = a.1 in omega (arith, z) in
                  let home : iterate S rest v ≡ i = ap (iterate S rest) (sym a.2) ∙ sym (iter_add S a.0 rest i) ∙ ap (λ c. iterate S c i) e ∙ fi.1.back in
                  let way : iterate S (b.0 + rest) j ≡ i = iter_add S b.0 rest j ∙ ap (iterate S rest) b.2 ∙ home in
                  let late = no_earlier (b.0 + rest) (b.0 + rest) j fj.0 fj.1 (omega arith) in omega (arith, way, late, lt)
            ]
      ]

  pub at_least : NeedsTemporaries args targets (length (all_rings args targets))
  at_least list plan realizes =
      let rs : List (List ℕ) = all_rings args targets in
      let below = below_numbers n 0 n (omega arith) in
      let far : Apart rs =
      λ a b lt h v x y.
      let f = rings_rise args targets l apart (numbers 0 n) (rising_numbers n 0) a b lt h in
      rings_apart f.0 f.1 v f.2 (below_in n (numbers 0 n) below f.1 f.3) f.6 f.7 (rw f.4 at x) (rw f.5 at y) in
      let zs = picked rs (λ v. has v (asides list) ≡ true) far (λ a h.
      let f = rings_sound args targets l apart (numbers 0 n) a h in
      let is = (ring_is args targets l apart f.0 (below_in n (numbers 0 n) below f.0 f.1) f.2).0 in
      let one = sets_one_aside args targets l apart (ring S n f.0) is list plan realizes in
      (get_or (ring S n f.0) one.0 0, rw f.3 (in_at_index (ring S n f.0) one.0 (get_or (ring S n f.0) one.0 0) one.1 refl), counted_in list _ one.2)) in
      let few_ = length_le zs.0 (asides list) zs.2 (λ j e. (zs.3 j e).0) in
      let t = temps_asides args targets list in
      let z = zs.1 in omega (arith, few_, t, z)
