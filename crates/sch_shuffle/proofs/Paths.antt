-- Paths from argument to argument, and the walk that finds those that come back to their start.
use Rattle.std.proofs.Common.{◌≡◌, ◌≢◌, ℕ, zero, suc, ◌+◌, ◌-◌, ◌<◌, ◌≤◌, Bool, true, false, cond, List, [], ◌∷◌, ◌++◌, length, refl, ap, sym, ◌∙◌, arith, inl, inr, ◌⊎◌, get_or}
use Rattle.std.specs.Prelude.{◌&&◌, nat_eq, nat_le, nat_lt}
use Rattle.std.specs.List.{list_all}
use Rattle.std.proofs.lemmas.Bool.{cases_eq, eq-eqb, eqb-true, ne_eqb, cases_Bool}
use Rattle.std.proofs.lemmas.Bool.Decides.{nat_tests}
use Rattle.std.proofs.lemmas.List.{append_assoc}
use Rattle.sch_word.proofs.facts.Booleans.{and_of, and_left, and_right}
use Rattle.std.specs.Fn.{iterate}
use Rattle.sch_shuffle.specs.CycleSearch.{first, path, period, within, ring}

-- ## The first number that passes

pub first_found : (test : ℕ → Bool) (c j : ℕ) → first test c j < j + c → test (first test c j) ≡ true
first_found test zero j lt = absurd (omega (arith, lt))
first_found test (suc c) j lt = go (test j) refl lt (λ l. first_found test c (j + 1) l)
  where
    go : (b : Bool) → test j ≡ b → cond b j (first test c (j + 1)) < j + suc c
        → (first test c (j + 1) < (j + 1) + c → test (first test c (j + 1)) ≡ true) → test (cond b j (first test c (j + 1))) ≡ true
    go true e l h = e
    go false e l h = h (omega (arith, l))

pub first_from : (test : ℕ → Bool) (c j : ℕ) → j ≤ first test c j
first_from test zero j = omega arith
first_from test (suc c) j = go (test j) (first_from test c (j + 1))
  where
    go : (b : Bool) → j + 1 ≤ first test c (j + 1) → j ≤ cond b j (first test c (j + 1))
    go true h = omega arith
    go false h = omega (arith, h)

pub first_earlier : (test : ℕ → Bool) (c j i : ℕ) → j ≤ i → i < first test c j → test i ≡ false
first_earlier test zero j i l h = absurd (omega (arith, l, h))
first_earlier test (suc c) j i l h = go (test j) refl h (λ a b. first_earlier test c (j + 1) i a b)
  where
    go : (b : Bool) → test j ≡ b → i < cond b j (first test c (j + 1)) → (j + 1 ≤ i → i < first test c (j + 1) → test i ≡ false) → test i ≡ false
    go true e h rest = absurd (omega (arith, l, h))
    go false e h rest = elim (cases_eq j i) [ inl same ↦ ap test (sym same) ∙ e | inr other ↦ rest (omega (arith, l, other)) h ]

pub first_is : (test : ℕ → Bool) (c j k : ℕ) → j ≤ k → k < j + c → test k ≡ true → ((i : ℕ) → j ≤ i → i < k → test i ≡ false) → first test c j ≡ k
first_is test zero j k l h t none = absurd (omega (arith, l, h))
first_is test (suc c) j k l h t none =
    elim (cases_eq j k) [
      | inl same ↦ let yes_ : test j ≡ true = ap test same ∙ t in rw yes_ same
      | inr other ↦
          let no_ = none j (omega arith) (omega (arith, l, other)) in
          rw no_ (first_is test c (j + 1) k (omega (arith, l, other)) (omega (arith, h)) t (λ i a b. none i (omega (arith, a)) b))
    ]

-- ## Paths

pub is_later_true : (s x n : ℕ) → (nat_lt s x && nat_lt x n) ≡ true → (s < x) × (x < n)
is_later_true s x n h = (grind (arith, nat_tests, h), grind (arith, nat_tests, h))

-- From `at` on, behind what is done, till the start comes again. Nothing is found where the start is not the least.
abbrev pub walk : (ℕ → ℕ) → (n start steps : ℕ) → (done : List ℕ) → (at : ℕ) → List ℕ
walk S n start zero done at = []
walk S n start (suc steps) done at =
    cond (nat_eq (S at) start) (done ++ at ∷ [])
    (cond (nat_lt start (S at) && nat_lt (S at) n) (walk S n start steps (done ++ at ∷ []) (S at)) [])

module _ (S : ℕ → ℕ) where
  pub length_path : (m x : ℕ) → length (path S m x) ≡ m
  length_path zero x = refl
  length_path (suc m) x = ap suc (length_path m (S x))

  pub path_at : (m x a d : ℕ) → a < m → get_or (path S m x) a d ≡ iterate S a x
  path_at zero x a d lt = absurd (omega (arith, lt))
  path_at (suc m) x zero d lt = refl
  path_at (suc m) x (suc a) d lt = path_at m (S x) a d (omega (arith, lt))

  pub iter_suc : (a x : ℕ) → iterate S (suc a) x ≡ S (iterate S a x)
  iter_suc zero x = refl
  iter_suc (suc a) x = iter_suc a (S x)

  pub iter_add : (a b x : ℕ) → iterate S (a + b) x ≡ iterate S b (iterate S a x)
  iter_add zero b x = let e : zero + b ≡ b = omega arith in rw e refl
  iter_add (suc a) b x = let e : suc a + b ≡ suc (a + b) = omega arith in rw e (iter_add a b (S x))

  module _ (n start : ℕ) where
    -- from x the walk comes back to the start after m steps, by later arguments
    pub record Back (m x : ℕ) : Type 0 where
      pub some : 1 ≤ m
      pub back : iterate S m x ≡ start
      pub later : (a : ℕ) → 0 < a → a < m → (start < iterate S a x) × (iterate S a x < n)

    pub walked : (steps : ℕ) (done : List ℕ) (x : ℕ) → (walk S n start steps done x ≡ []) ⊎ ((m : ℕ) × Back m x × (walk S n start steps done x ≡ done ++ path S m x) × (m ≤ steps))
    walked zero done x = inl refl
    walked (suc steps) done x = go (cases_Bool (nat_eq (S x) start)) (cases_Bool (nat_lt start (S x) && nat_lt (S x) n)) (walked steps (done ++ x ∷ []) (S x))
      where
        go : ((nat_eq (S x) start ≡ true) ⊎ (nat_eq (S x) start ≡ false))
            → (((nat_lt start (S x) && nat_lt (S x) n) ≡ true) ⊎ ((nat_lt start (S x) && nat_lt (S x) n) ≡ false))
            → (walk S n start steps (done ++ x ∷ []) (S x) ≡ []) ⊎ ((m : ℕ) × Back m (S x) × (walk S n start steps (done ++ x ∷ []) (S x) ≡ (done ++ x ∷ []) ++ path S m (S x)) × (m ≤ steps))
            → (walk S n start (suc steps) done x ≡ []) ⊎ ((m : ℕ) × Back m x × (walk S n start (suc steps) done x ≡ done ++ path S m x) × (m ≤ suc steps))
        go (inl here) on rest = inr (1, record { some = omega arith; back = grind (arith, nat_tests, here); later = λ a h k. absurd (omega (arith, h, k)) }, rw here refl, omega arith)
        go (inr off) (inr ends) rest = inl (rw (off, ends) refl)
        go (inr off) (inl on) (inl none) = inl (rw (off, on) none)
        go (inr off) (inl on) (inr found) = inr (
          suc found.0,
          record {
            some = omega arith;
            back = found.1.back;
            later = λ a. elim a as (λ a. 0 < a → a < suc found.0 → (start < iterate S a x) × (iterate S a x < n)) [
              | zero ↦ λ h k. absurd (omega (arith, h))
              | suc b ↦ λ h k. elim (cases_eq b 0) [ inl z ↦ rw z (is_later_true start (S x) n on) | inr nz ↦ found.1.later b (omega (arith, nz)) (omega (arith, k)) ]
            ];
          },
          rw (off, on) (found.2 ∙ append_assoc done (x ∷ []) (path S found.0 (S x))),
          (let f = found.3 in omega (arith, f)),
        )

    pub walks_back : (steps : ℕ) (done : List ℕ) (m x : ℕ) → Back m x → m ≤ steps → walk S n start steps done x ≡ done ++ path S m x
    walks_back steps done zero x b l = absurd (let s = b.some in omega (arith, s))
    walks_back zero done (suc m) x b l = absurd (omega (arith, l))
    walks_back (suc steps) done (suc m) x b l =
        elim (cases_eq m 0) [
          | inl z ↦
              let back : S x ≡ start = rw z at b.back in
              let yes_ = eq-eqb (S x) start back in rw (yes_, z) refl
          | inr nz ↦
              let two = b.later 1 (omega arith) (omega (arith, nz)) in
              let no_ = ne_eqb (S x) start (λ e. absurd (omega (arith, e, two.0))) in
              let one_ : nat_lt start (S x) ≡ true = grind (arith, nat_tests, two.0) in
              let other_ : nat_lt (S x) n ≡ true = grind (arith, nat_tests, two.1) in
              let rest = walks_back steps (done ++ x ∷ []) m (S x)
              (record { some = omega (arith, nz); back = b.back; later = λ a h k. b.later (suc a) (omega arith) (omega (arith, k)) }) (omega (arith, l)) in
              rw (no_, one_, other_) (rest ∙ append_assoc done (x ∷ []) (path S m (S x)))
        ]

  -- no argument comes twice before the start comes again
  pub all_differ : (n k m : ℕ) → Back n k m k → (a b : ℕ) → a < b → b < m → iterate S a k ≢ iterate S b k
  all_differ n k m back a b lt l same =
      let rest : ℕ = m - b in
      let e : iterate S (a + rest) k ≡ iterate S (b + rest) k = iter_add a rest k ∙ ap (iterate S rest) same ∙ sym (iter_add b rest k) in
      let f : b + rest ≡ m = omega (arith, l) in
      let home : iterate S (a + rest) k ≡ k = e ∙ ap (λ c. iterate S c k) f ∙ back.back in
      let away = back.later (a + rest) (omega (arith, l)) (omega (arith, lt, l)) in
      omega (arith, home, away.0)

-- ## The path that comes back, and the walk

module _ (S : ℕ → ℕ) where
  all_path : (p : ℕ → Bool) (m x : ℕ) → list_all p (path S m x) ≡ true → (a : ℕ) → a < m → p (iterate S a x) ≡ true
  all_path p zero x h a lt = absurd (omega (arith, lt))
  all_path p (suc m) x h zero lt = and_left (p x) (list_all p (path S m (S x))) h
  all_path p (suc m) x h (suc a) lt = all_path p m (S x) (and_right (p x) (list_all p (path S m (S x))) h) a (omega (arith, lt))

  path_all : (p : ℕ → Bool) (m x : ℕ) → ((a : ℕ) → a < m → p (iterate S a x) ≡ true) → list_all p (path S m x) ≡ true
  path_all p zero x h = refl
  path_all p (suc m) x h = and_of (p x) (list_all p (path S m (S x))) (h 0 (omega arith)) (path_all p m (S x) (λ a lt. h (suc a) (omega (arith, lt))))

  module _ (n k : ℕ) (kn : k < n) where
    abbrev inside : ℕ → Bool
    inside j = nat_le k j && nat_lt j n

    inside_of : (j : ℕ) → k ≤ j → j < n → inside j ≡ true
    inside_of j a b = grind (arith, nat_tests, a, b)

    from_inside : (j : ℕ) → inside j ≡ true → (k ≤ j) × (j < n)
    from_inside j h = (grind (arith, nat_tests, h), grind (arith, nat_tests, h))

    -- a path that comes back first after m steps is the ring
    ring_back : (m : ℕ) → Back S n k m k → m ≤ n → ring S n k ≡ path S m k
    ring_back m back l =
        let some = back.some in
        let first_ : period S n k ≡ m = first_is (λ a. nat_eq (iterate S a k) k) n 1 m some (omega (arith, l)) (eq-eqb (iterate S m k) k back.back)
        (λ i a b. ne_eqb (iterate S i k) k (λ e. let z = (back.later i (omega (arith, a)) b).0 in absurd (omega (arith, e, z)))) in
        let few_ : nat_le m n ≡ true = grind (arith, nat_tests, l) in
        let all : list_all inside (path S m k) ≡ true = path_all inside m k (λ a b. elim (cases_eq a 0) [
          | inl z ↦ rw z (inside_of k (omega arith) kn)
          | inr nz ↦ let w = back.later a (omega (arith, nz)) b in let x = w.0 in inside_of (iterate S a k) (omega (arith, x)) w.1
        ]) in
        ap (within S n k) first_ ∙ rw (few_, all) refl

    -- where the ring is none, nothing comes back
    back_of : (m : ℕ) → period S n k ≡ m → nat_le m n ≡ true → list_all inside (path S m k) ≡ true → Back S n k m k × (m ≤ n)
    back_of m is few_ all =
        let l : m ≤ n = grind (arith, nat_tests, few_) in
        let test : ℕ → Bool = λ a. nat_eq (iterate S a k) k in
        let from = first_from test n 1 in
        let here : nat_eq (iterate S m k) k ≡ true = ap test (sym is) ∙ first_found test n 1 (omega (arith, is, l)) in (
          record {
            some = omega (arith, from, is);
            back = eqb-true (iterate S m k) k here;
            later = λ a b c.
                let early : nat_eq (iterate S a k) k ≡ false = first_earlier test n 1 a (omega (arith, b)) (omega (arith, is, c)) in
                let w = from_inside (iterate S a k) (all_path inside m k all a c) in
                let differs : iterate S a k ≢ k = λ e. absurd (let t = eq-eqb (iterate S a k) k e in let both : true ≡ false = sym t ∙ early in cc) in
                let x = w.0 in (omega (arith, x, differs), w.1);
          },
          l,
        )

    pub ring_walk : ring S n k ≡ walk S n k n [] k
    ring_walk =
        elim (walked S n k n [] k) [
          | inr found ↦ ring_back found.0 found.1 found.3 ∙ sym found.2
          | inl none ↦ go none (period S n k) refl (cases_Bool (nat_le (period S n k) n && list_all inside (path S (period S n k) k))) ∙ sym none
        ]
      where
        go : walk S n k n [] k ≡ [] → (m : ℕ) → period S n k ≡ m → ((nat_le m n && list_all inside (path S m k)) ≡ true) ⊎ ((nat_le m n && list_all inside (path S m k)) ≡ false)
            → within S n k m ≡ []
        go none m is (inr off) = rw off refl
        go none m is (inl on) =
            let b = back_of m is (and_left (nat_le m n) (list_all inside (path S m k)) on) (and_right (nat_le m n) (list_all inside (path S m k)) on) in
            let some = b.0.some in
            let len = length_path S m k in
            let empty : path S m k ≡ [] = sym (walks_back S n k n [] m k b.0 b.1) ∙ none in
            absurd (let z = ap length empty in omega (arith, z, len, some))

    -- what is found from k is nothing, or a path that comes back
    pub ring_cases : (ring S n k ≡ []) ⊎ ((m : ℕ) × Back S n k m k × (ring S n k ≡ path S m k))
    ring_cases =
        elim (walked S n k n [] k) [
          | inl none ↦ inl (ring_walk ∙ none)
          | inr found ↦ inr (found.0, found.1, ring_walk ∙ found.2)
        ]
