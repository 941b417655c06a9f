-- Where arguments are plain places and none can go straight, all stand in cycles.
use Rattle.std.proofs.Common.{◌≡◌, ◌≢◌, ℕ, zero, suc, ◌+◌, ◌-◌, ◌<◌, ◌≤◌, Bool, true, false, cond, List, [], ◌∷◌, ◌++◌, length, map, refl, ap, sym, ◌∙◌, subst, arith, inl, inr, ◌⊎◌, get_or}
use Rattle.std.specs.Prelude.{◌&&◌, not, nat_eq, nat_lt}
use Rattle.std.proofs.lemmas.Bool.{cases_eq, eq-eqb, ne_eqb, cases_Bool}
use Rattle.std.proofs.lemmas.Bool.Decides.{nat_tests}
use Rattle.std.proofs.lemmas.List.{length-map, get_or-map}
use Rattle.sch_word.specs.trees.Bindings.{numbers}
use Rattle.sch_word.specs.trees.NumberSets.{has}
use Rattle.sch_word.specs.declared.place.Place.{Place}
use Rattle.sch_word.proofs.facts.NumberSets.{in_here, in_more, numbers_length}
use Rattle.sch_shuffle.specs.declared.choice.Choice.{Choice}
use Rattle.sch_shuffle.specs.Tree.{Tree, place, fixed, literal, read, uses}
use Rattle.sch_shuffle.specs.Assignment.{operand_at, place_at, AreDistinct, temps}
use Rattle.sch_shuffle.specs.Plans.{AreAtoms, IsAtom}
use Rattle.sch_shuffle.specs.Greedy.{uses_target, needed, next_of, remove_first, chosen, choices, all_choices, acts, made}
use Rattle.sch_shuffle.specs.GreedySteps.{IsMostUsed}
use Rattle.sch_shuffle.specs.CycleSearch.{successor, ring, is_ring, all_rings}
use Rattle.sch_shuffle.proofs.WaitingArguments.{Rising, AllBelow, Once, members, has_later, in_first, in_rest, below_in, length_remove_first, rising_numbers, below_numbers, next_of_in, choice_once, choice_members, rising_remove_first, below_remove_first, not_above, rising_rest}
use Rattle.sch_word.proofs.facts.Places.{places_same}
use Rattle.sch_shuffle.proofs.Paths.{walk, ring_walk}
use Rattle.sch_shuffle.proofs.GreedyMoves.{chosen_most}
use Rattle.sch_shuffle.proofs.ExactCycles.{length_le, few, successor_is, ring_is, rings_complete}
use Rattle.sch_shuffle.proofs.AtLeastRings.{asides, temps_asides, in_at_index}
use Rattle.sch_shuffle.proofs.SetAside.{acts_asides, asides_in, asides_in_members, asides_in_once, needed_some}

pub rising_once : (ws : List ℕ) → Rising ws → Once ws
rising_once [] r = tt
rising_once (w ∷ ws) r = (not_above w ws r, rising_once ws (rising_rest w ws r))

-- an atom that uses a place is that place
used_atom : (x : Tree) (p : Place) → IsAtom x → uses x p ≡ true → x ≡ place p
used_atom (place q) p a h = ap place (places_same q p h)
used_atom (fixed n) p a h = absurd (cc)
used_atom (literal k) p a h = absurd (cc)
used_atom (read primitive xs) p a h = absurd a

needed_none : (W : ℕ → ℕ → Bool) (js : List ℕ) (j : ℕ) → ((i : ℕ) → has i js ≡ true → W i j ≡ true → ⊥) → needed W js j ≡ 0
needed_none W [] j h = refl
needed_none W (i ∷ js) j h =
    let off : W i j ≡ false = elim (cases_Bool (W i j)) [ inl y ↦ absurd (h i (in_here i js) y) | inr no_ ↦ no_ ] in
    let rest = needed_none W js j (λ x e. h x (in_more x i js e)) in
    rw off (go (nat_eq i j) rest)
  where
    go : (b : Bool) → needed W js j ≡ 0 → cond (not b && false) (suc (needed W js j)) (needed W js j) ≡ 0
    go true h = h
    go false h = h

needed_one : (W : ℕ → ℕ → Bool) (js : List ℕ) (j : ℕ) → Once js → ((i x : ℕ) → has i js ≡ true → has x js ≡ true → W i j ≡ true → W x j ≡ true → i ≡ x) → needed W js j ≤ 1
needed_one W [] j o h = omega arith
needed_one W (i ∷ js) j o h =
    let rest = needed_one W js j o.1 (λ a b x y. h a b (in_more a i js x) (in_more b i js y)) in
    elim (cases_Bool (W i j)) [
      | inr no_ ↦ rw no_ (still (nat_eq i j) rest)
      | inl yes_ ↦
          let none : needed W js j ≡ 0 = needed_none W js j (λ x e w.
          let same : i ≡ x = h i x (in_here i js) (in_more x i js e) yes_ w in
          let bad : has i js ≡ true = ap (λ c. has c js) same ∙ e in let both : true ≡ false = sym bad ∙ o.0 in cc) in
          rw yes_ (once (nat_eq i j) none)
    ]
  where
    still : (b : Bool) → needed W js j ≤ 1 → cond (not b && false) (suc (needed W js j)) (needed W js j) ≤ 1
    still true h = h
    still false h = h

    once : (b : Bool) → needed W js j ≡ 0 → cond (not b && true) (suc (needed W js j)) (needed W js j) ≤ 1
    once true h = omega (arith, h)
    once false h = omega (arith, h)

-- Where each of ws is reached by S from another of ws, S is one to one on ws.
module _ (S : ℕ → ℕ) (ws : List ℕ) where
  reaching : (js : List ℕ) → Once js → ((j : ℕ) → has j js ≡ true → (i : ℕ) × (has i ws ≡ true) × (i ≢ j) × (S i ≡ j))
      → (qs : List ℕ) × (length qs ≡ length js) × Once qs × ((i : ℕ) → has i qs ≡ true → (has i ws ≡ true) × (has (S i) js ≡ true) × (i ≢ S i))
      × ((i x : ℕ) → has i qs ≡ true → has x qs ≡ true → S i ≡ S x → i ≡ x)
  reaching [] o each = ([], refl, tt, (λ i e. absurd (cc)), (λ i x e. absurd (cc)))
  reaching (j ∷ js) o each =
      let f = each j (in_here j js) in
      let q : ℕ = f.0 in
      let at : S q ≡ j = f.3 in
      let rest = reaching js o.1 (λ i e. each i (in_more i j js e)) in
      let far : (x : ℕ) → has x rest.0 ≡ true → S q ≢ S x =
      λ x e same. let inside = (rest.3 x e).1 in let bad : has j js ≡ true = ap (λ c. has c js) (sym at ∙ same) ∙ inside in let both : true ≡ false = sym bad ∙ o.0 in cc in (
        q ∷ rest.0,
        ap suc rest.1,
        (elim (cases_Bool (has q rest.0)) [ inl there ↦ absurd (far q there refl) | inr not_ ↦ not_ ], rest.2),
        λ i e. elim (cases_eq q i) [
          | inl same ↦ subst (λ i. (has i ws ≡ true) × (has (S i) (j ∷ js) ≡ true) × (i ≢ S i)) same (f.1, in_first j (S q) js (sym at), (λ x. f.2 (x ∙ at)))
          | inr other ↦ let r = rest.3 i (in_rest q i rest.0 other e) in (r.0, in_more (S i) j js r.1, r.2)
        ],
        λ i x a b e. elim (cases_eq q i) [
          | inl same ↦ elim (cases_eq q x) [
            | inl same' ↦ sym same ∙ same'
            | inr other' ↦ absurd (far x (in_rest q x rest.0 other' b) (ap S same ∙ e))
          ]
          | inr other ↦ elim (cases_eq q x) [
            | inl same' ↦ absurd (far i (in_rest q i rest.0 other a) (ap S same' ∙ sym e))
            | inr other' ↦ rest.4 i x (in_rest q i rest.0 other a) (in_rest q x rest.0 other' b) e
          ]
        ],
      )

  pub turning : Once ws → ((j : ℕ) → has j ws ≡ true → (i : ℕ) × (has i ws ≡ true) × (i ≢ j) × (S i ≡ j))
      → ((i : ℕ) → has i ws ≡ true → (has (S i) ws ≡ true) × (i ≢ S i))
      × ((i x : ℕ) → has i ws ≡ true → has x ws ≡ true → S i ≡ S x → i ≡ x)
  turning o each =
      let r = reaching ws o each in
      let all : (i : ℕ) → has i ws ≡ true → has i r.0 ≡ true =
      λ i e. elim (cases_Bool (has i r.0)) [
        | inl there ↦ there
        | inr not_ ↦
            let big = length_le (i ∷ r.0) ws (not_, r.2) (λ j h. elim (cases_eq i j) [
              | inl same ↦ ap (λ c. has c ws) (sym same) ∙ e
              | inr other ↦ (r.3 j (in_rest i j r.0 other h)).0
            ]) in
            let z = r.1 in absurd (omega (arith, big, z))
      ] in
      (λ i e. let f = r.3 i (all i e) in (f.1, f.2), λ i x a b e. r.4 i x (all i a) (all x b) e)

  -- the walk from the least of ws comes back
  comes_back : (n k : ℕ) → ((j : ℕ) → has j ws ≡ true → j < n) → ((j : ℕ) → has j ws ≡ true → k ≤ j)
      → ((i : ℕ) → has i ws ≡ true → (has (S i) ws ≡ true) × (i ≢ S i))
      → ((i x : ℕ) → has i ws ≡ true → has x ws ≡ true → S i ≡ S x → i ≡ x)
      → (steps : ℕ) (done seen : List ℕ) (at : ℕ) → has at ws ≡ true → Once (at ∷ seen) → ((j : ℕ) → has j seen ≡ true → has j ws ≡ true)
      → ((y : ℕ) → has y (at ∷ seen) ≡ true → (y ≡ k) ⊎ ((x : ℕ) × (has x seen ≡ true) × (S x ≡ y))) → length seen + steps ≡ n
      → suc (length done) ≤ length (walk S n k steps done at)
  comes_back n k small least closed one zero done seen at here once old from len =
      let f = few n (at ∷ seen) once (λ j e. elim (cases_eq at j) [
        | inl same ↦ small j (ap (λ c. has c ws) (sym same) ∙ here)
        | inr other ↦ small j (old j (in_rest at j seen other e))
      ]) in absurd (omega (arith, f, len))
  comes_back n k small least closed one (suc steps) done seen at here once old from len =
      let next = (closed at here).0 in
      elim (cases_eq (S at) k) [
        | inl home ↦ let yes_ = eq-eqb (S at) k home in rw yes_ (let e = longer done in omega (arith, e))
        | inr away ↦
            let no_ = ne_eqb (S at) k away in
            let low = least (S at) next in
            let high = small (S at) next in
            let a : nat_lt k (S at) ≡ true = grind (arith, nat_tests, low, away) in
            let b : nat_lt (S at) n ≡ true = grind (arith, nat_tests, high) in
            let fresh : has (S at) (at ∷ seen) ≡ false = elim (cases_Bool (has (S at) (at ∷ seen))) [
              | inr not_ ↦ not_
              | inl there ↦ elim (from (S at) there) [
                | inl home ↦ absurd (away home)
                | inr w ↦
                    let same : w.0 ≡ at = one w.0 at (old w.0 w.1) here w.2 in
                    let bad : has at seen ≡ true = ap (λ c. has c seen) (sym same) ∙ w.1 in
                    absurd (let both : true ≡ false = sym bad ∙ once.0 in cc)
              ]
            ] in
            let rest = comes_back n k small least closed one steps (done ++ at ∷ []) (at ∷ seen) (S at) next (fresh, once)
            (λ j e. elim (cases_eq at j) [ inl same ↦ ap (λ c. has c ws) (sym same) ∙ here | inr other ↦ old j (in_rest at j seen other e) ])
            (λ y e. elim (cases_eq (S at) y) [
              | inl same ↦ inr (at, in_here at seen, same)
              | inr other ↦
                  elim (from y (in_rest (S at) y (at ∷ seen) other e)) [ inl home ↦ inl home | inr w ↦ inr (w.0, in_more w.0 at seen w.1, w.2) ]
            ]) (omega (arith, len)) in
            let e = longer done in rw (no_, a, b) (omega (arith, rest, e))
      ]
    where
      longer : (xs : List ℕ) → length (xs ++ at ∷ []) ≡ suc (length xs)
      longer [] = refl
      longer (x ∷ xs) = ap suc (longer xs)

module _ (args : List Tree) (targets free : List Place) (l : length targets ≡ length args) (apart : AreDistinct targets) (atoms : AreAtoms args) where
  abbrev n : ℕ
  n = length targets

  abbrev S : ℕ → ℕ
  S = successor args targets

  abbrev W : ℕ → ℕ → Bool
  W = uses_target args targets

  stands : (i j : ℕ) → i < n → j < n → W i j ≡ true → S i ≡ j
  stands i j a b h = successor_is args targets l apart i j b (used_atom (operand_at args i) (place_at targets j) (atoms i (omega (arith, a, l))) h)

  -- the one that is set aside is the least of a ring
  stuck_ring : (ws : List ℕ) (k : ℕ) → Rising ws → AllBelow n ws → IsMostUsed W ws k → is_ring (ring S n k) ≡ true
  stuck_ring ws k rising below most =
      let small : (j : ℕ) → has j ws ≡ true → j < n = below_in n ws below in
      let once = rising_once ws rising in
      let t = turning S ws once (λ j e. let f = needed_some W ws j (most.stuck j e) in (f.0, f.1, f.2, stands f.0 j (small f.0 f.1) (small j e) f.3)) in
      let closed : (i : ℕ) → has i ws ≡ true → (has (S i) ws ≡ true) × (i ≢ S i) = t.0 in
      let one : (i x : ℕ) → has i ws ≡ true → has x ws ≡ true → S i ≡ S x → i ≡ x = t.1 in
      let single : (j : ℕ) → has j ws ≡ true → needed W ws j ≡ 1 =
      λ j e.
      let low = most.stuck j e in
      let high = needed_one W ws j once (λ i x a b u v. one i x a b (stands i j (small i a) (small j e) u ∙ sym (stands x j (small x b) (small j e) v))) in
      omega (arith, low, high) in
      let least : (j : ℕ) → has j ws ≡ true → k ≤ j = λ j e. most.least j e (single j e ∙ sym (single k most.waits)) in
      let kn = small k most.waits in
      let next = (closed k most.waits).0 in
      let away : S k ≢ k = λ e. (closed k most.waits).1 (sym e) in
      let no_ = ne_eqb (S k) k away in
      let low = least (S k) next in
      let high = small (S k) next in
      let a : nat_lt k (S k) ≡ true = grind (arith, nat_tests, low, away) in
      let b : nat_lt (S k) n ≡ true = grind (arith, nat_tests, high) in
      let e : n ≡ suc (n - 1) = omega (arith, kn) in
      let fresh : has (S k) (k ∷ []) ≡ false = has_later k (S k) [] (λ x. away (sym x)) in
      let back = comes_back S ws n k small least closed one (n - 1) (k ∷ []) (k ∷ []) (S k) next (fresh, (refl, tt))
      (λ j h. elim (cases_eq k j) [ inl same ↦ ap (λ c. has c ws) (sym same) ∙ most.waits | inr other ↦ absurd (let bad = in_rest k j [] other h in cc) ])
      (λ y h. elim (cases_eq (S k) y) [
        | inl same ↦ inr (k, in_here k [], same)
        | inr other ↦
            let rest = in_rest (S k) y (k ∷ []) other h in
            elim (cases_eq k y) [ inl same ↦ inl (sym same) | inr ne ↦ absurd (let bad = in_rest k y [] ne rest in cc) ]
      ]) (omega (arith, kn)) in
      let whole : ring S n k ≡ walk S n k (n - 1) (k ∷ []) (S k) = ring_walk S n k kn ∙ ap (λ c. walk S n k c [] k) e ∙ rw (no_, a, b) refl in
      ap is_ring whole ∙ grind (arith, nat_tests, back)

  aside_starts_ring_once : (k r : ℕ) (cs : List Choice) → ((r' : ℕ) → r ≡ suc r' → is_ring (ring S n k) ≡ true) → ((j : ℕ) → has j (asides_in cs) ≡ true → is_ring (ring S n j) ≡ true)
      → (j : ℕ) → has j (asides_in (chosen r k ∷ cs)) ≡ true → is_ring (ring S n j) ≡ true
  aside_starts_ring_once k zero cs here rest j e = rest j e
  aside_starts_ring_once k (suc r) cs here rest j e =
      elim (cases_eq k j) [ inl same ↦ ap (λ c. is_ring (ring S n c)) (sym same) ∙ here r refl | inr other ↦ rest j (in_rest k j (asides_in cs) other e) ]

  aside_starts_ring : (c : ℕ) (ws : List ℕ) → length ws ≡ c → Rising ws → AllBelow n ws → (j : ℕ) → has j (asides_in (choices W c ws)) ≡ true → is_ring (ring S n j) ≡ true
  aside_starts_ring zero ws e rising below = λ j h. absurd (cc)
  aside_starts_ring (suc c) ws e rising below =
      let k : ℕ = next_of (needed W ws) ws in
      let inside : has k ws ≡ true = next_of_in (needed W ws) ws (omega (arith, e)) in
      let less = length_remove_first k ws inside in
      aside_starts_ring_once k (needed W ws k) (choices W c (remove_first k ws))
      (λ r f. stuck_ring ws k rising below (chosen_most W ws r rising (omega (arith, e)) f))
      (aside_starts_ring c (remove_first k ws) (omega (arith, less, e)) (rising_remove_first k ws rising) (below_remove_first n k ws below))

  pub at_most : temps (made args targets free) ≤ length (all_rings args targets)
  at_most =
      let cs : List Choice = all_choices args targets in
      let rs : List (List ℕ) = all_rings args targets in
      let count_ = temps_asides args targets (acts free cs) in
      let who : asides (acts free cs) ≡ asides_in cs = acts_asides free cs in
      let once = asides_in_once cs (choice_once W (length args) (numbers 0 (length args)) (numbers_length 0 (length args)) (rising_numbers (length args) 0)) in
      let below : AllBelow n (numbers 0 (length args)) = below_numbers (length args) 0 n (omega (arith, l)) in
      let each = aside_starts_ring (length args) (numbers 0 (length args)) (numbers_length 0 (length args)) (rising_numbers (length args) 0) below in
      let starts : List ℕ = map (λ r. get_or r 0 0) rs in
      let f = length_le (asides_in cs) starts once (λ j e.
      let is = each j e in
      let inside : has j (numbers 0 n) ≡ true =
      rw l (sym (choice_in j) ∙ asides_in_members cs j e) in
      let w = rings_complete args targets l apart (numbers 0 n) j inside is in
      let jn = below_in n (numbers 0 n) (below_numbers n 0 n (omega arith)) j inside in
      let head = (ring_is args targets l apart j jn is).1 in
      in_at_index starts w.0 j (let z = w.1 in let len = length-map rs (λ r. get_or r 0 0) in omega (arith, z, len))
      (get_or-map (λ r. get_or r 0 0) rs w.0 [] 0 w.1 ∙ ap (λ r. get_or r 0 0) w.2 ∙ head)) in
      let len = length-map rs (λ r. get_or r 0 0) in
      let who_len = ap length who in
      omega (arith, f, len, who_len, count_)
    where
      choice_in : (j : ℕ) → has j (members (all_choices args targets)) ≡ has j (numbers 0 (length args))
      choice_in j = choice_members W (length args) (numbers 0 (length args)) (numbers_length 0 (length args)) j
