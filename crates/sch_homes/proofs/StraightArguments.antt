-- Where no argument uses the target of an earlier one, all go straight to their targets, in their order, and no targets are a cycle.
use Rattle.std.proofs.Common.{◌≡◌, ◌≢◌, ℕ, ◌-◌, ◌<◌, Bool, true, false, cond, List, [], ◌∷◌, ◌++◌, length, map, refl, ap, sym, ◌∙◌, arith, inl, inr, ◌⊎◌, get_or}
use Rattle.std.proofs.lemmas.Bool.{cases_Bool, cases_eq, eq-eqb, ne_eqb}
use Rattle.std.proofs.lemmas.List.{append-nil}
use Rattle.sch_word.specs.declared.place.Place.{Place}
use Rattle.sch_word.specs.trees.Bindings.{numbers}
use Rattle.sch_word.specs.trees.NumberSets.{has}
use Rattle.sch_word.proofs.facts.NumberSets.{in_here, in_more, numbers_length}
use Rattle.sch_shuffle.specs.declared.choice.Choice.TheVariants.{Direct}
use Rattle.sch_shuffle.specs.Tree.{Tree, uses}
use Rattle.sch_shuffle.specs.Assignment.{AreDistinct, place_at}
use Rattle.sch_shuffle.specs.Plans.{direct, transfers}
use Rattle.sch_shuffle.specs.Greedy.{acts, all_choices, choices, chosen, evaluations, goes_before, made, needed, next, onwards, uses_target, remove_first}
use Rattle.sch_shuffle.specs.Cycles.{IsRing}
use Rattle.sch_shuffle.specs.CycleSearch.{cycles, is_ring, places_at, ring, rings, successor}
use Rattle.sch_shuffle.proofs.WaitingArguments.{Rising, below_in, below_numbers, in_rest, is_above, rising_numbers, rising_rest}
use Rattle.sch_word.proofs.facts.Places.{place_same}
use Rattle.sch_shuffle.proofs.ExactCycles.{ring_is}

-- ## The order

module _ (W : ℕ → ℕ → Bool) where
  -- of these none uses what an earlier one needs
  abbrev AreInOrder : List ℕ → Type 0
  AreInOrder ws = (j k : ℕ) → has j ws ≡ true → has k ws ≡ true → k < j → W j k ≡ false

  none_needed : (ws : List ℕ) (k : ℕ) → ((j : ℕ) → has j ws ≡ true → j ≢ k → W j k ≡ false) → needed W ws k ≡ 0
  none_needed [] k h = refl
  none_needed (j ∷ ws) k h = by (cases_eq j k) (none_needed ws k (λ i e n. h i (in_more i j ws e) n)) where
    by : (j ≡ k) ⊎ (j ≢ k) → needed W ws k ≡ 0 → needed W (j ∷ ws) k ≡ 0
    by (inl same) rest = let yes_ = eq-eqb j k same in rw yes_ rest
    by (inr other) rest = let no_ = h j (in_here j ws) other in let differ = ne_eqb j k other in rw (differ, no_) rest

  stays_best : (f : ℕ → ℕ) (b : ℕ) (ks : List ℕ) → f b ≡ 0 → next f b ks ≡ b
  stays_best f b [] z = refl
  stays_best f b (k ∷ ks) z = ap (λ r. next f (cond (goes_before (f k) r) k b) ks) z ∙ stays_best f b ks z

  -- the first of those that wait is then next, whatever it uses itself
  straight_choices : (ws : List ℕ) → Rising ws → AreInOrder ws → choices W (length ws) ws ≡ map Direct ws
  straight_choices [] rising h = refl
  straight_choices (w ∷ ws) rising h =
      let later : (j : ℕ) → has j (w ∷ ws) ≡ true → j ≢ w → w < j = λ j e n. is_above w ws rising j (in_rest w j ws (λ same. n (sym same)) e) in
      let none : needed W (w ∷ ws) w ≡ 0 = none_needed (w ∷ ws) w (λ j e n. h j w e (in_here w ws) (later j e n)) in
      let first : next (needed W (w ∷ ws)) w ws ≡ w = stays_best (needed W (w ∷ ws)) w ws none in
      let gone : remove_first w (w ∷ ws) ≡ ws = ap (λ t. cond t ws (w ∷ remove_first w ws)) (eq-eqb w w refl) in
      ap (λ k. chosen (needed W (w ∷ ws) k) k ∷ choices W (length ws) (remove_first k (w ∷ ws))) first
      ∙ (ap (λ r. chosen r w ∷ choices W (length ws) (remove_first w (w ∷ ws))) none
      ∙ (ap (λ rest. Direct w ∷ choices W (length ws) rest) gone
      ∙ ap (λ cs. Direct w ∷ cs) (straight_choices ws (rising_rest w ws rising) (λ j k e f n. h j k (in_more j w ws e) (in_more k w ws f) n))))

-- ## The moves

direct_acts : (free : List Place) (ks : List ℕ) → evaluations free 0 (map Direct ks) ≡ map direct ks
direct_acts free [] = refl
direct_acts free (k ∷ ks) = ap (λ acts. direct k ∷ acts) (direct_acts free ks)

none_onward : (free : List Place) (ks : List ℕ) → onwards free 0 (map Direct ks) ≡ []
none_onward free [] = refl
none_onward free (k ∷ ks) = none_onward free ks

module _ (args : List Tree) (targets : List Place) (ordered : (j k : ℕ) → k < j → j < length args → uses_target args targets j k ≡ false) where
  pub straight_order : all_choices args targets ≡ map Direct (numbers 0 (length args))
  straight_order =
      let below = below_numbers (length args) 0 (length args) (omega arith) in
      ap (λ n. choices (uses_target args targets) n (numbers 0 (length args))) (sym (numbers_length 0 (length args)))
      ∙ straight_choices (uses_target args targets) (numbers 0 (length args)) (rising_numbers (length args) 0)
      (λ j k e f n. ordered j k n (below_in (length args) (numbers 0 (length args)) below j e))

  pub straight_acts : (free : List Place) → acts free (all_choices args targets) ≡ map direct (numbers 0 (length args))
  straight_acts free =
      ap (acts free) straight_order
      ∙ (ap (λ more. evaluations free 0 (map Direct (numbers 0 (length args))) ++ more) (none_onward free (numbers 0 (length args)))
      ∙ (append-nil (evaluations free 0 (map Direct (numbers 0 (length args)))) ∙ direct_acts free (numbers 0 (length args))))

  pub straight_made : (free : List Place) → made args targets free ≡ transfers args targets (map direct (numbers 0 (length args)))
  straight_made free = ap (transfers args targets) (straight_acts free)

  -- ## The cycles

  module _ (l : length targets ≡ length args) (distinct : AreDistinct targets) where
    no_ring : (k : ℕ) → k < length targets → is_ring (ring (successor args targets) (length targets) k) ≡ false
    no_ring k lt = elim (cases_Bool (is_ring (ring (successor args targets) (length targets) k))) [ inl yes_ ↦ absurd (bad (ring_is args targets l distinct k lt yes_).0) | inr no_ ↦ no_ ] where
      bad : {ks : List ℕ} → IsRing args targets ks → ⊥
      bad {ks} r =
          let two = r.two in
          let first : ℕ = get_or ks 0 0 in
          let last : ℕ = get_or ks (length ks - 1) 0 in
          let within : length ks - 1 < length ks = omega (arith, two) in
          let other : first ≢ last = λ e. let same = r.distinct 0 (length ks - 1) (omega (arith, two)) within e in omega (arith, two, same) in
          let least = r.least (length ks - 1) within in
          let later : first < last = omega (arith, least, other) in
          let used : uses_target args targets last first ≡ true = ap (λ x. uses x (place_at targets first)) r.closes ∙ place_same (place_at targets first) (place_at targets first) refl in
          let none : uses_target args targets last first ≡ false = ordered last first later (r.within (length ks - 1) within) in
          let both : true ≡ false = sym used ∙ none in cc

    no_rings : (ks : List ℕ) → ((k : ℕ) → has k ks ≡ true → k < length targets) → rings (successor args targets) (length targets) ks ≡ []
    no_rings [] h = refl
    no_rings (k ∷ ks) h =
        let none = no_ring k (h k (in_here k ks)) in
        let rest = no_rings ks (λ j e. h j (in_more j k ks e)) in
        ap (λ t. cond t (ring (successor args targets) (length targets) k ∷ rings (successor args targets) (length targets) ks) (rings (successor args targets) (length targets) ks)) none ∙ rest

    pub no_cycles : cycles args targets ≡ []
    no_cycles =
        let below = below_numbers (length targets) 0 (length targets) (omega arith) in
        ap (map (places_at targets)) (no_rings (numbers 0 (length targets)) (below_in (length targets) (numbers 0 (length targets)) below))
