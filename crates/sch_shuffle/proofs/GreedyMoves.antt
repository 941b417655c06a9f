-- The moves are greedy.
use Rattle.std.proofs.Common.{◌≡◌, ℕ, zero, suc, ◌+◌, ◌<◌, ◌≤◌, Bool, true, false, cond, List, [], ◌∷◌, ◌++◌, length, refl, ap, sym, ◌∙◌, arith, inl, inr, ◌⊎◌}
use Rattle.std.proofs.lemmas.Bool.{cases_eq, ne_eqb}
use Rattle.std.proofs.lemmas.Bool.Decides.{nat_tests}
use Rattle.std.proofs.lemmas.List.{map-append}
use Rattle.sch_word.specs.trees.Bindings.{numbers}
use Rattle.sch_word.specs.trees.NumberSets.{has}
use Rattle.sch_word.specs.declared.place.Place.{Place}
use Rattle.sch_word.proofs.facts.NumberSets.{numbers_length}
use Rattle.sch_shuffle.specs.declared.choice.Choice.{Choice}
use Rattle.sch_shuffle.specs.declared.choice.Choice.TheVariants.{Direct, Aside}
use Rattle.sch_shuffle.specs.Tree.{Tree}
use Rattle.sch_shuffle.specs.Assignment.{place_at, Transfer, temps}
use Rattle.sch_shuffle.specs.Plans.{transfer, transfers}
use Rattle.sch_shuffle.specs.Greedy.{uses_target, needed, goes_before, next, next_of, remove_first, chosen, choices, all_choices, evaluations, onwards, made}
use Rattle.sch_shuffle.specs.GreedySteps.{waiting, IsFirstClear, IsMostUsed, IsGreedyStep, IsGreedy}
use Rattle.sch_shuffle.proofs.WaitingArguments.{Above, Rising, above_lower, in_rest, rising_remove_first, next_of_in, length_remove_first, rising_numbers}

before_true : (a b : ℕ) → goes_before a b ≡ true → (0 < b) × ((a ≡ 0) ⊎ (b < a))
before_true a zero h = absurd (cc)
before_true zero (suc b) h = (omega arith, inl refl)
before_true (suc a) (suc b) h = (omega arith, inr (grind (arith, nat_tests, h)))

before_false : (a b : ℕ) → goes_before a b ≡ false → (b ≡ 0) ⊎ ((0 < a) × (a ≤ b))
before_false a zero h = inl refl
before_false zero (suc b) h =
    absurd (let off = ne_eqb (suc b) 0 (λ x. absurd (omega (arith, x))) in let e : goes_before 0 (suc b) ≡ true = rw off refl in let bad : true ≡ false = sym e ∙ h in cc)
before_false (suc a) (suc b) h = inr (omega arith, grind (arith, nat_tests, h))

-- k goes no later than j
abbrev pub AtLeast : (ℕ → ℕ) → ℕ → ℕ → Type 0
AtLeast f k j = ((f k ≡ 0) × (f j ≡ 0 → k ≤ j)) ⊎ ((0 < f k) × (0 < f j) × (f j ≤ f k) × (f j ≡ f k → k ≤ j))

itself : (f : ℕ → ℕ) (k : ℕ) → AtLeast f k k
itself f k = elim (cases_eq (f k) 0) [ inl e ↦ inl (e, λ h. omega arith) | inr ne ↦ inr (omega (arith, ne), omega (arith, ne), omega arith, λ h. omega arith) ]

follows : (f : ℕ → ℕ) (k j i : ℕ) → AtLeast f k j → AtLeast f j i → AtLeast f k i
follows f k j i (inl a) (inl b) = inl (a.0, λ e. let x = b.1 e in let y = a.1 b.0 in omega (arith, x, y))
follows f k j i (inl a) (inr b) = inl (a.0, λ e. absurd (omega (arith, e, b.1)))
follows f k j i (inr a) (inl b) = absurd (omega (arith, a.1, b.0))
follows f k j i (inr a) (inr b) =
    inr (
      a.0,
      b.1,
      omega (arith, a.2, b.2),
      λ e.
          let same : f j ≡ f k = omega (arith, e, a.2, b.2) in
          let x = a.3 same in let y = b.3 (e ∙ sym same) in omega (arith, x, y),
    )

first_of_two : (f : ℕ → ℕ) (k b : ℕ) → goes_before (f k) (f b) ≡ true → AtLeast f k b
first_of_two f k b h =
    let t = before_true (f k) (f b) h in
    elim t.1 [
      | inl none ↦ inl (none, λ e. absurd (omega (arith, e, t.0)))
      | inr more ↦ inr (omega (arith, more), t.0, omega (arith, more), λ e. absurd (omega (arith, e, more)))
    ]

first_stays : (f : ℕ → ℕ) (k b : ℕ) → b < k → goes_before (f k) (f b) ≡ false → AtLeast f b k
first_stays f k b lower h =
    elim (before_false (f k) (f b) h) [
      | inl none ↦ inl (none, λ e. omega (arith, lower))
      | inr less ↦ inr (omega (arith, less.0, less.1), less.0, less.1, λ e. omega (arith, lower))
    ]

next_best : (f : ℕ → ℕ) (b : ℕ) (ks : List ℕ) → Above b ks
    → AtLeast f (next f b ks) b × ((j : ℕ) → has j ks ≡ true → AtLeast f (next f b ks) j)
next_best f b [] h = (itself f b, λ j e. absurd (cc))
next_best f b (k ∷ ks) h =
    go (goes_before (f k) (f b)) refl (next_best f k ks h.1) (next_best f b ks (above_lower b k ks h.0 h.1))
  where
    go : (t : Bool) → goes_before (f k) (f b) ≡ t → (AtLeast f (next f k ks) k × ((j : ℕ) → has j ks ≡ true → AtLeast f (next f k ks) j))
        → (AtLeast f (next f b ks) b × ((j : ℕ) → has j ks ≡ true → AtLeast f (next f b ks) j))
        → AtLeast f (next f (cond t k b) ks) b × ((j : ℕ) → has j (k ∷ ks) ≡ true → AtLeast f (next f (cond t k b) ks) j)
    go true h' x y = (
      follows f (next f k ks) k b x.0 (first_of_two f k b h'),
      λ j e. elim (cases_eq k j) [ inl same ↦ rw (← same) x.0 | inr other ↦ x.1 j (in_rest k j ks other e) ],
    )
    go false h' x y = (
      y.0,
      λ j e. elim (cases_eq k j) [
        | inl same ↦ rw (← same) (follows f (next f b ks) b k y.0 (first_stays f k b h.0 h'))
        | inr other ↦ y.1 j (in_rest k j ks other e)
      ],
    )

pub best : (f : ℕ → ℕ) (ws : List ℕ) → Rising ws → (j : ℕ) → has j ws ≡ true → AtLeast f (next_of f ws) j
best f [] r j e = absurd (cc)
best f (w ∷ ws) r j e =
    let b = next_best f w ws r in
    elim (cases_eq w j) [ inl same ↦ rw (← same) b.0 | inr other ↦ b.1 j (in_rest w j ws other e) ]

-- ## Step by step

abbrev Steps : (ℕ → ℕ → Bool) → List Place → List ℕ → ℕ → List Transfer → Type 0
Steps W free ws u [] = Unit {0}
Steps W free ws u (t ∷ ts) =
    IsGreedyStep W ws t.argument t.temp × (t.temp ≡ true → t.to ≡ place_at free u) × Steps W free (remove_first t.argument ws) (cond t.temp (suc u) u) ts

chosen_clear : (W : ℕ → ℕ → Bool) (ws : List ℕ) → Rising ws → 0 < length ws → needed W ws (next_of (needed W ws) ws) ≡ 0 → IsFirstClear W ws (next_of (needed W ws) ws)
chosen_clear W ws r some none =
    record {
      waits = next_of_in (needed W ws) ws some;
      clear = none;
      least = λ j e h. elim (best (needed W ws) ws r j e) [ inl a ↦ a.1 h | inr b ↦ absurd (omega (arith, b.0, none)) ];
    }

pub chosen_most : (W : ℕ → ℕ → Bool) (ws : List ℕ) (r : ℕ) → Rising ws → 0 < length ws → needed W ws (next_of (needed W ws) ws) ≡ suc r → IsMostUsed W ws (next_of (needed W ws) ws)
chosen_most W ws r rising some more =
    record {
      waits = next_of_in (needed W ws) ws some;
      stuck = λ j e. elim (best (needed W ws) ws rising j e) [ inl a ↦ absurd (omega (arith, a.0, more)) | inr b ↦ b.1 ];
      most = λ j e. elim (best (needed W ws) ws rising j e) [ inl a ↦ absurd (omega (arith, a.0, more)) | inr b ↦ b.2 ];
      least = λ j e h. elim (best (needed W ws) ws rising j e) [ inl a ↦ absurd (omega (arith, a.0, more)) | inr b ↦ b.3 h ];
    }

module _ (args : List Tree) (targets free : List Place) where
  abbrev W : ℕ → ℕ → Bool
  W = uses_target args targets

  one : (ws : List ℕ) (k : ℕ) (cs : List Choice) (tail : List Transfer) (u : ℕ) → Rising ws → 0 < length ws → k ≡ next_of (needed W ws) ws
      → ((u' : ℕ) → Steps W free (remove_first k ws) u' (transfers args targets (evaluations free u' cs) ++ tail))
      → (r : ℕ) → needed W ws k ≡ r → Steps W free ws u (transfers args targets (evaluations free u (chosen r k ∷ cs)) ++ tail)
  one ws k cs tail u rising some is ih zero e = (λ _. rw is (chosen_clear W ws rising some (rw is at e)), λ h. absurd (cc), ih u)
  one ws k cs tail u rising some is ih (suc r) e = (rw is (chosen_most W ws r rising some (rw is at e)), λ _. refl, ih (suc u))

  all_steps : (c : ℕ) (ws : List ℕ) (u : ℕ) (tail : List Transfer) → length ws ≡ c → Rising ws → ((u' : ℕ) → Steps W free [] u' tail)
      → Steps W free ws u (transfers args targets (evaluations free u (choices W c ws)) ++ tail)
  all_steps zero [] u tail e rising end = end u
  all_steps zero (w ∷ ws) u tail e rising end = absurd (omega (arith, e))
  all_steps (suc c) ws u tail e rising end =
      let k : ℕ = next_of (needed W ws) ws in
      let less = length_remove_first k ws (next_of_in (needed W ws) ws (omega (arith, e))) in
      one ws k (choices W c (remove_first k ws)) tail u rising (omega (arith, e)) refl
      (λ u'. all_steps c (remove_first k ws) u' tail (omega (arith, less, e)) (rising_remove_first k ws rising) end) (needed W ws k) refl

  end_steps : (cs : List Choice) (u v : ℕ) → Steps W free [] v (transfers args targets (onwards free u cs))
  end_steps [] u v = tt
  end_steps (Direct k ∷ cs) u v = end_steps cs u v
  end_steps (Aside k ∷ cs) u v = (λ e. absurd (cc), λ e. absurd (cc), end_steps cs (suc u) v)

  at_step : (before later : List Transfer) (t : Transfer) (ws : List ℕ) (u : ℕ) → Steps W free ws u (before ++ t ∷ later)
      → IsGreedyStep W (waiting ws before) t.argument t.temp × (t.temp ≡ true → t.to ≡ place_at free (u + temps before))
  at_step [] later t ws u s = (s.0, λ e. s.1 e ∙ ap (place_at free) (omega arith))
  at_step (b ∷ before) later t ws u s =
      let rest = at_step before later t (remove_first b.argument ws) (cond b.temp (suc u) u) s.2 in
      (rest.0, λ e. rest.1 e ∙ ap (place_at free) (sum b.temp (temps before)))
    where
      sum : (x : Bool) (n : ℕ) → cond x (suc u) u + n ≡ u + cond x (suc n) n
      sum true n = omega arith
      sum false n = refl

  pub greedy : IsGreedy args targets free (made args targets free)
  greedy before later t e =
      let n : ℕ = length args in
      let cs : List Choice = all_choices args targets in
      let all : Steps W free (numbers 0 n) 0 (transfers args targets (evaluations free 0 cs) ++ transfers args targets (onwards free 0 cs)) =
      all_steps n (numbers 0 n) 0 (transfers args targets (onwards free 0 cs)) (numbers_length 0 n) (rising_numbers n 0) (λ v. end_steps cs 0 v) in
      let both : before ++ t ∷ later ≡ transfers args targets (evaluations free 0 cs) ++ transfers args targets (onwards free 0 cs) =
      sym e ∙ map-append (transfer args targets) (evaluations free 0 cs) (onwards free 0 cs) in
      let steps : Steps W free (numbers 0 n) 0 (before ++ t ∷ later) = rw both all in
      let at = at_step before later t (numbers 0 n) 0 steps in
      (at.0, λ h. at.1 h ∙ ap (place_at free) (omega arith))
