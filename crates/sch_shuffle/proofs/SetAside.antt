-- Which arguments are set aside: fewer than there are, and none whose target no other uses.
use Rattle.std.proofs.Common.{◌≡◌, ◌≢◌, ℕ, zero, suc, ◌+◌, ◌<◌, ◌≤◌, Bool, true, false, List, [], ◌∷◌, ◌++◌, length, refl, ap, sym, ◌∙◌, subst, arith, inl, inr, ◌⊎◌}
use Rattle.std.specs.Prelude.{nat_eq}
use Rattle.std.specs.List.{AllByRecursion}
use Rattle.std.proofs.lemmas.Bool.{cases_eq, eq-eqb, ne_eqb, cases_Bool}
use Rattle.sch_word.specs.trees.Bindings.{numbers}
use Rattle.sch_word.specs.trees.NumberSets.{has}
use Rattle.sch_word.specs.declared.place.Place.{Place}
use Rattle.sch_word.proofs.facts.NumberSets.{in_here, in_more, numbers_length}
use Rattle.sch_shuffle.specs.declared.choice.Choice.{Choice}
use Rattle.sch_shuffle.specs.declared.choice.Choice.TheVariants.{Direct, Aside}
use Rattle.sch_shuffle.specs.Tree.{Tree}
use Rattle.sch_shuffle.specs.Assignment.{place_at}
use Rattle.sch_shuffle.specs.Plans.{Act, IsAct}
use Rattle.sch_shuffle.specs.ActValues.{FewSetAside}
use Rattle.sch_shuffle.specs.Greedy.{uses_target, needed, next_of, remove_first, chosen, choices, all_choices, evaluations, onwards, acts}
use Rattle.sch_shuffle.proofs.WaitingArguments.{AllBelow, Once, all_below, in_first, in_rest, members, below_in, below_numbers, below_remove_first, choice_members, choice_once, length_remove_first, next_of_in, number_chosen, rising_numbers}
use Rattle.sch_shuffle.proofs.ExactCycles.{few}
use Rattle.sch_shuffle.proofs.AtLeastRings.{asides, temps_asides}

-- who needs the target of j
pub needed_some : (W : ℕ → ℕ → Bool) (js : List ℕ) (j : ℕ) → 0 < needed W js j → (i : ℕ) × (has i js ≡ true) × (i ≢ j) × (W i j ≡ true)
needed_some W [] j h = absurd (omega (arith, h))
needed_some W (i ∷ js) j h = go (cases_Bool (nat_eq i j)) (cases_Bool (W i j)) (needed_some W js j)
  where
    more : (0 < needed W js j → (x : ℕ) × (has x js ≡ true) × (x ≢ j) × (W x j ≡ true)) → 0 < needed W js j
        → (x : ℕ) × (has x (i ∷ js) ≡ true) × (x ≢ j) × (W x j ≡ true)
    more rest h = let f = rest h in (f.0, in_more f.0 i js f.1, f.2, f.3)

    go : ((nat_eq i j ≡ true) ⊎ (nat_eq i j ≡ false)) → ((W i j ≡ true) ⊎ (W i j ≡ false))
        → (0 < needed W js j → (x : ℕ) × (has x js ≡ true) × (x ≢ j) × (W x j ≡ true)) → (x : ℕ) × (has x (i ∷ js) ≡ true) × (x ≢ j) × (W x j ≡ true)
    go (inl same) w rest = more rest (rw same at h)
    go (inr other) (inl yes_) rest =
        (i, in_here i js, (λ e. let t = eq-eqb i j e in let both : true ≡ false = sym t ∙ other in cc), yes_)
    go (inr other) (inr no_) rest = more rest (rw (other, no_) at h)

-- ## Choices

abbrev pub asides_in : List Choice → List ℕ
asides_in [] = []
asides_in (Direct k ∷ cs) = asides_in cs
asides_in (Aside k ∷ cs) = k ∷ asides_in cs

pub asides_in_members : (cs : List Choice) (j : ℕ) → has j (asides_in cs) ≡ true → has j (members cs) ≡ true
asides_in_members [] j e = e
asides_in_members (Direct k ∷ cs) j e = in_more j k (members cs) (asides_in_members cs j e)
asides_in_members (Aside k ∷ cs) j e =
    elim (cases_eq k j) [
      | inl same ↦ in_first k j (members cs) same
      | inr other ↦ in_more j k (members cs) (asides_in_members cs j (in_rest k j (asides_in cs) other e))
    ]

pub asides_in_once : (cs : List Choice) → Once (members cs) → Once (asides_in cs)
asides_in_once [] o = tt
asides_in_once (Direct k ∷ cs) o = asides_in_once cs o.1
asides_in_once (Aside k ∷ cs) o = (
  elim (cases_Bool (has k (asides_in cs))) [ inl there ↦ let bad = asides_in_members cs k there in absurd (let both : true ≡ false = sym bad ∙ o.0 in cc) | inr not_ ↦ not_ ],
  asides_in_once cs o.1,
)

asides_evaluations : (free : List Place) (u : ℕ) (cs : List Choice) (tail : List Act) → asides tail ≡ [] → asides (evaluations free u cs ++ tail) ≡ asides_in cs
asides_evaluations free u [] tail e = e
asides_evaluations free u (Direct k ∷ cs) tail e = asides_evaluations free u cs tail e
asides_evaluations free u (Aside k ∷ cs) tail e = ap (λ js. k ∷ js) (asides_evaluations free (suc u) cs tail e)

asides_onwards : (free : List Place) (u : ℕ) (cs : List Choice) → asides (onwards free u cs) ≡ []
asides_onwards free u [] = refl
asides_onwards free u (Direct k ∷ cs) = asides_onwards free u cs
asides_onwards free u (Aside k ∷ cs) = asides_onwards free (suc u) cs

pub acts_asides : (free : List Place) (cs : List Choice) → asides (acts free cs) ≡ asides_in cs
acts_asides free cs = asides_evaluations free 0 cs (onwards free 0 cs) (asides_onwards free 0 cs)

module _ (W : ℕ → ℕ → Bool) where
  -- what goes to its target is not among them
  asides_more : (r k c : ℕ) (cs : List Choice) → length (asides_in cs) ≤ c → length (asides_in (chosen r k ∷ cs)) ≤ suc c
  asides_more zero k c cs h = omega (arith, h)
  asides_more (suc r) k c cs h = omega (arith, h)

  -- no other uses the target of the last one
  asides_less : (c : ℕ) (ws : List ℕ) → length ws ≡ suc c → length (asides_in (choices W (suc c) ws)) ≤ c
  asides_less zero [] e = absurd (omega (arith, e))
  asides_less zero (w ∷ []) e = let yes_ = eq-eqb w w refl in rw yes_ (omega arith)
  asides_less zero (w ∷ x ∷ ws) e = absurd (omega (arith, e))
  asides_less (suc c) ws e =
      let k : ℕ = next_of (needed W ws) ws in
      let less = length_remove_first k ws (next_of_in (needed W ws) ws (omega (arith, e))) in
      asides_more (needed W ws k) k c (choices W (suc c) (remove_first k ws)) (asides_less c (remove_first k ws) (omega (arith, less, e)))

  module _ (n m : ℕ) (below_m : (i j : ℕ) → i < n → j < n → W i j ≡ true → j < m) where
    aside_used : (ws : List ℕ) (k : ℕ) (cs : List Choice) → AllBelow n ws → has k ws ≡ true → ((j : ℕ) → has j (asides_in cs) ≡ true → j < m)
        → (r : ℕ) → needed W ws k ≡ r → (j : ℕ) → has j (asides_in (chosen r k ∷ cs)) ≡ true → j < m
    aside_used ws k cs below inside rest zero h j e = rest j e
    aside_used ws k cs below inside rest (suc r) h j e =
        elim (cases_eq k j) [
          | inl same ↦
              let f = needed_some W ws k (omega (arith, h)) in
              let lt = below_m f.0 k (below_in n ws below f.0 f.1) (below_in n ws below k inside) f.3 in
              omega (arith, lt, same)
          | inr other ↦ rest j (in_rest k j (asides_in cs) other e)
        ]

    -- the target of each is used by another
    asides_used : (c : ℕ) (ws : List ℕ) → length ws ≡ c → AllBelow n ws → (j : ℕ) → has j (asides_in (choices W c ws)) ≡ true → j < m
    asides_used zero ws e below = λ j h. absurd (cc)
    asides_used (suc c) ws e below =
        let k : ℕ = next_of (needed W ws) ws in
        let inside : has k ws ≡ true = next_of_in (needed W ws) ws (omega (arith, e)) in
        let less = length_remove_first k ws inside in
        aside_used ws k (choices W c (remove_first k ws)) below inside (asides_used c (remove_first k ws) (omega (arith, less, e)) (below_remove_first n k ws below)) (needed W ws k) refl

  -- ## What the arguments have in all

  abbrev pub sum_of : (ℕ → ℕ) → List ℕ → ℕ
  sum_of f [] = 0
  sum_of f (j ∷ js) = f j + sum_of f js

  sum_remove_first : (f : ℕ → ℕ) (k : ℕ) (ws : List ℕ) → has k ws ≡ true → f k + sum_of f (remove_first k ws) ≡ sum_of f ws
  sum_remove_first f k [] h = absurd (cc)
  sum_remove_first f k (w ∷ ws) h = by (cases_eq w k) (sum_remove_first f k ws) where
    by : (w ≡ k) ⊎ (w ≢ k) → (has k ws ≡ true → f k + sum_of f (remove_first k ws) ≡ sum_of f ws) → f k + sum_of f (remove_first k (w ∷ ws)) ≡ sum_of f (w ∷ ws)
    by (inl same) more = let yes_ = eq-eqb w k same in rw yes_ (ap (λ z. f z + sum_of f ws) (sym same))
    by (inr other) more = let no_ = ne_eqb w k other in let rest = more (in_rest w k ws other h) in rw no_ (omega (arith, rest))

  -- each argument is chosen once
  pub sum_chosen : (f : ℕ → ℕ) (c : ℕ) (ws : List ℕ) → length ws ≡ c → sum_of f (members (choices W c ws)) ≡ sum_of f ws
  sum_chosen f zero [] e = refl
  sum_chosen f zero (w ∷ ws) e = absurd (omega (arith, e))
  sum_chosen f (suc c) ws e =
      let k : ℕ = next_of (needed W ws) ws in
      let inside : has k ws ≡ true = next_of_in (needed W ws) ws (omega (arith, e)) in
      let less = length_remove_first k ws inside in
      let rest = sum_chosen f c (remove_first k ws) (omega (arith, less, e)) in
      let all = sum_remove_first f k ws inside in
      rw number_chosen (omega (arith, rest, all))

-- ## The moves

module _ (args : List Tree) (targets : List Place) where
  abbrev W : ℕ → ℕ → Bool
  W = uses_target args targets

  abbrev n : ℕ
  n = length args

  pub all_asides_less : (c : ℕ) → length args ≡ suc c → length (asides_in (all_choices args targets)) ≤ c
  all_asides_less c e =
      let h = asides_less W c (numbers 0 (suc c)) (numbers_length 0 (suc c)) in
      subst (λ n. length (asides_in (choices W n (numbers 0 n))) ≤ c) (sym e) h

  pub all_asides_used : (m : ℕ) → ((i j : ℕ) → i < n → j < n → W i j ≡ true → j < m) → length (asides_in (all_choices args targets)) ≤ m
  all_asides_used m h =
      few m (asides_in (all_choices args targets))
      (asides_in_once (all_choices args targets) (choice_once W n (numbers 0 n) (numbers_length 0 n) (rising_numbers n 0)))
      (asides_used W n m h n (numbers 0 n) (numbers_length 0 n) (below_numbers n 0 n (omega arith)))

pub few_set_aside : FewSetAside
few_set_aside args targets free =
    let t = temps_asides args targets (acts free (all_choices args targets)) in
    let l = ap length (acts_asides free (all_choices args targets)) in (
      λ c e. let h = all_asides_less args targets c e in omega (arith, t, l, h),
      λ m h. let few_ = all_asides_used args targets m h in omega (arith, t, l, few_),
    )

-- ## The free places that are used

each_both : (P : Act → Type 0) (xs ys : List Act) → AllByRecursion P xs → AllByRecursion P ys → AllByRecursion P (xs ++ ys)
each_both P [] ys h k = k
each_both P (x ∷ xs) ys h k = (h.0, each_both P xs ys h.1 k)

module _ (args : List Tree) (targets free : List Place) (P : Place → Type 0) where
  abbrev Used : ℕ → List Choice → Type 0
  Used u cs = (v : ℕ) → u ≤ v → v < u + length (asides_in cs) → P (place_at free v)

  evaluations_used : (cs : List Choice) (u : ℕ) → AllBelow (length args) (members cs) → Used u cs → AllByRecursion (IsAct args P) (evaluations free u cs)
  evaluations_used [] u below used = tt
  evaluations_used (Direct k ∷ cs) u below used = (below.0, evaluations_used cs u below.1 used)
  evaluations_used (Aside k ∷ cs) u below used =
      ((below.0, used u (omega arith) (omega arith)), evaluations_used cs (suc u) below.1 (λ v a b. used v (omega (arith, a)) (omega (arith, b))))

  onwards_used : (cs : List Choice) (u : ℕ) → AllBelow (length args) (members cs) → Used u cs → AllByRecursion (IsAct args P) (onwards free u cs)
  onwards_used [] u below used = tt
  onwards_used (Direct k ∷ cs) u below used = onwards_used cs u below.1 used
  onwards_used (Aside k ∷ cs) u below used =
      ((below.0, used u (omega arith) (omega arith)), onwards_used cs (suc u) below.1 (λ v a b. used v (omega (arith, a)) (omega (arith, b))))

  -- the acts are of arguments that there are, by the first free places, as many as are set aside
  pub acts_used : ((v : ℕ) → v < length (asides_in (all_choices args targets)) → P (place_at free v)) → AllByRecursion (IsAct args P) (acts free (all_choices args targets))
  acts_used used =
      let W = uses_target args targets in
      let n : ℕ = length args in
      let cs : List Choice = all_choices args targets in
      let below : AllBelow n (members cs) =
      all_below n (members cs) (λ j e. below_in n (numbers 0 n) (below_numbers n 0 n (omega arith)) j (sym (choice_members W n (numbers 0 n) (numbers_length 0 n) j) ∙ e)) in
      each_both (IsAct args P) (evaluations free 0 cs) (onwards free 0 cs)
      (evaluations_used cs 0 below (λ v a b. used v (omega (arith, b))))
      (onwards_used cs 0 below (λ v a b. used v (omega (arith, b))))
