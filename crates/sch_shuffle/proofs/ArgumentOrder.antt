-- The first moves evaluate each argument once, and the others let what was set aside go on.
use Rattle.std.proofs.Common.{◌≡◌, ℕ, suc, List, [], ◌∷◌, ◌++◌, length, map, take, drop, refl, sym, ap, ◌∙◌, arith}
use Rattle.std.specs.Prelude.{filter}
use Rattle.std.proofs.lemmas.List.{map-append, append-nil, take_at, drop_at}
use Rattle.std.proofs.lemmas.List.Elements.{filter-append}
use Rattle.sch_word.specs.trees.Bindings.{numbers}
use Rattle.sch_word.specs.trees.NumberSets.{has}
use Rattle.sch_word.specs.declared.place.Place.{Place}
use Rattle.sch_word.proofs.facts.NumberSets.{numbers_length}
use Rattle.sch_shuffle.specs.declared.choice.Choice.{Choice}
use Rattle.sch_shuffle.specs.declared.choice.Choice.TheVariants.{Direct, Aside}
use Rattle.sch_shuffle.specs.Tree.{Tree}
use Rattle.sch_shuffle.specs.Assignment.{place_at, Transfer}
use Rattle.sch_shuffle.specs.Plans.{onward, transfer, transfers}
use Rattle.sch_shuffle.specs.Greedy.{uses_target, number_of, all_choices, evaluations, onwards, made}
use Rattle.sch_shuffle.specs.GreedySteps.{order, IsOrdered, onward_from, GoesOnInOrder}
use Rattle.sch_shuffle.proofs.WaitingArguments.{members, choice_members, length_choices, in_numbers}

module _ (args : List Tree) (targets free : List Place) where
  evaluated_length : (cs : List Choice) (u : ℕ) → length (transfers args targets (evaluations free u cs)) ≡ length cs
  evaluated_length [] u = refl
  evaluated_length (Direct k ∷ cs) u = ap suc (evaluated_length cs u)
  evaluated_length (Aside k ∷ cs) u = ap suc (evaluated_length cs (suc u))

  evaluated_numbers : (cs : List Choice) (u : ℕ) → map (λ t. t.argument) (transfers args targets (evaluations free u cs)) ≡ members cs
  evaluated_numbers [] u = refl
  evaluated_numbers (Direct k ∷ cs) u = ap (λ js. k ∷ js) (evaluated_numbers cs u)
  evaluated_numbers (Aside k ∷ cs) u = ap (λ js. k ∷ js) (evaluated_numbers cs (suc u))

  members_length : (cs : List Choice) → length (members cs) ≡ length cs
  members_length [] = refl
  members_length (c ∷ cs) = ap suc (members_length cs)

  pub order_is : order (length args) (made args targets free) ≡ members (all_choices args targets)
  order_is =
      let n : ℕ = length args in
      let cs : List Choice = all_choices args targets in
      let len : length (transfers args targets (evaluations free 0 cs)) ≡ n = evaluated_length cs 0 ∙ length_choices (uses_target args targets) n (numbers 0 n) in
      ap (λ ts. map (λ t. t.argument) (take n ts)) (map-append (transfer args targets) (evaluations free 0 cs) (onwards free 0 cs))
      ∙ ap (map (λ t. t.argument)) (take_at (transfers args targets (evaluations free 0 cs)) (transfers args targets (onwards free 0 cs)) n len)
      ∙ evaluated_numbers cs 0

  members_are : (cs : List Choice) → members cs ≡ map number_of cs
  members_are [] = refl
  members_are (c ∷ cs) = ap (λ js. number_of c ∷ js) (members_are cs)

  -- the order in which arguments are evaluated is that of the choices, whatever places are free
  pub order_chosen : (n : ℕ) (cs : List Choice) → length args ≡ n → cs ≡ all_choices args targets → map number_of cs ≡ order n (made args targets free)
  order_chosen n cs l e =
      ap (map number_of) e ∙ (sym (members_are (all_choices args targets)) ∙ (sym order_is ∙ ap (λ m. order m (made args targets free)) l))

  pub ordered : IsOrdered (length args) (made args targets free)
  ordered =
      let n : ℕ = length args in
      let cs : List Choice = all_choices args targets in
      record {
        whole = ap length order_is ∙ members_length cs ∙ length_choices (uses_target args targets) n (numbers 0 n);
        each = λ k lt. ap (has k) order_is ∙ choice_members (uses_target args targets) n (numbers 0 n) (numbers_length 0 n) k ∙ in_numbers n 0 k (omega arith) (omega (arith, lt));
      }

  -- ## What was set aside

  abbrev in_temporaries : List Transfer → List Transfer
  in_temporaries ts = filter (λ t. t.temp) ts

  onwards_of : (cs : List Choice) (u : ℕ) → transfers args targets (onwards free u cs)
      ≡ map (onward_from targets) (in_temporaries (transfers args targets (evaluations free u cs)))
  onwards_of [] u = refl
  onwards_of (Direct k ∷ cs) u = onwards_of cs u
  onwards_of (Aside k ∷ cs) u = ap (λ ts. transfer args targets (onward k (place_at free u)) ∷ ts) (onwards_of cs (suc u))

  none_in : (cs : List Choice) (u : ℕ) → in_temporaries (transfers args targets (onwards free u cs)) ≡ []
  none_in [] u = refl
  none_in (Direct k ∷ cs) u = none_in cs u
  none_in (Aside k ∷ cs) u = none_in cs (suc u)

  pub goes_on_in_order : GoesOnInOrder (length args) targets (made args targets free)
  goes_on_in_order =
      let n : ℕ = length args in
      let cs : List Choice = all_choices args targets in
      let first_ : List Transfer = transfers args targets (evaluations free 0 cs) in
      let later : List Transfer = transfers args targets (onwards free 0 cs) in
      let both : made args targets free ≡ first_ ++ later = map-append (transfer args targets) (evaluations free 0 cs) (onwards free 0 cs) in
      let len : length first_ ≡ n = evaluated_length cs 0 ∙ length_choices (uses_target args targets) n (numbers 0 n) in
      let into : in_temporaries (first_ ++ later) ≡ in_temporaries first_ =
      filter-append (λ t. t.temp) first_ later ∙ ap (λ ts. in_temporaries first_ ++ ts) (none_in cs 0) ∙ append-nil (in_temporaries first_) in
      ap (drop n) both ∙ drop_at first_ later n len ∙ onwards_of cs 0 ∙ ap (map (onward_from targets)) (sym into ∙ ap in_temporaries (sym both))
