-- The acts evaluate each argument once.
use Rattle.std.proofs.Common.{◌≡◌, ℕ, suc, ◌+◌, ◌<◌, ◌≤◌, Bool, true, false, cond, List, [], ◌∷◌, ◌++◌, length, refl, ap, sym, ◌∙◌, arith, inl, inr}
use Rattle.std.specs.Prelude.{nat_eq}
use Rattle.std.specs.List.{AllByRecursion}
use Rattle.std.proofs.lemmas.List.Elements.{All-append, All-from_recursion}
use Rattle.std.proofs.lemmas.Bool.{cases_eq, eq-eqb, ne_eqb}
use Rattle.sch_word.specs.trees.Bindings.{numbers}
use Rattle.sch_word.specs.trees.NumberSets.{has}
use Rattle.sch_word.specs.declared.place.Place.{Place}
use Rattle.sch_word.proofs.facts.NumberSets.{numbers_length}
use Rattle.sch_shuffle.specs.declared.choice.Choice.{Choice}
use Rattle.sch_shuffle.specs.declared.choice.Choice.TheVariants.{Direct, Aside}
use Rattle.sch_shuffle.specs.Tree.{Tree}
use Rattle.sch_shuffle.specs.Assignment.{IsAmong, place_at}
use Rattle.sch_shuffle.specs.Plans.{Act, evaluates, sets_aside, goes_on, is_across, count, IsAct, IsMove, IsPlan, direct, aside, across, onward, transfers}
use Rattle.sch_shuffle.specs.Greedy.{uses_target, all_choices, evaluations, onwards, acts}
use Rattle.sch_shuffle.proofs.WaitingArguments.{AllBelow, below_in, below_numbers, members, Once, in_rest, not_in, choice_members, choice_once, all_below, rising_numbers, in_numbers, length_choices}

pub count_both : (f : Act → Bool) (xs ys : List Act) → count f (xs ++ ys) ≡ count f xs + count f ys
count_both f [] ys = omega arith
count_both f (x ∷ xs) ys = go (f x) (count_both f xs ys)
  where
    go : (b : Bool) → count f (xs ++ ys) ≡ count f xs + count f ys
        → cond b (suc (count f (xs ++ ys))) (count f (xs ++ ys)) ≡ cond b (suc (count f xs)) (count f xs) + count f ys
    go true h = omega (arith, h)
    go false h = h

module _ (args : List Tree) (targets free : List Place) (P : Place → Type 0) (are : (u : ℕ) → u < length free → P (place_at free u)) where
  evaluated_none : (cs : List Choice) (u i : ℕ) → has i (members cs) ≡ false → count (evaluates i) (evaluations free u cs) ≡ 0
  evaluated_none [] u i h = refl
  evaluated_none (Direct k ∷ cs) u i h =
      let off = not_in k i (members cs) h in let no_ = ne_eqb k i off.0 in rw no_ (evaluated_none cs u i off.1)
  evaluated_none (Aside k ∷ cs) u i h =
      let off = not_in k i (members cs) h in let no_ = ne_eqb k i off.0 in rw no_ (evaluated_none cs (suc u) i off.1)

  evaluated_once : (cs : List Choice) (u i : ℕ) → Once (members cs) → has i (members cs) ≡ true → count (evaluates i) (evaluations free u cs) ≡ 1
  evaluated_once [] u i o h = absurd (cc)
  evaluated_once (Direct k ∷ cs) u i o h =
      elim (cases_eq k i) [
        | inl same ↦
            let yes_ = eq-eqb k i same in
            let none = evaluated_none cs u i (rw (← same) o.0) in rw yes_ (omega (arith, none))
        | inr other ↦ let no_ = ne_eqb k i other in rw no_ (evaluated_once cs u i o.1 (in_rest k i (members cs) other h))
      ]
  evaluated_once (Aside k ∷ cs) u i o h =
      elim (cases_eq k i) [
        | inl same ↦
            let yes_ = eq-eqb k i same in
            let none = evaluated_none cs (suc u) i (rw (← same) o.0) in rw yes_ (omega (arith, none))
        | inr other ↦ let no_ = ne_eqb k i other in rw no_ (evaluated_once cs (suc u) i o.1 (in_rest k i (members cs) other h))
      ]

  onward_none : (cs : List Choice) (u i : ℕ) → count (evaluates i) (onwards free u cs) ≡ 0
  onward_none [] u i = refl
  onward_none (Direct k ∷ cs) u i = onward_none cs u i
  onward_none (Aside k ∷ cs) u i = onward_none cs (suc u) i

  none_go_on : (cs : List Choice) (u i : ℕ) → count (goes_on i) (evaluations free u cs) ≡ 0
  none_go_on [] u i = refl
  none_go_on (Direct k ∷ cs) u i = none_go_on cs u i
  none_go_on (Aside k ∷ cs) u i = none_go_on cs (suc u) i

  as_many : (cs : List Choice) (u i : ℕ) → count (goes_on i) (onwards free u cs) ≡ count (sets_aside i) (evaluations free u cs)
  as_many [] u i = refl
  as_many (Direct k ∷ cs) u i = as_many cs u i
  as_many (Aside k ∷ cs) u i = ap (λ n. cond (nat_eq k i) (suc n) n) (as_many cs (suc u) i)

  each_evaluation : (cs : List Choice) (u : ℕ) → AllBelow (length args) (members cs) → u + length cs ≤ length free
      → AllByRecursion (IsAct args P) (evaluations free u cs)
  each_evaluation [] u below room = tt
  each_evaluation (Direct k ∷ cs) u below room = (below.0, each_evaluation cs u below.1 (omega (arith, room)))
  each_evaluation (Aside k ∷ cs) u below room = ((below.0, are u (omega (arith, room))), each_evaluation cs (suc u) below.1 (omega (arith, room)))

  each_onward : (cs : List Choice) (u : ℕ) → AllBelow (length args) (members cs) → u + length cs ≤ length free
      → AllByRecursion (IsAct args P) (onwards free u cs)
  each_onward [] u below room = tt
  each_onward (Direct k ∷ cs) u below room = each_onward cs u below.1 (omega (arith, room))
  each_onward (Aside k ∷ cs) u below room = ((below.0, are u (omega (arith, room))), each_onward cs (suc u) below.1 (omega (arith, room)))

  pub planned : length free ≡ length args → IsPlan args P (acts free (all_choices args targets))
  planned f =
      let n : ℕ = length args in
      let W = uses_target args targets in
      let ws : List ℕ = numbers 0 n in
      let cs : List Choice = all_choices args targets in
      let inside : (j : ℕ) → has j (members cs) ≡ has j ws = choice_members W n ws (numbers_length 0 n) in
      let below : AllBelow n (members cs) = all_below n (members cs) (λ j e. below_in n ws (below_numbers n 0 n (omega arith)) j (sym (inside j) ∙ e)) in
      let once : Once (members cs) = choice_once W n ws (numbers_length 0 n) (rising_numbers n 0) in
      let l : length cs ≡ n = length_choices W n ws in
      record {
        each = All-append (IsAct args P) _ _ (All-from_recursion (IsAct args P) _ (each_evaluation cs 0 below (omega (arith, l, f))))
            (All-from_recursion (IsAct args P) _ (each_onward cs 0 below (omega (arith, l, f))));
        once = λ i h.
            let a = count_both (evaluates i) (evaluations free 0 cs) (onwards free 0 cs) in
            let b = evaluated_once cs 0 i once (inside i ∙ in_numbers n 0 i (omega arith) (omega (arith, h))) in
            let c = onward_none cs 0 i in omega (arith, a, b, c);
        onward = λ i h none.
            let a = count_both (sets_aside i) (evaluations free 0 cs) (onwards free 0 cs) in
            let b = count_both (goes_on i) (evaluations free 0 cs) (onwards free 0 cs) in
            let c = as_many cs 0 i in
            let d = none_go_on cs 0 i in omega (arith, a, b, c, d, none);
      }

-- nothing moves from one temporary to another
pub none_across : (free : List Place) (cs : List Choice) → count is_across (acts free cs) ≡ 0
none_across free cs = let a = count_both is_across (evaluations free 0 cs) (onwards free 0 cs) in let b = evaluated cs 0 in let c = moved_on cs 0 in omega (arith, a, b, c)
  where
    evaluated : (cs : List Choice) (u : ℕ) → count is_across (evaluations free u cs) ≡ 0
    evaluated [] u = refl
    evaluated (Direct k ∷ cs) u = evaluated cs u
    evaluated (Aside k ∷ cs) u = evaluated cs (suc u)

    moved_on : (cs : List Choice) (u : ℕ) → count is_across (onwards free u cs) ≡ 0
    moved_on [] u = refl
    moved_on (Direct k ∷ cs) u = moved_on cs u
    moved_on (Aside k ∷ cs) u = moved_on cs (suc u)

-- the moves of acts by free places
pub acts_move : (args : List Tree) (targets free : List Place) (list : List Act) → AllByRecursion (IsAct args (IsAmong free)) list
    → AllByRecursion (IsMove args targets free) (transfers args targets list)
acts_move args targets free [] h = tt
acts_move args targets free (direct k ∷ list) h = (record { within = h.0; takes = inl refl; goes = refl }, acts_move args targets free list h.1)
acts_move args targets free (aside k p ∷ list) h = (record { within = h.0.0; takes = inl refl; goes = h.0.1 }, acts_move args targets free list h.1)
acts_move args targets free (across k p q ∷ list) h = (record { within = h.0.0; takes = inr (p, h.0.1, refl); goes = h.0.2 }, acts_move args targets free list h.1)
acts_move args targets free (onward k p ∷ list) h = (record { within = h.0.0; takes = inr (p, h.0.1, refl); goes = refl }, acts_move args targets free list h.1)
