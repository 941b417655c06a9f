-- Lists in which each number below their length stands once; and what is bound and then the others.
use Rattle.std.proofs.Common.{◌≡◌, ℕ, zero, suc, ◌+◌, ◌<◌, ◌≤◌, Bool, true, false, cond, List, [], ◌∷◌, ◌++◌, length, refl, sym, ap, ◌∙◌, arith, length-append}
use Rattle.std.specs.Prelude.{nat_eq, nat_lt}
use Rattle.std.specs.List.{count_by}
use Rattle.std.proofs.lemmas.Bool.{eqb-true, eqb-false}
use Rattle.std.proofs.lemmas.Bool.Decides.{nat_tests}
use Rattle.std.proofs.lemmas.List.Sums.{count_by-le-length, sum_by-append, sum_by-cons}
use Rattle.sch_word.specs.trees.Bindings.{numbers}
use Rattle.sch_word.specs.trees.NumberSets.{has, unless}
use Rattle.sch_word.specs.runs.Orders.{is_permutation}
use Rattle.sch_word.proofs.facts.Occurrences.{one, times, times_append, times_cons, times_none}
use Rattle.sch_control.specs.OrderTable.{given_order, others}
use Rattle.sch_control.proofs.FittingTable.{times_others}
use Rattle.sch_control.proofs.NumberRows.{permuted, permutation_times, permutation_length}
use Rattle.sch_orders.specs.ListedTable.{evaluated}

-- ## How many of some numbers are below another one

abbrev small : ℕ → ℕ → ℕ
small n x = cond (nat_lt x n) 1 0

abbrev below : ℕ → List ℕ → ℕ
below n xs = count_by (λ x. nat_lt x n) xs

below_cons : (n x : ℕ) (xs : List ℕ) → below n (x ∷ xs) ≡ small n x + below n xs
below_cons n x xs = sum_by-cons (small n) x xs

below_append : (n : ℕ) (xs ys : List ℕ) → below n (xs ++ ys) ≡ below n xs + below n ys
below_append n xs ys = sum_by-append (small n) xs ys

none_below : (xs : List ℕ) → below 0 xs ≡ 0
none_below [] = refl
none_below (x ∷ xs) =
    let h = none_below xs in
    let none : small 0 x ≡ 0 = grind (arith, nat_tests) in omega (arith, h, none, below_cons 0 x xs)

small_next : (n x : ℕ) → small (suc n) x ≡ one n x + small n x
small_next n x = grind (arith, nat_tests)

below_next : (n : ℕ) (xs : List ℕ) → below (suc n) xs ≡ times n xs + below n xs
below_next n [] = refl
below_next n (x ∷ xs) = let h = below_next n xs in omega (arith, h, small_next n x, below_cons (suc n) x xs, times_cons n x xs, below_cons n x xs)

-- ## Each number below n

all_below : (n : ℕ) (xs : List ℕ) → ((k : ℕ) → k < n → times k xs ≡ 1) → below n xs ≡ n
all_below zero xs h = none_below xs
all_below (suc n) xs h = let m = all_below n xs (λ k l. h k (omega (arith, l))) in let t = h n (omega arith) in omega (arith, m, t, below_next n xs)

most_below : (n : ℕ) (xs : List ℕ) → ((k : ℕ) → k < n → 1 ≤ times k xs) → n ≤ below n xs
most_below zero xs h = omega arith
most_below (suc n) xs h = let m = most_below n xs (λ k l. h k (omega (arith, l))) in let t = h n (omega arith) in omega (arith, m, t, below_next n xs)

-- one that stands there more often makes them more
more_below : (n : ℕ) (xs : List ℕ) → ((k : ℕ) → k < n → 1 ≤ times k xs) → (k : ℕ) → k < n → n + times k xs ≤ suc (below n xs)
more_below zero xs h k l = absurd (omega (arith, l))
more_below (suc n) xs h k l = by (nat_eq k n) refl (λ m. more_below n xs (λ j b. h j (omega (arith, b))) k m)
  where
    by : (b : Bool) → nat_eq k n ≡ b → (k < n → n + times k xs ≤ suc (below n xs)) → suc n + times k xs ≤ suc (below (suc n) xs)
    by true e more =
        let same = ap (λ j. times j xs) (eqb-true k n e) in
        let m = most_below n xs (λ j b. h j (omega (arith, b))) in omega (arith, same, m, below_next n xs)
    by false e more = let m = more (omega (arith, l, eqb-false k n e)) in let t = h n (omega arith) in omega (arith, m, t, below_next n xs)

-- ## Permutations

-- as many numbers as there are below their number, among which each of those stands
pub each_once : (n : ℕ) (xs : List ℕ) → length xs ≡ n → ((k : ℕ) → k < n → 1 ≤ times k xs) → is_permutation n xs ≡ true
each_once n xs whole there =
    permuted n xs whole (λ k l.
    let more = more_below n xs there k l in
    let t = there k l in
    let few = count_by-le-length (λ x. nat_lt x n) xs in omega (arith, more, t, few, whole))

-- ## What is not among some numbers

-- all of them are below n where all of the list are
others_below : (n : ℕ) (parts ks : List ℕ) → below n ks ≡ length ks → below n (others parts ks) ≡ length (others parts ks)
others_below n parts [] h = refl
others_below n parts (x ∷ ks) h =
    let few = count_by-le-length (λ x. nat_lt x n) ks in
    let c = below_cons n x ks in
    by (nat_lt x n) refl (others_below n parts ks) few c
  where
    by : (b : Bool) → nat_lt x n ≡ b → (below n ks ≡ length ks → below n (others parts ks) ≡ length (others parts ks)) → below n ks ≤ length ks → below n (x ∷ ks) ≡ small n x + below n ks → below n (others parts (x ∷ ks)) ≡ length (others parts (x ∷ ks))
    by false e more few c = let s : small n x ≡ 0 = rw e refl in absurd (omega (arith, few, c, s, h))
    by true e more few c =
        let s : small n x ≡ 1 = rw e refl in
        keep (has x parts) (more (omega (arith, c, s, h))) (omega (arith, s, below_cons n x (others parts ks)))
      where
        keep : (b : Bool) → below n (others parts ks) ≡ length (others parts ks) → below n (x ∷ others parts ks) ≡ suc (below n (others parts ks))
            → below n (unless b x (others parts ks)) ≡ length (unless b x (others parts ks))
        keep true h c = h
        keep false h c = omega (arith, h, c)

-- ## What is bound, and then the others

module _ (n : ℕ) (bound moved : List ℕ) (given : is_permutation n (given_order n bound) ≡ true) (m : is_permutation n moved ≡ true) where
  bound_times : (k : ℕ) → k < n → times k bound ≡ cond (has k bound) 1 0
  bound_times k l =
      let t = permutation_times n (given_order n bound) given k l in
      by (has k bound) refl t (times_append k bound (others bound (numbers 0 n))) (times_others k bound (numbers 0 n))
    where
      by : (b : Bool) → has k bound ≡ b → times k (given_order n bound) ≡ 1 → times k (given_order n bound) ≡ times k bound + times k (others bound (numbers 0 n))
          → times k (others bound (numbers 0 n)) ≡ cond (has k bound) 0 (times k (numbers 0 n)) → times k bound ≡ cond {A = ℕ} b 1 0
      by true e t a o = let z : times k (others bound (numbers 0 n)) ≡ 0 = o ∙ rw e refl in omega (arith, t, a, z)
      by false e t a o = times_none k bound e

  evaluated_times : (k : ℕ) → k < n → times k (evaluated bound moved) ≡ 1
  evaluated_times k l =
      by (has k bound) refl (bound_times k l) (times_others k bound moved) (permutation_times n moved m k l) (times_append k bound (others bound moved))
    where
      by : (b : Bool) → has k bound ≡ b → times k bound ≡ cond (has k bound) 1 0 → times k (others bound moved) ≡ cond (has k bound) 0 (times k moved)
          → times k moved ≡ 1 → times k (evaluated bound moved) ≡ times k bound + times k (others bound moved) → times k (evaluated bound moved) ≡ 1
      by true e p o t a = let x : times k bound ≡ 1 = p ∙ rw e refl in let z : times k (others bound moved) ≡ 0 = o ∙ rw e refl in omega (arith, a, x, z)
      by false e p o t a = let x : times k bound ≡ 0 = p ∙ rw e refl in let z : times k (others bound moved) ≡ times k moved = o ∙ rw e refl in omega (arith, a, x, z, t)

  bound_below : below n bound ≡ length bound
  bound_below =
      let all = all_below n (given_order n bound) (permutation_times n (given_order n bound) given) in
      let long = permutation_length n (given_order n bound) given in
      let a = below_append n bound (others bound (numbers 0 n)) in
      let b = length-append bound (others bound (numbers 0 n)) in
      let few = count_by-le-length (λ x. nat_lt x n) bound in
      let rest = count_by-le-length (λ x. nat_lt x n) (others bound (numbers 0 n)) in omega (arith, all, long, a, b, few, rest)

  moved_below : below n moved ≡ length moved
  moved_below = all_below n moved (permutation_times n moved m) ∙ sym (permutation_length n moved m)

  pub evaluated_once : is_permutation n (evaluated bound moved) ≡ true
  evaluated_once =
      permuted n (evaluated bound moved)
      (let all = all_below n (evaluated bound moved) evaluated_times in
      let a = below_append n bound (others bound moved) in
      let b = length-append bound (others bound moved) in
      let x = bound_below in
      let y = others_below n bound moved moved_below in omega (arith, all, a, b, x, y))
      evaluated_times
