-- Numbers each of which stands no more often among some than among others: what is summed over them is no more.
use Rattle.std.proofs.Common.{◌≡◌, ℕ, ◌+◌, ◌≤◌, Bool, true, false, cond, List, [], ◌∷◌, length, map, refl, ap, ◌∙◌, arith}
use Rattle.std.specs.Prelude.{nat_eq}
use Rattle.std.specs.List.{count_by, sum_by}
use Rattle.std.proofs.lemmas.Bool.{eqb-true}
use Rattle.std.proofs.lemmas.List.{length-map}
use Rattle.std.proofs.lemmas.List.Sums.{sum_by-cons}
use Rattle.sch_word.proofs.facts.Occurrences.{one, one_same, times, times_cons}
use Rattle.sch_shuffle.specs.Greedy.{remove_first}

module _ (amount : ℕ → ℕ) where
  removed_sum : (x : ℕ) (ys : List ℕ) → 1 ≤ times x ys → sum_by amount ys ≡ amount x + sum_by amount (remove_first x ys)
  removed_sum x [] h = absurd (let none : times x [] ≡ 0 = refl in omega (arith, h, none))
  removed_sum x (y ∷ ys) h = by (nat_eq y x) refl (removed_sum x ys) where
    by : (b : Bool) → nat_eq y x ≡ b → (1 ≤ times x ys → sum_by amount ys ≡ amount x + sum_by amount (remove_first x ys)) → sum_by amount (y ∷ ys) ≡ amount x + sum_by amount (cond b ys (y ∷ remove_first x ys))
    by true e more = sum_by-cons amount y ys ∙ ap (λ z. amount z + sum_by amount ys) (eqb-true y x e)
    by false e more =
        let none : one x y ≡ 0 = ap (λ b. cond {A = ℕ} b 1 0) e in
        let rest = more (omega (arith, h, times_cons x y ys, none)) in
        omega (arith, rest, sum_by-cons amount y ys, sum_by-cons amount y (remove_first x ys))

pub sum_within : (amount : ℕ → ℕ) (xs ys : List ℕ) → ((k : ℕ) → times k xs ≤ times k ys) → sum_by amount xs ≤ sum_by amount ys
sum_within amount [] ys h = omega arith
sum_within amount (x ∷ xs) ys h =
    let there : 1 ≤ times x ys = (let m = h x in omega (arith, m, times_cons x x xs, one_same x)) in
    let more = sum_within amount xs (remove_first x ys) (λ k. let m = h k in let r = removed_sum (one k) x ys there in omega (arith, m, r, times_cons k x xs)) in
    let all = removed_sum amount x ys there in
    omega (arith, more, all, sum_by-cons amount x xs)

-- ## Lengths

counted : (xs : List ℕ) → sum_by (λ x. 1) xs ≡ length xs
counted [] = refl
counted (x ∷ xs) = let m = counted xs in omega (arith, m, sum_by-cons (λ x. 1) x xs)

keyed : (k : ℕ) (rows : List (ℕ × ℕ)) → times k (map (λ at. at.0) rows) ≡ count_by (λ at. nat_eq at.0 k) rows
keyed k [] = refl
keyed k (r ∷ rows) =
    let m = keyed k rows in
    let s = sum_by-cons (λ at. one k at.0) r rows in
    omega (arith, m, s, times_cons k r.0 (map (λ at. at.0) rows))

-- rows with a number each, which stands as often as among these numbers, are no more than they
pub rows_within : (rows : List (ℕ × ℕ)) (xs : List ℕ) → ((k : ℕ) → count_by (λ at. nat_eq at.0 k) rows ≡ count_by (λ x. nat_eq x k) xs) → length rows ≤ length xs
rows_within rows xs h =
    let numbers : List ℕ = map (λ at. at.0) rows in
    let less = sum_within (λ x. 1) numbers xs (λ k. let e = keyed k rows in let f = h k in omega (arith, e, f)) in
    omega (arith, less, counted numbers, counted xs, length-map rows (λ at. at.0))
