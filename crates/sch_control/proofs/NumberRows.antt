-- Tests of each number of a row, and the orders of a row.
use Rattle.std.proofs.Common.{◌≡◌, ℕ, zero, suc, ◌+◌, ◌<◌, ◌≤◌, Bool, true, false, List, length, refl, ap, ◌∙◌, arith}
use Rattle.std.specs.Prelude.{nat_eq}
use Rattle.std.specs.List.{list_all}
use Rattle.std.proofs.lemmas.Bool.{eq-eqb, eqb-true, eqb-false}
use Rattle.sch_word.specs.trees.Bindings.{numbers}
use Rattle.sch_word.specs.runs.Orders.{is_permutation}
use Rattle.sch_word.proofs.facts.Booleans.{and_of, and_parts}
use Rattle.sch_word.proofs.facts.Occurrences.{times}

-- ## Each number of a row

pub all_numbers : (f : ℕ → Bool) (x n : ℕ) → ((k : ℕ) → k < x + n → f k ≡ true) → list_all f (numbers x n) ≡ true
all_numbers f x zero h = refl
all_numbers f x (suc n) h = and_of (f x) (list_all f (numbers (suc x) n)) (h x (omega arith)) (all_numbers f (suc x) n (λ k l. h k (omega (arith, l))))

pub each_number : (f : ℕ → Bool) (x n k : ℕ) → list_all f (numbers x n) ≡ true → x ≤ k → k < x + n → f k ≡ true
each_number f x zero k h from to = absurd (omega (arith, from, to))
each_number f x (suc n) k h from to = by (nat_eq k x) refl (λ m. each_number f (suc x) n k parts.1 m (omega (arith, to)))
  where
    parts : (f x ≡ true) × (list_all f (numbers (suc x) n) ≡ true)
    parts = and_parts (f x) (list_all f (numbers (suc x) n)) h

    by : (b : Bool) → nat_eq k x ≡ b → (suc x ≤ k → f k ≡ true) → f k ≡ true
    by true e later = ap f (eqb-true k x e) ∙ parts.0
    by false e later = later (omega (arith, from, eqb-false k x e))

-- ## Permutations

-- as many numbers as there are, among which each of the row stands once
pub permuted : (n : ℕ) (xs : List ℕ) → length xs ≡ n → ((k : ℕ) → k < n → times k xs ≡ 1) → is_permutation n xs ≡ true
permuted n xs whole once =
    and_of (nat_eq (length xs) n) (list_all (λ k. nat_eq (times k xs) 1) (numbers 0 n)) (eq-eqb (length xs) n whole)
    (all_numbers (λ k. nat_eq (times k xs) 1) 0 n (λ k l. eq-eqb (times k xs) 1 (once k (omega (arith, l)))))

pub permutation_length : (n : ℕ) (xs : List ℕ) → is_permutation n xs ≡ true → length xs ≡ n
permutation_length n xs h = eqb-true (length xs) n (and_parts (nat_eq (length xs) n) (list_all (λ k. nat_eq (times k xs) 1) (numbers 0 n)) h).0

-- each number of the row stands once in it
pub permutation_times : (n : ℕ) (xs : List ℕ) → is_permutation n xs ≡ true → (k : ℕ) → k < n → times k xs ≡ 1
permutation_times n xs h k l =
    eqb-true (times k xs) 1
    (each_number (λ k. nat_eq (times k xs) 1) 0 n k (and_parts (nat_eq (length xs) n) (list_all (λ k. nat_eq (times k xs) 1) (numbers 0 n)) h).1 (omega arith) (omega (arith, l)))
