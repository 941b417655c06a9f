-- How often a number stands among some.
use Rattle.std.proofs.Common.{◌≡◌, ℕ, ◌+◌, ◌≤◌, Bool, true, false, cond, List, [], ◌∷◌, ◌++◌, refl, sym, ap, arith}
use Rattle.std.specs.Prelude.{nat_eq, ◌||◌}
use Rattle.std.specs.List.{count_by}
use Rattle.std.proofs.lemmas.Bool.{eqb-true, eqb-false}
use Rattle.std.proofs.lemmas.List.Sums.{sum_by-append, sum_by-cons}
use Rattle.sch_word.specs.trees.NumberSets.{has}
use Rattle.sch_word.proofs.facts.NumberTests.{differ, same, same_test}

abbrev pub one : ℕ → ℕ → ℕ
one k x = cond (nat_eq x k) 1 0

abbrev pub times : ℕ → List ℕ → ℕ
times k xs = count_by (λ x. nat_eq x k) xs

-- ## One number

pub one_same : (k : ℕ) → one k k ≡ 1
one_same k = rw (same k) refl

pub one_other : (k x : ℕ) → (x ≡ k → ⊥) → one k x ≡ 0
one_other k x h = rw (differ x k h) refl

pub one_alike : (k x j y : ℕ) → (x ≡ k → y ≡ j) → (y ≡ j → x ≡ k) → one k x ≡ one j y
one_alike k x j y f g = ap (λ b. cond {A = ℕ} b 1 0) (same_test x k y j f g)

-- ## Lists

pub times_cons : (k x : ℕ) (xs : List ℕ) → times k (x ∷ xs) ≡ one k x + times k xs
times_cons k x xs = sum_by-cons (one k) x xs

pub times_append : (k : ℕ) (xs ys : List ℕ) → times k (xs ++ ys) ≡ times k xs + times k ys
times_append k xs ys = sum_by-append (one k) xs ys

pub times_has : (k : ℕ) (xs : List ℕ) → has k xs ≡ true → 1 ≤ times k xs
times_has k [] h = absurd (cc)
times_has k (x ∷ xs) h = go (times_has k xs) (nat_eq k x) refl h
  where
    go : (has k xs ≡ true → 1 ≤ times k xs) → (b : Bool) → nat_eq k x ≡ b → (b || has k xs) ≡ true → 1 ≤ times k (x ∷ xs)
    go more true e h = let m = ap (one k) (sym (eqb-true k x e)) in omega (arith, times_cons k x xs, m, one_same k)
    go more false e h = let l = more h in omega (arith, times_cons k x xs, l)

pub times_none : (k : ℕ) (xs : List ℕ) → has k xs ≡ false → times k xs ≡ 0
times_none k [] h = refl
times_none k (x ∷ xs) h = go (times_none k xs) (nat_eq k x) refl h
  where
    go : (has k xs ≡ false → times k xs ≡ 0) → (b : Bool) → nat_eq k x ≡ b → (b || has k xs) ≡ false → times k (x ∷ xs) ≡ 0
    go more true e h = absurd (cc)
    go more false e h = let n = more h in omega (arith, times_cons k x xs, one_other k x (λ m. eqb-false k x e (sym m)), n)

pub has_times : (k : ℕ) (xs : List ℕ) → 1 ≤ times k xs → has k xs ≡ true
has_times k xs l = go (has k xs) refl
  where
    go : (b : Bool) → has k xs ≡ b → b ≡ true
    go true e = refl
    go false e = absurd (let n = times_none k xs e in omega (arith, n, l))
