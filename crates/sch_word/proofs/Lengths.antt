-- How long the lists are that computations make.
use Rattle.std.proofs.Common.{◌≡◌, ℕ, zero, suc, List, [], ◌∷◌, length, refl, ap}
use Rattle.sch_word.specs.values.Values.{Value}
use Rattle.sch_word.specs.runs.Computation.{blanks, numbers_from, procedures_from, some_each, unset_each}

pub blanks_length : {A : Type 0} (xs : List A) → length (blanks xs) ≡ length xs
blanks_length [] = refl
blanks_length (x ∷ xs) = ap suc (blanks_length xs)

pub some_length : (vs : List Value) → length (some_each vs) ≡ length vs
some_length [] = refl
some_length (v ∷ vs) = ap suc (some_length vs)

pub unset_length : (n : ℕ) → length (unset_each n) ≡ n
unset_length zero = refl
unset_length (suc n) = ap suc (unset_length n)

pub numbers_length : {A : Type 0} (n : ℕ) (xs : List A) → length (numbers_from n xs) ≡ length xs
numbers_length n [] = refl
numbers_length n (x ∷ xs) = ap suc (numbers_length (suc n) xs)

pub procedures_length : (n m : ℕ) → length (procedures_from n m) ≡ m
procedures_length n zero = refl
procedures_length n (suc m) = ap suc (procedures_length (suc n) m)
