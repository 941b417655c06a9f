-- Finite sets of numbers, as lists without repeats.
use Rattle.std.specs.Prelude.{◌≡◌, ℕ, Bool, true, false, ◌||◌, ◌&&◌, not, nat_eq, List, [], ◌∷◌}

abbrev pub has : ℕ → List ℕ → Bool
has x [] = false
has x (y ∷ ys) = nat_eq x y || has x ys

abbrev pub In : ℕ → List ℕ → Type 0
In x xs = has x xs ≡ true

abbrev pub unless : Bool → ℕ → List ℕ → List ℕ
unless true x xs = xs
unless false x xs = x ∷ xs

-- the set with one number more
abbrev pub insert : ℕ → List ℕ → List ℕ
insert x xs = unless (has x xs) x xs

abbrev pub union : List ℕ → List ℕ → List ℕ
union [] ys = ys
union (x ∷ xs) ys = insert x (union xs ys)

-- whether a list is such a set: all its numbers are different
abbrev pub without_repeats : List ℕ → Bool
without_repeats [] = true
without_repeats (x ∷ xs) = not (has x xs) && without_repeats xs
