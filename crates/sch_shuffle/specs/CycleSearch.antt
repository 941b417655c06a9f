-- How rings, of the numbers of arguments, and their cycles, of the targets of these, are found: from each argument on, to
-- the argument in whose target it stands.
use Rattle.std.specs.Prelude.{ℕ, zero, suc, ◌+◌, Bool, false, cond, ◌&&◌, nat_eq, nat_le, nat_lt, List, [], ◌∷◌, length, map}
use Rattle.std.specs.List.{list_all}
use Rattle.std.specs.Fn.{iterate}
use Rattle.sch_word.specs.trees.Bindings.{numbers}
use Rattle.sch_word.specs.declared.place.Place.{Place}
use Rattle.sch_shuffle.specs.Tree.{Tree, place, fixed, literal, read}
use Rattle.sch_word.specs.values.Places.{same_place}
use Rattle.sch_shuffle.specs.Assignment.{operand_at, place_at}

abbrev pub stands_in : Tree → Place → Bool
stands_in (place q) p = same_place q p
stands_in (fixed n) p = false
stands_in (literal k) p = false
stands_in (read primitive xs) p = false

-- the first of n numbers from j on that passes, or the number behind them
abbrev pub first : (ℕ → Bool) → (n j : ℕ) → ℕ
first test zero j = j
first test (suc n) j = cond (test j) j (first test n (j + 1))

-- the argument in whose target argument i stands, or the count of all where there is none
abbrev pub successor : List Tree → List Place → ℕ → ℕ
successor args targets i = first (λ j. stands_in (operand_at args i) (place_at targets j)) (length targets) 0

-- x, and where one comes to, m of them
abbrev pub path : (ℕ → ℕ) → (m x : ℕ) → List ℕ
path S zero x = []
path S (suc m) x = x ∷ path S m (S x)

-- after how many of at most n steps one first comes back to k; n + 1 where one does not
abbrev pub period : (ℕ → ℕ) → (n k : ℕ) → ℕ
period S n k = first (λ a. nat_eq (iterate S a k) k) n 1

-- The first m from k on, where m is at most n and each of them is from k to n. Neither follows from the other: S may
-- turn below n and never come back to k, and it may come back by a number that is no argument.
abbrev pub within : (ℕ → ℕ) → (n k m : ℕ) → List ℕ
within S n k m = cond (nat_le m n && list_all (λ j. nat_le k j && nat_lt j n) (path S m k)) (path S m k) []

-- the path from k till it comes back to k, if it does, k is the least on it, and all are below n
abbrev pub ring : (ℕ → ℕ) → (n k : ℕ) → List ℕ
ring S n k = within S n k (period S n k)

abbrev pub is_ring : List ℕ → Bool
is_ring ks = nat_lt 1 (length ks)

abbrev pub rings : (ℕ → ℕ) → ℕ → List ℕ → List (List ℕ)
rings S n [] = []
rings S n (k ∷ ks) = cond (is_ring (ring S n k)) (ring S n k ∷ rings S n ks) (rings S n ks)

abbrev pub all_rings : List Tree → List Place → List (List ℕ)
all_rings args targets = rings (successor args targets) (length targets) (numbers 0 (length targets))

abbrev pub places_at : List Place → List ℕ → List Place
places_at targets ks = map (place_at targets) ks

abbrev pub cycles : List Tree → List Place → List (List Place)
cycles args targets = map (places_at targets) (all_rings args targets)
