-- Sets of numbers, and the set that words of 64 bits hold.
use Rattle.std.specs.Prelude.{◌≡◌, ℕ, ◌*◌, ◌/◌, ◌%◌, ◌<◌, ◌≤◌, Bool, true, cond, List, slice_index, length, nat_eq, suc, zero}
use Rattle.std.specs.Int.{bit_at}
use Rattle.std.specs.Ordering.{nat_cmp}
use Rattle.std.specs.FinSet as set

-- a finite set of numbers, whatever holds it
abbrev pub NumberSet : Type 0
NumberSet = set.FinSet nat_cmp

-- a number is in a set
abbrev pub IsMember : ℕ → NumberSet → Type 0
IsMember v s = set.contains s v ≡ true

-- some number is in a set
abbrev pub HasMember : NumberSet → Type 0
HasMember s = (v : ℕ) × IsMember v s

-- each member of the first set is in the second
abbrev pub IsSubset : NumberSet → NumberSet → Type 0
IsSubset s t = (v : ℕ) → IsMember v s → IsMember v t

-- each member is below a bound
abbrev pub IsBelow : ℕ → NumberSet → Type 0
IsBelow bound s = (v : ℕ) → IsMember v s → v < bound

-- no member is one of the numbers from `low` on and below `high`
abbrev pub HasNone : (low high : ℕ) → NumberSet → Type 0
HasNone low high s = (v : ℕ) → low ≤ v → v < high → IsMember v s → ⊥

-- the least member of those numbers
abbrev pub IsFirst : (low high : ℕ) → NumberSet → ℕ → Type 0
IsFirst low high s v = (low ≤ v) × ((v < high) × (IsMember v s × HasNone low v s))

-- the bit of a number is set: in word v / 64, bit v % 64
unfoldable pub has_bit : List ℕ → ℕ → Bool
has_bit words v = nat_eq (bit_at (slice_index words (v / 64)) (v % 64)) 1

-- the numbers below a bound that pass a test
unfoldable pub numbers_below : ℕ → (ℕ → Bool) → NumberSet
numbers_below zero test = set.empty
numbers_below (suc n) test = cond (test n) (set.insert (numbers_below n test) n) (numbers_below n test)

-- the numbers whose bits are set
unfoldable pub numbers_in : List ℕ → NumberSet
numbers_in words = numbers_below (64 * length words) (has_bit words)
