-- Rings of arguments, by their numbers, and cycles, of their targets: the argument of each stands in the next, and that of
-- the last in the first.
use Rattle.std.specs.Prelude.{◌≡◌, ◌≢◌, ℕ, ◌+◌, ◌-◌, ◌<◌, ◌≤◌, List, [], length, map, slice_index}
use Rattle.std.specs.List.{slice_index_or}
use Rattle.sch_word.specs.declared.place.Place.{Place}
use Rattle.sch_shuffle.specs.Tree.{Tree, place}
use Rattle.sch_shuffle.specs.Assignment.{operand_at, place_at}

-- At least two arguments, by their numbers, each of which is what the target of the next holds, and the
-- last what the target of the first holds. The first has the least number.
pub record IsRing (args : List Tree) (targets : List Place) (ks : List ℕ) : Type 0 where
  pub two : 2 ≤ length ks
  pub within : (a : ℕ) → a < length ks → slice_index ks a < length args
  pub distinct : (a b : ℕ) → a < length ks → b < length ks → slice_index ks a ≡ slice_index ks b → a ≡ b
  pub links : (a : ℕ) → a + 1 < length ks → operand_at args (slice_index ks a) ≡ place (place_at targets (slice_index ks (a + 1)))
  pub closes : operand_at args (slice_index ks (length ks - 1)) ≡ place (place_at targets (slice_index ks 0))
  pub least : (a : ℕ) → a < length ks → slice_index ks 0 ≤ slice_index ks a

-- a cycle is the list of the targets of such arguments
abbrev pub IsCycle : List Tree → List Place → List Place → Type 0
IsCycle args targets c = (ks : List ℕ) × IsRing args targets ks × (c ≡ map (place_at targets) ks)

-- the lists are exactly the cycles, each once, by their least arguments
pub record AreTheCycles (args : List Tree) (targets : List Place) (cs : List (List Place)) : Type 0 where
  pub sound : (a : ℕ) → a < length cs → IsCycle args targets (slice_index_or cs a [])
  pub complete : (c : List Place) → IsCycle args targets c → (a : ℕ) × (a < length cs) × (slice_index_or cs a [] ≡ c)
  pub once : (a b : ℕ) → a < b → b < length cs → slice_index_or cs a [] ≢ slice_index_or cs b []
  pub ordered : (a b : ℕ) → a < b → b < length cs
      → (i j : ℕ) × (i < j) × (j < length args) × (place_at (slice_index_or cs a []) 0 ≡ place_at targets i)
      × (place_at (slice_index_or cs b []) 0 ≡ place_at targets j)
