-- The parts that objects take, one behind the other.
use Rattle.std.specs.Prelude.{◌≡◌, ℕ, suc, ◌-◌, ◌/◌, Bool, true, false, List, [], ◌∷◌, length}
use Rattle.std.specs.List.{list_all}
use Rattle.sch_word.specs.values.Values.{Object, pair, vector, string}
use Rattle.sch_word.specs.runs.Charges.{pair_bytes, vector_bytes, string_bytes}
use Rattle.sch_select_memory.specs.Parts.{Owner, a_procedure, a_cell, a_pair, a_vector, a_string, Part, Parts, spot}
use Rattle.sch_select_memory.specs.Heap.{owner_of}

-- what an object takes is what is charged for a new one
abbrev pub object_bytes : Object → ℕ
object_bytes (pair a d) = pair_bytes
object_bytes (vector elements) = vector_bytes (length elements)
object_bytes (string text) = string_bytes (length text)

-- the units of 16 bytes that an object takes beside one
abbrev pub object_more : Object → ℕ
object_more o = object_bytes o / 16 - 1

abbrev pub object_part : (n : ℕ) → Object → Part
object_part n o = record { owner = owner_of n o; more = object_more o }

-- the parts of objects that have the numbers from n on
abbrev pub object_parts : (n : ℕ) → List Object → List Part
object_parts n [] = []
object_parts n (o ∷ os) = object_part n o ∷ object_parts (suc n) os

-- The parts of objects that have the numbers from 0 on, where the first one begins at a unit. Words do not depend
-- on how many symbols there are.
abbrev pub parts_at : (first : ℕ) → List Object → Parts
parts_at first objects = record { first = first; list = object_parts 0 objects; symbols = 0 }

-- In some parts the objects are where they are in their own parts from a unit on.
pub record AreSpotted (parts : Parts) (first : ℕ) (objects : List Object) : Type 0 where
  pub pairs : (n : ℕ) → spot parts (a_pair n) ≡ spot (parts_at first objects) (a_pair n)
  pub vectors : (n : ℕ) → spot parts (a_vector n) ≡ spot (parts_at first objects) (a_vector n)
  pub strings : (n : ℕ) → spot parts (a_string n) ≡ spot (parts_at first objects) (a_string n)

-- whether parts are those of procedures and cells alone
abbrev pub is_no_object : Owner → Bool
is_no_object (a_procedure n) = true
is_no_object (a_cell n) = true
is_no_object _ = false

abbrev pub have_no_object : List Part → Bool
have_no_object parts = list_all (λ p. is_no_object p.owner) parts
