-- The parts of a heap, each with its owner, in the order of their making.
use Rattle.std.specs.Prelude.{ℕ, suc, ◌+◌, Bool, false, cond, nat_eq, List, [], ◌∷◌, ◌++◌, Option, Some, None}

-- whose a part is: a procedure's record, the cell of a variable, or an object of a kind, by its number
pub data Owner : Type 0 where
  a_procedure : ℕ → Owner
  a_cell : ℕ → Owner
  a_pair : ℕ → Owner
  a_vector : ℕ → Owner
  a_string : ℕ → Owner

abbrev pub same_owner : Owner → Owner → Bool
same_owner (a_procedure m) (a_procedure n) = nat_eq m n
same_owner (a_cell m) (a_cell n) = nat_eq m n
same_owner (a_pair m) (a_pair n) = nat_eq m n
same_owner (a_vector m) (a_vector n) = nat_eq m n
same_owner (a_string m) (a_string n) = nat_eq m n
same_owner _ _ = false

-- a part takes a unit of 16 bytes, and perhaps more
pub record Part : Type 0 where
  pub owner : Owner
  pub more : ℕ

-- the units before the first part, and the parts one behind the other; how many symbols there are, which have no parts
pub record Parts : Type 0 where
  pub first : ℕ
  pub list : List Part
  pub symbols : ℕ

-- how many units some parts take
abbrev pub units : List Part → ℕ
units [] = 0
units (p ∷ parts) = suc p.more + units parts

-- the units before the next part
abbrev pub end_of : Parts → ℕ
end_of parts = parts.first + units parts.list

-- where a part is: the units before it, and how many it has beside one
pub record Spot : Type 0 where
  pub unit : ℕ
  pub more : ℕ

-- A part depends only on those before it, so it stays where it is.
abbrev pub spot_from : (unit : ℕ) → List Part → Owner → Option Spot
spot_from unit [] o = None
spot_from unit (p ∷ parts) o = cond (same_owner p.owner o) (Some (record { unit = unit; more = p.more })) (spot_from (unit + suc p.more) parts o)

abbrev pub spot : Parts → Owner → Option Spot
spot parts o = spot_from parts.first parts.list o

-- more parts behind the others
abbrev pub grown : Parts → List Part → Parts
grown parts others = record parts { list = parts.list ++ others }
