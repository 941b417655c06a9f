-- Acts over what arguments give by their numbers, however they give it.
use Rattle.std.specs.Prelude.{◌≡◌, ℕ, suc, ◌<◌, ◌≤◌, true, cond, List, [], ◌∷◌, length, Option}
use Rattle.sch_word.specs.declared.place.Place.{Place}
use Rattle.sch_word.specs.values.Values.{Value}
use Rattle.sch_shuffle.specs.Tree.{Tree, uses}
use Rattle.sch_word.specs.values.Places.{same_place}
use Rattle.sch_shuffle.specs.Assignment.{AreDistinct, AreSpare, operand_at, place_at, temps}
use Rattle.sch_shuffle.specs.Plans.{Act, direct, aside, across, onward}
use Rattle.sch_shuffle.specs.Greedy.{acts, all_choices, made, uses_target}

-- of which argument an act is
abbrev pub act_number : Act → ℕ
act_number (direct k) = k
act_number (aside k p) = k
act_number (across k p q) = k
act_number (onward k p) = k

-- `value` has what each argument gives, by its number, where places hold what they do
module _ {V : Type 0} (targets : List Place) (value : ℕ → (Place → V) → V) where
  -- where an act goes, and what it brings there
  abbrev pub goes_to : Act → Place
  goes_to (direct k) = place_at targets k
  goes_to (aside k p) = p
  goes_to (across k p q) = q
  goes_to (onward k p) = place_at targets k

  abbrev pub brings : Act → (Place → V) → V
  brings (direct k) s = value k s
  brings (aside k p) s = value k s
  brings (across k p q) s = s p
  brings (onward k p) s = s p

  -- what places hold after an act, and after acts one after the other
  abbrev pub acted : Act → (Place → V) → Place → V
  acted a s p = cond (same_place p (goes_to a)) (brings a s) (s p)

  abbrev pub after_acts : List Act → (Place → V) → Place → V
  after_acts [] s = s
  after_acts (a ∷ list) s = after_acts list (acted a s)

  -- each act brings, from now on, what its argument gave at the start
  abbrev pub EachBrings : (start now : Place → V) → List Act → Type 0
  EachBrings start now [] = Unit {0}
  EachBrings start now (a ∷ list) = (brings a now ≡ value (act_number a) start) × EachBrings start (acted a now) list

-- an argument gives the same where the places that its operand uses hold the same
abbrev pub Depends : {V : Type 0} → List Tree → (ℕ → (Place → V) → V) → Type 0
Depends {V} args value =
    (k : ℕ) (s t : Place → V) → ((p : Place) → uses (operand_at args k) p ≡ true → t p ≡ s p) → value k t ≡ value k s

-- The greedy acts bring to each target what its argument gave at the start, and each act brings what its argument gave then,
-- whatever places hold, be it a value or nothing that may be read, and however arguments give their values.
abbrev pub ActsBring : Type 0
ActsBring =
    (args : List Tree) (targets free : List Place) → length targets ≡ length args → length free ≡ length args
    → AreDistinct targets → AreDistinct free → AreSpare args targets free
    → (value : ℕ → (Place → Option Value) → Option Value) → Depends args value → (start : Place → Option Value)
    → EachBrings targets value start start (acts free (all_choices args targets))
    × ((k : ℕ) → k < length args → after_acts targets value (acts free (all_choices args targets)) start (place_at targets k) ≡ value k start)

-- Fewer arguments are set aside than there are, and no more than the first ones among which are all whose targets others use.
abbrev pub FewSetAside : Type 0
FewSetAside =
    (args : List Tree) (targets free : List Place)
    → ((n : ℕ) → length args ≡ suc n → temps (made args targets free) ≤ n)
    × ((m : ℕ) → ((i j : ℕ) → i < length args → j < length args → uses_target args targets i j ≡ true → j < m) → temps (made args targets free) ≤ m)
