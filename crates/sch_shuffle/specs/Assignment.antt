-- Moves that assign every argument to its target at once (PLDI 1995: Burger, Waddell and Dybvig, "greedy shuffling").
use Rattle.std.specs.Prelude.{◌≡◌, ◌≢◌, ℕ, suc, ◌<◌, Bool, false, cond, List, [], ◌∷◌, ◌++◌, length, Option}
use Rattle.std.specs.List.{slice_index_or}
use Rattle.sch_word.specs.declared.place.Place.{Place}
use Rattle.sch_word.specs.declared.place.Place.TheVariants.{Reg}
use Rattle.sch_word.specs.values.Values.{Value}
use Rattle.sch_shuffle.specs.Tree.{Tree, fixed, uses}
use Rattle.sch_word.specs.values.Places.{same_place}
use Rattle.sch_shuffle.specs.Meaning.{Reading, given}

abbrev pub operand_at : List Tree → ℕ → Tree
operand_at args i = slice_index_or args i (fixed 0)

abbrev pub place_at : List Place → ℕ → Place
place_at places i = slice_index_or places i (Reg 0)

-- A move of an argument's value from an operand to a place; `temp` says whether the place is a temporary, from
-- which the value moves on.
pub record Transfer : Type 0 where
  pub from : Tree
  pub to : Place
  pub argument : ℕ
  pub temp : Bool

-- what places hold after a move, and after moves one after the other
abbrev pub moved : {V : Type 0} → Reading V → Transfer → (Place → V) → Place → V
moved r t s p = cond (same_place p t.to) (given r s t.from) (s p)

abbrev pub after : {V : Type 0} → Reading V → List Transfer → (Place → V) → Place → V
after r [] s = s
after r (t ∷ ts) s = after r ts (moved r t s)

-- ## What moves do

-- after the moves each target holds what its argument gave before them
abbrev pub Assigns : {V : Type 0} → Reading V → List Tree → List Place → List Transfer → Type 0
Assigns {V} r args targets ts =
    (s : Place → V) (i : ℕ) → i < length args → after r ts s (place_at targets i) ≡ given r s (operand_at args i)

-- each move takes, after those before it, what its argument gave before them all
abbrev pub Carries : {V : Type 0} → Reading V → List Tree → List Transfer → Type 0
Carries {V} r args ts =
    (s : Place → V) (before later : List Transfer) (t : Transfer) → ts ≡ before ++ t ∷ later
    → given r (after r before s) t.from ≡ given r s (operand_at args t.argument)

-- both, whatever places hold, be it a value or nothing that may be read, and however operands are read
abbrev pub AlwaysAssigns : List Tree → List Place → List Transfer → Type 0
AlwaysAssigns args targets ts = (r : Reading (Option Value)) → Assigns r args targets ts

abbrev pub AlwaysCarries : List Tree → List Transfer → Type 0
AlwaysCarries args ts = (r : Reading (Option Value)) → Carries r args ts

-- ## Places

abbrev pub AreDistinct : List Place → Type 0
AreDistinct places = (i j : ℕ) → i < length places → j < length places → place_at places i ≡ place_at places j → i ≡ j

-- one of these places
abbrev pub IsAmong : List Place → Place → Type 0
IsAmong places p = (u : ℕ) × (u < length places) × (p ≡ place_at places u)

-- a place that is no target and that no argument uses
abbrev pub IsSpare : List Tree → List Place → Place → Type 0
IsSpare args targets p = (i : ℕ) → i < length args → (place_at targets i ≢ p) × (uses (operand_at args i) p ≡ false)

abbrev pub AreSpare : List Tree → List Place → List Place → Type 0
AreSpare args targets places = (u : ℕ) → u < length places → IsSpare args targets (place_at places u)

-- how many moves are into a temporary
abbrev pub temps : List Transfer → ℕ
temps [] = 0
temps (t ∷ ts) = cond t.temp (suc (temps ts)) (temps ts)
