-- Lists of moves that evaluate each argument once, and the fewest moves into temporaries.
use Rattle.std.specs.Prelude.{◌≡◌, ℕ, suc, ◌<◌, ◌≤◌, Bool, true, false, cond, nat_eq, List, [], ◌∷◌, length, map, All, ◌⊎◌}
use Rattle.std.specs.Bool.{MatchBool}
use Rattle.sch_word.specs.declared.place.Place.{Place}
use Rattle.sch_shuffle.specs.Tree.{Tree, place, fixed, literal, read}
use Rattle.sch_shuffle.specs.Assignment.{operand_at, place_at, Transfer, AlwaysAssigns, IsAmong, IsSpare, temps}

-- What is done with an argument, by its number: it is evaluated to its target, or to a temporary; or it moves across,
-- from one temporary to another; or it goes on from a temporary to its target.
pub data Act : Type 0 where
  direct : ℕ → Act
  aside : ℕ → Place → Act
  across : ℕ → Place → Place → Act
  onward : ℕ → Place → Act

abbrev pub transfer : List Tree → List Place → Act → Transfer
transfer args targets (direct k) = record { from = operand_at args k; to = place_at targets k; argument = k; temp = false }
transfer args targets (aside k p) = record { from = operand_at args k; to = p; argument = k; temp = true }
transfer args targets (across k p q) = record { from = place p; to = q; argument = k; temp = true }
transfer args targets (onward k p) = record { from = place p; to = place_at targets k; argument = k; temp = false }

abbrev pub transfers : List Tree → List Place → List Act → List Transfer
transfers args targets acts = map (transfer args targets) acts

-- whether an act evaluates argument i, sets it aside, or lets it go on
abbrev pub evaluates : ℕ → Act → Bool
evaluates i (direct k) = nat_eq k i
evaluates i (aside k p) = nat_eq k i
evaluates i _ = false

abbrev pub sets_aside : ℕ → Act → Bool
sets_aside i (aside k p) = nat_eq k i
sets_aside i _ = false

abbrev pub goes_on : ℕ → Act → Bool
goes_on i (onward k p) = nat_eq k i
goes_on i _ = false

abbrev pub is_across : Act → Bool
is_across (across k p q) = true
is_across _ = false

abbrev pub count : (Act → Bool) → List Act → ℕ
count f [] = 0
count f (a ∷ acts) = cond (f a) (suc (count f acts)) (count f acts)

-- an act is of an argument that there is, by temporaries of this kind
abbrev pub IsAct : List Tree → (Place → Type 0) → Act → Type 0
IsAct args IsTemporary (direct k) = k < length args
IsAct args IsTemporary (aside k p) = (k < length args) × IsTemporary p
IsAct args IsTemporary (across k p q) = (k < length args) × IsTemporary p × IsTemporary q
IsAct args IsTemporary (onward k p) = (k < length args) × IsTemporary p

-- each argument is evaluated once, to its target or to a temporary of this kind, and goes on only from a temporary
pub record IsPlan (args : List Tree) (IsTemporary : Place → Type 0) (acts : List Act) : Type 0 where
  pub each : All (IsAct args IsTemporary) acts
  pub once : (i : ℕ) → i < length args → count (evaluates i) acts ≡ 1
  pub onward : (i : ℕ) → i < length args → count (sets_aside i) acts ≡ 0 → count (goes_on i) acts ≡ 0

-- the moves are those of a plan whose temporaries are free places, and by which nothing moves across
abbrev pub ArePlanned : List Tree → List Place → List Place → List Transfer → Type 0
ArePlanned args targets free ts =
    (acts : List Act) × IsPlan args (IsAmong free) acts × (count is_across acts ≡ 0) × (ts ≡ transfers args targets acts)

-- A move is of an argument that there is. It takes the argument, or what a free place holds, and goes to a free
-- place, where that is a temporary, or else to the argument's target.
pub record IsMove (args : List Tree) (targets free : List Place) (t : Transfer) : Type 0 where
  pub within : t.argument < length args
  pub takes : (t.from ≡ operand_at args t.argument) ⊎ ((p : Place) × IsAmong free p × (t.from ≡ place p))
  pub goes : MatchBool t.temp (IsAmong free t.to) (t.to ≡ place_at targets t.argument)

-- ## The fewest temporaries

-- what no primitive reads: a place, a word or a literal
abbrev pub IsAtom : Tree → Type 0
IsAtom (place p) = Unit {0}
IsAtom (fixed n) = Unit {0}
IsAtom (literal k) = Unit {0}
IsAtom (read primitive xs) = ⊥

abbrev pub AreAtoms : List Tree → Type 0
AreAtoms args = (i : ℕ) → i < length args → IsAtom (operand_at args i)

-- every plan whose moves always assign has at least n moves into a temporary, those across among them
abbrev pub NeedsTemporaries : List Tree → List Place → ℕ → Type 0
NeedsTemporaries args targets n =
    (acts : List Act) → IsPlan args (IsSpare args targets) acts → AlwaysAssigns args targets (transfers args targets acts)
    → n ≤ temps (transfers args targets acts)
