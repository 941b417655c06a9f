-- What the walk over a body keeps, as the table that it stands for.
use Rattle.std.specs.Prelude.{◌≡◌, ◌+◌, ◌<◌, ◌^◌, slice_index_or, slice_set, ℕ, Bool, false, ◌||◌, ◌&&◌, nat_eq, not, cond, filter, List, [], ◌∷◌}
use Rattle.std.specs.FinSet as set
use Rattle.sch_word.specs.declared.place.Place.{Place}
use Rattle.sch_word.specs.declared.place.Place.TheVariants.{Reg}
use Rattle.sch_word.specs.values.Places.{same_place}
use Rattle.sch_sets.specs.Members.{NumberSet}
use Rattle.sch_regs.specs.PlaceChoice.{Table, slots, in_order, choose_each, live_first}
use Rattle.sch_regs.specs.declared.placing.Placing.{Placing}
use Rattle.sch_word.specs.values.Registers.{argument_registers}

-- a variable is in that register, by some entry of the table
abbrev pub holds : Table → (register : ℕ) → ℕ → Bool
holds [] r x = false
holds (w ∷ t) r x = (nat_eq x w.0 && same_place w.1 (Reg r)) || holds t r x

-- a set has the variables that are in a register
abbrev pub IsHeld : Table → (register : ℕ) → NumberSet → Type 0
IsHeld t r s = (x : ℕ) → set.contains s x ≡ holds t r x

-- each of some sets has the variables that are in its register
abbrev pub AreHeld : Table → (registers : List ℕ) → List NumberSet → Type 0
AreHeld t [] [] = Unit {0}
AreHeld t [] (s ∷ sets) = ⊥
AreHeld t (r ∷ registers) [] = ⊥
AreHeld t (r ∷ registers) (s ∷ sets) = IsHeld t r s × AreHeld t registers sets

-- the variables that are in a register, once another variable has a place
abbrev pub with_held : (register : ℕ) → NumberSet → (variable : ℕ) → Place → NumberSet
with_held register s y p = cond (same_place p (Reg register)) (set.insert s y) s

-- the sets of some registers, which have `k` others before them
abbrev pub each_with_held : (registers : List ℕ) → (k : ℕ) → List NumberSet → (variable : ℕ) → Place → List NumberSet
each_with_held [] k sets y p = sets
each_with_held (r ∷ registers) k sets y p = each_with_held registers (k + 1) (slice_set sets k (with_held r (slice_index_or sets k set.empty) y p)) y p

-- all of it
pub record ShowsAll {N : ℕ} (count : ℕ) (p : Placing N) (t : Table) : Type 0 where
  pub held : AreHeld t argument_registers p.held.items
  pub slots : p.slots ≡ slots t
  pub places : p.places.items ≡ in_order count t

-- where the table's slots have numbers of 32 bits
pub record Shows {N : ℕ} (count : ℕ) (p : Placing N) (t : Table) : Type 0 where
  pub shown : slots t < 2 ^ 32 → ShowsAll count p t

-- Whatever table is shown before, what becomes of it is shown after. Nothing is said of a placing whose sets, count or places are
-- not those of a table, nor of tables with 2^32 slots: no body has so many variables.
abbrev pub Becomes : {N : ℕ} → (before after : Placing N) → (Table → Table) → Type 0
Becomes before after change = (count : ℕ) (t : Table) → Shows count before t → Shows count after (change t)

-- whether a variable is among those that are wanted: those that are live, or the others
abbrev pub is_wanted : (live : ℕ → Bool) → (wanted : Bool) → ℕ → Bool
is_wanted live wanted y = cond wanted (live y) (not (live y))

-- those of some variables that are wanted are placed
abbrev pub choose_wanted : (live : ℕ → Bool) → (wanted : Bool) → List ℕ → Table → Table
choose_wanted live wanted ys t = choose_each live (filter (is_wanted live wanted) ys) t

-- all of a group are, the live ones first
abbrev pub choose_all : (live : ℕ → Bool) → List ℕ → Table → Table
choose_all live ys t = choose_each live (live_first live ys) t
