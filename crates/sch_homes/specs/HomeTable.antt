-- The plan of a body's frame, where what is read at each variable stands in a table: its place, and the slot that is its home.
use Rattle.std.specs.Prelude.{ℕ, zero, suc, ◌+◌, Bool, cond, List, [], ◌∷◌, ◌++◌, Option, None, Some, slice_get}
use Rattle.sch_word.specs.declared.place.Place.{Place}
use Rattle.sch_word.specs.declared.place.Place.TheVariants.{Slot}
use Rattle.sch_layout.specs.BodyLayout.{Plan}
use Rattle.sch_frames.specs.Valid.{max_words}
use Rattle.sch_homes.specs.CallMoves.{call_moves, next_frame}
use Rattle.sch_homes.specs.Homes.{count_below, lives_in}

-- the homes of the first n variables: those that pass a test have the slots from `first` on, in their order
abbrev pub home_slots : (first : ℕ) → (test : ℕ → Bool) → (n : ℕ) → List (Option ℕ)
home_slots first test zero = []
home_slots first test (suc x) = home_slots first test x ++ cond (test x) (Some (first + count_below test x)) None ∷ []

-- what the table has of a variable, as a place: one that has no home would have its own behind the largest frame
abbrev pub home_of : (x : ℕ) → Option (Option ℕ) → Place
home_of x (Some (Some j)) = Slot j
home_of x _ = Slot (max_words + x)

abbrev pub place_in : List Place → ℕ → Place
place_in places x = lives_in (slice_get places x)

-- `end`: behind the homes
abbrev pub table_plan : (end : ℕ) → List Place → List (Option ℕ) → Plan
table_plan end places homes = record {
  place = place_in places;
  home = λ x. home_of x (slice_get homes x);
  limit = next_frame;
  moves = call_moves end (place_in places);
}
