-- How a placed body lies in its frame: first the slots in which arguments arrive, then those of variables, then the homes, one
-- for each variable that lives in a register and is saved, and last those in which calls set arguments aside.
use Rattle.std.specs.Prelude.{ℕ, zero, suc, ◌+◌, ◌-◌, max, Bool, true, false, ◌||◌, ◌&&◌, cond, List, [], ◌∷◌, length, Option, None, Some, slice_get}
use Rattle.std.specs.Option.{unwrap_or}
use Rattle.sch_word.specs.declared.place.Place.{Place}
use Rattle.sch_word.specs.declared.place.Place.TheVariants.{Reg, Slot}
use Rattle.sch_word.specs.trees.NumberSets.{has}
use Rattle.sch_word.specs.values.Registers.{argument_registers}
use Rattle.sch_control.specs.declared.body.Entry.{Entry}
use Rattle.sch_control.specs.Meaning.{no_region}
use Rattle.sch_control.specs.Tree.{Expression, perform, bind, sequence, branch, fix, call, tail_call, return, end, save}
use Rattle.sch_frames.specs.Tree.{Code}
use Rattle.sch_control.specs.flow.Places.{formals_of}
use Rattle.sch_frames.specs.Valid.{max_words}
use Rattle.sch_layout.specs.BodyLayout.{Plan, entering, labels, lay}
use Rattle.sch_homes.specs.CallMoves.{call_end, call_moves, next_frame}

-- ## The slots of variables

-- in how many slots arguments arrive: in as many as there are formals that have no register
abbrev pub late_slots : Option Entry → ℕ
late_slots entry = formals_of entry - length argument_registers

-- where a variable lives; what is no variable of the body lives in no slot of its frame
abbrev pub lives_in : Option Place → Place
lives_in p = unwrap_or p (Slot next_frame)

-- one past the last slot in which a variable lives, and past those of arguments
abbrev pub slots_end : (late : ℕ) → List Place → ℕ
slots_end late [] = late
slots_end late (Reg r ∷ places) = slots_end late places
slots_end late (Slot j ∷ places) = max (suc j) (slots_end late places)

-- ## Homes

-- some region of the expression saves a variable
abbrev pub is_saved : Expression → ℕ → Bool
is_saved (bind x a b) y = is_saved a y || is_saved b y
is_saved (sequence a b) y = is_saved a y || is_saved b y
is_saved (branch a b c) y = is_saved a y || (is_saved b y || is_saved c y)
is_saved (fix members e) y = is_saved e y
is_saved (return e) y = is_saved e y
is_saved (end e) y = is_saved e y
is_saved (save saves e) y = has y saves || is_saved e y
is_saved _ y = false

-- a variable that lives in a register
abbrev pub has_register : Option Place → Bool
has_register (Some (Reg r)) = true
has_register _ = false

-- how many numbers below this one pass a test
abbrev pub count_below : (test : ℕ → Bool) → ℕ → ℕ
count_below test zero = 0
count_below test (suc x) = cond (test x) (suc (count_below test x)) (count_below test x)

-- ## Calls

-- one past the last slot that some call of an expression needs, behind those in use
abbrev pub calls_end : (used : ℕ) → (lives : ℕ → Place) → Expression → ℕ
calls_end used lives (perform o) = used
calls_end used lives (bind x a b) = max (calls_end used lives a) (calls_end used lives b)
calls_end used lives (sequence a b) = max (calls_end used lives a) (calls_end used lives b)
calls_end used lives (branch a b c) = max (calls_end used lives a) (max (calls_end used lives b) (calls_end used lives c))
calls_end used lives (fix members e) = calls_end used lives e
calls_end used lives (call a restores) = call_end used lives false a
calls_end used lives (tail_call a) = call_end used lives true a
calls_end used lives (return e) = calls_end used lives e
calls_end used lives (end e) = calls_end used lives e
calls_end used lives (save saves e) = calls_end used lives e

-- ## Bodies: `places` has the place of each variable, by its number

module _ (entry : Option Entry) (e : Expression) (places : List Place) where
  abbrev pub late : ℕ
  late = late_slots entry

  abbrev pub place : ℕ → Place
  place x = lives_in (slice_get places x)

  -- a variable that lives in a register and is saved
  abbrev pub has_home : ℕ → Bool
  has_home x = has_register (slice_get places x) && is_saved e x

  -- where homes begin, and where they end
  abbrev pub first_home : ℕ
  first_home = slots_end late places

  abbrev pub homes_end : ℕ
  homes_end = first_home + count_below has_home (length places)

  -- the size of the frame
  abbrev pub homes_words : ℕ
  homes_words = calls_end homes_end place e

  -- homes are in the order of the variables; what is never saved would have its own behind the largest frame
  abbrev pub home : ℕ → Place
  home x = Slot (cond (has_home x) (first_home + count_below has_home x) (max_words + x))

  abbrev pub homes_plan : Plan
  homes_plan = record { place = place; home = home; limit = next_frame; moves = call_moves homes_end place }

  -- how the body is laid out, whose tree has what regions save and what calls restore
  abbrev pub homes_code : Code
  homes_code = record {
    entry = entry;
    words = homes_words;
    labels = labels e;
    instructions = entering homes_plan entry (lay homes_plan e no_region 0 None []);
  }
