-- What a placed body gives its layout.
use Rattle.std.specs.Prelude.{◌≡◌, ℕ, ◌+◌, ◌*◌, ◌<◌, ◌≤◌, Bool, List, true, length, slice_get, Option, Some}
use Rattle.sch_word.specs.trees.Shape.{max_operands}
use Rattle.sch_word.specs.declared.place.Place.{Place}
use Rattle.sch_word.specs.declared.place.Place.TheVariants.{Slot}
use Rattle.sch_control.specs.declared.body.Entry.{Entry}
use Rattle.sch_control.specs.declared.operation.Application.{Application}
use Rattle.sch_control.specs.Meaning.{no_region}
use Rattle.sch_control.specs.Tree.{Code, Expression}
use Rattle.sch_control.specs.Valid.{ended, fields_known, in_scope_whole, numbered, shaped_whole}
use Rattle.sch_control.specs.flow.Apart.{EachBoundAlone, EachPointApart, EnteredAlone}
use Rattle.sch_control.specs.flow.Bare.{erased}
use Rattle.sch_control.specs.flow.Live.{nothing_later}
use Rattle.sch_word.specs.values.Places.{closure_place, link_place}
use Rattle.sch_control.specs.flow.Places.{arrival, count_slots, formals_of, is_usual, place_of, stays}
use Rattle.sch_control.specs.flow.Regions.{restores_saved}
use Rattle.sch_layout.specs.FewCopies.{MovesFew}
use Rattle.sch_layout.specs.Laws.{EntersSlots, Laid}
use Rattle.sch_layout.specs.SharedPlaces.{PlacedBody, entered_with}
use Rattle.sch_control.specs.Covered as control_covered
use Rattle.sch_frames.specs.Covered.{code_begins, is_covered_code}
use Rattle.sch_frames.specs.Does.{FrameOf}
use Rattle.sch_frames.specs.Standing.{code_marks_stand}
use Rattle.sch_frames.specs.Valid.{code_valid}
use Rattle.sch_homes.specs.Homes.{homes_code, homes_plan, homes_words}
use Rattle.sch_homes.specs.RestoresLive.{RestoresLive}
use Rattle.sch_paths.specs.EachSoonRestored.{EachSoonRestored}

-- What is kept of a body with places, of which `c` is what it is without regions and restores, and `e` its tree with them.
pub record IsPlaced (c : Code) (e : Expression) (places : List Place) : Type 0 where
  pub body : erased e ≡ c.expression
  pub scoped : in_scope_whole c ≡ true
  pub numbers : numbered c ≡ true
  pub shaped : shaped_whole c ≡ true
  pub fields : fields_known c ≡ true
  pub saved : restores_saved e no_region ≡ true
  pub restores : RestoresLive e (Unit {0}) nothing_later
  pub whole : length places ≡ c.variables
  pub link : place_of places 0 ≡ link_place
  pub closure : place_of places 1 ≡ closure_place
  pub usual : (x : ℕ) → 1 < x → x < c.variables → is_usual (count_slots places) (place_of places x) ≡ true
  pub formals : (k : ℕ) → k < formals_of c.entry → stays (arrival k) (place_of places (2 + k)) ≡ true
  pub entered : EnteredAlone (place_of places) (2 + formals_of c.entry) e
  pub alone : EachBoundAlone (place_of places) e
  pub points : EachPointApart (place_of places) e

-- In its frame it has what a layout asks for: homes, what it is entered with where nothing else stands, and variables that are
-- alone in their places; and what it is entered with goes to slots from registers.
abbrev pub HomesPlaced : Type 0
HomesPlaced =
    (c : Code) (e : Expression) (places : List Place) → IsPlaced c e places
    → PlacedBody (homes_plan c.entry e places) c.entry e × EntersSlots (homes_plan c.entry e places) (entered_with c.entry)

-- each slot in which a variable lives is below the number of variables that live in slots
abbrev pub AreDense : List Place → Type 0
AreDense places = (x j : ℕ) → slice_get places x ≡ Some (Slot j) → j < count_slots places

-- Where what is live and wanted soon after each call is restored, the layout does what the body does, with its calls, its values
-- and its effects; it is a valid frame body, its marks stand where something is written, called or left, and covered code stays
-- covered. As it is laid out, the marks on the ways through it are those of the paths of the tree.
pub record IsFramed (c : Code) (e : Expression) (places : List Place) : Type 0 where
  pub does : FrameOf c (homes_code c.entry e places)
  pub valid : code_valid (homes_code c.entry e places) ≡ true
  pub stand : code_marks_stand (homes_code c.entry e places) ≡ true
  pub begins : code_begins (homes_code c.entry e places) ≡ true
  pub covered : control_covered.is_covered_code c ≡ true → is_covered_code (homes_code c.entry e places) ≡ true
  pub laid : Laid c (homes_plan c.entry e places) e (homes_code c.entry e places)
  -- beside its variables its frame has at most twice as many words as a call may have operands
  pub words : homes_words c.entry e places ≤ 2 * max_operands + c.variables
  -- and no more than that once, where slots are not left out
  pub dense_words : AreDense places → homes_words c.entry e places ≤ max_operands + c.variables

abbrev pub HomesFramed : Type 0
HomesFramed = (c : Code) (e : Expression) (places : List Place) → IsPlaced c e places → ended c ≡ true → EachSoonRestored e → IsFramed c e places

-- The moves of any call or tail call do no more than bring each argument into its place, by way of another at most.
abbrev pub MovesAreFew : Type 0
MovesAreFew =
    (entry : Option Entry) (e : Expression) (places : List Place) (tail : Bool) (a : Application ℕ) → MovesFew (homes_plan entry e places) tail a
