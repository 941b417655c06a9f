-- Which places and which bodies items can name, so that each displacement and each label is a number of 32 bits.
use Rattle.std.specs.Prelude.{ℕ, ◌*◌, Bool, true, nat_le, nat_lt}
use Rattle.sch_word.specs.declared.place.Place.{Place}
use Rattle.sch_word.specs.declared.place.Place.TheVariants.{Reg, Slot}
use Rattle.sch_frames.specs.Valid.{max_words}
use Rattle.sch_select_memory.specs.Addresses.{max_labels}

-- the slots of a frame, and those of one that a call opens behind it
abbrev pub max_slots : ℕ
max_slots = 2 * max_words

abbrev pub is_reached_place : Place → Bool
is_reached_place (Reg r) = true
is_reached_place (Slot j) = nat_lt j max_slots

abbrev pub is_reached_label : ℕ → Bool
is_reached_label label = nat_le label max_labels
