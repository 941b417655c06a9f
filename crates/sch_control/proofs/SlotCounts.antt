-- How many places are slots.
use Rattle.std.proofs.Common.{◌≤◌, List, [], ◌∷◌, length, arith}
use Rattle.sch_word.specs.declared.place.Place.{Place}
use Rattle.sch_word.specs.declared.place.Place.TheVariants.{Reg, Slot}
use Rattle.sch_control.specs.flow.Places.{count_slots}

pub slots_within : (ps : List Place) → count_slots ps ≤ length ps
slots_within [] = omega arith
slots_within (Reg r ∷ ps) = let k = slots_within ps in omega (arith, k)
slots_within (Slot j ∷ ps) = let k = slots_within ps in omega (arith, k)
