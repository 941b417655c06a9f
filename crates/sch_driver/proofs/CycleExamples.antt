-- Worked rows: the cycles that are listed of calls.
use Rattle.std.proofs.Common.{◌≡◌, ℕ, refl, List, [], ◌∷◌}
use Rattle.sch_word.specs.declared.place.Place.{Place}
use Rattle.sch_word.specs.declared.place.Place.TheVariants.{Reg, Slot}
use Rattle.sch_orders.specs.declared.listed_call.ListedCall.{ListedCall}
use Rattle.sch_driver.specs.ListedCycles.{listed_cycles}

abbrev round_at : ℕ → List (List Place) → ListedCall
round_at site cycles = record { site = site; order = []; cycles = cycles }

-- each with the site of its call, of which one has two and one has none
cycles_row : listed_cycles (round_at 3 ((Reg 3 ∷ Reg 8 ∷ []) ∷ []) ∷ round_at 4 [] ∷ round_at 1 ((Reg 9 ∷ Reg 10 ∷ []) ∷ (Slot 0 ∷ Slot 1 ∷ []) ∷ []) ∷ [])
    ≡ record { site = 3; places = Reg 3 ∷ Reg 8 ∷ [] } ∷ record { site = 1; places = Reg 9 ∷ Reg 10 ∷ [] } ∷ record { site = 1; places = Slot 0 ∷ Slot 1 ∷ [] } ∷ []
cycles_row = refl
