-- Where a variable that is bound may have a slot.
use Rattle.std.specs.Prelude.{◌≡◌, ◌≢◌, ℕ, true}
use Rattle.sch_word.specs.declared.place.Place.{Place}
use Rattle.sch_word.specs.declared.place.Place.TheVariants.{Reg}
use Rattle.sch_word.specs.values.Registers.{argument_registers}
use Rattle.sch_control.specs.Tree.{Expression}
use Rattle.sch_control.specs.flow.Apart.{EachHas, EachBinding}
use Rattle.sch_control.specs.flow.Live.{nothing_later}
use Rattle.sch_word.specs.values.Places.{is_slot}

module _ (place : ℕ → Place) where
  -- each of the six registers holds another variable that is live
  abbrev pub Full : (live : ℕ → Type 0) → ℕ → Type 0
  Full live y = EachHas (λ r. (x : ℕ) × ((x ≢ y) × (live x × (place x ≡ Reg r)))) argument_registers

  abbrev pub InSlotWhenFull : (live : ℕ → Type 0) → ℕ → Type 0
  InSlotWhenFull live y = is_slot (place y) ≡ true → Full live y

  -- a variable that is bound has a slot only where each of the six registers holds another variable that is live there
  abbrev pub SlotsWhenFull : Expression → Type 0
  SlotsWhenFull e = EachBinding InSlotWhenFull e nothing_later
