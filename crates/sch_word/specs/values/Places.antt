-- Places of a body's values: registers, and slots of its frame.
use Rattle.std.specs.Prelude.{Bool, true, false, nat_eq}
use Rattle.sch_word.specs.declared.place.Place.{Place}
use Rattle.sch_word.specs.declared.place.Place.TheVariants.{Reg, Slot}
use Rattle.sch_word.specs.declared.registers.TheConstants.{CLOSURE_REGISTER, LINK_REGISTER}

-- where a body finds its return address and its closure as it is entered
abbrev pub link_place : Place
link_place = Reg LINK_REGISTER

abbrev pub closure_place : Place
closure_place = Reg CLOSURE_REGISTER

abbrev pub is_slot : Place → Bool
is_slot (Reg r) = false
is_slot (Slot k) = true

-- whether two places are one
abbrev pub same_place : Place → Place → Bool
same_place (Reg a) (Reg b) = nat_eq a b
same_place (Slot a) (Slot b) = nat_eq a b
same_place _ _ = false
