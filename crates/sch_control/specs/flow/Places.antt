-- The places of a body's variables: registers, and slots of its frame.
use Rattle.std.specs.Prelude.{ℕ, zero, suc, ◌+◌, ◌-◌, Bool, true, false, cond, nat_eq, nat_lt, List, [], ◌∷◌, Option, None, Some, length, slice_get}
use Rattle.sch_word.specs.trees.NumberSets.{has}
use Rattle.sch_word.specs.trees.Shape.{max_operands}
use Rattle.sch_word.specs.declared.place.Place.{Place}
use Rattle.sch_word.specs.declared.place.Place.TheVariants.{Reg, Slot}
use Rattle.sch_word.specs.values.Places.{closure_place, is_slot, link_place}
use Rattle.sch_word.specs.values.Registers.{argument_registers}
use Rattle.sch_control.specs.declared.body.Entry.{Entry}

-- the place of a variable, where places are listed by the numbers of the variables; slot 0 for one that is not among them
abbrev pub place_of : List Place → ℕ → Place
place_of [] x = Slot 0
place_of (p ∷ places) zero = p
place_of (p ∷ places) (suc x) = place_of places x

-- how many of them are slots
abbrev pub count_slots : List Place → ℕ
count_slots [] = 0
count_slots (p ∷ places) = cond (is_slot p) (suc (count_slots places)) (count_slots places)

-- ## Where a body finds what it is entered with

-- the operand with k before it, where these registers are still free
abbrev pub arrival_in : (registers : List ℕ) → (k : ℕ) → Place
arrival_in [] k = Slot k
arrival_in (r ∷ registers) zero = Reg r
arrival_in (r ∷ registers) (suc k) = arrival_in registers k

-- the first six arrive in registers, the others in slots from 0 on
abbrev pub arrival : ℕ → Place
arrival = arrival_in argument_registers

-- the register of the operand with k before it, if it has one
abbrev pub argument_register : ℕ → Option ℕ
argument_register k = slice_get argument_registers k

-- the slot of an operand that has none
abbrev pub argument_slot : ℕ → ℕ
argument_slot k = k - length argument_registers

-- in a register, if there is one, or else in a slot
abbrev pub register_or_slot : Option ℕ → ℕ → Place
register_or_slot (Some r) j = Reg r
register_or_slot None j = Slot j

-- each variable with which a procedure is entered: where to return, its closure, and its operands
abbrev pub variable_arrival : ℕ → Place
variable_arrival zero = link_place
variable_arrival (suc zero) = closure_place
variable_arrival (suc (suc k)) = arrival k

-- the operands that a body is entered with
abbrev pub formals_of : Option Entry → ℕ
formals_of None = 0
formals_of (Some e) = e.formals

-- ## Which places a variable may have

-- a formal stays where it arrives, or comes from a register to a slot
abbrev pub stays : (arrives : Place) → Place → Bool
stays (Reg r) (Reg q) = nat_eq r q
stays (Reg r) (Slot k) = true
stays (Slot j) (Reg q) = false
stays (Slot j) (Slot k) = nat_eq j k

-- any variable but the return address and the closure has one of the six registers, or a slot that is below the most operands
-- that a call has and as many more as there are variables in slots
abbrev pub is_usual : (slots : ℕ) → Place → Bool
is_usual slots (Reg r) = has r argument_registers
is_usual slots (Slot k) = nat_lt k (max_operands + slots)
