-- What a body does: its instructions in their order, over the places of a frame.
use Rattle.std.specs.Prelude.{ℕ, zero, suc, ◌+◌, true, false, cond, nat_eq, List, [], ◌∷◌, ◌++◌, length, map, Option, Some, None, slice_get}
use Rattle.sch_word.specs.declared.place.Place.{Place}
use Rattle.sch_word.specs.declared.place.Place.TheVariants.{Reg, Slot}
use Rattle.sch_word.specs.declared.mark.MarkKind.TheVariants.{Spill}
use Rattle.sch_word.specs.declared.registers.TheConstants.{CLOSURE_REGISTER, LINK_REGISTER}
use Rattle.sch_word.specs.values.Registers.{argument_registers}
use Rattle.sch_word.specs.values.Values.{Value, unspecified, is_true}
use Rattle.sch_word.specs.runs.Computation.{gives, in_store, procedures_from}
use Rattle.sch_word.specs.runs.Charges.{charge_each}
use Rattle.sch_word.specs.values.Places.{same_place, link_place, closure_place}
use Rattle.sch_control.specs.declared.body.Entry.{Entry}
use Rattle.sch_control.specs.declared.operation.Member.{Member}
use Rattle.sch_control.specs.Operations.{operate, and_value, member_bytes, members_made, with_procedures}
use Rattle.sch_word.specs.values.Options.{when_some}
use Rattle.sch_control.specs.Meaning.{World, Result, Callee, marked, on_outcome, on_ending, on_return, call_in}
use Rattle.sch_control.specs.flow.Places.{argument_register, argument_slot}
use Rattle.sch_frames.specs.declared.instruction.Instruction.{Instruction}
use Rattle.sch_frames.specs.declared.instruction.Instruction.TheVariants.{Do, Store, Copy, Pass, Fix, Call, Tail, Return, End, IfFalse, Jump, Label, Mark}

-- What a place holds: a value; where the activation returns; or any word, which nobody may read.
pub data Cell : Type 0 where
  Is : Value → Cell
  Link : Cell
  Junk : Cell

-- the accumulator, the places, and the slots of the frame that the next call opens
pub record Frame : Type 0 where
  pub accumulator : Cell
  pub places : Place → Cell
  pub outgoing : ℕ → Cell

-- ## What a place holds

-- the value, if it is one
abbrev pub value_in : Cell → Option Value
value_in (Is v) = Some v
value_in Link = None
value_in Junk = None

abbrev pub held : Frame → Place → Option Value
held f p = value_in (f.places p)

abbrev pub cell_of : Option Value → Cell
cell_of None = Junk
cell_of (Some v) = Is v

abbrev pub set : (Place → Cell) → Place → Cell → Place → Cell
set places p c q = cond (same_place q p) c (places q)

abbrev pub with_place : Frame → Place → Cell → Frame
with_place f p c = record f { places = set f.places p c }

abbrev pub with_outgoing : Frame → ℕ → Cell → Frame
with_outgoing f k c = record f { outgoing = λ j. cond (nat_eq j k) c (f.outgoing j) }

-- each member of a group has its value
abbrev pub with_members : Frame → List (Member Place) → List Value → Frame
with_members f (m ∷ members) (v ∷ vs) = with_members (with_place f m.at (Is v)) members vs
with_members f _ _ = f

-- ## Calls

-- what the operand with k before it is, by what holds the slots
abbrev pub argument_in : (Place → Cell) → (slots : ℕ → Cell) → Option ℕ → ℕ → Option Value
argument_in places slots (Some r) j = value_in (places (Reg r))
argument_in places slots None j = value_in (slots j)

abbrev pub argument : (Place → Cell) → (slots : ℕ → Cell) → ℕ → Option Value
argument places slots k = argument_in places slots (argument_register k) (argument_slot k)

-- a number of operands from one on
abbrev pub arguments : (Place → Cell) → (slots : ℕ → Cell) → (from count : ℕ) → Option (List Value)
arguments places slots from zero = Some []
arguments places slots from (suc count) = and_value (argument places slots from) (arguments places slots (suc from) count)

-- the operator's value, and the operands'
abbrev pub parts : (Place → Cell) → (slots : ℕ → Cell) → (count : ℕ) → Option (List Value)
parts places slots count = and_value (value_in (places closure_place)) (arguments places slots 0 count)

abbrev pub kept : (Place → Cell) → Place → Cell
kept places (Reg r) = Junk
kept places (Slot j) = places (Slot j)

-- after a call: its value, what the slots held, and any words elsewhere
abbrev pub after_call : Frame → Value → Frame
after_call f v = record { accumulator = Is v; places = kept f.places; outgoing = λ k. Junk }

-- goes on where the place holds where to return
abbrev pub if_link : Cell → Result → Result
if_link Link next = next
if_link (Is v) next = None
if_link Junk next = None

-- ## Instructions

-- what comes next: perhaps a label is sought
abbrev pub More : Type 0
More = Option ℕ → Frame → World → Result

-- what is sought behind an instruction
abbrev pub sought : ℕ → Instruction → Option ℕ
sought l (Label m) = cond (nat_eq m l) None (Some l)
sought l _ = Some l

module _ (callee : Callee) (depth : ℕ) where
  abbrev pub execute : Instruction → More → Frame → World → Result
  execute (Do o) next f w = on_ending w.marks (operate (held f) o w.state) (λ v w. next None (record f { accumulator = Is v }) w)
  execute (Store p) next f w = next None (with_place f p f.accumulator) w
  execute (Copy to from) next f w = next None (with_place f to (f.places from)) w
  execute (Pass k) next f w = next None (with_outgoing f k f.accumulator) w
  execute (Fix members spills) next f w =
      on_outcome w.marks (in_store (charge_each (member_bytes members)) w.state)
      (λ _ w. let inner = with_members f members (procedures_from (length w.state.procedures) (length members)) in
      when_some (with_procedures w.state (members_made (held inner) w.state members))
      (λ s. next None inner (record { state = s; marks = w.marks ++ map Spill spills })))
  execute (Call spread count) next f w =
      when_some (parts f.places f.outgoing count)
      (λ vs. on_return (call_in callee spread false depth vs w) (λ v w. next None (after_call f v) w))
  execute (Tail spread count) next f w =
      if_link (f.places link_place)
      (when_some (parts f.places (λ j. f.places (Slot j)) count) (λ vs. call_in callee spread true depth vs w))
  execute Return next f w = if_link (f.places link_place) (when_some (value_in f.accumulator) (λ v. Some (gives v w)))
  execute End next f w = Some (gives unspecified w)
  execute (IfFalse l) next f w = when_some (value_in f.accumulator) (λ v. cond (is_true v) (next None f w) (next (Some l) f w))
  execute (Jump l) next f w = next (Some l) f w
  execute (Label l) next f w = next None f w
  execute (Mark m) next f w = next None f (marked m w)

  -- an instruction is passed over while a label is sought, and done otherwise
  abbrev pub execute_or_pass : Instruction → More → More
  execute_or_pass i next (Some l) f w = next (sought l i) f w
  execute_or_pass i next None f w = execute i next f w

  -- A body that ends without a return, a tail call or the end of a form is wrong, and so is one that has no
  -- such label behind a jump.
  abbrev pub execute_each : List Instruction → More
  execute_each [] seeking f w = None
  execute_each (i ∷ instructions) seeking f w = execute_or_pass i (execute_each instructions) seeking f w

-- ## Bodies

-- what a register has that may be one for an operand, from the one for the operand with k before it on
abbrev pub arrived_in : List ℕ → (k : ℕ) → List Value → ℕ → Cell
arrived_in [] k vs r = Junk
arrived_in (q ∷ registers) k vs r = cond (nat_eq r q) (cell_of (slice_get vs k)) (arrived_in registers (suc k) vs r)

-- what the places hold where a procedure is entered
abbrev pub entry_places : Value → List Value → Place → Cell
entry_places self vs (Reg r) = cond (nat_eq r LINK_REGISTER) Link (cond (nat_eq r CLOSURE_REGISTER) (Is self) (arrived_in argument_registers 0 vs r))
entry_places self vs (Slot j) = cell_of (slice_get vs (length argument_registers + j))

-- the frame in which a body begins
abbrev pub beginning : Option Entry → Value → List Value → Frame
beginning None self vs = record { accumulator = Junk; places = λ p. Junk; outgoing = λ k. Junk }
beginning (Some e) self vs = record { accumulator = Junk; places = entry_places self vs; outgoing = λ k. Junk }
