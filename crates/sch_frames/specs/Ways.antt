-- The ways through a body, and the marks on them.
use Rattle.std.specs.Prelude.{◌≡◌, ℕ, Bool, false, cond, List, [], ◌∷◌, ◌++◌, length, map, Option, Some, None, slice_get}
use Rattle.sch_word.specs.declared.place.Place.{Place}
use Rattle.sch_word.specs.declared.place.Place.TheVariants.{Slot}
use Rattle.sch_word.specs.values.Values.{Value, is_true}
use Rattle.sch_word.specs.runs.Charges.{charge_each}
use Rattle.sch_word.specs.values.Checked.{passes}
use Rattle.sch_word.specs.runs.Computation.{gives, State, in_store, procedures_from, checked_call, Entry as Entered}
use Rattle.sch_word.specs.declared.mark.MarkKind.{MarkKind}
use Rattle.sch_word.specs.declared.mark.MarkKind.TheVariants.{Enter, Spill}
use Rattle.sch_control.specs.declared.operation.Member.{Member}
use Rattle.sch_control.specs.Operations.{member_bytes, members_made, operate, with_procedures}
use Rattle.sch_word.specs.runs.Procedures.{Procedure}
use Rattle.sch_frames.specs.declared.instruction.Instruction.{Instruction}
use Rattle.sch_frames.specs.declared.instruction.Instruction.TheVariants.{Do, Store as Put, Copy, Pass, Fix, Call, Tail, Return, End, IfFalse, Jump, Label, Mark}
use Rattle.sch_word.specs.values.Places.{link_place}
use Rattle.sch_frames.specs.Meaning.{Frame, Is, Link, after_call, beginning, held, parts, sought, value_in, with_members, with_outgoing, with_place}
use Rattle.sch_frames.specs.Tree.{Code}
use Rattle.sch_control.specs.flow.Places.{formals_of}

-- from where the body goes on, perhaps to a label that is sought, in a frame and a state, with the marks on the way
abbrev pub Onward : Type 1
Onward = Option ℕ → Frame → State Procedure → List MarkKind → Type 0

-- the procedures of a group are made, once they are charged, and stored
abbrev pub group : List (Member Place) → (spills : List ℕ) → Onward → Frame → State Procedure → List MarkKind → Type 0
group members spills next f s marks =
    let inner = with_members f members (procedures_from (length s.procedures) (length members)) in
    (t : State Procedure) × ((with_procedures s (members_made (held inner) s members) ≡ Some t) × ((rest : List MarkKind) × ((marks ≡ map Spill spills ++ rest) × next None inner t rest)))

-- a call of these operator and operands enters a procedure, at some depth
abbrev pub goes_through : (spread : Bool) → List Value → State Procedure → Type 0
goes_through spread vs s = (depth : ℕ) × ((e : Entered Procedure) × (checked_call s.procedures s.store spread false depth vs ≡ passes e))

-- A step on a way, as the body is done in a state: what it reads is there. A call goes through; what it gives may be any
-- value, and the state behind it any state. A tail call leaves the body whether it goes through or not. A test goes where its value says. A body is left where it is known where to return.
abbrev pub step : Instruction → Onward → Frame → State Procedure → List MarkKind → Type 0
step (Do o) next f s marks = (v : Value) × ((t : State Procedure) × ((operate (held f) o s ≡ Some (gives v t)) × next None (record f { accumulator = Is v }) t marks))
step (Put p) next f s marks = next None (with_place f p f.accumulator) s marks
step (Copy to from) next f s marks = next None (with_place f to (f.places from)) s marks
step (Pass k) next f s marks = next None (with_outgoing f k f.accumulator) s marks
step (Fix members spills) next f s marks = (v : Value) × ((t : State Procedure) × ((in_store (charge_each (member_bytes members)) s ≡ gives v t) × group members spills next f t marks))
step (Call spread count) next f s marks =
    (vs : List Value) × ((parts f.places f.outgoing count ≡ Some vs) × (goes_through spread vs s × ((v : Value) × ((t : State Procedure) × next None (after_call f v) t marks))))
step (Tail spread count) next f s marks = (f.places link_place ≡ Link) × ((vs : List Value) × ((parts f.places (λ j. f.places (Slot j)) count ≡ Some vs) × (marks ≡ [])))
step Return next f s marks = (f.places link_place ≡ Link) × ((v : Value) × ((value_in f.accumulator ≡ Some v) × (marks ≡ [])))
step End next f s marks = marks ≡ []
step (IfFalse l) next f s marks = (v : Value) × ((value_in f.accumulator ≡ Some v) × next (cond (is_true v) None (Some l)) f s marks)
step (Jump l) next f s marks = next (Some l) f s marks
step (Label l) next f s marks = next None f s marks
step (Mark m) next f s [] = ⊥
step (Mark m) next f s (n ∷ marks) = (n ≡ m) × next None f s marks

-- a way through instructions to where the body is left; one that is passed over while a label is sought is no step
abbrev pub way : List Instruction → Onward
way [] seeking f s marks = ⊥
way (i ∷ instructions) (Some l) f s marks = way instructions (sought l i) f s marks
way (i ∷ instructions) None f s marks = step i (way instructions) f s marks

-- These are the marks on one way through a body of a program, from its arguments and some state: that of its entry, and
-- those of its instructions.
pub record IsWay (codes : List Code) (own : List MarkKind) : Type 0 where
  pub label : ℕ
  pub code : Code
  pub self : Value
  pub arguments : List Value
  pub state : State Procedure
  pub marks : List MarkKind
  pub body : slice_get codes label ≡ Some code
  pub fitting : length arguments ≡ formals_of code.entry
  pub own_marks : own ≡ Enter label ∷ marks
  pub along : way code.instructions None (beginning code.entry self arguments) state marks

-- each list of marks is that of a way
abbrev pub AreWays : List Code → List (List MarkKind) → Type 0
AreWays codes [] = Unit {0}
AreWays codes (own ∷ each) = IsWay codes own × AreWays codes each
