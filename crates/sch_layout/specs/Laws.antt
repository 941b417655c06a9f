-- The laws of layouts: what a body that is laid out does, which marks are on the ways through it, and where they stand.
use Rattle.std.specs.Prelude.{◌≡◌, ℕ, zero, suc, ◌<◌, List, [], ◌∷◌, ◌++◌, length, Option, None, Bool, true, false}
use Rattle.sch_word.specs.values.Values.{Value}
use Rattle.sch_word.specs.runs.Computation.{State}
use Rattle.sch_control.specs.declared.body.Entry.{Entry}
use Rattle.sch_word.specs.declared.mark.MarkKind.{MarkKind}
use Rattle.sch_word.specs.declared.mark.MarkKind.TheVariants as mark
use Rattle.sch_control.specs.declared.operation.Atom.{Atom}
use Rattle.sch_control.specs.declared.operation.Atom.TheVariants.{Constant, Literal, Variable}
use Rattle.sch_control.specs.declared.operation.Member.{Member}
use Rattle.sch_control.specs.AtomsAndSites.{operation_atoms, application_atoms, member_atoms}
use Rattle.sch_control.specs.Meaning.{Callee, do_body, no_region}
use Rattle.sch_word.specs.runs.Procedures.{Procedure}
use Rattle.sch_control.specs.Run as control_run
use Rattle.sch_control.specs.Tree as control
use Rattle.sch_control.specs.Tree.{Expression, perform, bind, sequence, branch, fix, call, tail_call, return, end, save}
use Rattle.sch_control.specs.Valid.{last_position, positioned}
use Rattle.sch_frames.specs.Does.{EndsAs, CalleesFollow, world}
use Rattle.sch_frames.specs.Meaning.{beginning, execute_each}
use Rattle.sch_word.specs.values.Places.{same_place, is_slot}
use Rattle.sch_frames.specs.Tree as frames
use Rattle.sch_control.specs.flow.Places.{formals_of, variable_arrival}
use Rattle.sch_frames.specs.Ways.{IsWay}
use Rattle.sch_layout.specs.BodyLayout.{Plan, entering, lay, unmarked_reading}
use Rattle.sch_control.specs.flow.Paths.{Event, IsPath}
use Rattle.sch_layout.specs.PathMarks.{entry_marks, path_marks}
use Rattle.sch_layout.specs.SharedPlaces.{Homes, PlacedBody, entered_with}
use Rattle.sch_frames.specs.Standing.{code_marks_stand}

-- ## What an expression uses

-- each variable among atoms has a property
abbrev pub AtomHas : (ℕ → Type 0) → Atom ℕ → Type 0
AtomHas P (Constant c) = Unit {0}
AtomHas P (Literal n) = Unit {0}
AtomHas P (Variable x) = P x

abbrev pub AtomsHave : (ℕ → Type 0) → List (Atom ℕ) → Type 0
AtomsHave P [] = Unit {0}
AtomsHave P (a ∷ atoms) = AtomHas P a × AtomsHave P atoms

-- each variable to which a group is bound has a property
abbrev pub MembersUse : (ℕ → Type 0) → List (Member ℕ) → Type 0
MembersUse P [] = Unit {0}
MembersUse P (m ∷ members) = P m.at × MembersUse P members

-- each variable that an expression reads or binds has a property
abbrev pub Uses : (ℕ → Type 0) → Expression → Type 0
Uses P (perform o) = AtomsHave P (operation_atoms o)
Uses P (bind x a b) = P x × (Uses P a × Uses P b)
Uses P (sequence a b) = Uses P a × Uses P b
Uses P (branch a b c) = Uses P a × (Uses P b × Uses P c)
Uses P (fix members e) = MembersUse P members × (AtomsHave P (member_atoms members) × Uses P e)
Uses P (call a restores) = AtomsHave P (application_atoms a)
Uses P (tail_call a) = AtomsHave P (application_atoms a)
Uses P (return e) = Uses P e
Uses P (end e) = Uses P e
Uses P (save saves e) = Uses P e

-- a variable behind the return address
abbrev pub Behind : ℕ → Type 0
Behind zero = ⊥
Behind (suc x) = Unit {0}

-- ## Laws

-- From where its arguments arrive, and whatever moves bring the arguments of its calls, a body that is laid out does what its
-- tree does.
abbrev pub LaidBodiesDo : Type 0
LaidBodiesDo =
    (plan : Plan) (entry : Option Entry) (e : Expression) → PlacedBody plan entry e → Uses Behind e
    → (callee callee' : Callee) → CalleesFollow callee callee'
    → (depth : ℕ) (self : Value) (arguments : List Value) → length arguments ≡ formals_of entry
    → (s : State Procedure) (marks marks' : List MarkKind)
    → EndsAs (do_body (unmarked_reading plan) callee depth e (control_run.beginning entry self arguments) (world s marks))
    (execute_each callee' depth (entering plan entry (lay plan e no_region 0 None [])) None
    (beginning entry self arguments) (world s marks'))

-- a frame body is the layout of this tree
pub record Laid (c : control.Code) (plan : Plan) (e : Expression) (code : frames.Code) : Type 0 where
  pub ended : positioned e (last_position c.entry) ≡ true
  pub entry : code.entry ≡ c.entry
  pub instructions : code.instructions ≡ entering plan c.entry (lay plan e no_region 0 None [])

-- Where the label of a way is that of a body that is laid out, its marks are that of the entry, those of what is spilled then,
-- and those of a path of the tree.
abbrev pub WaysArePaths : Type 0
WaysArePaths =
    (codes : List frames.Code) (own : List MarkKind) (way : IsWay codes own)
    → (c : control.Code) (plan : Plan) (e : Expression) → Laid c plan e way.code
    → (es : List Event) × ((r : Bool) × (IsPath no_region e es r
    × (own ≡ mark.Enter way.label ∷ (entry_marks plan c.entry ++ path_marks plan es))))

-- What a body is entered with stays where it arrives, or comes from a register if it goes to a slot.
abbrev pub EntersSlots : Plan → (count : ℕ) → Type 0
EntersSlots plan count =
    (x : ℕ) → x < count → same_place (plan.place x) (variable_arrival x) ≡ false
    → is_slot (plan.place x) ≡ true → is_slot (variable_arrival x) ≡ false

-- Each write of a slot, and each call, tail call and return, stands directly behind one mark of its kind, and no mark elsewhere.
abbrev pub LaidMarksStand : Type 0
LaidMarksStand =
    (c : control.Code) (plan : Plan) (e : Expression) (code : frames.Code) → Laid c plan e code
    → Homes plan → EntersSlots plan (entered_with c.entry) → code_marks_stand code ≡ true
