-- Expressions of the core language whose parts are still text: what a row of the table of forms answers.
-- A row does not read the texts in it.
use Rattle.std.specs.Prelude.{ℕ, zero, suc, Bool, true, false, List, [], ◌∷◌, length}
use Rattle.sch_word.specs.declared.constant.Const.TheVariants.{Unspecified}
use Rattle.sch_word.specs.declared.primitive.Primitive.{Primitive}
use Rattle.sch_read.specs.Grammar.{Datum, Data}
use Rattle.sch_names.specs.Scope.{Scope, onto, VariableNames}
use Rattle.sch_sketch.specs.declared.fault.Fault.{Fault}
use Rattle.sch_sketch.specs.declared.sketch.Position.{Position}
use Rattle.sch_sketch.specs.declared.sketch.Position.TheVariants.{Value, Test}
use Rattle.sch_sketch.specs.declared.sketch.Row.{Row}
use Rattle.sch_sketch.specs.Draft.{Draft, Drafts, no_drafts, and_draft, constant, set_local, set_global, define, branch, sequence, bind, letrec, lambda, call, operation}

-- What is made of parts. The inits of a `letrec` may all be procedures by their forms; the last of a
-- procedure's variables may take a list of what is left; the operands of a call may be the inits of variables.
pub data Kind : Type 0 where
  choosing : Kind
  sequencing : Kind
  binding : VariableNames → Kind
  recurring : VariableNames → (procedures : Bool) → Kind
  abstracting : VariableNames → (rest : Bool) → Kind
  calling : VariableNames → Kind
  operating : Primitive → Kind
  setting : (nearer : ℕ) → Kind
  setting_global : (name : List ℕ) → Kind
  defining : (name : List ℕ) → Kind

-- A text, the rest of a form, a fault, an expression without parts, a node over its parts, or a form that
-- may have only a limited number of something. Each but a text and a fault has its place: the number of bytes
-- before it.
mutual
  pub data Sketch : Type 0 where
    text : Datum → Sketch
    rest : Row → (at : ℕ) → Data → Data → Sketch
    wrong : Fault → Sketch
    leaf : (at : ℕ) → Draft → Sketch
    node : Kind → (at : ℕ) → Sketches → Sketch
    limited : (at count : ℕ) → Sketch → Sketch

  pub data Sketches : Type 0 where
    no_sketch : Sketches
    and_sketch : Sketch → Sketches → Sketches

abbrev pub sketches : List Sketch → Sketches
sketches [] = no_sketch
sketches (k ∷ ks) = and_sketch k (sketches ks)

abbrev pub how_many_parts : Sketches → ℕ
how_many_parts no_sketch = zero
how_many_parts (and_sketch k ks) = suc (how_many_parts ks)

abbrev pub is_end : Sketches → Bool
is_end no_sketch = true
is_end (and_sketch k ks) = false

-- ## What a kind says of its parts

-- The scope and the position of a part: whether it is the first, and whether it is the last. The last
-- part of a binding is its body, and the others are the inits. The one part of a procedure is its body.
abbrev pub scope_in : Kind → (first last : Bool) → Scope → Scope
scope_in (binding vs) first true s = onto vs s
scope_in (recurring vs procedures) first last s = onto vs s
scope_in (abstracting vs more) first last s = onto vs s
scope_in _ first last s = s

abbrev pub position_in : Kind → (first last : Bool) → Position → Position
position_in choosing true last t = Test
position_in choosing false last t = t
position_in sequencing first true t = t
position_in (binding vs) first true t = t
position_in (recurring vs procedures) first true t = t
position_in _ first last t = Value

abbrev pub but_one : ℕ → ℕ
but_one zero = zero
but_one (suc n) = n

-- how many operands, bindings or formals there are, of which a form may have 200; the first part of a
-- call is its operator
abbrev pub width : Kind → (parts : ℕ) → ℕ
width (binding vs) n = but_one n
width (recurring vs procedures) n = but_one n
width (abstracting vs more) n = length vs
width (calling vs) n = but_one n
width (operating p) n = n
width _ n = zero

-- how many variables are bound
abbrev pub bound_by : Kind → ℕ
bound_by (binding vs) = length vs
bound_by (recurring vs procedures) = length vs
bound_by (abstracting vs more) = length vs
bound_by _ = zero

-- ## What is made of the parts' drafts

abbrev pub nothing : Draft
nothing = constant Unspecified

abbrev pub front : Drafts → Drafts
front no_drafts = no_drafts
front (and_draft e no_drafts) = no_drafts
front (and_draft e (and_draft f fs)) = and_draft e (front (and_draft f fs))

abbrev pub last : Drafts → Draft
last no_drafts = nothing
last (and_draft e no_drafts) = e
last (and_draft e (and_draft f fs)) = last (and_draft f fs)

abbrev pub first : Drafts → Draft
first no_drafts = nothing
first (and_draft e es) = e

abbrev pub but_first : Drafts → Drafts
but_first no_drafts = no_drafts
but_first (and_draft e es) = es

abbrev pub assemble : Kind → Drafts → Draft
assemble choosing es = branch (last (front (front es))) (last (front es)) (last es)
assemble sequencing es = sequence es
assemble (binding vs) es = bind vs (front es) (last es)
assemble (recurring vs procedures) es = letrec vs procedures (front es) (last es)
assemble (abstracting vs more) es = lambda (length vs) more (last es)
assemble (calling vs) es = call vs (first es) (but_first es)
assemble (operating p) es = operation p es
assemble (setting k) es = set_local k (last es)
assemble (setting_global x) es = set_global x (last es)
assemble (defining x) es = define x (last es)
