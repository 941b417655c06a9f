-- A text is read form by form: each at level 1, outside all variables and for its value, as the parts of a
-- `begin` are.
use Rattle.std.specs.Prelude.{◌≡◌, ◌≤◌, ℕ, true, List, [], Option, Some, None}
use Rattle.sch_read.specs.Grammar.{Data}
use Rattle.sch_names.specs.Scope.{Globals}
use Rattle.sch_sketch.specs.declared.fault.Fault.{Fault}
use Rattle.sch_sketch.specs.declared.sketch.Position.TheVariants.{Value}
use Rattle.sch_sketch.specs.Draft.{Drafts}
use Rattle.sch_sketch.specs.Sketch.{Sketch, sketches, sequencing}
use Rattle.sch_expansion.specs.FaultOrder.{rank}
use Rattle.sch_expansion.specs.Expands.{PartsExpand}
use Rattle.sch_expansion.specs.Faults.{PartHasFault}
use Rattle.sch_expansion.specs.Reads.{PartsRead}
use Rattle.sch_toplevel.specs.Forms.{sketches_of, own_names, text_globals}
use Rattle.sch_toplevel.specs.Assigned.{assigned_in_each}

-- sketches stand for drafts as the parts of a sequence at the outermost level do, in no scope
abbrev pub SketchesExpand : Globals → List Sketch → Drafts → Type 0
SketchesExpand globals ks es = PartsExpand globals sequencing true 1 [] Value (sketches ks) es

-- the forms of a text, in order, stand for drafts
abbrev pub FormsExpand : Globals → Data → Drafts → Type 0
FormsExpand globals items = SketchesExpand globals (sketches_of items)

-- some form has a fault
abbrev pub FormHasFault : Globals → Data → Fault → Type 0
FormHasFault globals items f = PartHasFault globals sequencing true 1 [] Value (sketches (sketches_of items)) f

-- the forms are read in order, from the first on: the least fault, and the drafts that are built
abbrev pub FormsRead : Globals → Data → Option Fault → Drafts → Type 0
FormsRead globals items f es = PartsRead globals sequencing true 1 [] Value (sketches (sketches_of items)) None f es

-- The names that a text assigns by a `set!` that finds no local variable (R5RS 4.1.6): they are read off a reading
-- as if it assigned nothing. What it assigns depends on scopes, and on what is an operation only where a level
-- is too deep: operands lie as deep in an operation as in a call, but for `not`, whose operand is read for its truth,
-- where an `or` nests less. A name that is assigned is no operation in the second reading, whose operands are the
-- same: so where a text expands, its drafts assign these names and no others (`text_assigns_the_names_found` of
-- `sch_core`).
pub record Assigns (seen : List (List ℕ)) (items : Data) (names : List (List ℕ)) : Type 0 where
  pub fault : Option Fault
  pub drafts : Drafts
  pub reads : FormsRead (text_globals seen items []) items fault drafts
  pub assigned : names ≡ assigned_in_each drafts

-- a text that sees these names of a library, assigns those, and stands for drafts
pub record TextExpands (seen : List (List ℕ)) (items : Data) (assigned : List (List ℕ)) (es : Drafts) : Type 0 where
  pub assigns : Assigns seen items assigned
  pub expands : FormsExpand (text_globals seen items assigned) items es

-- the fault that is answered: a least one, and of two unbound names at one place the one that is found first in
-- the order of the text
pub record IsFaultOf (seen : List (List ℕ)) (items : Data) (f : Fault) : Type 0 where
  pub names : List (List ℕ)
  pub assigns : Assigns seen items names
  pub there : FormHasFault (text_globals seen items names) items f
  pub least : (g : Fault) → FormHasFault (text_globals seen items names) items g → rank f ≤ rank g
  pub drafts : Drafts
  pub first : FormsRead (text_globals seen items names) items (Some f) drafts

-- A text is read: it has these names of its own, and its forms have a least fault and drafts.
pub record IsRead (seen : List (List ℕ)) (items : Data) (own : List (List ℕ)) (fault : Option Fault) (es : Drafts) : Type 0 where
  pub names : List (List ℕ)
  pub assigns : Assigns seen items names
  pub owned : own ≡ own_names items names
  pub reads : FormsRead (text_globals seen items names) items fault es
