-- What the code finds data at top level to be, and what its forms stand for.
use Rattle.std.specs.Prelude.{◌≡◌, ◌<◌, ℕ, List, [], ◌∷◌, map}
use Rattle.sch_read.specs.Grammar.{Datum}
use Rattle.sch_read.specs.Parts.{offset}
use Rattle.sch_read.specs.Valid.{weight, weights}
use Rattle.sch_read.specs.Views.{tree_of, data_of}
use Rattle.sch_sketch.specs.Sketch.{Sketch, text}
use Rattle.sch_form_bodies.specs.Assignments.{row_define}
use Rattle.sch_toplevel.specs.declared.forms.Form.{Form}
use Rattle.sch_toplevel.specs.declared.forms.Form.TheVariants.{Definition, Expression}
use Rattle.sch_toplevel.specs.declared.forms.TopLevel.{TopLevel}
use Rattle.sch_toplevel.specs.declared.forms.TopLevel.TheVariants as top
use Rattle.sch_toplevel.specs.Forms.{forms_of, forms_in, form_sketch}
use Rattle.sch_toplevel.specs.Items.{behind}

-- the number of bytes before a form, and what it is read as
abbrev pub place_at : Form → ℕ
place_at (Definition at items) = at
place_at (Expression d) = offset (tree_of d.now)

abbrev pub sketch_at : Form → Sketch
sketch_at (Definition at items) = row_define at (data_of items.now)
sketch_at (Expression d) = text (tree_of d.now)

abbrev pub places_at : List Form → List ℕ
places_at fs = map place_at fs

abbrev pub sketches_at : List Form → List Sketch
sketches_at fs = map sketch_at fs

-- a datum is a form
abbrev pub IsForm : Datum → Form → Type 0
IsForm d (Definition at items) = (offset d ≡ at) × (form_sketch d ≡ row_define at (data_of items.now)) × (behind d ≡ data_of items.now)
IsForm d (Expression e) = (tree_of e.now ≡ d) × (form_sketch d ≡ text d)

-- it is one, or has forms as its parts
abbrev pub IsTopLevel : Datum → TopLevel → Type 0
IsTopLevel d (top.Begin items) = (forms_of d ≡ forms_in (data_of items.now)) × (form_sketch d ≡ text d) × (weights (data_of items.now) < weight d)
IsTopLevel d (top.Form f) = (forms_of d ≡ d ∷ []) × IsForm d f
