-- The top-level forms of a text (R5RS 5.1 and 5.2). No local variable shadows a keyword there, and no global
-- one can.
use Rattle.std.specs.Prelude.{ℕ, Bool, true, false, cond, List, [], ◌∷◌, ◌++◌, Option, Some, map}
use Rattle.sch_read.specs.Grammar.{Datum, Data, atom, list, none, cons, symbol}
use Rattle.sch_read.specs.Parts.{offset}
use Rattle.sch_names.specs.declared.keyword.Keyword.{Keyword}
use Rattle.sch_names.specs.declared.keyword.Keyword.TheVariants.{Begin}
use Rattle.sch_names.specs.Words.{keyword_of}
use Rattle.sch_names.specs.Scope.{Globals}
use Rattle.sch_sketch.specs.Sketch.{Sketch, text, node, defining}
use Rattle.sch_sketch.specs.Definitions.{is_define_word}
use Rattle.sch_form_bodies.specs.Assignments.{row_define}
use Rattle.sch_link_tables.specs.Named.{firsts}

abbrev pub is_begin_word : Option Keyword → Bool
is_begin_word (Some Begin) = true
is_begin_word _ = false

-- the forms in the order of the text; the parts of a `begin` are forms
abbrev mutual
  pub forms_of : Datum → List Datum
  forms_of (list at (cons (atom q (symbol x)) xs)) =
      cond (is_begin_word (keyword_of x)) (forms_in xs) (list at (cons (atom q (symbol x)) xs) ∷ [])
  forms_of d = d ∷ []

  pub forms_in : Data → List Datum
  forms_in none = []
  forms_in (cons d ds) = forms_of d ++ forms_in ds

-- the number of bytes before each
abbrev pub form_places : Data → List ℕ
form_places items = map offset (forms_in items)

-- a form is a definition or an expression
abbrev pub form_sketch : Datum → Sketch
form_sketch (list at (cons (atom q (symbol x)) xs)) =
    cond (is_define_word (keyword_of x)) (row_define at xs) (text (list at (cons (atom q (symbol x)) xs)))
form_sketch d = text d

abbrev pub sketches_of : Data → List Sketch
sketches_of items = map form_sketch (forms_in items)

-- ## The globals of a text

-- the name that a form defines; a badly shaped definition has none
abbrev pub defined_by : Sketch → List (List ℕ)
defined_by (node (defining v) at ks) = v ∷ []
defined_by _ = []

abbrev pub defined_by_each : List Sketch → List (List ℕ)
defined_by_each [] = []
defined_by_each (k ∷ ks) = defined_by k ++ defined_by_each ks

abbrev pub defined : Data → List (List ℕ)
defined items = defined_by_each (sketches_of items)

-- the names that a text defines or assigns
abbrev pub own_names : Data → (assigned : List (List ℕ)) → List (List ℕ)
own_names items assigned = firsts [] (defined items ++ assigned)

-- the globals of a text that sees these names of a library, and assigns those
abbrev pub text_globals : (seen : List (List ℕ)) → Data → (assigned : List (List ℕ)) → Globals
text_globals seen items assigned =
    record { bound = firsts [] (seen ++ defined items); own = own_names items assigned; internal = false }
