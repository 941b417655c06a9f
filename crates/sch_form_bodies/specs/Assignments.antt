-- The rows of assignments (R5RS 4.1.6) and of definitions at top level (R5RS 5.2.1).
use Rattle.std.specs.Prelude.{ℕ, Bool, true, false, List, Option, Some, None}
use Rattle.sch_read.specs.Grammar.{Datum, Data, atom, none, cons, symbol}
use Rattle.sch_names.specs.declared.keyword.Keyword.{Keyword}
use Rattle.sch_names.specs.Words.{keyword_of}
use Rattle.sch_names.specs.Scope.{Scope, Globals, find, is_among}
use Rattle.sch_sketch.specs.declared.fault.Fault.TheVariants.{BadForm, KeywordDefined, Unbound}
use Rattle.sch_sketch.specs.Sketch.{Sketch, text, wrong, node, setting, setting_global, defining}
use Rattle.sch_sketch.specs.Small.{one, two}
use Rattle.sch_sketch.specs.Formals.{listed}
use Rattle.sch_sketch.specs.Definitions.{defined_name, defined_sketch}

-- An assignment to a variable: local, a keyword, global, or of no name that there is. The last has a part
-- more, which is wrong at the name.
abbrev pub assignment : Option ℕ → Option Keyword → (global : Bool) → (at q : ℕ) → List ℕ → Datum → Sketch
assignment (Some k) w g at q x e = node (setting k) at (one (text e))
assignment None (Some w) g at q x e = wrong (BadForm at)
assignment None None true at q x e = node (setting_global x) at (one (text e))
assignment None None false at q x e = node (setting_global x) at (two (wrong (Unbound q x)) (text e))

abbrev pub assigning : Globals → Scope → ℕ → Datum → Datum → Sketch
assigning g s at (atom q (symbol x)) e = assignment (find s x) (keyword_of x) (is_among x g.bound) at q x e
assigning g s at _ e = wrong (BadForm at)

abbrev pub row_set : Globals → Scope → ℕ → Data → Sketch
row_set g s at (cons v (cons e none)) = assigning g s at v e
row_set g s at _ = wrong (BadForm at)

-- ## Definitions at top level

-- the name at which a definition aims, well shaped or not
abbrev pub first_name : Data → Option (List ℕ)
first_name (cons (atom q (symbol v)) fs) = Some v
first_name _ = None

abbrev pub aimed_name : Data → Option (List ℕ)
aimed_name (cons (atom q (symbol v)) es) = Some v
aimed_name (cons h es) = first_name (listed h)
aimed_name none = None

abbrev pub keyword_at : Option (List ℕ) → Option Keyword
keyword_at (Some v) = keyword_of v
keyword_at None = None

abbrev pub definition : Option Keyword → Option (List ℕ) → ℕ → Data → Sketch
definition (Some k) v at xs = wrong (KeywordDefined at)
definition None (Some v) at xs = node (defining v) at (one (defined_sketch at xs))
definition None None at xs = wrong (BadForm at)

-- A definition of a keyword is one at top level, whatever its shape; a badly shaped one defines nothing.
abbrev pub row_define : ℕ → Data → Sketch
row_define at xs = definition (keyword_at (aimed_name xs)) (defined_name xs) at xs
