-- The items of a library's text: each defines a procedure, `(define (v . F) e ..)`, of a name that no earlier item
-- defines, and names only itself and earlier ones.
use Rattle.std.specs.Prelude.{◌≡◌, ◌⊎◌, ℕ, Bool, true, false, cond, not, ◌&&◌, List, [], ◌∷◌, Option, Some, None}
use Rattle.sch_read.specs.Grammar.{Datum, Data, atom, list, none, cons}
use Rattle.sch_read.specs.Parts.{offset}
use Rattle.sch_names.specs.NamesView.{with_name}
use Rattle.sch_names.specs.Scope.{is_among, Globals, VariableNames}
use Rattle.sch_sketch.specs.declared.fault.Fault.{Fault}
use Rattle.sch_sketch.specs.declared.fault.Fault.TheVariants.{BadForm}
use Rattle.sch_sketch.specs.declared.sketch.Position.TheVariants.{Value}
use Rattle.sch_sketch.specs.declared.sketch.Row.TheVariants.{Method}
use Rattle.sch_sketch.specs.Draft.{Draft, lambda}
use Rattle.sch_sketch.specs.Sketch.{Sketch, rest, wrong, node, defining}
use Rattle.sch_expansion.specs.Expands.{Expands}
use Rattle.sch_expansion.specs.Faults.{HasFault}
use Rattle.sch_expansion.specs.Reads.{Reads}
use Rattle.sch_link_tables.specs.Programs.{Definition}
use Rattle.sch_toplevel.specs.Forms.{form_sketch}

-- ## One item, behind those that define these names

-- what follows the word at its head
abbrev pub behind : Datum → Data
behind (list at (cons o xs)) = xs
behind d = none

-- whether that begins with a name and its formals, and no name alone
abbrev pub is_method : Data → Bool
is_method none = false
is_method (cons (atom q a) es) = false
is_method (cons h es) = true

-- the name that it defines, as a form at top level
abbrev pub item_name : Data → Sketch → Option (List ℕ)
item_name xs (node (defining v) p ks) = cond (is_method xs) (Some v) None
item_name xs _ = None

-- the procedure that it defines
abbrev pub item_sketch : (before : List (List ℕ)) → (at : ℕ) → Data → Sketch → Sketch
item_sketch before at xs (node (defining v) p ks) = cond (is_method xs && not (is_among v before)) (rest Method at xs none) (wrong (BadForm at))
item_sketch before at xs (wrong f) = wrong f
item_sketch before at xs _ = wrong (BadForm at)

abbrev pub with_item : Option (List ℕ) → List (List ℕ) → List (List ℕ)
with_item (Some v) names = with_name v names
with_item None names = names

-- the same of the datum: its name, the names by then, the globals that it may name, and its procedure
abbrev pub name_in : Datum → Option (List ℕ)
name_in d = item_name (behind d) (form_sketch d)

abbrev pub names_by : (before : List (List ℕ)) → Datum → List (List ℕ)
names_by before d = with_item (name_in d) before

abbrev pub item_globals : (before : List (List ℕ)) → Datum → Globals
item_globals before d = record { bound = names_by before d; own = []; internal = true }

abbrev pub procedure_in : (before : List (List ℕ)) → Datum → Sketch
procedure_in before d = item_sketch before (offset d) (behind d) (form_sketch d)

-- ## The items behind those that define these names

-- the number of bytes before each
abbrev pub item_places : Data → List ℕ
item_places none = []
item_places (cons d ds) = offset d ∷ item_places ds

-- the name of each, where it is well shaped
abbrev pub item_names : Data → VariableNames
item_names none = []
item_names (cons d ds) = name_in d ∷ item_names ds

-- they stand for definitions, each procedure at level 1
abbrev pub ItemsExpand : (before : List (List ℕ)) → Data → List Definition → Type 0
ItemsExpand before none [] = Unit {0}
ItemsExpand before (cons d ds) (x ∷ xs) =
    (name_in d ≡ Some x.name)
    × Expands (item_globals before d) 1 [] Value (procedure_in before d) (lambda x.formals x.rest x.body)
    × ItemsExpand (names_by before d) ds xs
ItemsExpand before _ _ = ⊥

-- some item has a fault
abbrev pub ItemHasFault : (before : List (List ℕ)) → Data → Fault → Type 0
ItemHasFault before none f = ⊥
ItemHasFault before (cons d ds) f = HasFault (item_globals before d) 1 [] Value (procedure_in before d) f ⊎ ItemHasFault (names_by before d) ds f

-- they are read in order: the least fault before and after, and the drafts that are built
abbrev pub ItemsRead : (before : List (List ℕ)) → Data → (a b : Option Fault) → List Draft → Type 0
ItemsRead before none a b es = (b ≡ a) × (es ≡ [])
ItemsRead before (cons d ds) a b es =
    (m : Option Fault) × (e : Draft) × (more : List Draft) × (es ≡ e ∷ more)
    × Reads (item_globals before d) 1 [] Value (procedure_in before d) a m e × ItemsRead (names_by before d) ds m b more
