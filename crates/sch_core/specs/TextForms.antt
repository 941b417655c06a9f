-- The forms of a text (R5RS 5.1 and 5.2.1): expressions and definitions, and the drafts that stand for them.
use Rattle.std.specs.Prelude.{◌≡◌, ◌≤◌, ◌+◌, ◌*◌, ℕ, true, List, [], ◌∷◌, ◌++◌, Option, Some, None}
use Rattle.sch_word.specs.runs.Runs.{max_statics}
use Rattle.sch_read.specs.Grammar.{Datum, Data, none}
use Rattle.sch_read.specs.Valid.{weight, weights}
use Rattle.sch_names.specs.Scope.{Globals, is_among}
use Rattle.sch_sketch.specs.declared.sketch.Position.TheVariants.{Value}
use Rattle.sch_sketch.specs.declared.sketch.Row.TheVariants.{Method}
use Rattle.sch_sketch.specs.Sketch.{Sketch, text, rest}
use Rattle.sch_form_bodies.specs.Assignments.{row_define}
use Rattle.sch_sketch.specs.Definitions.{defined_name}
use Rattle.sch_expansion.specs.Expands.{Expands}
use Rattle.sch_link_tables.specs.Programs.{Definition, names_of_each, procedure_of, procedures_of_each}
use Rattle.sch_core.specs.SizesOfStatics.{statics_in_each}
use Rattle.sch_core.specs.Quotable.{IsQuotable, AllQuotable}

-- a definition has its place and what follows its word
pub data Form : Type 0 where
  expression : Datum → Form
  definition : (at : ℕ) → Data → Form

abbrev pub sketch_of : Form → Sketch
sketch_of (expression d) = text d
sketch_of (definition at xs) = row_define at xs

-- what follows `define` in an item of a library, `(v . F) e ..`, stands for its procedure at the outermost level
abbrev pub ItemExpands : Globals → (at : ℕ) → Data → Definition → Type 0
ItemExpands globals at xs d = Expands globals 1 [] Value (rest Method at xs none) (procedure_of d)

-- ## Names

abbrev pub IsBound : Globals → Option (List ℕ) → Type 0
IsBound globals None = Unit {0}
IsBound globals (Some v) = is_among v globals.bound ≡ true

-- the names that are defined are among those that there are
abbrev pub AreDefined : Globals → List Form → Type 0
AreDefined globals [] = Unit {0}
AreDefined globals (expression d ∷ fs) = AreDefined globals fs
AreDefined globals (definition at xs ∷ fs) = IsBound globals (defined_name xs) × AreDefined globals fs

-- the names that there are for an item of a library are its own and those of earlier items
abbrev pub HasEarlier : (before : List (List ℕ)) → List ℕ → Globals → Type 0
HasEarlier before name globals = (x : List ℕ) → is_among x globals.bound ≡ true → is_among x (name ∷ before) ≡ true

-- the names that there are for a text are its own and the library's
abbrev pub HasNames : List Definition → (own : List (List ℕ)) → Globals → Type 0
HasNames ds own globals = (x : List ℕ) → is_among x globals.bound ≡ true → is_among x (own ++ names_of_each ds) ≡ true

-- ## Data

-- the data of forms may stand in a text
abbrev pub AreOfData : List Form → Type 0
AreOfData [] = Unit {0}
AreOfData (expression d ∷ fs) = IsQuotable d × AreOfData fs
AreOfData (definition at xs ∷ fs) = AllQuotable xs × AreOfData fs

-- ## Sizes

-- a definition's word is one datum at least
abbrev pub form_weight : Form → ℕ
form_weight (expression d) = weight d
form_weight (definition at xs) = 1 + weights xs

abbrev pub forms_weight : List Form → ℕ
forms_weight [] = 0
forms_weight (f ∷ fs) = form_weight f + forms_weight fs

-- A library and a text are small enough for their symbols, literals and globals: those of a text take at most twice its
-- weight.
abbrev pub AreSmall : List Definition → List Form → Type 0
AreSmall ds fs = statics_in_each (procedures_of_each ds) + 2 * forms_weight fs ≤ max_statics
