-- The laws of validity: what a library and a text must be for their program to be valid.
use Rattle.std.specs.Prelude.{◌≡◌, ◌≤◌, ◌+◌, ◌*◌, true, ℕ, List, [], map}
use Rattle.sch_lang.specs.Measures.{nodes_and_bound}
use Rattle.sch_lang.specs.Valid.{is_valid}
use Rattle.sch_read.specs.Grammar.{Data}
use Rattle.sch_read.specs.Valid.{weights}
use Rattle.sch_names.specs.Scope.{Globals}
use Rattle.sch_sketch.specs.Draft.{Drafts}
use Rattle.sch_link_tables.specs.Constants.{HasConstants, HaveConstants}
use Rattle.sch_link_tables.specs.Programs.{Definition, program_of, procedure_of, procedures_of_each}
use Rattle.sch_core.specs.Excess.{HasFew}
use Rattle.sch_toplevel.specs.Texts.{SketchesExpand}
use Rattle.sch_core.specs.TextForms.{Form, sketch_of, ItemExpands, HasEarlier, AreDefined, HasNames, AreOfData, forms_weight, AreSmall}
use Rattle.sch_core.specs.LibraryDefinitions.{IsDefinition, AreDefinitions, IsOrdered, AreOrdered}
use Rattle.sch_sketch.specs.DraftMeasures.{size, size_each}
use Rattle.sch_core.specs.SizesOfStatics.{statics_in}
use Rattle.sch_core.specs.Quotable.{AllQuotable, HasWords, HaveWords}

-- a library whose procedures are sound, and each of which names itself and earlier ones alone
abbrev pub IsLibrary : List Definition → Type 0
IsLibrary ds = AreDefinitions ds × AreOrdered [] ds

-- the drafts of the forms of a text that uses the names of a library and its own, with the constants that a program may have
abbrev pub IsText : List Definition → Globals → (own : List (List ℕ)) → List Form → Drafts → Type 0
IsText ds globals own fs forms =
    SketchesExpand globals (map sketch_of fs) forms × AreDefined globals fs × HasNames ds own globals × HaveConstants forms × HaveWords forms

-- the program of a library and a text is valid where they are small enough, and its bodies have few variables
abbrev pub TextsAreValid : Type 0
TextsAreValid =
    (ds : List Definition) (globals : Globals) (own : List (List ℕ)) (fs : List Form) (forms : Drafts) →
    IsLibrary ds → IsText ds globals own fs forms → AreSmall ds fs →
    HasFew (program_of ds own forms) → is_valid (program_of ds own forms) ≡ true

-- a program has no more nodes and bound variables than the library and sixteen for each unit of the text's weight
abbrev pub ProgramsAreNotLarge : Type 0
ProgramsAreNotLarge =
    (ds : List Definition) (globals : Globals) (own : List (List ℕ)) (fs : List Form) (forms : Drafts) →
    AreDefinitions ds → SketchesExpand globals (map sketch_of fs) forms →
    nodes_and_bound (program_of ds own forms) ≤ size_each (procedures_of_each ds) + 16 * forms_weight fs

-- what stands for forms of data in range has constants in range
abbrev pub ConstantsAreOfData : Type 0
ConstantsAreOfData =
    (globals : Globals) (fs : List Form) (forms : Drafts) → SketchesExpand globals (map sketch_of fs) forms → AreOfData fs →
    HaveConstants forms × HaveWords forms

-- ## Items of a library

-- what an item stands for is a definition of a valid program
abbrev pub ItemsAreDefinitions : Type 0
ItemsAreDefinitions =
    (globals : Globals) (at : ℕ) (xs : Data) (d : Definition) → ItemExpands globals at xs d →
    HasConstants (procedure_of d) → HasWords (procedure_of d) → IsDefinition d

-- it names itself and earlier ones alone, where no other names are there for it
abbrev pub ItemsAreOrdered : Type 0
ItemsAreOrdered =
    (globals : Globals) (at : ℕ) (xs : Data) (d : Definition) → ItemExpands globals at xs d →
    (before : List (List ℕ)) → HasEarlier before d.name globals → IsOrdered before d

-- it is as large as its weight allows
abbrev pub ItemsAreSmall : Type 0
ItemsAreSmall =
    (globals : Globals) (at : ℕ) (xs : Data) (d : Definition) → ItemExpands globals at xs d →
    (statics_in (procedure_of d) ≤ 2 * weights xs) × (size (procedure_of d) ≤ 4 + 16 * weights xs)

-- an item of data in range has constants in range
abbrev pub ItemsHaveConstants : Type 0
ItemsHaveConstants =
    (globals : Globals) (at : ℕ) (xs : Data) (d : Definition) → ItemExpands globals at xs d →
    AllQuotable xs → HasConstants (procedure_of d) × HasWords (procedure_of d)
