-- A library whose definitions are drafts, and the names that it and a text may use.
use Rattle.std.specs.Prelude.{◌≡◌, ◌≤◌, ◌*◌, ℕ, true, List, [], ◌∷◌, ◌++◌, length, map, Some}
use Rattle.sch_word.specs.trees.Shape.{max_levels}
use Rattle.sch_read.specs.Valid.{max_weight}
use Rattle.sch_names.specs.Scope.{is_among, VariableNames}
use Rattle.sch_sketch.specs.Draft.{Draft, Drafts}
use Rattle.sch_link_tables.specs.Constants.{HasConstants}
use Rattle.sch_link_tables.specs.Named.{own_global, library_global, globals_in, globals_in_each}
use Rattle.sch_link_tables.specs.Programs.{Definition, procedure_of, procedures_of_each, names_of_each}
use Rattle.sch_link_program.specs.Size.{size_of_definitions}
use Rattle.sch_core.specs.SoundDrafts.{IsProcedure, IsSound, levels}
use Rattle.sch_core.specs.Excess.{AreFew}
use Rattle.sch_core.specs.Quotable.{HasWords}
use Rattle.sch_core.specs.SizesOfStatics.{statics_in_each}

-- there is a name for each draft, and each draft is that of a procedure
abbrev pub AreNamedProcedures : VariableNames → List Draft → Type 0
AreNamedProcedures [] [] = Unit {0}
AreNamedProcedures (Some v ∷ vs) (e ∷ es) = IsProcedure e × AreNamedProcedures vs es
AreNamedProcedures _ _ = ⊥

-- a definition of a valid program: its procedure stands in no scope
abbrev pub IsDefinition : Definition → Type 0
IsDefinition d =
    IsSound 0 (procedure_of d) × (levels (procedure_of d) ≤ max_levels) × HasConstants (procedure_of d) × HasWords (procedure_of d)

abbrev pub AreDefinitions : List Definition → Type 0
AreDefinitions [] = Unit {0}
AreDefinitions (d ∷ ds) = IsDefinition d × AreDefinitions ds

-- ## Names

abbrev pub AreAmong : (all : List (List ℕ)) → List (List ℕ) → Type 0
AreAmong all [] = Unit {0}
AreAmong all (x ∷ xs) = (is_among x all ≡ true) × AreAmong all xs

-- the globals that a definition names are its own and those of these names
abbrev pub IsOrdered : (before : List (List ℕ)) → Definition → Type 0
IsOrdered before d = AreAmong (map library_global (d.name ∷ before)) (globals_in [] d.body)

-- a definition names itself and those before it alone
abbrev pub AreOrdered : (before : List (List ℕ)) → List Definition → Type 0
AreOrdered before [] = Unit {0}
AreOrdered before (d ∷ ds) = IsOrdered before d × AreOrdered (d.name ∷ before) ds

-- the globals of a text are its own and the library's
abbrev pub AreKnown : List Definition → (own : List (List ℕ)) → Drafts → Type 0
AreKnown ds own forms = AreAmong (map own_global own ++ map library_global (names_of_each ds)) (globals_in_each own forms)

-- ## Libraries

-- A library of valid programs' definitions: its procedures are sound, each names itself and earlier ones alone, none
-- has too much of anything, together they are small, and they are no more than the items of a text can be, nor have they more nodes.
pub record IsSoundLibrary (ds : List Definition) : Type 0 where
  pub sound : AreDefinitions ds
  pub ordered : AreOrdered [] ds
  pub few : AreFew ds
  pub small : statics_in_each (procedures_of_each ds) ≤ 2 * max_weight
  pub few_definitions : length ds ≤ max_weight
  pub few_nodes : size_of_definitions ds ≤ 16 * max_weight
