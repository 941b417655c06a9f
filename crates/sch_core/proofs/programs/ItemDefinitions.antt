-- The procedure that an item of a library stands for is that of a definition of a valid program.
use Rattle.std.proofs.Common.{◌≤◌, ◌+◌, ◌*◌, ℕ, List, [], ◌∷◌, map, arith}
use Rattle.sch_read.specs.Grammar.{Data}
use Rattle.sch_read.specs.Valid.{weights}
use Rattle.sch_names.specs.Scope.{Globals}
use Rattle.sch_sketch.proofs.SmallMeasures.{data_weigh}
use Rattle.sch_link_tables.specs.Constants.{HasConstants}
use Rattle.sch_link_tables.specs.Named.{library_global}
use Rattle.sch_link_tables.specs.Programs.{Definition, procedure_of}
use Rattle.sch_core.specs.TextForms.{ItemExpands, HasEarlier}
use Rattle.sch_core.specs.LibraryDefinitions.{IsDefinition, IsOrdered}
use Rattle.sch_sketch.specs.DraftMeasures.{size}
use Rattle.sch_core.specs.SizesOfStatics.{statics_in}
use Rattle.sch_core.specs.Quotable.{AllQuotable, HasWords}
use Rattle.sch_core.proofs.drafts.Levels.{level}
use Rattle.sch_core.proofs.notions.NamedGlobals.{naming, any_data, naming_kept, named}
use Rattle.sch_core.proofs.notions.DataInRange.{in_range, all_good, in_range_kept, has_constants, has_words}
use Rattle.sch_core.proofs.notions.FitDrafts.{fits}
use Rattle.sch_core.proofs.drafts.Soundness.{sound}
use Rattle.sch_core.proofs.programs.Starts.{among_map}
use Rattle.sch_core.proofs.sizes.StaticsOfDrafts.{statics}
use Rattle.sch_core.proofs.texts.TextSizes.{sized}

module _ (globals : Globals) (at : ℕ) (xs : Data) (d : Definition) (h : ItemExpands globals at xs d) where
  pub item_is_definition : HasConstants (procedure_of d) → HasWords (procedure_of d) → IsDefinition d
  item_is_definition c w = (sound globals h tt, omega (arith, level globals h tt), c, w)

  pub item_constants : AllQuotable xs → HasConstants (procedure_of d) × HasWords (procedure_of d)
  item_constants g = let r = fits globals in_range (in_range_kept globals) h tt (all_good xs g, tt) in (has_constants (procedure_of d) r, has_words (procedure_of d) r)

  pub item_ordered : (before : List (List ℕ)) → HasEarlier before d.name globals → IsOrdered before d
  item_ordered before n =
      let all = map library_global (d.name ∷ before) in
      let known = naming_kept [] all globals (λ x i. among_map library_global x (d.name ∷ before) (n x i)) in
      named [] all (procedure_of d) (fits globals (naming [] all) known h tt (any_data [] all xs, tt))

  pub item_statics : statics_in (procedure_of d) ≤ 2 * weights xs
  item_statics = omega (arith, statics globals h tt)

  pub item_nodes : size (procedure_of d) ≤ 4 + 16 * weights xs
  item_nodes = omega (arith, sized globals h tt, data_weigh xs)
