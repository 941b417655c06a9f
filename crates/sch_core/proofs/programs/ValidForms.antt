-- The drafts of a text's forms are those of a valid program.
use Rattle.std.proofs.Common.{◌+◌, ◌≡◌, ◌≤◌, ◌*◌, ◌||◌, ℕ, Bool, true, false, cond, List, [], ◌∷◌, ◌++◌, map, refl, sym, subst, ◌∙◌, arith}
use Rattle.sch_word.specs.trees.Shape.{max_levels}
use Rattle.sch_lang.specs.Measures.{nodes_and_bound}
use Rattle.sch_lang.specs.Valid.{is_valid}
use Rattle.sch_names.specs.Scope.{Globals, is_among}
use Rattle.sch_sketch.specs.Draft.{Drafts}
use Rattle.sch_sketch.specs.Measure.{sketch_measure, sketches_measure}
use Rattle.sch_sketch.specs.Sketch.{sketches, sequencing}
use Rattle.sch_sketch.specs.Soundness as soundness
use Rattle.sch_sketch.proofs.SmallMeasures.{datum_weighs, data_weigh}
use Rattle.sch_form_bodies.proofs.DefinitionsFall.{define_falls}
use Rattle.sch_form_bodies.proofs.SoundDefinitions.{define_sound}
use Rattle.sch_link_tables.specs.Constants.{HaveConstants}
use Rattle.sch_link_tables.specs.Named.{own_global, library_global, global_of, globals_in_each}
use Rattle.sch_link_tables.specs.Programs.{Definition, names_of_each, program_of, procedures_of_each}
use Rattle.sch_core.specs.SoundDrafts.{AreSound, levels_each}
use Rattle.sch_sketch.specs.DraftMeasures.{size_each}
use Rattle.sch_core.specs.SizesOfStatics.{statics_in_each}
use Rattle.sch_core.specs.Quotable.{HaveWords}
use Rattle.sch_core.specs.LibraryDefinitions.{AreDefinitions, AreAmong, AreOrdered}
use Rattle.sch_core.specs.Excess.{HasFew}
use Rattle.sch_toplevel.specs.Texts.{SketchesExpand}
use Rattle.sch_core.specs.TextForms.{Form, expression, definition, sketch_of, IsBound, AreDefined, HasNames, AreOfData, form_weight, forms_weight, AreSmall}
use Rattle.sch_core.proofs.drafts.Parts.{all_in}
use Rattle.sch_core.proofs.drafts.Soundness.{sound_each}
use Rattle.sch_core.proofs.drafts.Levels.{level_each}
use Rattle.sch_core.proofs.sizes.StaticsOfSketches.{sketches_statics}
use Rattle.sch_core.proofs.sizes.StaticsOfRows.{define_statics}
use Rattle.sch_core.proofs.sizes.StaticsOfDrafts.{statics_each}
use Rattle.sch_link_program.proofs.NameSets.{among_append}
use Rattle.sch_link_program.proofs.ProgramSize.{program_size}
use Rattle.sch_core.proofs.programs.Starts.{among_map, among_left, among_right}
use Rattle.sch_core.proofs.programs.ValidPrograms.{valid}
use Rattle.sch_core.proofs.notions.Notions.{AreFit}
use Rattle.sch_core.proofs.notions.FitRows.{define_fits}
use Rattle.sch_core.proofs.notions.FitDrafts.{fits_each}
use Rattle.sch_core.proofs.notions.DataInRange.{in_range, all_good, in_range_kept, have_constants, have_words}
use Rattle.sch_core.proofs.notions.NamedGlobals.{naming, any_data, naming_kept, named_each}
use Rattle.sch_core.proofs.texts.TextSizes.{sized_each}

-- ## The sketches of forms

sound_all : (first : Bool) (fs : List Form) → soundness.AreSound sequencing first [] (sketches (map sketch_of fs))
sound_all first [] = tt
sound_all first (expression d ∷ fs) = (tt, sound_all false fs)
sound_all first (definition at xs ∷ fs) = (define_sound [] at xs, sound_all false fs)

statics_all : (fs : List Form) → sketches_statics (sketches (map sketch_of fs)) ≤ 2 * forms_weight fs
statics_all [] = omega arith
statics_all (expression d ∷ fs) = omega (arith, statics_all fs)
statics_all (definition at xs ∷ fs) = omega (arith, define_statics at xs, statics_all fs)

form_measure : (f : Form) → sketch_measure (sketch_of f) ≤ 16 * form_weight f
form_measure (expression d) = omega (arith, datum_weighs d)
form_measure (definition at xs) = omega (arith, define_falls at xs, data_weigh xs)

measure_all : (fs : List Form) → sketches_measure (sketches (map sketch_of fs)) ≤ 16 * forms_weight fs
measure_all [] = omega arith
measure_all (f ∷ fs) = omega (arith, form_measure f, measure_all fs)

module _ (globals : Globals) where
  data_fit : (fs : List Form) → AreOfData fs → AreFit in_range (sketches (map sketch_of fs))
  data_fit [] h = tt
  data_fit (expression d ∷ fs) h = (h.0, data_fit fs h.1)
  data_fit (definition at xs ∷ fs) h = (define_fits globals in_range (in_range_kept globals) at xs (all_good xs h.0) (λ x i. tt), data_fit fs h.1)

  names_fit : (own all : List (List ℕ)) → ((x : List ℕ) → is_among x globals.bound ≡ true → is_among (global_of own x) all ≡ true) →
      (fs : List Form) → AreDefined globals fs → AreFit (naming own all) (sketches (map sketch_of fs))
  names_fit own all known [] h = tt
  names_fit own all known (expression d ∷ fs) h = (tt, names_fit own all known fs h)
  names_fit own all known (definition at xs ∷ fs) h = (
    define_fits globals (naming own all) (naming_kept own all globals known) at xs (any_data own all xs) (λ x i. known x (subst (IsBound globals) i h.0)),
    names_fit own all known fs h.1,
  )

  -- ## Their drafts

  pub forms_sound : (fs : List Form) (es : Drafts) → SketchesExpand globals (map sketch_of fs) es → AreSound 0 es
  forms_sound fs es h = all_in sequencing true 0 [] es (λ f l. refl) (sound_each globals h (sound_all true fs))

  pub forms_level : (fs : List Form) (es : Drafts) → SketchesExpand globals (map sketch_of fs) es → levels_each es ≤ max_levels
  forms_level fs es h = omega (arith, level_each globals h (sound_all true fs))

  pub forms_statics : (fs : List Form) (es : Drafts) → SketchesExpand globals (map sketch_of fs) es → statics_in_each es ≤ 2 * forms_weight fs
  forms_statics fs es h = omega (arith, statics_each globals h (sound_all true fs), statics_all fs)

  pub forms_nodes : (fs : List Form) (es : Drafts) → SketchesExpand globals (map sketch_of fs) es → size_each es ≤ 16 * forms_weight fs
  forms_nodes fs es h = omega (arith, sized_each globals h (sound_all true fs), measure_all fs)

  pub forms_constants : (fs : List Form) (es : Drafts) → SketchesExpand globals (map sketch_of fs) es → AreOfData fs → HaveConstants es × HaveWords es
  forms_constants fs es h g =
      let r = fits_each globals in_range (in_range_kept globals) h (sound_all true fs) (data_fit fs g) in (have_constants es r, have_words es r)

  pub forms_named : (own all : List (List ℕ)) → ((x : List ℕ) → is_among x globals.bound ≡ true → is_among (global_of own x) all ≡ true) →
      (fs : List Form) (es : Drafts) → AreDefined globals fs → SketchesExpand globals (map sketch_of fs) es → AreAmong all (globals_in_each own es)
  forms_named own all known fs es d h =
      named_each own all es (fits_each globals (naming own all) (naming_kept own all globals known) h (sound_all true fs) (names_fit own all known fs d))

-- ## Names that are known

known : (ds : List Definition) (own : List (List ℕ)) (x : List ℕ) → is_among x (own ++ names_of_each ds) ≡ true →
    is_among (global_of own x) (map own_global own ++ map library_global (names_of_each ds)) ≡ true
known ds own x h = go (is_among x own) refl (sym (among_append x own (names_of_each ds)) ∙ h)
  where
    go : (b : Bool) → is_among x own ≡ b → (b || is_among x (names_of_each ds)) ≡ true →
        is_among (cond b (own_global x) (library_global x)) (map own_global own ++ map library_global (names_of_each ds)) ≡ true
    go true e k = among_left (own_global x) (map own_global own) (map library_global (names_of_each ds)) (among_map own_global x own e)
    go false e k = among_right (library_global x) (map own_global own) (map library_global (names_of_each ds)) (among_map library_global x (names_of_each ds) k)

-- ## The program

pub valid_text : (ds : List Definition) (globals : Globals) (own : List (List ℕ)) (fs : List Form) (forms : Drafts) →
    AreDefinitions ds → AreOrdered [] ds → SketchesExpand globals (map sketch_of fs) forms → AreDefined globals fs → HasNames ds own globals →
    HaveConstants forms → HaveWords forms → AreSmall ds fs →
    HasFew (program_of ds own forms) → is_valid (program_of ds own forms) ≡ true
valid_text ds globals own fs forms d o h b n c w m v =
    valid ds own forms d o
    (forms_named globals own (map own_global own ++ map library_global (names_of_each ds)) (λ x i. known ds own x (n x i)) fs forms b h)
    (forms_sound globals fs forms h) (forms_level globals fs forms h) c w v
    (omega (arith, m, forms_statics globals fs forms h))

-- The nodes and bound variables of a program are those of the library at most, and sixteen for each unit of the text's weight.
pub text_not_large : (ds : List Definition) (globals : Globals) (own : List (List ℕ)) (fs : List Form) (forms : Drafts) → AreDefinitions ds → SketchesExpand globals (map sketch_of fs) forms →
    nodes_and_bound (program_of ds own forms) ≤ size_each (procedures_of_each ds) + 16 * forms_weight fs
text_not_large ds globals own fs forms d h = omega (arith, program_size ds own forms, forms_nodes globals fs forms h)
