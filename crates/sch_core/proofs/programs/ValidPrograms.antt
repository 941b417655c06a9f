-- The program of sound drafts is valid.
use Rattle.std.proofs.Common.{◌≡◌, ◌≤◌, ◌+◌, ◌++◌, ◌&&◌, ℕ, Bool, true, List, [], length, ap, sym, ◌∙◌, arith, length-append, le-leb}
use Rattle.std.proofs.lemmas.Bool.{and_from}
use Rattle.sch_word.specs.runs.Runs.{max_statics, statics_size}
use Rattle.sch_word.specs.trees.Shape.{Procedure, max_levels, max_variables, procedures_fit}
use Rattle.sch_word.specs.values.Literals.{count_literals}
use Rattle.sch_lang.specs.Tree.{Expression, Expressions, Source}
use Rattle.sch_lang.specs.Measures as measures
use Rattle.sch_lang.specs.Measures.{over_each, over_lambdas, site_here, levels_lambdas, procedures}
use Rattle.sch_lang.specs.Valid.{named_here, fits_here, shaped_here, lambdas_fit, in_range, constants_in_range, shaped, within_limits, sites_once, statics_known, is_valid}
use Rattle.sch_lang.specs.InScope.{lambdas_in_scope}
use Rattle.sch_lang.proofs.SitesInOrder as order
use Rattle.sch_lang.proofs.SitesInOrder.{sites_in_order}
use Rattle.sch_variable_counts.specs.Within.{has_few_variables, has_few_free, each_lambda, each_procedure_in}
use Rattle.sch_sketch.specs.Draft.{Drafts}
use Rattle.sch_link_tables.specs.Constants.{HaveConstants}
use Rattle.sch_link_tables.specs.Named.{firsts, globals_in_each, symbols_in_each}
use Rattle.sch_link_tables.specs.Numbered.{procedures_of, numbered_each}
use Rattle.sch_link_tables.specs.Programs.{Definition, kept, held, named, globals_of_each, symbols_of_each, quotes_of_each, widths_of_definitions, program_with, program_of, procedures_of_each}
use Rattle.sch_link_tables.specs.Quoted.{quotes_in_each}
use Rattle.sch_link_tables.specs.Sites.{widths_of_each}
use Rattle.sch_link_tables.proofs.FewNumbers.{firsts_length}
use Rattle.sch_link_program.proofs.ProgramConstants.{program_ranged}
use Rattle.sch_core.specs.SoundDrafts.{AreSound, levels_each}
use Rattle.sch_core.specs.LibraryDefinitions.{AreDefinitions, AreAmong, AreOrdered, AreKnown}
use Rattle.sch_core.specs.Excess.{HasFew}
use Rattle.sch_core.specs.SizesOfStatics.{statics_in_each}
use Rattle.sch_core.specs.Quotable.{HaveWords}
use Rattle.sch_core.proofs.numbered.FewBodies.{few_lambdas, few_free_lambdas, few_forms, few_free_forms, forms_within}
use Rattle.sch_core.proofs.numbered.Groups.{AreLambdas, scope_group, levels_group, sites_group, few_group, holds_group, fit_group, lambdas_numbered}
use Rattle.sch_core.proofs.numbered.Sites.{joined, sites_each}
use Rattle.sch_core.proofs.numbered.Scopes.{scoped_each}
use Rattle.sch_core.proofs.numbered.Shapes.{shaped_each}
use Rattle.sch_core.proofs.numbered.Limits.{fitting_each, levels_each_kept}
use Rattle.sch_core.proofs.numbered.Names.{left, right, all_among, named_each}
use Rattle.sch_core.proofs.sizes.StaticsOfPrograms.{firsts_size, firsts_bytes, bytes_append, all_bytes, sizes, quotable_append, count_quotes, sizes_append, named_append, quotes_known, quotes_each_named, quotes_range, all_statics_below}
use Rattle.sch_core.proofs.programs.KeptDefinitions.{given, procedures_are, all_procedures, count_definitions, sound_definitions, level_definitions, constant_definitions, quotable_definitions, bytes_definitions, kept_sound, kept_statics}
use Rattle.sch_core.proofs.programs.Starts.{AreReady, known_starts, starts_length, globals_ready}

-- ## Of definitions that are kept, and forms

module _ (ds : List Definition) (own hs : List (List ℕ)) (forms : Drafts) where
  abbrev p : Source
  p = program_with ds own hs forms

  abbrev globals : List (List ℕ)
  globals = firsts [] (globals_of_each ds ++ globals_in_each own forms)

  abbrev symbols : List (List ℕ)
  symbols = firsts [] (symbols_of_each ds ++ symbols_in_each forms)

  -- the library as expressions
  abbrev library : Expressions
  library = numbered_each [] globals symbols (given ds) (procedures_of_each ds) 0 0

  are_lambdas : AreLambdas library
  are_lambdas = lambdas_numbered [] globals symbols (procedures_of_each ds) (given ds) 0 0 (all_procedures ds)

  library_is : p.library ≡ procedures_of library
  library_is = procedures_are globals symbols ds 0 0

  library_holds : (here : Expression → Bool) → over_each true (λ a b. a && b) here library ≡ true → over_lambdas true (λ a b. a && b) here p.library ≡ true
  library_holds here h = ap (over_lambdas true (λ a b. a && b) here) library_is ∙ holds_group here library are_lambdas h

  -- ## Names

  globals_among : AreAmong globals (globals_of_each ds ++ globals_in_each own forms)
  globals_among = all_among _ []

  symbols_among : AreAmong symbols (symbols_of_each ds ++ symbols_in_each forms)
  symbols_among = all_among _ []

  library_globals : AreAmong globals (globals_in_each [] (procedures_of_each ds))
  library_globals = left globals (globals_of_each ds) _ globals_among

  library_symbols : AreAmong symbols (symbols_in_each (procedures_of_each ds))
  library_symbols = left symbols (symbols_of_each ds) _ symbols_among

  form_globals : AreAmong globals (globals_in_each own forms)
  form_globals = right globals (globals_of_each ds) _ globals_among

  form_symbols : AreAmong symbols (symbols_in_each forms)
  form_symbols = right symbols (symbols_of_each ds) _ symbols_among

  literals_length : count_literals p.statics.literals ≡ length (quotes_of_each ds) + length (quotes_in_each forms)
  literals_length = count_quotes symbols (quotes_of_each ds ++ quotes_in_each forms) ∙ length-append (quotes_of_each ds) (quotes_in_each forms)

  program_in_range : AreSound 0 (procedures_of_each ds) → AreSound 0 forms → in_range p ≡ true
  program_in_range d f =
      let n = length (quotes_of_each ds) + length (quotes_in_each forms) in
      let scopes : lambdas_in_scope p.library 0 ≡ true =
      ap (λ ls. lambdas_in_scope ls 0) library_is ∙ (scope_group library 0 are_lambdas ∙ scoped_each [] globals symbols (procedures_of_each ds) (given ds) 0 0 0 d) in
      let inside = library_holds (named_here (length symbols) n (length globals))
      (named_each [] globals symbols n (procedures_of_each ds) (given ds) 0 0 0 d library_globals library_symbols (omega arith)) in
      let outside = named_each own globals symbols n forms [] 0 (length (widths_of_definitions ds)) (length (quotes_of_each ds)) f form_globals form_symbols (omega arith) in
      and_from _ _ scopes (and_from _ _ (scoped_each own globals symbols forms [] 0 _ _ f)
      (rw (literals_length, starts_length ds hs globals) (and_from _ _ inside outside)))

  -- ## Constants

  program_constants : AreDefinitions ds → HaveConstants forms → HaveWords forms → constants_in_range p ≡ true
  program_constants d c w =
      let b = firsts_bytes (symbols_of_each ds ++ symbols_in_each forms) [] tt (bytes_append (symbols_of_each ds) _ (bytes_definitions ds d) w.1) in
      let q = quotable_append (quotes_of_each ds) _ (quotable_definitions ds d) w.0 in
      and_from _ _ (program_ranged ds own hs forms (constant_definitions ds d) c) (and_from _ _ (all_bytes symbols b) (quotes_range symbols _ q))

  -- ## Shapes and limits

  program_shaped : AreSound 0 (procedures_of_each ds) → AreSound 0 forms → shaped p ≡ true
  program_shaped d f =
      and_from _ _ (library_holds shaped_here (shaped_each [] globals symbols (procedures_of_each ds) (given ds) 0 0 0 d)) (shaped_each own globals symbols forms [] 0 _ _ f)

  library_levels : AreSound 0 (procedures_of_each ds) → levels_lambdas p.library ≡ levels_each (procedures_of_each ds)
  library_levels d =
      ap levels_lambdas library_is ∙ (levels_group library are_lambdas ∙ levels_each_kept [] globals symbols (procedures_of_each ds) (given ds) 0 0 0 d)

  few_library : (test : Procedure → Bool) → each_lambda test p.library ≡ true → each_procedure_in test library ≡ true
  few_library test h = sym (few_group test library are_lambdas) ∙ (sym (ap (each_lambda test) library_is) ∙ h)

  program_within : AreDefinitions ds → AreSound 0 forms → levels_each forms ≤ max_levels → HasFew p → within_limits p ≡ true
  program_within d f l v =
      let s = sound_definitions ds d in
      let inside = fitting_each [] globals symbols (procedures_of_each ds) (given ds) 0 0 0 s (few_library has_few_variables (few_lambdas p.library v.0), few_library has_few_free (few_free_lambdas p.library v.0)) in
      let fit : lambdas_fit p.library ≡ true = ap (λ ls. procedures_fit max_variables (procedures ls)) library_is ∙ fit_group library are_lambdas inside in
      and_from _ _
      (and_from _ _ (le-leb (levels_lambdas p.library) max_levels (omega (arith, library_levels s, level_definitions ds d)))
      (le-leb (measures.levels_each p.forms) max_levels (omega (arith, levels_each_kept own globals symbols forms [] 0 (length (widths_of_definitions ds)) (length (quotes_of_each ds)) f, l))))
      (and_from _ _ (and_from _ _ fit (forms_within p.forms v.1))
      (and_from _ _ (library_holds fits_here inside) (fitting_each own globals symbols forms [] 0 _ _ f (few_forms p.forms v.1, few_free_forms p.forms v.1))))

  -- ## Sites

  program_sites : AreSound 0 (procedures_of_each ds) → AreSound 0 forms → sites_once p ≡ true
  program_sites d f =
      let inside : over_lambdas [] (λ a b. a ++ b) site_here p.library ≡ order.numbered 0 (widths_of_definitions ds) =
      ap (over_lambdas [] (λ a b. a ++ b) site_here) library_is
      ∙ (sites_group library are_lambdas ∙ sites_each [] globals symbols (procedures_of_each ds) (given ds) 0 0 0 d) in
      sites_in_order p (joined 0 (widths_of_definitions ds) (widths_of_each forms) _ _ inside
      (sites_each own globals symbols forms [] 0 (length (widths_of_definitions ds)) (length (quotes_of_each ds)) f
      ∙ ap (λ n. order.numbered n (widths_of_each forms)) (omega arith)))

  -- ## Statics

  library_size : sizes symbols (symbols_of_each ds) (quotes_of_each ds) (globals_of_each ds) ≤ statics_in_each (procedures_of_each ds)
  library_size = all_statics_below [] symbols (procedures_of_each ds)

  program_size : statics_size p.statics ≤ statics_in_each (procedures_of_each ds) + statics_in_each forms
  program_size = omega (
    arith,
    firsts_size (symbols_of_each ds ++ symbols_in_each forms) [],
    firsts_length (globals_of_each ds ++ globals_in_each own forms) [],
    starts_length ds hs globals,
    sizes_append symbols (symbols_of_each ds) (symbols_in_each forms) (quotes_of_each ds) (quotes_in_each forms) (globals_of_each ds) (globals_in_each own forms),
    library_size,
    all_statics_below own symbols forms,
  )

  program_statics : statics_in_each (procedures_of_each ds) + statics_in_each forms ≤ max_statics → AreReady ds hs globals → statics_known p ≡ true
  program_statics m r =
      let named = named_append symbols (quotes_of_each ds) (quotes_in_each forms)
      (quotes_each_named symbols (procedures_of_each ds) library_symbols) (quotes_each_named symbols forms form_symbols) in
      and_from _ _ (le-leb _ _ (omega (arith, program_size, m)))
      (and_from _ _ (quotes_known symbols _ named) (rw (count_definitions globals symbols ds 0 0) (known_starts ds hs globals r)))

  valid_with : AreDefinitions ds → AreSound 0 forms → levels_each forms ≤ max_levels → HaveConstants forms → HaveWords forms → HasFew p →
      statics_in_each (procedures_of_each ds) + statics_in_each forms ≤ max_statics → AreReady ds hs globals → is_valid p ≡ true
  valid_with d f l c w v m r =
      let s = sound_definitions ds d in
      and_from _ _ (program_in_range s f)
      (and_from _ _ (program_constants d c w)
      (and_from _ _ (program_shaped s f)
      (and_from _ _ (program_within d f l v)
      (and_from _ _ (program_sites s f) (program_statics m r)))))

-- ## Of a library and a text

pub valid : (ds : List Definition) (own : List (List ℕ)) (forms : Drafts) → AreDefinitions ds → AreOrdered [] ds → AreKnown ds own forms →
    AreSound 0 forms → levels_each forms ≤ max_levels → HaveConstants forms → HaveWords forms →
    HasFew (program_of ds own forms) → statics_in_each (procedures_of_each ds) + statics_in_each forms ≤ max_statics → is_valid (program_of ds own forms) ≡ true
valid ds own forms d o k f l c w v m =
    valid_with (kept ds (named ds own forms)) own (held ds own) forms (kept_sound ds (named ds own forms) d) f l c w v
    (omega (arith, kept_statics ds (named ds own forms), m)) (globals_ready ds own forms o k)
