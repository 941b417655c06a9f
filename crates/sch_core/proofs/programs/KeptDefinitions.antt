-- The procedures of a library are those of its drafts, and those that are kept are as sound as all of them.
use Rattle.std.proofs.Common.{◌≡◌, ◌≤◌, ◌+◌, ◌++◌, ℕ, suc, Bool, true, false, List, [], ◌∷◌, length, Some, None, refl, ap, arith}
use Rattle.std.proofs.lemmas.Bool.{and_from}
use Rattle.sch_word.specs.trees.Shape.{max_levels}
use Rattle.sch_lang.specs.Tree.{and_lambda, count_lambdas}
use Rattle.sch_names.specs.Scope.{is_among, VariableNames}
use Rattle.sch_link_tables.specs.Constants.{draft_in_range, HaveConstants}
use Rattle.sch_link_tables.specs.Named.{library_global, symbols_in}
use Rattle.sch_link_tables.specs.Numbered.{procedures_of, numbered, numbered_each}
use Rattle.sch_link_tables.specs.Programs.{Definition, with_definition, kept, globals_of_each, symbols_of_each, quotes_of_each, names_of_each, procedures, procedures_of_each}
use Rattle.sch_link_tables.specs.Quoted.{quotes_in}
use Rattle.sch_link_tables.specs.Sites.{widths}
use Rattle.sch_core.specs.SoundDrafts.{AreProcedures, AreSound, levels_each}
use Rattle.sch_core.specs.LibraryDefinitions.{AreDefinitions}
use Rattle.sch_core.specs.SizesOfStatics.{statics_in_each}
use Rattle.sch_core.specs.Quotable.{AreQuotable, AreBytes}
use Rattle.sch_core.proofs.sizes.StaticsOfPrograms.{bytes_append, quotable_append}

abbrev pub given : List Definition → VariableNames
given [] = []
given (d ∷ ds) = Some d.name ∷ given ds

-- ## As drafts

pub procedures_are : (globals symbols : List (List ℕ)) (ds : List Definition) (s l : ℕ) →
    procedures globals symbols ds s l ≡ procedures_of (numbered_each [] globals symbols (given ds) (procedures_of_each ds) s l)
procedures_are globals symbols [] s l = refl
procedures_are globals symbols (d ∷ ds) s l =
    ap (λ ls. and_lambda d.name d.formals d.rest (numbered [] globals symbols None d.body s l) ls)
    (procedures_are globals symbols ds (s + length (widths d.body)) (l + length (quotes_in d.body)))

pub all_procedures : (ds : List Definition) → AreProcedures (procedures_of_each ds)
all_procedures [] = tt
all_procedures (d ∷ ds) = (tt, all_procedures ds)

pub count_definitions : (globals symbols : List (List ℕ)) (ds : List Definition) (s l : ℕ) → count_lambdas (procedures globals symbols ds s l) ≡ length (names_of_each ds)
count_definitions globals symbols [] s l = refl
count_definitions globals symbols (d ∷ ds) s l = ap suc (count_definitions globals symbols ds _ _)

-- ## What is known of each

pub sound_definitions : (ds : List Definition) → AreDefinitions ds → AreSound 0 (procedures_of_each ds)
sound_definitions [] h = tt
sound_definitions (d ∷ ds) h = (h.0.0, sound_definitions ds h.1)

pub level_definitions : (ds : List Definition) → AreDefinitions ds → levels_each (procedures_of_each ds) ≤ max_levels
level_definitions [] h = omega arith
level_definitions (d ∷ ds) h = omega (arith, h.0.1, level_definitions ds h.1)

pub constant_definitions : (ds : List Definition) → AreDefinitions ds → HaveConstants (procedures_of_each ds)
constant_definitions [] h = refl
constant_definitions (d ∷ ds) h = and_from (draft_in_range d.body) _ h.0.2 (constant_definitions ds h.1)

pub quotable_definitions : (ds : List Definition) → AreDefinitions ds → AreQuotable (quotes_of_each ds)
quotable_definitions [] h = tt
quotable_definitions (d ∷ ds) h = quotable_append (quotes_in d.body) _ h.0.3.0 (quotable_definitions ds h.1)

pub bytes_definitions : (ds : List Definition) → AreDefinitions ds → AreBytes (symbols_of_each ds)
bytes_definitions [] h = tt
bytes_definitions (d ∷ ds) h = bytes_append (symbols_in d.body) _ h.0.3.1 (bytes_definitions ds h.1)

-- ## Those that are kept

with_sound : (b : Bool) (d : Definition) (ds : List Definition) → AreDefinitions (d ∷ ds) → AreDefinitions (with_definition b d ds)
with_sound true d ds h = h
with_sound false d ds h = h.1

pub kept_sound : (ds : List Definition) (named : List (List ℕ)) → AreDefinitions ds → AreDefinitions (kept ds named)
kept_sound [] named h = tt
kept_sound (d ∷ ds) named h = with_sound _ d (kept ds named) (h.0, kept_sound ds named h.1)

with_statics : (b : Bool) (d : Definition) (ds : List Definition) → statics_in_each (procedures_of_each (with_definition b d ds)) ≤ statics_in_each (procedures_of_each (d ∷ ds))
with_statics true d ds = omega arith
with_statics false d ds = omega arith

pub kept_statics : (ds : List Definition) (named : List (List ℕ)) → statics_in_each (procedures_of_each (kept ds named)) ≤ statics_in_each (procedures_of_each ds)
kept_statics [] named = omega arith
kept_statics (d ∷ ds) named =
    omega (arith, with_statics (is_among (library_global d.name) (named ++ globals_of_each (kept ds named))) d (kept ds named), kept_statics ds named)
