-- What is known of a text that was read with a library, and of its program.
use Rattle.std.proofs.Common.{◌≡◌, ◌≤◌, ℕ, ◌+◌, ◌*◌, Bool, true, false, cond, List, [], ◌∷◌, length, map, Option, Some, None, refl, sym, ap, ◌∙◌, subst, arith}
use Rattle.sch_lang.specs.Tree.{Source, Expressions, count}
use Rattle.sch_lang.specs.Measures.{nodes_and_bound}
use Rattle.sch_lang.specs.Valid.{is_valid}
use Rattle.sch_read.specs.Grammar.{Datum, Data, atom, list, dotted, vector, none, cons, boolean, integer, character, symbol}
use Rattle.sch_read.specs.Grammar as grammar
use Rattle.sch_read.specs.Valid.{max_weight, weights}
use Rattle.sch_names.specs.Words.{keyword_of}
use Rattle.sch_sketch.specs.declared.fault.Fault.{Fault}
use Rattle.sch_sketch.specs.Draft.{Drafts}
use Rattle.sch_sketch.specs.Draft as draft
use Rattle.sch_sketch.specs.Sketch.{sketches, text, sequencing, how_many_parts}
use Rattle.sch_read.specs.Parts.{offset}
use Rattle.sch_sketch.specs.Soundness.{IsSound, AreSound}
use Rattle.sch_sketch.specs.Definitions.{is_define_word}
use Rattle.sch_form_bodies.specs.Assignments.{row_define}
use Rattle.sch_form_bodies.proofs.SoundDefinitions.{define_sound}
use Rattle.sch_sketch.specs.DraftMeasures.{size_each}
use Rattle.sch_link_tables.specs.Named.{symbols_in_each}
use Rattle.sch_link_tables.specs.Numbered.{numbered_each}
use Rattle.sch_link_tables.specs.Programs.{Definition, seen, program_of, procedures_of_each}
use Rattle.sch_link_tables.specs.Room.{have_near_variables}
use Rattle.sch_link_program.specs.Ranged.{IsValidOnceRanged}
use Rattle.sch_link_program.specs.Size.{size_of_definitions}
use Rattle.sch_link_program.proofs.ProgramSize.{program_size, count_numbered}
use Rattle.sch_core.specs.LibraryDefinitions.{AreDefinitions, AreOrdered}
use Rattle.sch_core.specs.Quotable.{AllQuotable}
use Rattle.sch_core.specs.SizesOfStatics.{statics_in_each}
use Rattle.sch_toplevel.specs.Forms.{forms_in, form_sketch, own_names, text_globals, form_places}
use Rattle.sch_toplevel.specs.Texts.{FormsExpand, IsFaultOf, IsRead, TextExpands}
use Rattle.sch_toplevel.proofs.TextLaws.{text_made, text_fault}
use Rattle.sch_core.specs.declared.error.Kind.{Kind}
use Rattle.sch_core.specs.Excess.{AreFew}
use Rattle.sch_core.specs.Programs.{IsProgramOf, ExceedsAt}
use Rattle.sch_core.specs.Excess.{first_excess}
use Rattle.sch_core.proofs.drafts.NearVariables.{near_each}
use Rattle.sch_core.proofs.drafts.Parts.{all_in}
use Rattle.sch_core.proofs.drafts.Soundness.{counted, sound_each}
use Rattle.sch_core.proofs.ExcessWithoutNumbers.{alike_each, first_alike}
use Rattle.sch_core.proofs.sizes.StaticsOfPrograms.{symbols_counted}
use Rattle.sch_core.proofs.texts.TextSizes.{sized_each, forms_weigh}
use Rattle.sch_core.proofs.texts.ValidTexts.{text_statics, valid_program}

-- ## Forms are sound, and each has a place

chosen : (b : Bool) (at : ℕ) (xs : Data) (d : Datum) → IsSound [] (cond b (row_define at xs) (text d))
chosen true at xs d = define_sound [] at xs
chosen false at xs d = tt

form_sound : (d : Datum) → IsSound [] (form_sketch d)
form_sound (atom at a) = tt
form_sound (list at none) = tt
form_sound (list at (cons (atom q (symbol x)) xs)) = chosen (is_define_word (keyword_of x)) at xs (list at (cons (atom q (symbol x)) xs))
form_sound (list at (cons (atom q (boolean x)) xs)) = tt
form_sound (list at (cons (atom q (integer x)) xs)) = tt
form_sound (list at (cons (atom q (character x)) xs)) = tt
form_sound (list at (cons (atom q (grammar.text x)) xs)) = tt
form_sound (list at (cons (list q x) xs)) = tt
form_sound (list at (cons (dotted q x y) xs)) = tt
form_sound (list at (cons (vector q x) xs)) = tt
form_sound (dotted at xs x) = tt
form_sound (vector at xs) = tt

forms_sound : (ds : List Datum) (first : Bool) → AreSound sequencing first [] (sketches (map form_sketch ds))
forms_sound [] first = tt
forms_sound (d ∷ ds) first = (form_sound d, forms_sound ds false)

parts_many : (ds : List Datum) → how_many_parts (sketches (map form_sketch ds)) ≡ length ds
parts_many [] = refl
parts_many (d ∷ ds) = omega (arith, parts_many ds)

places_many : (ds : List Datum) → length (map offset ds) ≡ length ds
places_many [] = refl
places_many (d ∷ ds) = omega (arith, places_many ds)

-- each form of the program has a place
pub as_many : (ds : List Definition) (items : Data) (assigned : List (List ℕ)) (own : List (List ℕ)) (es : Drafts) → FormsExpand (text_globals (seen ds) items assigned) items es →
    length (form_places items) ≡ count (program_of ds own es).forms
as_many ds items assigned own es p =
    let c : count (program_of ds own es).forms ≡ draft.count es = count_numbered own _ _ es [] _ _ in
    omega (arith, places_many (forms_in items), parts_many (forms_in items), counted (text_globals (seen ds) items assigned) p, c)

-- ## A text that was read

module _ (ds : List Definition) (items : Data) (given own : List (List ℕ)) (o : Option Fault) (es : Drafts) (g : given ≡ seen ds) (r : IsRead given items own o es) where
  abbrev read : IsRead (seen ds) items own o es
  read = subst (λ s. IsRead s items own o es) g r

  pub faulty : (f : Fault) → o ≡ Some f → IsFaultOf (seen ds) items f
  faulty f e = text_fault (seen ds) items f (subst (λ q. IsRead (seen ds) items own q es) e read)

  module _ (e : o ≡ None) where
    abbrev faultless : IsRead (seen ds) items own None es
    faultless = subst (λ q. IsRead (seen ds) items own q es) e read

    expands : TextExpands (seen ds) items faultless.names es
    expands = text_made (seen ds) items faultless

    pub few_nodes : size_each es ≤ 16 * weights items
    few_nodes =
        let f = sized_each (text_globals (seen ds) items faultless.names) expands.expands (forms_sound (forms_in items) true) in
        omega (arith, f, forms_weigh items)

    pub near : weights items ≤ max_weight → have_near_variables es ≡ true
    near l =
        let sound = sound_each (text_globals (seen ds) items faultless.names) expands.expands (forms_sound (forms_in items) true) in
        near_each es 0 (all_in sequencing true 0 [] es (λ first final. refl) sound) (omega (arith, l, few_nodes))

    pub few_symbols : length (symbols_in_each es) ≤ 2 * weights items
    few_symbols = omega (arith, symbols_counted es, text_statics (text_globals (seen ds) items faultless.names) items es expands.expands)

    abbrev program : Source
    program = program_of ds own es

    same : program ≡ program_of ds (own_names items faultless.names) es
    same = ap (λ n. program_of ds n es) faultless.owned

    module _ (places : List ℕ) (a b c : List (List ℕ)) (s l : ℕ) (forms : Expressions) (at : places ≡ form_places items) (n : forms ≡ numbered_each a b c [] es s l) where
      counted_on : first_excess places forms ≡ first_excess (form_places items) program.forms
      counted_on = ap (λ p. first_excess p forms) at ∙ ap (first_excess (form_places items)) n ∙ first_alike (form_places items) _ _ (alike_each a b c own _ _ [] es s l _ _)

      pub exceeding : (kind : Kind) (place : ℕ) → first_excess places forms ≡ Some (kind, place) → ExceedsAt ds items kind place
      exceeding kind place h = record {
        assigned = faultless.names;
        drafts = es;
        expands = expands;
        exceeding = ap (λ p. first_excess (form_places items) p.forms) (sym same) ∙ (sym counted_on ∙ h);
      }

      module _ (h : first_excess places forms ≡ None) where
        fits : first_excess (form_places items) program.forms ≡ None
        fits = sym counted_on ∙ h

        pub found : (p : Source) → p ≡ program_of ds own es → IsProgramOf ds items p
        found p q = record {
          assigned = faultless.names;
          drafts = es;
          expands = expands;
          numbered = q ∙ same;
          fits = ap (λ m. first_excess (form_places items) m.forms) q ∙ fits;
        }

        pub valid_once : AreDefinitions ds → AreOrdered [] ds → AreFew ds → statics_in_each (procedures_of_each ds) + 2 * weights items ≤ 4 * max_weight →
            AllQuotable items → IsValidOnceRanged (program_of ds own es)
        valid_once d i k m w =
            let v = valid_program ds items faultless.names es (as_many ds items faultless.names (own_names items faultless.names) es expands.expands) d i k m expands.expands w
            (ap (λ p. first_excess (form_places items) p.forms) (sym same) ∙ fits) in
            λ x. ap is_valid same ∙ v

        pub small : (p : Source) → p ≡ program_of ds own es → nodes_and_bound p ≤ 16 * weights items + size_of_definitions ds
        small p q =
            let s = program_size ds own es in
            rw q (omega (arith, s, few_nodes))

        pub places_are : (p : Source) → p ≡ program_of ds own es → length (form_places items) ≡ count p.forms
        places_are p q = as_many ds items faultless.names own es expands.expands ∙ ap (λ m. count m.forms) (sym q)
