-- The definitions that items stand for are those of valid programs: sound, in order, and small.
use Rattle.std.proofs.Common.{◌≡◌, inl, inr, ◌≤◌, ℕ, ◌+◌, ◌*◌, Bool, true, false, cond, List, [], ◌∷◌, ◌++◌, length, Some, None, refl, sym, ◌∙◌, subst, arith}
use Rattle.std.specs.Str.{bytes_eq}
use Rattle.std.proofs.lemmas.Bool.{le-leb, and_from, or_cases}
use Rattle.sch_word.specs.trees.Shape.{max_operands}
use Rattle.sch_read.specs.Grammar.{Datum, Data, atom, list, dotted, vector, none, cons}
use Rattle.sch_read.specs.Parts.{offset}
use Rattle.sch_read.specs.Valid.{max_weight, weight, weights}
use Rattle.sch_read.proofs.ReleaseEffort.{some_weight}
use Rattle.sch_names.specs.NamesView.{with_name}
use Rattle.sch_names.specs.Scope.{is_among}
use Rattle.sch_sketch.specs.declared.sketch.Position.TheVariants.{Value}
use Rattle.sch_sketch.proofs.SmallMeasures.{data_weigh}
use Rattle.sch_expansion.specs.Expands.{Expands}
use Rattle.sch_link_tables.specs.Programs.{Definition, procedure_of, procedures_of_each}
use Rattle.sch_sketch.specs.DraftMeasures.{size}
use Rattle.sch_link_program.specs.Size.{size_of_definitions, have_few_formals}
use Rattle.sch_core.specs.TextForms.{ItemExpands}
use Rattle.sch_core.specs.LibraryDefinitions.{IsDefinition, AreDefinitions, AreOrdered}
use Rattle.sch_core.specs.Quotable.{AllQuotable, IsQuotable}
use Rattle.sch_core.specs.SizesOfStatics.{statics_in, statics_in_each}
use Rattle.sch_core.proofs.programs.ItemDefinitions.{item_is_definition, item_constants, item_ordered, item_statics}
use Rattle.sch_link_program.proofs.NameSets.{among_append}
use Rattle.sch_core.proofs.programs.Starts.{among_cons}
use Rattle.sch_toplevel.specs.Forms.{form_sketch}
use Rattle.sch_toplevel.specs.Items.{behind, with_item, name_in, names_by, item_globals, procedure_in, item_places, ItemsExpand}
use Rattle.sch_core.specs.Excess.{AreFew, definition_excess, first_definition_excess}
use Rattle.sch_core.specs.LibraryDefinitions.{IsSoundLibrary}
use Rattle.sch_core.proofs.items.ItemShapes.{shaped}
use Rattle.sch_word.proofs.facts.Booleans.{and_parts}
use Rattle.sch_core.proofs.DataKnown.{all_quotable}
use Rattle.sch_core.proofs.texts.TextSizes.{sized}
use Rattle.sch_core.proofs.texts.ValidTexts.{either_there, place_none}

-- ## What follows the word of an item

behind_quotable : (d : Datum) → IsQuotable d → AllQuotable (behind d)
behind_quotable (list at (cons o xs)) h = all_quotable xs (and_parts _ _ h).1
behind_quotable (list at none) h = tt
behind_quotable (atom at a) h = tt
behind_quotable (dotted at xs x) h = tt
behind_quotable (vector at xs) h = tt

behind_weighs : (d : Datum) → 1 + weights (behind d) ≤ weight d
behind_weighs (list at (cons o xs)) = omega arith
behind_weighs (list at none) = omega arith
behind_weighs (atom at a) = omega arith
behind_weighs (dotted at xs x) = omega arith
behind_weighs (vector at xs) = omega arith

-- ## One item

module _ (before : List (List ℕ)) (d : Datum) (x : Definition) (h : Expands (item_globals before d) 1 [] Value (procedure_in before d) (procedure_of x)) where
  expands : ItemExpands (item_globals before d) (offset d) (behind d) x
  expands = (shaped (item_globals before d) before (offset d) (behind d) (procedure_of x) (form_sketch d) h).expands

  item_sound : IsQuotable d → IsDefinition x
  item_sound q =
      let c = item_constants (item_globals before d) (offset d) (behind d) x expands (behind_quotable d q) in
      item_is_definition (item_globals before d) (offset d) (behind d) x expands c.0 c.1

  item_small : statics_in (procedure_of x) ≤ 2 * weight d
  item_small = omega (arith, item_statics (item_globals before d) (offset d) (behind d) x expands, behind_weighs d)

  item_size : size (procedure_of x) ≤ 16 * weight d
  item_size = omega (arith, sized (item_globals before d) expands tt, data_weigh (behind d), behind_weighs d)

-- ## Names

abbrev Within : List (List ℕ) → List (List ℕ) → Type 0
Within bound before = (x : List ℕ) → is_among x bound ≡ true → is_among x before ≡ true

within_more : (bound before : List (List ℕ)) (v : List ℕ) → Within bound before → Within (with_name v bound) (v ∷ before)
within_more bound before v w x h = go (is_among v bound) h
  where
    go : (b : Bool) → is_among x (cond b bound (bound ++ v ∷ [])) ≡ true → is_among x (v ∷ before) ≡ true
    go true k = among_cons x v before (w x k)
    go false k =
        elim (or_cases _ _ (sym (among_append x bound (v ∷ [])) ∙ k)) [
          | inl m ↦ among_cons x v before (w x m)
          | inr m ↦ either_there (bytes_eq x v) false (is_among x before) m (λ e. cc)
        ]

names_within : (bound before : List (List ℕ)) (d : Datum) (v : List ℕ) → name_in d ≡ Some v → Within bound before → Within (names_by bound d) (v ∷ before)
names_within bound before d v n w = subst (λ o. Within (with_item o bound) (v ∷ before)) (sym n) (within_more bound before v w)

-- ## The items

pub items_sound : (before : List (List ℕ)) (items : Data) (ds : List Definition) → ItemsExpand before items ds → AllQuotable items → AreDefinitions ds
items_sound before none [] h q = tt
items_sound before none (x ∷ xs) h q = absurd h
items_sound before (cons d items) [] h q = absurd h
items_sound before (cons d items) (x ∷ xs) h q = (item_sound before d x h.1 q.0, items_sound (names_by before d) items xs h.2 q.1)

pub items_ordered : (bound before : List (List ℕ)) (items : Data) (ds : List Definition) → Within bound before → ItemsExpand bound items ds → AreOrdered before ds
items_ordered bound before none [] w h = tt
items_ordered bound before none (x ∷ xs) w h = absurd h
items_ordered bound before (cons d items) [] w h = absurd h
items_ordered bound before (cons d items) (x ∷ xs) w h =
    let n = names_within bound before d x.name h.0 w in
    (item_ordered (item_globals bound d) (offset d) (behind d) x (expands bound d x h.1) before n, items_ordered (names_by bound d) (x.name ∷ before) items xs n h.2)

pub items_small : (before : List (List ℕ)) (items : Data) (ds : List Definition) → ItemsExpand before items ds → statics_in_each (procedures_of_each ds) ≤ 2 * weights items
items_small before none [] h = omega arith
items_small before none (x ∷ xs) h = absurd h
items_small before (cons d items) [] h = absurd h
items_small before (cons d items) (x ∷ xs) h = omega (arith, item_small before d x h.1, items_small (names_by before d) items xs h.2)

pub items_size : (before : List (List ℕ)) (items : Data) (ds : List Definition) → ItemsExpand before items ds → size_of_definitions ds ≤ 16 * weights items
items_size before none [] h = omega arith
items_size before none (x ∷ xs) h = absurd h
items_size before (cons d items) [] h = absurd h
items_size before (cons d items) (x ∷ xs) h = omega (arith, item_size before d x h.1, items_size (names_by before d) items xs h.2)

items_count : (before : List (List ℕ)) (items : Data) (ds : List Definition) → ItemsExpand before items ds → length ds ≤ weights items
items_count before none [] h = omega arith
items_count before none (x ∷ xs) h = absurd h
items_count before (cons d items) [] h = absurd h
items_count before (cons d items) (x ∷ xs) h = omega (arith, some_weight d, items_count (names_by before d) items xs h.2)

-- a procedure has few enough formals
pub few_formals : (ds : List Definition) → AreDefinitions ds → have_few_formals ds ≡ true
few_formals [] h = refl
few_formals (d ∷ ds) h = and_from _ _ (le-leb d.formals max_operands h.0.0.1) (few_formals ds h.1)

pub items_few : (before : List (List ℕ)) (items : Data) (ds : List Definition) → ItemsExpand before items ds → first_definition_excess (item_places items) ds ≡ None → AreFew ds
items_few before none [] h e = tt
items_few before none (x ∷ xs) h e = absurd h
items_few before (cons d items) [] h e = absurd h
items_few before (cons d items) (x ∷ xs) h e =
    let k = place_none (offset d) (definition_excess x) (first_definition_excess (item_places items) xs) e in
    (k.0, items_few (names_by before d) items xs h.2 k.1)

pub sound_library : (items : Data) (ds : List Definition) → ItemsExpand [] items ds → AllQuotable items → weights items ≤ max_weight →
    first_definition_excess (item_places items) ds ≡ None → IsSoundLibrary ds
sound_library items ds h q l e = record {
  sound = items_sound [] items ds h q;
  ordered = items_ordered [] [] items ds (λ x i. i) h;
  few = items_few [] items ds h e;
  small = omega (arith, items_small [] items ds h, l);
  few_definitions = omega (arith, items_count [] items ds h, l);
  few_nodes = omega (arith, items_size [] items ds h, l);
}
