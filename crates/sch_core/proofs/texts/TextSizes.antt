-- How large the drafts of a text are, by the weight of its data.
use Rattle.std.proofs.Common.{◌≡◌, ◌≤◌, ℕ, ◌+◌, ◌*◌, Bool, List, [], ◌∷◌, ◌++◌, length, map, subst, arith}
use Rattle.sch_read.specs.Grammar.{Datum, Data, atom, list, dotted, vector, none, cons, boolean, integer, character, symbol}
use Rattle.sch_read.specs.Grammar as grammar
use Rattle.sch_read.specs.Valid.{weight, weights}
use Rattle.sch_names.specs.Scope.{Scope, Globals}
use Rattle.sch_names.specs.Words.{keyword_of}
use Rattle.sch_sketch.specs.declared.sketch.Position.{Position}
use Rattle.sch_sketch.specs.Draft as draft
use Rattle.sch_sketch.specs.Draft.{Draft, Drafts, constant, literal, local, global, set_local, set_global, define, branch, sequence, bind, letrec, lambda, call, operation, no_drafts, and_draft, count}
use Rattle.sch_sketch.specs.Measure.{datum_measure, leaf_measure, sketch_measure, sketches_measure}
use Rattle.sch_sketch.specs.Sketch.{Kind, choosing, sequencing, binding, recurring, abstracting, calling, operating, setting, setting_global, defining, Sketch, Sketches, sketches, assemble, bound_by}
use Rattle.sch_sketch.specs.Soundness.{IsAtom, HasParts, IsSound, AreSound}
use Rattle.sch_sketch.proofs.SmallMeasures.{datum_weighs, leaf_some}
use Rattle.sch_sketch.specs.Definitions.{is_define_word}
use Rattle.sch_form_bodies.proofs.DefinitionsFall.{define_falls}
use Rattle.sch_expansion.proofs.Falls.{datum_falls, rest_falls}
use Rattle.sch_expansion.proofs.SoundRows.{datum_sound, rest_sound}
use Rattle.sch_expansion.specs.Expands.{Expands, PartsExpand}
use Rattle.sch_expansion.specs.Expands as ex
use Rattle.sch_sketch.specs.DraftMeasures.{node_and_bound, size, size_each}
use Rattle.sch_core.proofs.drafts.Parts.{front_count, front_sum, first_sum}
use Rattle.sch_core.proofs.drafts.Soundness.{counted}
use Rattle.sch_core.proofs.sizes.StaticsOfSketches.{chosen_within}
use Rattle.sch_toplevel.specs.Forms.{is_begin_word, forms_of, forms_in, form_sketch}

-- ## Nodes

node_size : (k : Kind) (es : Drafts) → HasParts k (count es) → size (assemble k es) ≤ 1 + (bound_by k + size_each es)
node_size choosing (and_draft a (and_draft b (and_draft c no_drafts))) h = omega arith
node_size choosing (and_draft a (and_draft b (and_draft c (and_draft d ds)))) h = absurd (omega (arith, h))
node_size choosing (and_draft a (and_draft b no_drafts)) h = absurd (omega (arith, h))
node_size choosing (and_draft a no_drafts) h = absurd (omega (arith, h))
node_size choosing no_drafts h = absurd (omega (arith, h))
node_size sequencing es h = omega arith
node_size (operating p) es h = omega arith
node_size (binding vs) es h = omega (arith, front_count es (length vs) h, front_sum node_and_bound es (omega (arith, h)))
node_size (recurring vs p) es h = omega (arith, front_count es (length vs) h, front_sum node_and_bound es (omega (arith, h)))
node_size (abstracting vs more) es h = omega (arith, front_sum node_and_bound es (omega (arith, h)))
node_size (calling vs) es h = omega (arith, first_sum node_and_bound es h)
node_size (setting k) es h = omega (arith, front_sum node_and_bound es (omega (arith, h)))
node_size (setting_global x) es h = omega (arith, front_sum node_and_bound es h)
node_size (defining x) es h = omega (arith, front_sum node_and_bound es (omega (arith, h)))

atom_size : (m : ℕ) (e : Draft) → IsAtom e m → size e ≤ leaf_measure e
atom_size m (constant c) h = omega arith
atom_size m (draft.symbol x) h = omega (arith, leaf_some (draft.symbol x))
atom_size m (literal d) h = omega (arith, leaf_some (literal d))
atom_size m (local k) h = omega arith
atom_size m (global x) h = omega arith
atom_size m (set_local k e) h = absurd h
atom_size m (set_global x e) h = absurd h
atom_size m (define x e) h = absurd h
atom_size m (branch a b c) h = absurd h
atom_size m (sequence es) h = absurd h
atom_size m (bind vs es e) h = absurd h
atom_size m (letrec vs p es e) h = absurd h
atom_size m (lambda n r e) h = absurd h
atom_size m (call vs f es) h = absurd h
atom_size m (operation p es) h = absurd h

-- ## Sketches

module _ (globals : Globals) where
  mutual
    pub sized : {n : ℕ} {s : Scope} {t : Position} {k : Sketch} {e : Draft} → Expands globals n s t k e → IsSound s k → size e ≤ sketch_measure k
    sized (ex.a_datum n s t d e p) h = omega (arith, sized p (datum_sound globals s d), datum_falls globals s d)
    sized (ex.a_rest n s t r at xs ys e p) h = omega (arith, sized p (rest_sound globals s t r at xs ys h), rest_falls globals s t r at xs ys)
    sized (ex.a_leaf n s t at e l) h = atom_size (length s) e h
    sized (ex.a_node n s t k at ks es l w p) h = omega (arith, node_size k es (subst (HasParts k) (counted globals p) h.0), sized_each p h.1.1)
    sized (ex.within n s t at m k e w p) h = omega (arith, sized p h)

    pub sized_each : {k : Kind} {first : Bool} {n : ℕ} {s : Scope} {t : Position} {ks : Sketches} {es : Drafts} → PartsExpand globals k first n s t ks es → AreSound k first s ks → size_each es ≤ sketches_measure ks
    sized_each (ex.no_part k first n s t) h = omega arith
    sized_each (ex.and_part k first n s t p ps e es x y) h = omega (arith, sized x h.0, sized_each y h.1)

-- ## Forms

pub form_measure : (d : Datum) → sketch_measure (form_sketch d) ≤ datum_measure d
form_measure (atom at a) = omega arith
form_measure (list at none) = omega arith
form_measure (list at (cons (atom q (symbol x)) xs)) = chosen_within sketch_measure (is_define_word (keyword_of x)) _ _ _ (omega (arith, define_falls at xs)) (omega arith)
form_measure (list at (cons (atom q (boolean x)) xs)) = omega arith
form_measure (list at (cons (atom q (integer x)) xs)) = omega arith
form_measure (list at (cons (atom q (character x)) xs)) = omega arith
form_measure (list at (cons (atom q (grammar.text x)) xs)) = omega arith
form_measure (list at (cons (list q x) xs)) = omega arith
form_measure (list at (cons (dotted q x y) xs)) = omega arith
form_measure (list at (cons (vector q x) xs)) = omega arith
form_measure (dotted at xs x) = omega arith
form_measure (vector at xs) = omega arith

abbrev measures : List Datum → ℕ
measures ds = sketches_measure (sketches (map form_sketch ds)) + 4 * length ds

measures_append : (a b : List Datum) → measures (a ++ b) ≡ measures a + measures b
measures_append [] b = omega arith
measures_append (d ∷ a) b = omega (arith, measures_append a b)

one_form : (d : Datum) → measures (d ∷ []) ≤ 16 * weight d
one_form d = omega (arith, form_measure d, datum_weighs d)

mutual
  pub form_weighs : (d : Datum) → measures (forms_of d) ≤ 16 * weight d
  form_weighs (atom at a) = one_form (atom at a)
  form_weighs (list at none) = one_form (list at none)
  form_weighs (list at (cons (atom q (symbol x)) xs)) =
      chosen_within measures (is_begin_word (keyword_of x)) _ _ _ (omega (arith, forms_weigh xs)) (one_form (list at (cons (atom q (symbol x)) xs)))
  form_weighs (list at (cons (atom q (boolean x)) xs)) = one_form (list at (cons (atom q (boolean x)) xs))
  form_weighs (list at (cons (atom q (integer x)) xs)) = one_form (list at (cons (atom q (integer x)) xs))
  form_weighs (list at (cons (atom q (character x)) xs)) = one_form (list at (cons (atom q (character x)) xs))
  form_weighs (list at (cons (atom q (grammar.text x)) xs)) = one_form (list at (cons (atom q (grammar.text x)) xs))
  form_weighs (list at (cons (list q x) xs)) = one_form (list at (cons (list q x) xs))
  form_weighs (list at (cons (dotted q x y) xs)) = one_form (list at (cons (dotted q x y) xs))
  form_weighs (list at (cons (vector q x) xs)) = one_form (list at (cons (vector q x) xs))
  form_weighs (dotted at xs x) = one_form (dotted at xs x)
  form_weighs (vector at xs) = one_form (vector at xs)

  -- what the forms of a text measure, with four for each
  pub forms_weigh : (items : Data) → measures (forms_in items) ≤ 16 * weights items
  forms_weigh none = omega arith
  forms_weigh (cons d ds) = omega (arith, measures_append (forms_of d) (forms_in ds), form_weighs d, forms_weigh ds)
