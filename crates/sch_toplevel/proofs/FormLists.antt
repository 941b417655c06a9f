-- Lists of forms, one after the other.
use Rattle.std.proofs.Common.{◌≡◌, ℕ, suc, ◌+◌, ◌<◌, List, [], ◌∷◌, ◌++◌, length, drop, get_or, map, refl, sym, ap, ◌∙◌, add-one, arith}
use Rattle.std.proofs.lemmas.List.{append_assoc, append-nil, map-append}
use Rattle.sch_word.proofs.facts.Lists.{next_left}
use Rattle.sch_read.specs.declared.datum.Datum as code
use Rattle.sch_read.specs.Grammar.{Datum}
use Rattle.sch_read.specs.Valid.{weight, weights}
use Rattle.sch_read.specs.Views.{gather, tree_of, data_of}
use Rattle.sch_read.proofs.DatumSteps.{weights_append}
use Rattle.sch_link_tables.specs.Named.{firsts}
use Rattle.sch_link_tables.proofs.NameSteps.{firsts_append}
use Rattle.sch_toplevel.specs.declared.forms.Form.{Form}
use Rattle.sch_toplevel.specs.FormView.{place_at, places_at, sketch_at, sketches_at}
use Rattle.sch_toplevel.specs.Forms.{forms_of, forms_in, defined_by, defined_by_each}

-- ## Forms that are left to visit

module _ {A : Type 0} (F : Datum → A) where
  forms_joined : (xs ys : List code.Datum) → forms_in (data_of (xs ++ ys)) ≡ forms_in (data_of xs) ++ forms_in (data_of ys)
  forms_joined [] ys = refl
  forms_joined (x ∷ xs) ys = ap (λ l. forms_of (tree_of x) ++ l) (forms_joined xs ys) ∙ sym (append_assoc (forms_of (tree_of x)) (forms_in (data_of xs)) (forms_in (data_of ys)))

  -- the parts of a `begin` are put before the others
  pub begin_entered : (d : Datum) (some after before : List code.Datum) (all : List A) → forms_of d ≡ forms_in (data_of some) → after ≡ some ++ before
      → all ++ map F (forms_in (data_of after)) ≡ all ++ map F (forms_of d ++ forms_in (data_of before))
  begin_entered d some after before all f a =
      ap (λ l. all ++ map F l) (ap (λ l. forms_in (data_of l)) a ∙ forms_joined some before ∙ ap (λ l. l ++ forms_in (data_of before)) (sym f))

  -- a form is added
  pub form_added : (d : Datum) (rest : List Datum) (all all' : List A) (x : A) → all' ≡ all ++ x ∷ [] → x ≡ F d → forms_of d ≡ d ∷ []
      → all' ++ map F rest ≡ all ++ map F (forms_of d ++ rest)
  form_added d rest all all' x a e f = rw (a, e, f) (append_assoc all (F d ∷ []) (map F rest))

  -- one datum is visited
  pub forms_left : (d : code.Datum) (before others after : List code.Datum) (all all' r : List A) → before ≡ d ∷ others
      → all' ++ map F (forms_in (data_of after)) ≡ all ++ map F (forms_of (tree_of d) ++ forms_in (data_of others))
      → all ++ map F (forms_in (data_of before)) ≡ r → all' ++ map F (forms_in (data_of after)) ≡ r
  forms_left d before others after all all' r b h k = h ∙ ap (λ l. all ++ map F (forms_in (data_of l))) (sym b) ∙ k

  pub forms_end : (left : List code.Datum) (all r : List A) → left ≡ [] → all ++ map F (forms_in (data_of left)) ≡ r → all ≡ r
  forms_end left all r n k = sym (append-nil all) ∙ ap (λ l. all ++ map F (forms_in (data_of l))) (sym n) ∙ k

-- the parts of a `begin` are lighter than it
pub begin_lighter : (d : Datum) (some after before : List code.Datum) → weights (data_of some) < weight d → after ≡ some ++ before
    → weights (data_of after) < weight d + weights (data_of before)
begin_lighter d some after before l a =
    let w = ap (λ l. weights (data_of l)) a ∙ ap (λ l. weights (gather l)) (map-append tree_of some before) in
    omega (arith, l, w, weights_append (map tree_of some) (map tree_of before))

-- one form's name, and then those of the others
pub next_defined : (fs : List Form) (i : ℕ) (f : Form) (seen seen' r : List (List ℕ)) → i < length fs → f ≡ get_or fs i f → seen' ≡ firsts seen (defined_by (sketch_at f)) →
    firsts seen (defined_by_each (sketches_at (drop i fs))) ≡ r → firsts seen' (defined_by_each (sketches_at (drop (i + 1) fs))) ≡ r
next_defined fs i f seen seen' r l e h k =
    let n = next_left fs i f l e in
    let k' = rw n at k in
    rw (add-one, h) (sym (firsts_append seen (defined_by (sketch_at f)) (defined_by_each (sketches_at (drop (suc i) fs)))) ∙ k')

-- one form's place, and then those of the others
pub next_place : (fs : List Form) (i : ℕ) (f : Form) (n : ℕ) (all all' r : List ℕ) → i < length fs → f ≡ get_or fs i f → n ≡ place_at f → all' ≡ all ++ n ∷ [] →
    all ++ places_at (drop i fs) ≡ r → all' ++ places_at (drop (i + 1) fs) ≡ r
next_place fs i f n all all' r l e g h k =
    let m = next_left fs i f l e in
    let k' = rw m at k in
    rw (add-one, h, g) (append_assoc all (place_at f ∷ []) (places_at (drop (suc i) fs)) ∙ k')
