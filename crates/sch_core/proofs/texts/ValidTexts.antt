-- The program of a library and of a text without a fault is valid.
use Rattle.std.proofs.Common.{◌≡◌, inl, inr, ◌≤◌, ℕ, ◌+◌, ◌*◌, Bool, true, false, cond, List, [], ◌∷◌, ◌++◌, length, map, Option, Some, None, refl, sym, ap, ◌∙◌, subst, arith, append_assoc}
use Rattle.std.specs.Str.{bytes_eq}
use Rattle.std.proofs.lemmas.Bool.{or_cases}
use Rattle.std.proofs.lemmas.Option.{none-some}
use Rattle.sch_word.proofs.facts.Booleans.{and_parts}
use Rattle.sch_lang.specs.Tree.{Expressions, no_expressions, and_expression, count}
use Rattle.sch_lang.specs.Valid.{is_valid}
use Rattle.sch_read.specs.Grammar.{Datum, Data, atom, list, dotted, vector, none, cons, boolean, integer, character, symbol}
use Rattle.sch_read.specs.Grammar as grammar
use Rattle.sch_read.specs.Valid.{max_weight, weight, weights}
use Rattle.sch_names.specs.declared.keyword.Keyword.{Keyword}
use Rattle.sch_names.specs.NamesView.{with_name}
use Rattle.sch_names.specs.Scope.{Globals, is_among}
use Rattle.sch_names.specs.Words.{keyword_of}
use Rattle.sch_sketch.specs.declared.sketch.Position.TheVariants.{Value}
use Rattle.sch_sketch.specs.Draft.{Draft, Drafts, and_draft}
use Rattle.sch_sketch.specs.Sketch.{Sketch, Sketches, sketches, text, no_sketch, and_sketch, sequencing}
use Rattle.sch_sketch.specs.Definitions.{is_define_word, defined_name}
use Rattle.sch_form_bodies.specs.Assignments as table
use Rattle.sch_form_bodies.specs.Assignments.{row_define, keyword_at, aimed_name}
use Rattle.sch_expansion.specs.Expands.{Expands, PartsExpand}
use Rattle.sch_expansion.specs.Expands as ex
use Rattle.sch_link_tables.specs.Named.{firsts, globals_in_each, symbols_in_each}
use Rattle.sch_link_tables.specs.Numbered.{numbered}
use Rattle.sch_link_tables.specs.Programs.{Definition, seen, names_of_each, globals_of_each, symbols_of_each, with_definition, kept, named, procedures, program_of, procedures_of_each}
use Rattle.sch_core.specs.TextForms.{Form, expression, definition, sketch_of, IsBound, AreDefined, HasNames, AreOfData, form_weight, forms_weight}
use Rattle.sch_core.specs.LibraryDefinitions.{AreDefinitions, AreAmong, AreOrdered}
use Rattle.sch_core.specs.Quotable.{AllQuotable, IsQuotable}
use Rattle.sch_core.specs.SizesOfStatics.{statics_in_each}
use Rattle.sch_core.proofs.numbered.Names.{left, right, all_among}
use Rattle.sch_link_program.proofs.NameSets.{among_append}
use Rattle.sch_core.proofs.programs.Starts.{equal, among_left, among_right, among_cons, seen_named}
use Rattle.sch_core.proofs.programs.ValidForms.{forms_constants, forms_statics, valid_text}
use Rattle.sch_toplevel.specs.Forms.{is_begin_word, forms_of, forms_in, form_sketch, defined_by, defined_by_each, defined, own_names, text_globals, form_places}
use Rattle.sch_toplevel.specs.Texts.{FormsExpand, SketchesExpand}
use Rattle.sch_core.specs.declared.error.Kind.{Kind}
use Rattle.sch_core.specs.Excess.{excess, at_place, first_excess, LambdasAreFew, FormsAreFew, definition_excess, AreFew}
use Rattle.sch_core.proofs.DataKnown.{all_quotable}
use Rattle.sch_core.proofs.ExcessWithoutNumbers.{same_excess, alike}

-- ## Names

-- what is in a list of names that are all among others is among those
within : (all xs : List (List ℕ)) (x : List ℕ) → AreAmong all xs → is_among x xs ≡ true → is_among x all ≡ true
within all [] x h k = cc
within all (y ∷ xs) x h k = go (bytes_eq x y) refl k (within all xs x h.1)
  where
    go : (b : Bool) → bytes_eq x y ≡ b → cond b true (is_among x xs) ≡ true → (is_among x xs ≡ true → is_among x all ≡ true) → is_among x all ≡ true
    go true e m r = subst (λ z. is_among z all ≡ true) (sym (equal x y e)) h.0
    go false e m r = r m

-- a name of a table is one that was put into it
from_table : (x : List ℕ) (names before : List (List ℕ)) → is_among x (firsts before names) ≡ true → is_among x (before ++ names) ≡ true
from_table x [] before h = among_left x before [] h
from_table x (y ∷ names) before h = go (is_among y before) (from_table x names (with_name y before) h)
  where
    go : (b : Bool) → is_among x (cond b before (before ++ y ∷ []) ++ names) ≡ true → is_among x (before ++ y ∷ names) ≡ true
    go true k =
        elim (or_cases _ _ (sym (among_append x before names) ∙ k)) [
          | inl m ↦ among_left x before (y ∷ names) m
          | inr m ↦ among_right x before (y ∷ names) (among_cons x y names m)
        ]
    go false k = subst (λ l. is_among x l ≡ true) (append_assoc before (y ∷ []) names) k

into_table : (x : List ℕ) (names : List (List ℕ)) → is_among x names ≡ true → is_among x (firsts [] names) ≡ true
into_table x names h = within (firsts [] names) names x (all_among names []) h

pub either_there : (c a b : Bool) → cond c true a ≡ true → (a ≡ true → b ≡ true) → cond c true b ≡ true
either_there true a b h f = refl
either_there false a b h f = f h

names_there : (ds : List Definition) (items : Data) (assigned : List (List ℕ)) → HasNames ds (own_names items assigned) (text_globals (seen ds) items assigned)
names_there ds items assigned x h =
    elim (or_cases _ _ (sym (among_append x (seen ds) (defined items)) ∙ from_table x (seen ds ++ defined items) [] h)) [
      | inl m ↦ among_right x (own_names items assigned) (names_of_each ds) (seen_named x ds m)
      | inr m ↦ among_left x (own_names items assigned) (names_of_each ds) (into_table x (defined items ++ assigned) (among_left x (defined items) assigned m))
    ]

-- ## Forms

abbrev chosen_form : (b : Bool) (at : ℕ) (xs : Data) (d : Datum) → Form
chosen_form true at xs d = definition at xs
chosen_form false at xs d = expression d

abbrev pub form_of : Datum → Form
form_of (list at (cons (atom q (symbol x)) xs)) = chosen_form (is_define_word (keyword_of x)) at xs (list at (cons (atom q (symbol x)) xs))
form_of d = expression d

chosen_sketch : (b : Bool) (at : ℕ) (xs : Data) (d : Datum) → cond b (row_define at xs) (text d) ≡ sketch_of (chosen_form b at xs d)
chosen_sketch true at xs d = refl
chosen_sketch false at xs d = refl

pub form_is : (d : Datum) → form_sketch d ≡ sketch_of (form_of d)
form_is (atom at a) = refl
form_is (list at none) = refl
form_is (list at (cons (atom q (symbol x)) xs)) = chosen_sketch (is_define_word (keyword_of x)) at xs (list at (cons (atom q (symbol x)) xs))
form_is (list at (cons (atom q (boolean x)) xs)) = refl
form_is (list at (cons (atom q (integer x)) xs)) = refl
form_is (list at (cons (atom q (character x)) xs)) = refl
form_is (list at (cons (atom q (grammar.text x)) xs)) = refl
form_is (list at (cons (list q x) xs)) = refl
form_is (list at (cons (dotted q x y) xs)) = refl
form_is (list at (cons (vector q x) xs)) = refl
form_is (dotted at xs x) = refl
form_is (vector at xs) = refl

module _ (g : Globals) where
  bound_name : (w : Option Keyword) (o : Option (List ℕ)) (at : ℕ) (xs : Data) (e : Draft) → Expands g 1 [] Value (table.definition w o at xs) e →
      AreAmong g.bound (defined_by (table.definition w o at xs)) → IsBound g o
  bound_name (Some k) o at xs e p h = elim p [ ]
  bound_name None None at xs e p h = tt
  bound_name None (Some v) at xs e p h = h.0

  -- one form defines a name that there is, and then the others
  one_defined : (f : Form) (fs : List Form) (e : Draft) → Expands g 1 [] Value (sketch_of f) e → AreAmong g.bound (defined_by (sketch_of f)) → AreDefined g fs → AreDefined g (f ∷ fs)
  one_defined (expression d) fs e p h k = k
  one_defined (definition at xs) fs e p h k = (bound_name (keyword_at (aimed_name xs)) (defined_name xs) at xs e p h, k)

  record Split (p : Sketch) (ps : Sketches) (es : Drafts) : Type 0 where
    draft : Draft
    more : Drafts
    whole : es ≡ and_draft draft more
    here : Expands g 1 [] Value p draft
    others : PartsExpand g sequencing false 1 [] Value ps more

  split_one : {first : Bool} {p : Sketch} {es : Drafts} → PartsExpand g sequencing first 1 [] Value (and_sketch p no_sketch) es → Split p no_sketch es
  split_one (ex.and_part _ _ _ _ _ p _ e es x y) = record { draft = e; more = es; whole = refl; here = x; others = y }

  split_more : {first : Bool} {p q : Sketch} {qs : Sketches} {es : Drafts} → PartsExpand g sequencing first 1 [] Value (and_sketch p (and_sketch q qs)) es → Split p (and_sketch q qs) es
  split_more (ex.and_part _ _ _ _ _ p _ e es x y) = record { draft = e; more = es; whole = refl; here = x; others = y }

  split : {first : Bool} {p : Sketch} (ps : Sketches) {es : Drafts} → PartsExpand g sequencing first 1 [] Value (and_sketch p ps) es → Split p ps es
  split no_sketch r = split_one r
  split (and_sketch q qs) r = split_more r

  pub forms_defined : (ds : List Datum) (first : Bool) (es : Drafts) → PartsExpand g sequencing first 1 [] Value (sketches (map form_sketch ds)) es →
      AreAmong g.bound (defined_by_each (map form_sketch ds)) → AreDefined g (map form_of ds)
  forms_defined [] first es p h = tt
  forms_defined (d ∷ ds) first es p h =
      let s = split (sketches (map form_sketch ds)) p in
      let here = subst (λ k. Expands g 1 [] Value k s.draft) (form_is d) s.here in
      let names = subst (λ k. AreAmong g.bound (defined_by k)) (form_is d) (left g.bound (defined_by (form_sketch d)) _ h) in
      one_defined (form_of d) (map form_of ds) s.draft here names (forms_defined ds false s.more s.others (right g.bound (defined_by (form_sketch d)) _ h))

forms_are : (ds : List Datum) → map form_sketch ds ≡ map sketch_of (map form_of ds)
forms_are [] = refl
forms_are (d ∷ ds) = let i = form_is d in let j = forms_are ds in λ p. i p ∷ j p

pub forms_expand : (g : Globals) (items : Data) (es : Drafts) → FormsExpand g items es → SketchesExpand g (map sketch_of (map form_of (forms_in items))) es
forms_expand g items es p = subst (λ ks. PartsExpand g sequencing true 1 [] Value (sketches ks) es) (forms_are (forms_in items)) p

-- ## The data of forms

weights_append : (a b : List Form) → forms_weight (a ++ b) ≡ forms_weight a + forms_weight b
weights_append [] b = omega arith
weights_append (f ∷ a) b = omega (arith, weights_append a b)

chosen_weight : (b : Bool) (at q : ℕ) (x : List ℕ) (xs : Data) → form_weight (chosen_form b at xs (list at (cons (atom q (symbol x)) xs))) ≤ weight (list at (cons (atom q (symbol x)) xs))
chosen_weight true at q x xs = omega arith
chosen_weight false at q x xs = omega arith

form_weighs : (d : Datum) → form_weight (form_of d) ≤ weight d
form_weighs (atom at a) = omega arith
form_weighs (list at none) = omega arith
form_weighs (list at (cons (atom q (symbol x)) xs)) = chosen_weight (is_define_word (keyword_of x)) at q x xs
form_weighs (list at (cons (atom q (boolean x)) xs)) = omega arith
form_weighs (list at (cons (atom q (integer x)) xs)) = omega arith
form_weighs (list at (cons (atom q (character x)) xs)) = omega arith
form_weighs (list at (cons (atom q (grammar.text x)) xs)) = omega arith
form_weighs (list at (cons (list q x) xs)) = omega arith
form_weighs (list at (cons (dotted q x y) xs)) = omega arith
form_weighs (list at (cons (vector q x) xs)) = omega arith
form_weighs (dotted at xs x) = omega arith
form_weighs (vector at xs) = omega arith

-- a fact of the forms of a datum: it holds of the forms that a `begin` has, and of the datum as a form
module _ (P : List Datum → Type 0) where
  either : (b : Bool) (inner : List Datum) (d : Datum) → P inner → P (d ∷ []) → P (cond b inner (d ∷ []))
  either true inner d h k = h
  either false inner d h k = k

abbrev weigh : List Datum → ℕ
weigh ds = forms_weight (map form_of ds)

map_append : (a b : List Datum) → map form_of (a ++ b) ≡ map form_of a ++ map form_of b
map_append [] b = refl
map_append (d ∷ a) b = ap (λ l. form_of d ∷ l) (map_append a b)

weigh_append : (a b : List Datum) → weigh (a ++ b) ≡ weigh a + weigh b
weigh_append a b = ap forms_weight (map_append a b) ∙ weights_append (map form_of a) (map form_of b)

one_weighs : (d : Datum) → weigh (d ∷ []) ≤ weight d
one_weighs d = omega (arith, form_weighs d)

mutual
  datum_weighs : (d : Datum) → weigh (forms_of d) ≤ weight d
  datum_weighs (list at (cons (atom q (symbol x)) xs)) =
      let d = list at (cons (atom q (symbol x)) xs) in
      either (λ ds. weigh ds ≤ weight d) (is_begin_word (keyword_of x)) (forms_in xs) d (omega (arith, data_weigh xs)) (one_weighs d)
  datum_weighs (atom at a) = one_weighs (atom at a)
  datum_weighs (list at none) = one_weighs (list at none)
  datum_weighs (list at (cons (atom q (boolean x)) xs)) = one_weighs (list at (cons (atom q (boolean x)) xs))
  datum_weighs (list at (cons (atom q (integer x)) xs)) = one_weighs (list at (cons (atom q (integer x)) xs))
  datum_weighs (list at (cons (atom q (character x)) xs)) = one_weighs (list at (cons (atom q (character x)) xs))
  datum_weighs (list at (cons (atom q (grammar.text x)) xs)) = one_weighs (list at (cons (atom q (grammar.text x)) xs))
  datum_weighs (list at (cons (list q x) xs)) = one_weighs (list at (cons (list q x) xs))
  datum_weighs (list at (cons (dotted q x y) xs)) = one_weighs (list at (cons (dotted q x y) xs))
  datum_weighs (list at (cons (vector q x) xs)) = one_weighs (list at (cons (vector q x) xs))
  datum_weighs (dotted at xs x) = one_weighs (dotted at xs x)
  datum_weighs (vector at xs) = one_weighs (vector at xs)

  pub data_weigh : (items : Data) → weigh (forms_in items) ≤ weights items
  data_weigh none = omega arith
  data_weigh (cons d ds) = omega (arith, weigh_append (forms_of d) (forms_in ds), datum_weighs d, data_weigh ds)

-- the symbols, the literals and the globals of a text
pub text_statics : (g : Globals) (items : Data) (es : Drafts) → FormsExpand g items es → statics_in_each es ≤ 2 * weights items
text_statics g items es p = omega (arith, forms_statics g (map form_of (forms_in items)) es (forms_expand g items es p), data_weigh items)

-- data that may be quoted
abbrev Quotable : List Datum → Type 0
Quotable ds = AreOfData (map form_of ds)

one_quotable : (f : Form) (fs gs : List Form) → AreOfData (f ∷ fs) → (AreOfData fs → AreOfData gs) → AreOfData (f ∷ gs)
one_quotable (expression y) fs gs h r = (h.0, r h.1)
one_quotable (definition at ys) fs gs h r = (h.0, r h.1)

quotable_append : (a b : List Datum) → Quotable a → Quotable b → Quotable (a ++ b)
quotable_append [] b h k = k
quotable_append (d ∷ a) b h k = one_quotable (form_of d) (map form_of a) (map form_of (a ++ b)) h (λ i. quotable_append a b i k)

inner_quotable : (at q : ℕ) (x : List ℕ) (xs : Data) → IsQuotable (list at (cons (atom q (symbol x)) xs)) → AllQuotable xs
inner_quotable at q x xs h = all_quotable xs (and_parts _ _ h).1

chosen_quotable : (b : Bool) (at q : ℕ) (x : List ℕ) (xs : Data) → IsQuotable (list at (cons (atom q (symbol x)) xs)) →
    AreOfData (chosen_form b at xs (list at (cons (atom q (symbol x)) xs)) ∷ [])
chosen_quotable true at q x xs h = (inner_quotable at q x xs h, tt)
chosen_quotable false at q x xs h = (h, tt)

mutual
  datum_quotable : (d : Datum) → IsQuotable d → Quotable (forms_of d)
  datum_quotable (list at (cons (atom q (symbol x)) xs)) h =
      let d = list at (cons (atom q (symbol x)) xs) in
      either Quotable (is_begin_word (keyword_of x)) (forms_in xs) d (data_quotable xs (inner_quotable at q x xs h)) (chosen_quotable (is_define_word (keyword_of x)) at q x xs h)
  datum_quotable (atom at a) h = (h, tt)
  datum_quotable (list at none) h = (h, tt)
  datum_quotable (list at (cons (atom q (boolean x)) xs)) h = (h, tt)
  datum_quotable (list at (cons (atom q (integer x)) xs)) h = (h, tt)
  datum_quotable (list at (cons (atom q (character x)) xs)) h = (h, tt)
  datum_quotable (list at (cons (atom q (grammar.text x)) xs)) h = (h, tt)
  datum_quotable (list at (cons (list q x) xs)) h = (h, tt)
  datum_quotable (list at (cons (dotted q x y) xs)) h = (h, tt)
  datum_quotable (list at (cons (vector q x) xs)) h = (h, tt)
  datum_quotable (dotted at xs x) h = (h, tt)
  datum_quotable (vector at xs) h = (h, tt)

  pub data_quotable : (items : Data) → AllQuotable items → Quotable (forms_in items)
  data_quotable none h = tt
  data_quotable (cons d ds) h = quotable_append (forms_of d) (forms_in ds) (datum_quotable d h.0) (data_quotable ds h.1)

-- ## Limits

pub place_none : (at : ℕ) (o : Option Kind) (others : Option (Kind × ℕ)) → at_place at o others ≡ None → (o ≡ None) × (others ≡ None)
place_none at (Some k) others h = absurd (none-some _ (sym h))
place_none at None others h = (refl, h)

forms_few : (places : List ℕ) (es : Expressions) → length places ≡ count es → first_excess places es ≡ None → FormsAreFew es
forms_few places no_expressions l h = tt
forms_few [] (and_expression e es) l h = absurd (omega (arith, l))
forms_few (at ∷ places) (and_expression e es) l h =
    let k = place_none at (excess 0 e) (first_excess places es) h in
    (k.0, forms_few places es (omega (arith, l)) k.1)

module _ (globals symbols : List (List ℕ)) where
  definition_few : (d : Definition) (s l : ℕ) → definition_excess d ≡ None → excess d.formals (numbered [] globals symbols None d.body s l) ≡ None
  definition_few d s l h =
      sym (same_excess d.formals (numbered [] globals symbols None d.body s l))
      ∙ ap (excess d.formals) (alike [] globals symbols [] [] [] None d.body s l 0 0) ∙ (same_excess d.formals (numbered [] [] [] None d.body 0 0) ∙ h)

  library_few : (ds : List Definition) (s l : ℕ) → AreFew ds → LambdasAreFew (procedures globals symbols ds s l)
  library_few [] s l h = tt
  library_few (d ∷ ds) s l h = (definition_few d s l h.0, library_few ds _ _ h.1)

with_few : (b : Bool) (d : Definition) (ds : List Definition) → definition_excess d ≡ None → AreFew ds → AreFew (with_definition b d ds)
with_few true d ds h k = (h, k)
with_few false d ds h k = k

kept_few : (ds : List Definition) (names : List (List ℕ)) → AreFew ds → AreFew (kept ds names)
kept_few [] names h = tt
kept_few (d ∷ ds) names h = with_few _ d (kept ds names) h.0 (kept_few ds names h.1)

-- ## The program

module _ (ds : List Definition) (items : Data) (assigned : List (List ℕ)) (es : Drafts) (places : length (form_places items) ≡ count (program_of ds (own_names items assigned) es).forms) where
  pub valid_program : AreDefinitions ds → AreOrdered [] ds → AreFew ds → statics_in_each (procedures_of_each ds) + 2 * weights items ≤ 4 * max_weight →
      FormsExpand (text_globals (seen ds) items assigned) items es → AllQuotable items →
      first_excess (form_places items) (program_of ds (own_names items assigned) es).forms ≡ None → is_valid (program_of ds (own_names items assigned) es) ≡ true
  valid_program definitions ordered library small expands quotable fits =
      let own = own_names items assigned in
      let g = text_globals (seen ds) items assigned in
      let fs = map form_of (forms_in items) in
      let forms = forms_expand g items es expands in
      let names = forms_defined g (forms_in items) true es expands (right g.bound (seen ds) (defined items) (all_among (seen ds ++ defined items) [])) in
      let words = forms_constants g fs es forms (data_quotable items quotable) in
      valid_text ds g own fs es definitions ordered forms names (names_there ds items assigned) words.0 words.1 (omega (arith, small, data_weigh items))
      (library_few (firsts [] (globals_of_each (kept ds (named ds own es)) ++ globals_in_each own es)) (firsts [] (symbols_of_each (kept ds (named ds own es)) ++ symbols_in_each es)) (kept ds (named ds own es)) 0 0 (kept_few ds (named ds own es) library), forms_few (form_places items) (program_of ds own es).forms places fits)
