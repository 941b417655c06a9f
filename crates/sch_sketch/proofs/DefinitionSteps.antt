-- Bodies and lists of data.
use Rattle.std.proofs.Common.{◌≡◌, ◌<◌, ◌+◌, map, Bool, false, ℕ, List, [], ◌∷◌, ◌++◌, Some, None, refl, sym, ap, ◌∙◌, arith, append_assoc}
use Rattle.std.specs.Prelude.{◌&&◌}
use Rattle.std.proofs.lemmas.List.{append-nil, map-append}
use Rattle.sch_word.proofs.facts.Booleans.{and_and}
use Rattle.sch_read.specs.declared.datum.Datum as code
use Rattle.sch_read.specs.Grammar.{Datum, Data, atom, list, cons, symbol}
use Rattle.sch_read.specs.Valid.{weight, weights}
use Rattle.sch_read.specs.Views.{tree_of, data_of, gather}
use Rattle.sch_read.proofs.DatumSteps.{weights_append}
use Rattle.sch_names.specs.declared.keyword.Keyword.TheVariants.{Begin}
use Rattle.sch_names.specs.Words.{keyword_of}
use Rattle.sch_names.specs.Scope.{Scope, find, VariableNames}
use Rattle.sch_sketch.specs.Definitions.{is_definition, are_definitions, is_define_word, names_in, names_of_each, inits_in, inits_of_each}
use Rattle.sch_sketch.specs.Sketch.{Sketches}

pub definition_begins : (s : Scope) (d : Datum) {xs ys : Data} {o : Datum} {x : List ℕ} {p q : ℕ} → d ≡ list p xs → xs ≡ cons o ys → o ≡ atom q (symbol x) →
    find s x ≡ None → keyword_of x ≡ Some Begin → is_definition s d ≡ are_definitions s ys
definition_begins s d {xs} {ys} {o} {x} {p} {q} e e' e'' f k = rw (e ∙ ap (list p) (e' ∙ ap (λ v. cons v ys) e''), f, k) refl

pub begun_inits : (d : Datum) (ks : Sketches) {xs ys : Data} {o : Datum} {x : List ℕ} {p q : ℕ} {b : Bool} → d ≡ list p xs → xs ≡ cons o ys → o ≡ atom q (symbol x) →
    b ≡ is_define_word (keyword_of x) → b ≡ false → inits_in d ks ≡ inits_of_each ys ks
begun_inits d ks {xs} {ys} {o} {x} {p} {q} {b} e e' e'' f g = rw (e ∙ ap (list p) (e' ∙ ap (λ v. cons v ys) e''), sym f ∙ g) refl

pub begun_names : (d : Datum) {xs ys : Data} {o : Datum} {x : List ℕ} {p q : ℕ} {b : Bool} → d ≡ list p xs → xs ≡ cons o ys → o ≡ atom q (symbol x) →
    b ≡ is_define_word (keyword_of x) → b ≡ false → names_in d ≡ names_of_each ys
begun_names d {xs} {ys} {o} {x} {p} {q} {b} e e' e'' f g = rw (e ∙ ap (list p) (e' ∙ ap (λ v. cons v ys) e''), sym f ∙ g) refl

-- ## What is left to visit

defined_append : (s : Scope) (xs ys : List code.Datum) → are_definitions s (data_of (xs ++ ys)) ≡ (are_definitions s (data_of xs) && are_definitions s (data_of ys))
defined_append s [] ys = refl
defined_append s (x ∷ xs) ys = ap (λ b. is_definition s (tree_of x) && b) (defined_append s xs ys) ∙ sym (and_and (is_definition s (tree_of x)) (are_definitions s (data_of xs)) (are_definitions s (data_of ys)))

-- the parts of a `begin` are left to look at
pub begin_defines : (s : Scope) (d : Datum) (some after before : List code.Datum) → is_definition s d ≡ are_definitions s (data_of some) → after ≡ some ++ before
    → are_definitions s (data_of after) ≡ (is_definition s d && are_definitions s (data_of before))
begin_defines s d some after before e a = ap (λ l. are_definitions s (data_of l)) a ∙ defined_append s some before ∙ ap (λ b. b && are_definitions s (data_of before)) (sym e)

pub names_append : (xs ys : List code.Datum) → names_of_each (data_of (xs ++ ys)) ≡ names_of_each (data_of xs) ++ names_of_each (data_of ys)
names_append [] ys = refl
names_append (x ∷ xs) ys = ap (λ l. names_in (tree_of x) ++ l) (names_append xs ys) ∙ sym (append_assoc (names_in (tree_of x)) (names_of_each (data_of xs)) (names_of_each (data_of ys)))

pub inits_append : (xs ys : List code.Datum) (ks : Sketches) → inits_of_each (data_of (xs ++ ys)) ks ≡ inits_of_each (data_of xs) (inits_of_each (data_of ys) ks)
inits_append [] ys ks = refl
inits_append (x ∷ xs) ys ks = ap (inits_in (tree_of x)) (inits_append xs ys ks)

pub begin_names : (d : Datum) (some after before : List code.Datum) (all : VariableNames) → names_in d ≡ names_of_each (data_of some) → after ≡ some ++ before
    → all ++ names_of_each (data_of after) ≡ all ++ (names_in d ++ names_of_each (data_of before))
begin_names d some after before all e a = ap (λ l. all ++ l) (ap (λ l. names_of_each (data_of l)) a ∙ names_append some before ∙ ap (λ l. l ++ names_of_each (data_of before)) (sym e))

pub begin_inits : (d : Datum) (some after before : List code.Datum) (ks : Sketches) → ((ks : Sketches) → inits_in d ks ≡ inits_of_each (data_of some) ks) → after ≡ some ++ before
    → inits_of_each (data_of after) ks ≡ inits_in d (inits_of_each (data_of before) ks)
begin_inits d some after before ks e a = ap (λ l. inits_of_each (data_of l) ks) a ∙ inits_append some before ks ∙ sym (e (inits_of_each (data_of before) ks))

-- what is left after one datum
pub names_left : (d : code.Datum) (before after others : List code.Datum) (all all' r : VariableNames) → before ≡ d ∷ others
    → all' ++ names_of_each (data_of after) ≡ all ++ (names_in (tree_of d) ++ names_of_each (data_of others))
    → all ++ names_of_each (data_of before) ≡ r → all' ++ names_of_each (data_of after) ≡ r
names_left d before after others all all' r b h k = let k' = rw b at k in h ∙ k'

pub names_end : (left : List code.Datum) (all r : VariableNames) → left ≡ [] → all ++ names_of_each (data_of left) ≡ r → all ≡ r
names_end left all r n k = let k' = rw n at k in sym (append-nil all) ∙ k'

module _ (F G : Sketches → Sketches) where
  pub inits_left : (d : code.Datum) (before after others : List code.Datum) (r ks : Sketches) → before ≡ d ∷ others
      → G (inits_of_each (data_of after) ks) ≡ F (inits_in (tree_of d) (inits_of_each (data_of others) ks))
      → F (inits_of_each (data_of before) ks) ≡ r → G (inits_of_each (data_of after) ks) ≡ r
  inits_left d before after others r ks b h k = h ∙ ap (λ l. F (inits_of_each (data_of l) ks)) (sym b) ∙ k

  pub inits_end : (left : List code.Datum) (r ks : Sketches) → left ≡ [] → F (inits_of_each (data_of left) ks) ≡ r → F ks ≡ r
  inits_end left r ks n k = ap (λ l. F (inits_of_each (data_of l) ks)) (sym n) ∙ k

-- the parts of a `begin` are lighter than it
pub begin_lighter : (d : Datum) (some after before : List code.Datum) {xs : Data} {o : Datum} {p : ℕ} → d ≡ list p xs → xs ≡ cons o (data_of some) → after ≡ some ++ before
    → weights (data_of after) < weight d + weights (data_of before)
begin_lighter d some after before {xs} {o} {p} e e' a =
    let v = ap weight (e ∙ ap (list p) e') in
    let w = ap (λ l. weights (data_of l)) a ∙ ap (λ l. weights (gather l)) (map-append tree_of some before) in
    omega (arith, v, w, weights_append (map tree_of some) (map tree_of before))
