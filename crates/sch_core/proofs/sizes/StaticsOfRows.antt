-- The symbols, the literals and the globals of a row of the table take no more than twice the weight of its texts, and so
-- does each draft.
use Rattle.std.proofs.Common.{◌≤◌, ◌&&◌, ◌+◌, ◌*◌, ℕ, Bool, true, false, cond, List, ◌∷◌, Option, Some, None, arith}
use Rattle.sch_read.specs.Grammar.{Datum, Data, atom, list, dotted, vector, none, cons, boolean, integer, character, symbol}
use Rattle.sch_read.specs.Grammar as grammar
use Rattle.sch_read.specs.Parts.{how_many}
use Rattle.sch_read.specs.Valid.{weight, weights}
use Rattle.sch_names.specs.declared.keyword.Keyword.{Keyword}
use Rattle.sch_names.specs.declared.keyword.Keyword.TheVariants.{Quote, Lambda, If, Set, Cond, Case, And, Or, Let, LetStar, Letrec, Begin, Do}
use Rattle.sch_names.specs.Words.{keyword_of}
use Rattle.sch_names.specs.Scope.{Scope, Globals, Head, form, operating, calling as calling_head, head_of, find, is_among, onto}
use Rattle.sch_sketch.specs.declared.sketch.Position.{Position}
use Rattle.sch_sketch.specs.declared.sketch.Row.{Row}
use Rattle.sch_sketch.specs.declared.sketch.Row.TheVariants.{Form, Body, Method, Nest, Clauses, Cases, Tests, Chain, Join}
use Rattle.sch_sketch.specs.Sketch.{Sketches, rest, no_sketch}
use Rattle.sch_sketch.specs.Small.{one}
use Rattle.sch_form_bodies.specs.Assignments.{assignment, row_set, definition, keyword_at, aimed_name, row_define}
use Rattle.sch_form_bindings.specs.Bindings.{bound, inits, are_bindings}
use Rattle.sch_sketch.specs.Formals.{formals, are_formals, listed, tail_of}
use Rattle.sch_sketch.specs.Definitions.{is_definition, is_define_word, defined_name, defined_sketch, inits_in, inits_of_each}
use Rattle.sch_sketch.specs.BodyHeads.{body_inits, expressions, is_body, body}
use Rattle.sch_form_bodies.specs.Bodies.{row_body, procedure, row_lambda, method, row_method}
use Rattle.sch_form_bindings.specs.Binders.{is_binding_form, row_named, row_let, row_letrec, row_let_star, row_nest, starred}
use Rattle.sch_form_bindings.specs.Loops.{starts, steps, step, again, next_round, result, are_rounds, do_form, row_do}
use Rattle.sch_expansion.specs.Outline.{row_form, outline, outline_name, call_of, outline_head, outline_datum}
use Rattle.sch_core.proofs.sizes.StaticsOfSketches.{rest_statics, sketch_statics, sketches_statics, chosen_within, texts_statics, quoted_statics, combination_statics, chain_statics, join_statics, quote_statics, if_statics, begin_statics, and_statics, or_statics, cond_statics, clauses_statics, case_statics, cases_statics, tests_statics}

-- ## Inits

inits_statics : (bs : Data) (ks : Sketches) → sketches_statics (inits bs ks) ≤ 2 * weights bs + sketches_statics ks
inits_statics (cons (list at (cons (atom q (symbol x)) (cons i none))) bs) ks = omega (arith, inits_statics bs ks)
inits_statics _ ks = omega arith

pub defined_statics : (at : ℕ) (xs : Data) → sketch_statics (defined_sketch at xs) ≤ 2 * weights xs
defined_statics at none = omega arith
defined_statics at (cons (atom p (symbol v)) none) = omega arith
defined_statics at (cons (atom p (symbol v)) (cons e none)) = omega arith
defined_statics at (cons (atom p (symbol v)) (cons e (cons d ds))) = omega arith
defined_statics at (cons (atom p (boolean b)) es) = omega arith
defined_statics at (cons (atom p (integer z)) es) = omega arith
defined_statics at (cons (atom p (character c)) es) = omega arith
defined_statics at (cons (atom p (grammar.text bs)) es) = omega arith
defined_statics at (cons (list q fs) es) = omega arith
defined_statics at (cons (dotted q fs f) es) = omega arith
defined_statics at (cons (vector q fs) es) = omega arith

mutual
  definition_statics : (d : Datum) (ks : Sketches) → sketches_statics (inits_in d ks) ≤ 2 * weight d + sketches_statics ks
  definition_statics (list at (cons (atom q (symbol w)) xs)) ks =
      chosen_within sketches_statics (is_define_word (keyword_of w)) _ _ _ (omega (arith, defined_statics at xs)) (omega (arith, definitions_statics xs ks))
  definition_statics _ ks = omega arith

  definitions_statics : (ds : Data) (ks : Sketches) → sketches_statics (inits_of_each ds ks) ≤ 2 * weights ds + sketches_statics ks
  definitions_statics none ks = omega arith
  definitions_statics (cons d ds) ks = omega (arith, definition_statics d (inits_of_each ds ks), definitions_statics ds ks)

-- ## Bodies and procedures

head_either : (b : Bool) (ks ls : Sketches) (es fs : Data) (r : ℕ) → sketches_statics ks + 2 * weights es ≤ r → sketches_statics ls + 2 * weights fs ≤ r →
    sketches_statics (cond b ks ls) + 2 * weights (cond b es fs) ≤ r
head_either true ks ls es fs r h h' = h
head_either false ks ls es fs r h h' = h'

head_statics : (s : Scope) (es : Data) (ks : Sketches) → sketches_statics (body_inits s es ks) + 2 * weights (expressions s es) ≤ 2 * weights es + sketches_statics ks
head_statics s none ks = omega arith
head_statics s (cons d ds) ks =
    head_either (is_definition s d) _ _ _ _ _ (omega (arith, definition_statics d (body_inits s ds ks), head_statics s ds ks)) (omega arith)

body_statics : (s : Scope) (at : ℕ) (xs : Data) → sketch_statics (row_body s at xs) ≤ 2 * weights xs
body_statics s at none = omega arith
body_statics s at (cons e es) =
    chosen_within sketch_statics (is_definition s e) _ _ _ (omega (arith, head_statics s (cons e es) (one (rest (Form Begin) at (expressions s (cons e es)) none)))) (omega arith)

procedure_statics : (s : Scope) (at : ℕ) (fs : Data) (f : Option Datum) (es : Data) → sketch_statics (procedure s at fs f es) ≤ 2 * weights es
procedure_statics s at fs f es = chosen_within sketch_statics (are_formals fs f && is_body (onto (formals fs f) s) es) _ _ _ (omega arith) (omega arith)

lambda_statics : (s : Scope) (at : ℕ) (xs : Data) → sketch_statics (row_lambda s at xs) ≤ 2 * weights xs
lambda_statics s at none = omega arith
lambda_statics s at (cons f es) = omega (arith, procedure_statics s at (listed f) (tail_of f) es)

method_of_statics : (s : Scope) (at : ℕ) (xs : Data) (f : Option Datum) (es : Data) → sketch_statics (method s at xs f es) ≤ 2 * weights es
method_of_statics s at (cons (atom q (symbol v)) fs) f es = procedure_statics s at fs f es
method_of_statics s at _ f es = omega arith

method_statics : (s : Scope) (at : ℕ) (xs : Data) → sketch_statics (row_method s at xs) ≤ 2 * weights xs
method_statics s at none = omega arith
method_statics s at (cons h es) = omega (arith, method_of_statics s at (listed h) (tail_of h) es)

-- ## Bindings

named_statics : (s : Scope) (at : ℕ) (f : List ℕ) (xs : Data) → sketch_statics (row_named s at f xs) ≤ 2 * weights xs
named_statics s at f (cons (list q bs) es) = chosen_within sketch_statics (is_binding_form (Some f ∷ s) bs es) _ _ _ (omega (arith, inits_statics bs no_sketch)) (omega arith)
named_statics s at f _ = omega arith

let_statics : (s : Scope) (at : ℕ) (xs : Data) → sketch_statics (row_let s at xs) ≤ 2 * weights xs
let_statics s at (cons (list q bs) es) = chosen_within sketch_statics (is_binding_form s bs es) _ _ _ (omega (arith, inits_statics bs (body at es))) (omega arith)
let_statics s at (cons (atom q (symbol f)) xs) = omega (arith, named_statics s at f xs)
let_statics s at _ = omega arith

letrec_statics : (s : Scope) (at : ℕ) (xs : Data) → sketch_statics (row_letrec s at xs) ≤ 2 * weights xs
letrec_statics s at (cons (list q bs) es) =
    chosen_within sketch_statics (is_binding_form s bs es) _ _ _ (omega (arith, inits_statics bs (one (rest Body at es none)))) (omega arith)
letrec_statics s at _ = omega arith

starred_statics : (at : ℕ) (bs es : Data) → sketch_statics (starred at bs es) ≤ 2 * weights bs + 2 * weights es
starred_statics at none es = omega arith
starred_statics at (cons b bs) es = omega arith

let_star_statics : (s : Scope) (at : ℕ) (xs : Data) → sketch_statics (row_let_star s at xs) ≤ 2 * weights xs
let_star_statics s at (cons (list q bs) es) =
    chosen_within sketch_statics (are_bindings bs && is_body (onto (bound bs) s) es) _ _ _ (omega (arith, starred_statics at bs es)) (omega arith)
let_star_statics s at _ = omega arith

nest_statics : (outer at : ℕ) (bs es : Data) → sketch_statics (row_nest outer at bs es) ≤ 2 * weights bs + 2 * weights es
nest_statics outer at (cons (list q (cons (atom p (symbol v)) (cons i none))) none) es = omega arith
nest_statics outer at (cons (list q (cons (atom p (symbol v)) (cons i none))) (cons b bs)) es = omega arith
nest_statics outer at _ es = omega arith

-- ## `do`

step_statics : (at k : ℕ) (xs : Data) → sketch_statics (step at k xs) ≤ 2 * weights xs
step_statics at k none = omega arith
step_statics at k (cons s ss) = omega arith

rounds_statics : (at : ℕ) (bs : Data) → sketches_statics (starts bs no_sketch) + sketches_statics (steps at bs no_sketch) ≤ 2 * weights bs
rounds_statics at (cons (list p (cons (atom q (symbol x)) (cons i xs))) bs) = omega (arith, rounds_statics at bs, step_statics at (how_many bs) xs)
rounds_statics at _ = omega arith

result_statics : (at : ℕ) (rs : Data) → sketch_statics (result at rs) ≤ 2 * weights rs
result_statics at none = omega arith
result_statics at (cons r rs) = omega arith

next_statics : (at : ℕ) (bs es : Data) → sketch_statics (next_round at bs es) ≤ sketches_statics (steps at bs no_sketch) + 2 * weights es
next_statics at bs none = omega arith
next_statics at bs (cons e es) = omega (arith, texts_statics es (one (again at bs)))

do_form_statics : (at : ℕ) (bs : Data) (a : Datum) (rs es : Data) → sketch_statics (do_form at bs a rs es) ≤ 2 * weights bs + (2 * weight a + (2 * weights rs + 2 * weights es))
do_form_statics at bs a rs es =
    chosen_within sketch_statics (are_rounds bs) _ _ _ (omega (arith, rounds_statics at bs, result_statics at rs, next_statics at bs es)) (omega arith)

do_statics : (at : ℕ) (xs : Data) → sketch_statics (row_do at xs) ≤ 2 * weights xs
do_statics at (cons (list p bs) (cons (list q (cons a rs)) es)) = omega (arith, do_form_statics at bs a rs es)
do_statics at _ = omega arith

-- ## Assignments and definitions

assignment_statics : (v : Option ℕ) (w : Option Keyword) (g : Bool) (at q : ℕ) (x : List ℕ) (e : Datum) → sketch_statics (assignment v w g at q x e) ≤ 1 + 2 * weight e
assignment_statics (Some k) w g at q x e = omega arith
assignment_statics None (Some w) g at q x e = omega arith
assignment_statics None None true at q x e = omega arith
assignment_statics None None false at q x e = omega arith

set_statics : (globals : Globals) (s : Scope) (at : ℕ) (xs : Data) → sketch_statics (row_set globals s at xs) ≤ 2 * weights xs
set_statics globals s at (cons (atom q (symbol x)) (cons e none)) =
    omega (arith, assignment_statics (find s x) (keyword_of x) (is_among x globals.bound) at q x e)
set_statics globals s at none = omega arith
set_statics globals s at (cons v none) = omega arith
set_statics globals s at (cons v (cons e (cons d ds))) = omega arith
set_statics globals s at (cons (atom q (boolean b)) (cons e none)) = omega arith
set_statics globals s at (cons (atom q (integer z)) (cons e none)) = omega arith
set_statics globals s at (cons (atom q (character c)) (cons e none)) = omega arith
set_statics globals s at (cons (atom q (grammar.text t)) (cons e none)) = omega arith
set_statics globals s at (cons (list q ys) (cons e none)) = omega arith
set_statics globals s at (cons (dotted q ys y) (cons e none)) = omega arith
set_statics globals s at (cons (vector q ys) (cons e none)) = omega arith

definition_form_statics : (w : Option Keyword) (v : Option (List ℕ)) (at : ℕ) (xs : Data) → sketch_statics (definition w v at xs) ≤ 1 + 2 * weights xs
definition_form_statics (Some k) v at xs = omega arith
definition_form_statics None (Some v) at xs = omega (arith, defined_statics at xs)
definition_form_statics None None at xs = omega arith

pub define_statics : (at : ℕ) (xs : Data) → sketch_statics (row_define at xs) ≤ 1 + 2 * weights xs
define_statics at xs = definition_form_statics (keyword_at (aimed_name xs)) (defined_name xs) at xs

-- ## The table

name_statics : (v : Option ℕ) (w : Option Keyword) (g : Bool) (at : ℕ) (x : List ℕ) → sketch_statics (outline_name v w g at x) ≤ 1
name_statics (Some k) w g at x = omega arith
name_statics None (Some w) g at x = omega arith
name_statics None None true at x = omega arith
name_statics None None false at x = omega arith

call_statics : (at : ℕ) (f : Datum) (xs : Data) → sketch_statics (call_of at f xs) ≤ 2 * weight (list at (cons f xs))
call_statics at f xs = omega (arith, texts_statics xs no_sketch)

head_datum_statics : (h : Head) (at : ℕ) (f : Datum) (xs : Data) → sketch_statics (outline_head h at f xs) ≤ 2 * weight (list at (cons f xs))
head_datum_statics (form Quote) at f xs = omega arith
head_datum_statics (form k) at f xs = omega arith
head_datum_statics (operating o) at f xs = omega (arith, combination_statics o at xs)
head_datum_statics calling_head at f xs = call_statics at f xs

module _ (globals : Globals) where
  pub datum_statics : (s : Scope) (d : Datum) → sketch_statics (outline_datum globals s d) ≤ 2 * weight d
  datum_statics s (atom at (symbol x)) = omega (arith, name_statics (find s x) (keyword_of x) (is_among x globals.bound) at x)
  datum_statics s (atom at (boolean b)) = quoted_statics at (atom at (boolean b))
  datum_statics s (atom at (integer z)) = quoted_statics at (atom at (integer z))
  datum_statics s (atom at (character c)) = quoted_statics at (atom at (character c))
  datum_statics s (atom at (grammar.text bs)) = quoted_statics at (atom at (grammar.text bs))
  datum_statics s (list at (cons (atom q (symbol x)) xs)) = head_datum_statics (head_of globals s x (how_many xs)) at (atom q (symbol x)) xs
  datum_statics s (list at (cons (atom q (boolean b)) xs)) = call_statics at (atom q (boolean b)) xs
  datum_statics s (list at (cons (atom q (integer z)) xs)) = call_statics at (atom q (integer z)) xs
  datum_statics s (list at (cons (atom q (character c)) xs)) = call_statics at (atom q (character c)) xs
  datum_statics s (list at (cons (atom q (grammar.text bs)) xs)) = call_statics at (atom q (grammar.text bs)) xs
  datum_statics s (list at (cons (list q ys) xs)) = call_statics at (list q ys) xs
  datum_statics s (list at (cons (dotted q ys y) xs)) = call_statics at (dotted q ys y) xs
  datum_statics s (list at (cons (vector q ys) xs)) = call_statics at (vector q ys) xs
  datum_statics s (list at none) = omega arith
  datum_statics s (dotted at xs x) = omega arith
  datum_statics s (vector at xs) = omega arith

  form_statics : (k : Keyword) (s : Scope) (t : Position) (at : ℕ) (xs : Data) → sketch_statics (row_form globals k s t at xs) ≤ 2 * weights xs
  form_statics Quote s t at xs = quote_statics at xs
  form_statics If s t at xs = if_statics at xs
  form_statics Begin s t at xs = begin_statics at xs
  form_statics And s t at xs = and_statics at xs
  form_statics Or s t at xs = or_statics t at xs
  form_statics Cond s t at xs = cond_statics s at xs
  form_statics Case s t at xs = case_statics s at xs
  form_statics Let s t at xs = let_statics s at xs
  form_statics LetStar s t at xs = let_star_statics s at xs
  form_statics Letrec s t at xs = letrec_statics s at xs
  form_statics Lambda s t at xs = lambda_statics s at xs
  form_statics Do s t at xs = do_statics at xs
  form_statics Set s t at xs = set_statics globals s at xs
  form_statics _ s t at xs = omega arith

  pub row_statics : (s : Scope) (t : Position) (r : Row) (at : ℕ) (xs ys : Data) → sketch_statics (outline globals s t r at xs ys) ≤ rest_statics r xs ys
  row_statics s t (Form k) at xs ys = omega (arith, form_statics k s t at xs)
  row_statics s t Body at xs ys = omega (arith, body_statics s at xs)
  row_statics s t Method at xs ys = omega (arith, method_statics s at xs)
  row_statics s t (Nest outer) at xs ys = nest_statics outer at xs ys
  row_statics s t Clauses at xs ys = omega (arith, clauses_statics s t at xs)
  row_statics s t Cases at xs ys = omega (arith, cases_statics at xs)
  row_statics s t Tests at xs ys = omega (arith, tests_statics at xs)
  row_statics s t (Chain p) at xs ys = chain_statics p at xs
  row_statics s t (Join p k j) at xs ys = join_statics p k j at
