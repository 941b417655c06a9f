-- Each row of the table makes a sketch that fits a notion, where its data do.
use Rattle.std.proofs.Common.{◌≡◌, ◌&&◌, ℕ, Bool, true, false, cond, List, ◌∷◌, Option, Some, None, refl}
use Rattle.sch_read.specs.Grammar.{Datum, Data, atom, list, dotted, vector, none, cons, boolean, integer, character, symbol}
use Rattle.sch_read.specs.Grammar as grammar
use Rattle.sch_read.specs.Parts.{how_many}
use Rattle.sch_names.specs.declared.keyword.Keyword.{Keyword}
use Rattle.sch_names.specs.declared.keyword.Keyword.TheVariants.{Quote, Lambda, If, Set, Cond, Case, And, Or, Let, LetStar, Letrec, Begin, Do}
use Rattle.sch_names.specs.Words.{keyword_of}
use Rattle.sch_names.specs.Scope.{Scope, Globals, Head, form, operating, calling as calling_head, head_of, find, is_among, onto}
use Rattle.sch_sketch.specs.declared.sketch.Position.{Position}
use Rattle.sch_sketch.specs.declared.sketch.Row.{Row}
use Rattle.sch_sketch.specs.declared.sketch.Row.TheVariants.{Form, Body, Method, Nest, Clauses, Cases, Tests, Chain, Join}
use Rattle.sch_sketch.specs.Sketch.{Sketches, no_sketch}
use Rattle.sch_form_bodies.specs.Assignments.{assignment, row_set, definition, keyword_at, aimed_name, row_define}
use Rattle.sch_form_bindings.specs.Bindings.{bound, inits, are_bindings}
use Rattle.sch_sketch.specs.Formals.{formals, are_formals, listed, tail_of}
use Rattle.sch_sketch.specs.Definitions.{is_definition, is_define_word, defined_name, defined_sketch, inits_in, inits_of_each}
use Rattle.sch_sketch.specs.BodyHeads.{body_inits, expressions, is_body, body}
use Rattle.sch_form_bodies.specs.Bodies.{row_body, procedure, row_lambda, method, row_method}
use Rattle.sch_form_bindings.specs.Binders.{is_binding_form, row_named, row_let, row_letrec, row_let_star, row_nest, starred}
use Rattle.sch_form_bindings.specs.Loops.{starts, steps, step, again, next_round, result, round, are_rounds, do_form, row_do}
use Rattle.sch_expansion.specs.Outline.{row_form, outline, outline_name, call_of, outline_head, outline_datum}
use Rattle.sch_core.proofs.notions.Notions.{Notion, AllGood, IsKept, IsFit, AreFit}
use Rattle.sch_core.proofs.notions.FitSketches.{choice, texts_fits, quoted_fits, combination_fits, chain_fits, join_fits, quote_fits, if_fits, begin_fits, and_fits, or_fits, cond_fits, clauses_fits, case_fits, cases_fits, tests_fits}

module _ (globals : Globals) (n : Notion) (c : IsKept globals n) where
  -- ## Inits

  inits_fits : (bs : Data) (ks : Sketches) → AllGood n bs → AreFit n ks → AreFit n (inits bs ks)
  inits_fits (cons (list at (cons (atom q (symbol x)) (cons i none))) bs) ks g h =
      ((c.parts at (cons (atom q (symbol x)) (cons i none)) g.0).1.0, inits_fits bs ks g.1 h)
  inits_fits _ ks g h = h

  pub defined_fits : (at : ℕ) (xs : Data) → AllGood n xs → IsFit n (defined_sketch at xs)
  defined_fits at none g = tt
  defined_fits at (cons (atom p (symbol v)) none) g = tt
  defined_fits at (cons (atom p (symbol v)) (cons e none)) g = g.1.0
  defined_fits at (cons (atom p (symbol v)) (cons e (cons d ds))) g = tt
  defined_fits at (cons (atom p (boolean b)) es) g = tt
  defined_fits at (cons (atom p (integer z)) es) g = tt
  defined_fits at (cons (atom p (character k)) es) g = tt
  defined_fits at (cons (atom p (grammar.text bs)) es) g = tt
  defined_fits at (cons (list q fs) es) g = (g, tt)
  defined_fits at (cons (dotted q fs f) es) g = (g, tt)
  defined_fits at (cons (vector q fs) es) g = (g, tt)

  either : (b : Bool) (ks ls : Sketches) → AreFit n ks → AreFit n ls → AreFit n (cond b ks ls)
  either true ks ls h h' = h
  either false ks ls h h' = h'

  mutual
    definition_fits : (d : Datum) (ks : Sketches) → n.Good d → AreFit n ks → AreFit n (inits_in d ks)
    definition_fits (list at (cons (atom q (symbol w)) xs)) ks g h =
        let l = c.parts at (cons (atom q (symbol w)) xs) g in
        either (is_define_word (keyword_of w)) _ _ (defined_fits at xs l.1, h) (definitions_fits xs ks l.1 h)
    definition_fits _ ks g h = h

    definitions_fits : (ds : Data) (ks : Sketches) → AllGood n ds → AreFit n ks → AreFit n (inits_of_each ds ks)
    definitions_fits none ks g h = h
    definitions_fits (cons d ds) ks g h = definition_fits d _ g.0 (definitions_fits ds ks g.1 h)

  -- ## Bodies and procedures

  body_inits_fits : (s : Scope) (es : Data) (ks : Sketches) → AllGood n es → AreFit n ks → AreFit n (body_inits s es ks)
  body_inits_fits s none ks g h = h
  body_inits_fits s (cons d ds) ks g h = either (is_definition s d) _ _ (definition_fits d _ g.0 (body_inits_fits s ds ks g.1 h)) h

  expressions_quotable : (s : Scope) (es : Data) → AllGood n es → AllGood n (expressions s es)
  expressions_quotable s none g = tt
  expressions_quotable s (cons d ds) g = go (is_definition s d) (expressions_quotable s ds g.1)
    where
      go : (b : Bool) → AllGood n (expressions s ds) → AllGood n (cond b (expressions s ds) (cons d ds))
      go true r = r
      go false r = g

  body_fits : (s : Scope) (at : ℕ) (xs : Data) → AllGood n xs → IsFit n (row_body s at xs)
  body_fits s at none g = tt
  body_fits s at (cons e es) g =
      choice globals n c (is_definition s e) _ _ (body_inits_fits s (cons e es) _ g ((expressions_quotable s (cons e es) g, tt), tt)) (g, tt)

  procedure_fits : (s : Scope) (at : ℕ) (fs : Data) (f : Option Datum) (es : Data) → AllGood n es → IsFit n (procedure s at fs f es)
  procedure_fits s at fs f es g = choice globals n c (are_formals fs f && is_body (onto (formals fs f) s) es) _ _ ((g, tt), tt) tt

  lambda_fits : (s : Scope) (at : ℕ) (xs : Data) → AllGood n xs → IsFit n (row_lambda s at xs)
  lambda_fits s at none g = tt
  lambda_fits s at (cons f es) g = procedure_fits s at (listed f) (tail_of f) es g.1

  method_of_fits : (s : Scope) (at : ℕ) (xs : Data) (f : Option Datum) (es : Data) → AllGood n es → IsFit n (method s at xs f es)
  method_of_fits s at (cons (atom q (symbol v)) fs) f es g = procedure_fits s at fs f es g
  method_of_fits s at _ f es g = tt

  method_fits : (s : Scope) (at : ℕ) (xs : Data) → AllGood n xs → IsFit n (row_method s at xs)
  method_fits s at none g = tt
  method_fits s at (cons h es) g = method_of_fits s at (listed h) (tail_of h) es g.1

  -- ## Bindings

  named_fits : (s : Scope) (at : ℕ) (f : List ℕ) (xs : Data) → AllGood n xs → IsFit n (row_named s at f xs)
  named_fits s at f (cons (list q bs) es) g =
      choice globals n c (is_binding_form (Some f ∷ s) bs es) _ _ (((((g.1, tt), tt), (tt, tt)), inits_fits bs no_sketch (c.parts q bs g.0) tt)) tt
  named_fits s at f _ g = tt

  let_fits : (s : Scope) (at : ℕ) (xs : Data) → AllGood n xs → IsFit n (row_let s at xs)
  let_fits s at (cons (list q bs) es) g = choice globals n c (is_binding_form s bs es) _ _ (inits_fits bs (body at es) (c.parts q bs g.0) ((g.1, tt), tt)) tt
  let_fits s at (cons (atom q (symbol f)) xs) g = named_fits s at f xs g.1
  let_fits s at _ g = tt

  letrec_fits : (s : Scope) (at : ℕ) (xs : Data) → AllGood n xs → IsFit n (row_letrec s at xs)
  letrec_fits s at (cons (list q bs) es) g = choice globals n c (is_binding_form s bs es) _ _ (inits_fits bs _ (c.parts q bs g.0) ((g.1, tt), tt)) tt
  letrec_fits s at _ g = tt

  starred_fits : (at : ℕ) (bs es : Data) → AllGood n bs → AllGood n es → IsFit n (starred at bs es)
  starred_fits at none es g h = ((h, tt), tt)
  starred_fits at (cons b bs) es g h = (g, h)

  let_star_fits : (s : Scope) (at : ℕ) (xs : Data) → AllGood n xs → IsFit n (row_let_star s at xs)
  let_star_fits s at (cons (list q bs) es) g =
      choice globals n c (are_bindings bs && is_body (onto (bound bs) s) es) _ _ (starred_fits at bs es (c.parts q bs g.0) g.1) tt
  let_star_fits s at _ g = tt

  nest_fits : (outer at : ℕ) (bs es : Data) → AllGood n bs → AllGood n es → IsFit n (row_nest outer at bs es)
  nest_fits outer at (cons (list q (cons (atom p (symbol v)) (cons i none))) none) es g h =
      ((c.parts q (cons (atom p (symbol v)) (cons i none)) g.0).1.0, ((h, tt), tt))
  nest_fits outer at (cons (list q (cons (atom p (symbol v)) (cons i none))) (cons b bs)) es g h =
      ((c.parts q (cons (atom p (symbol v)) (cons i none)) g.0).1.0, ((g.1, h), tt))
  nest_fits outer at _ es g h = tt

  -- ## `do`

  starts_fits : (bs : Data) (ks : Sketches) → AllGood n bs → AreFit n ks → AreFit n (starts bs ks)
  starts_fits (cons (list p (cons (atom q (symbol x)) (cons i xs))) bs) ks g h =
      ((c.parts p (cons (atom q (symbol x)) (cons i xs)) g.0).1.0, starts_fits bs ks g.1 h)
  starts_fits _ ks g h = h

  step_fits : (at k : ℕ) (xs : Data) → AllGood n xs → IsFit n (step at k xs)
  step_fits at k none g = tt
  step_fits at k (cons s ss) g = g.0

  steps_fits : (at : ℕ) (bs : Data) (ks : Sketches) → AllGood n bs → AreFit n ks → AreFit n (steps at bs ks)
  steps_fits at (cons (list p (cons (atom q (symbol x)) (cons i xs))) bs) ks g h =
      (step_fits at (how_many bs) xs (c.parts p (cons (atom q (symbol x)) (cons i xs)) g.0).1.1, steps_fits at bs ks g.1 h)
  steps_fits at _ ks g h = h

  again_fits : (at : ℕ) (bs : Data) → AllGood n bs → IsFit n (again at bs)
  again_fits at bs g = (tt, steps_fits at bs no_sketch g tt)

  next_fits : (at : ℕ) (bs es : Data) → AllGood n bs → AllGood n es → IsFit n (next_round at bs es)
  next_fits at bs none g h = again_fits at bs g
  next_fits at bs (cons e es) g h = texts_fits globals n c (cons e es) _ h (again_fits at bs g, tt)

  result_fits : (at : ℕ) (rs : Data) → AllGood n rs → IsFit n (result at rs)
  result_fits at none g = c.nothing
  result_fits at (cons r rs) g = (g, tt)

  round_fits : (at : ℕ) (bs : Data) (a : Datum) (rs es : Data) → AllGood n bs → n.Good a → AllGood n rs → AllGood n es → IsFit n (round at bs a rs es)
  round_fits at bs a rs es g i h k = (i, (result_fits at rs h, (next_fits at bs es g k, tt)))

  do_form_fits : (at : ℕ) (bs : Data) (a : Datum) (rs es : Data) → AllGood n bs → n.Good a → AllGood n rs → AllGood n es → IsFit n (do_form at bs a rs es)
  do_form_fits at bs a rs es g i h k =
      choice globals n c (are_rounds bs) _ _ ((((round_fits at bs a rs es g i h k, tt), (tt, tt)), starts_fits bs no_sketch g tt)) tt

  do_fits : (at : ℕ) (xs : Data) → AllGood n xs → IsFit n (row_do at xs)
  do_fits at (cons (list p bs) (cons (list q (cons a rs)) es)) g =
      let l = c.parts q (cons a rs) g.1.0 in do_form_fits at bs a rs es (c.parts p bs g.0) l.0 l.1 g.1.1
  do_fits at _ g = tt

  -- ## Assignments and definitions

  assignment_fits : (v : Option ℕ) (w : Option Keyword) (g : Bool) (at q : ℕ) (x : List ℕ) (e : Datum) → n.Good e → is_among x globals.bound ≡ g → IsFit n (assignment v w g at q x e)
  assignment_fits (Some k) w g at q x e h i = (h, tt)
  assignment_fits None (Some w) g at q x e h i = tt
  assignment_fits None None true at q x e h i = (c.bound x i, (h, tt))
  assignment_fits None None false at q x e h i = (tt, (tt, (h, tt)))

  set_fits : (s : Scope) (at : ℕ) (xs : Data) → AllGood n xs → IsFit n (row_set globals s at xs)
  set_fits s at (cons (atom q (symbol x)) (cons e none)) g =
      assignment_fits (find s x) (keyword_of x) (is_among x globals.bound) at q x e g.1.0 refl
  set_fits s at none g = tt
  set_fits s at (cons v none) g = tt
  set_fits s at (cons v (cons e (cons d ds))) g = tt
  set_fits s at (cons (atom q (boolean b)) (cons e none)) g = tt
  set_fits s at (cons (atom q (integer z)) (cons e none)) g = tt
  set_fits s at (cons (atom q (character k)) (cons e none)) g = tt
  set_fits s at (cons (atom q (grammar.text t)) (cons e none)) g = tt
  set_fits s at (cons (list q ys) (cons e none)) g = tt
  set_fits s at (cons (dotted q ys y) (cons e none)) g = tt
  set_fits s at (cons (vector q ys) (cons e none)) g = tt

  definition_form_fits : (w : Option Keyword) (v : Option (List ℕ)) (at : ℕ) (xs : Data) → AllGood n xs → ((x : List ℕ) → v ≡ Some x → n.Global x) → IsFit n (definition w v at xs)
  definition_form_fits (Some k) v at xs g h = tt
  definition_form_fits None (Some v) at xs g h = (h v refl, (defined_fits at xs g, tt))
  definition_form_fits None None at xs g h = tt

  pub define_fits : (at : ℕ) (xs : Data) → AllGood n xs → ((x : List ℕ) → defined_name xs ≡ Some x → n.Global x) → IsFit n (row_define at xs)
  define_fits at xs g h = definition_form_fits (keyword_at (aimed_name xs)) (defined_name xs) at xs g h

  -- ## The table

  name_fits : (v : Option ℕ) (w : Option Keyword) (g : Bool) (at : ℕ) (x : List ℕ) → is_among x globals.bound ≡ g → IsFit n (outline_name v w g at x)
  name_fits (Some k) w g at x i = tt
  name_fits None (Some w) g at x i = tt
  name_fits None None true at x i = c.bound x i
  name_fits None None false at x i = tt

  call_fits : (at : ℕ) (f : Datum) (xs : Data) → n.Good f → AllGood n xs → IsFit n (call_of at f xs)
  call_fits at f xs i g = (i, texts_fits globals n c xs no_sketch g tt)

  head_fits : (h : Head) (at : ℕ) (f : Datum) (xs : Data) → n.Good f → AllGood n xs → IsFit n (outline_head h at f xs)
  head_fits (form k) at f xs i g = (g, tt)
  head_fits (operating o) at f xs i g = combination_fits globals n c o at xs g
  head_fits calling_head at f xs i g = call_fits at f xs i g

  call_parts : (at : ℕ) (f : Datum) (xs : Data) → n.Good (list at (cons f xs)) → IsFit n (call_of at f xs)
  call_parts at f xs g = let l = c.parts at (cons f xs) g in call_fits at f xs l.0 l.1

  pub datum_fits : (s : Scope) (d : Datum) → n.Good d → IsFit n (outline_datum globals s d)
  datum_fits s (atom at (symbol x)) g = name_fits (find s x) (keyword_of x) (is_among x globals.bound) at x refl
  datum_fits s (atom at (boolean b)) g = quoted_fits globals n c at (atom at (boolean b)) g
  datum_fits s (atom at (integer z)) g = quoted_fits globals n c at (atom at (integer z)) g
  datum_fits s (atom at (character k)) g = quoted_fits globals n c at (atom at (character k)) g
  datum_fits s (atom at (grammar.text bs)) g = quoted_fits globals n c at (atom at (grammar.text bs)) g
  datum_fits s (list at (cons (atom q (symbol x)) xs)) g =
      let l = c.parts at (cons (atom q (symbol x)) xs) g in
      head_fits (head_of globals s x (how_many xs)) at (atom q (symbol x)) xs l.0 l.1
  datum_fits s (list at (cons (atom q (boolean b)) xs)) g = call_parts at (atom q (boolean b)) xs g
  datum_fits s (list at (cons (atom q (integer z)) xs)) g = call_parts at (atom q (integer z)) xs g
  datum_fits s (list at (cons (atom q (character k)) xs)) g = call_parts at (atom q (character k)) xs g
  datum_fits s (list at (cons (atom q (grammar.text bs)) xs)) g = call_parts at (atom q (grammar.text bs)) xs g
  datum_fits s (list at (cons (list q ys) xs)) g = call_parts at (list q ys) xs g
  datum_fits s (list at (cons (dotted q ys y) xs)) g = call_parts at (dotted q ys y) xs g
  datum_fits s (list at (cons (vector q ys) xs)) g = call_parts at (vector q ys) xs g
  datum_fits s (list at none) g = tt
  datum_fits s (dotted at xs x) g = tt
  datum_fits s (vector at xs) g = tt

  form_fits : (k : Keyword) (s : Scope) (t : Position) (at : ℕ) (xs : Data) → AllGood n xs → IsFit n (row_form globals k s t at xs)
  form_fits Quote s t at xs g = quote_fits globals n c at xs g
  form_fits If s t at xs g = if_fits globals n c at xs g
  form_fits Begin s t at xs g = begin_fits globals n c at xs g
  form_fits And s t at xs g = and_fits globals n c at xs g
  form_fits Or s t at xs g = or_fits globals n c t at xs g
  form_fits Cond s t at xs g = cond_fits globals n c s at xs g
  form_fits Case s t at xs g = case_fits globals n c s at xs g
  form_fits Let s t at xs g = let_fits s at xs g
  form_fits LetStar s t at xs g = let_star_fits s at xs g
  form_fits Letrec s t at xs g = letrec_fits s at xs g
  form_fits Lambda s t at xs g = lambda_fits s at xs g
  form_fits Do s t at xs g = do_fits at xs g
  form_fits Set s t at xs g = set_fits s at xs g
  form_fits _ s t at xs g = tt

  pub rest_fits : (s : Scope) (t : Position) (r : Row) (at : ℕ) (xs ys : Data) → AllGood n xs → AllGood n ys → IsFit n (outline globals s t r at xs ys)
  rest_fits s t (Form k) at xs ys g h = form_fits k s t at xs g
  rest_fits s t Body at xs ys g h = body_fits s at xs g
  rest_fits s t Method at xs ys g h = method_fits s at xs g
  rest_fits s t (Nest outer) at xs ys g h = nest_fits outer at xs ys g h
  rest_fits s t Clauses at xs ys g h = clauses_fits globals n c s t at xs g
  rest_fits s t Cases at xs ys g h = cases_fits globals n c at xs g
  rest_fits s t Tests at xs ys g h = tests_fits globals n c at xs g
  rest_fits s t (Chain p) at xs ys g h = chain_fits globals n c p at xs g
  rest_fits s t (Join p k j) at xs ys g h = join_fits globals n c p k j at
