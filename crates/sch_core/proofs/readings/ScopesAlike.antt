-- What a row makes of a form hangs on which names a scope binds, and not on how near they are bound.
use Rattle.std.proofs.Common.{◌≡◌, ℕ, zero, Bool, true, false, cond, List, [], ◌∷◌, ◌++◌, Option, Some, None, refl, sym, ap, ◌∙◌}
use Rattle.std.specs.Prelude.{◌&&◌, not, is_some}
use Rattle.sch_read.specs.Grammar.{Datum, Data, atom, list, none, cons, symbol}
use Rattle.sch_names.specs.declared.keyword.Keyword.{Keyword}
use Rattle.sch_names.specs.declared.keyword.Keyword.TheVariants.{Begin}
use Rattle.sch_names.specs.Words.{keyword_of}
use Rattle.sch_names.specs.Scope.{Scope, find, farther, onto, is_named, VariableNames}
use Rattle.sch_sketch.specs.declared.fault.Fault.TheVariants.{BadForm}
use Rattle.sch_sketch.specs.declared.sketch.Position.{Position}
use Rattle.sch_sketch.specs.declared.sketch.Row.TheVariants.{Form, Body, Cases, Clauses}
use Rattle.sch_sketch.specs.Distinct.{are_distinct}
use Rattle.sch_sketch.specs.Formals.{listed, tail_of, formals, are_formals}
use Rattle.sch_sketch.specs.Sketch.{Sketch, Sketches, text, rest, wrong, node, no_sketch, and_sketch, binding, recurring, abstracting, calling}
use Rattle.sch_sketch.specs.Small.{one, two, fresh}
use Rattle.sch_sketch.specs.Soundness.{is_procedure, are_procedures}
use Rattle.sch_sketch.specs.FreeWords.{unless_bound, free_word, is_lambda, is_lambda_word}
use Rattle.sch_sketch.specs.Definitions.{defining, is_definition, are_definitions, names_in, inits_in}
use Rattle.sch_sketch.specs.BodyHeads.{body_names, body_inits, expressions, is_body, body}
use Rattle.sch_sketch.specs.Groups.{group}
use Rattle.sch_form_choices.specs.Choices.{is_else_word, is_arrow_word, is_else, is_arrow, is_some_data, is_clause, are_clauses, row_cond, receiver, other_clause, row_clauses}
use Rattle.sch_form_choices.specs.Cases.{is_case, are_cases, row_case}
use Rattle.sch_form_bodies.specs.Bodies.{defining_body, row_body, procedure, row_lambda, method, row_method}
use Rattle.sch_form_bindings.specs.Bindings.{bound, inits, are_bindings}
use Rattle.sch_form_bindings.specs.Binders.{is_binding_form, looping, row_named, row_let, letrec_form, row_letrec, starred, row_let_star}

-- the scopes bind the same names
pub record BindAlike (s s' : Scope) : Type 0 where
  pub alike : (x : List ℕ) → is_some (find s x) ≡ is_some (find s' x)

farther_some : (o : Option ℕ) → is_some (farther o) ≡ is_some o
farther_some (Some k) = refl
farther_some None = refl

nearer : {s s' : Scope} (v : Option (List ℕ)) → BindAlike s s' → BindAlike (v ∷ s) (v ∷ s')
nearer {s} {s'} v h = record { alike = λ x. go x (is_named x v) }
  where
    go : (x : List ℕ) (b : Bool) → is_some (cond b (Some zero) (farther (find s x))) ≡ is_some (cond b (Some zero) (farther (find s' x)))
    go x true = refl
    go x false = farther_some (find s x) ∙ h.alike x ∙ sym (farther_some (find s' x))

pub onto_alike : {s s' : Scope} (vs : VariableNames) → BindAlike s s' → BindAlike (onto vs s) (onto vs s')
onto_alike [] h = h
onto_alike (v ∷ vs) h = onto_alike vs (nearer v h)

-- a variable that a rewriting adds has no name
pub fresh_alike : {s s' : Scope} → BindAlike s s' → BindAlike s (onto fresh s')
fresh_alike {s} {s'} h = record { alike = λ x. h.alike x ∙ sym (farther_some (find s' x)) }

-- ## Words

defining_alike : (a b : Option ℕ) (w : Option Keyword) (p : Bool) → is_some a ≡ is_some b → defining a w p ≡ defining b w p
defining_alike (Some i) (Some j) w p e = refl
defining_alike (Some i) None w p e = absurd cc
defining_alike None (Some j) w p e = absurd cc
defining_alike None None w p e = refl

unless_alike : (a b : Option ℕ) (w : Option Keyword) → is_some a ≡ is_some b → unless_bound a w ≡ unless_bound b w
unless_alike (Some i) (Some j) w e = refl
unless_alike (Some i) None w e = absurd cc
unless_alike None (Some j) w e = absurd cc
unless_alike None None w e = refl

module _ {s s' : Scope} (h : BindAlike s s') where
  word_alike : (d : Datum) → free_word s d ≡ free_word s' d
  word_alike (atom q (symbol x)) = unless_alike (find s x) (find s' x) (keyword_of x) (h.alike x)
  word_alike _ = refl

  lambda_alike : (d : Datum) → is_lambda s d ≡ is_lambda s' d
  lambda_alike (list at (cons (atom q (symbol x)) xs)) = ap is_lambda_word (unless_alike (find s x) (find s' x) (keyword_of x) (h.alike x))
  lambda_alike _ = refl

  procedure_alike : (k : Sketch) → is_procedure s k ≡ is_procedure s' k
  procedure_alike (text d) = lambda_alike d
  procedure_alike _ = refl

  procedures_alike : (ks : Sketches) → are_procedures s ks ≡ are_procedures s' ks
  procedures_alike no_sketch = refl
  procedures_alike (and_sketch k ks) = λ i. procedure_alike k i && procedures_alike ks i

  -- ## Definitions

  mutual
    definition_alike : (d : Datum) → is_definition s d ≡ is_definition s' d
    definition_alike (list at (cons (atom q (symbol x)) xs)) =
        defining_alike (find s x) (find s' x) (keyword_of x) (are_definitions s xs) (h.alike x) ∙ ap (λ p. defining (find s' x) (keyword_of x) p) (definitions_alike xs)
    definition_alike _ = refl

    definitions_alike : (ds : Data) → are_definitions s ds ≡ are_definitions s' ds
    definitions_alike none = refl
    definitions_alike (cons d ds) = λ i. definition_alike d i && definitions_alike ds i

  names_alike : (ds : Data) → body_names s ds ≡ body_names s' ds
  names_alike none = refl
  names_alike (cons d ds) = λ i. cond (definition_alike d i) (names_in d ++ names_alike ds i) []

  inits_alike : (ds : Data) (ks : Sketches) → body_inits s ds ks ≡ body_inits s' ds ks
  inits_alike none ks = refl
  inits_alike (cons d ds) ks = λ i. cond (definition_alike d i) (inits_in d (inits_alike ds ks i)) ks

  expressions_alike : (ds : Data) → expressions s ds ≡ expressions s' ds
  expressions_alike none = refl
  expressions_alike (cons d ds) = λ i. cond (definition_alike d i) (expressions_alike ds i) (cons d ds)

  body_alike : (es : Data) → is_body s es ≡ is_body s' es
  body_alike es = λ i. not (definitions_alike es i) && are_distinct (names_alike es i)

  -- ## Clauses

  else_alike : (d : Datum) → is_else s d ≡ is_else s' d
  else_alike d = ap is_else_word (word_alike d)

  arrow_alike : (d : Datum) → is_arrow s d ≡ is_arrow s' d
  arrow_alike d = ap is_arrow_word (word_alike d)

  clause_alike : (d : Datum) (last : Bool) → is_clause s d last ≡ is_clause s' d last
  clause_alike (list q (cons a es)) last = λ i. cond (else_alike a i) (is_some_data es && last) true
  clause_alike _ last = refl

  clauses_alike : (cs : Data) → are_clauses s cs ≡ are_clauses s' cs
  clauses_alike none = refl
  clauses_alike (cons c cs) = λ i. clause_alike c (not (is_some_data cs)) i && clauses_alike cs i

  pub cond_alike : (at : ℕ) (xs : Data) → row_cond s at xs ≡ row_cond s' at xs
  cond_alike at none = refl
  cond_alike at (cons c cs) = λ i. cond (clauses_alike (cons c cs) i) (rest Clauses at (cons c cs) none) (wrong (BadForm at))

  receiver_alike : (es : Data) → receiver s es ≡ receiver s' es
  receiver_alike (cons b (cons f none)) = λ i. cond (arrow_alike b i) (Some f) None
  receiver_alike _ = refl

  pub remaining_alike : (t : Position) (at : ℕ) (xs : Data) → row_clauses s t at xs ≡ row_clauses s' t at xs
  remaining_alike t at (cons (list p (cons a es)) cs) =
      λ i. cond (else_alike a i) (rest (Form Begin) at es none) (other_clause t at a (receiver_alike es i) es cs)
  remaining_alike t at _ = refl

  case_clause_alike : (d : Datum) (last : Bool) → is_case s d last ≡ is_case s' d last
  case_clause_alike (list q (cons (list p ds) (cons e es))) last = refl
  case_clause_alike (list q (cons a (cons e es))) last = λ i. else_alike a i && last
  case_clause_alike _ last = refl

  case_clauses_alike : (cs : Data) → are_cases s cs ≡ are_cases s' cs
  case_clauses_alike none = refl
  case_clauses_alike (cons c cs) = λ i. case_clause_alike c (not (is_some_data cs)) i && case_clauses_alike cs i

  pub case_alike : (at : ℕ) (xs : Data) → row_case s at xs ≡ row_case s' at xs
  case_alike at (cons k (cons c cs)) =
      λ i. cond (case_clauses_alike (cons c cs) i) (node (binding fresh) at (two (text k) (rest Cases at (cons c cs) none))) (wrong (BadForm at))
  case_alike at _ = refl

-- ## Groups and bodies

module _ {s s' : Scope} (h : BindAlike s s') where
  group_alike : (vs : VariableNames) (at : ℕ) (is : Sketches → Sketches) (e : Sketch) → group s vs at is e ≡ group s' vs at is e
  group_alike vs at is e = λ i. node (recurring vs (procedures_alike (onto_alike vs h) (is no_sketch) i)) at (is (one e))

  defining_body_alike : (at : ℕ) (es : Data) → defining_body s at es ≡ defining_body s' at es
  defining_body_alike at es =
      group_alike (body_names s es) at (body_inits s es) (rest (Form Begin) at (expressions s es) none)
      ∙ (λ i. group s' (names_alike h es i) at (λ ks. inits_alike h es ks i) (rest (Form Begin) at (expressions_alike h es i) none))

  pub row_body_alike : (at : ℕ) (es : Data) → row_body s at es ≡ row_body s' at es
  row_body_alike at none = refl
  row_body_alike at (cons e es) = λ i. cond (definition_alike h e i) (defining_body_alike at (cons e es) i) (rest (Form Begin) at (cons e es) none)

  abstraction_alike : (at : ℕ) (fs : Data) (f : Option Datum) (es : Data) → procedure s at fs f es ≡ procedure s' at fs f es
  abstraction_alike at fs f es =
      λ i. cond (are_formals fs f && body_alike (onto_alike (formals fs f) h) es i) (node (abstracting (formals fs f) (is_some f)) at (body at es)) (wrong (BadForm at))

  pub row_lambda_alike : (at : ℕ) (xs : Data) → row_lambda s at xs ≡ row_lambda s' at xs
  row_lambda_alike at none = refl
  row_lambda_alike at (cons f es) = abstraction_alike at (listed f) (tail_of f) es

  method_alike : (at : ℕ) (fs : Data) (f : Option Datum) (es : Data) → method s at fs f es ≡ method s' at fs f es
  method_alike at (cons (atom q (symbol v)) fs) f es = abstraction_alike at fs f es
  method_alike at _ f es = refl

  pub row_method_alike : (at : ℕ) (xs : Data) → row_method s at xs ≡ row_method s' at xs
  row_method_alike at none = refl
  row_method_alike at (cons f es) = method_alike at (listed f) (tail_of f) es

-- ## Bindings

binding_form_alike : {s s' : Scope} → BindAlike s s' → (bs es : Data) → is_binding_form s bs es ≡ is_binding_form s' bs es
binding_form_alike h bs es = λ i. are_bindings bs && (are_distinct (bound bs) && body_alike (onto_alike (bound bs) h) es i)

module _ {s s' : Scope} (h : BindAlike s s') where
  named_alike : (at : ℕ) (f : List ℕ) (xs : Data) → row_named s at f xs ≡ row_named s' at f xs
  named_alike at f (cons (list q bs) es) =
      λ i. cond (binding_form_alike (nearer (Some f) h) bs es i) (node (calling (bound bs)) at (and_sketch (looping at f (bound bs) es) (inits bs no_sketch))) (wrong (BadForm at))
  named_alike at f _ = refl

  pub row_let_alike : (at : ℕ) (xs : Data) → row_let s at xs ≡ row_let s' at xs
  row_let_alike at (cons (list q bs) es) = λ i. cond (binding_form_alike h bs es i) (node (binding (bound bs)) at (inits bs (body at es))) (wrong (BadForm at))
  row_let_alike at (cons (atom q (symbol f)) xs) = named_alike at f xs
  row_let_alike at _ = refl

  letrec_form_alike : (at : ℕ) (bs es : Data) → letrec_form s at bs es ≡ letrec_form s' at bs es
  letrec_form_alike at bs es = λ i. cond (binding_form_alike h bs es i) (group_alike h (bound bs) at (inits bs) (rest Body at es none) i) (wrong (BadForm at))

  pub row_letrec_alike : (at : ℕ) (xs : Data) → row_letrec s at xs ≡ row_letrec s' at xs
  row_letrec_alike at (cons (list q bs) es) = letrec_form_alike at bs es
  row_letrec_alike at _ = refl

  pub row_let_star_alike : (at : ℕ) (xs : Data) → row_let_star s at xs ≡ row_let_star s' at xs
  row_let_star_alike at (cons (list q bs) es) = λ i. cond (are_bindings bs && body_alike (onto_alike (bound bs) h) es i) (starred at bs es) (wrong (BadForm at))
  row_let_star_alike at _ = refl
