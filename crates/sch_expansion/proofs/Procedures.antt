-- What is a procedure by its form stays one, row by row.
use Rattle.std.proofs.Common.{◌≡◌, ◌&&◌, ℕ, Bool, true, false, cond, List, Option, Some, None, refl}
use Rattle.sch_read.specs.Grammar.{Datum, Data, atom, list, dotted, vector, none, cons, boolean, integer, character, symbol}
use Rattle.sch_read.specs.Grammar as grammar
use Rattle.sch_read.specs.Parts.{how_many}
use Rattle.sch_names.specs.declared.keyword.Keyword.{Keyword}
use Rattle.sch_names.specs.declared.keyword.Keyword.TheVariants.{Lambda}
use Rattle.sch_names.specs.declared.operation.Operation.{Operation}
use Rattle.sch_names.specs.Operations.{operation_of}
use Rattle.sch_names.specs.Words.{keyword_of}
use Rattle.sch_names.specs.Scope.{Scope, Globals, find, is_among, head, onto}
use Rattle.sch_sketch.specs.declared.sketch.Position.{Position}
use Rattle.sch_sketch.specs.declared.sketch.Row.{Row}
use Rattle.sch_sketch.specs.declared.sketch.Row.TheVariants.{Form, Body, Method, Nest, Clauses, Cases, Tests, Chain, Join}
use Rattle.sch_sketch.specs.FreeWords.{unless_bound, is_lambda_word, is_lambda}
use Rattle.sch_sketch.specs.Sketch.{Sketch}
use Rattle.sch_sketch.specs.Soundness.{is_procedure_row, is_procedure}
use Rattle.sch_sketch.specs.BodyHeads.{is_body}
use Rattle.sch_form_bodies.specs.Bodies.{procedure, row_lambda, method, row_method}
use Rattle.sch_sketch.specs.Formals.{formals, are_formals, listed, tail_of}
use Rattle.sch_expansion.specs.Outline.{outline, outline_head, outline_datum}

head_procedure : (v : Option ℕ) (own : Bool) (w : Option Keyword) (o : Option Operation) (s : Scope) (at q : ℕ) (x : List ℕ) (xs : Data) →
    is_lambda_word (unless_bound v w) ≡ true → is_procedure s (outline_head (head v own w o) at (atom q (symbol x)) xs) ≡ true
head_procedure (Some k) own w o s at q x xs e = cc
head_procedure None own None o s at q x xs e = cc
head_procedure None own (Some Lambda) o s at q x xs e = refl
head_procedure None own (Some k) o s at q x xs e = cc

either : (s : Scope) (b : Bool) (k k' : Sketch) → is_procedure s k ≡ true → is_procedure s k' ≡ true → is_procedure s (cond b k k') ≡ true
either s true k k' h h' = h
either s false k k' h h' = h'

module _ (globals : Globals) where
  pub datum_procedure : (s : Scope) (d : Datum) → is_lambda s d ≡ true → is_procedure s (outline_datum globals s d) ≡ true
  datum_procedure s (list at (cons (atom q (symbol x)) xs)) e =
      head_procedure (find s x) (is_among x globals.own) (keyword_of x) (operation_of globals.internal x (how_many xs)) s at q x xs e
  datum_procedure s (list at (cons (atom q (boolean b)) xs)) e = cc
  datum_procedure s (list at (cons (atom q (integer z)) xs)) e = cc
  datum_procedure s (list at (cons (atom q (character c)) xs)) e = cc
  datum_procedure s (list at (cons (atom q (grammar.text bs)) xs)) e = cc
  datum_procedure s (list at (cons (list q ys) xs)) e = cc
  datum_procedure s (list at (cons (dotted q ys y) xs)) e = cc
  datum_procedure s (list at (cons (vector q ys) xs)) e = cc
  datum_procedure s (list at none) e = cc
  datum_procedure s (atom at a) e = cc
  datum_procedure s (dotted at xs x) e = cc
  datum_procedure s (vector at xs) e = cc

  procedure_is : (s : Scope) (at : ℕ) (fs : Data) (f : Option Datum) (es : Data) → is_procedure s (procedure s at fs f es) ≡ true
  procedure_is s at fs f es = either s (are_formals fs f && is_body (onto (formals fs f) s) es) _ _ refl refl

  lambda_is : (s : Scope) (at : ℕ) (xs : Data) → is_procedure s (row_lambda s at xs) ≡ true
  lambda_is s at none = refl
  lambda_is s at (cons f es) = procedure_is s at (listed f) (tail_of f) es

  method_of : (s : Scope) (at : ℕ) (xs : Data) (f : Option Datum) (es : Data) → is_procedure s (method s at xs f es) ≡ true
  method_of s at (cons (atom q (symbol v)) fs) f es = procedure_is s at fs f es
  method_of s at _ f es = refl

  method_is : (s : Scope) (at : ℕ) (xs : Data) → is_procedure s (row_method s at xs) ≡ true
  method_is s at none = refl
  method_is s at (cons h es) = method_of s at (listed h) (tail_of h) es

  pub rest_procedure : (s : Scope) (t : Position) (r : Row) (at : ℕ) (xs ys : Data) → is_procedure_row r ≡ true → is_procedure s (outline globals s t r at xs ys) ≡ true
  rest_procedure s t (Form Lambda) at xs ys e = lambda_is s at xs
  rest_procedure s t (Form k) at xs ys e = cc
  rest_procedure s t Method at xs ys e = method_is s at xs
  rest_procedure s t Body at xs ys e = cc
  rest_procedure s t (Nest outer) at xs ys e = cc
  rest_procedure s t Clauses at xs ys e = cc
  rest_procedure s t Cases at xs ys e = cc
  rest_procedure s t Tests at xs ys e = cc
  rest_procedure s t (Chain p) at xs ys e = cc
  rest_procedure s t (Join p k j) at xs ys e = cc
