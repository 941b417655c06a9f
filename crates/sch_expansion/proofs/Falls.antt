-- Each row of the table leaves less text.
use Rattle.std.proofs.Common.{◌≤◌, ◌<◌, ◌+◌, ℕ, Bool, true, false, List, Option, Some, None, arith}
use Rattle.sch_read.specs.Grammar.{Datum, Data, atom, list, dotted, vector, none, cons, boolean, integer, character, symbol}
use Rattle.sch_read.specs.Grammar as grammar
use Rattle.sch_read.specs.Parts.{how_many}
use Rattle.sch_names.specs.declared.keyword.Keyword.{Keyword}
use Rattle.sch_names.specs.declared.keyword.Keyword.TheVariants.{Quote, Lambda, If, Set, Cond, Case, And, Or, Let, LetStar, Letrec, Begin, Do}
use Rattle.sch_names.specs.Words.{keyword_of}
use Rattle.sch_names.specs.Scope.{Scope, Globals, Head, form, operating, calling, find, is_among, head_of}
use Rattle.sch_sketch.specs.declared.sketch.Position.{Position}
use Rattle.sch_sketch.specs.declared.sketch.Row.{Row}
use Rattle.sch_sketch.specs.declared.sketch.Row.TheVariants.{Form, Body, Method, Nest, Clauses, Cases, Tests, Chain, Join}
use Rattle.sch_sketch.specs.Measure.{datum_measure, data_measure, row_measure, sketch_measure}
use Rattle.sch_sketch.specs.Sketch.{no_sketch}
use Rattle.sch_sketch.proofs.SmallMeasures.{texts_measure, quoted_atom_below}
use Rattle.sch_form_choices.proofs.RowsFall.{combination_falls, chain_falls, join_falls, quote_falls, if_falls, begin_falls, and_falls, or_falls, cond_falls, clauses_fall, case_falls, cases_fall, tests_fall}
use Rattle.sch_form_bodies.proofs.DefinitionsFall.{set_falls}
use Rattle.sch_form_bodies.proofs.BodiesFall.{body_falls, lambda_falls, method_falls}
use Rattle.sch_form_bindings.proofs.BindersFall.{let_falls, letrec_falls, let_star_falls, nest_falls}
use Rattle.sch_form_bindings.proofs.LoopsFall.{do_falls}
use Rattle.sch_expansion.specs.Outline.{row_form, outline, outline_name, call_of, outline_head, outline_datum}

-- ## Data

name_falls : (v : Option ℕ) (w : Option Keyword) (g : Bool) (at : ℕ) (x : List ℕ) → sketch_measure (outline_name v w g at x) ≤ 7
name_falls (Some k) w g at x = omega arith
name_falls None (Some w) g at x = omega arith
name_falls None None true at x = omega arith
name_falls None None false at x = omega arith

call_falls : (at : ℕ) (f : Datum) (xs : Data) → sketch_measure (call_of at f xs) < datum_measure f + data_measure xs + 16
call_falls at f xs = omega (arith, texts_measure xs no_sketch)

head_falls : (h : Head) (at q : ℕ) (x : List ℕ) (xs : Data) → sketch_measure (outline_head h at (atom q (symbol x)) xs) < datum_measure (atom q (symbol x)) + data_measure xs + 16
head_falls (form k) at q x xs = omega arith
head_falls (operating o) at q x xs = omega (arith, combination_falls o at xs)
head_falls calling at q x xs = call_falls at (atom q (symbol x)) xs

module _ (globals : Globals) where
  pub datum_falls : (s : Scope) (d : Datum) → sketch_measure (outline_datum globals s d) < datum_measure d
  datum_falls s (atom at (symbol x)) = omega (arith, name_falls (find s x) (keyword_of x) (is_among x globals.bound) at x)
  datum_falls s (atom at (boolean b)) = quoted_atom_below at at (boolean b)
  datum_falls s (atom at (integer z)) = quoted_atom_below at at (integer z)
  datum_falls s (atom at (character c)) = quoted_atom_below at at (character c)
  datum_falls s (atom at (grammar.text bs)) = quoted_atom_below at at (grammar.text bs)
  datum_falls s (list at (cons (atom q (symbol x)) xs)) = omega (arith, head_falls (head_of globals s x (how_many xs)) at q x xs)
  datum_falls s (list at (cons (atom q (boolean b)) xs)) = omega (arith, call_falls at (atom q (boolean b)) xs)
  datum_falls s (list at (cons (atom q (integer z)) xs)) = omega (arith, call_falls at (atom q (integer z)) xs)
  datum_falls s (list at (cons (atom q (character c)) xs)) = omega (arith, call_falls at (atom q (character c)) xs)
  datum_falls s (list at (cons (atom q (grammar.text bs)) xs)) = omega (arith, call_falls at (atom q (grammar.text bs)) xs)
  datum_falls s (list at (cons (list q ys) xs)) = omega (arith, call_falls at (list q ys) xs)
  datum_falls s (list at (cons (dotted q ys y) xs)) = omega (arith, call_falls at (dotted q ys y) xs)
  datum_falls s (list at (cons (vector q ys) xs)) = omega (arith, call_falls at (vector q ys) xs)
  datum_falls s (list at none) = omega arith
  datum_falls s (dotted at xs x) = omega arith
  datum_falls s (vector at xs) = omega arith

  -- ## Rows

  form_falls : (k : Keyword) (s : Scope) (t : Position) (at : ℕ) (xs : Data) → sketch_measure (row_form globals k s t at xs) < data_measure xs + 4
  form_falls Quote s t at xs = quote_falls at xs
  form_falls If s t at xs = if_falls at xs
  form_falls Begin s t at xs = begin_falls at xs
  form_falls And s t at xs = and_falls at xs
  form_falls Or s t at xs = or_falls t at xs
  form_falls Cond s t at xs = cond_falls s at xs
  form_falls Case s t at xs = case_falls s at xs
  form_falls Let s t at xs = let_falls s at xs
  form_falls LetStar s t at xs = let_star_falls s at xs
  form_falls Letrec s t at xs = letrec_falls s at xs
  form_falls Lambda s t at xs = lambda_falls s at xs
  form_falls Do s t at xs = do_falls at xs
  form_falls Set s t at xs = set_falls globals s at xs
  form_falls _ s t at xs = omega arith

  pub rest_falls : (s : Scope) (t : Position) (r : Row) (at : ℕ) (xs ys : Data) → sketch_measure (outline globals s t r at xs ys) < row_measure r xs ys
  rest_falls s t (Form k) at xs ys = form_falls k s t at xs
  rest_falls s t Body at xs ys = body_falls s at xs
  rest_falls s t Method at xs ys = method_falls s at xs
  rest_falls s t (Nest outer) at xs ys = nest_falls outer at xs ys
  rest_falls s t Clauses at xs ys = clauses_fall s t at xs
  rest_falls s t Cases at xs ys = cases_fall at xs
  rest_falls s t Tests at xs ys = tests_fall at xs
  rest_falls s t (Chain p) at xs ys = chain_falls p at xs
  rest_falls s t (Join p k j) at xs ys = join_falls p k j at
