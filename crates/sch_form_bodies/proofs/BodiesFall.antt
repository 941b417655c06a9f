-- The rows of bodies and procedures leave less text.
use Rattle.std.proofs.Common.{◌≤◌, ◌<◌, ◌+◌, ◌&&◌, ℕ, Bool, true, false, cond, length, length-append, Option, Some, arith}
use Rattle.sch_read.specs.Grammar.{Datum, Data, atom, list, dotted, vector, none, cons, boolean, integer, character, symbol}
use Rattle.sch_read.specs.Grammar as grammar
use Rattle.sch_names.specs.declared.keyword.Keyword.TheVariants.{Begin}
use Rattle.sch_names.specs.Words.{keyword_of}
use Rattle.sch_names.specs.Scope.{Scope, onto, VariableNames}
use Rattle.sch_sketch.specs.declared.sketch.Row.TheVariants.{Form}
use Rattle.sch_sketch.specs.Measure.{datum_measure, data_measure, sketch_measure, sketches_measure}
use Rattle.sch_sketch.specs.Sketch.{Sketches, rest}
use Rattle.sch_sketch.specs.Small.{one}
use Rattle.sch_sketch.proofs.SmallMeasures.{choice}
use Rattle.sch_sketch.specs.Formals.{listed, tail_of, symbols, rest_symbol, formals, are_formals}
use Rattle.sch_sketch.specs.Definitions.{is_definition, is_define_word, names_in, names_of_each, inits_in, inits_of_each}
use Rattle.sch_form_bodies.proofs.DefinitionsFall.{defined_falls}
use Rattle.sch_sketch.specs.BodyHeads.{body_names, body_inits, expressions, is_body}
use Rattle.sch_form_bodies.specs.Bodies.{row_body, procedure, row_lambda, method, row_method}

-- ## Bodies

either_measure : (b : Bool) (vs ws : VariableNames) (ks ls : Sketches) (r : ℕ) → length vs + sketches_measure ks ≤ r → length ws + sketches_measure ls ≤ r →
    length (cond b vs ws) + sketches_measure (cond b ks ls) ≤ r
either_measure true vs ws ks ls r h h' = h
either_measure false vs ws ks ls r h h' = h'

mutual
  definition_measure : (d : Datum) (ks : Sketches) → length (names_in d) + sketches_measure (inits_in d ks) ≤ datum_measure d + sketches_measure ks
  definition_measure (list at (cons (atom q (symbol w)) xs)) ks =
      either_measure (is_define_word (keyword_of w)) _ _ _ _ _ (omega (arith, defined_falls at xs)) (omega (arith, definitions_measure xs ks))
  definition_measure (list at none) ks = omega arith
  definition_measure (list at (cons (atom q (boolean b)) xs)) ks = omega arith
  definition_measure (list at (cons (atom q (integer z)) xs)) ks = omega arith
  definition_measure (list at (cons (atom q (character c)) xs)) ks = omega arith
  definition_measure (list at (cons (atom q (grammar.text bs)) xs)) ks = omega arith
  definition_measure (list at (cons (list q ys) xs)) ks = omega arith
  definition_measure (list at (cons (dotted q ys y) xs)) ks = omega arith
  definition_measure (list at (cons (vector q ys) xs)) ks = omega arith
  definition_measure (atom at a) ks = omega arith
  definition_measure (dotted at xs x) ks = omega arith
  definition_measure (vector at xs) ks = omega arith

  definitions_measure : (ds : Data) (ks : Sketches) → length (names_of_each ds) + sketches_measure (inits_of_each ds ks) ≤ data_measure ds + sketches_measure ks
  definitions_measure none ks = omega arith
  definitions_measure (cons d ds) ks =
      omega (arith, length-append (names_in d) (names_of_each ds), definition_measure d (inits_of_each ds ks), definitions_measure ds ks)

-- what the definitions of a body and the expressions after them take, together
abbrev head_measure : VariableNames → Sketches → Data → ℕ
head_measure vs ks es = length vs + sketches_measure ks + data_measure es

head_either : (b : Bool) (vs ws : VariableNames) (ks ls : Sketches) (es fs : Data) (r : ℕ) → head_measure vs ks es ≤ r → head_measure ws ls fs ≤ r →
    head_measure (cond b vs ws) (cond b ks ls) (cond b es fs) ≤ r
head_either true vs ws ks ls es fs r h h' = h
head_either false vs ws ks ls es fs r h h' = h'

body_measure : (s : Scope) (es : Data) (ks : Sketches) → head_measure (body_names s es) (body_inits s es ks) (expressions s es) ≤ data_measure es + sketches_measure ks
body_measure s none ks = omega arith
body_measure s (cons d ds) ks =
    head_either (is_definition s d) _ _ _ _ _ _ _
    (omega (arith, length-append (names_in d) (body_names s ds), definition_measure d (body_inits s ds ks), body_measure s ds ks)) (omega arith)

pub body_falls : (s : Scope) (at : ℕ) (xs : Data) → sketch_measure (row_body s at xs) < data_measure xs + 6
body_falls s at none = omega arith
body_falls s at (cons e es) =
    choice (is_definition s e) _ _ _ (omega (arith, body_measure s (cons e es) (one (rest (Form Begin) at (expressions s (cons e es)) none)))) (omega arith)

-- ## Procedures

symbols_below : (fs : Data) → length (symbols fs) ≤ data_measure fs
symbols_below (cons (atom q (symbol x)) xs) = omega (arith, symbols_below xs)
symbols_below _ = omega arith

rest_below : (f : Option Datum) → length (rest_symbol f) ≤ 1
rest_below (Some (atom q (symbol x))) = omega arith
rest_below _ = omega arith

listed_below : (d : Datum) → data_measure (listed d) + 8 ≤ datum_measure d
listed_below (atom at a) = omega arith
listed_below (list at xs) = omega arith
listed_below (dotted at xs x) = omega arith
listed_below (vector at xs) = omega arith

procedure_falls : (s : Scope) (at : ℕ) (fs : Data) (f : Option Datum) (es : Data) → sketch_measure (procedure s at fs f es) < data_measure fs + data_measure es + 9
procedure_falls s at fs f es =
    choice (are_formals fs f && is_body (onto (formals fs f) s) es) _ _ _
    (omega (arith, length-append (symbols fs) (rest_symbol f), symbols_below fs, rest_below f)) (omega arith)

pub lambda_falls : (s : Scope) (at : ℕ) (xs : Data) → sketch_measure (row_lambda s at xs) < data_measure xs + 4
lambda_falls s at none = omega arith
lambda_falls s at (cons f es) = omega (arith, procedure_falls s at (listed f) (tail_of f) es, listed_below f)

method_below : (s : Scope) (at : ℕ) (xs : Data) (f : Option Datum) (es : Data) → sketch_measure (method s at xs f es) < data_measure xs + data_measure es + 9
method_below s at (cons (atom q (symbol v)) fs) f es = omega (arith, procedure_falls s at fs f es)
method_below s at _ f es = omega arith

pub method_falls : (s : Scope) (at : ℕ) (xs : Data) → sketch_measure (row_method s at xs) < data_measure xs + 4
method_falls s at none = omega arith
method_falls s at (cons h es) = omega (arith, method_below s at (listed h) (tail_of h) es, listed_below h)
