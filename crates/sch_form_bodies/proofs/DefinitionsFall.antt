-- The rows of assignments and definitions leave less text.
use Rattle.std.proofs.Common.{◌≤◌, ◌<◌, ◌+◌, ℕ, Bool, true, false, List, Option, Some, None, arith}
use Rattle.sch_read.specs.Grammar.{Datum, Data, atom, list, dotted, vector, none, cons, boolean, integer, character, symbol}
use Rattle.sch_read.specs.Grammar as grammar
use Rattle.sch_names.specs.declared.keyword.Keyword.{Keyword}
use Rattle.sch_names.specs.Words.{keyword_of}
use Rattle.sch_names.specs.Scope.{Scope, Globals, find, is_among}
use Rattle.sch_sketch.specs.Measure.{datum_measure, data_measure, sketch_measure}
use Rattle.sch_sketch.proofs.SmallMeasures.{some_measure}
use Rattle.sch_sketch.specs.Definitions.{defined_name, defined_sketch}
use Rattle.sch_form_bodies.specs.Assignments.{assignment, assigning, row_set, definition, aimed_name, keyword_at, row_define}

pub defined_falls : (at : ℕ) (xs : Data) → sketch_measure (defined_sketch at xs) ≤ data_measure xs + 4
defined_falls at none = omega arith
defined_falls at (cons (atom p (symbol v)) none) = omega arith
defined_falls at (cons (atom p (symbol v)) (cons e none)) = omega arith
defined_falls at (cons (atom p (symbol v)) (cons e (cons d ds))) = omega arith
defined_falls at (cons (atom p (boolean b)) es) = omega arith
defined_falls at (cons (atom p (integer z)) es) = omega arith
defined_falls at (cons (atom p (character c)) es) = omega arith
defined_falls at (cons (atom p (grammar.text bs)) es) = omega arith
defined_falls at (cons (list q fs) es) = omega arith
defined_falls at (cons (dotted q fs f) es) = omega arith
defined_falls at (cons (vector q fs) es) = omega arith

-- ## Assignments

assignment_falls : (v : Option ℕ) (w : Option Keyword) (g : Bool) (at q : ℕ) (x : List ℕ) (e : Datum) → sketch_measure (assignment v w g at q x e) ≤ datum_measure e + 2
assignment_falls (Some k) w g at q x e = omega arith
assignment_falls None (Some w) g at q x e = omega (arith, some_measure e)
assignment_falls None None true at q x e = omega arith
assignment_falls None None false at q x e = omega arith

assigning_falls : (g : Globals) (s : Scope) (at : ℕ) (v e : Datum) → sketch_measure (assigning g s at v e) ≤ datum_measure e + 2
assigning_falls g s at (atom q (symbol x)) e = assignment_falls (find s x) (keyword_of x) (is_among x g.bound) at q x e
assigning_falls g s at (atom q (boolean b)) e = omega arith
assigning_falls g s at (atom q (integer z)) e = omega arith
assigning_falls g s at (atom q (character c)) e = omega arith
assigning_falls g s at (atom q (grammar.text bs)) e = omega arith
assigning_falls g s at (list q xs) e = omega arith
assigning_falls g s at (dotted q xs x) e = omega arith
assigning_falls g s at (vector q xs) e = omega arith

pub set_falls : (g : Globals) (s : Scope) (at : ℕ) (xs : Data) → sketch_measure (row_set g s at xs) < data_measure xs + 4
set_falls g s at (cons v (cons e none)) = omega (arith, assigning_falls g s at v e)
set_falls g s at none = omega arith
set_falls g s at (cons v none) = omega arith
set_falls g s at (cons v (cons e (cons d ds))) = omega arith

definition_falls : (w : Option Keyword) (v : Option (List ℕ)) (at : ℕ) (xs : Data) → sketch_measure (definition w v at xs) ≤ data_measure xs + 5
definition_falls (Some k) v at xs = omega arith
definition_falls None (Some v) at xs = omega (arith, defined_falls at xs)
definition_falls None None at xs = omega arith

pub define_falls : (at : ℕ) (xs : Data) → sketch_measure (row_define at xs) ≤ data_measure xs + 5
define_falls at xs = definition_falls (keyword_at (aimed_name xs)) (defined_name xs) at xs
