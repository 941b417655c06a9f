-- The rows of assignments and definitions make sound sketches.
use Rattle.std.proofs.Common.{◌≡◌, ℕ, Bool, true, false, List, Option, Some, None, refl, arith}
use Rattle.sch_read.specs.Grammar.{Datum, Data, atom, list, dotted, vector, none, cons, boolean, integer, character, symbol}
use Rattle.sch_read.specs.Grammar as grammar
use Rattle.sch_names.specs.declared.keyword.Keyword.{Keyword}
use Rattle.sch_names.specs.Words.{keyword_of}
use Rattle.sch_names.specs.Scope.{Scope, Globals, find, is_among}
use Rattle.sch_sketch.specs.Soundness.{IsSound}
use Rattle.sch_sketch.proofs.SmallSound.{found}
use Rattle.sch_sketch.specs.Definitions.{defined_name, defined_sketch}
use Rattle.sch_form_bodies.specs.Assignments.{assignment, row_set, definition, aimed_name, keyword_at, row_define}

pub defined_sound : (s : Scope) (at : ℕ) (xs : Data) → IsSound s (defined_sketch at xs)
defined_sound s at none = tt
defined_sound s at (cons (atom p (symbol v)) none) = tt
defined_sound s at (cons (atom p (symbol v)) (cons e none)) = tt
defined_sound s at (cons (atom p (symbol v)) (cons e (cons d ds))) = tt
defined_sound s at (cons (atom p (boolean b)) es) = tt
defined_sound s at (cons (atom p (integer z)) es) = tt
defined_sound s at (cons (atom p (character c)) es) = tt
defined_sound s at (cons (atom p (grammar.text bs)) es) = tt
defined_sound s at (cons (list q fs) es) = tt
defined_sound s at (cons (dotted q fs f) es) = tt
defined_sound s at (cons (vector q fs) es) = tt

-- ## Assignments

assignment_sound : (s : Scope) (v : Option ℕ) (w : Option Keyword) (g : Bool) (at q : ℕ) (x : List ℕ) (e : Datum) → find s x ≡ v → IsSound s (assignment v w g at q x e)
assignment_sound s (Some k) w g at q x e h = (refl, (found s x k h, (tt, tt)))
assignment_sound s None (Some w) g at q x e h = tt
assignment_sound s None None true at q x e h = (omega arith, (tt, (tt, tt)))
assignment_sound s None None false at q x e h = (omega arith, (tt, (tt, (tt, tt))))

pub set_sound : (g : Globals) (s : Scope) (at : ℕ) (xs : Data) → IsSound s (row_set g s at xs)
set_sound g s at (cons (atom q (symbol x)) (cons e none)) = assignment_sound s (find s x) (keyword_of x) (is_among x g.bound) at q x e refl
set_sound g s at none = tt
set_sound g s at (cons v none) = tt
set_sound g s at (cons v (cons e (cons d ds))) = tt
set_sound g s at (cons (atom q (boolean b)) (cons e none)) = tt
set_sound g s at (cons (atom q (integer z)) (cons e none)) = tt
set_sound g s at (cons (atom q (character c)) (cons e none)) = tt
set_sound g s at (cons (atom q (grammar.text t)) (cons e none)) = tt
set_sound g s at (cons (list q ys) (cons e none)) = tt
set_sound g s at (cons (dotted q ys y) (cons e none)) = tt
set_sound g s at (cons (vector q ys) (cons e none)) = tt

definition_sound : (s : Scope) (w : Option Keyword) (v : Option (List ℕ)) (at : ℕ) (xs : Data) → IsSound s (definition w v at xs)
definition_sound s (Some k) v at xs = tt
definition_sound s None (Some v) at xs = (refl, (tt, (defined_sound s at xs, tt)))
definition_sound s None None at xs = tt

pub define_sound : (s : Scope) (at : ℕ) (xs : Data) → IsSound s (row_define at xs)
define_sound s at xs = definition_sound s (keyword_at (aimed_name xs)) (defined_name xs) at xs
