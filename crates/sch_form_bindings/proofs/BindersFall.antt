-- The rows of bindings leave less text.
use Rattle.std.proofs.Common.{◌≤◌, ◌<◌, ◌+◌, ◌&&◌, ℕ, List, ◌∷◌, length, Some, arith}
use Rattle.sch_read.specs.Grammar.{Data, atom, list, none, cons, symbol}
use Rattle.sch_names.specs.Scope.{Scope, onto}
use Rattle.sch_sketch.specs.declared.sketch.Row.TheVariants.{Body}
use Rattle.sch_sketch.specs.Measure.{data_measure, sketch_measure, sketches_measure}
use Rattle.sch_sketch.specs.Sketch.{Sketches, rest, no_sketch}
use Rattle.sch_sketch.specs.Small.{one}
use Rattle.sch_sketch.proofs.SmallMeasures.{choice}
use Rattle.sch_sketch.specs.BodyHeads.{is_body, body}
use Rattle.sch_form_bindings.specs.Bindings.{bound, inits, are_bindings}
use Rattle.sch_form_bindings.specs.Binders.{is_binding_form, row_named, row_let, row_letrec, row_let_star, row_nest, starred}

inits_measure : (bs : Data) (ks : Sketches) → length (bound bs) + sketches_measure (inits bs ks) ≤ data_measure bs + sketches_measure ks
inits_measure (cons (list at (cons (atom q (symbol x)) (cons i none))) bs) ks = omega (arith, inits_measure bs ks)
inits_measure _ ks = omega arith

-- ## Bindings

named_falls : (s : Scope) (at : ℕ) (f : List ℕ) (xs : Data) → sketch_measure (row_named s at f xs) < data_measure xs + 4
named_falls s at f (cons (list q bs) es) = choice (is_binding_form (Some f ∷ s) bs es) _ _ _ (omega (arith, inits_measure bs no_sketch)) (omega arith)
named_falls s at f _ = omega arith

pub let_falls : (s : Scope) (at : ℕ) (xs : Data) → sketch_measure (row_let s at xs) < data_measure xs + 4
let_falls s at (cons (list q bs) es) = choice (is_binding_form s bs es) _ _ _ (omega (arith, inits_measure bs (body at es))) (omega arith)
let_falls s at (cons (atom q (symbol f)) xs) = omega (arith, named_falls s at f xs)
let_falls s at _ = omega arith

pub letrec_falls : (s : Scope) (at : ℕ) (xs : Data) → sketch_measure (row_letrec s at xs) < data_measure xs + 4
letrec_falls s at (cons (list q bs) es) =
    choice (is_binding_form s bs es) _ _ _ (omega (arith, inits_measure bs (one (rest Body at es none)))) (omega arith)
letrec_falls s at _ = omega arith

starred_falls : (at : ℕ) (bs es : Data) → sketch_measure (starred at bs es) < data_measure bs + data_measure es + 8
starred_falls at none es = omega arith
starred_falls at (cons b bs) es = omega arith

pub let_star_falls : (s : Scope) (at : ℕ) (xs : Data) → sketch_measure (row_let_star s at xs) < data_measure xs + 4
let_star_falls s at (cons (list q bs) es) =
    choice (are_bindings bs && is_body (onto (bound bs) s) es) _ _ _ (omega (arith, starred_falls at bs es)) (omega arith)
let_star_falls s at _ = omega arith

pub nest_falls : (outer at : ℕ) (bs es : Data) → sketch_measure (row_nest outer at bs es) < data_measure bs + data_measure es + 4
nest_falls outer at (cons (list q (cons (atom p (symbol v)) (cons i none))) none) es = omega arith
nest_falls outer at (cons (list q (cons (atom p (symbol v)) (cons i none))) (cons b bs)) es = omega arith
nest_falls outer at _ es = omega arith
