-- Data are visited, each before its parts.
use Rattle.std.proofs.Common.{◌≡◌, ◌+◌, ◌<◌, ◌≤◌, ◌++◌, List, [], ◌∷◌, refl, sym, ap, ◌∙◌, arith}
use Rattle.std.proofs.lemmas.List.{map-append, append_assoc}
use Rattle.sch_read.specs.Grammar.{Data, atom, list, dotted, vector, none, cons}
use Rattle.sch_read.specs.Grammar as grammar
use Rattle.sch_read.specs.DatumParts.{each_of, parts, trees_of}
use Rattle.sch_read.specs.Valid.{weight, weights}
use Rattle.sch_read.specs.Views.{gather, tree_of, data_of}
use Rattle.sch_read.specs.declared.datum.Datum.{Datum}

pub each_gathered : (ds : List grammar.Datum) → each_of (gather ds) ≡ ds
each_gathered [] = refl
each_gathered (d ∷ ds) = ap (λ l. d ∷ l) (each_gathered ds)

weights_each : (ds : Data) → weights (gather (each_of ds)) ≡ weights ds
weights_each none = refl
weights_each (cons d ds) = ap (λ n. weight d + n) (weights_each ds)

-- how much data of two lists weigh together
pub weights_append : (xs ys : List grammar.Datum) → weights (gather (xs ++ ys)) ≡ weights (gather xs) + weights (gather ys)
weights_append [] ys = omega arith
weights_append (x ∷ xs) ys = omega (arith, weights_append xs ys)

parts_weight : (d : grammar.Datum) → weights (gather (parts d)) + 1 ≤ weight d
parts_weight (atom at a) = omega arith
parts_weight (list at ds) = omega (arith, weights_each ds)
parts_weight (dotted at ds last) = omega (arith, weights_append (each_of ds) (last ∷ []), weights_each ds)
parts_weight (vector at ds) = omega (arith, weights_each ds)

-- a datum is visited, and its parts are left to visit
pub less_left : (d : grammar.Datum) (before after others : List grammar.Datum) → before ≡ d ∷ others → after ≡ parts d ++ others → weights (gather after) < weights (gather before)
less_left d before after others b a =
    let p = ap (λ ds. weights (gather ds)) b in
    let q = ap (λ ds. weights (gather ds)) a in
    omega (arith, p, q, weights_append (parts d) others, parts_weight d)

-- ## Parts

pub entered : (ds second rest : List Datum) → second ≡ ds ++ rest → trees_of second ≡ each_of (data_of ds) ++ trees_of rest
entered ds second rest s = ap trees_of s ∙ map-append tree_of ds rest ∙ ap (λ l. l ++ trees_of rest) (sym (each_gathered (trees_of ds)))

pub both_entered : (ds first second : List Datum) (last : Datum) (rest : List grammar.Datum) → trees_of first ≡ tree_of last ∷ rest → second ≡ ds ++ first
    → trees_of second ≡ (each_of (data_of ds) ++ tree_of last ∷ []) ++ rest
both_entered ds first second last rest f s =
    entered ds second first s ∙ ap (λ l. each_of (data_of ds) ++ l) f ∙ sym (append_assoc (each_of (data_of ds)) (tree_of last ∷ []) rest)

-- ## Rows: the parts of data

module _ (a b c : grammar.Datum) where
  dotted_parts : parts (dotted 1 (cons a (cons b none)) c) ≡ a ∷ b ∷ c ∷ []
  dotted_parts = refl

  vector_parts : parts (vector 1 (cons a (cons b none))) ≡ a ∷ b ∷ []
  vector_parts = refl

  list_parts : parts (list 1 (cons a none)) ≡ a ∷ []
  list_parts = refl
