-- The effort of letting data go falls.
use Rattle.std.proofs.Common.{◌≡◌, ◌+◌, ◌≤◌, ◌++◌, List, [], ◌∷◌, arith}
use Rattle.sch_read.specs.Valid.{weight, weights}
use Rattle.sch_read.specs.Views.{tree_of, data_of}
use Rattle.sch_read.specs.Grammar.{atom, list, dotted, vector}
use Rattle.sch_read.specs.Grammar as grammar
use Rattle.sch_read.specs.declared.datum.Datum.{Datum}

pub weights_push : (ds : List Datum) (d : Datum) → weights (data_of (ds ++ d ∷ [])) ≡ weights (data_of ds) + weight (tree_of d)
weights_push [] d = omega arith
weights_push (x ∷ ds) d = let e = weights_push ds d in omega (arith, e)

pub some_weight : (d : grammar.Datum) → 1 ≤ weight d
some_weight (atom at a) = omega arith
some_weight (list at xs) = omega arith
some_weight (dotted at xs last) = omega arith
some_weight (vector at xs) = omega arith
