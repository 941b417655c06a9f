-- The trees of lists of data, one after another.
use Rattle.std.proofs.Common.{◌≡◌, suc, List, [], ◌∷◌, ◌++◌, length, refl, ap}
use Rattle.sch_read.specs.Grammar.{join, cons, one}
use Rattle.sch_read.specs.Parts.{how_many}
use Rattle.sch_read.specs.Views.{tree_of, data_of}
use Rattle.sch_read.specs.declared.datum.Datum.{Datum}

pub data_of_append : (xs ys : List Datum) → data_of (xs ++ ys) ≡ join (data_of xs) (data_of ys)
data_of_append [] ys = refl
data_of_append (x ∷ xs) ys = ap (cons (tree_of x)) (data_of_append xs ys)

pub data_of_push : (xs : List Datum) (x : Datum) → data_of (xs ++ x ∷ []) ≡ join (data_of xs) (one (tree_of x))
data_of_push xs x = data_of_append xs (x ∷ [])

pub how_many_is : (xs : List Datum) → how_many (data_of xs) ≡ length xs
how_many_is [] = refl
how_many_is (x ∷ xs) = ap suc (how_many_is xs)
