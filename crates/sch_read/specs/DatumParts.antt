-- What a datum holds at its first level, and the trees of data as the program has them, whole or lent.
use Rattle.std.specs.Prelude.{List, [], ◌∷◌, ◌++◌, map}
use Rattle.std.specs.Borrow.{Bor}
use Rattle.sch_read.specs.Grammar.{Data, atom, list, dotted, vector, none, cons}
use Rattle.sch_read.specs.Grammar as grammar
use Rattle.sch_read.specs.Views.{tree_of}
use Rattle.sch_read.specs.declared.datum.Datum.{Datum}

-- data as a list has them
abbrev pub each_of : Data → List grammar.Datum
each_of none = []
each_of (cons d ds) = d ∷ each_of ds

-- what a datum holds, the datum after a dot last
abbrev pub parts : grammar.Datum → List grammar.Datum
parts (atom at a) = []
parts (list at ds) = each_of ds
parts (dotted at ds last) = each_of ds ++ last ∷ []
parts (vector at ds) = each_of ds

-- ## Those of the program's type

abbrev pub trees_of : List Datum → List grammar.Datum
trees_of ds = map tree_of ds

abbrev pub lent_tree : Bor Datum → grammar.Datum
lent_tree d = tree_of d.now

abbrev pub lent_trees : List (Bor Datum) → List grammar.Datum
lent_trees ds = map lent_tree ds
