-- What the values of the code stand for, in the grammar's words.
use Rattle.std.specs.Prelude.{ℕ, List, [], ◌∷◌, map, Some, None}
use Rattle.sch_read.specs.Grammar.{Data, atom, list, dotted, vector, none, cons, boolean, integer, character, text, symbol}
use Rattle.sch_read.specs.Grammar as grammar
use Rattle.sch_read.specs.declared.datum.Atom.{Atom}
use Rattle.sch_read.specs.declared.datum.Atom.TheVariants as atoms
use Rattle.sch_read.specs.declared.datum.Datum.{Datum, fold-Datum}
use Rattle.sch_read.specs.declared.datum.Node.TheOpen.{Node-F}

abbrev pub atom_of : Atom → grammar.Atom
atom_of (atoms.Boolean b) = boolean b
atom_of (atoms.Integer z) = integer z
atom_of (atoms.Character c) = character c
atom_of (atoms.Text bs) = text bs
atom_of (atoms.Symbol bs) = symbol bs

abbrev pub gather : List grammar.Datum → Data
gather [] = none
gather (d ∷ ds) = cons d (gather ds)

-- one level, at a place
abbrev pub node_view : {A : Type 0} → Node-F A grammar.Datum → ℕ → grammar.Datum
node_view (Node-F.Atom a) at = atom at (atom_of a)
node_view (Node-F.List ds None) at = list at (gather ds)
node_view (Node-F.List ds (Some last)) at = dotted at (gather ds) last.value
node_view (Node-F.Vector ds) at = vector at (gather ds)

-- the tree of a datum, and the trees of a list of data
abbrev pub tree_of : Datum → grammar.Datum
tree_of = fold-Datum (ℕ → grammar.Datum) grammar.Datum node_view (λ d. d.node d.at)

abbrev pub data_of : List Datum → Data
data_of ds = gather (map tree_of ds)
