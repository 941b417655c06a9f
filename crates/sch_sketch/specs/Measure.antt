-- How much of a text is in a sketch. It falls with each row of the table, so that a walk ends; and no
-- draft of a sketch has more nodes and bound variables. Four times what the symbols and literals of a
-- draft take is in it too.
use Rattle.std.specs.Prelude.{ℕ, zero, ◌+◌, ◌*◌, length}
use Rattle.sch_read.specs.Grammar.{Datum, Data, atom, list, dotted, vector, none, cons, symbol as symbol_atom}
use Rattle.sch_read.specs.Parts.{how_many}
use Rattle.sch_read.specs.Valid.{bytes_in}
use Rattle.sch_sketch.specs.declared.sketch.Row.{Row}
use Rattle.sch_sketch.specs.declared.sketch.Row.TheVariants.{Form, Body, Method, Nest, Clauses, Cases, Tests, Chain, Join}
use Rattle.sch_sketch.specs.Draft.{Draft, symbol, literal, global}
use Rattle.sch_sketch.specs.Sketch.{Sketch, Sketches, text, rest, wrong, leaf, node, limited, no_sketch, and_sketch, bound_by}

-- Each datum of a list has eight for the nodes that a row makes of it, and each byte of a name or a text
-- has sixteen.
abbrev mutual
  pub datum_measure : Datum → ℕ
  datum_measure (atom at a) = 8 + 16 * bytes_in a
  datum_measure (list at xs) = 8 + data_measure xs
  datum_measure (dotted at xs x) = 8 + (data_measure xs + (datum_measure x + 8))
  datum_measure (vector at xs) = 8 + data_measure xs

  pub data_measure : Data → ℕ
  data_measure none = zero
  data_measure (cons x xs) = datum_measure x + 8 + data_measure xs

abbrev pub row_measure : Row → Data → Data → ℕ
row_measure (Form k) xs ys = data_measure xs + 4
row_measure Body xs ys = data_measure xs + 6
row_measure Method xs ys = data_measure xs + 4
row_measure (Nest outer) xs ys = data_measure xs + data_measure ys + 4
row_measure Clauses xs ys = data_measure xs + 2
row_measure Cases xs ys = data_measure xs + 2
row_measure Tests xs ys = data_measure xs + 2
row_measure (Chain p) xs ys = 6 * how_many xs + 2
row_measure (Join p k j) xs ys = 3 * k + 2

-- The nodes and bytes of a literal (R5RS 4.1.2). A symbol in it is a node, and has a name; a list without
-- a dot ends with the empty one.
abbrev mutual
  pub literal_size : Datum → ℕ
  literal_size (atom at (symbol_atom x)) = 2 + length x
  literal_size (atom at a) = 1 + bytes_in a
  literal_size (list at xs) = 2 + literal_sizes xs
  literal_size (dotted at xs x) = 1 + (literal_sizes xs + literal_size x)
  literal_size (vector at xs) = 1 + literal_sizes xs

  pub literal_sizes : Data → ℕ
  literal_sizes none = zero
  literal_sizes (cons x xs) = literal_size x + literal_sizes xs

-- a global has seven for its name
abbrev pub leaf_measure : Draft → ℕ
leaf_measure (global x) = 7
leaf_measure (symbol x) = 4 * (1 + length x)
leaf_measure (literal d) = 4 * literal_size d
leaf_measure _ = 1

abbrev mutual
  pub sketch_measure : Sketch → ℕ
  sketch_measure (text d) = datum_measure d
  sketch_measure (rest r at xs ys) = row_measure r xs ys
  sketch_measure (wrong f) = 1
  sketch_measure (leaf at e) = leaf_measure e
  sketch_measure (node k at ks) = 1 + (bound_by k + sketches_measure ks)
  sketch_measure (limited at count k) = 1 + sketch_measure k

  pub sketches_measure : Sketches → ℕ
  sketches_measure no_sketch = zero
  sketches_measure (and_sketch k ks) = sketch_measure k + sketches_measure ks
