-- How much of a text is in small sketches.
use Rattle.std.proofs.Common.{◌≡◌, ◌≤◌, ◌<◌, ◌+◌, ◌*◌, ℕ, zero, suc, Bool, true, false, cond, arith}
use Rattle.sch_read.specs.Grammar.{Atom, Datum, Data, atom, list, dotted, vector, none, cons, boolean, integer, character, symbol as symbol_atom}
use Rattle.sch_read.specs.Grammar as grammar
use Rattle.sch_read.specs.Parts.{how_many}
use Rattle.sch_read.specs.Valid.{weight, weights}
use Rattle.sch_sketch.specs.declared.sketch.Position.{Position}
use Rattle.sch_sketch.specs.declared.sketch.Position.TheVariants.{Value, Test}
use Rattle.sch_sketch.specs.Draft.{Draft, constant, symbol, literal, local, global, set_local, set_global, define, branch, sequence, bind, letrec, lambda, call, operation}
use Rattle.sch_sketch.specs.Measure.{datum_measure, data_measure, literal_size, literal_sizes, leaf_measure, sketch_measure, sketches_measure}
use Rattle.sch_sketch.specs.Sketch.{Sketch, Sketches, but_one}
use Rattle.sch_sketch.specs.Small.{texts, quoted, either_of}

pub choice : (b : Bool) (k k' : Sketch) (r : ℕ) → sketch_measure k < r → sketch_measure k' < r → sketch_measure (cond b k k') < r
choice true k k' r h h' = h
choice false k k' r h h' = h'

pub some_measure : (d : Datum) → 8 ≤ datum_measure d
some_measure (atom at a) = omega arith
some_measure (list at xs) = omega arith
some_measure (dotted at xs x) = omega arith
some_measure (vector at xs) = omega arith

pub count_below : (xs : Data) → 16 * how_many xs ≤ data_measure xs
count_below none = omega arith
count_below (cons d ds) = omega (arith, count_below ds, some_measure d)

mutual
  pub literal_below : (d : Datum) → 4 * literal_size d ≤ datum_measure d
  literal_below (atom at (boolean b)) = omega arith
  literal_below (atom at (integer z)) = omega arith
  literal_below (atom at (character c)) = omega arith
  literal_below (atom at (grammar.text bs)) = omega arith
  literal_below (atom at (symbol_atom x)) = omega arith
  literal_below (list at xs) = omega (arith, literals_below xs)
  literal_below (dotted at xs x) = omega (arith, literals_below xs, literal_below x)
  literal_below (vector at xs) = omega (arith, literals_below xs)

  literals_below : (xs : Data) → 4 * literal_sizes xs ≤ data_measure xs
  literals_below none = omega arith
  literals_below (cons x xs) = omega (arith, literal_below x, literals_below xs)

pub quoted_atom_below : (at q : ℕ) (a : Atom) → sketch_measure (quoted at (atom q a)) < datum_measure (atom q a)
quoted_atom_below at q (boolean b) = omega arith
quoted_atom_below at q (integer z) = omega arith
quoted_atom_below at q (character c) = omega arith
quoted_atom_below at q (grammar.text bs) = omega arith
quoted_atom_below at q (symbol_atom x) = omega arith

pub quoted_below : (at : ℕ) (d : Datum) → sketch_measure (quoted at d) ≤ datum_measure d
quoted_below at (atom q a) = omega (arith, quoted_atom_below at q a)
quoted_below at (list q none) = omega arith
quoted_below at (list q (cons x xs)) = literal_below (list q (cons x xs))
quoted_below at (dotted q xs x) = literal_below (dotted q xs x)
quoted_below at (vector q xs) = literal_below (vector q xs)

pub texts_measure : (xs : Data) (ks : Sketches) → sketches_measure (texts xs ks) + 8 * how_many xs ≡ data_measure xs + sketches_measure ks
texts_measure none ks = omega arith
texts_measure (cons d ds) ks = omega (arith, texts_measure ds ks)

pub one_less : (n : ℕ) → but_one n ≤ n
one_less zero = omega arith
one_less (suc n) = omega arith

pub either_falls : (t : Position) (at : ℕ) (a k : Sketch) → sketch_measure (either_of t at a k) ≤ 5 + (sketch_measure a + sketch_measure k)
either_falls Value at a k = omega arith
either_falls Test at a k = omega arith

pub leaf_some : (e : Draft) → 1 ≤ leaf_measure e
leaf_some (constant c) = omega arith
leaf_some (symbol x) = omega arith
leaf_some (literal (atom at (boolean b))) = omega arith
leaf_some (literal (atom at (integer z))) = omega arith
leaf_some (literal (atom at (character c))) = omega arith
leaf_some (literal (atom at (grammar.text bs))) = omega arith
leaf_some (literal (atom at (symbol_atom x))) = omega arith
leaf_some (literal (list at xs)) = omega arith
leaf_some (literal (dotted at xs x)) = omega arith
leaf_some (literal (vector at xs)) = omega arith
leaf_some (local k) = omega arith
leaf_some (global x) = omega arith
leaf_some (set_local k e) = omega arith
leaf_some (set_global x e) = omega arith
leaf_some (define x e) = omega arith
leaf_some (branch a b c) = omega arith
leaf_some (sequence es) = omega arith
leaf_some (bind vs es e) = omega arith
leaf_some (letrec vs p es e) = omega arith
leaf_some (lambda n r e) = omega arith
leaf_some (call vs f es) = omega arith
leaf_some (operation p es) = omega arith

-- ## Against the weight of the text

mutual
  pub datum_weighs : (d : Datum) → datum_measure d + 8 ≤ 16 * weight d
  datum_weighs (atom at a) = omega arith
  datum_weighs (list at xs) = omega (arith, data_weigh xs)
  datum_weighs (dotted at xs x) = omega (arith, data_weigh xs, datum_weighs x)
  datum_weighs (vector at xs) = omega (arith, data_weigh xs)

  pub data_weigh : (xs : Data) → data_measure xs ≤ 16 * weights xs
  data_weigh none = omega arith
  data_weigh (cons x xs) = omega (arith, datum_weighs x, data_weigh xs)
