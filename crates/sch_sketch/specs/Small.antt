-- Small sketches, of which the rows are made.
use Rattle.std.specs.Prelude.{ℕ, Bool, true, [], ◌∷◌, None}
use Rattle.sch_word.specs.declared.constant.Const.TheVariants.{Fixnum, Character, Boolean, Nil}
use Rattle.sch_read.specs.Grammar.{Datum, Data, atom, list, none, cons, boolean, integer, character, symbol as symbol_atom}
use Rattle.sch_read.specs.Parts.{offset}
use Rattle.sch_sketch.specs.declared.sketch.Position.{Position}
use Rattle.sch_sketch.specs.declared.sketch.Position.TheVariants.{Value, Test}
use Rattle.sch_names.specs.Scope.{VariableNames}
use Rattle.sch_sketch.specs.Draft.{constant, symbol, literal, local}
use Rattle.sch_sketch.specs.Sketch.{Sketch, Sketches, text, leaf, node, no_sketch, and_sketch, choosing, binding}

abbrev pub one : Sketch → Sketches
one a = and_sketch a no_sketch

abbrev pub two : Sketch → Sketch → Sketches
two a b = and_sketch a (one b)

abbrev pub three : Sketch → Sketch → Sketch → Sketches
three a b c = and_sketch a (two b c)

abbrev pub truth : ℕ → Bool → Sketch
truth at b = leaf at (constant (Boolean b))

-- the data, and then others
abbrev pub texts : Data → Sketches → Sketches
texts none ks = ks
texts (cons d ds) ks = and_sketch (text d) (texts ds ks)

-- a variable that a rewriting adds, and one for each datum
abbrev pub fresh : VariableNames
fresh = None ∷ []

abbrev pub fresh_each : Data → VariableNames
fresh_each none = []
fresh_each (cons d ds) = None ∷ fresh_each ds

-- What a datum is that is quoted, at this place (R5RS 4.1.2): a constant, a symbol, or a literal.
abbrev pub quoted : ℕ → Datum → Sketch
quoted at (atom q (boolean b)) = truth at b
quoted at (atom q (integer z)) = leaf at (constant (Fixnum z))
quoted at (atom q (character c)) = leaf at (constant (Character c))
quoted at (atom q (symbol_atom x)) = leaf at (symbol x)
quoted at (list q none) = leaf at (constant Nil)
quoted at d = leaf at (literal d)

-- the place of a datum with which the rest begins, if there is one
abbrev pub place_of : ℕ → Data → ℕ
place_of at none = at
place_of at (cons d ds) = offset d

-- The value of the first, or what follows (R5RS 4.2.1). Where only the truth is asked for, no variable
-- is needed.
abbrev pub either_of : Position → ℕ → Sketch → Sketch → Sketch
either_of Value at a k = node (binding fresh) at (two a (node choosing at (three (leaf at (local 0)) (leaf at (local 0)) k)))
either_of Test at a k = node choosing at (three a (truth at true) k)
