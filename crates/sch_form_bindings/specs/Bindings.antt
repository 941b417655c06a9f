-- Lists of bindings (R5RS 4.2.2).
use Rattle.std.specs.Prelude.{Bool, true, false, [], ◌∷◌, Some}
use Rattle.sch_read.specs.Grammar.{Datum, Data, atom, list, none, cons, symbol}
use Rattle.sch_names.specs.Scope.{VariableNames}
use Rattle.sch_sketch.specs.Sketch.{Sketches, text, and_sketch}

-- the first datum of a list that has one
abbrev pub first : Datum → Datum
first (list at (cons x xs)) = x
first d = d

-- not of the shape `(v i)`
abbrev pub IsNoBinding : Datum → Type 0
IsNoBinding (list at (cons (atom q (symbol x)) (cons i none))) = ⊥
IsNoBinding _ = Unit {0}

-- the variables of `((v i)..)`, and its inits and then others
abbrev pub bound : Data → VariableNames
bound (cons (list at (cons (atom q (symbol x)) (cons i none))) bs) = Some x ∷ bound bs
bound _ = []

abbrev pub inits : Data → Sketches → Sketches
inits (cons (list at (cons (atom q (symbol x)) (cons i none))) bs) ks = and_sketch (text i) (inits bs ks)
inits _ ks = ks

abbrev pub are_bindings : Data → Bool
are_bindings none = true
are_bindings (cons (list at (cons (atom q (symbol x)) (cons i none))) bs) = are_bindings bs
are_bindings _ = false
