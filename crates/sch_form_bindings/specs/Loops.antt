-- The row of `do` (R5RS 4.2.4): a call of a procedure without a name, over the variables' inits.
use Rattle.std.specs.Prelude.{ℕ, Bool, true, false, cond, ◌&&◌, [], ◌∷◌, Some}
use Rattle.sch_read.specs.Grammar.{Datum, Data, atom, list, none, cons, symbol}
use Rattle.sch_read.specs.Parts.{how_many}
use Rattle.sch_names.specs.declared.keyword.Keyword.TheVariants.{Begin}
use Rattle.sch_sketch.specs.declared.fault.Fault.TheVariants.{BadForm}
use Rattle.sch_sketch.specs.declared.sketch.Row.TheVariants.{Form}
use Rattle.sch_names.specs.Scope.{VariableNames}
use Rattle.sch_sketch.specs.Draft.{local}
use Rattle.sch_sketch.specs.Sketch.{Sketch, Sketches, text, rest, wrong, leaf, node, no_sketch, and_sketch, choosing, sequencing, recurring, abstracting, calling, nothing}
use Rattle.sch_sketch.specs.Small.{one, two, three, texts, fresh}
use Rattle.sch_sketch.specs.Distinct.{are_distinct}

-- ## The variables: `(v i s)` and `(v i)`

-- not of the shape `(v i ..)`
abbrev pub IsNoStart : Datum → Type 0
IsNoStart (list at (cons (atom q (symbol x)) (cons i xs))) = ⊥
IsNoStart _ = Unit {0}

abbrev pub is_step_end : Data → Bool
is_step_end none = true
is_step_end (cons s none) = true
is_step_end _ = false

abbrev pub are_steps : Data → Bool
are_steps none = true
are_steps (cons (list p (cons (atom q (symbol x)) (cons i xs))) bs) = is_step_end xs && are_steps bs
are_steps _ = false

abbrev pub stepped : Data → VariableNames
stepped (cons (list p (cons (atom q (symbol x)) (cons i xs))) bs) = Some x ∷ stepped bs
stepped _ = []

-- their inits, and then others
abbrev pub starts : Data → Sketches → Sketches
starts (cons (list p (cons (atom q (symbol x)) (cons i xs))) bs) ks = and_sketch (text i) (starts bs ks)
starts _ ks = ks

-- a variable without a step keeps its value; as many are bound nearer as follow it
abbrev pub step : (at nearer : ℕ) → Data → Sketch
step at k none = leaf at (local k)
step at k (cons s ss) = text s

abbrev pub steps : (at : ℕ) → Data → Sketches → Sketches
steps at (cons (list p (cons (atom q (symbol x)) (cons i xs))) bs) ks = and_sketch (step at (how_many bs) xs) (steps at bs ks)
steps at _ ks = ks

-- ## The procedure

-- it is called again with the steps
abbrev pub again : ℕ → Data → Sketch
again at bs = node (calling []) at (and_sketch (leaf at (local (how_many bs))) (steps at bs no_sketch))

abbrev pub next_round : ℕ → Data → Data → Sketch
next_round at bs none = again at bs
next_round at bs (cons e es) = node sequencing at (texts (cons e es) (one (again at bs)))

abbrev pub result : ℕ → Data → Sketch
result at none = leaf at nothing
result at (cons r rs) = rest (Form Begin) at (cons r rs) none

abbrev pub round : ℕ → Data → Datum → Data → Data → Sketch
round at bs a rs es = node choosing at (three (text a) (result at rs) (next_round at bs es))

abbrev pub rounds : ℕ → Data → Datum → Data → Data → Sketch
rounds at bs a rs es = node (recurring fresh true) at (two (node (abstracting (stepped bs) false) at (one (round at bs a rs es))) (leaf at (local 0)))

-- the variables are such, and distinct
abbrev pub are_rounds : Data → Bool
are_rounds bs = are_steps bs && are_distinct (stepped bs)

abbrev pub do_form : ℕ → Data → Datum → Data → Data → Sketch
do_form at bs a rs es =
    cond (are_rounds bs) (node (calling (stepped bs)) at (and_sketch (rounds at bs a rs es) (starts bs no_sketch)))
    (wrong (BadForm at))

abbrev pub row_do : ℕ → Data → Sketch
row_do at (cons (list p bs) (cons (list q (cons a rs)) es)) = do_form at bs a rs es
row_do at _ = wrong (BadForm at)
