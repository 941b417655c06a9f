-- The rows of `case` (R5RS 4.2.1).
use Rattle.std.specs.Prelude.{ℕ, Bool, true, false, cond, ◌&&◌, not}
use Rattle.sch_word.specs.declared.primitive.Primitive.TheVariants.{Eqv}
use Rattle.sch_read.specs.Grammar.{Datum, Data, list, none, cons}
use Rattle.sch_read.specs.Parts.{offset}
use Rattle.sch_names.specs.declared.keyword.Keyword.TheVariants.{Begin}
use Rattle.sch_names.specs.Scope.{Scope}
use Rattle.sch_sketch.specs.declared.fault.Fault.TheVariants.{BadForm}
use Rattle.sch_sketch.specs.declared.sketch.Row.TheVariants.{Form, Cases, Tests}
use Rattle.sch_sketch.specs.Draft.{local}
use Rattle.sch_sketch.specs.Sketch.{Sketch, text, rest, wrong, leaf, node, choosing, binding, operating, nothing}
use Rattle.sch_sketch.specs.Small.{two, three, truth, fresh, quoted, place_of}
use Rattle.sch_form_choices.specs.Choices.{is_else, is_some_data}

-- a clause, and whether it is the last
abbrev pub is_case : Scope → Datum → (last : Bool) → Bool
is_case s (list q (cons (list p ds) (cons e es))) last = true
is_case s (list q (cons a (cons e es))) last = is_else s a && last
is_case s _ last = false

abbrev pub are_cases : Scope → Data → Bool
are_cases s none = true
are_cases s (cons c cs) = is_case s c (not (is_some_data cs)) && are_cases s cs

-- the key has a variable, and the clauses stand inside it
abbrev pub row_case : Scope → ℕ → Data → Sketch
row_case s at (cons k (cons c cs)) =
    cond (are_cases s (cons c cs)) (node (binding fresh) at (two (text k) (rest Cases at (cons c cs) none))) (wrong (BadForm at))
row_case s at _ = wrong (BadForm at)

abbrev pub row_cases : ℕ → Data → Sketch
row_cases at none = leaf at nothing
row_cases at (cons (list q (cons (list p ds) es)) cs) =
    node choosing at (three (rest Tests at ds none) (rest (Form Begin) at es none) (rest Cases (place_of at cs) cs none))
row_cases at (cons (list q (cons a es)) cs) = rest (Form Begin) at es none
row_cases at _ = wrong (BadForm at)

-- the key is the nearest variable
abbrev pub equals : ℕ → Datum → Sketch
equals at d = node (operating Eqv) at (two (leaf at (local 0)) (quoted at d))

-- whether the key is one of the data
abbrev pub row_tests : ℕ → Data → Sketch
row_tests at none = truth at false
row_tests at (cons d none) = equals at d
row_tests at (cons d (cons d' ds)) = node choosing at (three (equals at d) (truth at true) (rest Tests (offset d') (cons d' ds) none))
