-- Worked rows of assignments and definitions (R5RS 4.1.6 and 5.2): each sketch computes.
use Rattle.std.proofs.Common.{◌≡◌, false, [], ◌∷◌, Some, None, codes, refl}
use Rattle.sch_read.specs.Grammar.{list, none, cons}
use Rattle.sch_names.specs.Words.{keyword_of}
use Rattle.sch_sketch.specs.declared.fault.Fault.TheVariants.{BadForm, Unbound, KeywordDefined}
use Rattle.sch_sketch.specs.declared.sketch.Row.TheVariants.{Method}
use Rattle.sch_sketch.specs.Sketch.{text, rest, wrong, node, setting, setting_global, defining}
use Rattle.sch_sketch.specs.Small.{one, two}
use Rattle.sch_sketch.proofs.WorkedData.{number, x, named}
use Rattle.sch_form_bodies.specs.Assignments.{row_set, row_define}

-- `(set! x 9)`: a local variable, a global one, and one that is not bound
set_row : row_set (record { bound = []; own = []; internal = false }) (None ∷ Some x ∷ []) 1 (cons (named 2 x) (cons (number 9) none)) ≡ node (setting 1) 1 (one (text (number 9)))
set_row = refl

set_global_row : row_set (record { bound = x ∷ []; own = []; internal = false }) [] 1 (cons (named 2 x) (cons (number 9) none)) ≡ node (setting_global x) 1 (one (text (number 9)))
unfolding keyword_of
set_global_row = refl

set_unbound_row : row_set (record { bound = []; own = x ∷ []; internal = false }) [] 1 (cons (named 2 x) (cons (number 9) none)) ≡
    node (setting_global x) 1 (two (wrong (Unbound 2 x)) (text (number 9)))
unfolding keyword_of
set_unbound_row = refl

-- `(set! if 9)` and `(define if)`
set_keyword_row : row_set (record { bound = []; own = []; internal = false }) [] 1 (cons (named 2 (codes "if")) (cons (number 9) none)) ≡ wrong (BadForm 1)
unfolding keyword_of
set_keyword_row = refl

define_keyword_row : row_define 1 (cons (named 2 (codes "if")) none) ≡ wrong (KeywordDefined 1)
unfolding keyword_of
define_keyword_row = refl

-- `(define (x) 9)` at top level
define_row : row_define 1 (cons (list 2 (cons (named 3 x) none)) (cons (number 9) none)) ≡
    node (defining x) 1 (one (rest Method 1 (cons (list 2 (cons (named 3 x) none)) (cons (number 9) none)) none))
unfolding keyword_of
define_row = refl
