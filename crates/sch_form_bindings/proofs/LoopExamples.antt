-- Worked rows of `do` (R5RS 4.2.4): each sketch computes.
use Rattle.std.proofs.Common.{◌≡◌, true, false, [], ◌∷◌, Some, None, refl}
use Rattle.sch_read.specs.Grammar.{list, none, cons}
use Rattle.sch_names.specs.declared.keyword.Keyword.TheVariants.{Begin}
use Rattle.sch_sketch.specs.declared.fault.Fault.TheVariants.{BadForm}
use Rattle.sch_sketch.specs.declared.sketch.Row.TheVariants.{Form}
use Rattle.sch_sketch.specs.Draft.{local}
use Rattle.sch_sketch.specs.Sketch.{text, rest, wrong, leaf, node, choosing, sequencing, recurring, abstracting, calling, nothing}
use Rattle.sch_sketch.specs.Small.{one, two, three}
use Rattle.sch_sketch.proofs.WorkedData.{number, x, y, named, binding_of}
use Rattle.sch_form_bindings.specs.Loops.{row_do}

-- `(do ((x 5 7) (y 6)) (8) 9)`: x becomes 7 and y stays
do_row : row_do 1 (cons (list 2 (cons (list 3 (cons (named 4 x) (cons (number 5) (cons (number 7) none)))) (cons (list 5 (cons (named 6 y) (cons (number 6) none))) none)))
    (cons (list 8 (cons (number 8) none)) (cons (number 9) none))) ≡
    node (calling (Some x ∷ Some y ∷ [])) 1 (three (node (recurring (None ∷ []) true) 1
    (two (node (abstracting (Some x ∷ Some y ∷ []) false) 1 (one (node choosing 1 (three (text (number 8)) (leaf 1 nothing)
    (node sequencing 1 (two (text (number 9)) (node (calling []) 1 (three (leaf 1 (local 2)) (text (number 7)) (leaf 1 (local 0))))))))))
    (leaf 1 (local 0)))) (text (number 5)) (text (number 6)))
do_row = refl

-- `(do ((x 5)) (8))` has no commands: x is passed on, and the value is unspecified
idle_row : row_do 1 (cons (list 2 (cons (binding_of 5 x) none)) (cons (list 8 (cons (number 8) none)) none)) ≡
    node (calling (Some x ∷ [])) 1 (two (node (recurring (None ∷ []) true) 1
    (two (node (abstracting (Some x ∷ []) false) 1 (one (node choosing 1 (three (text (number 8)) (leaf 1 nothing)
    (node (calling []) 1 (two (leaf 1 (local 1)) (leaf 1 (local 0)))))))) (leaf 1 (local 0)))) (text (number 5)))
idle_row = refl

-- `(do ((x 5)) (8 9))` ends with 9
result_row : row_do 1 (cons (list 2 (cons (binding_of 5 x) none)) (cons (list 8 (cons (number 8) (cons (number 9) none))) none)) ≡
    node (calling (Some x ∷ [])) 1 (two (node (recurring (None ∷ []) true) 1
    (two (node (abstracting (Some x ∷ []) false) 1 (one (node choosing 1 (three (text (number 8)) (rest (Form Begin) 1 (cons (number 9) none) none)
    (node (calling []) 1 (two (leaf 1 (local 1)) (leaf 1 (local 0)))))))) (leaf 1 (local 0)))) (text (number 5)))
result_row = refl

do_twice_row : row_do 1 (cons (list 2 (cons (binding_of 5 x) (cons (binding_of 6 x) none))) (cons (list 8 (cons (number 8) none)) none)) ≡ wrong (BadForm 1)
do_twice_row = refl
