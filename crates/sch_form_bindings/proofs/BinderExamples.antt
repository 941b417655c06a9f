-- Worked rows of forms that bind (R5RS 4.2.2 and 4.2.4): each sketch computes.
use Rattle.std.proofs.Common.{◌≡◌, true, false, [], ◌∷◌, Some, codes, refl}
use Rattle.sch_read.specs.Grammar.{Datum, atom, list, none, cons, symbol}
use Rattle.sch_names.specs.Words.{keyword_of}
use Rattle.sch_sketch.specs.declared.fault.Fault.TheVariants.{BadForm}
use Rattle.sch_sketch.specs.declared.sketch.Row.TheVariants.{Body, Nest}
use Rattle.sch_sketch.specs.Draft.{local}
use Rattle.sch_sketch.specs.Sketch.{text, rest, wrong, leaf, node, limited, binding, recurring, abstracting, calling}
use Rattle.sch_sketch.specs.Small.{one, two, three}
use Rattle.sch_sketch.proofs.WorkedData.{number, x, y, named, binding_of}
use Rattle.sch_form_bindings.specs.Binders.{row_let, row_let_star, row_letrec, row_nest}

word_lambda : Datum
word_lambda = atom 3 (symbol (codes "lambda"))

-- `(let ((x 5) (y 6)) 9)`, and with two variables of one name; in a `let*` they may have one, and there may be none
let_row : row_let [] 1 (cons (list 2 (cons (binding_of 5 x) (cons (binding_of 6 y) none))) (cons (number 9) none)) ≡
    node (binding (Some x ∷ Some y ∷ [])) 1 (three (text (number 5)) (text (number 6)) (rest Body 1 (cons (number 9) none) none))
unfolding keyword_of
let_row = refl

let_twice_row : row_let [] 1 (cons (list 2 (cons (binding_of 5 x) (cons (binding_of 6 x) none))) (cons (number 9) none)) ≡ wrong (BadForm 1)
unfolding keyword_of
let_twice_row = refl

let_star_row : row_let_star [] 1 (cons (list 2 (cons (binding_of 5 x) (cons (binding_of 6 x) none))) (cons (number 9) none)) ≡
    limited 1 2 (rest (Nest 1) 1 (cons (binding_of 5 x) (cons (binding_of 6 x) none)) (cons (number 9) none))
unfolding keyword_of
let_star_row = refl

no_binding_row : row_let_star [] 1 (cons (list 2 none) (cons (number 9) none)) ≡ node (binding []) 1 (one (rest Body 1 (cons (number 9) none) none))
unfolding keyword_of
no_binding_row = refl

last_nest_row : row_nest 1 6 (cons (binding_of 6 x) none) (cons (number 9) none) ≡
    node (binding (Some x ∷ [])) 6 (two (text (number 6)) (rest Body 1 (cons (number 9) none) none))
last_nest_row = refl

bare_let_row : row_let [] 1 (cons (list 2 (cons (binding_of 5 x) none)) none) ≡ wrong (BadForm 1)
bare_let_row = refl

letrec_twice_row : row_letrec [] 1 (cons (list 2 (cons (binding_of 5 x) (cons (binding_of 6 x) none))) (cons (number 9) none)) ≡ wrong (BadForm 1)
unfolding keyword_of
letrec_twice_row = refl

-- `(let* ((x 5) (x 7)) 9)`: one binding inside the other
nest_row : row_nest 1 2 (cons (list 3 (cons (named 4 x) (cons (number 5) none))) (cons (list 6 (cons (named 6 x) (cons (number 7) none))) none)) (cons (number 9) none) ≡
    node (binding (Some x ∷ [])) 2 (two (text (number 5))
    (rest (Nest 1) 6 (cons (list 6 (cons (named 6 x) (cons (number 7) none))) none) (cons (number 9) none)))
nest_row = refl

-- `(letrec ((x (lambda y 9))) 8)`: all inits are procedures by their forms, unless `lambda` is a variable
letrec_row : row_letrec [] 1 (cons (list 2 (cons (list 3 (cons (named 4 x) (cons (list 5 (cons word_lambda (cons (named 6 y) (cons (number 9) none)))) none))) none)) (cons (number 8) none)) ≡
    node (recurring (Some x ∷ []) true) 1 (two (text (list 5 (cons word_lambda (cons (named 6 y) (cons (number 9) none))))) (rest Body 1 (cons (number 8) none) none))
unfolding word_lambda keyword_of
letrec_row = refl

letrec_of_lambda_row : row_letrec (Some (codes "lambda") ∷ []) 1 (cons (list 2 (cons (list 3 (cons (named 4 x) (cons (list 5 (cons word_lambda (cons (named 6 y) (cons (number 9) none)))) none))) none)) (cons (number 8) none)) ≡
    node (recurring (Some x ∷ []) false) 1 (two (text (list 5 (cons word_lambda (cons (named 6 y) (cons (number 9) none))))) (rest Body 1 (cons (number 8) none) none))
unfolding word_lambda keyword_of
letrec_of_lambda_row = refl

-- `(let x ((y 5)) 9)` is `((letrec ((x (lambda (y) 9))) x) 5)`
named_row : row_let [] 1 (cons (named 2 x) (cons (list 3 (cons (list 4 (cons (named 4 y) (cons (number 5) none))) none)) (cons (number 9) none))) ≡
    node (calling (Some y ∷ [])) 1 (two (node (recurring (Some x ∷ []) true) 1
    (two (node (abstracting (Some y ∷ []) false) 1 (one (rest Body 1 (cons (number 9) none) none))) (leaf 1 (local 0)))) (text (number 5)))
named_row = refl
