-- Worked rows of bodies and procedures (R5RS 4.1.4 and 5.2.2): each sketch computes.
use Rattle.std.proofs.Common.{◌≡◌, ℕ, List, true, false, [], ◌∷◌, Some, None, codes, refl}
use Rattle.sch_read.specs.Grammar.{Datum, atom, list, dotted, none, cons, symbol}
use Rattle.sch_names.specs.declared.keyword.Keyword.TheVariants.{Begin}
use Rattle.sch_names.specs.Words.{keyword_of}
use Rattle.sch_sketch.specs.declared.fault.Fault.TheVariants.{BadForm}
use Rattle.sch_sketch.specs.declared.sketch.Row.TheVariants.{Form, Body, Method}
use Rattle.sch_sketch.specs.Sketch.{text, rest, wrong, node, recurring, abstracting}
use Rattle.sch_sketch.specs.Small.{one, two, three}
use Rattle.sch_sketch.proofs.WorkedData.{number, x, y, named}
use Rattle.sch_form_bodies.specs.Bodies.{row_body, row_lambda, row_method}

word_define : ℕ → Datum
word_define at = atom at (symbol (codes "define"))

-- `(lambda (x . y) 9)` takes a rest, and `(lambda y 9)` nothing else; `(lambda (x x) 9)` and `(lambda (x))` are bad
dotted_row : row_lambda [] 1 (cons (dotted 2 (cons (named 3 x) none) (named 4 y)) (cons (number 9) none)) ≡
    node (abstracting (Some x ∷ Some y ∷ []) true) 1 (one (rest Body 1 (cons (number 9) none) none))
dotted_row = refl

list_row : row_lambda [] 1 (cons (list 2 (cons (named 3 x) (cons (named 4 y) none))) (cons (number 9) none)) ≡
    node (abstracting (Some x ∷ Some y ∷ []) false) 1 (one (rest Body 1 (cons (number 9) none) none))
list_row = refl

rest_row : row_lambda [] 1 (cons (named 4 y) (cons (number 9) none)) ≡
    node (abstracting (Some y ∷ []) true) 1 (one (rest Body 1 (cons (number 9) none) none))
rest_row = refl

twice_row : row_lambda [] 1 (cons (list 2 (cons (named 3 x) (cons (named 4 x) none))) (cons (number 9) none)) ≡ wrong (BadForm 1)
twice_row = refl

no_body_row : row_lambda [] 1 (cons (list 2 (cons (named 3 x) none)) none) ≡ wrong (BadForm 1)
no_body_row = refl

-- a body of definitions alone is none, nor one that defines a name twice; a keyword may be defined in a body
definition : ℕ → List ℕ → Datum
definition n v = list n (cons (word_define n) (cons (named n v) (cons (number n) none)))

definitions_row : row_lambda [] 1 (cons (list 2 none) (cons (definition 5 x) none)) ≡ wrong (BadForm 1)
unfolding definition word_define keyword_of
definitions_row = refl

defined_twice_row : row_lambda [] 1 (cons (list 2 none) (cons (definition 5 x) (cons (definition 6 x) (cons (number 9) none)))) ≡ wrong (BadForm 1)
unfolding definition word_define keyword_of
defined_twice_row = refl

keyword_body_row : row_body [] 1 (cons (definition 5 (codes "if")) (cons (number 9) none)) ≡
    node (recurring (Some (codes "if") ∷ []) false) 1 (two (text (number 5)) (rest (Form Begin) 1 (cons (number 9) none) none))
unfolding definition word_define keyword_of
keyword_body_row = refl

-- `(begin)` at the head of a body is a definition of nothing
nothing_row : row_body [] 1 (cons (list 2 (cons (named 2 (codes "begin")) none)) (cons (number 9) none)) ≡
    node (recurring [] true) 1 (one (rest (Form Begin) 1 (cons (number 9) none) none))
unfolding keyword_of
nothing_row = refl

-- the body `(define x 5) (begin (define (y) 6)) 9` is a `letrec` of x and y; y alone is a procedure by its form
body_row : row_body [] 1 (cons (list 2 (cons (word_define 2) (cons (named 3 x) (cons (number 5) none))))
    (cons (list 4 (cons (named 4 (codes "begin")) (cons (list 5 (cons (word_define 5) (cons (list 6 (cons (named 6 y) none)) (cons (number 6) none)))) none))) (cons (number 9) none))) ≡
    node (recurring (Some x ∷ Some y ∷ []) false) 1
    (three (text (number 5)) (rest Method 5 (cons (list 6 (cons (named 6 y) none)) (cons (number 6) none)) none) (rest (Form Begin) 1 (cons (number 9) none) none))
unfolding word_define keyword_of
body_row = refl

-- a variable named `define` shadows the word: this body has no definition
shadowed_row : row_body (Some (codes "define") ∷ []) 1 (cons (list 2 (cons (word_define 2) (cons (named 3 x) (cons (number 5) none)))) (cons (number 9) none)) ≡
    rest (Form Begin) 1 (cons (list 2 (cons (word_define 2) (cons (named 3 x) (cons (number 5) none)))) (cons (number 9) none)) none
unfolding word_define keyword_of
shadowed_row = refl

-- whether a part is a definition is told outside the body: `(define define 5) (define x 6) 9` defines x too
outside_row : row_body [] 1 (cons (list 2 (cons (word_define 2) (cons (word_define 3) (cons (number 5) none))))
    (cons (list 4 (cons (word_define 4) (cons (named 5 x) (cons (number 6) none)))) (cons (number 9) none))) ≡
    node (recurring (Some (codes "define") ∷ Some x ∷ []) false) 1 (three (text (number 5)) (text (number 6)) (rest (Form Begin) 1 (cons (number 9) none) none))
unfolding word_define keyword_of
outside_row = refl

-- a badly shaped definition is refused at itself, and binds nothing
bad_row : row_body [] 1 (cons (list 2 (cons (word_define 2) (cons (named 3 x) none))) (cons (number 9) none)) ≡
    node (recurring (None ∷ []) true) 1 (two (wrong (BadForm 2)) (rest (Form Begin) 1 (cons (number 9) none) none))
unfolding word_define keyword_of
bad_row = refl

-- a procedure that is defined: `((y . x) 9)`
method_row : row_method [] 1 (cons (dotted 2 (cons (named 3 y) none) (named 4 x)) (cons (number 9) none)) ≡
    node (abstracting (Some x ∷ []) true) 1 (one (rest Body 1 (cons (number 9) none) none))
method_row = refl
