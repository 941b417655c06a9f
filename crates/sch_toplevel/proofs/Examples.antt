-- Worked rows: which forms a text has, which names it defines and assigns, and what an item of a library is. A
-- form stands at its place.
use Rattle.std.proofs.Common.{◌≡◌, ℕ, pos, List, [], ◌∷◌, Some, None, false, codes, refl}
use Rattle.sch_read.specs.Grammar.{Datum, Data, atom, list, none, cons, integer}
use Rattle.sch_names.specs.Words.{keyword_of}
use Rattle.sch_sketch.specs.declared.fault.Fault.TheVariants.{BadForm, KeywordDefined}
use Rattle.sch_sketch.specs.declared.sketch.Row.TheVariants.{Method}
use Rattle.sch_sketch.specs.Draft.{set_global, set_local, lambda, call, global, no_drafts, and_draft}
use Rattle.sch_sketch.specs.Sketch.{rest, wrong}
use Rattle.sch_sketch.proofs.WorkedData.{x, named}
use Rattle.sch_toplevel.specs.Forms.{form_places, sketches_of, defined, own_names}
use Rattle.sch_toplevel.specs.Assigned.{assigned_in}
use Rattle.sch_toplevel.specs.Items.{name_in, names_by, procedure_in}

abbrev f : List ℕ
f = codes "f"

abbrev number : ℕ → Datum
number at = atom at (integer (pos 1))

abbrev defining : ℕ → Data → Datum
defining at xs = list at (cons (named at (codes "define")) xs)

abbrev beginning : ℕ → Data → Datum
beginning at xs = list at (cons (named at (codes "begin")) xs)

-- `x 1`, `(f x) x`
abbrev value : Data
value = cons (named 1 x) (cons (number 2) none)

abbrev method : Data
method = cons (list 3 (cons (named 4 f) (cons (named 5 x) none))) (cons (named 6 x) none)

-- `(begin (begin) (define x 1) (begin (define (f x) x) 1)) 1`
abbrev begun : Data
begun =
    cons (beginning 10 (cons (beginning 11 none) (cons (defining 12 value) (cons (beginning 13 (cons (defining 14 method) (cons (number 15) none))) none))))
    (cons (number 16) none)

forms_row : form_places begun ≡ 12 ∷ 14 ∷ 15 ∷ 16 ∷ []
unfolding keyword_of
forms_row = refl

defined_row : defined begun ≡ x ∷ f ∷ []
unfolding keyword_of
defined_row = refl

-- `(define x)` and `(define if 1)` define nothing
bad_row : sketches_of (cons (defining 7 (cons (named 1 x) none)) (cons (defining 8 (cons (named 1 (codes "if")) (cons (number 2) none))) none)) ≡
    wrong (BadForm 7) ∷ wrong (KeywordDefined 8) ∷ []
unfolding keyword_of
bad_row = refl

none_defined_row : defined (cons (defining 7 (cons (named 1 x) none)) (cons (defining 8 (cons (named 1 (codes "if")) (cons (number 2) none))) none)) ≡ []
unfolding keyword_of
none_defined_row = refl

-- of `x`, which is defined, and `f`, which is assigned, each stands once
own_row : own_names begun (codes "g" ∷ x ∷ codes "g" ∷ []) ≡ x ∷ f ∷ codes "g" ∷ []
unfolding keyword_of
own_row = refl

-- `(f (set! x (lambda (y) (set! y (set! f x)))))`: `y` is local
assigned_row : assigned_in (call [] (global f) (and_draft (set_global x (lambda 1 false (set_local 0 (set_global f (global x))))) no_drafts)) ≡ x ∷ f ∷ []
assigned_row = refl

-- an item of a library defines a procedure of a new name, and is bad otherwise
item_row : procedure_in (x ∷ []) (defining 7 method) ≡ rest Method 7 method none
unfolding keyword_of
item_row = refl

item_name_row : name_in (defining 7 method) ≡ Some f
unfolding keyword_of
item_name_row = refl

item_names_row : names_by (x ∷ []) (defining 7 method) ≡ x ∷ f ∷ []
unfolding keyword_of
item_names_row = refl

twice_row : procedure_in (f ∷ []) (defining 7 method) ≡ wrong (BadForm 7)
unfolding keyword_of
twice_row = refl

value_row : procedure_in [] (defining 7 value) ≡ wrong (BadForm 7)
unfolding keyword_of
value_row = refl

value_name_row : name_in (defining 7 value) ≡ None
unfolding keyword_of
value_name_row = refl

keyword_row : procedure_in [] (defining 8 (cons (named 1 (codes "if")) (cons (number 2) none))) ≡ wrong (KeywordDefined 8)
unfolding keyword_of
keyword_row = refl

expression_row : procedure_in [] (number 9) ≡ wrong (BadForm 9)
expression_row = refl
