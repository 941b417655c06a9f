-- Worked rows of choices and operations (R5RS 4.1.2, 4.1.5, 4.2.1, 6.2.5 and 6.3): each sketch computes.
use Rattle.std.proofs.Common.{◌≡◌, pos, true, false, [], ◌∷◌, Some, None, codes, refl}
use Rattle.sch_word.specs.declared.constant.Const.TheVariants.{Fixnum, Character, Boolean, Unspecified}
use Rattle.sch_word.specs.declared.primitive.Primitive.TheVariants.{Add, Subtract, Multiply, Less, Eqv, MakeString, MakeVector}
use Rattle.sch_read.specs.Grammar.{Datum, Data, atom, list, none, cons, symbol as symbol_atom}
use Rattle.sch_names.specs.declared.keyword.Keyword.TheVariants.{And, Or, Begin}
use Rattle.sch_names.specs.declared.operation.Operation.TheVariants.{Exact, Unit, UnitAnd, Nested, Chained, Filled, Not}
use Rattle.sch_names.specs.Words.{keyword_of}
use Rattle.sch_sketch.specs.declared.fault.Fault.TheVariants.{BadForm}
use Rattle.sch_sketch.specs.declared.sketch.Position.TheVariants.{Value, Test}
use Rattle.sch_sketch.specs.declared.sketch.Row.TheVariants.{Form, Clauses, Cases, Tests, Chain, Join}
use Rattle.sch_sketch.specs.Draft.{constant, symbol, literal, local}
use Rattle.sch_sketch.specs.Sketch.{text, rest, wrong, leaf, node, and_sketch, choosing, sequencing, binding, calling, operating, nothing}
use Rattle.sch_sketch.specs.Small.{two, three}
use Rattle.sch_sketch.proofs.WorkedData.{number, named, x}
use Rattle.sch_form_choices.specs.Choices.{row_quote, row_begin, row_if, row_and, row_or, row_cond, row_clauses}
use Rattle.sch_form_choices.specs.Cases.{row_case, row_cases, row_tests}
use Rattle.sch_form_choices.specs.Combinations.{combination, row_chain, row_join}

both : Data
both = cons (number 5) (cons (number 7) none)

-- the arms of `(if 5 7 9)`; without the last its value is unspecified
if_row : row_if 1 (cons (number 5) (cons (number 7) (cons (number 9) none))) ≡ node choosing 1 (three (text (number 5)) (text (number 7)) (text (number 9)))
if_row = refl

one_armed_row : row_if 1 both ≡ node choosing 1 (three (text (number 5)) (text (number 7)) (leaf 1 nothing))
unfolding both
one_armed_row = refl

armless_row : row_if 1 (cons (number 5) none) ≡ wrong (BadForm 1)
armless_row = refl

-- `(begin)` is bad, `(begin 5)` is its part, and `(begin 5 7)` a sequence
no_part_row : row_begin 1 none ≡ wrong (BadForm 1)
no_part_row = refl

one_part_row : row_begin 1 (cons (number 5) none) ≡ text (number 5)
one_part_row = refl

parts_row : row_begin 1 both ≡ node sequencing 1 (two (text (number 5)) (text (number 7)))
unfolding both
parts_row = refl

-- `(and)` and `(or)`, and of one part
no_and_row : row_and 1 none ≡ leaf 1 (constant (Boolean true))
no_and_row = refl

one_and_row : row_and 1 (cons (number 5) none) ≡ text (number 5)
one_and_row = refl

no_or_row : row_or Value 1 none ≡ leaf 1 (constant (Boolean false))
no_or_row = refl

one_or_row : row_or Value 1 (cons (number 5) none) ≡ text (number 5)
one_or_row = refl

-- `(and 5 7)` is `(if 5 (and 7) #f)`
and_row : row_and 1 both ≡
    node choosing 1 (three (text (number 5)) (rest (Form And) 7 (cons (number 7) none) none) (leaf 1 (constant (Boolean false))))
unfolding both
and_row = refl

-- `(or 5 7)` is `(let (t 5) (if t t (or 7)))` for its value, and `(if 5 #t (or 7))` as a test
or_row : row_or Value 1 both ≡
    node (binding (None ∷ [])) 1 (two (text (number 5))
    (node choosing 1 (three (leaf 1 (local 0)) (leaf 1 (local 0)) (rest (Form Or) 7 (cons (number 7) none) none))))
unfolding both
or_row = refl

or_test_row : row_or Test 1 both ≡
    node choosing 1 (three (text (number 5)) (leaf 1 (constant (Boolean true))) (rest (Form Or) 7 (cons (number 7) none) none))
unfolding both
or_test_row = refl

-- `(not 5)` is `(if 5 #f #t)`
not_row : combination Not 1 (cons (number 5) none) ≡
    node choosing 1 (three (text (number 5)) (leaf 1 (constant (Boolean false))) (leaf 1 (constant (Boolean true))))
not_row = refl

-- `(cond)` is bad; the clause `(5)` before `(7)` is as `(or 5 ..)`
cond_row : row_cond [] 1 none ≡ wrong (BadForm 1)
cond_row = refl

alone_row : row_clauses [] Value 1 (cons (list 4 (cons (number 5) none)) (cons (list 6 (cons (number 7) none)) none)) ≡
    node (binding (None ∷ [])) 1 (two (text (number 5))
    (node choosing 1 (three (leaf 1 (local 0)) (leaf 1 (local 0)) (rest Clauses 6 (cons (list 6 (cons (number 7) none)) none) none))))
alone_row = refl

-- the last clause `(5 7)` is `(if 5 (begin 7) unspecified)`
clause_row : row_clauses [] Test 1 (cons (list 4 (cons (number 5) (cons (number 7) none))) none) ≡
    node choosing 1 (three (text (number 5)) (rest (Form Begin) 1 (cons (number 7) none) none) (rest Clauses 1 none none))
clause_row = refl

-- the clause `(else 9)`, which must be the last, and have an expression
otherwise : Datum
otherwise = list 8 (cons (atom 9 (symbol_atom (codes "else"))) (cons (number 9) none))

else_row : row_clauses [] Value 1 (cons otherwise none) ≡ rest (Form Begin) 1 (cons (number 9) none) none
unfolding otherwise keyword_of
else_row = refl

else_first_row : row_cond [] 1 (cons otherwise (cons (list 10 (cons (number 11) none)) none)) ≡ wrong (BadForm 1)
unfolding otherwise keyword_of
else_first_row = refl

else_last_row : row_cond [] 1 (cons (list 4 (cons (number 5) none)) (cons otherwise none)) ≡
    rest Clauses 1 (cons (list 4 (cons (number 5) none)) (cons otherwise none)) none
unfolding otherwise keyword_of
else_last_row = refl

bare_else_row : row_cond [] 1 (cons (list 8 (cons (atom 9 (symbol_atom (codes "else"))) none)) none) ≡ wrong (BadForm 1)
unfolding keyword_of
bare_else_row = refl

no_list_row : row_cond [] 1 (cons (number 5) none) ≡ wrong (BadForm 1)
no_list_row = refl

no_clause_row : row_clauses [] Value 1 none ≡ leaf 1 nothing
no_clause_row = refl

-- `(case 5 ((7 8) 9))` is `(let (t 5) (if (or (eqv? t 7) (eqv? t 8)) (begin 9) unspecified))`
case_row : row_case [] 1 (cons (number 5) (cons (list 6 (cons (list 7 (cons (number 8) none)) (cons (number 9) none))) none)) ≡
    node (binding (None ∷ [])) 1 (two (text (number 5)) (rest Cases 1 (cons (list 6 (cons (list 7 (cons (number 8) none)) (cons (number 9) none))) none) none))
case_row = refl

cases_row : row_cases 1 (cons (list 6 (cons (list 7 both) (cons (number 9) none))) none) ≡
    node choosing 1 (three (rest Tests 1 both none) (rest (Form Begin) 1 (cons (number 9) none) none) (rest Cases 1 none none))
cases_row = refl

-- the `else` of a `case`, which must be the last; a clause of no data is never chosen
case_else_row : row_cases 1 (cons otherwise none) ≡ rest (Form Begin) 1 (cons (number 9) none) none
unfolding otherwise
case_else_row = refl

case_else_first_row : row_case [] 1 (cons (number 5) (cons otherwise (cons (list 10 (cons (list 11 both) (cons (number 12) none))) none))) ≡ wrong (BadForm 1)
unfolding otherwise both keyword_of
case_else_first_row = refl

case_else_last_row : row_case [] 1 (cons (number 5) (cons otherwise none)) ≡
    node (binding (None ∷ [])) 1 (two (text (number 5)) (rest Cases 1 (cons otherwise none) none))
unfolding otherwise keyword_of
case_else_last_row = refl

no_data_row : row_tests 1 none ≡ leaf 1 (constant (Boolean false))
no_data_row = refl

no_case_row : row_case [] 1 (cons (number 5) none) ≡ wrong (BadForm 1)
no_case_row = refl

no_expression_row : row_case [] 1 (cons (number 5) (cons (list 6 (cons (list 7 both) none)) none)) ≡ wrong (BadForm 1)
unfolding both
no_expression_row = refl

tests_row : row_tests 1 both ≡
    node choosing 1 (three (node (operating Eqv) 1 (two (leaf 1 (local 0)) (leaf 1 (constant (Fixnum (pos 5)))))) (leaf 1 (constant (Boolean true)))
    (rest Tests 7 (cons (number 7) none) none))
unfolding both
tests_row = refl

-- a name in a clause of a `case` is a symbol, and a list a literal
symbol_row : row_tests 1 (cons (named 4 x) none) ≡ node (operating Eqv) 1 (two (leaf 1 (local 0)) (leaf 1 (symbol x)))
symbol_row = refl

literal_row : row_quote 1 (cons (list 2 both) none) ≡ leaf 1 (literal (list 2 both))
unfolding both
literal_row = refl

-- the clause `(5 => x)` is `(let (t 5) (if t (x t) rest))`; with a local `=>` it is `(if 5 (begin => x) rest)`
arrow : Datum
arrow = atom 6 (symbol_atom (codes "=>"))

receiving_row : row_clauses [] Value 1 (cons (list 4 (cons (number 5) (cons arrow (cons (named 8 x) none)))) none) ≡
    node (binding (None ∷ [])) 1 (two (text (number 5))
    (node choosing 1 (three (leaf 1 (local 0)) (node (calling []) 1 (two (text (named 8 x)) (leaf 1 (local 0)))) (rest Clauses 1 none none))))
unfolding arrow keyword_of
receiving_row = refl

local_arrow_row : row_clauses (Some (codes "=>") ∷ []) Value 1 (cons (list 4 (cons (number 5) (cons arrow (cons (named 8 x) none)))) none) ≡
    node choosing 1 (three (text (number 5)) (rest (Form Begin) 1 (cons arrow (cons (named 8 x) none)) none) (rest Clauses 1 none none))
unfolding arrow
local_arrow_row = refl

-- ## Operations

-- `(+)` is 0 and `(*)` is 1
no_sum_row : combination (Unit Add) 1 none ≡ leaf 1 (constant (Fixnum (pos 0)))
no_sum_row = refl

no_product_row : combination (Unit Multiply) 1 none ≡ leaf 1 (constant (Fixnum (pos 1)))
no_product_row = refl

-- `(+ 5)` is `(+ 0 5)`, `(* 5)` is `(* 1 5)`, and `(- 5)` is `(- 0 5)`
one_summand_row : combination (UnitAnd Add) 1 (cons (number 5) none) ≡ node (operating Add) 1 (two (leaf 1 (constant (Fixnum (pos 0)))) (text (number 5)))
one_summand_row = refl

one_factor_row : combination (UnitAnd Multiply) 1 (cons (number 5) none) ≡
    node (operating Multiply) 1 (two (leaf 1 (constant (Fixnum (pos 1)))) (text (number 5)))
one_factor_row = refl

negated_row : combination (UnitAnd Subtract) 1 (cons (number 5) none) ≡
    node (operating Subtract) 1 (two (leaf 1 (constant (Fixnum (pos 0)))) (text (number 5)))
negated_row = refl

-- `(- 5 7)`
exact_row : combination (Exact Subtract) 1 both ≡ node (operating Subtract) 1 (two (text (number 5)) (text (number 7)))
unfolding both
exact_row = refl

-- three operands, with variables of which the last is nearest
several : Data
several = cons (number 5) (cons (number 7) (cons (number 9) none))

-- `(- 5 7 9)` is `(let (a 5) (b 7) (c 9) (- (- a b) c))`: a has two variables nearer, b one, and c none
nested_row : combination (Nested Subtract) 1 several ≡
    node (binding (None ∷ (None ∷ (None ∷ [])))) 1
    (and_sketch (text (number 5)) (three (text (number 7)) (text (number 9)) (rest (Join Subtract 2 2) 1 none none)))
unfolding several
nested_row = refl

last_joined_row : row_join Subtract 2 2 1 ≡ node (operating Subtract) 1 (two (rest (Join Subtract 1 2) 1 none none) (leaf 1 (local 0)))
last_joined_row = refl

second_joined_row : row_join Subtract 1 2 1 ≡ node (operating Subtract) 1 (two (rest (Join Subtract 0 2) 1 none none) (leaf 1 (local 1)))
second_joined_row = refl

first_joined_row : row_join Subtract 0 2 1 ≡ leaf 1 (local 2)
first_joined_row = refl

-- `(+ a b)` of two variables
joined_row : row_join Add 1 1 1 ≡ node (operating Add) 1 (two (rest (Join Add 0 1) 1 none none) (leaf 1 (local 0)))
joined_row = refl

-- `(< 5 7 9)` is `(let (a 5) (b 7) (c 9) (if (< a b) (< b c) #f))`
compared_row : combination (Chained Less) 1 several ≡
    node (binding (None ∷ (None ∷ (None ∷ [])))) 1
    (and_sketch (text (number 5)) (three (text (number 7)) (text (number 9)) (rest (Chain Less) 1 several none)))
unfolding several
compared_row = refl

chained_row : row_chain Less 1 several ≡
    node choosing 1 (three (node (operating Less) 1 (two (leaf 1 (local 2)) (leaf 1 (local 1))))
    (rest (Chain Less) 7 (cons (number 7) (cons (number 9) none)) none) (leaf 1 (constant (Boolean false))))
unfolding several
chained_row = refl

last_chained_row : row_chain Less 7 (cons (number 7) (cons (number 9) none)) ≡ node (operating Less) 7 (two (leaf 7 (local 1)) (leaf 7 (local 0)))
last_chained_row = refl

-- `(make-string 5)` is filled with spaces, and `(make-vector 5)` with the unspecified value
filled_row : combination (Filled MakeString) 1 (cons (number 5) none) ≡ node (operating MakeString) 1 (two (text (number 5)) (leaf 1 (constant (Character 32))))
filled_row = refl

filled_vector_row : combination (Filled MakeVector) 1 (cons (number 5) none) ≡ node (operating MakeVector) 1 (two (text (number 5)) (leaf 1 (constant Unspecified)))
filled_vector_row = refl
