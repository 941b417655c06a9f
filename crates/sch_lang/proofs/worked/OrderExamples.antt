-- In which order the parts of a site go and what is made is charged; which tests hold; what may be set;
-- whose variables are whose; and what a call looks at first.
use Rattle.std.proofs.Common.{◌≡◌, ℕ, suc, refl, true, false, List, [], ◌∷◌, length, pos}
use Rattle.std.specs.Prelude.{codes}
use Rattle.std.specs.Fmt.{digits}
use Rattle.sch_word.specs.declared.constant.Const.TheVariants.{Nil, Unspecified}
use Rattle.sch_word.specs.declared.primitive.Primitive.TheVariants.{Add, Cons}
use Rattle.sch_lang.specs.Tree.{Expression, Lambdas, Source, expressions, constant, local, global, set_local, set_global, define, branch, sequence, bind, fix, letrec, lambda, operation, no_lambdas, and_lambda}
use Rattle.sch_lang.specs.Run.{run}
use Rattle.sch_word.specs.runs.WorkedRuns.{ends}
use Rattle.sch_lang.specs.Examples.{plain_run, heap_run, program, call_of_number, number, boolean, function, apply, put, two}

-- ## Orders

-- (%put 1) and (%put 2), at the sites 1 and 2
abbrev one_and_two : List Expression
one_and_two = put 1 (number (pos 1)) ∷ put 2 (number (pos 2)) ∷ []

-- one form, whose site 0 has these two parts
abbrev parted : Expression → Source
parted e = program 0 (2 ∷ 1 ∷ 1 ∷ []) (e ∷ [])

-- the second part before the first
abbrev turned : List (List ℕ)
turned = (1 ∷ 0 ∷ []) ∷ (0 ∷ []) ∷ (0 ∷ []) ∷ []

-- (let ((a (%put 1)) (b (%put 2))) 0)
let_order_runs : run (parted (bind 0 (expressions one_and_two) (number (pos 0)))) turned 4096 1 [] 0 ≡ ends (codes "21") 0 0 0
unfolding digits
let_order_runs = refl

-- (letrec ((a (%put 1)) (b (%put 2))) 0)
letrec_order_runs : run (parted (letrec 0 (expressions one_and_two) (number (pos 0)))) turned 4096 1 [] 0 ≡ ends (codes "21") 0 0 32
unfolding digits
letrec_order_runs = refl

-- (cons (%put 1) (%put 2))
operation_order_runs : run (parted (operation 0 Cons (expressions one_and_two))) turned 4096 1 [] 0 ≡ ends (codes "21") 0 0 16
unfolding digits
operation_order_runs = refl

-- ## Charges

-- Those of a group of procedures go from the left to the right. The first has two free variables and so 32
-- bytes, the second has none and so 16:
-- (let ((x 1) (y 2)) (letrec ((f (lambda () (+ x y))) (g (lambda () 1))) 0))
abbrev large_then_small : Source
large_then_small = program 0 (2 ∷ 2 ∷ [])
    (bind 0 (expressions (number (pos 1) ∷ number (pos 2) ∷ []))
    (fix (and_lambda [] 0 false (two 1 Add (local 3) (local 2)) small) (number (pos 0))) ∷ [])
  where
    small : Lambdas
    small = and_lambda [] 0 false (number (pos 1)) no_lambdas

first_does_not_fit_runs : heap_run large_then_small 16 1 0 ≡ ends [] 71 0 0
first_does_not_fit_runs = refl

second_does_not_fit_runs : heap_run large_then_small 47 1 0 ≡ ends [] 71 0 32
second_does_not_fit_runs = refl

both_fit_runs : heap_run large_then_small 48 1 0 ≡ ends [] 0 0 48
both_fit_runs = refl

-- The cells of a Let are charged after its inits, those of a Rec before them:
-- (let ((x (%put 1))) (set! x 2)) and (letrec ((x (%put 1))) (set! x 2))
abbrev put_in_let : Source
put_in_let = program 0 (1 ∷ 1 ∷ []) (bind 0 (expressions (put 1 (number (pos 1)) ∷ [])) (set_local 0 (number (pos 2))) ∷ [])

abbrev put_in_letrec : Source
put_in_letrec = program 0 (1 ∷ 1 ∷ []) (letrec 0 (expressions (put 1 (number (pos 1)) ∷ [])) (set_local 0 (number (pos 2))) ∷ [])

let_charge_runs : heap_run put_in_let 0 1 0 ≡ ends (codes "1") 71 0 0
unfolding digits
let_charge_runs = refl

letrec_charge_runs : heap_run put_in_letrec 0 1 0 ≡ ends [] 71 0 0
unfolding digits
letrec_charge_runs = refl

-- a variable that is only set is free too, so two are, and 32 bytes are added to the cell of x:
-- (let ((x 1) (y 2)) (lambda () (set! x y)))
abbrev sets_free : Source
sets_free = program 0 (2 ∷ [])
    (bind 0 (expressions (number (pos 1) ∷ number (pos 2) ∷ [])) (function 0 (set_local 1 (local 0))) ∷ [])

sets_free_runs : plain_run sets_free 1 0 ≡ ends [] 0 0 48
sets_free_runs = refl

-- a variable counts once among the free ones, however often it stands there, so 16 bytes do:
-- (let ((x 1)) (lambda () (+ x x)))
abbrev free_twice : Source
free_twice = program 0 (1 ∷ 2 ∷ []) (bind 0 (expressions (number (pos 1) ∷ [])) (function 0 (two 1 Add (local 0) (local 0))) ∷ [])

free_twice_runs : plain_run free_twice 1 0 ≡ ends [] 0 0 16
free_twice_runs = refl

-- ## Tests

-- (if TEST (%put 1) (%put 2))
abbrev tests : Expression → Source
tests e = program 0 (1 ∷ 1 ∷ []) (branch e (put 0 (number (pos 1))) (put 1 (number (pos 2))) ∷ [])

-- only #f counts as false
nil_is_true_runs : plain_run (tests (constant Nil)) 1 0 ≡ ends (codes "1") 0 0 0
unfolding digits
nil_is_true_runs = refl

zero_is_true_runs : plain_run (tests (number (pos 0))) 1 0 ≡ ends (codes "1") 0 0 0
unfolding digits
zero_is_true_runs = refl

unspecified_is_true_runs : plain_run (tests (constant Unspecified)) 1 0 ≡ ends (codes "1") 0 0 0
unfolding digits
unspecified_is_true_runs = refl

false_is_false_runs : plain_run (tests (boolean false)) 1 0 ≡ ends (codes "2") 0 0 0
unfolding digits
false_is_false_runs = refl

-- ## Assignments of what is unset, and operands that are too few

-- (set! x 5) (%put x) (define x 1)
abbrev set_first : Source
set_first = program 1 (1 ∷ []) (set_global 0 (number (pos 5)) ∷ put 0 (global 0) ∷ define 0 (number (pos 1)) ∷ [])

set_before_definition_runs : plain_run set_first 1 0 ≡ ends (codes "5") 0 0 0
unfolding digits
set_before_definition_runs = refl

-- (letrec ((a (begin (set! b 5) (%put b))) (b 1)) (%put b))
abbrev set_in_init : Source
set_in_init = program 0 (2 ∷ 1 ∷ 1 ∷ []) (letrec 0 (expressions (set_and_put ∷ number (pos 1) ∷ [])) (put 2 (local 0)) ∷ [])
  where
    set_and_put : Expression
    set_and_put = sequence (expressions (set_local 0 (number (pos 5)) ∷ put 1 (local 0) ∷ []))

set_in_letrec_runs : plain_run set_in_init 1 0 ≡ ends (codes "51") 0 0 32
unfolding digits
set_in_letrec_runs = refl

-- ((lambda (a . r) 1)) and ((lambda (a . r) 1) 2)
abbrev with_rest : List Expression → Source
with_rest operands = program 0 (suc (length operands) ∷ []) (apply 0 (lambda [] 2 true (number (pos 1))) operands ∷ [])

too_few_with_rest_runs : plain_run (with_rest []) 1 9 ≡ ends [] 68 0 16
too_few_with_rest_runs = refl

just_enough_with_rest_runs : plain_run (with_rest (number (pos 2) ∷ [])) 1 9 ≡ ends [] 0 1 16
just_enough_with_rest_runs = refl

-- ## Variables

-- closures share the variables around them:
-- (let ((n 0)) (let ((next (lambda () (set! n (+ n 1)))) (get (lambda () n))) (next) (%put (get))))
abbrev shared : Source
shared = program 0 (1 ∷ 2 ∷ 2 ∷ 1 ∷ 1 ∷ 1 ∷ [])
    (bind 0 (expressions (number (pos 0) ∷ []))
    (bind 1 (expressions (function 0 (set_local 0 (two 2 Add (local 0) (number (pos 1)))) ∷ function 0 (local 0) ∷ []))
    (sequence (expressions (apply 3 (local 1) [] ∷ put 4 (apply 5 (local 0) []) ∷ [])))) ∷ [])

shared_runs : plain_run shared 1 9 ≡ ends (codes "1") 0 2 48
unfolding digits
shared_runs = refl

-- each call binds variables of its own:
-- (define (f x) (lambda () x)) (define a (f 1)) (define b (f 2)) (%put (a)) (%put (b))
abbrev own_variables : Source
own_variables = program 3 (2 ∷ 2 ∷ 1 ∷ 1 ∷ 1 ∷ 1 ∷ [])
    (define 0 (function 1 (function 0 (local 0)))
    ∷ define 1 (apply 0 (global 0) (number (pos 1) ∷ []))
    ∷ define 2 (apply 1 (global 0) (number (pos 2) ∷ []))
    ∷ put 2 (apply 3 (global 1) [])
    ∷ put 4 (apply 5 (global 2) []) ∷ [])

own_variables_runs : plain_run own_variables 1 9 ≡ ends (codes "12") 0 4 48
unfolding digits
own_variables_runs = refl

-- ## Checks of a call

-- the operator is looked at before the depth and the entries that are left: (1 2)
operator_first_runs : plain_run call_of_number 0 0 ≡ ends [] 67 0 0
operator_first_runs = refl
