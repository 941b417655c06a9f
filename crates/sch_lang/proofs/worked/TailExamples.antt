-- Which places are tail contexts (R5RS 3.5), by runs at depth 1: the form calls a procedure at depth 1,
-- so that in the procedure's body only a tail call goes on, and any other is stop 72.
use Rattle.std.proofs.Common.{◌≡◌, ℕ, refl, true, false, List, [], ◌∷◌, pos}
use Rattle.sch_word.specs.declared.primitive.Primitive.TheVariants.{Equal, Subtract, Cdr}
use Rattle.sch_lang.specs.Tree.{Expression, Source, expressions, local, global, set_local, set_global, define, branch, sequence, bind, fix, letrec, no_lambdas, and_lambda}
use Rattle.sch_word.specs.runs.WorkedRuns.{ends}
use Rattle.sch_lang.specs.Examples.{plain_run, program, number, function, apply, one, two}
use Rattle.sch_lang.specs.Valid.{is_valid}

-- ## Tail contexts

-- `(if (= n 0) 0 (f (- n 1)))`, where n is the k-th nearest variable; its sites are the first four
abbrev again : ℕ → Expression
again k = branch (two 0 Equal (local k) (number (pos 0))) (number (pos 0))
    (apply 1 (global 0) (two 2 Subtract (local k) (number (pos 1)) ∷ []))

-- (define (f n) BODY) (f 3), where the body has a Let or a Rec with these inits, at site 4
abbrev thrice : (inits : List ℕ) → Expression → Source
thrice inits body = program 1 (2 ∷ 2 ∷ 2 ∷ 2 ∷ inits)
    (define 0 (function 1 body) ∷ apply 3 (global 0) (number (pos 3) ∷ []) ∷ [])

-- (let ((m 9)) ..)
abbrev in_let : Source
in_let = thrice (1 ∷ []) (bind 4 (expressions (number (pos 9) ∷ [])) (again 1))

-- (letrec ((h (lambda () 1))) ..)
abbrev in_fix : Source
in_fix = thrice [] (fix (and_lambda [] 0 false (number (pos 1)) no_lambdas) (again 1))

-- (letrec ((a 9)) ..)
abbrev in_letrec : Source
in_letrec = thrice (1 ∷ []) (letrec 4 (expressions (number (pos 9) ∷ [])) (again 1))

-- (begin 1 ..)
abbrev in_sequence : Source
in_sequence = thrice [] (sequence (expressions (number (pos 1) ∷ again 0 ∷ [])))

let_body_runs : plain_run in_let 1 9 ≡ ends [] 0 4 16
let_body_runs = refl

fix_body_runs : plain_run in_fix 1 9 ≡ ends [] 0 4 80
fix_body_runs = refl

letrec_body_runs : plain_run in_letrec 1 9 ≡ ends [] 0 4 80
letrec_body_runs = refl

last_of_sequence_runs : plain_run in_sequence 1 9 ≡ ends [] 0 4 16
last_of_sequence_runs = refl

-- (define (g) 7) (define (f) BODY) (f), with one global more
abbrev calls_seven : (sites : List ℕ) → Expression → Source
calls_seven sites body = program 3 (1 ∷ 1 ∷ sites)
    (define 0 (function 0 (number (pos 7))) ∷ define 1 (function 0 body) ∷ apply 1 (global 1) [] ∷ [])

-- the call of g, which is at site 0
abbrev seven : Expression
seven = apply 0 (global 0) []

-- (if 1 (g) 1)
first_arm_runs : plain_run (calls_seven [] (branch (number (pos 1)) seven (number (pos 1)))) 1 9 ≡ ends [] 0 2 32
first_arm_runs = refl

-- ## Other places

-- (begin (g) 1)
earlier_part_runs : plain_run (calls_seven [] (sequence (expressions (seven ∷ number (pos 1) ∷ [])))) 1 9 ≡ ends [] 72 1 32
earlier_part_runs = refl

-- (if (g) 1 2)
test_runs : plain_run (calls_seven [] (branch seven (number (pos 1)) (number (pos 2)))) 1 9 ≡ ends [] 72 1 32
test_runs = refl

-- (set! x (g)) of a global
value_of_global_runs : plain_run (calls_seven [] (set_global 2 seven)) 1 9 ≡ ends [] 72 1 32
value_of_global_runs = refl

-- a definition inside a body, which no text has
value_of_definition_runs : plain_run (calls_seven [] (define 2 seven)) 1 9 ≡ ends [] 72 1 32
value_of_definition_runs = refl

-- (let ((x 1)) (set! x (g))), where x has a cell
abbrev sets_local : Source
sets_local = calls_seven (1 ∷ []) (bind 2 (expressions (number (pos 1) ∷ [])) (set_local 0 seven))

value_of_local_runs : plain_run sets_local 1 9 ≡ ends [] 72 1 48
value_of_local_runs = refl

-- (let ((x (g))) x)
init_runs : plain_run (calls_seven (1 ∷ []) (bind 2 (expressions (seven ∷ [])) (local 0))) 1 9 ≡ ends [] 72 1 32
init_runs = refl

-- (letrec ((x (g))) x)
letrec_init_runs : plain_run (calls_seven (1 ∷ []) (letrec 2 (expressions (seven ∷ [])) (local 0))) 1 9 ≡ ends [] 72 1 48
letrec_init_runs = refl

-- ((g) 1): the operator
operator_runs : plain_run (calls_seven (2 ∷ []) (apply 2 seven (number (pos 1) ∷ []))) 1 9 ≡ ends [] 72 1 32
operator_runs = refl

-- (f (g)): an operand of a call
operand_runs : plain_run (calls_seven (2 ∷ []) (apply 2 (global 1) (seven ∷ []))) 1 9 ≡ ends [] 72 1 32
operand_runs = refl

-- (cdr (g)): an operand of a primitive
primitive_operand_runs : plain_run (calls_seven (1 ∷ []) (one 2 Cdr seven)) 1 9 ≡ ends [] 72 1 32
primitive_operand_runs = refl

-- ## The programs are valid

thrice_valid : (is_valid in_let ≡ true) × (is_valid in_fix ≡ true) × (is_valid in_letrec ≡ true) × (is_valid in_sequence ≡ true)
thrice_valid = (refl, refl, refl, refl)

sets_local_valid : is_valid sets_local ≡ true
sets_local_valid = refl
