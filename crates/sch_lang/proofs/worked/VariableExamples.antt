-- Which variables are free and which are assigned, by the bytes that are charged for them: one row for each
-- node in which they may stand. A procedure with f free variables is charged 8 + 8 f bytes, rounded up to a
-- multiple of 16, and a cell 16. Each row is computed.
use Rattle.std.proofs.Common.{◌≡◌, ◌+◌, ℕ, refl, false, List, [], ◌∷◌, pos}
use Rattle.sch_word.specs.declared.primitive.Primitive.TheVariants.{Add, Eq}
use Rattle.sch_lang.specs.Tree.{Expression, Source, expressions, local, set_local, set_global, define, branch, sequence, bind, fix, letrec, no_lambdas, and_lambda}
use Rattle.sch_word.specs.runs.WorkedRuns.{ends}
use Rattle.sch_lang.specs.Examples.{plain_run, program, number, boolean, function, apply, two}

-- ## Assigned variables

-- (let ((x 1)) P), with one global g and, in P, this many parts at each site from the second on
abbrev around : (parts : List ℕ) → Expression → Source
around parts e = program 1 (1 ∷ parts) (bind 0 (expressions (number (pos 1) ∷ [])) e ∷ [])

-- (set! x 2) in a place where a number of variables are bound nearer than x
abbrev set_x : (nearer : ℕ) → Expression
set_x nearer = set_local nearer (number (pos 2))

-- (if #f 1 (set! x 2))
assigned_in_branch : plain_run (around [] (branch (boolean false) (number (pos 1)) (set_x 0))) 1 0 ≡ ends [] 0 0 16
assigned_in_branch = refl

-- (if #f (set! x 2) 1), so what is never done counts too
assigned_in_consequent : plain_run (around [] (branch (boolean false) (set_x 0) (number (pos 1)))) 1 0 ≡ ends [] 0 0 16
assigned_in_consequent = refl

-- (if (set! x 2) 1 1)
assigned_in_test : plain_run (around [] (branch (set_x 0) (number (pos 1)) (number (pos 1)))) 1 0 ≡ ends [] 0 0 16
assigned_in_test = refl

-- (set! g (set! x 2))
assigned_in_set_global : plain_run (around [] (set_global 0 (set_x 0))) 1 0 ≡ ends [] 0 0 16
assigned_in_set_global = refl

-- (define g (set! x 2))
assigned_in_define : plain_run (around [] (define 0 (set_x 0))) 1 0 ≡ ends [] 0 0 16
assigned_in_define = refl

-- (eq? 1 (set! x 2))
assigned_in_operation : plain_run (around (2 ∷ []) (two 1 Eq (number (pos 1)) (set_x 0))) 1 0 ≡ ends [] 0 0 16
assigned_in_operation = refl

-- (let ((y (set! x 2))) 0)
assigned_in_let_init : plain_run (around (1 ∷ []) (bind 1 (expressions (set_x 0 ∷ [])) (number (pos 0)))) 1 0 ≡ ends [] 0 0 16
assigned_in_let_init = refl

-- (let ((y 1)) (set! x 2))
assigned_in_let_body : plain_run (around (1 ∷ []) (bind 1 (expressions (number (pos 1) ∷ [])) (set_x 1))) 1 0 ≡ ends [] 0 0 16
assigned_in_let_body = refl

-- ((lambda (y) 0) (set! x 2)), whose procedure has 16 bytes more
assigned_in_operand : plain_run (around (2 ∷ []) (apply 1 (function 1 (number (pos 0))) (set_x 0 ∷ []))) 1 1 ≡ ends [] 0 1 32
assigned_in_operand = refl

-- ((begin (set! x 2) (lambda () 0)))
assigned_in_operator : plain_run (around (1 ∷ []) (apply 1 (sequence (expressions (set_x 0 ∷ function 0 (number (pos 0)) ∷ []))) [])) 1 1 ≡ ends [] 0 1 32
assigned_in_operator = refl

-- (letrec ((a (set! x 2))) 0), which has a cell for a too
assigned_in_letrec_init : plain_run (around (1 ∷ []) (letrec 1 (expressions (set_x 1 ∷ [])) (number (pos 0)))) 1 0 ≡ ends [] 0 0 32
assigned_in_letrec_init = refl

-- (letrec ((a 1)) (set! x 2))
assigned_in_letrec_body : plain_run (around (1 ∷ []) (letrec 1 (expressions (number (pos 1) ∷ [])) (set_x 1))) 1 0 ≡ ends [] 0 0 32
assigned_in_letrec_body = refl

-- (lambda (y) (set! x 2)), with x in it
assigned_in_lambda : plain_run (around [] (function 1 (set_x 1))) 1 0 ≡ ends [] 0 0 32
assigned_in_lambda = refl

-- (letrec ((f (lambda (y) (set! x 2)))) 0) and (letrec ((f (lambda () 0))) (set! x 2)), where f is a group of its own
assigned_in_fix_lambda : plain_run (around [] (fix (and_lambda [] 1 false (set_x 2) no_lambdas) (number (pos 0)))) 1 0 ≡ ends [] 0 0 32
assigned_in_fix_lambda = refl

assigned_in_fix_body : plain_run (around [] (fix (and_lambda [] 0 false (number (pos 0)) no_lambdas) (set_x 1))) 1 0 ≡ ends [] 0 0 32
assigned_in_fix_body = refl

-- ## Free variables

-- (let ((x 1) (y 2)) (lambda () Q)), with one global g and, in Q, this many parts at each site from the second on
abbrev procedure_of : (parts : List ℕ) → Expression → Source
procedure_of parts e = program 1 (2 ∷ parts) (bind 0 (expressions (number (pos 1) ∷ number (pos 2) ∷ [])) (function 0 e) ∷ [])

-- (+ x y) in a place where a number of variables are bound nearer than x and y
abbrev x_and_y : (site nearer : ℕ) → Expression
x_and_y site nearer = two site Add (local (1 + nearer)) (local nearer)

-- (set! g (+ x y))
free_in_set_global : plain_run (procedure_of (2 ∷ []) (set_global 0 (x_and_y 1 0))) 1 0 ≡ ends [] 0 0 32
free_in_set_global = refl

-- (define g (+ x y))
free_in_define : plain_run (procedure_of (2 ∷ []) (define 0 (x_and_y 1 0))) 1 0 ≡ ends [] 0 0 32
free_in_define = refl

-- (if (+ x y) 1 1), (if 1 (+ x y) 1) and (if 1 1 (+ x y))
free_in_test : plain_run (procedure_of (2 ∷ []) (branch (x_and_y 1 0) (number (pos 1)) (number (pos 1)))) 1 0 ≡ ends [] 0 0 32
free_in_test = refl

free_in_consequent : plain_run (procedure_of (2 ∷ []) (branch (number (pos 1)) (x_and_y 1 0) (number (pos 1)))) 1 0 ≡ ends [] 0 0 32
free_in_consequent = refl

free_in_branch : plain_run (procedure_of (2 ∷ []) (branch (number (pos 1)) (number (pos 1)) (x_and_y 1 0))) 1 0 ≡ ends [] 0 0 32
free_in_branch = refl

-- (begin 1 (+ x y))
free_in_sequence : plain_run (procedure_of (2 ∷ []) (sequence (expressions (number (pos 1) ∷ x_and_y 1 0 ∷ [])))) 1 0 ≡ ends [] 0 0 32
free_in_sequence = refl

-- (let ((z (+ x y))) z)
free_in_let_init : plain_run (procedure_of (1 ∷ 2 ∷ []) (bind 1 (expressions (x_and_y 2 0 ∷ [])) (local 0))) 1 0 ≡ ends [] 0 0 32
free_in_let_init = refl

-- (let ((z 1)) (+ x y))
free_in_let_body : plain_run (procedure_of (1 ∷ 2 ∷ []) (bind 1 (expressions (number (pos 1) ∷ [])) (x_and_y 2 1))) 1 0 ≡ ends [] 0 0 32
free_in_let_body = refl

-- (letrec ((z (+ x y))) z)
free_in_letrec_init : plain_run (procedure_of (1 ∷ 2 ∷ []) (letrec 1 (expressions (x_and_y 2 1 ∷ [])) (local 0))) 1 0 ≡ ends [] 0 0 32
free_in_letrec_init = refl

-- (letrec ((z 1)) (+ x y))
free_in_letrec_body : plain_run (procedure_of (1 ∷ 2 ∷ []) (letrec 1 (expressions (number (pos 1) ∷ [])) (x_and_y 2 1))) 1 0 ≡ ends [] 0 0 32
free_in_letrec_body = refl

-- (letrec ((f (lambda (z) (+ x y)))) 0) and (letrec ((f (lambda () 0))) (+ x y)), where f is a group of its own
free_in_fix_lambda : plain_run (procedure_of (2 ∷ []) (fix (and_lambda [] 1 false (x_and_y 1 2) no_lambdas) (number (pos 0)))) 1 0 ≡ ends [] 0 0 32
free_in_fix_lambda = refl

free_in_fix_body : plain_run (procedure_of (2 ∷ []) (fix (and_lambda [] 0 false (number (pos 0)) no_lambdas) (x_and_y 1 1))) 1 0 ≡ ends [] 0 0 32
free_in_fix_body = refl

-- (lambda (z) (+ x y))
free_in_lambda : plain_run (procedure_of (2 ∷ []) (function 1 (x_and_y 1 1))) 1 0 ≡ ends [] 0 0 32
free_in_lambda = refl

-- (x y)
free_in_call : plain_run (procedure_of (2 ∷ []) (apply 1 (local 1) (local 0 ∷ []))) 1 0 ≡ ends [] 0 0 32
free_in_call = refl
