-- Which variables are free and which are assigned, by the bytes that are charged for them: one row for each
-- node in which they may stand. A procedure with f free variables is charged 8 + 8 f bytes, rounded up to a
-- multiple of 16, and a cell 16. Each row is computed.
use Rattle.std.proofs.Common.{◌≡◌, ℕ, refl, false, List, [], ◌∷◌, None, Some}
use Rattle.sch_word.specs.declared.constant.Const.TheVariants.{Boolean}
use Rattle.sch_word.specs.declared.primitive.Primitive.TheVariants.{Add, Eq}
use Rattle.sch_word.specs.values.Literals.{no_literals}
use Rattle.sch_word.specs.runs.Orders.{in_text_order}
use Rattle.sch_word.specs.runs.Runs.{Run}
use Rattle.sch_cells.specs.BoxedMeaning as boxed
use Rattle.sch_word.specs.runs.WorkedRuns.{ends}
use Rattle.sch_cells.specs.Examples.{number, function, apply, new_cell, two}
use Rattle.sch_cells.specs.Tree.{Tree, Source, constant, variable, set_variable, set_global, define, branch, sequence, bind, fix, letrec, new_cells, cell_get, cell_set, no_lambdas, and_lambda, trees}
use Rattle.sch_cells.specs.UnboxedMeaning as unboxed

-- one form, with one global and four variables
abbrev form : (sites : List ℕ) → Tree → Source
form sites e = record {
  statics = record { symbols = []; literals = no_literals; globals = None ∷ [] };
  library = no_lambdas;
  forms = trees (e ∷ []);
  sites = sites;
  variables = 4;
}

-- with a heap of 4,096 bytes
abbrev unboxed_run : Source → (entries : ℕ) → Run
unboxed_run p entries = unboxed.run p (in_text_order p.sites) 4096 1 [] entries

abbrev boxed_run : Source → (entries : ℕ) → Run
boxed_run p entries = boxed.run p (in_text_order p.sites) 4096 1 [] entries

-- ## Assigned variables

-- (let ((x 1)) P), where x has the number 0
abbrev around : (parts : List ℕ) → Tree → Source
around parts e = form (1 ∷ parts) (bind 0 0 (trees (number 1 ∷ [])) e)

-- (set! x 2)
abbrev set_x : Tree
set_x = set_variable 0 (number 2)

-- (if #f 1 (set! x 2))
assigned_in_branch : unboxed_run (around [] (branch (constant (Boolean false)) (number 1) set_x)) 0 ≡ ends [] 0 0 16
assigned_in_branch = refl

-- (if #f (set! x 2) 1), so what is never done counts too
assigned_in_consequent : unboxed_run (around [] (branch (constant (Boolean false)) set_x (number 1))) 0 ≡ ends [] 0 0 16
assigned_in_consequent = refl

-- (if (set! x 2) 1 1)
assigned_in_test : unboxed_run (around [] (branch set_x (number 1) (number 1))) 0 ≡ ends [] 0 0 16
assigned_in_test = refl

-- (set! g (set! x 2))
assigned_in_set_global : unboxed_run (around [] (set_global 0 set_x)) 0 ≡ ends [] 0 0 16
assigned_in_set_global = refl

-- (define g (set! x 2))
assigned_in_define : unboxed_run (around [] (define 0 set_x)) 0 ≡ ends [] 0 0 16
assigned_in_define = refl

-- (eq? 1 (set! x 2))
assigned_in_operation : unboxed_run (around (2 ∷ []) (two 1 Eq (number 1) set_x)) 0 ≡ ends [] 0 0 16
assigned_in_operation = refl

-- (let ((y (set! x 2))) 0) and (let ((y 1)) (set! x 2))
assigned_in_let_init : unboxed_run (around (1 ∷ []) (bind 1 1 (trees (set_x ∷ [])) (number 0))) 0 ≡ ends [] 0 0 16
assigned_in_let_init = refl

assigned_in_let_body : unboxed_run (around (1 ∷ []) (bind 1 1 (trees (number 1 ∷ [])) set_x)) 0 ≡ ends [] 0 0 16
assigned_in_let_body = refl

-- ((lambda (y) 0) (set! x 2)), whose procedure has 16 bytes more, and ((begin (set! x 2) (lambda () 0)))
assigned_in_operand : unboxed_run (around (2 ∷ []) (apply 1 (function 1 1 (number 0)) (set_x ∷ []))) 1 ≡ ends [] 0 1 32
assigned_in_operand = refl

assigned_in_operator : unboxed_run (around (1 ∷ []) (apply 1 (sequence (trees (set_x ∷ function 1 0 (number 0) ∷ []))) [])) 1 ≡ ends [] 0 1 32
assigned_in_operator = refl

-- (letrec ((a (set! x 2))) 0), which has a cell for a too, and (letrec ((a 1)) (set! x 2))
assigned_in_letrec_init : unboxed_run (around (1 ∷ []) (letrec 1 1 (trees (set_x ∷ [])) (number 0))) 0 ≡ ends [] 0 0 32
assigned_in_letrec_init = refl

assigned_in_letrec_body : unboxed_run (around (1 ∷ []) (letrec 1 1 (trees (number 1 ∷ [])) set_x)) 0 ≡ ends [] 0 0 32
assigned_in_letrec_body = refl

-- (lambda (y) (set! x 2))
assigned_in_lambda : unboxed_run (around [] (function 1 1 set_x)) 0 ≡ ends [] 0 0 32
assigned_in_lambda = refl

-- (letrec ((f (lambda (y) (set! x 2)))) 0) and (letrec ((f (lambda () 0))) (set! x 2)), where f is a group of its own
assigned_in_fix_lambda : unboxed_run (around [] (fix 1 (and_lambda [] 2 1 false set_x no_lambdas) (number 0))) 0 ≡ ends [] 0 0 32
assigned_in_fix_lambda = refl

assigned_in_fix_body : unboxed_run (around [] (fix 1 (and_lambda [] 2 0 false (number 0) no_lambdas) set_x)) 0 ≡ ends [] 0 0 32
assigned_in_fix_body = refl

-- ## Free variables

-- (let ((x 1) (y 2)) (lambda () Q)), where x has the number 0 and y the number 1
abbrev procedure_of : (parts : List ℕ) → Tree → Source
procedure_of parts e = form (2 ∷ parts) (bind 0 0 (trees (number 1 ∷ number 2 ∷ [])) (function 2 0 e))

-- (+ x y)
abbrev x_and_y : (site : ℕ) → Tree
x_and_y site = two site Add (variable 0) (variable 1)

-- (set! g (+ x y)) and (define g (+ x y))
free_in_set_global : unboxed_run (procedure_of (2 ∷ []) (set_global 0 (x_and_y 1))) 0 ≡ ends [] 0 0 32
free_in_set_global = refl

free_in_define : unboxed_run (procedure_of (2 ∷ []) (define 0 (x_and_y 1))) 0 ≡ ends [] 0 0 32
free_in_define = refl

-- (set! x y), with a cell for x
free_in_set : unboxed_run (procedure_of [] (set_variable 0 (variable 1))) 0 ≡ ends [] 0 0 48
free_in_set = refl

-- (if (+ x y) 1 1), (if 1 (+ x y) 1) and (if 1 1 (+ x y))
free_in_test : unboxed_run (procedure_of (2 ∷ []) (branch (x_and_y 1) (number 1) (number 1))) 0 ≡ ends [] 0 0 32
free_in_test = refl

free_in_consequent : unboxed_run (procedure_of (2 ∷ []) (branch (number 1) (x_and_y 1) (number 1))) 0 ≡ ends [] 0 0 32
free_in_consequent = refl

free_in_branch : unboxed_run (procedure_of (2 ∷ []) (branch (number 1) (number 1) (x_and_y 1))) 0 ≡ ends [] 0 0 32
free_in_branch = refl

-- (begin 1 (+ x y))
free_in_sequence : unboxed_run (procedure_of (2 ∷ []) (sequence (trees (number 1 ∷ x_and_y 1 ∷ [])))) 0 ≡ ends [] 0 0 32
free_in_sequence = refl

-- (let ((z (+ x y))) z) and (let ((z 1)) (+ x y))
free_in_let_init : unboxed_run (procedure_of (1 ∷ 2 ∷ []) (bind 1 2 (trees (x_and_y 2 ∷ [])) (variable 2))) 0 ≡ ends [] 0 0 32
free_in_let_init = refl

free_in_let_body : unboxed_run (procedure_of (1 ∷ 2 ∷ []) (bind 1 2 (trees (number 1 ∷ [])) (x_and_y 2))) 0 ≡ ends [] 0 0 32
free_in_let_body = refl

-- (letrec ((z (+ x y))) z) and (letrec ((z 1)) (+ x y))
free_in_letrec_init : unboxed_run (procedure_of (1 ∷ 2 ∷ []) (letrec 1 2 (trees (x_and_y 2 ∷ [])) (variable 2))) 0 ≡ ends [] 0 0 32
free_in_letrec_init = refl

free_in_letrec_body : unboxed_run (procedure_of (1 ∷ 2 ∷ []) (letrec 1 2 (trees (number 1 ∷ [])) (x_and_y 2))) 0 ≡ ends [] 0 0 32
free_in_letrec_body = refl

-- (letrec ((f (lambda (z) (+ x y)))) 0) and (letrec ((f (lambda () 0))) (+ x y)), where f is a group of its own
free_in_fix_lambda : unboxed_run (procedure_of (2 ∷ []) (fix 2 (and_lambda [] 3 1 false (x_and_y 1) no_lambdas) (number 0))) 0 ≡ ends [] 0 0 32
free_in_fix_lambda = refl

free_in_fix_body : unboxed_run (procedure_of (2 ∷ []) (fix 2 (and_lambda [] 3 0 false (number 0) no_lambdas) (x_and_y 1))) 0 ≡ ends [] 0 0 32
free_in_fix_body = refl

-- (lambda (z) (+ x y))
free_in_lambda : unboxed_run (procedure_of (2 ∷ []) (function 2 1 (x_and_y 1))) 0 ≡ ends [] 0 0 32
free_in_lambda = refl

-- (x y)
free_in_call : unboxed_run (procedure_of (2 ∷ []) (apply 1 (variable 0) (variable 1 ∷ []))) 0 ≡ ends [] 0 0 32
free_in_call = refl

-- ## Free variables where cells stand for assigned ones

-- new cells of x and y
free_in_new_cells : boxed_run (procedure_of [] (new_cells (new_cell 2 (Some 0) ∷ new_cell 3 (Some 1) ∷ []) (number 0))) 0 ≡ ends [] 0 0 32
free_in_new_cells = refl

-- the cell's own variable is not free
own_cell_is_not_free : boxed_run (procedure_of [] (new_cells (new_cell 2 (Some 0) ∷ []) (cell_get 2))) 0 ≡ ends [] 0 0 16
own_cell_is_not_free = refl

-- a new cell of x, with y in its scope
free_in_scope_of_cells : boxed_run (procedure_of (2 ∷ []) (new_cells (new_cell 2 (Some 0) ∷ []) (two 1 Eq (variable 1) (cell_get 2)))) 0 ≡ ends [] 0 0 32
free_in_scope_of_cells = refl

-- a cell that is read and another that is written: the cells of x and y have 32 bytes
free_in_cells : boxed_run (form (2 ∷ []) (bind 0 0 (trees (number 1 ∷ number 2 ∷ []))
    (new_cells (new_cell 2 (Some 0) ∷ new_cell 3 (Some 1) ∷ []) (function 2 0 (cell_set 2 (cell_get 3)))))) 0 ≡ ends [] 0 0 64
free_in_cells = refl

-- what is written to a cell
free_in_content : boxed_run (procedure_of [] (cell_set 0 (variable 1))) 0 ≡ ends [] 0 0 32
free_in_content = refl
