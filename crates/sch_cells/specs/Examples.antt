-- Small programs as trees of the cell language, most of them in both forms; proofs/Examples.antt says what
-- each of them does.
use Rattle.std.specs.Prelude.{ℕ, false, pos, List, [], ◌∷◌, Option, Some, None}
use Rattle.sch_word.specs.declared.constant.Const.TheVariants.{Fixnum}
use Rattle.sch_word.specs.declared.primitive.Primitive.{Primitive}
use Rattle.sch_word.specs.declared.primitive.Primitive.TheVariants.{Add, Subtract, Equal, Put}
use Rattle.sch_word.specs.values.Literals.{no_literals}
use Rattle.sch_cells.specs.declared.tree.NewCell.{NewCell}
use Rattle.sch_cells.specs.Tree.{Tree, constant, variable, set_variable, branch, sequence, bind, fix, letrec, lambda, call, operation, new_cells, cell_get, cell_set, no_lambdas, and_lambda, trees, Source}

-- ## Ways to write a program

abbrev pub number : ℕ → Tree
number n = constant (Fixnum (pos n))

abbrev pub put : (site : ℕ) → Tree → Tree
put site e = operation site Put (trees (e ∷ []))

abbrev pub two : (site : ℕ) → Primitive → Tree → Tree → Tree
two site which a b = operation site which (trees (a ∷ (b ∷ [])))

-- the formals are the variables from the first number on
abbrev pub function : (first formals : ℕ) → Tree → Tree
function first formals e = lambda [] first formals false e

abbrev pub apply : (site : ℕ) → Tree → List Tree → Tree
apply site f es = call site false f (trees es)

abbrev pub new_cell : (variable : ℕ) → (content : Option ℕ) → NewCell
new_cell x content = record { variable = x; content = content }

-- a program of forms, with a number of variables and no globals
abbrev pub program : (variables : ℕ) → (sites : List ℕ) → List Tree → Source
program variables sites forms = record {
  statics = record { symbols = []; literals = no_literals; globals = [] };
  library = no_lambdas;
  forms = trees forms;
  sites = sites;
  variables = variables;
}

-- ## Programs

-- ((lambda (x) (set! x (+ x 1)) (%put x)) 4)
abbrev pub assigned_formal : Source
assigned_formal = program 1 (2 ∷ (2 ∷ (1 ∷ [])))
    (apply 0 (function 0 1 (sequence (trees (set_variable 0 (two 1 Add (variable 0) (number 1)) ∷ (put 2 (variable 0) ∷ []))))) (number 4 ∷ []) ∷ [])

abbrev pub assigned_formal_boxed : Source
assigned_formal_boxed = program 2 (2 ∷ (2 ∷ (1 ∷ [])))
    (apply 0 (function 0 1 (new_cells (new_cell 1 (Some 0) ∷ []) (sequence (trees (cell_set 1 (two 1 Add (cell_get 1) (number 1)) ∷ (put 2 (cell_get 1) ∷ [])))))) (number 4 ∷ []) ∷ [])

-- (letrec ((a 1) (b a)) (%put b)), whose second init reads what is set only after it
abbrev pub unset_init : Source
unset_init = program 2 (2 ∷ (1 ∷ [])) (letrec 0 0 (trees (number 1 ∷ (variable 0 ∷ []))) (put 1 (variable 1)) ∷ [])

abbrev pub unset_init_boxed : Source
unset_init_boxed = program 4 (2 ∷ (1 ∷ []))
    (new_cells (new_cell 2 None ∷ (new_cell 3 None ∷ []))
    (bind 0 0 (trees (number 1 ∷ (cell_get 2 ∷ [])))
    (sequence (trees (cell_set 2 (variable 0) ∷ (cell_set 3 (variable 1) ∷ (put 1 (cell_get 3) ∷ [])))))) ∷ [])

-- (letrec ((a 1) (b 2)) (%put (+ a b)))
abbrev pub recursive_inits : Source
recursive_inits = program 2 (2 ∷ (1 ∷ (2 ∷ []))) (letrec 0 0 (trees (number 1 ∷ (number 2 ∷ []))) (put 1 (two 2 Add (variable 0) (variable 1))) ∷ [])

abbrev pub recursive_inits_boxed : Source
recursive_inits_boxed = program 4 (2 ∷ (1 ∷ (2 ∷ [])))
    (new_cells (new_cell 2 None ∷ (new_cell 3 None ∷ []))
    (bind 0 0 (trees (number 1 ∷ (number 2 ∷ [])))
    (sequence (trees (cell_set 2 (variable 0) ∷ (cell_set 3 (variable 1) ∷ (put 1 (two 2 Add (cell_get 2) (cell_get 3)) ∷ [])))))) ∷ [])

-- (letrec ((even (lambda (n) (if (= n 0) 0 (odd (- n 1))))) (odd (lambda (n) (if (= n 0) 1 (even (- n 1))))))
--   (%put (even 3))), which is the same in both forms
abbrev pub even_odd : Source
even_odd = program 4 (2 ∷ (2 ∷ (2 ∷ (2 ∷ (2 ∷ (2 ∷ (1 ∷ (2 ∷ []))))))))
    (fix 0
    (and_lambda [] 2 1 false (branch (two 0 Equal (variable 2) (number 0)) (number 0) (apply 1 (variable 1) (two 2 Subtract (variable 2) (number 1) ∷ [])))
    (and_lambda [] 3 1 false (branch (two 3 Equal (variable 3) (number 0)) (number 1) (apply 4 (variable 0) (two 5 Subtract (variable 3) (number 1) ∷ []))) no_lambdas))
    (put 6 (apply 7 (variable 0) (number 3 ∷ []))) ∷ [])

-- (%put ((((lambda (x y) (lambda () (lambda () x))) 7 8)))), with a free variable of a free variable
abbrev pub nested_lambdas : Source
nested_lambdas = program 2 (1 ∷ (1 ∷ (1 ∷ (3 ∷ []))))
    (put 0 (apply 1 (apply 2 (apply 3 (function 0 2 (function 2 0 (function 2 0 (variable 0)))) (number 7 ∷ (number 8 ∷ []))) []) []) ∷ [])

-- a let whose variable is numbered by its first number, with another variable as init
abbrev pub let_of : (first : ℕ) → Source
let_of first = program 2 (1 ∷ (1 ∷ [])) (bind 0 0 (trees (number 1 ∷ [])) (bind 1 first (trees (variable 0 ∷ [])) (variable 0)) ∷ [])
