-- Small programs as flat trees; proofs/Examples.antt says what each of them does.
use Rattle.std.specs.Prelude.{ℕ, Bool, false, ◌&&◌, pos, List, [], ◌∷◌, Some}
use Rattle.sch_word.specs.declared.constant.Const.TheVariants.{Fixnum}
use Rattle.sch_word.specs.declared.primitive.Primitive.{Primitive}
use Rattle.sch_word.specs.declared.primitive.Primitive.TheVariants.{Add, Subtract, Equal, Put}
use Rattle.sch_word.specs.values.Literals.{no_literals}
use Rattle.sch_flat.specs.Tree.{Variable, bound, free, Made, Tree, Body, Source, constant, variable, branch, sequence, make_closure, fix_closures, call, operation, new_cells, cell_get, cell_set, trees}
use Rattle.sch_flat.specs.Valid.{is_closed, is_formed, within_levels, in_order, sited, statics_known}

-- ## Ways to write a program

abbrev pub number : ℕ → Tree
number n = constant (Fixnum (pos n))

abbrev pub put : (site : ℕ) → Tree → Tree
put site e = operation site Put (trees (e ∷ []))

abbrev pub two : (site : ℕ) → Primitive → Tree → Tree → Tree
two site which a b = operation site which (trees (a ∷ (b ∷ [])))

abbrev pub apply : (site : ℕ) → Tree → List Tree → Tree
apply site f es = call site false f (trees es)

abbrev pub made : (label : ℕ) → List Variable → Made
made label fields = record { label = label; fields = fields }

abbrev pub body : (first formals fields : ℕ) → Tree → Body
body first formals fields code = record { name = []; first = first; formals = formals; rest = false; fields = fields; code = code }

-- a program of bodies and of one form, with no globals
abbrev pub program : (sites : List ℕ) → List Body → Tree → Source
program sites bodies form = record {
  statics = record { symbols = []; literals = no_literals; globals = [] };
  library = [];
  bodies = bodies;
  forms = trees (form ∷ []);
  starts = 0 ∷ [];
  sites = sites;
}

abbrev pub is_valid : Source → Bool
is_valid p = is_closed p && (is_formed p && (within_levels p && (in_order p && (sited p && statics_known p))))

-- ## Programs

-- (%put ((((lambda (x y) (lambda () (lambda () x))) 7 8)))), with a field that is taken from a field; the record
-- of the procedure inside takes these
abbrev pub nested_with : List Variable → (innermost : Tree) → Source
nested_with fields innermost = program (1 ∷ (1 ∷ (1 ∷ (3 ∷ []))))
    (body 0 2 0 (make_closure (made 1 (bound 0 ∷ []))) ∷ (body 2 0 1 (make_closure (made 2 fields)) ∷ (body 2 0 1 innermost ∷ [])))
    (put 0 (apply 1 (apply 2 (apply 3 (make_closure (made 0 [])) (number 7 ∷ (number 8 ∷ []))) []) []))

abbrev pub nested : Source
nested = nested_with (free 0 ∷ []) (variable (free 0))

-- (letrec ((even (lambda (n) (if (= n 0) 0 (odd (- n 1))))) (odd (lambda (n) (if (= n 0) 1 (even (- n 1))))))
--   (%put (even 3))), where the record of `even` takes this variable
abbrev pub even_odd_with : Variable → Source
even_odd_with other = program (2 ∷ (2 ∷ (2 ∷ (2 ∷ (2 ∷ (2 ∷ (1 ∷ (2 ∷ []))))))))
    (body 2 1 1 (branch (two 0 Equal (variable (bound 2)) (number 0)) (number 0) (apply 1 (variable (free 0)) (two 2 Subtract (variable (bound 2)) (number 1) ∷ [])))
    ∷ (body 3 1 1 (branch (two 3 Equal (variable (bound 3)) (number 0)) (number 1) (apply 4 (variable (free 0)) (two 5 Subtract (variable (bound 3)) (number 1) ∷ []))) ∷ []))
    (fix_closures 0 (made 0 (other ∷ []) ∷ (made 1 (bound 0 ∷ []) ∷ [])) (put 6 (apply 7 (variable (bound 0)) (number 3 ∷ []))))

abbrev pub even_odd : Source
even_odd = even_odd_with (bound 1)

-- ((lambda (x) (set! x (+ x 1)) (%put x)) 4), with the cell of x in this variable
abbrev pub assigned_with : (variable : ℕ) → Source
assigned_with x = program (2 ∷ (2 ∷ (1 ∷ [])))
    (body 0 1 0 (new_cells (record { variable = x; content = Some (bound 0) } ∷ [])
    (sequence (trees (cell_set (bound x) (two 1 Add (cell_get (bound x)) (number 1)) ∷ (put 2 (cell_get (bound x)) ∷ []))))) ∷ [])
    (apply 0 (make_closure (made 0 [])) (number 4 ∷ []))

abbrev pub assigned : Source
assigned = assigned_with 1
