-- What closing makes of small programs: fields in the order in which variables are free, a group whose first
-- procedure takes the second, a variable that is free in a procedure inside, and a cell in a body.
use Rattle.std.proofs.Common.{◌≡◌, refl, Bool, true, false, [], ◌∷◌}
use Rattle.sch_cells.specs.Covered.{is_covered_program}
use Rattle.sch_cells.specs.Measures as before
use Rattle.sch_cells.specs.Tree.{variable, fix, lambda, call, no_lambdas, and_lambda, trees, Source}
use Rattle.sch_cells.specs.Examples.{function, program, nested_lambdas, even_odd, assigned_formal_boxed}
use Rattle.sch_flat.specs.Covered as to
use Rattle.sch_flat.specs.Measures as behind
use Rattle.sch_flat.specs.Tree as flat
use Rattle.sch_flat.specs.Tree.{bound, free, make_closure, fix_closures}
use Rattle.sch_flat.specs.Examples as made
use Rattle.sch_flat.specs.Examples.{nested, assigned, body}
use Rattle.sch_closure.specs.Closed.{closed_source}

nested_is : closed_source nested_lambdas ≡ nested
nested_is = refl

even_odd_is : closed_source even_odd ≡ made.even_odd
even_odd_is = refl

assigned_is : closed_source assigned_formal_boxed ≡ assigned
assigned_is = refl

-- (lambda (a b c) (lambda () (c a b a)))
in_order : closed_source (program 3 (4 ∷ []) (function 0 3 (function 3 0 (call 0 false (variable 2) (trees (variable 0 ∷ (variable 1 ∷ (variable 0 ∷ [])))))) ∷ []))
    ≡ made.program (4 ∷ [])
    (body 0 3 0 (make_closure (made.made 1 (bound 2 ∷ (bound 1 ∷ (bound 0 ∷ [])))))
    ∷ (body 3 0 3 (flat.call 0 false (flat.variable (free 0)) (flat.trees (flat.variable (free 2) ∷ (flat.variable (free 1) ∷ (flat.variable (free 2) ∷ []))))) ∷ []))
    (make_closure (made.made 0 []))
in_order = refl

-- (lambda (x . y) (letrec ((f (lambda () (letrec ((g (lambda () (f y)))) g)))) f))
in_a_group : closed_source (program 4 (2 ∷ [])
    (lambda [] 0 2 true (fix 2 (and_lambda [] 3 0 false (fix 3 (and_lambda [] 4 0 false (call 0 false (variable 2) (trees (variable 1 ∷ []))) no_lambdas) (variable 3)) no_lambdas) (variable 2)) ∷ []))
    ≡ made.program (2 ∷ [])
    (record { name = []; first = 0; formals = 2; rest = true; fields = 0; code = fix_closures 2 (made.made 1 (bound 2 ∷ (bound 1 ∷ [])) ∷ []) (flat.variable (bound 2)) }
    ∷ (body 3 0 2 (fix_closures 3 (made.made 2 (free 0 ∷ (free 1 ∷ [])) ∷ []) (flat.variable (bound 3)))
    ∷ (body 4 0 2 (flat.call 0 false (flat.variable (free 0)) (flat.trees (flat.variable (free 1) ∷ []))) ∷ [])))
    (make_closure (made.made 0 []))
in_a_group = refl

-- ## Weights, before and after: of three procedures (6, 4, 4), and of a group of two (5 each)

nested_weight : (before.weight nested_lambdas ∷ behind.weight nested ∷ []) ≡ 57 ∷ 57 ∷ []
nested_weight = refl

group_weight : (before.weight even_odd ∷ behind.weight made.even_odd ∷ []) ≡ 112 ∷ 112 ∷ []
group_weight = refl

-- ## Covered programs, before and after

group_covered : (is_covered_program even_odd ∷ to.is_covered_program made.even_odd ∷ []) ≡ true ∷ true ∷ []
group_covered = refl

-- a library of one procedure, which calls its formal with it
abbrev calling : (rest spread : Bool) → Source
calling rest spread = record {
  statics = even_odd.statics;
  library = and_lambda [] 0 1 rest (call 0 spread (variable 0) (trees (variable 0 ∷ []))) no_lambdas;
  forms = trees [];
  sites = 2 ∷ [];
  variables = 1;
}

library_covered : (is_covered_program (calling false false) ∷ to.is_covered_program (closed_source (calling false false)) ∷ []) ≡ true ∷ true ∷ []
library_covered = refl

-- a procedure that takes a list, and a call that spreads one
rest_row : (is_covered_program (calling true false) ∷ to.is_covered_program (closed_source (calling true false)) ∷ []) ≡ true ∷ true ∷ []
rest_row = refl

spread_row : (is_covered_program (calling false true) ∷ to.is_covered_program (closed_source (calling false true)) ∷ []) ≡ false ∷ false ∷ []
spread_row = refl
