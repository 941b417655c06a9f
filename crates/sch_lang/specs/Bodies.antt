-- The bodies of a program in the order of a listing: the library's procedures, each followed by the
-- procedures inside it, and then the top-level forms, each followed by those inside it.
use Rattle.std.specs.Prelude.{ℕ, max, false, List, [], ◌∷◌, ◌++◌, codes}
use Rattle.sch_word.specs.trees.Shape.{Procedure}
use Rattle.sch_lang.specs.Tree.{Expression, Expressions, Lambdas, constant, literal, local, global, set_local, set_global, define, branch, sequence, bind, fix, letrec, lambda, call, operation, no_expressions, and_expression, no_lambdas, and_lambda, Source}
use Rattle.sch_lang.specs.Measures.{variables, procedure}

-- a top-level form is a body that nothing binds anything for
abbrev pub form : Expression → Procedure
form e = record { name = codes "form"; formals = 0; rest = false; free = 0; variables = variables e [] }

-- the bodies inside a tree in the order of the text, an outer one before its inner ones
abbrev mutual
  pub bodies : Expression → List Procedure
  bodies (constant c) = []
  bodies (literal n) = []
  bodies (local k) = []
  bodies (global g) = []
  bodies (set_local k e) = bodies e
  bodies (set_global g e) = bodies e
  bodies (define g e) = bodies e
  bodies (branch a b c) = bodies a ++ (bodies b ++ bodies c)
  bodies (sequence es) = bodies_each es
  bodies (bind site es e) = bodies_each es ++ bodies e
  bodies (fix ls e) = bodies_lambdas ls ++ bodies e
  bodies (letrec site es e) = bodies_each es ++ bodies e
  bodies (lambda name formals rest e) = procedure name formals rest e ∷ bodies e
  bodies (call site f es) = bodies f ++ bodies_each es
  bodies (operation site which es) = bodies_each es

  pub bodies_each : Expressions → List Procedure
  bodies_each no_expressions = []
  bodies_each (and_expression e es) = bodies e ++ bodies_each es

  pub bodies_lambdas : Lambdas → List Procedure
  bodies_lambdas no_lambdas = []
  bodies_lambdas (and_lambda name formals rest e ls) = procedure name formals rest e ∷ (bodies e ++ bodies_lambdas ls)

abbrev pub bodies_forms : Expressions → List Procedure
bodies_forms no_expressions = []
bodies_forms (and_expression e es) = form e ∷ (bodies e ++ bodies_forms es)

abbrev pub bodies_of : Source → List Procedure
bodies_of p = bodies_lambdas p.library ++ bodies_forms p.forms

-- the largest count of variables over some bodies
abbrev pub largest : List Procedure → ℕ
largest [] = 0
largest (p ∷ ps) = max p.variables (largest ps)

abbrev pub most_variables : Source → ℕ
most_variables p = largest (bodies_of p)
