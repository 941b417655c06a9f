-- A program has no more bodies than nodes and bound variables.
use Rattle.std.proofs.Common.{ℕ, suc, ◌+◌, ◌≤◌, List, length, ◌++◌, arith, length-append}
use Rattle.sch_word.specs.trees.Shape.{Procedure}
use Rattle.sch_lang.specs.Tree.{Expression, Expressions, Lambdas, constant, literal, local, global, set_local, set_global, define, branch, sequence, bind, fix, letrec, lambda, call, operation, no_expressions, and_expression, no_lambdas, and_lambda, Source}
use Rattle.sch_lang.specs.Bodies.{bodies, bodies_each, bodies_lambdas, bodies_forms, bodies_of}
use Rattle.sch_lang.specs.Measures.{over, over_each, over_lambdas, node_and_bound, nodes_and_bound}

-- the nodes and the bound variables of a tree, of trees and of lambdas
abbrev pub counted : Expression → ℕ
counted = over 0 (λ a b. a + b) node_and_bound

abbrev pub counted_each : Expressions → ℕ
counted_each = over_each 0 (λ a b. a + b) node_and_bound

abbrev pub counted_lambdas : Lambdas → ℕ
counted_lambdas = over_lambdas 0 (λ a b. a + b) node_and_bound

both : (ps qs : List Procedure) (m n : ℕ) → length ps ≤ m → length qs ≤ n → length (ps ++ qs) ≤ m + n
both ps qs m n g h = omega (arith, length-append ps qs, g, h)

mutual
  -- a tree has a node more than it has bodies inside
  bodies_within : (e : Expression) → suc (length (bodies e)) ≤ counted e
  bodies_within (constant c) = omega arith
  bodies_within (literal n) = omega arith
  bodies_within (local k) = omega arith
  bodies_within (global g) = omega arith
  bodies_within (set_local k e) = omega (arith, bodies_within e)
  bodies_within (set_global g e) = omega (arith, bodies_within e)
  bodies_within (define g e) = omega (arith, bodies_within e)
  bodies_within (branch a b c) =
      omega (arith, bodies_within a, bodies_within b, bodies_within c, length-append (bodies a) (bodies b ++ bodies c), length-append (bodies b) (bodies c))
  bodies_within (sequence es) = omega (arith, bodies_within_each es)
  bodies_within (bind site es e) = omega (arith, bodies_within_each es, bodies_within e, length-append (bodies_each es) (bodies e))
  bodies_within (fix ls e) = omega (arith, bodies_within_lambdas ls, bodies_within e, length-append (bodies_lambdas ls) (bodies e))
  bodies_within (letrec site es e) = omega (arith, bodies_within_each es, bodies_within e, length-append (bodies_each es) (bodies e))
  bodies_within (lambda name formals rest e) = omega (arith, bodies_within e)
  bodies_within (call site f es) = omega (arith, bodies_within f, bodies_within_each es, length-append (bodies f) (bodies_each es))
  bodies_within (operation site which es) = omega (arith, bodies_within_each es)

  bodies_within_each : (es : Expressions) → length (bodies_each es) ≤ counted_each es
  bodies_within_each no_expressions = omega arith
  bodies_within_each (and_expression e es) = omega (arith, bodies_within e, bodies_within_each es, length-append (bodies e) (bodies_each es))

  bodies_within_lambdas : (ls : Lambdas) → length (bodies_lambdas ls) ≤ counted_lambdas ls
  bodies_within_lambdas no_lambdas = omega arith
  bodies_within_lambdas (and_lambda name formals rest e ls) =
      omega (arith, bodies_within e, bodies_within_lambdas ls, length-append (bodies e) (bodies_lambdas ls))

bodies_within_forms : (es : Expressions) → length (bodies_forms es) ≤ counted_each es
bodies_within_forms no_expressions = omega arith
bodies_within_forms (and_expression e es) =
    omega (arith, bodies_within e, bodies_within_forms es, length-append (bodies e) (bodies_forms es))

pub bodies_within_nodes : (p : Source) → length (bodies_of p) ≤ nodes_and_bound p
bodies_within_nodes p =
    omega (arith, bodies_within_lambdas p.library, bodies_within_forms p.forms, length-append (bodies_lambdas p.library) (bodies_forms p.forms))
