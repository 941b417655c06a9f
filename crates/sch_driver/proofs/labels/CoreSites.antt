-- A core program has no more calls and primitives, and no more tests, than nodes.
use Rattle.std.proofs.Common.{ℕ, ◌+◌, ◌≤◌, List, [], ◌++◌, length, arith, length-append}
use Rattle.sch_word.specs.trees.Shape.{call_site_of, tests_in}
use Rattle.sch_word.proofs.Shaped.{AtMost, at_most_joins}
use Rattle.sch_lang.specs.Tree.{Expression, Expressions, Lambdas, constant, literal, local, global, set_local, set_global, define, branch}
use Rattle.sch_lang.specs.Tree.{sequence, bind, fix, letrec, lambda, call, operation, no_expressions, and_expression, no_lambdas}
use Rattle.sch_lang.specs.Tree.{and_lambda, Source}
use Rattle.sch_lang.specs.Measures.{call_sites_of, node_and_bound, nodes_and_bound, over, over_each, over_lambdas, shape, tests_of}
use Rattle.sch_lang.proofs.BodyCounts.{counted as nodes, counted_each as nodes_each, counted_lambdas as nodes_in_lambdas}
use Rattle.sch_lang.proofs.Measured.{source_related}

-- ## Tests

tests_of_node : (e : Expression) → tests_in (shape e) ≤ node_and_bound e
tests_of_node (constant c) = omega arith
tests_of_node (literal n) = omega arith
tests_of_node (local k) = omega arith
tests_of_node (global g) = omega arith
tests_of_node (set_local k e) = omega arith
tests_of_node (set_global g e) = omega arith
tests_of_node (define g e) = omega arith
tests_of_node (branch a b c) = omega arith
tests_of_node (sequence es) = omega arith
tests_of_node (bind site es e) = omega arith
tests_of_node (fix ls e) = omega arith
tests_of_node (letrec site es e) = omega arith
tests_of_node (lambda name formals rest e) = omega arith
tests_of_node (call site f es) = omega arith
tests_of_node (operation site which es) = omega arith

pub tests_within : (p : Source) → tests_of p ≤ nodes_and_bound p
tests_within p = omega (arith, source_related AtMost 0 (λ a b. a + b) at_most_joins node_and_bound (λ e. tests_in (shape e)) tests_of_node p)

-- ## Calls and primitives

abbrev calls : Expression → List ℕ
calls = over [] (λ a b. a ++ b) (λ e. call_site_of (shape e))

abbrev calls_each : Expressions → List ℕ
calls_each = over_each [] (λ a b. a ++ b) (λ e. call_site_of (shape e))

abbrev calls_lambdas : Lambdas → List ℕ
calls_lambdas = over_lambdas [] (λ a b. a ++ b) (λ e. call_site_of (shape e))

mutual
  calls_within : (e : Expression) → length (calls e) ≤ nodes e
  calls_within (constant c) = omega arith
  calls_within (literal n) = omega arith
  calls_within (local k) = omega arith
  calls_within (global g) = omega arith
  calls_within (set_local k e) = omega (arith, calls_within e)
  calls_within (set_global g e) = omega (arith, calls_within e)
  calls_within (define g e) = omega (arith, calls_within e)
  calls_within (branch a b c) =
      omega (arith, calls_within a, calls_within b, calls_within c, length-append (calls a) (calls b ++ calls c), length-append (calls b) (calls c))
  calls_within (sequence es) = omega (arith, calls_within_each es)
  calls_within (bind site es e) = omega (arith, calls_within_each es, calls_within e, length-append (calls_each es) (calls e))
  calls_within (fix ls e) = omega (arith, calls_within_lambdas ls, calls_within e, length-append (calls_lambdas ls) (calls e))
  calls_within (letrec site es e) = omega (arith, calls_within_each es, calls_within e, length-append (calls_each es) (calls e))
  calls_within (lambda name formals rest e) = omega (arith, calls_within e)
  calls_within (call site f es) = omega (arith, calls_within f, calls_within_each es, length-append (calls f) (calls_each es))
  calls_within (operation site which es) = omega (arith, calls_within_each es)

  calls_within_each : (es : Expressions) → length (calls_each es) ≤ nodes_each es
  calls_within_each no_expressions = omega arith
  calls_within_each (and_expression e es) = omega (arith, calls_within e, calls_within_each es, length-append (calls e) (calls_each es))

  calls_within_lambdas : (ls : Lambdas) → length (calls_lambdas ls) ≤ nodes_in_lambdas ls
  calls_within_lambdas no_lambdas = omega arith
  calls_within_lambdas (and_lambda name formals rest e ls) =
      omega (arith, calls_within e, calls_within_lambdas ls, length-append (calls e) (calls_lambdas ls))

pub call_sites_within : (p : Source) → length (call_sites_of p) ≤ nodes_and_bound p
call_sites_within p =
    omega (arith, calls_within_lambdas p.library, calls_within_each p.forms, length-append (calls_lambdas p.library) (calls_each p.forms))
