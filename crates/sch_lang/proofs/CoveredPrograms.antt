-- Each core program is covered where its library has no more procedures than a library may have: none of its calls
-- spreads its last operand.
use Rattle.std.proofs.Common.{◌≡◌, ◌≤◌, true, refl}
use Rattle.std.proofs.lemmas.Bool.{and_from, le-leb}
use Rattle.sch_word.specs.trees.Shape.{max_library}
use Rattle.sch_lang.specs.Covered.{is_covered, are_covered, are_covered_bodies, is_covered_program}
use Rattle.sch_lang.specs.Tree.{Expression, Expressions, Lambdas, constant, literal, local, global, set_local, set_global, define, branch, sequence, bind, fix, letrec, lambda, call, operation, no_expressions, and_expression, no_lambdas, and_lambda, count_lambdas, Source}

mutual
  each_node : (e : Expression) → is_covered e ≡ true
  each_node (constant c) = refl
  each_node (literal n) = refl
  each_node (local k) = refl
  each_node (global g) = refl
  each_node (set_local k e) = each_node e
  each_node (set_global g e) = each_node e
  each_node (define g e) = each_node e
  each_node (branch a b c) = and_from _ _ (each_node a) (and_from _ _ (each_node b) (each_node c))
  each_node (sequence es) = each_part es
  each_node (bind site es e) = and_from _ _ (each_part es) (each_node e)
  each_node (fix ls e) = and_from _ _ (each_body ls) (each_node e)
  each_node (letrec site es e) = and_from _ _ (each_part es) (each_node e)
  each_node (lambda name formals rest e) = each_node e
  each_node (call site f es) = and_from _ _ (each_node f) (each_part es)
  each_node (operation site which es) = each_part es

  each_part : (es : Expressions) → are_covered es ≡ true
  each_part no_expressions = refl
  each_part (and_expression e es) = and_from _ _ (each_node e) (each_part es)

  each_body : (ls : Lambdas) → are_covered_bodies ls ≡ true
  each_body no_lambdas = refl
  each_body (and_lambda name formals rest e ls) = and_from _ _ (each_node e) (each_body ls)

pub program_covered : (p : Source) → count_lambdas p.library ≤ max_library → is_covered_program p ≡ true
program_covered p few =
    and_from _ _ (and_from _ _ (le-leb (count_lambdas p.library) max_library few) (each_body p.library)) (each_part p.forms)
