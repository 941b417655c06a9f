-- The numbers that renaming gives are as many as the variables that the program binds.
use Rattle.std.proofs.Common.{◌≡◌, ℕ, ◌+◌, refl, arith}
use Rattle.sch_word.specs.trees.BoundVariables.{formals_in, bound_in}
use Rattle.sch_lang.specs.Tree.{Expression, Expressions, Lambdas, Source, constant, literal, local, global, set_local, set_global, define, branch, sequence, bind, fix, letrec, lambda, call, operation, no_expressions, and_expression, no_lambdas, and_lambda}
use Rattle.sch_lang.specs.Measures.{over, over_each, over_lambdas, shape, procedures, variables_bound}
use Rattle.sch_rename.specs.Made.{binds, binds_each, binds_lambdas}

abbrev bound : Expression → ℕ
bound e = over 0 (λ a b. a + b) (λ e. bound_in (shape e)) e

abbrev bound_each : Expressions → ℕ
bound_each es = over_each 0 (λ a b. a + b) (λ e. bound_in (shape e)) es

abbrev bound_lambdas : Lambdas → ℕ
bound_lambdas ls = over_lambdas 0 (λ a b. a + b) (λ e. bound_in (shape e)) ls

mutual
  binds_is : (e : Expression) → binds e ≡ bound e
  binds_is (constant c) = refl
  binds_is (literal n) = refl
  binds_is (local k) = refl
  binds_is (global g) = refl
  binds_is (set_local k e) = omega (arith, binds_is e)
  binds_is (set_global g e) = omega (arith, binds_is e)
  binds_is (define g e) = omega (arith, binds_is e)
  binds_is (branch a b c) = omega (arith, binds_is a, binds_is b, binds_is c)
  binds_is (sequence es) = omega (arith, each_is es)
  binds_is (bind site es e) = omega (arith, each_is es, binds_is e)
  binds_is (fix ls e) = omega (arith, lambdas_are ls, binds_is e)
  binds_is (letrec site es e) = omega (arith, each_is es, binds_is e)
  binds_is (lambda name formals rest e) = omega (arith, binds_is e)
  binds_is (call site f es) = omega (arith, binds_is f, each_is es)
  binds_is (operation site which es) = omega (arith, each_is es)

  each_is : (es : Expressions) → binds_each es ≡ bound_each es
  each_is no_expressions = refl
  each_is (and_expression e es) = omega (arith, binds_is e, each_is es)

  lambdas_are : (ls : Lambdas) → binds_lambdas ls ≡ formals_in (procedures ls) + bound_lambdas ls
  lambdas_are no_lambdas = refl
  lambdas_are (and_lambda name formals rest e ls) = omega (arith, binds_is e, lambdas_are ls)

pub program_binds : (p : Source) → binds_lambdas p.library + binds_each p.forms ≡ variables_bound p
program_binds p = omega (arith, lambdas_are p.library, each_is p.forms)
