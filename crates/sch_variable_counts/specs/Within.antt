-- Which core expressions have few enough variables in their procedures.
use Rattle.std.specs.Prelude.{Bool, true, ◌&&◌, nat_le}
use Rattle.sch_word.specs.trees.Shape.{Procedure, max_variables, max_free_variables}
use Rattle.sch_lang.specs.Tree.{Expression, Expressions, Lambdas, constant, literal, local, global, set_local, set_global, define, branch, sequence, bind, fix, letrec, lambda, call, operation, no_expressions, and_expression, no_lambdas, and_lambda}
use Rattle.sch_lang.specs.Measures.{procedure}

-- a test of every procedure in an expression, the outer before the inner
module _ (test : Procedure → Bool) where
  abbrev mutual
    pub each_procedure : Expression → Bool
    each_procedure (constant c) = true
    each_procedure (literal n) = true
    each_procedure (local k) = true
    each_procedure (global g) = true
    each_procedure (set_local k e) = each_procedure e
    each_procedure (set_global g e) = each_procedure e
    each_procedure (define g e) = each_procedure e
    each_procedure (branch a b c) = each_procedure a && (each_procedure b && each_procedure c)
    each_procedure (sequence es) = each_procedure_in es
    each_procedure (bind site es e) = each_procedure_in es && each_procedure e
    each_procedure (fix ls e) = each_lambda ls && each_procedure e
    each_procedure (letrec site es e) = each_procedure_in es && each_procedure e
    each_procedure (lambda name formals rest e) = test (procedure name formals rest e) && each_procedure e
    each_procedure (call site f es) = each_procedure f && each_procedure_in es
    each_procedure (operation site which es) = each_procedure_in es

    pub each_procedure_in : Expressions → Bool
    each_procedure_in no_expressions = true
    each_procedure_in (and_expression e es) = each_procedure e && each_procedure_in es

    pub each_lambda : Lambdas → Bool
    each_lambda no_lambdas = true
    each_lambda (and_lambda name formals rest e ls) = (test (procedure name formals rest e) && each_procedure e) && each_lambda ls

abbrev pub has_few_variables : Procedure → Bool
has_few_variables p = nat_le p.variables max_variables

abbrev pub has_few_free : Procedure → Bool
has_few_free p = nat_le p.free max_free_variables

-- no procedure in an expression has more than 1,000 variables
abbrev pub few_variables : Expression → Bool
few_variables = each_procedure has_few_variables

-- no procedure in an expression has more than 1,000 free variables
abbrev pub few_free : Expression → Bool
few_free = each_procedure has_few_free
