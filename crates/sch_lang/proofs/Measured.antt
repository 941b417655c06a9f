-- Two measures of the same tree go together where they do so at each node.
use Rattle.std.proofs.Common.{◌+◌, ◌≤◌, arith}
use Rattle.sch_word.specs.trees.Shape.{procedures_size}
use Rattle.sch_word.specs.trees.BoundVariables.{formals_in, bound_in}
use Rattle.sch_word.proofs.Shaped.{Joins, AtMost, at_most_joins}
use Rattle.sch_lang.specs.Tree.{Expression, Expressions, Lambdas, constant, literal, local, global, set_local, set_global, define, branch, sequence, bind, fix, letrec, lambda, call, operation, no_expressions, and_expression, no_lambdas, and_lambda, count_lambdas, Source}
use Rattle.sch_lang.specs.Measures.{over, over_each, over_lambdas, over_source, procedures, shape, node_size, program_size, variables_bound, node_and_bound, nodes_and_bound}

module _ {A : Type 0} (Related : A → A → Type 0) (nothing : A) (join : A → A → A) (joins : Joins Related nothing join) (here here' : Expression → A)
    (node : (e : Expression) → Related (here e) (here' e)) where
  mutual
    pub over_related : (e : Expression) → Related (over nothing join here e) (over nothing join here' e)
    over_related (constant c) = node (constant c)
    over_related (literal n) = node (literal n)
    over_related (local k) = node (local k)
    over_related (global g) = node (global g)
    over_related (set_local k e) = joins.joined _ _ _ _ (node (set_local k e)) (over_related e)
    over_related (set_global g e) = joins.joined _ _ _ _ (node (set_global g e)) (over_related e)
    over_related (define g e) = joins.joined _ _ _ _ (node (define g e)) (over_related e)
    over_related (branch a b c) =
        joins.joined _ _ _ _ (node (branch a b c)) (joins.joined _ _ _ _ (over_related a) (joins.joined _ _ _ _ (over_related b) (over_related c)))
    over_related (sequence es) = joins.joined _ _ _ _ (node (sequence es)) (each_related es)
    over_related (bind site es e) = joins.joined _ _ _ _ (node (bind site es e)) (joins.joined _ _ _ _ (each_related es) (over_related e))
    over_related (fix ls e) = joins.joined _ _ _ _ (node (fix ls e)) (joins.joined _ _ _ _ (lambdas_related ls) (over_related e))
    over_related (letrec site es e) = joins.joined _ _ _ _ (node (letrec site es e)) (joins.joined _ _ _ _ (each_related es) (over_related e))
    over_related (lambda name formals rest e) = joins.joined _ _ _ _ (node (lambda name formals rest e)) (over_related e)
    over_related (call site f es) = joins.joined _ _ _ _ (node (call site f es)) (joins.joined _ _ _ _ (over_related f) (each_related es))
    over_related (operation site which es) = joins.joined _ _ _ _ (node (operation site which es)) (each_related es)

    pub each_related : (es : Expressions) → Related (over_each nothing join here es) (over_each nothing join here' es)
    each_related no_expressions = joins.empty
    each_related (and_expression e es) = joins.joined _ _ _ _ (over_related e) (each_related es)

    pub lambdas_related : (ls : Lambdas) → Related (over_lambdas nothing join here ls) (over_lambdas nothing join here' ls)
    lambdas_related no_lambdas = joins.empty
    lambdas_related (and_lambda name formals rest e ls) = joins.joined _ _ _ _ (over_related e) (lambdas_related ls)

  pub source_related : (p : Source) → Related (over_source nothing join here p) (over_source nothing join here' p)
  source_related p = joins.joined _ _ _ _ (lambdas_related p.library) (each_related p.forms)

-- ## Sizes

-- a program binds no more variables than it has nodes and bound variables
pub bound_within_nodes : (p : Source) → variables_bound p ≤ nodes_and_bound p
bound_within_nodes p =
    omega (arith, source_related AtMost 0 (λ a b. a + b) at_most_joins node_and_bound (λ e. bound_in (shape e)) (λ e. omega arith) p)

formals_within : (ls : Lambdas) → count_lambdas ls + formals_in (procedures ls) ≤ procedures_size (procedures ls)
formals_within no_lambdas = omega arith
formals_within (and_lambda name formals rest e ls) = omega (arith, formals_within ls)

node_within : (e : Expression) → node_and_bound e ≤ node_size e
node_within (constant c) = omega arith
node_within (literal n) = omega arith
node_within (local k) = omega arith
node_within (global g) = omega arith
node_within (set_local k e) = omega arith
node_within (set_global g e) = omega arith
node_within (define g e) = omega arith
node_within (branch a b c) = omega arith
node_within (sequence es) = omega arith
node_within (bind site es e) = omega arith
node_within (fix ls e) = omega (arith, formals_within ls)
node_within (letrec site es e) = omega arith
node_within (lambda name formals rest e) = omega arith
node_within (call site f es) = omega arith
node_within (operation site which es) = omega arith

-- what a program has of nodes and bound variables is a part of its size
pub nodes_within_size : (p : Source) → nodes_and_bound p ≤ program_size p
nodes_within_size p =
    omega (arith, formals_within p.library, source_related AtMost 0 (λ a b. a + b) at_most_joins node_size node_and_bound node_within p)
