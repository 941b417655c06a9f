-- A body with few nodes and bound variables has few variables and few free ones, and so has each procedure in it: a small definition
-- has too much of nothing.
use Rattle.std.proofs.Common.{◌≡◌, ◌≤◌, ℕ, zero, suc, ◌+◌, ◌*◌, Bool, true, false, List, [], ◌∷◌, length, None, refl, arith, le-leb}
use Rattle.std.proofs.lemmas.Bool.{and_from, leb-true}
use Rattle.sch_word.specs.trees.Shape.{Procedure, max_variables, max_free_variables}
use Rattle.sch_word.specs.trees.BoundVariables.{formals_in}
use Rattle.sch_word.specs.trees.NumberSets.{has, unless, union}
use Rattle.sch_lang.specs.Tree.{Expression, Expressions, Lambdas, constant, literal, local, global, set_local, set_global, define, branch, sequence, bind, fix, letrec, lambda, call, operation, no_expressions, and_expression, no_lambdas, and_lambda, count, count_lambdas}
use Rattle.sch_lang.specs.Variables.{assigns, free, free_each, free_lambdas, outside, outside_one}
use Rattle.sch_word.specs.trees.VariableCounts.{one_unless, twice_if, three_each}
use Rattle.sch_lang.specs.Measures.{procedure, procedures, counts_nothing, onto_assigned, onto_all, bound_count, variables, variables_each, variables_operands, variables_parts, body_variables}
use Rattle.sch_lang.proofs.BodyCounts.{counted as nodes, counted_each as nodes_each, counted_lambdas as nodes_in_lambdas}
use Rattle.sch_variable_counts.specs.Within.{each_procedure, each_procedure_in, each_lambda, has_few_variables, has_few_free}
use Rattle.sch_sketch.specs.DraftMeasures.{size}
use Rattle.sch_link_tables.specs.Numbered.{numbered}
use Rattle.sch_link_tables.specs.Programs.{Definition}
use Rattle.sch_link_program.proofs.ProgramSize.{numbered_size}
use Rattle.sch_core.specs.Excess.{excess, definition_excess}
use Rattle.sch_core.specs.SmallDefinitions.{max_small, is_small}

-- ## Variables

at_most_one : (b : Bool) → one_unless b ≤ 1
at_most_one true = omega arith
at_most_one false = omega arith

at_most_two : (b : Bool) → twice_if b ≤ 2
at_most_two true = omega arith
at_most_two false = omega arith

bound_within : (n : ℕ) (e : Expression) → bound_count n e ≤ 2 * n
bound_within zero e = omega arith
bound_within (suc n) e = omega (arith, at_most_two (assigns e n), bound_within n e)

three_within : (n : ℕ) → three_each n ≤ 3 * n
three_within zero = omega arith
three_within (suc n) = omega (arith, three_within n)

mutual
  -- a node is an operand at most, and a variable that it binds counts at most three times
  variables_within : (e : Expression) (once : List Bool) → suc (variables e once) ≤ 3 * nodes e
  variables_within (constant c) once = omega arith
  variables_within (literal n) once = omega arith
  variables_within (local k) once = omega arith
  variables_within (global g) once = omega arith
  variables_within (set_local k e) once = omega (arith, at_most_one (counts_nothing e once), variables_within e once)
  variables_within (set_global g e) once = omega (arith, at_most_one (counts_nothing e once), variables_within e once)
  variables_within (define g e) once = omega (arith, at_most_one (counts_nothing e once), variables_within e once)
  variables_within (branch a b c) once = omega (arith, variables_within a once, variables_within b once, variables_within c once)
  variables_within (sequence es) once = omega (arith, parts_within es once)
  variables_within (bind site es e) once =
      omega (arith, each_within es once, bound_within (count es) e, variables_within e (onto_assigned (count es) e once))
  variables_within (fix ls e) once = omega (arith, variables_within e (onto_all (count_lambdas ls) true once))
  variables_within (letrec site es e) once =
      omega (arith, three_within (count es), each_within es (onto_all (count es) false once), variables_within e (onto_all (count es) false once))
  variables_within (lambda name formals rest e) once = omega arith
  variables_within (call site f es) once = omega (arith, at_most_one (counts_nothing f once), variables_within f once, operands_within es once)
  variables_within (operation site which es) once = omega (arith, operands_within es once)

  each_within : (es : Expressions) (once : List Bool) → variables_each es once ≤ 3 * nodes_each es
  each_within no_expressions once = omega arith
  each_within (and_expression e es) once = omega (arith, variables_within e once, each_within es once)

  operands_within : (es : Expressions) (once : List Bool) → variables_operands es once ≤ 3 * nodes_each es
  operands_within no_expressions once = omega arith
  operands_within (and_expression e es) once =
      omega (arith, at_most_one (counts_nothing e once), variables_within e once, operands_within es once)

  parts_within : (es : Expressions) (once : List Bool) → variables_parts es once ≤ 3 * nodes_each es
  parts_within no_expressions once = omega arith
  parts_within (and_expression e no_expressions) once = omega (arith, variables_within e once)
  parts_within (and_expression e (and_expression f fs)) once =
      omega (arith, at_most_one (counts_nothing e once), variables_within e once, parts_within (and_expression f fs) once)

-- ## Free variables

unless_longer : (b : Bool) (x : ℕ) (xs : List ℕ) → length (unless b x xs) ≤ suc (length xs)
unless_longer true x xs = omega arith
unless_longer false x xs = omega arith

union_longer : (xs ys : List ℕ) → length (union xs ys) ≤ length xs + length ys
union_longer [] ys = omega arith
union_longer (x ∷ xs) ys = omega (arith, unless_longer (has x (union xs ys)) x (union xs ys), union_longer xs ys)

outside_one_shorter : (xs : List ℕ) → length (outside_one xs) ≤ length xs
outside_one_shorter [] = omega arith
outside_one_shorter (zero ∷ xs) = omega (arith, outside_one_shorter xs)
outside_one_shorter (suc x ∷ xs) = omega (arith, outside_one_shorter xs)

outside_shorter : (n : ℕ) (xs : List ℕ) → length (outside n xs) ≤ length xs
outside_shorter zero xs = omega arith
outside_shorter (suc n) xs = omega (arith, outside_one_shorter (outside n xs), outside_shorter n xs)

mutual
  free_within : (e : Expression) → length (free e) ≤ nodes e
  free_within (constant c) = omega arith
  free_within (literal n) = omega arith
  free_within (local k) = omega arith
  free_within (global g) = omega arith
  free_within (set_local k e) = omega (arith, union_longer (k ∷ []) (free e), free_within e)
  free_within (set_global g e) = omega (arith, free_within e)
  free_within (define g e) = omega (arith, free_within e)
  free_within (branch a b c) =
      omega (arith, union_longer (free a) (union (free b) (free c)), union_longer (free b) (free c), free_within a, free_within b, free_within c)
  free_within (sequence es) = omega (arith, free_within_each es)
  free_within (bind site es e) =
      omega (arith, union_longer (free_each es) (outside (count es) (free e)), outside_shorter (count es) (free e), free_within_each es, free_within e)
  free_within (fix ls e) =
      omega (arith, outside_shorter (count_lambdas ls) (union (free_lambdas ls) (free e)), union_longer (free_lambdas ls) (free e), free_within_lambdas ls, free_within e)
  free_within (letrec site es e) =
      omega (arith, outside_shorter (count es) (union (free_each es) (free e)), union_longer (free_each es) (free e), free_within_each es, free_within e)
  free_within (lambda name formals rest e) = omega (arith, outside_shorter formals (free e), free_within e)
  free_within (call site f es) = omega (arith, union_longer (free f) (free_each es), free_within f, free_within_each es)
  free_within (operation site which es) = omega (arith, free_within_each es)

  free_within_each : (es : Expressions) → length (free_each es) ≤ nodes_each es
  free_within_each no_expressions = omega arith
  free_within_each (and_expression e es) = omega (arith, union_longer (free e) (free_each es), free_within e, free_within_each es)

  free_within_lambdas : (ls : Lambdas) → length (free_lambdas ls) ≤ nodes_in_lambdas ls
  free_within_lambdas no_lambdas = omega arith
  free_within_lambdas (and_lambda name formals rest e ls) =
      omega (arith, union_longer (outside formals (free e)) (free_lambdas ls), outside_shorter formals (free e), free_within e, free_within_lambdas ls)

-- ## Procedures

-- a test that holds of each small procedure holds of each procedure in a small expression
module _ (most : ℕ) (test : Procedure → Bool) (holds : (name : List ℕ) (formals : ℕ) (rest : Bool) (e : Expression) → formals + nodes e ≤ most → test (procedure name formals rest e) ≡ true) where
  mutual
    tested : (e : Expression) → nodes e ≤ most → each_procedure test e ≡ true
    tested (constant c) h = refl
    tested (literal n) h = refl
    tested (local k) h = refl
    tested (global g) h = refl
    tested (set_local k e) h = tested e (omega (arith, h))
    tested (set_global g e) h = tested e (omega (arith, h))
    tested (define g e) h = tested e (omega (arith, h))
    tested (branch a b c) h = and_from _ _ (tested a (omega (arith, h))) (and_from _ _ (tested b (omega (arith, h))) (tested c (omega (arith, h))))
    tested (sequence es) h = tested_each es (omega (arith, h))
    tested (bind site es e) h = and_from _ _ (tested_each es (omega (arith, h))) (tested e (omega (arith, h)))
    tested (fix ls e) h = and_from _ _ (tested_lambdas ls (omega (arith, h))) (tested e (omega (arith, h)))
    tested (letrec site es e) h = and_from _ _ (tested_each es (omega (arith, h))) (tested e (omega (arith, h)))
    tested (lambda name formals rest e) h = and_from _ _ (holds name formals rest e (omega (arith, h))) (tested e (omega (arith, h)))
    tested (call site f es) h = and_from _ _ (tested f (omega (arith, h))) (tested_each es (omega (arith, h)))
    tested (operation site which es) h = tested_each es (omega (arith, h))

    tested_each : (es : Expressions) → nodes_each es ≤ most → each_procedure_in test es ≡ true
    tested_each no_expressions h = refl
    tested_each (and_expression e es) h = and_from _ _ (tested e (omega (arith, h))) (tested_each es (omega (arith, h)))

    tested_lambdas : (ls : Lambdas) → formals_in (procedures ls) + nodes_in_lambdas ls ≤ most → each_lambda test ls ≡ true
    tested_lambdas no_lambdas h = refl
    tested_lambdas (and_lambda name formals rest e ls) h =
        and_from _ _ (and_from _ _ (holds name formals rest e (omega (arith, h))) (tested e (omega (arith, h)))) (tested_lambdas ls (omega (arith, h)))

few_variables_of : (name : List ℕ) (formals : ℕ) (rest : Bool) (e : Expression) → formals + nodes e ≤ max_small → has_few_variables (procedure name formals rest e) ≡ true
few_variables_of name formals rest e h =
    le-leb (body_variables formals e) max_variables (omega (arith, h, bound_within formals e, variables_within e (onto_assigned formals e [])))

few_free_of : (name : List ℕ) (formals : ℕ) (rest : Bool) (e : Expression) → formals + nodes e ≤ max_small → has_few_free (procedure name formals rest e) ≡ true
few_free_of name formals rest e h =
    le-leb (length (outside formals (free e))) max_free_variables (omega (arith, h, outside_shorter formals (free e), free_within e))

-- a body of this size has too much of nothing
small_excess : (formals : ℕ) (e : Expression) → formals + nodes e ≤ max_small → excess formals e ≡ None
small_excess formals e h =
    let inner : nodes e ≤ max_small = omega (arith, h) in
    let few = and_from _ _ (few_variables_of [] formals false e h) (tested max_small has_few_variables few_variables_of e inner) in
    let few_free = and_from _ _ (few_free_of [] formals false e h) (tested max_small has_few_free few_free_of e inner) in
    rw (few, few_free) refl

-- a small definition is not counted
pub small_definition : (d : Definition) → is_small d ≡ true → definition_excess d ≡ None
small_definition d h =
    small_excess d.formals (numbered [] [] [] None d.body 0 0)
    (omega (arith, leb-true (1 + d.formals + size d.body) max_small h, numbered_size [] [] [] None d.body 0 0))
