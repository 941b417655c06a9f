-- What is counted over a tree: any measure of its nodes, its levels, the variables of its bodies, and
-- the measures of the shapes of nodes that all languages have.
use Rattle.std.specs.Prelude.{ℕ, zero, suc, ◌+◌, max, Bool, true, false, ◌&&◌, not, List, [], ◌∷◌, ◌++◌, map, length, slice_get}
use Rattle.sch_word.specs.trees.Bindings.{numbers}
use Rattle.sch_lang.specs.Tree.{Expression, Expressions, Lambdas, constant, literal, local, global, set_local, set_global, define, branch, sequence, bind, fix, letrec, lambda, call, operation, no_expressions, and_expression, no_lambdas, and_lambda, count, count_lambdas, Source}
use Rattle.sch_word.specs.trees.Shape as shapes
use Rattle.sch_word.specs.trees.Shape.{Procedure, Shape, site_of, call_site_of, tests_in, dropped_in, procedures_size, size_of}
use Rattle.sch_word.specs.trees.BoundVariables.{formals_in, bound_in}
use Rattle.sch_word.specs.values.Options.{or_false}
use Rattle.sch_word.specs.trees.VariableCounts.{one_unless, twice_if, three_each}
use Rattle.sch_lang.specs.Variables.{free, outside, assigns}

-- A measure of nodes over a whole tree: `here` at each node, the outer before the inner, in the order
-- of the text, joined. The lambdas of a Fix are no nodes of their own; `here` sees them at the Fix.
module _ {A : Type 0} (nothing : A) (join : A → A → A) (here : Expression → A) where
  abbrev mutual
    pub over : Expression → A
    over (constant c) = here (constant c)
    over (literal n) = here (literal n)
    over (local k) = here (local k)
    over (global g) = here (global g)
    over (set_local k e) = join (here (set_local k e)) (over e)
    over (set_global g e) = join (here (set_global g e)) (over e)
    over (define g e) = join (here (define g e)) (over e)
    over (branch a b c) = join (here (branch a b c)) (join (over a) (join (over b) (over c)))
    over (sequence es) = join (here (sequence es)) (over_each es)
    over (bind site es e) = join (here (bind site es e)) (join (over_each es) (over e))
    over (fix ls e) = join (here (fix ls e)) (join (over_lambdas ls) (over e))
    over (letrec site es e) = join (here (letrec site es e)) (join (over_each es) (over e))
    over (lambda name formals rest e) = join (here (lambda name formals rest e)) (over e)
    over (call site f es) = join (here (call site f es)) (join (over f) (over_each es))
    over (operation site which es) = join (here (operation site which es)) (over_each es)

    pub over_each : Expressions → A
    over_each no_expressions = nothing
    over_each (and_expression e es) = join (over e) (over_each es)

    pub over_lambdas : Lambdas → A
    over_lambdas no_lambdas = nothing
    over_lambdas (and_lambda name formals rest e ls) = join (over e) (over_lambdas ls)

  -- over the library's bodies, then the forms
  abbrev pub over_source : Source → A
  over_source p = join (over_lambdas p.library) (over_each p.forms)

-- a test of every node
abbrev pub every : (Expression → Bool) → Expression → Bool
every test = over true (λ a b. a && b) test

-- ## Levels

-- How deep the nodes of a tree are nested. A lambda of a Fix or of the library is a level, as a Lambda
-- node is, so that a group of procedures has the same levels as a Fix and as a Rec.
abbrev mutual
  pub levels : Expression → ℕ
  levels (constant c) = 1
  levels (literal n) = 1
  levels (local k) = 1
  levels (global g) = 1
  levels (set_local k e) = 1 + levels e
  levels (set_global g e) = 1 + levels e
  levels (define g e) = 1 + levels e
  levels (branch a b c) = 1 + max (levels a) (max (levels b) (levels c))
  levels (sequence es) = 1 + levels_each es
  levels (bind site es e) = 1 + max (levels_each es) (levels e)
  levels (fix ls e) = 1 + max (levels_lambdas ls) (levels e)
  levels (letrec site es e) = 1 + max (levels_each es) (levels e)
  levels (lambda name formals rest e) = 1 + levels e
  levels (call site f es) = 1 + max (levels f) (levels_each es)
  levels (operation site which es) = 1 + levels_each es

  pub levels_each : Expressions → ℕ
  levels_each no_expressions = 0
  levels_each (and_expression e es) = max (levels e) (levels_each es)

  pub levels_lambdas : Lambdas → ℕ
  levels_lambdas no_lambdas = 0
  levels_lambdas (and_lambda name formals rest e ls) = max (1 + levels e) (levels_lambdas ls)

-- ## The variables of a body

-- The variables that a body may need in the languages to come. A variable of a Rec counts three
-- times; any other that is bound counts twice where it is assigned anywhere, and once where it is
-- not. An operator, an operand, a value that is set or defined and a part of a sequence before its
-- last each count one more, but not where they are a constant, a literal, or a variable of the same
-- body that itself counts once. Inner lambdas are bodies of their own.

-- `once` tells of the body's own variables, the nearest first, which of them count once
abbrev pub counts_nothing : Expression → (once : List Bool) → Bool
counts_nothing (constant c) once = true
counts_nothing (literal n) once = true
counts_nothing (local k) once = or_false (slice_get once k)
counts_nothing _ once = false

-- the n nearest variables of a tree, in front of the others, each with whether it counts once
abbrev pub onto_assigned : ℕ → Expression → List Bool → List Bool
onto_assigned bound e once = map (λ j. not (assigns e j)) (numbers 0 bound) ++ once

-- n variables that all count once, or none of which does
abbrev pub onto_all : ℕ → Bool → List Bool → List Bool
onto_all zero each once = once
onto_all (suc bound) each once = each ∷ onto_all bound each once

-- what the n nearest variables of a tree count
abbrev pub bound_count : ℕ → Expression → ℕ
bound_count zero e = 0
bound_count (suc bound) e = twice_if (assigns e bound) + bound_count bound e

abbrev mutual
  pub variables : Expression → (once : List Bool) → ℕ
  variables (constant c) once = 0
  variables (literal n) once = 0
  variables (local k) once = 0
  variables (global g) once = 0
  variables (set_local k e) once = one_unless (counts_nothing e once) + variables e once
  variables (set_global g e) once = one_unless (counts_nothing e once) + variables e once
  variables (define g e) once = one_unless (counts_nothing e once) + variables e once
  variables (branch a b c) once = variables a once + (variables b once + variables c once)
  variables (sequence es) once = variables_parts es once
  variables (bind site es e) once =
      variables_each es once + (bound_count (count es) e + variables e (onto_assigned (count es) e once))
  variables (fix ls e) once = count_lambdas ls + variables e (onto_all (count_lambdas ls) true once)
  variables (letrec site es e) once =
      three_each (count es) + (variables_each es (onto_all (count es) false once) + variables e (onto_all (count es) false once))
  variables (lambda name formals rest e) once = 0
  variables (call site f es) once = one_unless (counts_nothing f once) + (variables f once + variables_operands es once)
  variables (operation site which es) once = variables_operands es once

  -- the inits of a binding
  pub variables_each : Expressions → (once : List Bool) → ℕ
  variables_each no_expressions once = 0
  variables_each (and_expression e es) once = variables e once + variables_each es once

  pub variables_operands : Expressions → (once : List Bool) → ℕ
  variables_operands no_expressions once = 0
  variables_operands (and_expression e es) once = one_unless (counts_nothing e once) + (variables e once + variables_operands es once)

  -- the parts of a sequence
  pub variables_parts : Expressions → (once : List Bool) → ℕ
  variables_parts no_expressions once = 0
  variables_parts (and_expression e no_expressions) once = variables e once
  variables_parts (and_expression e (and_expression e' es)) once =
      one_unless (counts_nothing e once) + (variables e once + variables_parts (and_expression e' es) once)

-- the body of a lambda
abbrev pub body_variables : (formals : ℕ) → Expression → ℕ
body_variables formals e = bound_count formals e + variables e (onto_assigned formals e [])

-- ## Shapes

-- a lambda as a procedure of the text
abbrev pub procedure : (name : List ℕ) → (formals : ℕ) → (rest : Bool) → Expression → Procedure
procedure name formals rest e = record {
  name = name;
  formals = formals;
  rest = rest;
  free = length (outside formals (free e));
  variables = body_variables formals e;
}

abbrev pub procedures : Lambdas → List Procedure
procedures no_lambdas = []
procedures (and_lambda name formals rest e ls) = procedure name formals rest e ∷ procedures ls

-- an atom is a constant, a literal or a variable
abbrev pub one_if_atom : Expression → ℕ
one_if_atom (constant c) = 1
one_if_atom (literal n) = 1
one_if_atom (local k) = 1
one_if_atom _ = 0

-- the atoms among some parts of a sequence, but for the last part
abbrev pub dropped_parts : Expressions → ℕ
dropped_parts no_expressions = 0
dropped_parts (and_expression e no_expressions) = 0
dropped_parts (and_expression e (and_expression e' es)) = one_if_atom e + dropped_parts (and_expression e' es)

abbrev pub shape : Expression → Shape
shape (constant c) = shapes.constant c
shape (literal n) = shapes.literal n
shape (local k) = shapes.variable
shape (global g) = shapes.global g
shape (set_local k e) = shapes.set_variable
shape (set_global g e) = shapes.set_global g
shape (define g e) = shapes.define g
shape (branch a b c) = shapes.branch
shape (sequence es) = shapes.sequence (count es) (dropped_parts es)
shape (bind site es e) = shapes.bind site (count es)
shape (fix ls e) = shapes.fix (count_lambdas ls) (procedures ls)
shape (letrec site es e) = shapes.letrec site (count es)
shape (lambda name formals rest e) = shapes.lambda (procedure name formals rest e)
shape (call site f es) = shapes.call site (count es) false
shape (operation site which es) = shapes.operation site which (count es)

-- ## Sizes

-- a count of the shapes of a program's nodes, in all
abbrev pub total : (Shape → ℕ) → Source → ℕ
total amount p = over_source 0 (λ a b. a + b) (λ e. amount (shape e)) p

-- a node, the variables that it binds, and for each lambda one, its formals and its free variables
abbrev pub node_size : Expression → ℕ
node_size e = size_of (shape e)

-- all nodes, formals, variables bound, lambdas with their free variables, and forms of a program
abbrev pub program_size : Source → ℕ
program_size p = procedures_size (procedures p.library) + count p.forms + over_source 0 (λ a b. a + b) node_size p

-- how many variables a program binds
abbrev pub variables_bound : Source → ℕ
variables_bound p = formals_in (procedures p.library) + total bound_in p

-- a node and the variables that it binds
abbrev pub node_and_bound : Expression → ℕ
node_and_bound e = suc (bound_in (shape e))

-- the nodes and the bound variables of a program; a lambda of the library is a node
abbrev pub nodes_and_bound : Source → ℕ
nodes_and_bound p =
    count_lambdas p.library + formals_in (procedures p.library) + over_source 0 (λ a b. a + b) node_and_bound p

-- ## Sites

-- the site of a node and how many parts it has
abbrev pub site_here : Expression → List (ℕ × ℕ)
site_here e = site_of (shape e)

-- the sites of a program in the order of the text
abbrev pub sites_of : Source → List (ℕ × ℕ)
sites_of p = over_source [] (λ a b. a ++ b) site_here p

-- the sites of its calls and primitives
abbrev pub call_sites_of : Source → List ℕ
call_sites_of p = over_source [] (λ a b. a ++ b) (λ e. call_site_of (shape e)) p

-- ## Tests and dropped atoms

-- how many If nodes
abbrev pub tests_of : Source → ℕ
tests_of = total tests_in

-- how many atoms sequences drop
abbrev pub dropped_of : Source → ℕ
dropped_of = total dropped_in
