-- The bodies of a program, and how many variables each may need in the languages to come.
use Rattle.std.specs.Prelude.{ℕ, zero, suc, ◌+◌, Bool, true, false, not, List, [], ◌∷◌, ◌++◌, length, codes}
use Rattle.sch_cells.specs.Tree.{Tree, Trees, Lambdas, Source, constant, literal, variable, global, set_variable, set_global, define, branch, sequence, bind, fix, letrec, lambda, call, operation, new_cells, cell_get, cell_set, no_trees, and_tree, no_lambdas, and_lambda, count, count_lambdas}
use Rattle.sch_word.specs.trees.Bindings.{Bindings, bound_to, with_variables, without}
use Rattle.sch_word.specs.trees.Shape.{Procedure}
use Rattle.sch_word.specs.values.Options.{or_false}
use Rattle.sch_word.specs.trees.VariableCounts.{one_unless, twice_if, three_each}
use Rattle.sch_cells.specs.declared.tree.NewCell.{NewCell}
use Rattle.sch_cells.specs.Variables.{free, assigns}

-- A variable of a Rec counts three times; any other that is bound counts twice where it is assigned
-- anywhere, and once where it is not. An operator, an operand, a value that is set or defined and a
-- part of a sequence before its last each count one more, but not where they are a constant, a literal,
-- or a variable of the same body that itself counts once. Inner lambdas are bodies of their own.

-- With its return address and its closure a body has two variables more.

-- `once` tells of the body's own variables which of them count once
abbrev pub counts_nothing : Tree → (once : Bindings Bool) → Bool
counts_nothing (constant c) once = true
counts_nothing (literal n) once = true
counts_nothing (variable x) once = or_false (bound_to x once)
counts_nothing _ once = false

-- of the m variables from x on, which are not assigned
abbrev pub unassigned : (x m : ℕ) → Tree → List Bool
unassigned x zero e = []
unassigned x (suc m) e = not (assigns e x) ∷ unassigned (suc x) m e

abbrev pub all_same : ℕ → Bool → List Bool
all_same zero b = []
all_same (suc m) b = b ∷ all_same m b

abbrev pub bound_count : (x m : ℕ) → Tree → ℕ
bound_count x zero e = 0
bound_count x (suc m) e = twice_if (assigns e x) + bound_count (suc x) m e

abbrev pub once_with_cells : List NewCell → Bindings Bool → Bindings Bool
once_with_cells [] once = once
once_with_cells (c ∷ cs) once = once_with_cells cs ((c.variable, true) ∷ once)

abbrev mutual
  pub variables : Tree → (once : Bindings Bool) → ℕ
  variables (constant c) once = 0
  variables (literal n) once = 0
  variables (variable x) once = 0
  variables (global g) once = 0
  variables (set_variable x e) once = one_unless (counts_nothing e once) + variables e once
  variables (set_global g e) once = one_unless (counts_nothing e once) + variables e once
  variables (define g e) once = one_unless (counts_nothing e once) + variables e once
  variables (branch a b c) once = variables a once + (variables b once + variables c once)
  variables (sequence es) once = variables_parts es once
  variables (bind site first es e) once =
      variables_each es once + (bound_count first (count es) e + variables e (with_variables first (unassigned first (count es) e) once))
  variables (fix first ls e) once = count_lambdas ls + variables e (with_variables first (all_same (count_lambdas ls) true) once)
  variables (letrec site first es e) once =
      three_each (count es) + (variables_each es (with_variables first (all_same (count es) false) once) + variables e (with_variables first (all_same (count es) false) once))
  variables (lambda name first formals rest e) once = 0
  variables (call site spread f es) once = one_unless (counts_nothing f once) + (variables f once + variables_operands es once)
  variables (operation site which es) once = variables_operands es once
  variables (new_cells cs e) once = length cs + variables e (once_with_cells cs once)
  variables (cell_get x) once = 0
  variables (cell_set x e) once = one_unless (counts_nothing e once) + variables e once

  pub variables_each : Trees → (once : Bindings Bool) → ℕ
  variables_each no_trees once = 0
  variables_each (and_tree e es) once = variables e once + variables_each es once

  pub variables_operands : Trees → (once : Bindings Bool) → ℕ
  variables_operands no_trees once = 0
  variables_operands (and_tree e es) once = one_unless (counts_nothing e once) + (variables e once + variables_operands es once)

  pub variables_parts : Trees → (once : Bindings Bool) → ℕ
  variables_parts no_trees once = 0
  variables_parts (and_tree e no_trees) once = variables e once
  variables_parts (and_tree e (and_tree e' es)) once =
      one_unless (counts_nothing e once) + (variables e once + variables_parts (and_tree e' es) once)

-- the body of a lambda
abbrev pub body_variables : (first formals : ℕ) → Tree → ℕ
body_variables first formals e = bound_count first formals e + variables e (with_variables first (unassigned first formals e) [])

-- ## The bodies of a program

abbrev pub procedure : (name : List ℕ) → (first formals : ℕ) → (rest : Bool) → Tree → Procedure
procedure name first formals rest e = record {
  name = name;
  formals = formals;
  rest = rest;
  free = length (without first formals (free e));
  variables = body_variables first formals e;
}

-- some lambdas as procedures
abbrev pub procedures : Lambdas → List Procedure
procedures no_lambdas = []
procedures (and_lambda name first formals rest e ls) = procedure name first formals rest e ∷ procedures ls

-- the name of a top-level form's body
abbrev pub form_name : List ℕ
form_name = codes "form"

abbrev pub form : Tree → Procedure
form e = record { name = form_name; formals = 0; rest = false; free = 0; variables = variables e [] }

-- the bodies inside a tree in reading order, an outer one before its inner ones
abbrev mutual
  pub bodies : Tree → List Procedure
  bodies (constant c) = []
  bodies (literal n) = []
  bodies (variable x) = []
  bodies (global g) = []
  bodies (set_variable x e) = bodies e
  bodies (set_global g e) = bodies e
  bodies (define g e) = bodies e
  bodies (branch a b c) = bodies a ++ (bodies b ++ bodies c)
  bodies (sequence es) = bodies_each es
  bodies (bind site first es e) = bodies_each es ++ bodies e
  bodies (fix first ls e) = bodies_lambdas ls ++ bodies e
  bodies (letrec site first es e) = bodies_each es ++ bodies e
  bodies (lambda name first formals rest e) = procedure name first formals rest e ∷ bodies e
  bodies (call site spread f es) = bodies f ++ bodies_each es
  bodies (operation site which es) = bodies_each es
  bodies (new_cells cs e) = bodies e
  bodies (cell_get x) = []
  bodies (cell_set x e) = bodies e

  pub bodies_each : Trees → List Procedure
  bodies_each no_trees = []
  bodies_each (and_tree e es) = bodies e ++ bodies_each es

  pub bodies_lambdas : Lambdas → List Procedure
  bodies_lambdas no_lambdas = []
  bodies_lambdas (and_lambda name first formals rest e ls) = procedure name first formals rest e ∷ (bodies e ++ bodies_lambdas ls)

-- each form, followed by the bodies inside it
abbrev pub bodies_forms : Trees → List Procedure
bodies_forms no_trees = []
bodies_forms (and_tree e es) = form e ∷ (bodies e ++ bodies_forms es)

-- all bodies of a program: the library's with their inner ones, then the forms with theirs
abbrev pub bodies_of : Source → List Procedure
bodies_of p = bodies_lambdas p.library ++ bodies_forms p.forms
