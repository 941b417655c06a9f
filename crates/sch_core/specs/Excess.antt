-- What a body has too much of: variables, or free variables (the limits of a compiled program).
use Rattle.std.specs.Prelude.{◌≡◌, ℕ, false, cond, List, [], ◌∷◌, Option, Some, None}
use Rattle.sch_lang.specs.Tree.{Expression, Expressions, Lambdas, lambda, no_expressions, and_expression, no_lambdas, and_lambda, Source}
use Rattle.sch_variable_counts.specs.Within.{few_variables, few_free}
use Rattle.sch_link_tables.specs.Numbered.{numbered}
use Rattle.sch_link_tables.specs.Programs.{Definition}
use Rattle.sch_core.specs.declared.error.Kind.{Kind}
use Rattle.sch_core.specs.declared.error.Kind.TheVariants.{Variables, Free}

-- What an expression has too much of, as a procedure with these formals: more than 1,000 variables in its body or
-- in that of a procedure in it, or as many free ones.
abbrev pub excess : (formals : ℕ) → Expression → Option Kind
excess formals e =
    cond (few_variables (lambda [] formals false e)) (cond (few_free (lambda [] formals false e)) None (Some Free)) (Some Variables)

abbrev pub at_place : {A : Type 0} → ℕ → Option A → Option (A × ℕ) → Option (A × ℕ)
at_place at (Some k) others = Some (k, at)
at_place at None others = others

-- the first form that has too much of something, and its place; a form is a procedure without formals
abbrev pub first_excess : (places : List ℕ) → Expressions → Option (Kind × ℕ)
first_excess (at ∷ places) (and_expression e es) = at_place at (excess 0 e) (first_excess places es)
first_excess _ _ = None

-- ## A program none of whose bodies has too much of anything

abbrev pub LambdasAreFew : Lambdas → Type 0
LambdasAreFew no_lambdas = Unit {0}
LambdasAreFew (and_lambda name n r e ls) = (excess n e ≡ None) × LambdasAreFew ls

abbrev pub FormsAreFew : Expressions → Type 0
FormsAreFew no_expressions = Unit {0}
FormsAreFew (and_expression e es) = (excess 0 e ≡ None) × FormsAreFew es

abbrev pub HasFew : Source → Type 0
HasFew p = LambdasAreFew p.library × FormsAreFew p.forms

-- ## Definitions of a library

-- what the procedure of a definition has too much of; the numbers of its globals, sites and literals are all one
abbrev pub definition_excess : Definition → Option Kind
definition_excess d = excess d.formals (numbered [] [] [] None d.body 0 0)

-- no procedure has too much of anything
abbrev pub AreFew : List Definition → Type 0
AreFew [] = Unit {0}
AreFew (d ∷ ds) = (definition_excess d ≡ None) × AreFew ds

-- the first definition that has too much of something, and its place
abbrev pub first_definition_excess : (places : List ℕ) → List Definition → Option (Kind × ℕ)
first_definition_excess (at ∷ places) (d ∷ ds) = at_place at (definition_excess d) (first_definition_excess places ds)
first_definition_excess _ _ = None
