-- Where each body of a program has few variables, each procedure in it has, and the forms are within the limits.
use Rattle.std.proofs.Common.{◌≡◌, ℕ, Bool, true, false, cond, ◌&&◌, [], length, None, Some, refl, arith, le-leb}
use Rattle.std.specs.Prelude.{nat_le}
use Rattle.std.proofs.lemmas.Bool.{and_from, leb-true}
use Rattle.sch_word.proofs.facts.Booleans.{and_parts}
use Rattle.sch_word.specs.trees.Shape.{max_variables, max_free_variables}
use Rattle.sch_lang.specs.Tree.{Expression, Expressions, Lambdas, no_expressions, and_expression, no_lambdas, and_lambda}
use Rattle.sch_lang.specs.Measures.{variables, body_variables}
use Rattle.sch_lang.specs.Variables.{free, outside}
use Rattle.sch_lang.specs.Valid.{forms_fit}
use Rattle.sch_variable_counts.specs.Within.{has_few_variables, has_few_free, few_variables, few_free, each_procedure_in, each_lambda}
use Rattle.sch_core.specs.declared.error.Kind.TheVariants.{Variables, Free}
use Rattle.sch_core.specs.Excess.{excess, LambdasAreFew, FormsAreFew}

enough : (a b : Bool) → cond a (cond b None (Some Free)) (Some Variables) ≡ None → (a ≡ true) × (b ≡ true)
enough true true h = (refl, refl)
enough true false h = absurd (cc)
enough false b h = absurd (cc)

-- a body that has too much of nothing has few variables and few free ones, and so has each procedure in it
few : (n : ℕ) (e : Expression) → excess n e ≡ None →
    ((nat_le (body_variables n e) max_variables && few_variables e) ≡ true)
    × ((nat_le (length (outside n (free e))) max_free_variables && few_free e) ≡ true)
few n e h = enough _ _ h

pub few_lambdas : (ls : Lambdas) → LambdasAreFew ls → each_lambda has_few_variables ls ≡ true
few_lambdas no_lambdas h = refl
few_lambdas (and_lambda name n r e ls) h = and_from _ _ (few n e h.0).0 (few_lambdas ls h.1)

pub few_free_lambdas : (ls : Lambdas) → LambdasAreFew ls → each_lambda has_few_free ls ≡ true
few_free_lambdas no_lambdas h = refl
few_free_lambdas (and_lambda name n r e ls) h = and_from _ _ (few n e h.0).1 (few_free_lambdas ls h.1)

pub few_forms : (es : Expressions) → FormsAreFew es → each_procedure_in has_few_variables es ≡ true
few_forms no_expressions h = refl
few_forms (and_expression e es) h = and_from _ _ (and_parts _ _ (few 0 e h.0).0).1 (few_forms es h.1)

pub few_free_forms : (es : Expressions) → FormsAreFew es → each_procedure_in has_few_free es ≡ true
few_free_forms no_expressions h = refl
few_free_forms (and_expression e es) h = and_from _ _ (and_parts _ _ (few 0 e h.0).1).1 (few_free_forms es h.1)

-- a body without formals has the variables of its expression
no_formals : (e : Expression) → nat_le (body_variables 0 e) max_variables ≡ true → nat_le (variables e []) max_variables ≡ true
no_formals e h = le-leb (variables e []) max_variables (omega (arith, leb-true (body_variables 0 e) max_variables h))

pub forms_within : (es : Expressions) → FormsAreFew es → forms_fit es ≡ true
forms_within no_expressions h = refl
forms_within (and_expression e es) h = and_from _ _ (no_formals e (and_parts _ _ (few 0 e h.0).0).0) (forms_within es h.1)
