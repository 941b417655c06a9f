-- The trees of a list of expressions are the list of their trees, and so for lambdas.
use Rattle.std.proofs.Common.{◌≡◌, suc, List, [], ◌∷◌, length, refl, sym, ap, ◌∙◌, map}
use Rattle.sch_lang.specs.declared.tree.Exp.{Exp, Row_of-Exp, end_of-Exp, more_of-Exp, items-the_row-Exp, items_hidden-the_row-Exp-0, Row_of-Lambda, end_of-Lambda, more_of-Lambda, items-the_row-Lambda, items_hidden-the_row-Lambda-1}
use Rattle.sch_lang.specs.declared.tree.Exp.TheBlock.{hidden-the_row-Exp-0, hidden-the_row-Lambda-1}
use Rattle.sch_lang.specs.declared.tree.Lambda.{Lambda}
use Rattle.sch_lang.specs.Tree.{Expressions, Lambdas, and_expression, and_lambda, expressions, lambdas, count, count_lambdas}
use Rattle.sch_lang.specs.View.{expression, expressions_of, expressions_of_row, function, lambdas_of, lambdas_of_row}

expressions_of_items : {m : _} → (row : Row_of-Exp m) → expressions_of_row row ≡ expressions (map expression (items-the_row-Exp m row))
expressions_of_items end_of-Exp = refl
expressions_of_items (more_of-Exp e es) = ap (and_expression (expression e)) (expressions_of_items es)

pub expressions_of_list : (es : List Exp) → expressions_of es ≡ expressions (map expression es)
expressions_of_list es = expressions_of_items (hidden-the_row-Exp-0 es) ∙ ap (λ l. expressions (map expression l)) (items_hidden-the_row-Exp-0 es)

lambdas_of_items : {m : _} → (row : Row_of-Lambda m) → lambdas_of_row row ≡ lambdas (map function (items-the_row-Lambda m row))
lambdas_of_items end_of-Lambda = refl
lambdas_of_items (more_of-Lambda name formals rest body ls) = ap (and_lambda name formals rest (expression body)) (lambdas_of_items ls)

pub lambdas_of_list : (ls : List Lambda) → lambdas_of ls ≡ lambdas (map function ls)
lambdas_of_list ls = lambdas_of_items (hidden-the_row-Lambda-1 ls) ∙ ap (λ l. lambdas (map function l)) (items_hidden-the_row-Lambda-1 ls)

-- what is left of a list in a loop, as trees
abbrev pub left : List Exp → Expressions
left es = expressions (map expression es)

abbrev pub left_lambdas : List Lambda → Lambdas
left_lambdas ls = lambdas (map function ls)

-- lists of expressions, and of lambdas, with the same trees
pub same_expressions : (xs ys : List Exp) → map expression xs ≡ map expression ys → expressions_of xs ≡ expressions_of ys
same_expressions xs ys same = expressions_of_list xs ∙ ap expressions same ∙ sym (expressions_of_list ys)

pub same_lambdas : (xs ys : List Lambda) → map function xs ≡ map function ys → lambdas_of xs ≡ lambdas_of ys
same_lambdas xs ys same = lambdas_of_list xs ∙ ap lambdas same ∙ sym (lambdas_of_list ys)

-- ## How many there are

length_of : (es : List Exp) → count (expressions (map expression es)) ≡ length es
length_of [] = refl
length_of (e ∷ es) = ap suc (length_of es)

-- a list of expressions has as many trees as expressions
pub count_is : (es : List Exp) → count (expressions_of es) ≡ length es
count_is es = ap count (expressions_of_list es) ∙ length_of es

length_of_lambdas : (ls : List Lambda) → count_lambdas (lambdas (map function ls)) ≡ length ls
length_of_lambdas [] = refl
length_of_lambdas (l ∷ ls) = ap suc (length_of_lambdas ls)

pub count_lambdas_is : (ls : List Lambda) → count_lambdas (lambdas_of ls) ≡ length ls
count_lambdas_is ls = ap count_lambdas (lambdas_of_list ls) ∙ length_of_lambdas ls
