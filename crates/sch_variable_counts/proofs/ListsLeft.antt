-- What is left of lists of expressions and lambdas in a loop.
use Rattle.std.proofs.Common.{◌≡◌, ℕ, suc, ◌<◌, ◌≤◌, List, length, drop, get_or, sym, ap}
use Rattle.std.proofs.lemmas.List.{drop_all}
use Rattle.sch_word.proofs.facts.Lists.{next_left}
use Rattle.sch_lang.specs.declared.tree.Exp.{Exp}
use Rattle.sch_lang.specs.declared.tree.Lambda.{Lambda}
use Rattle.sch_lang.specs.Tree.{and_expression, and_lambda, no_expressions, no_lambdas}
use Rattle.sch_lang.specs.View.{expression, expressions_of, lambdas_of}
use Rattle.sch_lang.proofs.ListViews.{expressions_of_list, lambdas_of_list, left, left_lambdas}

-- what is left at an item, in front of what is left after it
pub next_expression : (es : List Exp) (i : ℕ) (e : Exp) → i < length es → e ≡ get_or es i e → left (drop i es) ≡ and_expression (expression e) (left (drop (suc i) es))
next_expression es i e l is = ap left (next_left es i e l is)

pub next_lambda : (ls : List Lambda) (i : ℕ) (e : Lambda) → i < length ls → e ≡ get_or ls i e → left_lambdas (drop i ls) ≡ and_lambda e.name e.formals e.rest (expression e.body) (left_lambdas (drop (suc i) ls))
next_lambda ls i e l is = ap left_lambdas (next_left ls i e l is)

pub no_expression : (es : List Exp) (i : ℕ) → length es ≤ i → left (drop i es) ≡ no_expressions
no_expression es i l = ap left (drop_all i es l)

pub no_lambda : (ls : List Lambda) (i : ℕ) → length ls ≤ i → left_lambdas (drop i ls) ≡ no_lambdas
no_lambda ls i l = ap left_lambdas (drop_all i ls l)

pub whole : (es : List Exp) → left es ≡ expressions_of es
whole es = sym (expressions_of_list es)

pub whole_lambdas : (ls : List Lambda) → left_lambdas ls ≡ lambdas_of ls
whole_lambdas ls = sym (lambdas_of_list ls)
