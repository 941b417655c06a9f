-- What loops over expressions and lambdas have made and have left.
use Rattle.std.proofs.Common.{◌≡◌, ℕ, zero, suc, ◌+◌, ◌-◌, ◌<◌, ◌≤◌, List, [], ◌∷◌, ◌++◌, length, reverse, drop, get_or, refl, ap, ◌∙◌, sym, subst, arith, add-one}
use Rattle.std.proofs.lemmas.List.{get_or-reverse, reverse-append, drop_all}
use Rattle.sch_lang.specs.declared.tree.Exp.{Exp}
use Rattle.sch_lang.specs.declared.tree.Lambda.{Lambda}
use Rattle.sch_lang.specs.Tree.{Source, count}
use Rattle.sch_lang.specs.View.{expression, expressions_of, lambdas_of, function}
use Rattle.sch_lang.proofs.ListViews.{expressions_of_list, lambdas_of_list, left, left_lambdas}
use Rattle.sch_word.specs.declared.statics.Statics as declared
use Rattle.sch_word.specs.values.StaticsView.{statics}
use Rattle.sch_cells.specs.SourceView.{source_of}
use Rattle.sch_cells.specs.declared.tree.Exp as to
use Rattle.sch_cells.specs.declared.tree.Lambda as to_lambda
use Rattle.sch_cells.specs.Tree as cells
use Rattle.sch_cells.specs.Tree.{Trees, no_trees, no_lambdas, and_lambda}
use Rattle.sch_cells.specs.View.{tree, trees_of, function as cells_function, lambdas_of as cells_lambdas_of}
use Rattle.sch_cells.proofs.Rows.{and_then, and_then_lambda, trees_onto, lambdas_onto}
use Rattle.sch_rename.specs.Made.{number_at, binds, binds_each, binds_lambdas, renamed, renamed_each, renamed_function, renamed_lambdas, renamed_source, RenamesEach, RenamesLambdas}
use Rattle.sch_lang.specs.InScope.{EachInScope, LambdasInScope}
use Rattle.sch_word.specs.trees.Bindings.{scope_with}
use Rattle.sch_word.specs.trees.Walk.{onto}
use Rattle.sch_word.proofs.Walking.{next_made, next_count, next_left, end_made}

number_at_is : (s : List ℕ) (k : ℕ) → number_at s k ≡ get_or s k 0
number_at_is [] k = refl
number_at_is (y ∷ s) zero = refl
number_at_is (y ∷ s) (suc k) = number_at_is s k

pub from_the_end : (xs : List ℕ) (k : ℕ) → k < length xs → number_at (reverse xs) k ≡ get_or xs (length xs - 1 - k) 0
from_the_end xs k h = number_at_is (reverse xs) k ∙ get_or-reverse xs k 0 h

pub variables_step : (s r : List ℕ) (x m n : ℕ) → m ≡ suc n → scope_with x m (reverse s) ≡ r → scope_with (x + 1) n (reverse (s ++ x ∷ [])) ≡ r
variables_step s r x m n e h = rw (reverse-append s (x ∷ []), add-one) (rw e at h)

-- ## The turns

pub then_same : {a b c : List ℕ} → a ≡ b → b ≡ c → a ≡ c
then_same p q = p ∙ q

module _ (s : List ℕ) (items : List Exp) (i : ℕ) (all : List to.Exp) (e : Exp) (q : to.Exp) (x y total : ℕ) (whole : Trees) (l : i < length items) (is : e ≡ get_or items i e) where
  pub each_made : tree q ≡ renamed (expression e) s x → y ≡ x + binds (expression e) →
      onto and_then all (renamed_each (left (drop i items)) s x) ≡ whole → onto and_then (all ++ q ∷ []) (renamed_each (left (drop (i + 1) items)) s y) ≡ whole
  each_made h g k = next_made items i and_then (λ es n. renamed_each (left es) s n) all e q x y whole l is (rw (h, g) refl) k

  pub each_next : y ≡ x + binds (expression e) → x + binds_each (left (drop i items)) ≡ total → y + binds_each (left (drop (i + 1) items)) ≡ total
  each_next g k = rw g (next_count items i (λ es. binds_each (left es)) e x (binds (expression e)) total l is refl k)

  pub each_inside : (m : ℕ) → EachInScope (left (drop i items)) m → EachInScope (left (drop (i + 1) items)) m
  each_inside m k = rw add-one (next_left items i (λ es. EachInScope (left es) m) e l is k).1

-- a lambda before other lambdas
abbrev onto_function : cells.Function → cells.Lambdas → cells.Lambdas
onto_function f ls = and_lambda f.name f.first f.formals f.rest f.body ls

module _ (s : List ℕ) (items : List Lambda) (i : ℕ) (all : List to_lambda.Lambda) (e : Lambda) (q : to_lambda.Lambda) (x y total : ℕ) (whole : cells.Lambdas) (l : i < length items) (is : e ≡ get_or items i e) where
  pub lambdas_made : cells_function q ≡ renamed_function (function e) s x → y ≡ x + (e.formals + binds (expression e.body)) →
      onto and_then_lambda all (renamed_lambdas (left_lambdas (drop i items)) s x) ≡ whole → onto and_then_lambda (all ++ q ∷ []) (renamed_lambdas (left_lambdas (drop (i + 1) items)) s y) ≡ whole
  lambdas_made h g k =
      let g' : y ≡ x + e.formals + binds (expression e.body) = omega (arith, g) in
      next_made items i and_then_lambda (λ es n. renamed_lambdas (left_lambdas es) s n) all e q x y whole l is
      (rw g' (ap (λ t. onto_function t (renamed_lambdas (left_lambdas (drop (suc i) items)) s (x + e.formals + binds (expression e.body)))) (sym h))) k

  pub lambdas_next : y ≡ x + (e.formals + binds (expression e.body)) → x + binds_lambdas (left_lambdas (drop i items)) ≡ total → y + binds_lambdas (left_lambdas (drop (i + 1) items)) ≡ total
  lambdas_next g k = rw g (next_count items i (λ es. binds_lambdas (left_lambdas es)) e x (e.formals + binds (expression e.body)) total l is refl k)

  pub lambdas_inside : (m : ℕ) → LambdasInScope (left_lambdas (drop i items)) m → LambdasInScope (left_lambdas (drop (i + 1) items)) m
  lambdas_inside m k = rw add-one (next_left items i (λ es. LambdasInScope (left_lambdas es) m) e l is k).1

-- ## The start and the end

pub each_start : (s : List ℕ) (items : List Exp) (all : List to.Exp) (x : ℕ) → all ≡ [] → onto and_then all (renamed_each (left items) s x) ≡ renamed_each (expressions_of items) s x
each_start s items all x h = rw h (ap (λ t. renamed_each t s x) (sym (expressions_of_list items)))

pub each_start_next : (items : List Exp) (x : ℕ) → x + binds_each (left items) ≡ x + binds_each (expressions_of items)
each_start_next items x = ap (λ t. x + binds_each t) (sym (expressions_of_list items))

pub each_start_inside : (items es : List Exp) (m : ℕ) → items ≡ es → EachInScope (expressions_of es) m → EachInScope (left items) m
each_start_inside items es m h i = subst (λ t. EachInScope t m) (expressions_of_list items) (subst (λ l. EachInScope (expressions_of l) m) (sym h) i)

each_end : (s : List ℕ) (items es : List Exp) (i : ℕ) (all : List to.Exp) (s' : List ℕ) (x start : ℕ) → items ≡ es → length items ≤ i →
    onto and_then all (renamed_each (left (drop i items)) s' x) ≡ renamed_each (expressions_of items) s start → trees_of all ≡ renamed_each (expressions_of es) s start
each_end s items es i all s' x start h l k =
    trees_onto all ∙ end_made items i and_then (λ es n. renamed_each (left es) s' n) all x (renamed_each (expressions_of items) s start) no_trees l refl k ∙ ap (λ l. renamed_each (expressions_of l) s start) h

pub lambdas_start : (s : List ℕ) (items : List Lambda) (all : List to_lambda.Lambda) (x : ℕ) → all ≡ [] → onto and_then_lambda all (renamed_lambdas (left_lambdas items) s x) ≡ renamed_lambdas (lambdas_of items) s x
lambdas_start s items all x h = rw h (ap (λ t. renamed_lambdas t s x) (sym (lambdas_of_list items)))

pub lambdas_start_next : (items : List Lambda) (x : ℕ) → x + binds_lambdas (left_lambdas items) ≡ x + binds_lambdas (lambdas_of items)
lambdas_start_next items x = ap (λ t. x + binds_lambdas t) (sym (lambdas_of_list items))

pub lambdas_start_inside : (items es : List Lambda) (m : ℕ) → items ≡ es → LambdasInScope (lambdas_of es) m → LambdasInScope (left_lambdas items) m
lambdas_start_inside items es m h i = subst (λ t. LambdasInScope t m) (lambdas_of_list items) (subst (λ l. LambdasInScope (lambdas_of l) m) (sym h) i)

lambdas_end : (s : List ℕ) (items es : List Lambda) (i : ℕ) (all : List to_lambda.Lambda) (s' : List ℕ) (x start : ℕ) → items ≡ es → length items ≤ i →
    onto and_then_lambda all (renamed_lambdas (left_lambdas (drop i items)) s' x) ≡ renamed_lambdas (lambdas_of items) s start → cells_lambdas_of all ≡ renamed_lambdas (lambdas_of es) s start
lambdas_end s items es i all s' x start h l k =
    lambdas_onto all ∙ end_made items i and_then_lambda (λ es n. renamed_lambdas (left_lambdas es) s' n) all x (renamed_lambdas (lambdas_of items) s start) no_lambdas l refl k ∙ ap (λ l. renamed_lambdas (lambdas_of l) s start) h

pub each_renames : (s : List ℕ) (items es : List Exp) (i : ℕ) (all : List to.Exp) (s' : List ℕ) (x start : ℕ) → items ≡ es → length items ≤ i →
    onto and_then all (renamed_each (left (drop i items)) (reverse s') x) ≡ renamed_each (expressions_of items) (reverse s) start →
    x + binds_each (left (drop i items)) ≡ start + binds_each (expressions_of items) → s' ≡ s → RenamesEach (expressions_of es) s s' start x (trees_of all)
each_renames s items es i all s' x start h l k n same =
    let n' = rw (drop_all i items l) at n in
    record {
      made = each_end (reverse s) items es i all (reverse s') x start h l k;
      next = omega (arith, n', ap (λ l. binds_each (expressions_of l)) h);
      scope = same;
    }

pub lambdas_rename : (s : List ℕ) (items es : List Lambda) (i : ℕ) (all : List to_lambda.Lambda) (s' : List ℕ) (x start : ℕ) → items ≡ es → length items ≤ i →
    onto and_then_lambda all (renamed_lambdas (left_lambdas (drop i items)) (reverse s') x) ≡ renamed_lambdas (lambdas_of items) (reverse s) start →
    x + binds_lambdas (left_lambdas (drop i items)) ≡ start + binds_lambdas (lambdas_of items) → s' ≡ s → RenamesLambdas (lambdas_of es) s s' start x (cells_lambdas_of all)
lambdas_rename s items es i all s' x start h l k n same =
    let n' = rw (drop_all i items l) at n in
    record {
      made = lambdas_end (reverse s) items es i all (reverse s') x start h l k;
      next = omega (arith, n', ap (λ l. binds_lambdas (lambdas_of l)) h);
      scope = same;
    }

-- ## The whole program, from what its parts are

pub made_program : (p : Source) (ready : declared.Statics) (library : List to_lambda.Lambda) (forms : List to.Exp) (sites before after : List ℕ) (next n : ℕ) → before ≡ [] →
    cells_lambdas_of library ≡ renamed_lambdas p.library (reverse before) 0 → next ≡ 0 + binds_lambdas p.library → after ≡ before →
    trees_of forms ≡ renamed_each p.forms (reverse after) next → n ≡ next + binds_each p.forms → statics ready ≡ p.statics → sites ≡ p.sites →
    source_of ready library forms sites n ≡ renamed_source p
made_program p _ _ _ _ before after next n empty library first same forms count ready sites =
    let g : next ≡ binds_lambdas p.library = omega (arith, first) in
    let l = library ∙ ap (λ s. renamed_lambdas p.library (reverse s) 0) empty in
    let f = forms ∙ ap (λ s. renamed_each p.forms (reverse s) next) (same ∙ empty) ∙ ap (renamed_each p.forms []) g in
    let m = count ∙ ap (λ k. k + binds_each p.forms) g in
    rw (ready, l, f, sites, m) refl
