-- What the pass makes of a core tree: the same tree, in which each variable has a number of its own.
use Rattle.std.specs.Prelude.{◌≡◌, ℕ, zero, suc, ◌+◌, false, List, [], ◌∷◌, reverse}
use Rattle.sch_lang.specs.Tree.{Expression, Expressions, Lambdas, Function, Source, constant, literal, local, global, set_local, set_global, define, branch, sequence, bind, fix, letrec, lambda, call, operation, no_expressions, and_expression, no_lambdas, and_lambda, count, count_lambdas}
use Rattle.sch_cells.specs.Tree as to
use Rattle.sch_word.specs.trees.Bindings.{scope_with}

-- the number of the variable with k bound nearer
abbrev pub number_at : List ℕ → ℕ → ℕ
number_at [] k = 0
number_at (y ∷ s) zero = y
number_at (y ∷ s) (suc k) = number_at s k

-- how many variables a tree binds
abbrev mutual
  pub binds : Expression → ℕ
  binds (constant c) = 0
  binds (literal n) = 0
  binds (local k) = 0
  binds (global g) = 0
  binds (set_local k e) = binds e
  binds (set_global g e) = binds e
  binds (define g e) = binds e
  binds (branch a b c) = binds a + binds b + binds c
  binds (sequence es) = binds_each es
  binds (bind site es e) = count es + binds_each es + binds e
  binds (fix ls e) = count_lambdas ls + binds_lambdas ls + binds e
  binds (letrec site es e) = count es + binds_each es + binds e
  binds (lambda name formals rest e) = formals + binds e
  binds (call site f es) = binds f + binds_each es
  binds (operation site which es) = binds_each es

  pub binds_each : Expressions → ℕ
  binds_each no_expressions = 0
  binds_each (and_expression e es) = binds e + binds_each es

  pub binds_lambdas : Lambdas → ℕ
  binds_lambdas no_lambdas = 0
  binds_lambdas (and_lambda name formals rest e ls) = formals + binds e + binds_lambdas ls

-- The tree, where the scope has the numbers of the variables around it, the nearest first, and new
-- ones have the numbers from x on, in the order of the text, the outer before the inner.
abbrev mutual
  pub renamed : Expression → (scope : List ℕ) → (x : ℕ) → to.Tree
  renamed (constant c) s x = to.constant c
  renamed (literal n) s x = to.literal n
  renamed (local k) s x = to.variable (number_at s k)
  renamed (global g) s x = to.global g
  renamed (set_local k e) s x = to.set_variable (number_at s k) (renamed e s x)
  renamed (set_global g e) s x = to.set_global g (renamed e s x)
  renamed (define g e) s x = to.define g (renamed e s x)
  renamed (branch a b c) s x = to.branch (renamed a s x) (renamed b s (x + binds a)) (renamed c s (x + binds a + binds b))
  renamed (sequence es) s x = to.sequence (renamed_each es s x)
  renamed (bind site es e) s x =
      to.bind site x (renamed_each es s (x + count es)) (renamed e (scope_with x (count es) s) (x + count es + binds_each es))
  renamed (fix ls e) s x =
      to.fix x (renamed_lambdas ls (scope_with x (count_lambdas ls) s) (x + count_lambdas ls)) (renamed e (scope_with x (count_lambdas ls) s) (x + count_lambdas ls + binds_lambdas ls))
  renamed (letrec site es e) s x =
      to.letrec site x (renamed_each es (scope_with x (count es) s) (x + count es)) (renamed e (scope_with x (count es) s) (x + count es + binds_each es))
  renamed (lambda name formals rest e) s x = to.lambda name x formals rest (renamed e (scope_with x formals s) (x + formals))
  renamed (call site f es) s x = to.call site false (renamed f s x) (renamed_each es s (x + binds f))
  renamed (operation site which es) s x = to.operation site which (renamed_each es s x)

  pub renamed_each : Expressions → (scope : List ℕ) → (x : ℕ) → to.Trees
  renamed_each no_expressions s x = to.no_trees
  renamed_each (and_expression e es) s x = to.and_tree (renamed e s x) (renamed_each es s (x + binds e))

  pub renamed_lambdas : Lambdas → (scope : List ℕ) → (x : ℕ) → to.Lambdas
  renamed_lambdas no_lambdas s x = to.no_lambdas
  renamed_lambdas (and_lambda name formals rest e ls) s x =
      to.and_lambda name x formals rest (renamed e (scope_with x formals s) (x + formals)) (renamed_lambdas ls s (x + formals + binds e))

-- a lambda as plain data
abbrev pub renamed_function : Function → (scope : List ℕ) → (x : ℕ) → to.Function
renamed_function f s x = record {
  name = f.name;
  first = x;
  formals = f.formals;
  rest = f.rest;
  body = renamed f.body (scope_with x f.formals s) (x + f.formals);
}

-- a whole program
abbrev pub renamed_source : Source → to.Source
renamed_source p = record {
  statics = p.statics;
  library = renamed_lambdas p.library [] 0;
  forms = renamed_each p.forms [] (binds_lambdas p.library);
  sites = p.sites;
  variables = binds_lambdas p.library + binds_each p.forms;
}

-- What a walk has made, and how the scope and the next number stand before and after it.
abbrev pub Renames : Expression → (scope_before scope_after : List ℕ) → (next_before next_after : ℕ) → to.Tree → Type 0
Renames e scope_before scope_after next_before next_after q = record {
  made : q ≡ renamed e (reverse scope_before) next_before;
  next : next_after ≡ next_before + binds e;
  scope : scope_after ≡ scope_before;
}

abbrev pub RenamesEach : Expressions → (scope_before scope_after : List ℕ) → (next_before next_after : ℕ) → to.Trees → Type 0
RenamesEach es scope_before scope_after next_before next_after qs = record {
  made : qs ≡ renamed_each es (reverse scope_before) next_before;
  next : next_after ≡ next_before + binds_each es;
  scope : scope_after ≡ scope_before;
}

abbrev pub RenamesLambda : Function → (scope_before scope_after : List ℕ) → (next_before next_after : ℕ) → to.Function → Type 0
RenamesLambda f scope_before scope_after next_before next_after q = record {
  made : q ≡ renamed_function f (reverse scope_before) next_before;
  next : next_after ≡ next_before + (f.formals + binds f.body);
  scope : scope_after ≡ scope_before;
}

abbrev pub RenamesLambdas : Lambdas → (scope_before scope_after : List ℕ) → (next_before next_after : ℕ) → to.Lambdas → Type 0
RenamesLambdas ls scope_before scope_after next_before next_after qs = record {
  made : qs ≡ renamed_lambdas ls (reverse scope_before) next_before;
  next : next_after ≡ next_before + binds_lambdas ls;
  scope : scope_after ≡ scope_before;
}
