-- Which variables are free, which are assigned, and which are bound.
use Rattle.std.specs.Prelude.{ℕ, zero, suc, Bool, true, false, ◌&&◌, ◌||◌, nat_eq, nat_lt, List, [], ◌∷◌, ◌++◌, map, Option, Some, None}
use Rattle.sch_word.specs.trees.NumberSets.{has, insert, union}
use Rattle.sch_word.specs.trees.Bindings.{numbers, scope_with, remove, without, pushed}
use Rattle.sch_word.specs.values.CellBytes.{where_assigned}
use Rattle.sch_cells.specs.declared.tree.NewCell.{NewCell}
use Rattle.sch_cells.specs.Tree.{Tree, Trees, Lambdas, constant, literal, variable, global, set_variable, set_global, define, branch, sequence, bind, fix, letrec, lambda, call, operation, new_cells, cell_get, cell_set, no_trees, and_tree, no_lambdas, and_lambda, count, count_lambdas}

-- a set without each of some numbers
abbrev pub without_each : List ℕ → List ℕ → List ℕ
without_each [] xs = xs
without_each (y ∷ ys) xs = remove y (without_each ys xs)

-- each of some numbers is in a set
abbrev pub all_in : List ℕ → List ℕ → Bool
all_in [] xs = true
all_in (y ∷ ys) xs = has y xs && all_in ys xs

-- the variables of new cells, and those whose values the cells hold
abbrev pub cells_bound : List NewCell → List ℕ
cells_bound cells = map (λ c. c.variable) cells

abbrev pub and_some : Option ℕ → List ℕ → List ℕ
and_some None xs = xs
and_some (Some x) xs = insert x xs

abbrev pub cells_used : List NewCell → List ℕ
cells_used [] = []
cells_used (c ∷ cs) = and_some c.content (cells_used cs)

-- the free variables, each once
abbrev mutual
  pub free : Tree → List ℕ
  free (constant c) = []
  free (literal n) = []
  free (variable x) = x ∷ []
  free (global g) = []
  free (set_variable x e) = union (x ∷ []) (free e)
  free (set_global g e) = free e
  free (define g e) = free e
  free (branch a b c) = union (free a) (union (free b) (free c))
  free (sequence es) = free_each es
  free (bind site first es e) = union (free_each es) (without first (count es) (free e))
  free (fix first ls e) = without first (count_lambdas ls) (union (free_lambdas ls) (free e))
  free (letrec site first es e) = without first (count es) (union (free_each es) (free e))
  free (lambda name first formals rest e) = without first formals (free e)
  free (call site spread f es) = union (free f) (free_each es)
  free (operation site which es) = free_each es
  free (new_cells cs e) = union (cells_used cs) (without_each (cells_bound cs) (free e))
  free (cell_get x) = x ∷ []
  free (cell_set x e) = union (x ∷ []) (free e)

  pub free_each : Trees → List ℕ
  free_each no_trees = []
  free_each (and_tree e es) = union (free e) (free_each es)

  pub free_lambdas : Lambdas → List ℕ
  free_lambdas no_lambdas = []
  free_lambdas (and_lambda name first formals rest e ls) = union (without first formals (free e)) (free_lambdas ls)

-- whether the variable y is assigned
abbrev mutual
  pub assigns : Tree → ℕ → Bool
  assigns (constant c) y = false
  assigns (literal n) y = false
  assigns (variable x) y = false
  assigns (global g) y = false
  assigns (set_variable x e) y = nat_eq x y || assigns e y
  assigns (set_global g e) y = assigns e y
  assigns (define g e) y = assigns e y
  assigns (branch a b c) y = assigns a y || (assigns b y || assigns c y)
  assigns (sequence es) y = assigns_each es y
  assigns (bind site first es e) y = assigns_each es y || assigns e y
  assigns (fix first ls e) y = assigns_lambdas ls y || assigns e y
  assigns (letrec site first es e) y = assigns_each es y || assigns e y
  assigns (lambda name first formals rest e) y = assigns e y
  assigns (call site spread f es) y = assigns f y || assigns_each es y
  assigns (operation site which es) y = assigns_each es y
  assigns (new_cells cs e) y = assigns e y
  assigns (cell_get x) y = false
  assigns (cell_set x e) y = assigns e y

  pub assigns_each : Trees → ℕ → Bool
  assigns_each no_trees y = false
  assigns_each (and_tree e es) y = assigns e y || assigns_each es y

  pub assigns_lambdas : Lambdas → ℕ → Bool
  assigns_lambdas no_lambdas y = false
  assigns_lambdas (and_lambda name first formals rest e ls) y = assigns e y || assigns_lambdas ls y

-- all variables that are bound, in the order of the text, the outer before the inner
abbrev mutual
  pub bound : Tree → List ℕ
  bound (constant c) = []
  bound (literal n) = []
  bound (variable x) = []
  bound (global g) = []
  bound (set_variable x e) = bound e
  bound (set_global g e) = bound e
  bound (define g e) = bound e
  bound (branch a b c) = bound a ++ (bound b ++ bound c)
  bound (sequence es) = bound_each es
  bound (bind site first es e) = numbers first (count es) ++ (bound_each es ++ bound e)
  bound (fix first ls e) = numbers first (count_lambdas ls) ++ (bound_lambdas ls ++ bound e)
  bound (letrec site first es e) = numbers first (count es) ++ (bound_each es ++ bound e)
  bound (lambda name first formals rest e) = numbers first formals ++ bound e
  bound (call site spread f es) = bound f ++ bound_each es
  bound (operation site which es) = bound_each es
  bound (new_cells cs e) = cells_bound cs ++ bound e
  bound (cell_get x) = []
  bound (cell_set x e) = bound e

  pub bound_each : Trees → List ℕ
  bound_each no_trees = []
  bound_each (and_tree e es) = bound e ++ bound_each es

  pub bound_lambdas : Lambdas → List ℕ
  bound_lambdas no_lambdas = []
  bound_lambdas (and_lambda name first formals rest e ls) = numbers first formals ++ (bound e ++ bound_lambdas ls)

-- the charges for the cells of m variables from x on: one for each that the tree assigns
abbrev pub cells_of : (x m : ℕ) → Tree → List ℕ
cells_of x zero e = []
cells_of x (suc m) e = where_assigned (assigns e x) (cells_of (suc x) m e)

-- ## Scopes

-- each variable is one of those in scope
abbrev mutual
  pub closed : Tree → (scope : List ℕ) → Bool
  closed (constant c) scope = true
  closed (literal n) scope = true
  closed (variable x) scope = has x scope
  closed (global g) scope = true
  closed (set_variable x e) scope = has x scope && closed e scope
  closed (set_global g e) scope = closed e scope
  closed (define g e) scope = closed e scope
  closed (branch a b c) scope = closed a scope && (closed b scope && closed c scope)
  closed (sequence es) scope = closed_each es scope
  closed (bind site first es e) scope = closed_each es scope && closed e (scope_with first (count es) scope)
  closed (fix first ls e) scope =
      closed_lambdas ls (scope_with first (count_lambdas ls) scope) && closed e (scope_with first (count_lambdas ls) scope)
  closed (letrec site first es e) scope =
      closed_each es (scope_with first (count es) scope) && closed e (scope_with first (count es) scope)
  closed (lambda name first formals rest e) scope = closed e (scope_with first formals scope)
  closed (call site spread f es) scope = closed f scope && closed_each es scope
  closed (operation site which es) scope = closed_each es scope
  closed (new_cells cs e) scope = all_in (cells_used cs) scope && closed e (pushed (cells_bound cs) scope)
  closed (cell_get x) scope = has x scope
  closed (cell_set x e) scope = has x scope && closed e scope

  pub closed_each : Trees → (scope : List ℕ) → Bool
  closed_each no_trees scope = true
  closed_each (and_tree e es) scope = closed e scope && closed_each es scope

  pub closed_lambdas : Lambdas → (scope : List ℕ) → Bool
  closed_lambdas no_lambdas scope = true
  closed_lambdas (and_lambda name first formals rest e ls) scope = closed e (scope_with first formals scope) && closed_lambdas ls scope

-- all below a number
abbrev pub below : ℕ → List ℕ → Bool
below n [] = true
below n (x ∷ xs) = nat_lt x n && below n xs
