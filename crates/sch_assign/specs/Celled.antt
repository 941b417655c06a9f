-- Which variables get a cell: those that are assigned anywhere, and those of a Rec.
use Rattle.std.specs.Prelude.{ℕ, Bool, false, ◌||◌, nat_eq}
use Rattle.std.specs.List.{count_by}
use Rattle.sch_word.specs.trees.NumberSets.{has}
use Rattle.sch_word.specs.trees.Bindings.{numbers}
use Rattle.sch_cells.specs.Tree.{Tree, Trees, Lambdas, Source, constant, literal, variable, global, set_variable, set_global, define, branch, sequence, bind, fix, letrec, lambda, call, operation, new_cells, cell_get, cell_set, no_trees, and_tree, no_lambdas, and_lambda, count}
use Rattle.sch_cells.specs.Valid.{bound_of}

-- whether the variable y is assigned in a tree, or belongs to a Rec of it
abbrev mutual
  pub celled : Tree → ℕ → Bool
  celled (constant c) y = false
  celled (literal k) y = false
  celled (variable x) y = false
  celled (global g) y = false
  celled (set_variable x e) y = nat_eq x y || celled e y
  celled (set_global g e) y = celled e y
  celled (define g e) y = celled e y
  celled (branch a b c) y = celled a y || (celled b y || celled c y)
  celled (sequence es) y = celled_each es y
  celled (bind site first es e) y = celled_each es y || celled e y
  celled (fix first ls e) y = celled_lambdas ls y || celled e y
  celled (letrec site first es e) y = has y (numbers first (count es)) || (celled_each es y || celled e y)
  celled (lambda name first formals rest e) y = celled e y
  celled (call site spread f es) y = celled f y || celled_each es y
  celled (operation site which es) y = celled_each es y
  celled (new_cells cs e) y = celled e y
  celled (cell_get x) y = false
  celled (cell_set x e) y = celled e y

  pub celled_each : Trees → ℕ → Bool
  celled_each no_trees y = false
  celled_each (and_tree e es) y = celled e y || celled_each es y

  pub celled_lambdas : Lambdas → ℕ → Bool
  celled_lambdas no_lambdas y = false
  celled_lambdas (and_lambda name first formals rest e ls) y = celled e y || celled_lambdas ls y

abbrev pub celled_in : Source → ℕ → Bool
celled_in p y = celled_lambdas p.library y || celled_each p.forms y

-- how many of the variables that a program binds get cells
abbrev pub celled_of : Source → ℕ
celled_of p = count_by (celled_in p) (bound_of p)
