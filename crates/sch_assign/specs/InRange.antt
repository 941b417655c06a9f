-- Trees without cells whose variables have numbers below n.
use Rattle.std.specs.Prelude.{ℕ, ◌<◌}
use Rattle.sch_cells.specs.Tree.{Tree, Trees, Lambdas, constant, literal, variable, global, set_variable, set_global, define, branch, sequence, bind, fix, letrec, lambda, call, operation, new_cells, cell_get, cell_set, no_trees, and_tree, no_lambdas, and_lambda, count, count_lambdas}
use Rattle.sch_assign.specs.Converted.{Low}

abbrev mutual
  pub InRange : ℕ → Tree → Type 0
  InRange n (constant c) = Unit {0}
  InRange n (literal k) = Unit {0}
  InRange n (variable x) = x < n
  InRange n (global g) = Unit {0}
  InRange n (set_variable x e) = (x < n) × InRange n e
  InRange n (set_global g e) = InRange n e
  InRange n (define g e) = InRange n e
  InRange n (branch a b c) = InRange n a × InRange n b × InRange n c
  InRange n (sequence es) = EachInRange n es
  InRange n (bind site x es e) = EachInRange n es × Low n x (count es) × InRange n e
  InRange n (fix x ls e) = LambdasInRange n ls × Low n x (count_lambdas ls) × InRange n e
  InRange n (letrec site x es e) = EachInRange n es × Low n x (count es) × InRange n e
  InRange n (lambda name x m rest e) = Low n x m × InRange n e
  InRange n (call site spread f es) = InRange n f × EachInRange n es
  InRange n (operation site which es) = EachInRange n es
  InRange n (new_cells cs e) = ⊥
  InRange n (cell_get x) = ⊥
  InRange n (cell_set x e) = ⊥

  pub EachInRange : ℕ → Trees → Type 0
  EachInRange n no_trees = Unit {0}
  EachInRange n (and_tree e es) = InRange n e × EachInRange n es

  pub LambdasInRange : ℕ → Lambdas → Type 0
  LambdasInRange n no_lambdas = Unit {0}
  LambdasInRange n (and_lambda name x m rest e ls) = (Low n x m × InRange n e) × LambdasInRange n ls
