-- Trees in which each variable that is used is bound around it, and none that is bound is bound already.
use Rattle.std.specs.Prelude.{◌≡◌, ℕ, true, false, List}
use Rattle.sch_word.specs.trees.NumberSets.{has, In}
use Rattle.sch_cells.specs.Tree.{Tree, Trees, Lambdas, constant, literal, variable, global, set_variable, set_global, define, branch, sequence, bind, fix, letrec, lambda, call, operation, new_cells, cell_get, cell_set, no_trees, and_tree, no_lambdas, and_lambda, count, count_lambdas}
use Rattle.sch_word.specs.trees.Bindings.{numbers, scope_with, pushed}
use Rattle.sch_cells.specs.Variables.{cells_bound, cells_used, all_in}

-- none of one list is in the other
pub record Apart (xs ys : List ℕ) : Type 0 where
  pub at : (y : ℕ) → In y xs → has y ys ≡ false

abbrev mutual
  pub Clear : Tree → (scope : List ℕ) → Type 0
  Clear (constant c) S = Unit {0}
  Clear (literal n) S = Unit {0}
  Clear (variable x) S = In x S
  Clear (global g) S = Unit {0}
  Clear (set_variable x e) S = In x S × Clear e S
  Clear (set_global g e) S = Clear e S
  Clear (define g e) S = Clear e S
  Clear (branch a b c) S = Clear a S × Clear b S × Clear c S
  Clear (sequence es) S = ClearEach es S
  Clear (bind site x es e) S = ClearEach es S × Apart (numbers x (count es)) S × Clear e (scope_with x (count es) S)
  Clear (fix x ls e) S = Apart (numbers x (count_lambdas ls)) S × ClearLambdas ls (scope_with x (count_lambdas ls) S) × Clear e (scope_with x (count_lambdas ls) S)
  Clear (letrec site x es e) S = Apart (numbers x (count es)) S × ClearEach es (scope_with x (count es) S) × Clear e (scope_with x (count es) S)
  Clear (lambda name x m rest e) S = Apart (numbers x m) S × Clear e (scope_with x m S)
  Clear (call site spread f es) S = Clear f S × ClearEach es S
  Clear (operation site which es) S = ClearEach es S
  Clear (new_cells cs e) S = (all_in (cells_used cs) S ≡ true) × Apart (cells_bound cs) S × Clear e (pushed (cells_bound cs) S)
  Clear (cell_get x) S = In x S
  Clear (cell_set x e) S = In x S × Clear e S

  pub ClearEach : Trees → (scope : List ℕ) → Type 0
  ClearEach no_trees S = Unit {0}
  ClearEach (and_tree e es) S = Clear e S × ClearEach es S

  pub ClearLambdas : Lambdas → (scope : List ℕ) → Type 0
  ClearLambdas no_lambdas S = Unit {0}
  ClearLambdas (and_lambda name x m rest e ls) S = (Apart (numbers x m) S × Clear e (scope_with x m S)) × ClearLambdas ls S
