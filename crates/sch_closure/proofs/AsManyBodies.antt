-- The tree of a cell program has as many bodies as procedures.
use Rattle.std.proofs.Common.{◌≡◌, suc, length, refl, ap}
use Rattle.sch_word.proofs.facts.Lists.{length_joined}
use Rattle.sch_cells.specs.Tree.{Tree, Trees, Lambdas, constant, literal, variable, global, set_variable, set_global, define, branch, sequence, bind, fix, letrec, lambda, call, operation, new_cells, cell_get, cell_set, no_trees, and_tree, no_lambdas, and_lambda}
use Rattle.sch_cells.specs.Bodies.{bodies, bodies_each, bodies_lambdas}
use Rattle.sch_closure.specs.Closed.{procedures, procedures_each, procedures_lambdas}

mutual
  pub bodies_count : (e : Tree) → length (bodies e) ≡ procedures e
  bodies_count (constant c) = refl
  bodies_count (literal n) = refl
  bodies_count (variable x) = refl
  bodies_count (global g) = refl
  bodies_count (set_variable x e) = bodies_count e
  bodies_count (set_global g e) = bodies_count e
  bodies_count (define g e) = bodies_count e
  bodies_count (branch a b c) = length_joined (bodies a) _ (bodies_count a) (length_joined (bodies b) _ (bodies_count b) (bodies_count c))
  bodies_count (sequence es) = each_count es
  bodies_count (bind site first es e) = length_joined (bodies_each es) _ (each_count es) (bodies_count e)
  bodies_count (fix first ls e) = length_joined (bodies_lambdas ls) _ (lambdas_count ls) (bodies_count e)
  bodies_count (letrec site first es e) = length_joined (bodies_each es) _ (each_count es) (bodies_count e)
  bodies_count (lambda name first formals rest e) = ap suc (bodies_count e)
  bodies_count (call site spread f es) = length_joined (bodies f) _ (bodies_count f) (each_count es)
  bodies_count (operation site which es) = each_count es
  bodies_count (new_cells cs e) = bodies_count e
  bodies_count (cell_get x) = refl
  bodies_count (cell_set x e) = bodies_count e

  pub each_count : (es : Trees) → length (bodies_each es) ≡ procedures_each es
  each_count no_trees = refl
  each_count (and_tree e es) = length_joined (bodies e) _ (bodies_count e) (each_count es)

  pub lambdas_count : (ls : Lambdas) → length (bodies_lambdas ls) ≡ procedures_lambdas ls
  lambdas_count no_lambdas = refl
  lambdas_count (and_lambda name first formals rest e ls) = ap suc (length_joined (bodies e) _ (bodies_count e) (lambdas_count ls))
