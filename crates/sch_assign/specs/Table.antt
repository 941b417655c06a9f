-- Which variables get a cell, by a table, and the table after a walk over a tree.
use Rattle.std.specs.Prelude.{ℕ, zero, suc, Bool, true, List, slice_get, slice_set}
use Rattle.sch_word.specs.values.Options.{or_false}
use Rattle.sch_cells.specs.Tree.{Tree, Trees, Lambdas, constant, literal, variable, global, set_variable, set_global, define, branch, sequence, bind, fix, letrec, lambda, call, operation, new_cells, cell_get, cell_set, no_trees, and_tree, no_lambdas, and_lambda, count}

abbrev pub table : List Bool → ℕ → Bool
table bs x = or_false (slice_get bs x)

-- m variables from x on get cells
abbrev pub group_marked : (x m : ℕ) → List Bool → List Bool
group_marked x zero bs = bs
group_marked x (suc m) bs = group_marked (suc x) m (slice_set bs x true)

abbrev mutual
  pub marked : Tree → List Bool → List Bool
  marked (constant c) bs = bs
  marked (literal k) bs = bs
  marked (variable x) bs = bs
  marked (global g) bs = bs
  marked (set_variable x e) bs = marked e (slice_set bs x true)
  marked (set_global g e) bs = marked e bs
  marked (define g e) bs = marked e bs
  marked (branch a b c) bs = marked c (marked b (marked a bs))
  marked (sequence es) bs = each_marked es bs
  marked (bind site x es e) bs = marked e (each_marked es bs)
  marked (fix x ls e) bs = marked e (lambdas_marked ls bs)
  marked (letrec site x es e) bs = marked e (each_marked es (group_marked x (count es) bs))
  marked (lambda name x m rest e) bs = marked e bs
  marked (call site spread f es) bs = each_marked es (marked f bs)
  marked (operation site which es) bs = each_marked es bs
  marked (new_cells cs e) bs = bs
  marked (cell_get x) bs = bs
  marked (cell_set x e) bs = bs

  pub each_marked : Trees → List Bool → List Bool
  each_marked no_trees bs = bs
  each_marked (and_tree e es) bs = each_marked es (marked e bs)

  pub lambdas_marked : Lambdas → List Bool → List Bool
  lambdas_marked no_lambdas bs = bs
  lambdas_marked (and_lambda name x m rest e ls) bs = lambdas_marked ls (marked e bs)
