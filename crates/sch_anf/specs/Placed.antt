-- What is bound at each site, as the walk finds it: from the end of a tree to its beginning.
use Rattle.std.specs.Prelude.{ℕ, List, [], ◌∷◌, slice_set}
use Rattle.sch_word.specs.trees.Bindings.{numbers}
use Rattle.sch_flat.specs.Tree.{Tree, Trees, Body, constant, literal, variable, global, set_global, define, branch, sequence, bind, make_closure, fix_closures, call, operation, new_cells, cell_get, cell_set, no_trees, and_tree, count}
use Rattle.sch_anf_laws.specs.Normal.{bound_places, operator_place}

-- the parts that are bound at each site of a tree, in a table by site
abbrev mutual
  pub placed : Tree → List (List ℕ) → List (List ℕ)
  placed (constant c) table = table
  placed (literal k) table = table
  placed (variable v) table = table
  placed (global g) table = table
  placed (set_global g e) table = placed e table
  placed (define g e) table = placed e table
  placed (branch a b c) table = placed a (placed b (placed c table))
  placed (sequence es) table = placed_each es table
  placed (bind site first es e) table = slice_set (placed_each es (placed e table)) site (numbers 0 (count es))
  placed (make_closure m) table = table
  placed (fix_closures first ms e) table = placed e table
  placed (call site spread f es) table = slice_set (placed f (placed_each es table)) site (bound_places 1 es (operator_place f))
  placed (operation site which es) table = slice_set (placed_each es table) site (bound_places 0 es [])
  placed (new_cells cs e) table = placed e table
  placed (cell_get v) table = table
  placed (cell_set v e) table = placed e table

  pub placed_each : Trees → List (List ℕ) → List (List ℕ)
  placed_each no_trees table = table
  placed_each (and_tree e es) table = placed e (placed_each es table)

abbrev pub placed_bodies : List Body → List (List ℕ) → List (List ℕ)
placed_bodies [] table = table
placed_bodies (b ∷ bs) table = placed b.code (placed_bodies bs table)
