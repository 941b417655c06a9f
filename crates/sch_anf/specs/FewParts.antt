-- The nodes of a tree have no more parts than a node may have, so that the number of each part is small.
use Rattle.std.specs.Prelude.{◌≤◌, List, [], ◌∷◌}
use Rattle.sch_word.specs.trees.Shape.{max_operands}
use Rattle.sch_flat.specs.Tree.{Tree, Trees, Body, constant, literal, variable, global, set_global, define, branch, sequence, bind, make_closure, fix_closures, call, operation, new_cells, cell_get, cell_set, no_trees, and_tree, count}

-- each operation, call and binding inside
abbrev mutual
  pub HasFewParts : Tree → Type 0
  HasFewParts (constant c) = Unit {0}
  HasFewParts (literal k) = Unit {0}
  HasFewParts (variable v) = Unit {0}
  HasFewParts (global g) = Unit {0}
  HasFewParts (set_global g e) = HasFewParts e
  HasFewParts (define g e) = HasFewParts e
  HasFewParts (branch a b c) = HasFewParts a × HasFewParts b × HasFewParts c
  HasFewParts (sequence es) = HaveFewParts es
  HasFewParts (bind site first es e) = (count es ≤ max_operands) × HaveFewParts es × HasFewParts e
  HasFewParts (make_closure m) = Unit {0}
  HasFewParts (fix_closures first ms e) = HasFewParts e
  HasFewParts (call site spread f es) = (count es ≤ max_operands) × HasFewParts f × HaveFewParts es
  HasFewParts (operation site which es) = (count es ≤ max_operands) × HaveFewParts es
  HasFewParts (new_cells cs e) = HasFewParts e
  HasFewParts (cell_get v) = Unit {0}
  HasFewParts (cell_set v e) = HasFewParts e

  pub HaveFewParts : Trees → Type 0
  HaveFewParts no_trees = Unit {0}
  HaveFewParts (and_tree e es) = HasFewParts e × HaveFewParts es

abbrev pub BodiesHaveFewParts : List Body → Type 0
BodiesHaveFewParts [] = Unit {0}
BodiesHaveFewParts (b ∷ bs) = HasFewParts b.code × BodiesHaveFewParts bs
