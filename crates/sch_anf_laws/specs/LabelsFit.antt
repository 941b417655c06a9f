-- The labels of a tree leave room for a number that is added to each.
use Rattle.std.specs.Prelude.{ℕ, ◌+◌, ◌<◌, ◌^◌, List, [], ◌∷◌}
use Rattle.sch_flat.specs.Tree.{Made, Tree, Trees, Body, constant, literal, variable, global, set_global, define, branch, sequence, bind, make_closure, fix_closures, call, operation, new_cells, cell_get, cell_set, no_trees, and_tree}

module _ (more : ℕ) where
  abbrev pub LabelsOfMade : List Made → Type 0
  LabelsOfMade [] = Unit {0}
  LabelsOfMade (m ∷ ms) = (m.label + more < 2 ^ 32) × LabelsOfMade ms

  abbrev mutual
    pub LabelsFit : Tree → Type 0
    LabelsFit (constant c) = Unit {0}
    LabelsFit (literal k) = Unit {0}
    LabelsFit (variable v) = Unit {0}
    LabelsFit (global g) = Unit {0}
    LabelsFit (set_global g e) = LabelsFit e
    LabelsFit (define g e) = LabelsFit e
    LabelsFit (branch a b c) = LabelsFit a × LabelsFit b × LabelsFit c
    LabelsFit (sequence es) = LabelsFitEach es
    LabelsFit (bind site first es e) = LabelsFitEach es × LabelsFit e
    LabelsFit (make_closure m) = m.label + more < 2 ^ 32
    LabelsFit (fix_closures first ms e) = LabelsOfMade ms × LabelsFit e
    LabelsFit (call site spread f es) = LabelsFit f × LabelsFitEach es
    LabelsFit (operation site which es) = LabelsFitEach es
    LabelsFit (new_cells cs e) = LabelsFit e
    LabelsFit (cell_get v) = Unit {0}
    LabelsFit (cell_set v e) = LabelsFit e

    pub LabelsFitEach : Trees → Type 0
    LabelsFitEach no_trees = Unit {0}
    LabelsFitEach (and_tree e es) = LabelsFit e × LabelsFitEach es

  abbrev pub LabelsOfBodies : List Body → Type 0
  LabelsOfBodies [] = Unit {0}
  LabelsOfBodies (b ∷ bs) = LabelsFit b.code × LabelsOfBodies bs
