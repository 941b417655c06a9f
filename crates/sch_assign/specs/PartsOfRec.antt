-- The parts of what a Rec is converted to.
use Rattle.std.specs.Prelude.{◌≡◌, ℕ, Bool, List, [], ◌∷◌, ◌++◌}
use Rattle.sch_cells.specs.declared.tree.Exp.{Exp}
use Rattle.sch_cells.specs.Tree.{Tree, bind, letrec, sequence, count}
use Rattle.sch_cells.specs.View.{tree, trees_of}
use Rattle.sch_assign.specs.Converted.{converted, converted_each, filling}

-- Before any expression, these put the values of m variables from x on into their cells.
abbrev pub Fills : (n x m : ℕ) → List Exp → Type 0
Fills n x m qs = (e : Exp) → trees_of (qs ++ e ∷ []) ≡ filling n x m (tree e)

module _ (has_cell : ℕ → Bool) (n : ℕ) where
  -- the body of a Rec, after the values have gone into the cells
  abbrev pub filled : Tree → Tree
  filled (letrec site x es e) = sequence (filling n x (count es) (converted has_cell n e))
  filled e = e

  -- what stands under its cells: the inits are bound around the body that fills them
  abbrev pub under_cells : Tree → Tree
  under_cells (letrec site x es e) = bind site x (converted_each has_cell n es) (filled (letrec site x es e))
  under_cells e = e
