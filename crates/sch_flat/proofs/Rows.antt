-- The trees of a list of expressions are the list of their trees, and as many.
use Rattle.std.proofs.Common.{◌≡◌, suc, List, [], ◌∷◌, length, refl, ap, ◌∙◌, map}
use Rattle.sch_flat.specs.declared.tree.Exp.{Exp, Row_of-Exp, end_of-Exp, more_of-Exp, items-the_row-Exp, items_hidden-the_row-Exp-0}
use Rattle.sch_flat.specs.declared.tree.Exp.TheBlock.{hidden-the_row-Exp-0}
use Rattle.sch_flat.specs.Tree.{and_tree, trees, count}
use Rattle.sch_flat.specs.View.{tree, trees_of, trees_of_row}

trees_of_items : {m : _} → (row : Row_of-Exp m) → trees_of_row row ≡ trees (map tree (items-the_row-Exp m row))
trees_of_items end_of-Exp = refl
trees_of_items (more_of-Exp e es) = ap (and_tree (tree e)) (trees_of_items es)

pub trees_of_list : (es : List Exp) → trees_of es ≡ trees (map tree es)
trees_of_list es = trees_of_items (hidden-the_row-Exp-0 es) ∙ ap (λ l. trees (map tree l)) (items_hidden-the_row-Exp-0 es)

length_of : (es : List Exp) → count (trees (map tree es)) ≡ length es
length_of [] = refl
length_of (e ∷ es) = ap suc (length_of es)

pub count_is : (es : List Exp) → count (trees_of es) ≡ length es
count_is es = ap count (trees_of_list es) ∙ length_of es
