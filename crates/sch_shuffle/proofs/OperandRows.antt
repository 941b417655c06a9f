-- The plain data of a list of operands is the list of their data.
use Rattle.std.proofs.Common.{◌≡◌, ℕ, ◌<◌, ◌+◌, List, length, refl, sym, ap, ◌∙◌, map, drop, get_or}
use Rattle.std.proofs.lemmas.List.{drop_more}
use Rattle.sch_shuffle.specs.declared.operand.Operand.{Operand, Row_of-Operand, end_of-Operand, more_of-Operand, items-the_row-Operand, items_hidden-the_row-Operand-0}
use Rattle.sch_shuffle.specs.declared.operand.Operand.TheBlock.{hidden-the_row-Operand-0}
use Rattle.std.specs.Prelude.{◌||◌}
use Rattle.sch_word.specs.declared.place.Place.{Place}
use Rattle.sch_shuffle.specs.View.{tree, trees_of, trees_of_row}
use Rattle.sch_shuffle.specs.Tree.{Trees, and_tree, trees, uses, uses_one}

trees_of_items : {m : _} → (row : Row_of-Operand m) → trees_of_row row ≡ trees (map tree (items-the_row-Operand m row))
trees_of_items end_of-Operand = refl
trees_of_items (more_of-Operand x xs) = ap (and_tree (tree x)) (trees_of_items xs)

pub trees_of_list : (xs : List Operand) → trees_of xs ≡ trees (map tree xs)
trees_of_list xs = trees_of_items (hidden-the_row-Operand-0 xs) ∙ ap (λ x. trees (map tree x)) (items_hidden-the_row-Operand-0 xs)

-- lists of operands with the same data
pub same_trees : (xs ys : List Operand) → map tree xs ≡ map tree ys → trees_of xs ≡ trees_of ys
same_trees xs ys same = trees_of_list xs ∙ ap trees same ∙ sym (trees_of_list ys)

-- the operands of some items
abbrev pub left : List Operand → Trees
left xs = trees (map tree xs)

pub all_left : (xs items : List Operand) → items ≡ xs → trees_of xs ≡ left items
all_left xs items e = trees_of_list xs ∙ ap left (sym e)

pub next_left : (items : List Operand) (k : ℕ) (x : Operand) → k < length items → x ≡ get_or items k x → left (drop k items) ≡ and_tree (tree x) (left (drop (k + 1) items))
next_left items k x lt e = ap left (drop_more items k x lt) ∙ ap (λ y. and_tree (tree y) (left (drop (k + 1) items))) (sym e)

-- one operand more that is looked at
pub use_next : (items : List Operand) (k : ℕ) (x : Operand) (p : Place) → k < length items → x ≡ get_or items k x
    → uses_one (left (drop k items)) p ≡ (uses (tree x) p || uses_one (left (drop (k + 1) items)) p)
use_next items k x p lt e = ap (λ y. uses_one y p) (next_left items k x lt e)
