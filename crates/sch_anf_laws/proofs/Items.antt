-- The trees of the items of a list.
use Rattle.std.proofs.Common.{◌≡◌, List, [], ◌∷◌, length, map, refl, sym, ap, ◌∙◌, arith}
use Rattle.sch_flat.specs.declared.tree.Exp.{Exp}
use Rattle.sch_flat.specs.Tree.{Trees, no_trees, trees}
use Rattle.sch_flat.specs.View.{tree, trees_of}
use Rattle.sch_flat.proofs.Rows.{trees_of_list}

-- the trees of the items of a list
abbrev pub left : List Exp → Trees
left es = trees (map tree es)

none_left : (items : List Exp) → length items ≡ 0 → left items ≡ no_trees
none_left [] l = refl
none_left (x ∷ items) l = absurd (omega (arith, l))

pub no_items : (items es : List Exp) → items ≡ es → length items ≡ 0 → trees_of es ≡ no_trees
no_items items es same l = ap trees_of (sym same) ∙ trees_of_list items ∙ none_left items l
