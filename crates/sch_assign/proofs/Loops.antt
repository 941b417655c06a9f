-- What loops have made and have left.
use Rattle.std.proofs.Common.{◌≡◌, ℕ, suc, ◌+◌, ◌-◌, ◌<◌, ◌≤◌, Bool, true, false, List, [], ◌∷◌, ◌++◌, length, drop, get_or, None, refl, sym, ap, ◌∙◌, subst, arith, add-one, append_assoc}
use Rattle.std.specs.Prelude.{slice_set}
use Rattle.sch_cells.specs.declared.tree.Exp.{Exp}
use Rattle.sch_cells.specs.declared.tree.Lambda.{Lambda}
use Rattle.sch_cells.specs.declared.tree.NewCell.{NewCell}
use Rattle.sch_cells.specs.Tree as plain
use Rattle.sch_cells.specs.Tree.{Tree, Trees, Lambdas, cell_set, variable, and_tree, no_trees, and_lambda, no_lambdas}
use Rattle.sch_cells.specs.View.{tree, trees_of, lambdas_of}
use Rattle.sch_cells.proofs.Rows.{trees_of_list, lambdas_of_list, left, left_lambdas, and_then, and_then_lambda, trees_onto, lambdas_onto}
use Rattle.sch_word.specs.trees.Walk.{onto}
use Rattle.sch_word.proofs.Walking.{end_items, next_item, next_left, onto_more}
use Rattle.sch_assign.specs.Converted.{and_cell, cells_for, empty_cells, filling, converted, converted_each, converted_lambdas}
use Rattle.sch_assign.specs.InRange.{EachInRange, LambdasInRange}
use Rattle.sch_assign.specs.Table.{group_marked, each_marked, lambdas_marked}

-- ## Groups of variables, from a place on

pub cells_step : (has_cell : ℕ → Bool) (n : ℕ) (all r : List NewCell) (x m i : ℕ) → i < m → all ++ cells_for has_cell n (x + i) (m - i) ≡ r → (all ++ and_cell n (has_cell (x + i)) (x + i) []) ++ cells_for has_cell n (x + (i + 1)) (m - (i + 1)) ≡ r
cells_step has_cell n all r x m i l h =
    let q : x + (i + 1) ≡ suc (x + i) = omega arith in
    let p : m - i ≡ suc (m - (i + 1)) = omega (arith, l) in
    let k = rw p at h in
    rw q (append_assoc all (and_cell n (has_cell (x + i)) (x + i) []) (cells_for has_cell n (suc (x + i)) (m - (i + 1))) ∙ ap (λ l. all ++ l) (go (has_cell (x + i))) ∙ k)
  where
    go : (b : Bool) → and_cell n b (x + i) [] ++ cells_for has_cell n (suc (x + i)) (m - (i + 1)) ≡ and_cell n b (x + i) (cells_for has_cell n (suc (x + i)) (m - (i + 1)))
    go true = refl
    go false = refl

pub empty_step : (n : ℕ) (all r : List NewCell) (c : NewCell) (x m i : ℕ) → i < m → c.variable ≡ x + i + n → c.content ≡ None → all ++ empty_cells n (x + i) (m - i) ≡ r → (all ++ c ∷ []) ++ empty_cells n (x + (i + 1)) (m - (i + 1)) ≡ r
empty_step n all r c x m i l v w h =
    let q : x + (i + 1) ≡ suc (x + i) = omega arith in
    let p : m - i ≡ suc (m - (i + 1)) = omega (arith, l) in
    let k = rw p at h in
    rw q (append_assoc all (c ∷ []) (empty_cells n (suc (x + i)) (m - (i + 1))) ∙ ap (λ b. all ++ b ∷ empty_cells n (suc (x + i)) (m - (i + 1))) (same c (record { variable = x + i + n; content = None }) v w) ∙ k)
  where
    same : (b c : NewCell) → b.variable ≡ c.variable → b.content ≡ c.content → b ≡ c
    same b c p q = rw (p, q) refl

pub group_step : (bs r : List Bool) (x m i : ℕ) → i < m → group_marked (x + i) (m - i) bs ≡ r → group_marked (x + (i + 1)) (m - (i + 1)) (slice_set bs (x + i) true) ≡ r
group_step bs r x m i l h =
    let q : x + (i + 1) ≡ suc (x + i) = omega arith in
    let p : m - i ≡ suc (m - (i + 1)) = omega (arith, l) in
    let k = rw p at h in
    rw q k

-- ## Lists of trees

pub fill_step : (n : ℕ) (all : List Exp) (q : Exp) (r : Trees) (x m i : ℕ) (e : Tree) → i < m → tree q ≡ cell_set (x + i + n) (variable (x + i)) → onto and_then all (filling n (x + i) (m - i) e) ≡ r →
    onto and_then (all ++ q ∷ []) (filling n (x + (i + 1)) (m - (i + 1)) e) ≡ r
fill_step n all q r x m i e l h g =
    let s : x + (i + 1) ≡ suc (x + i) = omega arith in
    let p : m - i ≡ suc (m - (i + 1)) = omega (arith, l) in
    let k = rw p at g in
    rw (s, onto_more and_then all q (filling n (suc (x + i)) (m - (i + 1)) e), h) k

pub fill_end : (n : ℕ) (all : List Exp) (q : Exp) (r : Trees) (x m i : ℕ) → m ≤ i → onto and_then all (filling n (x + i) (m - i) (tree q)) ≡ r → trees_of (all ++ q ∷ []) ≡ r
fill_end n all q r x m i l g =
    let p : m - i ≡ 0 = omega (arith, l) in
    let k : onto and_then all (and_tree (tree q) no_trees) ≡ r = rw p at g in
    trees_onto (all ++ q ∷ []) ∙ onto_more and_then all q no_trees ∙ k

module _ (has_cell : ℕ → Bool) (n : ℕ) where
  module _ (items : List Exp) (i : ℕ) (all : List Exp) (e q : Exp) (whole : Trees) (l : i < length items) (is : e ≡ get_or items i e) where
    pub each_made : tree q ≡ converted has_cell n (tree e) → onto and_then all (converted_each has_cell n (left (drop i items))) ≡ whole → onto and_then (all ++ q ∷ []) (converted_each has_cell n (left (drop (i + 1) items))) ≡ whole
    each_made h k = next_item items i and_then (λ es. converted_each has_cell n (left es)) all e q whole l is (rw h refl) k

  pub each_start : (items : List Exp) (all : List Exp) → all ≡ [] → onto and_then all (converted_each has_cell n (left items)) ≡ converted_each has_cell n (trees_of items)
  each_start items all h = rw h (ap (converted_each has_cell n) (sym (trees_of_list items)))

  pub each_end : (items es : List Exp) (i : ℕ) (all : List Exp) → items ≡ es → length items ≤ i → onto and_then all (converted_each has_cell n (left (drop i items))) ≡ converted_each has_cell n (trees_of items) → trees_of all ≡ converted_each has_cell n (trees_of es)
  each_end items es i all h l k =
      trees_onto all ∙ end_items items i and_then (λ es. converted_each has_cell n (left es)) all (converted_each has_cell n (trees_of items)) no_trees l refl k ∙ ap (λ l. converted_each has_cell n (trees_of l)) h

  abbrev onto_lambda : Tree → Lambdas → Lambdas
  onto_lambda (plain.lambda name first formals rest e) ls = and_lambda name first formals rest e ls
  onto_lambda _ ls = ls

  module _ (items : List Lambda) (i : ℕ) (all : List Lambda) (e q : Lambda) (whole : Lambdas) (l : i < length items) (is : e ≡ get_or items i e) where
    pub lambdas_made : plain.lambda q.name q.first q.formals q.rest (tree q.body) ≡ converted has_cell n (plain.lambda e.name e.first e.formals e.rest (tree e.body)) → onto and_then_lambda all (converted_lambdas has_cell n (left_lambdas (drop i items))) ≡ whole →
        onto and_then_lambda (all ++ q ∷ []) (converted_lambdas has_cell n (left_lambdas (drop (i + 1) items))) ≡ whole
    lambdas_made h k = next_item items i and_then_lambda (λ es. converted_lambdas has_cell n (left_lambdas es)) all e q whole l is (ap (λ t. onto_lambda t (converted_lambdas has_cell n (left_lambdas (drop (suc i) items)))) (sym h)) k

  pub lambdas_start : (items : List Lambda) (all : List Lambda) → all ≡ [] → onto and_then_lambda all (converted_lambdas has_cell n (left_lambdas items)) ≡ converted_lambdas has_cell n (lambdas_of items)
  lambdas_start items all h = rw h (ap (converted_lambdas has_cell n) (sym (lambdas_of_list items)))

  pub lambdas_end : (items es : List Lambda) (i : ℕ) (all : List Lambda) → items ≡ es → length items ≤ i → onto and_then_lambda all (converted_lambdas has_cell n (left_lambdas (drop i items))) ≡ converted_lambdas has_cell n (lambdas_of items) → lambdas_of all ≡ converted_lambdas has_cell n (lambdas_of es)
  lambdas_end items es i all h l k =
      lambdas_onto all ∙ end_items items i and_then_lambda (λ es. converted_lambdas has_cell n (left_lambdas es)) all (converted_lambdas has_cell n (lambdas_of items)) no_lambdas l refl k ∙ ap (λ l. converted_lambdas has_cell n (lambdas_of l)) h

-- ## Numbers in range, and the table

module _ (n : ℕ) where
  pub within_start : (items es : List Exp) → items ≡ es → EachInRange n (trees_of es) → EachInRange n (left items)
  within_start items es h i = subst (EachInRange n) (trees_of_list items) (subst (λ l. EachInRange n (trees_of l)) (sym h) i)

  pub within_lambdas_start : (items es : List Lambda) → items ≡ es → LambdasInRange n (lambdas_of es) → LambdasInRange n (left_lambdas items)
  within_lambdas_start items es h i = subst (LambdasInRange n) (lambdas_of_list items) (subst (λ l. LambdasInRange n (lambdas_of l)) (sym h) i)

  pub within_next : (items : List Exp) (i : ℕ) (e : Exp) → i < length items → e ≡ get_or items i e → EachInRange n (left (drop i items)) → EachInRange n (left (drop (i + 1) items))
  within_next items i e l is k = rw add-one (next_left items i (λ es. EachInRange n (left es)) e l is k).1

  pub within_lambdas_next : (items : List Lambda) (i : ℕ) (e : Lambda) → i < length items → e ≡ get_or items i e → LambdasInRange n (left_lambdas (drop i items)) → LambdasInRange n (left_lambdas (drop (i + 1) items))
  within_lambdas_next items i e l is k = rw add-one (next_left items i (λ es. LambdasInRange n (left_lambdas es)) e l is k).1

pub mark_start : (items : List Exp) (bs : List Bool) → each_marked (left items) bs ≡ each_marked (trees_of items) bs
mark_start items bs = ap (λ t. each_marked t bs) (sym (trees_of_list items))

pub mark_lambdas_start : (items : List Lambda) (bs : List Bool) → lambdas_marked (left_lambdas items) bs ≡ lambdas_marked (lambdas_of items) bs
mark_lambdas_start items bs = ap (λ t. lambdas_marked t bs) (sym (lambdas_of_list items))
