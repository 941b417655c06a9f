-- A conversion nests at most three times as deep.
use Rattle.std.proofs.Common.{ℕ, zero, suc, ◌+◌, ◌*◌, ◌≤◌, Bool, true, false, List, [], ◌∷◌, arith}
use Rattle.std.specs.Prelude.{max}
use Rattle.std.proofs.Math.Nat.{le-max_left, le-max_right, max-le}
use Rattle.sch_cells.specs.declared.tree.NewCell.{NewCell}
use Rattle.sch_cells.specs.Tree.{Tree, Trees, Lambdas, constant, literal, variable, global, set_variable, set_global, define, branch, sequence, bind, fix, letrec, lambda, call, operation, new_cells, cell_get, cell_set, no_trees, and_tree, no_lambdas, and_lambda, count}
use Rattle.sch_cells.specs.Measures.{levels, levels_each, levels_lambdas}
use Rattle.sch_assign.specs.Converted.{reading, filling, wrapped, cells_for, converted, converted_each, converted_lambdas}

-- the greater of two within three times the greater
both_within : (a b c d : ℕ) → a ≤ 3 * c → b ≤ 3 * d → max a b ≤ 3 * max c d
both_within a b c d h k = let l = le-max_left c d in let r = le-max_right c d in max-le (omega (arith, h, l)) (omega (arith, k, r))

wrapped_levels : (cs : List NewCell) (e : Tree) → levels (wrapped cs e) ≤ 1 + levels e
wrapped_levels [] e = omega arith
wrapped_levels (c ∷ cs) e = omega arith

some_levels : (e : Tree) → 1 ≤ levels e
some_levels (constant c) = omega arith
some_levels (literal k) = omega arith
some_levels (variable x) = omega arith
some_levels (global g) = omega arith
some_levels (set_variable x e) = omega arith
some_levels (set_global g e) = omega arith
some_levels (define g e) = omega arith
some_levels (branch a b c) = omega arith
some_levels (sequence es) = omega arith
some_levels (bind site x es e) = omega arith
some_levels (fix x ls e) = omega arith
some_levels (letrec site x es e) = omega arith
some_levels (lambda name x m rest e) = omega arith
some_levels (call site spread f es) = omega arith
some_levels (operation site which es) = omega arith
some_levels (new_cells cs e) = omega arith
some_levels (cell_get x) = omega arith
some_levels (cell_set x e) = omega arith

filling_levels : (n x m : ℕ) (e : Tree) (k : ℕ) → 2 ≤ k → levels e ≤ k → levels_each (filling n x m e) ≤ k
filling_levels n x zero e k l h = max-le h (omega arith)
filling_levels n x (suc m) e k l h = max-le (omega (arith, l)) (filling_levels n (suc x) m e k l h)

module _ (has_cell : ℕ → Bool) (n : ℕ) where
  reading_levels : (b : Bool) (x : ℕ) → levels (reading n b x) ≤ 3
  reading_levels true x = omega arith
  reading_levels false x = omega arith

  mutual
    pub levels_within : (e : Tree) → levels (converted has_cell n e) ≤ 3 * levels e
    levels_within (constant c) = omega arith
    levels_within (literal k) = omega arith
    levels_within (variable x) = reading_levels (has_cell x) x
    levels_within (global g) = omega arith
    levels_within (set_variable x e) = let h = levels_within e in omega (arith, h)
    levels_within (set_global g e) = let h = levels_within e in omega (arith, h)
    levels_within (define g e) = let h = levels_within e in omega (arith, h)
    levels_within (branch a b c) =
        let h = both_within _ _ _ _ (levels_within a) (both_within _ _ _ _ (levels_within b) (levels_within c)) in omega (arith, h)
    levels_within (sequence es) = let h = each_within es in omega (arith, h)
    levels_within (bind site x es e) =
        let w = wrapped_levels (cells_for has_cell n x (count es)) (converted has_cell n e) in
        let he = levels_within e in
        let hs = each_within es in
        let l = le-max_left (levels_each es) (levels e) in
        let r = le-max_right (levels_each es) (levels e) in
        let h : max (levels_each (converted_each has_cell n es)) (levels (wrapped (cells_for has_cell n x (count es)) (converted has_cell n e))) ≤ 1 + 3 * max (levels_each es) (levels e) =
        max-le (omega (arith, hs, l)) (omega (arith, w, he, r)) in
        omega (arith, h)
    levels_within (fix x ls e) = let h = both_within _ _ _ _ (lambdas_within ls) (levels_within e) in omega (arith, h)
    levels_within (letrec site x es e) =
        let he = levels_within e in
        let hs = each_within es in
        let l = le-max_left (levels_each es) (levels e) in
        let r = le-max_right (levels_each es) (levels e) in
        let s = some_levels e in
        let k : levels_each (filling n x (count es) (converted has_cell n e)) ≤ 3 * levels e = filling_levels n x (count es) (converted has_cell n e) (3 * levels e) (omega (arith, s)) he in
        let h : max (levels_each (converted_each has_cell n es)) (1 + levels_each (filling n x (count es) (converted has_cell n e))) ≤ 1 + 3 * max (levels_each es) (levels e) =
        max-le (omega (arith, hs, l)) (omega (arith, k, r)) in
        omega (arith, h)
    levels_within (lambda name x m rest e) =
        let w = wrapped_levels (cells_for has_cell n x m) (converted has_cell n e) in let h = levels_within e in omega (arith, w, h)
    levels_within (call site spread f es) = let h = both_within _ _ _ _ (levels_within f) (each_within es) in omega (arith, h)
    levels_within (operation site which es) = let h = each_within es in omega (arith, h)
    levels_within (new_cells cs e) = omega arith
    levels_within (cell_get x) = omega arith
    levels_within (cell_set x e) = omega arith

    pub each_within : (es : Trees) → levels_each (converted_each has_cell n es) ≤ 3 * levels_each es
    each_within no_trees = omega arith
    each_within (and_tree e es) = both_within _ _ _ _ (levels_within e) (each_within es)

    pub lambdas_within : (ls : Lambdas) → levels_lambdas (converted_lambdas has_cell n ls) ≤ 3 * levels_lambdas ls
    lambdas_within no_lambdas = omega arith
    lambdas_within (and_lambda name x m rest e ls) =
        let w = wrapped_levels (cells_for has_cell n x m) (converted has_cell n e) in
        let h = levels_within e in
        both_within _ _ _ _ (omega (arith, w, h)) (lambdas_within ls)
