-- There is one variable more for each that gets a cell.
use Rattle.std.proofs.Common.{◌≡◌, ℕ, zero, suc, ◌+◌, Bool, true, false, cond, List, [], ◌∷◌, ◌++◌, length, refl, sym, ap, ◌∙◌, arith, length-append}
use Rattle.std.specs.List.{count_by}
use Rattle.std.proofs.lemmas.List.Sums.{sum_by-append, sum_by-cons}
use Rattle.sch_word.specs.trees.Bindings.{numbers, scope_with}
use Rattle.sch_cells.specs.declared.tree.NewCell.{NewCell}
use Rattle.sch_cells.specs.Tree.{Tree, Trees, Lambdas, Source, constant, literal, variable, global, set_variable, set_global, define, branch, sequence, bind, fix, letrec, lambda, call, operation, new_cells, cell_get, cell_set, no_trees, and_tree, no_lambdas, and_lambda, count, count_lambdas}
use Rattle.sch_cells.specs.Variables.{cells_bound, bound, bound_each, bound_lambdas}
use Rattle.sch_cells.specs.Valid.{bound_of}
use Rattle.sch_assign.specs.Celled.{celled_in, celled_of}
use Rattle.sch_assign.specs.Converted.{and_cell, cells_for, empty_cells, filling, reading, wrapped, converted, converted_each, converted_lambdas, converted_source, AllAre, Right, RightEach, RightLambdas}
use Rattle.sch_assign.proofs.Lookups.{no_cells}
use Rattle.sch_assign.proofs.kept.FreeMoved.{count_same, count_lambdas_same}
use Rattle.sch_assign.proofs.ConversionIsRight.{IsRight}
use Rattle.sch_assign.proofs.kept.NumbersKept.{same_keys, wrapped_bound}

keys_length : (cs : List NewCell) → length (cells_bound cs) ≡ length cs
keys_length [] = refl
keys_length (c ∷ cs) = ap suc (keys_length cs)

count_same_by : (f g : ℕ → Bool) (xs : List ℕ) → ((x : ℕ) → f x ≡ g x) → count_by f xs ≡ count_by g xs
count_same_by f g [] h = refl
count_same_by f g (x ∷ xs) h = sum_by-cons (λ z. cond (f z) 1 0) x xs ∙ rw (h x, count_same_by f g xs h) refl ∙ sym (sum_by-cons (λ z. cond (g z) 1 0) x xs)

module _ (has_cell : ℕ → Bool) (n : ℕ) where
  -- a list with those of it that get cells
  abbrev weight : List ℕ → ℕ
  weight xs = length xs + count_by has_cell xs

  weight_append : (xs ys : List ℕ) → weight (xs ++ ys) ≡ weight xs + weight ys
  weight_append xs ys = let l = length-append xs ys in let c = sum_by-append (λ x. cond (has_cell x) 1 0) xs ys in omega (arith, l, c)

  weight_three : (xs ys zs : List ℕ) → weight (xs ++ (ys ++ zs)) ≡ weight xs + (weight ys + weight zs)
  weight_three xs ys zs = weight_append xs (ys ++ zs) ∙ ap (λ k. weight xs + k) (weight_append ys zs)

  length_three : (xs ys zs : List ℕ) → length (xs ++ (ys ++ zs)) ≡ length xs + (length ys + length zs)
  length_three xs ys zs = length-append xs (ys ++ zs) ∙ ap (λ k. length xs + k) (length-append ys zs)

  group_cells : (x m : ℕ) → length (cells_for has_cell n x m) ≡ count_by has_cell (numbers x m)
  group_cells x zero = refl
  group_cells x (suc m) = go (has_cell x) (group_cells (suc x) m) ∙ sym (sum_by-cons (λ z. cond (has_cell z) 1 0) x (numbers (suc x) m))
    where
      go : (b : Bool) → length (cells_for has_cell n (suc x) m) ≡ count_by has_cell (numbers (suc x) m) → length (and_cell n b x (cells_for has_cell n (suc x) m)) ≡ cond b 1 0 + count_by has_cell (numbers (suc x) m)
      go true k = omega (arith, k)
      go false k = omega (arith, k)

  group_weight : (x m : ℕ) → length (numbers x m) + length (cells_bound (cells_for has_cell n x m)) ≡ weight (numbers x m)
  group_weight x m = let k = keys_length (cells_for has_cell n x m) in let g = group_cells x m in omega (arith, k, g)

  fix_weight : (x m : ℕ) → AllAre has_cell n false x m → length (numbers x m) ≡ weight (numbers x m)
  fix_weight x m h = let k = group_weight x m in let e = ap (λ cs. length (cells_bound cs)) (no_cells has_cell n x m h) in omega (arith, k, e)

  filling_length : (x m : ℕ) (e : Tree) → length (bound_each (filling n x m e)) ≡ length (bound e)
  filling_length x zero e = let h = length-append (bound e) [] in omega (arith, h)
  filling_length x (suc m) e = filling_length (suc x) m e

  reading_length : (b : Bool) (x : ℕ) → length (bound (reading n b x)) ≡ 0
  reading_length true x = refl
  reading_length false x = refl

  mutual
    bound_kept : (e : Tree) (S : List ℕ) → Right has_cell n e S → length (bound (converted has_cell n e)) ≡ weight (bound e)
    bound_kept (constant c) S r = refl
    bound_kept (literal k) S r = refl
    bound_kept (variable x) S r = reading_length (has_cell x) x
    bound_kept (global k) S r = refl
    bound_kept (set_variable x e) S r = bound_kept e S r.2
    bound_kept (set_global k e) S r = bound_kept e S r
    bound_kept (define k e) S r = bound_kept e S r
    bound_kept (branch a b c) S r =
        let t = length_three (bound (converted has_cell n a)) (bound (converted has_cell n b)) (bound (converted has_cell n c)) in
        let u = weight_three (bound a) (bound b) (bound c) in
        let ha = bound_kept a S r.0 in
        let hb = bound_kept b S r.1 in
        let hc = bound_kept c S r.2 in
        omega (arith, t, u, ha, hb, hc)
    bound_kept (sequence es) S r = each_bound es S r
    bound_kept (bind site x es e) S r =
        let m = count es in
        let w = ap length (wrapped_bound has_cell n (cells_for has_cell n x m) (converted has_cell n e)) ∙ length-append (cells_bound (cells_for has_cell n x m)) (bound (converted has_cell n e)) in
        let t = length_three (numbers x m) (bound_each (converted_each has_cell n es)) (bound (wrapped (cells_for has_cell n x m) (converted has_cell n e))) in
        let u = weight_three (numbers x m) (bound_each es) (bound e) in
        let g = group_weight x m in
        let hs = each_bound es S r.0 in
        let he = bound_kept e (scope_with x m S) r.3 in
        rw (count_same has_cell n es) (omega (arith, w, t, u, g, hs, he))
    bound_kept (fix x ls e) S r =
        let m = count_lambdas ls in
        let t = length_three (numbers x m) (bound_lambdas (converted_lambdas has_cell n ls)) (bound (converted has_cell n e)) in
        let u = weight_three (numbers x m) (bound_lambdas ls) (bound e) in
        let g = fix_weight x m r.0 in
        let hs = lambdas_bound ls (scope_with x m S) r.2 in
        let he = bound_kept e (scope_with x m S) r.3 in
        rw (count_lambdas_same has_cell n ls) (omega (arith, t, u, g, hs, he))
    bound_kept (letrec site x es e) S r =
        let m = count es in
        let es' = converted_each has_cell n es in
        let fs = filling n x m (converted has_cell n e) in
        let k = ap length (same_keys has_cell n x m r.0) in
        let s = length-append (cells_bound (empty_cells n x m)) (numbers x m ++ (bound_each es' ++ bound_each fs)) in
        let t = length_three (numbers x m) (bound_each es') (bound_each fs) in
        let f = filling_length x m (converted has_cell n e) in
        let u = weight_three (numbers x m) (bound_each es) (bound e) in
        let g = group_weight x m in
        let hs = each_bound es (scope_with x m S) r.2 in
        let he = bound_kept e (scope_with x m S) r.3 in
        rw (count_same has_cell n es) (omega (arith, k, s, t, f, u, g, hs, he))
    bound_kept (lambda name x m rest e) S r =
        let w = ap length (wrapped_bound has_cell n (cells_for has_cell n x m) (converted has_cell n e)) ∙ length-append (cells_bound (cells_for has_cell n x m)) (bound (converted has_cell n e)) in
        let t = length-append (numbers x m) (bound (wrapped (cells_for has_cell n x m) (converted has_cell n e))) in
        let u = weight_append (numbers x m) (bound e) in
        let g = group_weight x m in
        let he = bound_kept e (scope_with x m S) r.2 in
        omega (arith, w, t, u, g, he)
    bound_kept (call site spread f es) S r =
        let t = length-append (bound (converted has_cell n f)) (bound_each (converted_each has_cell n es)) in
        let u = weight_append (bound f) (bound_each es) in
        let hf = bound_kept f S r.0 in
        let hs = each_bound es S r.1 in
        omega (arith, t, u, hf, hs)
    bound_kept (operation site which es) S r = each_bound es S r
    bound_kept (new_cells cs e) S r = absurd r
    bound_kept (cell_get x) S r = absurd r
    bound_kept (cell_set x e) S r = absurd r

    each_bound : (es : Trees) (S : List ℕ) → RightEach has_cell n es S → length (bound_each (converted_each has_cell n es)) ≡ weight (bound_each es)
    each_bound no_trees S r = refl
    each_bound (and_tree e es) S r =
        let t = length-append (bound (converted has_cell n e)) (bound_each (converted_each has_cell n es)) in
        let u = weight_append (bound e) (bound_each es) in
        let he = bound_kept e S r.0 in
        let hs = each_bound es S r.1 in
        omega (arith, t, u, he, hs)

    lambdas_bound : (ls : Lambdas) (S : List ℕ) → RightLambdas has_cell n ls S → length (bound_lambdas (converted_lambdas has_cell n ls)) ≡ weight (bound_lambdas ls)
    lambdas_bound no_lambdas S r = refl
    lambdas_bound (and_lambda name x m rest e ls) S r =
        let w = ap length (wrapped_bound has_cell n (cells_for has_cell n x m) (converted has_cell n e)) ∙ length-append (cells_bound (cells_for has_cell n x m)) (bound (converted has_cell n e)) in
        let t = length_three (numbers x m) (bound (wrapped (cells_for has_cell n x m) (converted has_cell n e))) (bound_lambdas (converted_lambdas has_cell n ls)) in
        let u = weight_three (numbers x m) (bound e) (bound_lambdas ls) in
        let g = group_weight x m in
        let he = bound_kept e (scope_with x m S) r.0.2 in
        let hs = lambdas_bound ls S r.1 in
        omega (arith, w, t, u, g, he, hs)

  pub program_bound : (p : Source) → IsRight has_cell n p → ((y : ℕ) → has_cell y ≡ celled_in p y) → length (bound_of (converted_source has_cell n p)) ≡ length (bound_of p) + celled_of p
  program_bound p r same =
      let t = length-append (bound_lambdas (converted_lambdas has_cell n p.library)) (bound_each (converted_each has_cell n p.forms)) in
      let u = weight_append (bound_lambdas p.library) (bound_each p.forms) in
      let hl = lambdas_bound p.library [] r.library in
      let hf = each_bound p.forms [] r.forms in
      let c : count_by has_cell (bound_of p) ≡ celled_of p = count_same_by has_cell (celled_in p) (bound_of p) same in
      omega (arith, t, u, hl, hf, c)
