-- Where a variable can get its cell: only where it is in scope or bound; and outside of its binding only
-- because it is assigned.
use Rattle.std.proofs.Common.{◌≡◌, ℕ, true, false, List, ◌++◌, refl, sym, ◌∙◌}
use Rattle.std.specs.Prelude.{IsTrue, ◌||◌, ◌&&◌, nat_eq}
use Rattle.sch_word.proofs.facts.Booleans.{neither, not_left, not_right, and_parts}
use Rattle.sch_word.proofs.facts.NumberSets.{has_append}
use Rattle.sch_word.proofs.facts.NumberTests.{differ}
use Rattle.sch_word.specs.trees.NumberSets.{has}
use Rattle.sch_word.specs.trees.Bindings.{numbers, scope_with, pushed}
use Rattle.sch_cells.specs.Tree.{Tree, Trees, Lambdas, constant, literal, variable, global, set_variable, set_global, define, branch, sequence, bind, fix, letrec, lambda, call, operation, new_cells, cell_get, cell_set, no_trees, and_tree, no_lambdas, and_lambda, count, count_lambdas}
use Rattle.sch_cells.specs.Variables.{cells_bound, cells_used, all_in, assigns, assigns_each, assigns_lambdas, bound, bound_each, bound_lambdas, closed, closed_each, closed_lambdas}
use Rattle.sch_cells.proofs.Clearing.{scope_has, list_has}
use Rattle.sch_assign.specs.Celled.{celled, celled_each, celled_lambdas}

pub not_first : (y : ℕ) (xs ys : List ℕ) → has y (xs ++ ys) ≡ false → has y xs ≡ false
not_first y xs ys h = not_left (has y xs) (has y ys) (sym (has_append y xs ys) ∙ h)

pub not_second : (y : ℕ) (xs ys : List ℕ) → has y (xs ++ ys) ≡ false → has y ys ≡ false
not_second y xs ys h = not_right (has y xs) (has y ys) (sym (has_append y xs ys) ∙ h)

pub not_used : (x y : ℕ) (S : List ℕ) → has x S ≡ true → has y S ≡ false → nat_eq x y ≡ false
not_used x y S i h = differ x y (λ e. let q : has y S ≡ true = rw (sym e) i in cc)

mutual
  pub not_celled : (e : Tree) (S : List ℕ) (y : ℕ) → IsTrue (closed e S) → has y S ≡ false → has y (bound e) ≡ false → celled e y ≡ false
  not_celled (constant c) S y k s b = refl
  not_celled (literal n) S y k s b = refl
  not_celled (variable x) S y k s b = refl
  not_celled (global g) S y k s b = refl
  not_celled (set_variable x e) S y k s b =
      let p = and_parts (has x S) (closed e S) k in
      neither (nat_eq x y) (celled e y) (not_used x y S p.0 s) (not_celled e S y p.1 s b)
  not_celled (set_global g e) S y k s b = not_celled e S y k s b
  not_celled (define g e) S y k s b = not_celled e S y k s b
  not_celled (branch t u v) S y k s b =
      let p = and_parts (closed t S) (closed u S && closed v S) k in
      let q = and_parts (closed u S) (closed v S) p.1 in
      let r = not_second y (bound t) (bound u ++ bound v) b in
      neither (celled t y) (celled u y || celled v y) (not_celled t S y p.0 s (not_first y (bound t) (bound u ++ bound v) b))
      (neither (celled u y) (celled v y) (not_celled u S y q.0 s (not_first y (bound u) (bound v) r)) (not_celled v S y q.1 s (not_second y (bound u) (bound v) r)))
  not_celled (sequence es) S y k s b = none_celled es S y k s b
  not_celled (bind site x es e) S y k s b =
      let m = count es in
      let p = and_parts (closed_each es S) (closed e (scope_with x m S)) k in
      let g = not_first y (numbers x m) (bound_each es ++ bound e) b in
      let r = not_second y (numbers x m) (bound_each es ++ bound e) b in
      neither (celled_each es y) (celled e y) (none_celled es S y p.0 s (not_first y (bound_each es) (bound e) r))
      (not_celled e (scope_with x m S) y p.1 (scope_has y x m S g s) (not_second y (bound_each es) (bound e) r))
  not_celled (fix x ls e) S y k s b =
      let m = count_lambdas ls in
      let p = and_parts (closed_lambdas ls (scope_with x m S)) (closed e (scope_with x m S)) k in
      let g = scope_has y x m S (not_first y (numbers x m) (bound_lambdas ls ++ bound e) b) s in
      let r = not_second y (numbers x m) (bound_lambdas ls ++ bound e) b in
      neither (celled_lambdas ls y) (celled e y) (no_lambda_celled ls (scope_with x m S) y p.0 g (not_first y (bound_lambdas ls) (bound e) r))
      (not_celled e (scope_with x m S) y p.1 g (not_second y (bound_lambdas ls) (bound e) r))
  not_celled (letrec site x es e) S y k s b =
      let m = count es in
      let p = and_parts (closed_each es (scope_with x m S)) (closed e (scope_with x m S)) k in
      let f = not_first y (numbers x m) (bound_each es ++ bound e) b in
      let g = scope_has y x m S f s in
      let r = not_second y (numbers x m) (bound_each es ++ bound e) b in
      neither (has y (numbers x m)) (celled_each es y || celled e y) f
      (neither (celled_each es y) (celled e y) (none_celled es (scope_with x m S) y p.0 g (not_first y (bound_each es) (bound e) r))
      (not_celled e (scope_with x m S) y p.1 g (not_second y (bound_each es) (bound e) r)))
  not_celled (lambda name x m rest e) S y k s b =
      not_celled e (scope_with x m S) y k (scope_has y x m S (not_first y (numbers x m) (bound e) b) s) (not_second y (numbers x m) (bound e) b)
  not_celled (call site spread f es) S y k s b =
      let p = and_parts (closed f S) (closed_each es S) k in
      neither (celled f y) (celled_each es y) (not_celled f S y p.0 s (not_first y (bound f) (bound_each es) b)) (none_celled es S y p.1 s (not_second y (bound f) (bound_each es) b))
  not_celled (operation site which es) S y k s b = none_celled es S y k s b
  not_celled (new_cells cs e) S y k s b =
      let p = and_parts (all_in (cells_used cs) S) (closed e (pushed (cells_bound cs) S)) k in
      not_celled e (pushed (cells_bound cs) S) y p.1 (list_has y (cells_bound cs) S (not_first y (cells_bound cs) (bound e) b) s) (not_second y (cells_bound cs) (bound e) b)
  not_celled (cell_get x) S y k s b = refl
  not_celled (cell_set x e) S y k s b = not_celled e S y (and_parts (has x S) (closed e S) k).1 s b

  pub none_celled : (es : Trees) (S : List ℕ) (y : ℕ) → IsTrue (closed_each es S) → has y S ≡ false → has y (bound_each es) ≡ false → celled_each es y ≡ false
  none_celled no_trees S y k s b = refl
  none_celled (and_tree e es) S y k s b =
      let p = and_parts (closed e S) (closed_each es S) k in
      neither (celled e y) (celled_each es y) (not_celled e S y p.0 s (not_first y (bound e) (bound_each es) b)) (none_celled es S y p.1 s (not_second y (bound e) (bound_each es) b))

  pub no_lambda_celled : (ls : Lambdas) (S : List ℕ) (y : ℕ) → IsTrue (closed_lambdas ls S) → has y S ≡ false → has y (bound_lambdas ls) ≡ false → celled_lambdas ls y ≡ false
  no_lambda_celled no_lambdas S y k s b = refl
  no_lambda_celled (and_lambda name x m rest e ls) S y k s b =
      let p = and_parts (closed e (scope_with x m S)) (closed_lambdas ls S) k in
      let f = not_first y (numbers x m) (bound e ++ bound_lambdas ls) b in
      let r = not_second y (numbers x m) (bound e ++ bound_lambdas ls) b in
      neither (celled e y) (celled_lambdas ls y) (not_celled e (scope_with x m S) y p.0 (scope_has y x m S f s) (not_first y (bound e) (bound_lambdas ls) r))
      (no_lambda_celled ls S y p.1 s (not_second y (bound e) (bound_lambdas ls) r))

-- A variable that a tree does not bind gets a cell only where it is assigned.
mutual
  pub only_assigned : (e : Tree) (y : ℕ) → has y (bound e) ≡ false → celled e y ≡ assigns e y
  only_assigned (constant c) y b = refl
  only_assigned (literal n) y b = refl
  only_assigned (variable x) y b = refl
  only_assigned (global g) y b = refl
  only_assigned (set_variable x e) y b = rw (only_assigned e y b) refl
  only_assigned (set_global g e) y b = only_assigned e y b
  only_assigned (define g e) y b = only_assigned e y b
  only_assigned (branch t u v) y b =
      let r = not_second y (bound t) (bound u ++ bound v) b in
      rw (only_assigned t y (not_first y (bound t) (bound u ++ bound v) b), only_assigned u y (not_first y (bound u) (bound v) r), only_assigned v y (not_second y (bound u) (bound v) r)) refl
  only_assigned (sequence es) y b = each_only_assigned es y b
  only_assigned (bind site x es e) y b =
      let r = not_second y (numbers x (count es)) (bound_each es ++ bound e) b in
      rw (each_only_assigned es y (not_first y (bound_each es) (bound e) r), only_assigned e y (not_second y (bound_each es) (bound e) r)) refl
  only_assigned (fix x ls e) y b =
      let r = not_second y (numbers x (count_lambdas ls)) (bound_lambdas ls ++ bound e) b in
      rw (lambdas_only_assigned ls y (not_first y (bound_lambdas ls) (bound e) r), only_assigned e y (not_second y (bound_lambdas ls) (bound e) r)) refl
  only_assigned (letrec site x es e) y b =
      let r = not_second y (numbers x (count es)) (bound_each es ++ bound e) b in
      let f : has y (numbers x (count es)) ≡ false = not_first y (numbers x (count es)) (bound_each es ++ bound e) b in
      rw (f, each_only_assigned es y (not_first y (bound_each es) (bound e) r), only_assigned e y (not_second y (bound_each es) (bound e) r)) refl
  only_assigned (lambda name x m rest e) y b = only_assigned e y (not_second y (numbers x m) (bound e) b)
  only_assigned (call site spread f es) y b =
      rw (only_assigned f y (not_first y (bound f) (bound_each es) b), each_only_assigned es y (not_second y (bound f) (bound_each es) b)) refl
  only_assigned (operation site which es) y b = each_only_assigned es y b
  only_assigned (new_cells cs e) y b = only_assigned e y (not_second y (cells_bound cs) (bound e) b)
  only_assigned (cell_get x) y b = refl
  only_assigned (cell_set x e) y b = only_assigned e y b

  pub each_only_assigned : (es : Trees) (y : ℕ) → has y (bound_each es) ≡ false → celled_each es y ≡ assigns_each es y
  each_only_assigned no_trees y b = refl
  each_only_assigned (and_tree e es) y b =
      rw (only_assigned e y (not_first y (bound e) (bound_each es) b), each_only_assigned es y (not_second y (bound e) (bound_each es) b)) refl

  pub lambdas_only_assigned : (ls : Lambdas) (y : ℕ) → has y (bound_lambdas ls) ≡ false → celled_lambdas ls y ≡ assigns_lambdas ls y
  lambdas_only_assigned no_lambdas y b = refl
  lambdas_only_assigned (and_lambda name x m rest e ls) y b =
      let r = not_second y (numbers x m) (bound e ++ bound_lambdas ls) b in
      rw (only_assigned e y (not_first y (bound e) (bound_lambdas ls) r), lambdas_only_assigned ls y (not_second y (bound e) (bound_lambdas ls) r)) refl
