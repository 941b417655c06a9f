-- The trees of a flat program are nested no deeper than those that they come from.
use Rattle.std.proofs.Common.{ℕ, suc, ◌+◌, ◌≤◌, Bool, List, max, refl, arith}
use Rattle.std.specs.Prelude.{IsTrue, nat_le}
use Rattle.std.specs.List.{list_all}
use Rattle.std.proofs.Math.Nat.{le-max_left, le-max_right, max-le}
use Rattle.std.proofs.lemmas.Bool.{le-leb}
use Rattle.sch_word.proofs.facts.Booleans.{and_of}
use Rattle.sch_cells.specs.Tree.{Tree, Trees, Lambdas, constant, literal, variable, global, set_variable, set_global, define, branch, sequence, bind, fix, letrec, lambda, call, operation, new_cells, cell_get, cell_set, no_trees, and_tree, no_lambdas, and_lambda}
use Rattle.sch_cells.specs.Measures.{levels, levels_each, levels_lambdas}
use Rattle.sch_flat.specs.Tree as flat
use Rattle.sch_flat.specs.Measures as to
use Rattle.sch_closure.specs.Closed.{procedures, procedures_each, procedures_lambdas, fields_of, closed, closed_each, body_of, all_procedures, all_of_each, all_of_lambdas}
use Rattle.sch_closure.proofs.kept.ScopedKept.{list_both}

more : {a b : ℕ} → a ≤ b → 1 + a ≤ 1 + b
more p = omega (arith, p)

over_left : {a c : ℕ} (d : ℕ) → a ≤ c → a ≤ max c d
over_left {c = c} d p = omega (arith, p, le-max_left c d)

over_right : {b d : ℕ} (c : ℕ) → b ≤ d → b ≤ max c d
over_right {d = d} c p = omega (arith, p, le-max_right c d)

greater : {a b c d : ℕ} → a ≤ c → b ≤ d → max a b ≤ max c d
greater {c = c} {d = d} p q = max-le (over_left d p) (over_right c q)

mutual
  kept : (e : Tree) (fs : List ℕ) (n : ℕ) → to.levels (closed e fs n) ≤ levels e
  kept (constant c) fs n = omega arith
  kept (literal i) fs n = omega arith
  kept (variable x) fs n = omega arith
  kept (global g) fs n = omega arith
  kept (set_variable x e) fs n = omega (arith, kept e fs n)
  kept (set_global g e) fs n = more (kept e fs n)
  kept (define g e) fs n = more (kept e fs n)
  kept (branch a b c) fs n = more (greater (kept a fs n) (greater (kept b fs (n + procedures a)) (kept c fs (n + procedures a + procedures b))))
  kept (sequence es) fs n = more (each_levels es fs n)
  kept (bind site x es e) fs n = more (greater (each_levels es fs n) (kept e fs (n + procedures_each es)))
  kept (fix x ls e) fs n = more (over_right (levels_lambdas ls) (kept e fs (n + procedures_lambdas ls)))
  kept (letrec site x es e) fs n = more (greater (each_levels es fs n) (kept e fs (n + procedures_each es)))
  kept (lambda name x m rest e) fs n = omega arith
  kept (call site spread g es) fs n = more (greater (kept g fs n) (each_levels es fs (n + procedures g)))
  kept (operation site which es) fs n = more (each_levels es fs n)
  kept (new_cells cs e) fs n = more (kept e fs n)
  kept (cell_get x) fs n = omega arith
  kept (cell_set x e) fs n = more (kept e fs n)

  pub each_levels : (es : Trees) (fs : List ℕ) (n : ℕ) → to.levels_each (closed_each es fs n) ≤ levels_each es
  each_levels no_trees fs n = omega arith
  each_levels (and_tree e es) fs n = greater (kept e fs n) (each_levels es fs (n + procedures e))

module _ (limit : ℕ) where
  abbrev within : flat.Body → Bool
  within b = nat_le (to.levels b.code) limit

  one : (name : List ℕ) (x m : ℕ) (rest : Bool) (e : Tree) (n : ℕ) → levels e ≤ limit → IsTrue (within (body_of name x m rest e n))
  one name x m rest e n h = le-leb (to.levels (closed e (fields_of x m e) (suc n))) limit (omega (arith, h, kept e (fields_of x m e) (suc n)))

  less : {a : ℕ} → 1 + a ≤ limit → a ≤ limit
  less h = omega (arith, h)

  left_of : {a : ℕ} (b : ℕ) → max a b ≤ limit → a ≤ limit
  left_of {a} b h = omega (arith, h, le-max_left a b)

  right_of : {b : ℕ} (a : ℕ) → max a b ≤ limit → b ≤ limit
  right_of {b} a h = omega (arith, h, le-max_right a b)

  mutual
    bodies : (e : Tree) (n : ℕ) → levels e ≤ limit → IsTrue (list_all within (all_procedures body_of e n))
    bodies (constant c) n h = refl
    bodies (literal i) n h = refl
    bodies (variable x) n h = refl
    bodies (global g) n h = refl
    bodies (set_variable x e) n h = bodies e n (less h)
    bodies (set_global g e) n h = bodies e n (less h)
    bodies (define g e) n h = bodies e n (less h)
    bodies (branch a b c) n h =
        let r = right_of {b = max (levels b) (levels c)} (levels a) (less h) in
        list_both within (all_procedures body_of a n) _ (bodies a n (left_of (max (levels b) (levels c)) (less h)))
        (list_both within (all_procedures body_of b (n + procedures a)) _ (bodies b (n + procedures a) (left_of (levels c) r)) (bodies c (n + procedures a + procedures b) (right_of (levels b) r)))
    bodies (sequence es) n h = each_bodies es n (less h)
    bodies (bind site x es e) n h =
        list_both within (all_of_each body_of es n) _ (each_bodies es n (left_of (levels e) (less h))) (bodies e (n + procedures_each es) (right_of (levels_each es) (less h)))
    bodies (letrec site x es e) n h =
        list_both within (all_of_each body_of es n) _ (each_bodies es n (left_of (levels e) (less h))) (bodies e (n + procedures_each es) (right_of (levels_each es) (less h)))
    bodies (fix x ls e) n h =
        list_both within (all_of_lambdas body_of ls n) _ (lambdas_bodies ls n (left_of (levels e) (less h))) (bodies e (n + procedures_lambdas ls) (right_of (levels_lambdas ls) (less h)))
    bodies (lambda name x m rest e) n h = and_of _ _ (one name x m rest e n (less h)) (bodies e (suc n) (less h))
    bodies (call site spread g es) n h =
        list_both within (all_procedures body_of g n) _ (bodies g n (left_of (levels_each es) (less h))) (each_bodies es (n + procedures g) (right_of (levels g) (less h)))
    bodies (operation site which es) n h = each_bodies es n (less h)
    bodies (new_cells cs e) n h = bodies e n (less h)
    bodies (cell_get x) n h = refl
    bodies (cell_set x e) n h = bodies e n (less h)

    pub each_bodies : (es : Trees) (n : ℕ) → levels_each es ≤ limit → IsTrue (list_all within (all_of_each body_of es n))
    each_bodies no_trees n h = refl
    each_bodies (and_tree e es) n h =
        list_both within (all_procedures body_of e n) _ (bodies e n (left_of (levels_each es) h)) (each_bodies es (n + procedures e) (right_of (levels e) h))

    pub lambdas_bodies : (ls : Lambdas) (n : ℕ) → levels_lambdas ls ≤ limit → IsTrue (list_all within (all_of_lambdas body_of ls n))
    lambdas_bodies no_lambdas n h = refl
    lambdas_bodies (and_lambda name x m rest e ls) n h =
        let l = less (left_of (levels_lambdas ls) h) in
        and_of _ _ (one name x m rest e n l) (list_both within (all_procedures body_of e (suc n)) _ (bodies e (suc n) l) (lambdas_bodies ls (suc n + procedures e) (right_of (1 + levels e) h)))
