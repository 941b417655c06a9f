-- Covered code stays covered, the bodies of its procedures too.
use Rattle.std.proofs.Common.{◌≡◌, ℕ, suc, ◌+◌, Bool, List, [], ◌∷◌, ◌++◌, length, refl, ap}
use Rattle.std.specs.Prelude.{IsTrue, ◌&&◌, not, nat_le}
use Rattle.std.specs.List.{list_all}
use Rattle.sch_word.proofs.facts.Booleans.{and_of, and_parts}
use Rattle.sch_word.specs.trees.Shape.{max_library}
use Rattle.sch_cells.specs.Covered.{is_covered, are_covered, are_covered_bodies, is_covered_library, is_covered_program}
use Rattle.sch_cells.specs.Tree.{Tree, Trees, Lambdas, Source, constant, literal, variable, global, set_variable, set_global, define, branch, sequence, bind, fix, letrec, lambda, call, operation, new_cells, cell_get, cell_set, no_trees, and_tree, no_lambdas, and_lambda, count_lambdas}
use Rattle.sch_flat.specs.Covered as to
use Rattle.sch_flat.specs.Tree as flat
use Rattle.sch_closure.specs.Closed.{place, procedures, procedures_each, procedures_lambdas, fields_of, closed, closed_each, body_of, all_procedures, all_of_each, all_of_lambdas, labels, closed_source}
use Rattle.sch_closure.specs.Fresh.{Fresh, FreshEach, FreshLambdas}

abbrev all_covered : List flat.Body → Bool
all_covered = list_all to.is_covered_body

all_append : (xs ys : List flat.Body) → IsTrue (all_covered xs) → IsTrue (all_covered ys) → IsTrue (all_covered (xs ++ ys))
all_append [] ys p q = q
all_append (b ∷ xs) ys p q =
    let k = and_parts (to.is_covered_body b) (all_covered xs) p in
    and_of _ _ k.0 (all_append xs ys k.1 q)

any_variable : (v : flat.Variable) → IsTrue (to.is_covered (flat.variable v))
any_variable (flat.bound x) = refl
any_variable (flat.free k) = refl

mutual
  tree_kept : (e : Tree) (fs : List ℕ) (n : ℕ) → Fresh e fs → IsTrue (is_covered e) → IsTrue (to.is_covered (closed e fs n))
  tree_kept (constant c) fs n f s = s
  tree_kept (literal k) fs n f s = s
  tree_kept (variable x) fs n f s = any_variable (place fs x)
  tree_kept (global g) fs n f s = refl
  tree_kept (set_variable x e) fs n f s = absurd f
  tree_kept (set_global g e) fs n f s = tree_kept e fs n f s
  tree_kept (define g e) fs n f s = tree_kept e fs n f s
  tree_kept (branch a b c) fs n f s =
      let p = and_parts (is_covered a) (is_covered b && is_covered c) s in
      let q = and_parts (is_covered b) (is_covered c) p.1 in
      and_of _ _ (tree_kept a fs n f.0 p.0) (and_of _ _ (tree_kept b fs (n + procedures a) f.1 q.0) (tree_kept c fs (n + procedures a + procedures b) f.2 q.1))
  tree_kept (sequence es) fs n f s = each_kept es fs n f s
  tree_kept (bind site x es e) fs n f s =
      let p = and_parts (are_covered es) (is_covered e) s in
      and_of _ _ (each_kept es fs n f.1 p.0) (tree_kept e fs (n + procedures_each es) f.2 p.1)
  tree_kept (fix x ls e) fs n f s =
      tree_kept e fs (n + procedures_lambdas ls) f.2 (and_parts (are_covered_bodies ls) (is_covered e) s).1
  tree_kept (letrec site x es e) fs n f s = absurd f
  tree_kept (lambda name x m rest e) fs n f s = refl
  tree_kept (call site spread g es) fs n f s =
      let p = and_parts (not spread) (is_covered g && are_covered es) s in
      let q = and_parts (is_covered g) (are_covered es) p.1 in
      and_of _ _ p.0 (and_of _ _ (tree_kept g fs n f.0 q.0) (each_kept es fs (n + procedures g) f.1 q.1))
  tree_kept (operation site which es) fs n f s =
      each_kept es fs n f s
  tree_kept (new_cells cs e) fs n f s = tree_kept e fs n f.1 s
  tree_kept (cell_get x) fs n f s = refl
  tree_kept (cell_set x e) fs n f s = tree_kept e fs n f s

  each_kept : (es : Trees) (fs : List ℕ) (n : ℕ) → FreshEach es fs → IsTrue (are_covered es) → IsTrue (to.are_covered (closed_each es fs n))
  each_kept no_trees fs n f s = refl
  each_kept (and_tree e es) fs n f s =
      let p = and_parts (is_covered e) (are_covered es) s in
      and_of _ _ (tree_kept e fs n f.0 p.0) (each_kept es fs (n + procedures e) f.1 p.1)

mutual
  bodies_kept : (e : Tree) (fs : List ℕ) (n : ℕ) → Fresh e fs → IsTrue (is_covered e) → IsTrue (all_covered (all_procedures body_of e n))
  bodies_kept (constant c) fs n f s = refl
  bodies_kept (literal k) fs n f s = refl
  bodies_kept (variable x) fs n f s = refl
  bodies_kept (global g) fs n f s = refl
  bodies_kept (set_variable x e) fs n f s = absurd f
  bodies_kept (set_global g e) fs n f s = bodies_kept e fs n f s
  bodies_kept (define g e) fs n f s = bodies_kept e fs n f s
  bodies_kept (branch a b c) fs n f s =
      let p = and_parts (is_covered a) (is_covered b && is_covered c) s in
      let q = and_parts (is_covered b) (is_covered c) p.1 in
      all_append (all_procedures body_of a n) (all_procedures body_of b (n + procedures a) ++ all_procedures body_of c (n + procedures a + procedures b)) (bodies_kept a fs n f.0 p.0)
      (all_append (all_procedures body_of b (n + procedures a)) (all_procedures body_of c (n + procedures a + procedures b)) (bodies_kept b fs (n + procedures a) f.1 q.0)
      (bodies_kept c fs (n + procedures a + procedures b) f.2 q.1))
  bodies_kept (sequence es) fs n f s = bodies_of_each es fs n f s
  bodies_kept (bind site x es e) fs n f s =
      let p = and_parts (are_covered es) (is_covered e) s in
      all_append (all_of_each body_of es n) (all_procedures body_of e (n + procedures_each es)) (bodies_of_each es fs n f.1 p.0) (bodies_kept e fs (n + procedures_each es) f.2 p.1)
  bodies_kept (fix x ls e) fs n f s =
      let p = and_parts (are_covered_bodies ls) (is_covered e) s in
      all_append (all_of_lambdas body_of ls n) (all_procedures body_of e (n + procedures_lambdas ls)) (bodies_of_lambdas ls n f.1 p.0) (bodies_kept e fs (n + procedures_lambdas ls) f.2 p.1)
  bodies_kept (letrec site x es e) fs n f s = absurd f
  bodies_kept (lambda name x m rest e) fs n f s =
      and_of _ _ (tree_kept e (fields_of x m e) (suc n) f.1 s) (bodies_kept e (fields_of x m e) (suc n) f.1 s)
  bodies_kept (call site spread g es) fs n f s =
      let p = and_parts (not spread) (is_covered g && are_covered es) s in
      let q = and_parts (is_covered g) (are_covered es) p.1 in
      all_append (all_procedures body_of g n) (all_of_each body_of es (n + procedures g)) (bodies_kept g fs n f.0 q.0) (bodies_of_each es fs (n + procedures g) f.1 q.1)
  bodies_kept (operation site which es) fs n f s = bodies_of_each es fs n f s
  bodies_kept (new_cells cs e) fs n f s = bodies_kept e fs n f.1 s
  bodies_kept (cell_get x) fs n f s = refl
  bodies_kept (cell_set x e) fs n f s = bodies_kept e fs n f s

  bodies_of_each : (es : Trees) (fs : List ℕ) (n : ℕ) → FreshEach es fs → IsTrue (are_covered es) → IsTrue (all_covered (all_of_each body_of es n))
  bodies_of_each no_trees fs n f s = refl
  bodies_of_each (and_tree e es) fs n f s =
      let p = and_parts (is_covered e) (are_covered es) s in
      all_append (all_procedures body_of e n) (all_of_each body_of es (n + procedures e)) (bodies_kept e fs n f.0 p.0) (bodies_of_each es fs (n + procedures e) f.1 p.1)

  bodies_of_lambdas : (ls : Lambdas) (n : ℕ) → FreshLambdas ls → IsTrue (are_covered_bodies ls) → IsTrue (all_covered (all_of_lambdas body_of ls n))
  bodies_of_lambdas no_lambdas n f s = refl
  bodies_of_lambdas (and_lambda name x m rest e ls) n f s =
      let p = and_parts (is_covered e) (are_covered_bodies ls) s in
      and_of _ _ (tree_kept e (fields_of x m e) (suc n) f.0.1 p.0)
      (all_append (all_procedures body_of e (suc n)) (all_of_lambdas body_of ls (suc n + procedures e)) (bodies_kept e (fields_of x m e) (suc n) f.0.1 p.0)
      (bodies_of_lambdas ls (suc n + procedures e) f.1 p.1))

-- each procedure of the library has a label
pub labels_length : (ls : Lambdas) (n : ℕ) → length (labels ls n) ≡ count_lambdas ls
labels_length no_lambdas n = refl
labels_length (and_lambda name x m rest e ls) n = ap suc (labels_length ls (suc n + procedures e))

pub covered_kept : (p : Source) → FreshLambdas p.library → FreshEach p.forms [] → IsTrue (is_covered_program p) → IsTrue (to.is_covered_program (closed_source p))
covered_kept p fl f s =
    let k = and_parts (is_covered_library p.library) (are_covered p.forms) s in
    let few = and_parts (nat_le (count_lambdas p.library) max_library) (are_covered_bodies p.library) k.0 in
    let n = procedures_lambdas p.library in
    and_of _ _ (rw (labels_length p.library 0) few.0)
    (and_of _ _ (all_append (all_of_lambdas body_of p.library 0) (all_of_each body_of p.forms n) (bodies_of_lambdas p.library 0 fl few.1) (bodies_of_each p.forms [] n f k.1))
    (each_kept p.forms [] n f k.1))
