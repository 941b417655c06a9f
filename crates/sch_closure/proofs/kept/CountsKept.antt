-- What is counted of the nodes of a program is counted of its flat program, though in another order: bodies
-- first, each without those inside it.
use Rattle.std.proofs.Common.{◌≡◌, ℕ, suc, ◌+◌, List, [], ◌∷◌, ◌++◌, refl, arith}
use Rattle.sch_word.specs.trees.Shape.{Shape}
use Rattle.sch_cells.specs.Tree.{Tree, Trees, Lambdas, Source, constant, literal, variable, global, set_variable, set_global, define, branch, sequence, bind, fix, letrec, lambda, call, operation, new_cells, cell_get, cell_set, no_trees, and_tree, no_lambdas, and_lambda}
use Rattle.sch_cells.specs.Measures as from
use Rattle.sch_cells.specs.Measures.{shape}
use Rattle.sch_flat.specs.Tree as flat
use Rattle.sch_flat.specs.Measures as to
use Rattle.sch_closure.specs.Closed.{procedures, procedures_each, procedures_lambdas, fields_of, closed, closed_each, body_of, all_procedures, all_of_each, all_of_lambdas, closed_source}
use Rattle.sch_closure.specs.Fresh.{Fresh, FreshEach, FreshLambdas}
use Rattle.sch_closure.proofs.kept.FormedKept.{own, own_lambdas}

-- what is counted of bodies
abbrev pub sum_per : (flat.Body → ℕ) → List flat.Body → ℕ
sum_per per [] = 0
sum_per per (b ∷ bs) = per b + sum_per per bs

module _ {A : Type 0} (nothing : A) (join : A → A → A) (m : A → ℕ) (empty : m nothing ≡ 0) (sum : (a b : A) → m (join a b) ≡ m a + m b)
    (per : flat.Body → ℕ)
    (here : Tree → A) (here' : Shape → A) (node : (e : Tree) (fs : List ℕ) (n : ℕ) → Fresh e fs → m (here e) ≡ m (here' (to.shape (closed e fs n))) + sum_per per (own e n)) where
  abbrev of_bodies : List flat.Body → A
  of_bodies bs = to.over_bodies nothing join here' bs

  abbrev total : List flat.Body → ℕ
  total bs = m (of_bodies bs) + sum_per per bs

  both_lists : (xs ys : List flat.Body) → total (xs ++ ys) ≡ total xs + total ys
  both_lists [] ys = omega (arith, empty)
  both_lists (b ∷ xs) ys =
      omega (arith, sum (to.over nothing join here' b.code) (of_bodies (xs ++ ys)), sum (to.over nothing join here' b.code) (of_bodies xs), both_lists xs ys)

  -- a node and what is in it
  then : (a b a' b' : A) (xs : List flat.Body) → m a ≡ m a' + 0 → m b ≡ m b' + total xs → m (join a b) ≡ m (join a' b') + total xs
  then a b a' b' xs p q = omega (arith, sum a b, sum a' b', p, q)

  -- two parts, each with its bodies
  both : (a b a' b' : A) (xs ys : List flat.Body) → m a ≡ m a' + total xs → m b ≡ m b' + total ys → m (join a b) ≡ m (join a' b') + total (xs ++ ys)
  both a b a' b' xs ys p q = omega (arith, sum a b, sum a' b', both_lists xs ys, p, q)

  -- what has no bodies
  alone : (a a' : A) → m a ≡ m a' + 0 → m a ≡ m a' + total []
  alone a a' p = omega (arith, p, empty)

  mutual
    same : (e : Tree) (fs : List ℕ) (n : ℕ) → Fresh e fs → m (from.over nothing join here e) ≡ m (to.over nothing join here' (closed e fs n)) + total (all_procedures body_of e n)
    same (constant c) fs n f = alone _ _ (node (constant c) fs n f)
    same (literal i) fs n f = alone _ _ (node (literal i) fs n f)
    same (variable x) fs n f = alone _ _ (node (variable x) fs n f)
    same (global g) fs n f = alone _ _ (node (global g) fs n f)
    same (set_variable x e) fs n f = absurd f
    same (set_global g e) fs n f = then _ _ _ _ (all_procedures body_of e n) (node (set_global g e) fs n f) (same e fs n f)
    same (define g e) fs n f = then _ _ _ _ (all_procedures body_of e n) (node (define g e) fs n f) (same e fs n f)
    same (branch a b c) fs n f =
        let xs = all_procedures body_of a n in
        let ys = all_procedures body_of b (n + procedures a) in
        let zs = all_procedures body_of c (n + procedures a + procedures b) in
        then _ _ _ _ (xs ++ (ys ++ zs)) (node (branch a b c) fs n f)
        (both _ _ _ _ xs (ys ++ zs) (same a fs n f.0) (both _ _ _ _ ys zs (same b fs (n + procedures a) f.1) (same c fs (n + procedures a + procedures b) f.2)))
    same (sequence es) fs n f = then _ _ _ _ (all_of_each body_of es n) (node (sequence es) fs n f) (same_each es fs n f)
    same (bind site x es e) fs n f =
        let xs = all_of_each body_of es n in
        let ys = all_procedures body_of e (n + procedures_each es) in
        then _ _ _ _ (xs ++ ys) (node (bind site x es e) fs n f) (both _ _ _ _ xs ys (same_each es fs n f.1) (same e fs (n + procedures_each es) f.2))
    same (fix x ls e) fs n f =
        let xs = all_of_lambdas body_of ls n in
        let ys = all_procedures body_of e (n + procedures_lambdas ls) in
        omega (
          arith,
          sum (here (fix x ls e)) (join (from.over_lambdas nothing join here ls) (from.over nothing join here e)),
          sum (from.over_lambdas nothing join here ls) (from.over nothing join here e),
          sum (here' (to.shape (closed (fix x ls e) fs n))) (to.over nothing join here' (closed e fs (n + procedures_lambdas ls))),
          node (fix x ls e) fs n f,
          both_lists xs ys,
          same_lambdas ls n f.1,
          same e fs (n + procedures_lambdas ls) f.2,
        )
    same (letrec site x es e) fs n f = absurd f
    same (lambda name x k rest e) fs n f =
        omega (
          arith,
          sum (here (lambda name x k rest e)) (from.over nothing join here e),
          node (lambda name x k rest e) fs n f,
          sum (to.over nothing join here' (closed e (fields_of x k e) (suc n))) (of_bodies (all_procedures body_of e (suc n))),
          same e (fields_of x k e) (suc n) f.1,
        )
    same (call site spread g es) fs n f =
        let xs = all_procedures body_of g n in
        let ys = all_of_each body_of es (n + procedures g) in
        then _ _ _ _ (xs ++ ys) (node (call site spread g es) fs n f) (both _ _ _ _ xs ys (same g fs n f.0) (same_each es fs (n + procedures g) f.1))
    same (operation site which es) fs n f = then _ _ _ _ (all_of_each body_of es n) (node (operation site which es) fs n f) (same_each es fs n f)
    same (new_cells cs e) fs n f = then _ _ _ _ (all_procedures body_of e n) (node (new_cells cs e) fs n f) (same e fs n f.1)
    same (cell_get x) fs n f = alone _ _ (node (cell_get x) fs n f)
    same (cell_set x e) fs n f = then _ _ _ _ (all_procedures body_of e n) (node (cell_set x e) fs n f) (same e fs n f)

    pub same_each : (es : Trees) (fs : List ℕ) (n : ℕ) → FreshEach es fs
        → m (from.over_each nothing join here es) ≡ m (to.over_each nothing join here' (closed_each es fs n)) + total (all_of_each body_of es n)
    same_each no_trees fs n f = alone nothing nothing (omega arith)
    same_each (and_tree e es) fs n f = both _ _ _ _ (all_procedures body_of e n) (all_of_each body_of es (n + procedures e)) (same e fs n f.0) (same_each es fs (n + procedures e) f.1)

    pub same_lambdas : (ls : Lambdas) (n : ℕ) → FreshLambdas ls → m (from.over_lambdas nothing join here ls) + sum_per per (own_lambdas ls n) ≡ total (all_of_lambdas body_of ls n)
    same_lambdas no_lambdas n f = omega (arith, empty)
    same_lambdas (and_lambda name x k rest e ls) n f =
        let xs = all_procedures body_of e (suc n) in
        let ys = all_of_lambdas body_of ls (suc n + procedures e) in
        omega (
          arith,
          sum (from.over nothing join here e) (from.over_lambdas nothing join here ls),
          sum (to.over nothing join here' (closed e (fields_of x k e) (suc n))) (of_bodies (xs ++ ys)),
          both_lists xs ys,
          same e (fields_of x k e) (suc n) f.0.1,
          same_lambdas ls (suc n + procedures e) f.1,
        )

  pub same_source : (p : Source) → FreshLambdas p.library → FreshEach p.forms []
      → m (to.over_source nothing join here' (closed_source p)) + sum_per per (closed_source p).bodies ≡ m (from.over_source nothing join here p) + sum_per per (own_lambdas p.library 0)
  same_source p fl f =
      let n = procedures_lambdas p.library in
      let xs = all_of_lambdas body_of p.library 0 in
      let ys = all_of_each body_of p.forms n in
      omega (
        arith,
        sum (of_bodies (xs ++ ys)) (to.over_each nothing join here' (closed_each p.forms [] n)),
        both_lists xs ys,
        sum (from.over_lambdas nothing join here p.library) (from.over_each nothing join here p.forms),
        same_lambdas p.library 0 fl,
        same_each p.forms [] n f,
      )

abbrev no_more : flat.Body → ℕ
no_more b = 0

pub none_more : (bs : List flat.Body) → sum_per no_more bs ≡ 0
none_more [] = refl
none_more (b ∷ bs) = omega (arith, none_more bs)

-- where nothing is counted of a body
pub same_alone : {A : Type 0} (nothing : A) (join : A → A → A) (m : A → ℕ) → m nothing ≡ 0 → ((a b : A) → m (join a b) ≡ m a + m b) → (here : Tree → A) (here' : Shape → A)
    → ((e : Tree) (fs : List ℕ) (n : ℕ) → Fresh e fs → m (here e) ≡ m (here' (to.shape (closed e fs n)))) → (p : Source) → FreshLambdas p.library → FreshEach p.forms []
    → m (to.over_source nothing join here' (closed_source p)) ≡ m (from.over_source nothing join here p)
same_alone nothing join m empty sum here here' node p fl f =
    let whole = same_source nothing join m empty sum no_more here here' (λ e fs n f. omega (arith, node e fs n f, none_more (own e n))) p fl f in
    omega (arith, whole, none_more (closed_source p).bodies, none_more (own_lambdas p.library 0))
