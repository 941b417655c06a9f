-- The bodies of a tree stand in the list of all bodies, each at its label.
use Rattle.std.proofs.Common.{◌≡◌, ℕ, suc, ◌+◌, Bool, List, [], ◌∷◌, ◌++◌, length, Some, refl, sym, ap, ◌∙◌, subst, arith, append_assoc, length-append, append-nil}
use Rattle.std.specs.Prelude.{slice_get}
use Rattle.std.proofs.Math.Nat.{zero-add}
use Rattle.sch_word.proofs.facts.Lists.{get_seam, length_joined}
use Rattle.sch_cells.specs.Tree.{Tree, Trees, Lambdas, constant, literal, variable, global, set_variable, set_global, define, branch, sequence, bind, fix, letrec, lambda, call, operation, new_cells, cell_get, cell_set, no_trees, and_tree, no_lambdas, and_lambda}
use Rattle.sch_closure.specs.Closed.{procedures, procedures_each, procedures_lambdas, all_procedures, all_of_each, all_of_lambdas}
use Rattle.sch_closure.specs.Fresh.{Stands, EachStands, LambdasStand}

-- the part of a list from place n on
pub record Part {A : Type 0} (all : List A) (n : ℕ) (xs : List A) : Type 0 where
  pub before : List A
  pub behind : List A
  pub is : all ≡ before ++ (xs ++ behind)
  pub long : length before ≡ n

module _ {A : Type 0} {all : List A} where
  left : {n : ℕ} (xs ys : List A) → Part all n (xs ++ ys) → Part all n xs
  left xs ys h = record { before = h.before; behind = ys ++ h.behind; is = h.is ∙ ap (λ l. h.before ++ l) (append_assoc xs ys h.behind); long = h.long }

  right : {n : ℕ} (xs ys : List A) (k : ℕ) → length xs ≡ k → Part all n (xs ++ ys) → Part all (n + k) ys
  right xs ys k e h = record {
    before = h.before ++ xs;
    behind = h.behind;
    is = h.is ∙ ap (λ l. h.before ++ l) (append_assoc xs ys h.behind) ∙ sym (append_assoc h.before xs (ys ++ h.behind));
    long = omega (arith, length-append h.before xs, h.long, e);
  }

  head : {n : ℕ} (x : A) (xs : List A) → Part all n (x ∷ xs) → slice_get all n ≡ Some x
  head x xs h = rw (h.is, ← h.long) (get_seam h.before (xs ++ h.behind) x)

  tail : {n : ℕ} (x : A) (xs : List A) → Part all n (x ∷ xs) → Part all (suc n) xs
  tail x xs h = record {
    before = h.before ++ x ∷ [];
    behind = h.behind;
    is = h.is ∙ sym (append_assoc h.before (x ∷ []) (xs ++ h.behind));
    long = omega (arith, length-append h.before (x ∷ []), h.long);
  }

module _ {A : Type 0} (of : (name : List ℕ) → (first formals : ℕ) → (rest : Bool) → Tree → (label : ℕ) → A) where
  mutual
    pub size : (e : Tree) (n : ℕ) → length (all_procedures of e n) ≡ procedures e
    size (constant k) n = refl
    size (variable x) n = refl
    size (global g) n = refl
    size (literal k) n = refl
    size (set_variable x e) n = size e n
    size (set_global g e) n = size e n
    size (define g e) n = size e n
    size (new_cells cs e) n = size e n
    size (cell_get x) n = refl
    size (cell_set x e) n = size e n
    size (branch a b c) n = length_joined (all_procedures of a n) _ (size a n) (length_joined (all_procedures of b (n + procedures a)) _ (size b (n + procedures a)) (size c (n + procedures a + procedures b)))
    size (sequence es) n = size_each es n
    size (bind site x es e) n = length_joined (all_of_each of es n) _ (size_each es n) (size e (n + procedures_each es))
    size (letrec site x es e) n = length_joined (all_of_each of es n) _ (size_each es n) (size e (n + procedures_each es))
    size (fix x ls e) n = length_joined (all_of_lambdas of ls n) _ (size_lambdas ls n) (size e (n + procedures_lambdas ls))
    size (lambda name x m rest e) n = ap suc (size e (suc n))
    size (call site spread f es) n = length_joined (all_procedures of f n) _ (size f n) (size_each es (n + procedures f))
    size (operation site which es) n = size_each es n

    pub size_each : (es : Trees) (n : ℕ) → length (all_of_each of es n) ≡ procedures_each es
    size_each no_trees n = refl
    size_each (and_tree e es) n = length_joined (all_procedures of e n) _ (size e n) (size_each es (n + procedures e))

    pub size_lambdas : (ls : Lambdas) (n : ℕ) → length (all_of_lambdas of ls n) ≡ procedures_lambdas ls
    size_lambdas no_lambdas n = refl
    size_lambdas (and_lambda name x m rest e ls) n = ap suc (length_joined (all_procedures of e (suc n)) _ (size e (suc n)) (size_lambdas ls (suc n + procedures e)))

  module _ (all : List A) where
    mutual
      pub stands : (e : Tree) (n : ℕ) → Part all n (all_procedures of e n) → Stands of all e n
      stands (constant k) n p = tt
      stands (variable x) n p = tt
      stands (global g) n p = tt
      stands (literal k) n p = tt
      stands (set_variable x e) n p = stands e n p
      stands (set_global g e) n p = stands e n p
      stands (define g e) n p = stands e n p
      stands (new_cells cs e) n p = stands e n p
      stands (cell_get x) n p = tt
      stands (cell_set x e) n p = stands e n p
      stands (branch a b c) n p =
          let q = right (all_procedures of a n) _ (procedures a) (size a n) p in (
            stands a n (left (all_procedures of a n) _ p),
            stands b (n + procedures a) (left (all_procedures of b (n + procedures a)) _ q),
            stands c (n + procedures a + procedures b) (right (all_procedures of b (n + procedures a)) _ (procedures b) (size b (n + procedures a)) q),
          )
      stands (sequence es) n p = stands_each es n p
      stands (bind site x es e) n p =
          (stands_each es n (left (all_of_each of es n) _ p), stands e (n + procedures_each es) (right (all_of_each of es n) _ (procedures_each es) (size_each es n) p))
      stands (letrec site x es e) n p =
          (stands_each es n (left (all_of_each of es n) _ p), stands e (n + procedures_each es) (right (all_of_each of es n) _ (procedures_each es) (size_each es n) p))
      stands (fix x ls e) n p =
          (stands_lambdas ls n (left (all_of_lambdas of ls n) _ p), stands e (n + procedures_lambdas ls) (right (all_of_lambdas of ls n) _ (procedures_lambdas ls) (size_lambdas ls n) p))
      stands (lambda name x m r e) n p = (head _ _ p, stands e (suc n) (tail _ _ p))
      stands (call site spread f es) n p =
          (stands f n (left (all_procedures of f n) _ p), stands_each es (n + procedures f) (right (all_procedures of f n) _ (procedures f) (size f n) p))
      stands (operation site which es) n p = stands_each es n p

      stands_each : (es : Trees) (n : ℕ) → Part all n (all_of_each of es n) → EachStands of all es n
      stands_each no_trees n p = tt
      stands_each (and_tree e es) n p =
          (stands e n (left (all_procedures of e n) _ p), stands_each es (n + procedures e) (right (all_procedures of e n) _ (procedures e) (size e n) p))

      stands_lambdas : (ls : Lambdas) (n : ℕ) → Part all n (all_of_lambdas of ls n) → LambdasStand of all ls n
      stands_lambdas no_lambdas n p = tt
      stands_lambdas (and_lambda name x m r e ls) n p =
          let q = tail _ _ p in
          ((head _ _ p, stands e (suc n) (left (all_procedures of e (suc n)) _ q)), stands_lambdas ls (suc n + procedures e) (right (all_procedures of e (suc n)) _ (procedures e) (size e (suc n)) q))

  -- those of a program: the library's first
  module _ (ls : Lambdas) (es : Trees) where
    whole : Part (all_of_lambdas of ls 0 ++ all_of_each of es (procedures_lambdas ls)) 0 (all_of_lambdas of ls 0 ++ all_of_each of es (procedures_lambdas ls))
    whole = record { before = []; behind = []; is = sym (append-nil (all_of_lambdas of ls 0 ++ all_of_each of es (procedures_lambdas ls))); long = refl }

    pub stands_library : LambdasStand of (all_of_lambdas of ls 0 ++ all_of_each of es (procedures_lambdas ls)) ls 0
    stands_library = stands_lambdas _ ls 0 (left (all_of_lambdas of ls 0) (all_of_each of es (procedures_lambdas ls)) whole)

    pub stands_forms : EachStands of (all_of_lambdas of ls 0 ++ all_of_each of es (procedures_lambdas ls)) es (procedures_lambdas ls)
    stands_forms = stands_each _ es (procedures_lambdas ls) (subst (λ n. Part (all_of_lambdas of ls 0 ++ all_of_each of es (procedures_lambdas ls)) n (all_of_each of es (procedures_lambdas ls)))
        (zero-add (procedures_lambdas ls)) (right (all_of_lambdas of ls 0) (all_of_each of es (procedures_lambdas ls)) (procedures_lambdas ls) (size_lambdas ls 0) whole))
