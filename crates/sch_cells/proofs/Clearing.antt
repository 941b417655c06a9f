-- Where each variable has one number and is bound where it is used, none is bound twice around a place.
use Rattle.std.proofs.Common.{◌≡◌, ℕ, zero, suc, Bool, true, false, List, [], ◌∷◌, ◌++◌, refl, sym, ap, ◌∙◌, subst}
use Rattle.std.specs.Prelude.{IsTrue, ◌&&◌, ◌||◌, not, nat_eq}
use Rattle.std.proofs.lemmas.Bool.{eqb-true}
use Rattle.sch_word.specs.trees.NumberSets.{has, without_repeats, In}
use Rattle.sch_cells.specs.Tree.{Tree, Trees, Lambdas, Source, constant, literal, variable, global, set_variable, set_global, define, branch, sequence, bind, fix, letrec, lambda, call, operation, new_cells, cell_get, cell_set, no_trees, and_tree, no_lambdas, and_lambda, count, count_lambdas}
use Rattle.sch_word.specs.trees.Bindings.{numbers, scope_with, pushed}
use Rattle.sch_cells.specs.Variables.{cells_bound, cells_used, all_in, bound, bound_each, bound_lambdas, closed, closed_each, closed_lambdas, below}
use Rattle.sch_cells.specs.Valid.{scoped, bound_of}
use Rattle.sch_cells.specs.Clear.{Apart, Clear, ClearEach, ClearLambdas}
use Rattle.sch_word.proofs.facts.NumberSets.{has_append, in_more}
use Rattle.sch_word.proofs.facts.Booleans.{not_true, or_left, or_right, neither, not_left, not_right, and_of, and_parts}

-- ## Lists that are apart

pub left_apart : (xs ys S : List ℕ) → Apart (xs ++ ys) S → Apart xs S
left_apart xs ys S h = record { at = λ y i. h.at y (has_append y xs ys ∙ or_left (has y xs) (has y ys) i) }

pub right_apart : (xs ys S : List ℕ) → Apart (xs ++ ys) S → Apart ys S
right_apart xs ys S h = record { at = λ y i. h.at y (has_append y xs ys ∙ or_right (has y xs) (has y ys) i) }

pub apart_left : (xs ys zs : List ℕ) → Apart xs (ys ++ zs) → Apart xs ys
apart_left xs ys zs h = record { at = λ y i. not_left (has y ys) (has y zs) (sym (has_append y ys zs) ∙ h.at y i) }

pub apart_right : (xs ys zs : List ℕ) → Apart xs (ys ++ zs) → Apart xs zs
apart_right xs ys zs h = record { at = λ y i. not_right (has y ys) (has y zs) (sym (has_append y ys zs) ∙ h.at y i) }

pub apart_back : (xs ys : List ℕ) → Apart xs ys → Apart ys xs
apart_back xs ys h = record { at = λ y i. go y i (has y xs) refl }
  where
    go : (y : ℕ) → In y ys → (b : Bool) → has y xs ≡ b → has y xs ≡ false
    go y i true e = absurd (let q : has y ys ≡ false = h.at y e in cc)
    go y i false e = e

-- what is apart from a group and from a scope is apart from the scope with the group
pub scope_has : (y : ℕ) (x m : ℕ) (S : List ℕ) → has y (numbers x m) ≡ false → has y S ≡ false → has y (scope_with x m S) ≡ false
scope_has y x zero S p q = q
scope_has y x (suc m) S p q = scope_has y (suc x) m (x ∷ S) (not_right (nat_eq y x) _ p) (neither (nat_eq y x) (has y S) (not_left (nat_eq y x) _ p) q)

pub apart_scope : (xs : List ℕ) (x m : ℕ) (S : List ℕ) → Apart xs (numbers x m) → Apart xs S → Apart xs (scope_with x m S)
apart_scope xs x m S p q = record { at = λ y i. scope_has y x m S (p.at y i) (q.at y i) }

-- what is in a scope is in a larger one
pub in_under : (zs : List ℕ) (y : ℕ) (S : List ℕ) → In y S → In y (pushed zs S)
in_under [] y S i = i
in_under (z ∷ zs) y S i = in_under zs y (z ∷ S) (in_more y z S i)

pub list_has : (y : ℕ) (zs S : List ℕ) → has y zs ≡ false → has y S ≡ false → has y (pushed zs S) ≡ false
list_has y [] S p q = q
list_has y (z ∷ zs) S p q = list_has y zs (z ∷ S) (not_right (nat_eq y z) _ p) (neither (nat_eq y z) (has y S) (not_left (nat_eq y z) _ p) q)

-- ## Lists without repeats

pub record Parts (xs ys : List ℕ) : Type 0 where
  pub left : IsTrue (without_repeats xs)
  pub right : IsTrue (without_repeats ys)
  pub apart : Apart xs ys

pub distinct_parts : (xs ys : List ℕ) → IsTrue (without_repeats (xs ++ ys)) → Parts xs ys
distinct_parts [] ys h = record { left = refl; right = h; apart = record { at = λ y i. absurd (cc) } }
distinct_parts (x ∷ xs) ys h =
    let p = and_parts (not (has x (xs ++ ys))) (without_repeats (xs ++ ys)) h in
    let d = distinct_parts xs ys p.1 in
    let f : (has x xs || has x ys) ≡ false = sym (has_append x xs ys) ∙ not_true (has x (xs ++ ys)) p.0 in
    let n : IsTrue (not (has x xs)) = ap not (not_left (has x xs) (has x ys) f) in
    record { left = and_of _ _ n d.left; right = d.right; apart = record { at = λ y i. go y (nat_eq y x) refl i (not_right (has x xs) (has x ys) f) (d.apart.at y) } }
  where
    go : (y : ℕ) (b : Bool) → nat_eq y x ≡ b → (nat_eq y x || has y xs) ≡ true → has x ys ≡ false → (In y xs → has y ys ≡ false) → has y ys ≡ false
    go y true e i f k = subst (λ z. has z ys ≡ false) (sym (eqb-true y x e)) f
    go y false e i f k = k (let j : (false || has y xs) ≡ true = rw e at i in j)

-- ## Trees

mutual
  pub clear : (e : Tree) (S : List ℕ) → IsTrue (closed e S) → IsTrue (without_repeats (bound e)) → Apart (bound e) S → Clear e S
  clear (constant c) S k d a = tt
  clear (literal n) S k d a = tt
  clear (variable x) S k d a = k
  clear (global g) S k d a = tt
  clear (set_variable x e) S k d a = let p = and_parts (has x S) (closed e S) k in (p.0, clear e S p.1 d a)
  clear (set_global g e) S k d a = clear e S k d a
  clear (define g e) S k d a = clear e S k d a
  clear (branch x y z) S k d a =
      let p = and_parts (closed x S) (closed y S && closed z S) k in
      let q = and_parts (closed y S) (closed z S) p.1 in
      let s = distinct_parts (bound x) (bound y ++ bound z) d in
      let t = distinct_parts (bound y) (bound z) s.right in
      let r = right_apart (bound x) (bound y ++ bound z) S a in
      (clear x S p.0 s.left (left_apart (bound x) _ S a), clear y S q.0 t.left (left_apart (bound y) (bound z) S r), clear z S q.1 t.right (right_apart (bound y) (bound z) S r))
  clear (sequence es) S k d a = clear_each es S k d a
  clear (bind site x es e) S k d a =
      let m = count es in
      let p = and_parts (closed_each es S) (closed e (scope_with x m S)) k in
      let s = distinct_parts (numbers x m) (bound_each es ++ bound e) d in
      let t = distinct_parts (bound_each es) (bound e) s.right in
      let r = right_apart (numbers x m) (bound_each es ++ bound e) S a in (
        clear_each es S p.0 t.left (left_apart (bound_each es) (bound e) S r),
        left_apart (numbers x m) _ S a,
        clear e (scope_with x m S) p.1 t.right (apart_scope (bound e) x m S (apart_back _ _ (apart_right (numbers x m) (bound_each es) (bound e) s.apart)) (right_apart (bound_each es) (bound e) S r)),
      )
  clear (fix x ls e) S k d a =
      let m = count_lambdas ls in
      let p = and_parts (closed_lambdas ls (scope_with x m S)) (closed e (scope_with x m S)) k in
      let s = distinct_parts (numbers x m) (bound_lambdas ls ++ bound e) d in
      let t = distinct_parts (bound_lambdas ls) (bound e) s.right in
      let r = right_apart (numbers x m) (bound_lambdas ls ++ bound e) S a in (
        left_apart (numbers x m) _ S a,
        clear_lambdas ls (scope_with x m S) p.0 t.left
            (apart_scope (bound_lambdas ls) x m S (apart_back _ _ (apart_left (numbers x m) (bound_lambdas ls) (bound e) s.apart)) (left_apart (bound_lambdas ls) (bound e) S r)),
        clear e (scope_with x m S) p.1 t.right (apart_scope (bound e) x m S (apart_back _ _ (apart_right (numbers x m) (bound_lambdas ls) (bound e) s.apart))
            (right_apart (bound_lambdas ls) (bound e) S r)),
      )
  clear (letrec site x es e) S k d a =
      let m = count es in
      let p = and_parts (closed_each es (scope_with x m S)) (closed e (scope_with x m S)) k in
      let s = distinct_parts (numbers x m) (bound_each es ++ bound e) d in
      let t = distinct_parts (bound_each es) (bound e) s.right in
      let r = right_apart (numbers x m) (bound_each es ++ bound e) S a in (
        left_apart (numbers x m) _ S a,
        clear_each es (scope_with x m S) p.0 t.left
            (apart_scope (bound_each es) x m S (apart_back _ _ (apart_left (numbers x m) (bound_each es) (bound e) s.apart)) (left_apart (bound_each es) (bound e) S r)),
        clear e (scope_with x m S) p.1 t.right (apart_scope (bound e) x m S (apart_back _ _ (apart_right (numbers x m) (bound_each es) (bound e) s.apart)) (right_apart (bound_each es) (bound e) S r)),
      )
  clear (lambda name x m rest e) S k d a =
      let s = distinct_parts (numbers x m) (bound e) d in
      (left_apart (numbers x m) (bound e) S a, clear e (scope_with x m S) k s.right (apart_scope (bound e) x m S (apart_back _ _ s.apart) (right_apart (numbers x m) (bound e) S a)))
  clear (call site spread f es) S k d a =
      let p = and_parts (closed f S) (closed_each es S) k in
      let s = distinct_parts (bound f) (bound_each es) d in
      (clear f S p.0 s.left (left_apart (bound f) (bound_each es) S a), clear_each es S p.1 s.right (right_apart (bound f) (bound_each es) S a))
  clear (operation site which es) S k d a = clear_each es S k d a
  clear (new_cells cs e) S k d a =
      let p = and_parts (all_in (cells_used cs) S) (closed e (pushed (cells_bound cs) S)) k in
      let s = distinct_parts (cells_bound cs) (bound e) d in
      let r = right_apart (cells_bound cs) (bound e) S a in
      let b = apart_back _ _ s.apart in
      (p.0, left_apart (cells_bound cs) (bound e) S a, clear e (pushed (cells_bound cs) S) p.1 s.right (record { at = λ y i. list_has y (cells_bound cs) S (b.at y i) (r.at y i) }))
  clear (cell_get x) S k d a = k
  clear (cell_set x e) S k d a = let p = and_parts (has x S) (closed e S) k in (p.0, clear e S p.1 d a)

  pub clear_each : (es : Trees) (S : List ℕ) → IsTrue (closed_each es S) → IsTrue (without_repeats (bound_each es)) → Apart (bound_each es) S → ClearEach es S
  clear_each no_trees S k d a = tt
  clear_each (and_tree e es) S k d a =
      let p = and_parts (closed e S) (closed_each es S) k in
      let s = distinct_parts (bound e) (bound_each es) d in
      (clear e S p.0 s.left (left_apart (bound e) (bound_each es) S a), clear_each es S p.1 s.right (right_apart (bound e) (bound_each es) S a))

  pub clear_lambdas : (ls : Lambdas) (S : List ℕ) → IsTrue (closed_lambdas ls S) → IsTrue (without_repeats (bound_lambdas ls)) → Apart (bound_lambdas ls) S → ClearLambdas ls S
  clear_lambdas no_lambdas S k d a = tt
  clear_lambdas (and_lambda name x m rest e ls) S k d a =
      let p = and_parts (closed e (scope_with x m S)) (closed_lambdas ls S) k in
      let s = distinct_parts (numbers x m) (bound e ++ bound_lambdas ls) d in
      let t = distinct_parts (bound e) (bound_lambdas ls) s.right in
      let r = right_apart (numbers x m) (bound e ++ bound_lambdas ls) S a in (
        (
          left_apart (numbers x m) _ S a,
          clear e (scope_with x m S) p.0 t.left
              (apart_scope (bound e) x m S (apart_back _ _ (apart_left (numbers x m) (bound e) (bound_lambdas ls) s.apart)) (left_apart (bound e) (bound_lambdas ls) S r)),
        ),
        clear_lambdas ls S p.1 t.right (right_apart (bound e) (bound_lambdas ls) S r),
      )

nothing_apart : (xs : List ℕ) → Apart xs []
nothing_apart xs = record { at = λ y i. refl }

-- a valid program is clear
pub program_clear : (p : Source) → IsTrue (scoped p) → ClearLambdas p.library [] × ClearEach p.forms []
program_clear p h =
    let q = and_parts (without_repeats (bound_of p) && below p.variables (bound_of p)) (closed_lambdas p.library [] && closed_each p.forms []) h in
    let d = and_parts (without_repeats (bound_of p)) (below p.variables (bound_of p)) q.0 in
    let c = and_parts (closed_lambdas p.library []) (closed_each p.forms []) q.1 in
    let s = distinct_parts (bound_lambdas p.library) (bound_each p.forms) d.0 in
    (clear_lambdas p.library [] c.0 s.left (nothing_apart _), clear_each p.forms [] c.1 s.right (nothing_apart _))
