-- The numbers of the variables that are made: each stands once, as the number that it comes from.
use Rattle.std.proofs.Common.{◌≡◌, ℕ, zero, suc, ◌+◌, ◌-◌, ◌<◌, ◌≤◌, Bool, true, false, List, [], ◌∷◌, ◌++◌, refl, ap, ◌∙◌, subst, arith}
use Rattle.std.specs.Prelude.{IsTrue, ◌||◌, not, nat_eq, nat_lt}
use Rattle.std.proofs.lemmas.Bool.{eqb-true, eq-eqb, lt-ltb, ltb-true}
use Rattle.sch_word.proofs.facts.Booleans.{not_true, and_of, and_parts}
use Rattle.sch_word.specs.trees.NumberSets.{has, without_repeats, In}
use Rattle.sch_word.specs.trees.Bindings.{numbers, scope_with}
use Rattle.sch_cells.specs.declared.tree.NewCell.{NewCell}
use Rattle.sch_cells.specs.Tree.{Tree, Trees, Lambdas, Source, constant, literal, variable, global, set_variable, set_global, define, branch, sequence, bind, fix, letrec, lambda, call, operation, new_cells, cell_get, cell_set, no_trees, and_tree, no_lambdas, and_lambda, count, count_lambdas}
use Rattle.sch_cells.specs.Variables.{cells_bound, bound, bound_each, bound_lambdas, below}
use Rattle.sch_cells.specs.Valid.{bound_of}
use Rattle.sch_assign.specs.Converted.{and_cell, cells_for, empty_cells, filling, reading, wrapped, converted, converted_each, converted_lambdas, converted_source, AllAre, Low, Right, RightEach, RightLambdas}
use Rattle.sch_assign.proofs.Lookups.{all_first, all_next, low_first, low_next}
use Rattle.sch_assign.proofs.kept.FreeMoved.{count_same, count_lambdas_same}
use Rattle.sch_assign.proofs.ConversionIsRight.{IsRight, below_has}
use Rattle.sch_word.proofs.facts.Occurrences.{has_times, one, one_alike, one_other, one_same, times, times_append, times_cons, times_has, times_none}

-- ## How often a number stands in a list

times_three : (z : ℕ) (xs ys zs : List ℕ) → times z (xs ++ (ys ++ zs)) ≡ times z xs + (times z ys + times z zs)
times_three z xs ys zs = times_append z xs (ys ++ zs) ∙ ap (λ k. times z xs + k) (times_append z ys zs)

distinct_times : (z : ℕ) (xs : List ℕ) → IsTrue (without_repeats xs) → times z xs ≤ 1
distinct_times z [] d = omega arith
distinct_times z (x ∷ xs) d =
    let p = and_parts (not (has x xs)) (without_repeats xs) d in
    go (nat_eq x z) refl (not_true (has x xs) p.0) (distinct_times z xs p.1)
  where
    go : (b : Bool) → nat_eq x z ≡ b → has x xs ≡ false → times z xs ≤ 1 → times z (x ∷ xs) ≤ 1
    go true e h k =
        let q : x ≡ z = eqb-true x z e in
        let n : times z xs ≡ 0 = times_none z xs (rw (← q) h) in
        let o = ap (one z) q in
        omega (arith, n, o, one_same z, times_cons z x xs)
    go false e h k = let o : one z x ≡ 0 = rw e refl in omega (arith, k, o, times_cons z x xs)

times_distinct : (xs : List ℕ) → ((z : ℕ) → times z xs ≤ 1) → IsTrue (without_repeats xs)
times_distinct [] h = refl
times_distinct (x ∷ xs) h = and_of _ _ (ap not (go (has x xs) refl)) (times_distinct xs (λ z. let k = h z in omega (arith, k, times_cons z x xs)))
  where
    go : (b : Bool) → has x xs ≡ b → b ≡ false
    go true e = absurd (let t = times_has x xs e in let k = h x in omega (arith, t, k, times_cons x x xs, one_same x))
    go false e = refl

below_all : (k : ℕ) (xs : List ℕ) → ((z : ℕ) → In z xs → z < k) → IsTrue (below k xs)
below_all k [] h = refl
below_all k (x ∷ xs) h =
    and_of _ _ (lt-ltb x k (h x (let s : nat_eq x x ≡ true = eq-eqb x x refl in rw s refl))) (below_all k xs (λ z i. h z (more (nat_eq z x) i)))
  where
    more : (b : Bool) {c : Bool} → c ≡ true → (b || c) ≡ true
    more true e = refl
    more false e = e

-- ## Where a number comes from: it is that of a variable, or that of a variable's cell

data Origin (n z o : ℕ) : Type 0 where
  itself : z < n → z ≡ o → Origin n z o
  its_cell : z ≡ o + n → Origin n z o

module _ (has_cell : ℕ → Bool) (n : ℕ) where
  keys_high : (x m z : ℕ) → z < n → times z (cells_bound (cells_for has_cell n x m)) ≡ 0
  keys_high x zero z l = refl
  keys_high x (suc m) z l = go (has_cell x) (keys_high (suc x) m z l)
    where
      go : (b : Bool) → times z (cells_bound (cells_for has_cell n (suc x) m)) ≡ 0 → times z (cells_bound (and_cell n b x (cells_for has_cell n (suc x) m))) ≡ 0
      go true k = omega (arith, k, times_cons z (x + n) (cells_bound (cells_for has_cell n (suc x) m)), one_other z (x + n) (λ e. omega (arith, e, l)))
      go false k = k

  numbers_low : (x m z : ℕ) → Low n x m → n ≤ z → times z (numbers x m) ≡ 0
  numbers_low x zero z low l = refl
  numbers_low x (suc m) z low l =
      let f : x < n = low_first has_cell n x m low in
      let k = numbers_low (suc x) m z (low_next has_cell n x m low) l in
      omega (arith, k, times_cons z x (numbers (suc x) m), one_other z x (λ e. omega (arith, e, l, f)))

  keys_few : (x m z o : ℕ) → z ≡ o + n → times z (cells_bound (cells_for has_cell n x m)) ≤ times o (numbers x m)
  keys_few x zero z o e = omega arith
  keys_few x (suc m) z o e = go (has_cell x) (keys_few (suc x) m z o e)
    where
      go : (b : Bool) → times z (cells_bound (cells_for has_cell n (suc x) m)) ≤ times o (numbers (suc x) m)
          → times z (cells_bound (and_cell n b x (cells_for has_cell n (suc x) m))) ≤ times o (x ∷ numbers (suc x) m)
      go true k =
          let t : one z (x + n) ≡ one o x = one_alike z (x + n) o x (λ q. omega (arith, q, e)) (λ q. omega (arith, q, e)) in
          omega (arith, k, t, times_cons z (x + n) (cells_bound (cells_for has_cell n (suc x) m)), times_cons o x (numbers (suc x) m))
      go false k = omega (arith, k, times_cons o x (numbers (suc x) m))

  group_once : (x m z o : ℕ) → Low n x m → Origin n z o → times z (numbers x m) + times z (cells_bound (cells_for has_cell n x m)) ≤ times o (numbers x m)
  group_once x m z o low (itself l e) = let k = keys_high x m z l in subst (λ o. times z (numbers x m) + times z (cells_bound (cells_for has_cell n x m)) ≤ times o (numbers x m)) e (omega (arith, k))
  group_once x m z o low (its_cell e) = let k = numbers_low x m z low (omega (arith, e)) in let f = keys_few x m z o e in omega (arith, k, f)

  pub wrapped_bound : (cs : List NewCell) (e : Tree) → bound (wrapped cs e) ≡ cells_bound cs ++ bound e
  wrapped_bound [] e = refl
  wrapped_bound (c ∷ cs) e = refl

  pub same_keys : (x m : ℕ) → AllAre has_cell n true x m → cells_bound (empty_cells n x m) ≡ cells_bound (cells_for has_cell n x m)
  same_keys x zero h = refl
  same_keys x (suc m) h = rw (all_first has_cell n true x m h) (ap (λ l. (x + n) ∷ l) (same_keys (suc x) m (all_next has_cell n true x m h)))

  filling_bound : (x m : ℕ) (e : Tree) (z : ℕ) → times z (bound_each (filling n x m e)) ≡ times z (bound e)
  filling_bound x zero e z = let h = times_append z (bound e) [] in omega (arith, h)
  filling_bound x (suc m) e z = filling_bound (suc x) m e z

  reading_bound : (b : Bool) (x z : ℕ) → times z (bound (reading n b x)) ≡ 0
  reading_bound true x z = refl
  reading_bound false x z = refl

  module _ (z o : ℕ) (from : Origin n z o) where
    mutual
      once : (e : Tree) (S : List ℕ) → Right has_cell n e S → times z (bound (converted has_cell n e)) ≤ times o (bound e)
      once (constant c) S r = omega arith
      once (literal k) S r = omega arith
      once (variable x) S r = let k = reading_bound (has_cell x) x z in omega (arith, k)
      once (global g) S r = omega arith
      once (set_variable x e) S r = once e S r.2
      once (set_global g e) S r = once e S r
      once (define g e) S r = once e S r
      once (branch a b c) S r =
          let t = times_three z (bound (converted has_cell n a)) (bound (converted has_cell n b)) (bound (converted has_cell n c)) in
          let u = times_three o (bound a) (bound b) (bound c) in
          let ha = once a S r.0 in
          let hb = once b S r.1 in
          let hc = once c S r.2 in
          omega (arith, t, u, ha, hb, hc)
      once (sequence es) S r = each_once es S r
      once (bind site x es e) S r =
          let m = count es in
          let w = ap (times z) (wrapped_bound (cells_for has_cell n x m) (converted has_cell n e)) ∙ times_append z (cells_bound (cells_for has_cell n x m)) (bound (converted has_cell n e)) in
          let t = times_three z (numbers x m) (bound_each (converted_each has_cell n es)) (bound (wrapped (cells_for has_cell n x m) (converted has_cell n e))) in
          let u = times_three o (numbers x m) (bound_each es) (bound e) in
          let g = group_once x m z o r.2 from in
          let hs = each_once es S r.0 in
          let he = once e (scope_with x m S) r.3 in
          rw (count_same has_cell n es) (omega (arith, w, t, u, g, hs, he))
      once (fix x ls e) S r =
          let m = count_lambdas ls in
          let t = times_three z (numbers x m) (bound_lambdas (converted_lambdas has_cell n ls)) (bound (converted has_cell n e)) in
          let u = times_three o (numbers x m) (bound_lambdas ls) (bound e) in
          let g = group_once x m z o r.1 from in
          let hs = lambdas_once ls (scope_with x m S) r.2 in
          let he = once e (scope_with x m S) r.3 in
          rw (count_lambdas_same has_cell n ls) (omega (arith, t, u, g, hs, he))
      once (letrec site x es e) S r =
          let m = count es in
          let es' = converted_each has_cell n es in
          let fs = filling n x m (converted has_cell n e) in
          let k = ap (times z) (same_keys x m r.0) in
          let s = times_append z (cells_bound (empty_cells n x m)) (numbers x m ++ (bound_each es' ++ bound_each fs)) in
          let t = times_three z (numbers x m) (bound_each es') (bound_each fs) in
          let f = filling_bound x m (converted has_cell n e) z in
          let u = times_three o (numbers x m) (bound_each es) (bound e) in
          let g = group_once x m z o r.1 from in
          let hs = each_once es (scope_with x m S) r.2 in
          let he = once e (scope_with x m S) r.3 in
          rw (count_same has_cell n es) (omega (arith, k, s, t, f, u, g, hs, he))
      once (lambda name x m rest e) S r =
          let w = ap (times z) (wrapped_bound (cells_for has_cell n x m) (converted has_cell n e)) ∙ times_append z (cells_bound (cells_for has_cell n x m)) (bound (converted has_cell n e)) in
          let t = times_append z (numbers x m) (bound (wrapped (cells_for has_cell n x m) (converted has_cell n e))) in
          let u = times_append o (numbers x m) (bound e) in
          let g = group_once x m z o r.1 from in
          let he = once e (scope_with x m S) r.2 in
          omega (arith, w, t, u, g, he)
      once (call site spread f es) S r =
          let t = times_append z (bound (converted has_cell n f)) (bound_each (converted_each has_cell n es)) in
          let u = times_append o (bound f) (bound_each es) in
          let hf = once f S r.0 in
          let hs = each_once es S r.1 in
          omega (arith, t, u, hf, hs)
      once (operation site which es) S r = each_once es S r
      once (new_cells cs e) S r = absurd r
      once (cell_get x) S r = absurd r
      once (cell_set x e) S r = absurd r

      each_once : (es : Trees) (S : List ℕ) → RightEach has_cell n es S → times z (bound_each (converted_each has_cell n es)) ≤ times o (bound_each es)
      each_once no_trees S r = omega arith
      each_once (and_tree e es) S r =
          let t = times_append z (bound (converted has_cell n e)) (bound_each (converted_each has_cell n es)) in
          let u = times_append o (bound e) (bound_each es) in
          let he = once e S r.0 in
          let hs = each_once es S r.1 in
          omega (arith, t, u, he, hs)

      lambdas_once : (ls : Lambdas) (S : List ℕ) → RightLambdas has_cell n ls S → times z (bound_lambdas (converted_lambdas has_cell n ls)) ≤ times o (bound_lambdas ls)
      lambdas_once no_lambdas S r = omega arith
      lambdas_once (and_lambda name x m rest e ls) S r =
          let w = ap (times z) (wrapped_bound (cells_for has_cell n x m) (converted has_cell n e)) ∙ times_append z (cells_bound (cells_for has_cell n x m)) (bound (converted has_cell n e)) in
          let t = times_three z (numbers x m) (bound (wrapped (cells_for has_cell n x m) (converted has_cell n e))) (bound_lambdas (converted_lambdas has_cell n ls)) in
          let u = times_three o (numbers x m) (bound e) (bound_lambdas ls) in
          let g = group_once x m z o r.0.1 from in
          let he = once e (scope_with x m S) r.0.2 in
          let hs = lambdas_once ls S r.1 in
          omega (arith, w, t, u, g, he, hs)

    whole_once : (p : Source) → IsRight has_cell n p → times z (bound_of (converted_source has_cell n p)) ≤ times o (bound_of p)
    whole_once p r =
        let t = times_append z (bound_lambdas (converted_lambdas has_cell n p.library)) (bound_each (converted_each has_cell n p.forms)) in
        let u = times_append o (bound_lambdas p.library) (bound_each p.forms) in
        let hl = lambdas_once p.library [] r.library in
        let hf = each_once p.forms [] r.forms in
        omega (arith, t, u, hl, hf)

  record From (z : ℕ) : Type 0 where
    o : ℕ
    is : Origin n z o

  origin : (z : ℕ) → From z
  origin z = go (nat_lt z n) refl
    where
      go : (b : Bool) → nat_lt z n ≡ b → From z
      go true e = record { o = z; is = itself (ltb-true z n e) refl }
      go false e = record { o = z - n; is = its_cell (let l : z < n → ⊥ = λ k. let q : nat_lt z n ≡ true = lt-ltb z n k in absurd (cc) in apart_enough l) }
        where
          apart_enough : (z < n → ⊥) → z ≡ z - n + n
          apart_enough l = omega (arith, l)

  -- each number stands once
  pub numbers_distinct : (p : Source) → IsRight has_cell n p → IsTrue (without_repeats (bound_of p)) → IsTrue (without_repeats (bound_of (converted_source has_cell n p)))
  numbers_distinct p r d =
      times_distinct (bound_of (converted_source has_cell n p)) (λ z. let f = origin z in let k = whole_once z f.o f.is p r in let l = distinct_times f.o (bound_of p) d in omega (arith, k, l))

  -- and all are below twice as many
  pub numbers_below : (p : Source) → IsRight has_cell n p → IsTrue (below n (bound_of p)) → IsTrue (below (n + n) (bound_of (converted_source has_cell n p)))
  numbers_below p r b =
      below_all (n + n) (bound_of (converted_source has_cell n p)) (λ z i.
      let f = origin z in
      let k = whole_once z f.o f.is p r in
      let t = times_has z (bound_of (converted_source has_cell n p)) i in
      let l = below_has n f.o (bound_of p) b (has_times f.o (bound_of p) (omega (arith, k, t))) in
      low z f.o f.is l)
    where
      low : (z o : ℕ) → Origin n z o → o < n → z < n + n
      low z o (itself l e) k = omega (arith, l)
      low z o (its_cell e) k = omega (arith, e, k)
