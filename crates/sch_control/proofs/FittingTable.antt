-- The table of what is bound and then the others fits, and a table that fits is an order table.
use Rattle.std.proofs.Common.{◌≡◌, ℕ, zero, suc, ◌+◌, ◌<◌, ◌≤◌, Bool, true, false, cond, not, List, [], ◌∷◌, ◌++◌, length, refl, sym, ap, ◌∙◌, arith, length-append}
use Rattle.std.specs.Prelude.{nat_eq, nat_lt, ◌&&◌, ◌||◌}
use Rattle.std.specs.List.{list_all, sum_by}
use Rattle.std.proofs.lemmas.Bool.{eq-eqb, eqb-true, eqb-false, ltb-true, ltb-false}
use Rattle.std.proofs.lemmas.List.Sums.{sum_by-cons}
use Rattle.sch_word.specs.trees.NumberSets.{has, unless, without_repeats}
use Rattle.sch_word.specs.trees.Bindings.{numbers}
use Rattle.sch_word.specs.runs.Orders.{is_permutation, is_order_table}
use Rattle.sch_control.specs.Tree.{Source}
use Rattle.sch_control.specs.Fits.{begins_with, fits, table_fits}
use Rattle.sch_control.specs.Valid.{bound_parts, bound_known}
use Rattle.sch_control.specs.OrderTable.{others, given_order, given_orders, given_table}
use Rattle.sch_control.proofs.NumberRows.{permuted}
use Rattle.sch_word.proofs.facts.NumberSets.{numbers_length}
use Rattle.sch_word.proofs.facts.Booleans.{and_left, and_right, and_of, not_true}
use Rattle.sch_word.proofs.facts.Occurrences.{one, one_same, one_other, times, times_append, times_cons}

pub begins_itself : (xs ys : List ℕ) → begins_with xs (xs ++ ys) ≡ true
begins_itself [] ys = refl
begins_itself (x ∷ xs) ys = and_of (nat_eq x x) (begins_with xs (xs ++ ys)) (eq-eqb x x refl) (begins_itself xs ys)

-- a number stands once in a row
row_before : (k x n : ℕ) → k < x → times k (numbers x n) ≡ 0
row_before k x zero l = refl
row_before k x (suc n) l = let h = row_before k (suc x) n (omega (arith, l)) in omega (arith, h, times_cons k x (numbers (suc x) n), one_other k x (λ e. omega (arith, e, l)))

row_once : (k x n : ℕ) → x ≤ k → k < x + n → times k (numbers x n) ≡ 1
row_once k x zero l u = absurd (omega (arith, l, u))
row_once k x (suc n) l u = go (nat_eq x k) refl (λ l. row_once k (suc x) n l (omega (arith, u)))
  where
    go : (b : Bool) → nat_eq x k ≡ b → (suc x ≤ k → times k (numbers (suc x) n) ≡ 1) → times k (numbers x (suc n)) ≡ 1
    go true e more = let m = eqb-true x k e in let h = row_before k (suc x) n (omega (arith, m)) in omega (arith, h, times_cons k x (numbers (suc x) n), ap (λ z. one k z) m, one_same k)
    go false e more =
        let m = eqb-false x k e in
        let h = more (above m) in
        omega (arith, h, times_cons k x (numbers (suc x) n), one_other k x m)
      where
        above : (x ≡ k → ⊥) → suc x ≤ k
        above m = less (nat_lt x k) refl m
          where
            less : (b : Bool) → nat_lt x k ≡ b → (x ≡ k → ⊥) → suc x ≤ k
            less true e m = ltb-true x k e
            less false e m = absurd (m (let g = ltb-false x k e in omega (arith, g, l)))

-- one among some numbers that has no repeat stands once there, another one never
once_there : (k : ℕ) (xs : List ℕ) → without_repeats xs ≡ true → times k xs ≡ cond (has k xs) 1 0
once_there k [] h = refl
once_there k (x ∷ xs) h = go (nat_eq k x) refl (once_there k xs (and_right (not (has x xs)) (without_repeats xs) h))
  where
    new : has x xs ≡ false
    new = not_true (has x xs) (and_left (not (has x xs)) (without_repeats xs) h)

    go : (b : Bool) → nat_eq k x ≡ b → times k xs ≡ cond (has k xs) 1 0 → times k (x ∷ xs) ≡ cond (b || has k xs) 1 0
    go true e h =
        let m : k ≡ x = eqb-true k x e in
        let none : times k xs ≡ 0 = h ∙ ap (λ b. cond {A = ℕ} b 1 0) (ap (λ k. has k xs) m ∙ new) in
        omega (arith, none, times_cons k x xs, ap (λ z. one k z) (sym m), one_same k)
    go false e h = omega (arith, times_cons k x xs, one_other k x (λ m. eqb-false k x e (sym m))) ∙ h

pub times_others : (k : ℕ) (parts ks : List ℕ) → times k (others parts ks) ≡ cond (has k parts) 0 (times k ks)
times_others k parts [] = go (has k parts)
  where
    go : (b : Bool) → 0 ≡ cond {A = ℕ} b 0 0
    go true = refl
    go false = refl
times_others k parts (x ∷ ks) = go (nat_eq x k) refl (has x parts) refl (times_others k parts ks)
  where
    go : (b : Bool) → nat_eq x k ≡ b → (c : Bool) → has x parts ≡ c → times k (others parts ks) ≡ cond (has k parts) 0 (times k ks)
        → times k (unless c x (others parts ks)) ≡ cond (has k parts) 0 (times k (x ∷ ks))
    go true e true i h = let m = eqb-true x k e in let j : has k parts ≡ true = ap (λ z. has z parts) (sym m) ∙ i in rw j (h ∙ rw j refl)
    go true e false i h =
        let m = eqb-true x k e in
        let j : has k parts ≡ false = ap (λ z. has z parts) (sym m) ∙ i in
        rw j (times_cons k x (others parts ks) ∙ (ap (λ n. one k x + n) (h ∙ rw j refl) ∙ sym (times_cons k x ks)))
    go false e c i h =
        let o = one_other k x (eqb-false x k e) in
        skip c ∙ (h ∙ ap (λ n. cond (has k parts) 0 n) (omega (arith, o, times_cons k x ks)))
      where
        skip : (c : Bool) → times k (unless c x (others parts ks)) ≡ times k (others parts ks)
        skip true = refl
        skip false = let o = one_other k x (eqb-false x k e) in omega (arith, o, times_cons k x (others parts ks))

order_once : (width : ℕ) (parts : List ℕ) (k : ℕ) → without_repeats parts ≡ true → k < width → times k (given_order width parts) ≡ 1
order_once width parts k once l =
    let t = times_append k parts (others parts (numbers 0 width)) in
    let p = once_there k parts once in
    let o = times_others k parts (numbers 0 width) in
    let r = row_once k 0 width (omega arith) (omega (arith, l)) in
    go (has k parts) (t ∙ rw (p, o, r) refl)
  where
    go : (b : Bool) → times k (given_order width parts) ≡ cond {A = ℕ} b 1 0 + cond {A = ℕ} b 0 1 → times k (given_order width parts) ≡ 1
    go true h = h
    go false h = h

-- how many of some numbers are among others
abbrev among : List ℕ → ℕ → ℕ
among parts k = cond (has k parts) 1 0

others_length : (parts ks : List ℕ) → length (others parts ks) + sum_by (among parts) ks ≡ length ks
others_length parts [] = refl
others_length parts (k ∷ ks) = go (has k parts) refl (others_length parts ks)
  where
    go : (b : Bool) → has k parts ≡ b → length (others parts ks) + sum_by (among parts) ks ≡ length ks → length (unless b k (others parts ks)) + sum_by (among parts) (k ∷ ks) ≡ suc (length ks)
    go true e h = let o : among parts k ≡ 1 = rw e refl in omega (arith, h, o, sum_by-cons (among parts) k ks)
    go false e h = let o : among parts k ≡ 0 = rw e refl in omega (arith, h, o, sum_by-cons (among parts) k ks)

none_among : (ks : List ℕ) → sum_by (among []) ks ≡ 0
none_among [] = refl
none_among (k ∷ ks) = let h = none_among ks in omega (arith, h, sum_by-cons (among []) k ks)

one_more : (x : ℕ) (parts ks : List ℕ) → has x parts ≡ false → sum_by (among (x ∷ parts)) ks ≡ times x ks + sum_by (among parts) ks
one_more x parts [] n = refl
one_more x parts (k ∷ ks) n =
    let here = go (nat_eq k x) refl in
    let more = one_more x parts ks n in
    omega (arith, here, more, sum_by-cons (among (x ∷ parts)) k ks, times_cons x k ks, sum_by-cons (among parts) k ks)
  where
    go : (b : Bool) → nat_eq k x ≡ b → cond (b || has k parts) 1 0 ≡ one x k + among parts k
    go true e =
        let m : k ≡ x = eqb-true k x e in
        let o : one x k ≡ 1 = ap (λ z. one x z) m ∙ one_same x in
        let a : among parts k ≡ 0 = rw (m, n) refl in
        omega (arith, o, a)
    go false e = let o = one_other x k (eqb-false k x e) in omega (arith, o)

all_among : (width : ℕ) (parts : List ℕ) → list_all (λ k. nat_lt k width) parts ≡ true → without_repeats parts ≡ true → sum_by (among parts) (numbers 0 width) ≡ length parts
all_among width [] l r = none_among (numbers 0 width)
all_among width (x ∷ parts) l r =
    let h = all_among width parts (and_right (nat_lt x width) (list_all (λ k. nat_lt k width) parts) l) (and_right (not (has x parts)) (without_repeats parts) r) in
    let o = row_once x 0 width (omega arith) (let m = ltb-true x width (and_left (nat_lt x width) (list_all (λ k. nat_lt k width) parts) l) in omega (arith, m)) in
    omega (arith, h, o, one_more x parts (numbers 0 width) (not_true (has x parts) (and_left (not (has x parts)) (without_repeats parts) r)))

order_length : (width : ℕ) (parts : List ℕ) → list_all (λ k. nat_lt k width) parts ≡ true → without_repeats parts ≡ true → length (given_order width parts) ≡ width
order_length width parts l r =
    let h = others_length parts (numbers 0 width) in
    let k = all_among width parts l r in
    omega (arith, h, k, length-append parts (others parts (numbers 0 width)), numbers_length 0 width)

given_fits : (sites : List ℕ) (bound : List (List ℕ)) → bound_parts sites bound ≡ true → fits sites bound (given_orders sites bound) ≡ true
given_fits [] [] h = refl
given_fits [] (parts ∷ bound) h = absurd (cc)
given_fits (width ∷ sites) [] h = absurd (cc)
given_fits (width ∷ sites) (parts ∷ bound) h =
    let l = and_left (list_all (λ k. nat_lt k width) parts) (without_repeats parts && bound_parts sites bound) h in
    let h' = and_right (list_all (λ k. nat_lt k width) parts) (without_repeats parts && bound_parts sites bound) h in
    let r = and_left (without_repeats parts) (bound_parts sites bound) h' in
    and_of (is_permutation width (given_order width parts)) (begins_with parts (given_order width parts) && fits sites bound (given_orders sites bound))
    (permuted width (given_order width parts) (order_length width parts l r) (λ k m. order_once width parts k r m))
    (and_of (begins_with parts (given_order width parts)) (fits sites bound (given_orders sites bound)) (begins_itself parts (others parts (numbers 0 width)))
    (given_fits sites bound (and_right (without_repeats parts) (bound_parts sites bound) h')))

-- The given table fits each valid program of the language Control, so that its run is that of its flat program.
pub given_table_fits : (p : Source) → bound_known p ≡ true → table_fits p (given_table p) ≡ true
given_table_fits p h = given_fits p.sites p.bound h

-- A table that fits has one permutation for each site.
pub fitting_orders : (sites : List ℕ) (bound orders : List (List ℕ)) → fits sites bound orders ≡ true → is_order_table sites orders ≡ true
fitting_orders [] [] [] h = refl
fitting_orders (width ∷ sites) (parts ∷ bound) (order ∷ orders) h =
    and_of (is_permutation width order) (is_order_table sites orders) (and_left (is_permutation width order) (begins_with parts order && fits sites bound orders) h)
    (fitting_orders sites bound orders (and_right (begins_with parts order) (fits sites bound orders) (and_right (is_permutation width order) (begins_with parts order && fits sites bound orders) h)))
fitting_orders [] (parts ∷ bound) orders h = absurd (cc)
fitting_orders [] [] (order ∷ orders) h = absurd (cc)
fitting_orders (width ∷ sites) [] orders h = absurd (cc)
fitting_orders (width ∷ sites) (parts ∷ bound) [] h = absurd (cc)
