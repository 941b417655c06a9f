-- The free variables of what is made of a tree are those of the tree, where a variable that has become a
-- cell is seen by its cell's number. So each procedure has as many as before.
use Rattle.std.proofs.Common.{◌≡◌, ℕ, zero, suc, ◌+◌, ◌<◌, Bool, true, false, List, [], ◌∷◌, length, map, refl, sym, ap, ◌∙◌, arith}
use Rattle.std.specs.Prelude.{IsTrue, nat_eq, ◌||◌}
use Rattle.std.proofs.lemmas.Bool.{eq-eqb}
use Rattle.sch_word.specs.trees.NumberSets.{has, unless, union, without_repeats, In}
use Rattle.sch_word.specs.trees.Bindings.{numbers, scope_with, without}
use Rattle.sch_cells.specs.Tree.{Tree, Trees, Lambdas, constant, literal, variable, global, set_variable, set_global, define, branch, sequence, bind, fix, letrec, lambda, call, operation, new_cells, cell_get, cell_set, no_trees, and_tree, no_lambdas, and_lambda, count, count_lambdas}
use Rattle.sch_cells.specs.Variables.{without_each, cells_bound, cells_used, free, free_each, free_lambdas}
use Rattle.sch_assign.specs.Converted.{cells_for, empty_cells, wrapped, reading, filling, converted, converted_each, converted_lambdas, Low, AllAre, Right, RightEach, RightLambdas}
use Rattle.sch_assign.proofs.Lookups.{Where, inside, outside, where_is, in_outside, low_next, low_first, all_next, all_first, no_cells}
use Rattle.sch_assign.proofs.Moved.{shift, moved, group_moved, lambda_moved}
use Rattle.sch_assign.proofs.Sets.{drop, drop_union, drop_map, drop_twice, without_is, each_is, distinct_union, distinct_drop, union_nothing}
use Rattle.sch_word.proofs.facts.NumberTests.{differ, same_test}
use Rattle.sch_word.proofs.facts.Lists.{map_length}
use Rattle.sch_word.proofs.facts.NumberSets.{Under, unless_under, union_under}
use Rattle.sch_word.proofs.facts.Booleans.{or_right}

-- ## Each free variable once

without_distinct : (x m : ℕ) (xs : List ℕ) → IsTrue (without_repeats xs) → IsTrue (without_repeats (without x m xs))
without_distinct x m xs h = rw (without_is x m xs) (distinct_drop (λ z. has z (numbers x m)) xs h)

mutual
  free_distinct : (e : Tree) → IsTrue (without_repeats (free e))
  free_distinct (constant c) = refl
  free_distinct (literal k) = refl
  free_distinct (variable x) = refl
  free_distinct (global g) = refl
  free_distinct (set_variable x e) = distinct_union (x ∷ []) (free e) (free_distinct e)
  free_distinct (set_global g e) = free_distinct e
  free_distinct (define g e) = free_distinct e
  free_distinct (branch a b c) = distinct_union (free a) (union (free b) (free c)) (distinct_union (free b) (free c) (free_distinct c))
  free_distinct (sequence es) = each_distinct es
  free_distinct (bind site x es e) = distinct_union (free_each es) (without x (count es) (free e)) (without_distinct x (count es) (free e) (free_distinct e))
  free_distinct (fix x ls e) = without_distinct x (count_lambdas ls) (union (free_lambdas ls) (free e)) (distinct_union (free_lambdas ls) (free e) (free_distinct e))
  free_distinct (letrec site x es e) = without_distinct x (count es) (union (free_each es) (free e)) (distinct_union (free_each es) (free e) (free_distinct e))
  free_distinct (lambda name x m rest e) = without_distinct x m (free e) (free_distinct e)
  free_distinct (call site spread f es) = distinct_union (free f) (free_each es) (each_distinct es)
  free_distinct (operation site which es) = each_distinct es
  free_distinct (new_cells cs e) =
      distinct_union (cells_used cs) (without_each (cells_bound cs) (free e)) (rw (each_is (cells_bound cs) (free e)) (distinct_drop (λ z. has z (cells_bound cs)) (free e) (free_distinct e)))
  free_distinct (cell_get x) = refl
  free_distinct (cell_set x e) = distinct_union (x ∷ []) (free e) (free_distinct e)

  each_distinct : (es : Trees) → IsTrue (without_repeats (free_each es))
  each_distinct no_trees = refl
  each_distinct (and_tree e es) = distinct_union (free e) (free_each es) (each_distinct es)

-- ## Numbers below n

under_drop : (p : ℕ → Bool) (xs : List ℕ) (n : ℕ) → Under xs n → Under (drop p xs) n
under_drop p [] n h = tt
under_drop p (x ∷ xs) n h = unless_under (p x) x (drop p xs) n h.0 (under_drop p xs n h.1)

under_without : (x m : ℕ) (xs : List ℕ) (n : ℕ) → Under xs n → Under (without x m xs) n
under_without x m xs n h = rw (without_is x m xs) (under_drop (λ z. has z (numbers x m)) xs n h)

-- what is taken away by two tests that agree below n
drop_under : (p q : ℕ → Bool) (xs : List ℕ) (n : ℕ) → Under xs n → ((x : ℕ) → x < n → p x ≡ q x) → drop p xs ≡ drop q xs
drop_under p q [] n h k = refl
drop_under p q (x ∷ xs) n h k = rw (k x h.0, drop_under p q xs n h.1 k) refl

module _ (has_cell : ℕ → Bool) (n : ℕ) where
  pub record AllLow (S : List ℕ) : Type 0 where
    pub at : (y : ℕ) → In y S → y < n

  pub low_with : (x m : ℕ) (S : List ℕ) → Low n x m → AllLow S → AllLow (scope_with x m S)
  low_with x m S low h = record { at = λ y i. go y i (where_is x m y) }
    where
      go : (y : ℕ) → In y (scope_with x m S) → Where x m y → y < n
      go y i (inside j l q) = let f : x + j < n = low.at j l in omega (arith, f, q)
      go y i (outside p) = h.at y (in_outside x m y S p i)

  pub count_same : (es : Trees) → count (converted_each has_cell n es) ≡ count es
  count_same no_trees = refl
  count_same (and_tree e es) = ap suc (count_same es)

  pub count_lambdas_same : (ls : Lambdas) → count_lambdas (converted_lambdas has_cell n ls) ≡ count_lambdas ls
  count_lambdas_same no_lambdas = refl
  count_lambdas_same (and_lambda name x m rest e ls) = ap suc (count_lambdas_same ls)

  mutual
    pub free_under : (e : Tree) (S : List ℕ) → Right has_cell n e S → AllLow S → Under (free e) n
    free_under (constant c) S r h = tt
    free_under (literal k) S r h = tt
    free_under (variable x) S r h = (h.at x r, tt)
    free_under (global g) S r h = tt
    free_under (set_variable x e) S r h = union_under (x ∷ []) (free e) n (h.at x r.1, tt) (free_under e S r.2 h)
    free_under (set_global g e) S r h = free_under e S r h
    free_under (define g e) S r h = free_under e S r h
    free_under (branch a b c) S r h =
        union_under (free a) (union (free b) (free c)) n (free_under a S r.0 h) (union_under (free b) (free c) n (free_under b S r.1 h) (free_under c S r.2 h))
    free_under (sequence es) S r h = each_under es S r h
    free_under (bind site x es e) S r h =
        let m = count es in
        union_under (free_each es) (without x m (free e)) n (each_under es S r.0 h) (under_without x m (free e) n (free_under e (scope_with x m S) r.3 (low_with x m S r.2 h)))
    free_under (fix x ls e) S r h =
        let m = count_lambdas ls in
        let g = low_with x m S r.1 h in
        under_without x m (union (free_lambdas ls) (free e)) n (union_under (free_lambdas ls) (free e) n (lambdas_under ls (scope_with x m S) r.2 g) (free_under e (scope_with x m S) r.3 g))
    free_under (letrec site x es e) S r h =
        let m = count es in
        let g = low_with x m S r.1 h in
        under_without x m (union (free_each es) (free e)) n (union_under (free_each es) (free e) n (each_under es (scope_with x m S) r.2 g) (free_under e (scope_with x m S) r.3 g))
    free_under (lambda name x m rest e) S r h = under_without x m (free e) n (free_under e (scope_with x m S) r.2 (low_with x m S r.1 h))
    free_under (call site spread f es) S r h = union_under (free f) (free_each es) n (free_under f S r.0 h) (each_under es S r.1 h)
    free_under (operation site which es) S r h = each_under es S r h
    free_under (new_cells cs e) S r h = absurd r
    free_under (cell_get x) S r h = absurd r
    free_under (cell_set x e) S r h = absurd r

    pub each_under : (es : Trees) (S : List ℕ) → RightEach has_cell n es S → AllLow S → Under (free_each es) n
    each_under no_trees S r h = tt
    each_under (and_tree e es) S r h = union_under (free e) (free_each es) n (free_under e S r.0 h) (each_under es S r.1 h)

    pub lambdas_under : (ls : Lambdas) (S : List ℕ) → RightLambdas has_cell n ls S → AllLow S → Under (free_lambdas ls) n
    lambdas_under no_lambdas S r h = tt
    lambdas_under (and_lambda name x m rest e ls) S r h =
        union_under (without x m (free e)) (free_lambdas ls) n (under_without x m (free e) n (free_under e (scope_with x m S) r.0.2 (low_with x m S r.0.1 h))) (lambdas_under ls S r.1 h)

  -- ## Moved sets

  moved_test : (x z : ℕ) → x < n → z < n → nat_eq (moved has_cell n x) (moved has_cell n z) ≡ nat_eq x z
  moved_test x z l k = go (has_cell x) (has_cell z) refl refl
    where
      go : (b c : Bool) → has_cell x ≡ b → has_cell z ≡ c → nat_eq (shift has_cell n b x) (shift has_cell n c z) ≡ nat_eq x z
      go true true p q = same_test (x + n) (z + n) x z (λ e. omega (arith, e)) (λ e. omega (arith, e))
      go false false p q = refl
      go true false p q = same_test (x + n) z x z (λ e. omega (arith, e, k)) (λ e. absurd (let t : has_cell z ≡ true = rw e at p in cc))
      go false true p q = same_test x (z + n) x z (λ e. omega (arith, e, l)) (λ e. absurd (let t : has_cell z ≡ false = rw e at p in cc))

  moved_has : (x : ℕ) (xs : List ℕ) → x < n → Under xs n → has (moved has_cell n x) (map (moved has_cell n) xs) ≡ has x xs
  moved_has x [] l h = refl
  moved_has x (z ∷ xs) l h = rw (moved_test x z l h.0, moved_has x xs l h.1) refl

  moved_union : (xs ys : List ℕ) → Under xs n → Under ys n → union (map (moved has_cell n) xs) (map (moved has_cell n) ys) ≡ map (moved has_cell n) (union xs ys)
  moved_union [] ys g h = refl
  moved_union (x ∷ xs) ys g h =
      rw (moved_union xs ys g.1 h, moved_has x (union xs ys) g.0 (union_under xs ys n g.1 h)) (go (has x (union xs ys)))
    where
      go : (b : Bool) → unless b (moved has_cell n x) (map (moved has_cell n) (union xs ys)) ≡ map (moved has_cell n) (unless b x (union xs ys))
      go true = refl
      go false = refl

  -- ## The cells of a Rec

  keys_moved : (x m z : ℕ) → AllAre has_cell n true x m → Low n x m → z < n → has (moved has_cell n z) (cells_bound (empty_cells n x m)) ≡ has z (numbers x m)
  keys_moved x zero z all low l = refl
  keys_moved x (suc m) z all low l =
      let a : has_cell x ≡ true = all_first has_cell n true x m all in
      let t : nat_eq (moved has_cell n z) (x + n) ≡ nat_eq z x = ap (λ b. nat_eq (moved has_cell n z) (shift has_cell n b x)) (sym a) ∙ moved_test z x l (low_first has_cell n x m low) in
      rw (t, keys_moved (suc x) m z (all_next has_cell n true x m all) (low_next has_cell n x m low) l) refl

  group_not_moved : (x m z : ℕ) → AllAre has_cell n true x m → Low n x m → z < n → has (moved has_cell n z) (numbers x m) ≡ false
  group_not_moved x zero z all low l = refl
  group_not_moved x (suc m) z all low l = rw (go (has_cell z) refl, group_not_moved (suc x) m z (all_next has_cell n true x m all) (low_next has_cell n x m low) l) refl
    where
      go : (b : Bool) → has_cell z ≡ b → nat_eq (shift has_cell n b z) x ≡ false
      go true p = let f : x < n = low_first has_cell n x m low in differ (z + n) x (λ e. omega (arith, e, f))
      go false p = differ z x (λ e. absurd (let a : has_cell x ≡ true = all_first has_cell n true x m all in let b : has_cell x ≡ false = rw e at p in cc))

  pub empty_used : (x m : ℕ) → cells_used (empty_cells n x m) ≡ []
  empty_used x zero = refl
  empty_used x (suc m) = empty_used (suc x) m

  pub keys_have : (x m i z : ℕ) → i < m → z ≡ x + i + n → has z (cells_bound (empty_cells n x m)) ≡ true
  keys_have x zero i z l e = absurd (omega (arith, l))
  keys_have x (suc m) zero z l e = let t : nat_eq z (x + n) ≡ true = eq-eqb z (x + n) (omega (arith, e)) in rw t refl
  keys_have x (suc m) (suc i) z l e = or_right (nat_eq z (x + n)) _ (keys_have (suc x) m i z (omega (arith, l)) (omega (arith, e)))

  pub group_has : (x m i z : ℕ) → i < m → z ≡ x + i → has z (numbers x m) ≡ true
  group_has x zero i z l e = absurd (omega (arith, l))
  group_has x (suc m) zero z l e = let t : nat_eq z x ≡ true = eq-eqb z x (omega (arith, e)) in rw t refl
  group_has x (suc m) (suc i) z l e = or_right (nat_eq z x) _ (group_has (suc x) m i z (omega (arith, l)) (omega (arith, e)))

  -- the variables that fill the cells are taken away
  filled : (p : ℕ → Bool) (x m : ℕ) (e : Tree) → ((i : ℕ) → i < m → p (x + i) ≡ true) → ((i : ℕ) → i < m → p (x + i + n) ≡ true) → drop p (free_each (filling n x m e)) ≡ drop p (union (free e) [])
  filled p x zero e f g = refl
  filled p x (suc m) e f g =
      let here : p x ≡ true = let q : x + 0 ≡ x = omega arith in rw q at (f 0 (omega arith)) in
      let cell : p (x + n) ≡ true = let q : x + 0 ≡ x = omega arith in rw q at (g 0 (omega arith)) in
      let gone : drop p (union ((x + n) ∷ []) (x ∷ [])) ≡ [] = drop_union p ((x + n) ∷ []) (x ∷ []) ∙ rw (here, cell) refl in
      drop_union p (union ((x + n) ∷ []) (x ∷ [])) (free_each (filling n (suc x) m e))
      ∙ ap (λ l. union l (drop p (free_each (filling n (suc x) m e)))) gone
      ∙ filled p (suc x) m e
      (λ i l. let q : x + suc i ≡ suc x + i = omega arith in rw q at (f (suc i) (omega (arith, l))))
      (λ i l. let q : x + suc i ≡ suc x + i = omega arith in rw q at (g (suc i) (omega (arith, l))))

  letrec_moved : (x m : ℕ) (fs gs : List ℕ) (e : Tree) → AllAre has_cell n true x m → Low n x m → Under fs n → Under gs n → IsTrue (without_repeats gs) → free e ≡ map (moved has_cell n) gs →
      union (cells_used (empty_cells n x m)) (without_each (cells_bound (empty_cells n x m)) (union (map (moved has_cell n) fs) (without x m (free_each (filling n x m e)))))
      ≡ map (moved has_cell n) (without x m (union fs gs))
  letrec_moved x m fs gs e all low uf ug d h =
      let K : ℕ → Bool = λ z. has z (cells_bound (empty_cells n x m)) in
      let G : ℕ → Bool = λ z. has z (numbers x m) in
      let P : ℕ → Bool = λ z. G z || K z in
      let whole = free_each (filling n x m e) in
      let first : drop K (map (moved has_cell n) fs) ≡ map (moved has_cell n) (drop G fs) =
      drop_map K (moved has_cell n) fs ∙ ap (map (moved has_cell n)) (drop_under (λ z. K (moved has_cell n z)) G fs n uf (λ z l. keys_moved x m z all low l)) in
      let second : drop K (without x m whole) ≡ map (moved has_cell n) (drop G gs) =
      ap (drop K) (without_is x m whole) ∙ drop_twice K G whole
      ∙ filled P x m e (λ i l. rw (group_has x m i (x + i) l refl) refl) (λ i l. or_right (G (x + i + n)) _ (keys_have x m i (x + i + n) l refl))
      ∙ ap (λ l. drop P (union l [])) h ∙ ap (drop P) (moved_union gs [] ug tt ∙ ap (map (moved has_cell n)) (union_nothing gs d))
      ∙ drop_map P (moved has_cell n) gs
      ∙ ap (map (moved has_cell n)) (drop_under (λ z. P (moved has_cell n z)) G gs n ug (λ z l. rw (group_not_moved x m z all low l, keys_moved x m z all low l) refl)) in
      rw (empty_used x m)
      (each_is (cells_bound (empty_cells n x m)) (union (map (moved has_cell n) fs) (without x m whole))
      ∙ drop_union K (map (moved has_cell n) fs) (without x m whole)
      ∙ rw (first, second) (moved_union (drop G fs) (drop G gs) (under_drop G fs n uf) (under_drop G gs n ug))
      ∙ ap (map (moved has_cell n)) (sym (drop_union G fs gs) ∙ sym (without_is x m (union fs gs))))

  reading_moved : (b : Bool) (x : ℕ) → free (reading n b x) ≡ shift has_cell n b x ∷ []
  reading_moved true x = refl
  reading_moved false x = refl

  mutual
    pub free_moved : (e : Tree) (S : List ℕ) → Right has_cell n e S → AllLow S → free (converted has_cell n e) ≡ map (moved has_cell n) (free e)
    free_moved (constant c) S r h = refl
    free_moved (literal k) S r h = refl
    free_moved (variable x) S r h = reading_moved (has_cell x) x
    free_moved (global g) S r h = refl
    free_moved (set_variable x e) S r h =
        rw (free_moved e S r.2 h) (ap (λ b. union (shift has_cell n b x ∷ []) (map (moved has_cell n) (free e))) (sym r.0) ∙ moved_union (x ∷ []) (free e) (h.at x r.1, tt) (free_under e S r.2 h))
    free_moved (set_global g e) S r h = free_moved e S r h
    free_moved (define g e) S r h = free_moved e S r h
    free_moved (branch a b c) S r h =
        rw (free_moved a S r.0 h, free_moved b S r.1 h, free_moved c S r.2 h, moved_union (free b) (free c) (free_under b S r.1 h) (free_under c S r.2 h))
        (moved_union (free a) (union (free b) (free c)) (free_under a S r.0 h) (union_under (free b) (free c) n (free_under b S r.1 h) (free_under c S r.2 h)))
    free_moved (sequence es) S r h = each_moved es S r h
    free_moved (bind site x es e) S r h =
        let m = count es in
        let g = low_with x m S r.2 h in
        rw (count_same es, each_moved es S r.0 h, lambda_moved has_cell n x m e (converted has_cell n e) r.2 (free_under e (scope_with x m S) r.3 g) (free_moved e (scope_with x m S) r.3 g))
        (moved_union (free_each es) (without x m (free e)) (each_under es S r.0 h) (under_without x m (free e) n (free_under e (scope_with x m S) r.3 (low_with x m S r.2 h))))
    free_moved (fix x ls e) S r h =
        let m = count_lambdas ls in
        let g = low_with x m S r.1 h in
        let ul = lambdas_under ls (scope_with x m S) r.2 g in
        let ue = free_under e (scope_with x m S) r.3 g in
        rw (count_lambdas_same ls, lambdas_moved ls (scope_with x m S) r.2 g, free_moved e (scope_with x m S) r.3 g, moved_union (free_lambdas ls) (free e) ul ue)
        (ap (λ cs. without x m (without_each (cells_bound cs) (map (moved has_cell n) (union (free_lambdas ls) (free e))))) (sym (no_cells has_cell n x m r.0))
        ∙ group_moved has_cell n x m (union (free_lambdas ls) (free e)) r.1 (union_under (free_lambdas ls) (free e) n ul ue))
    free_moved (letrec site x es e) S r h =
        let m = count es in
        let g = low_with x m S r.1 h in
        rw (count_same es, each_moved es (scope_with x m S) r.2 g)
        (letrec_moved x m (free_each es) (free e) (converted has_cell n e) r.0 r.1 (each_under es (scope_with x m S) r.2 g) (free_under e (scope_with x m S) r.3 g) (free_distinct e) (free_moved e (scope_with x m S) r.3 g))
    free_moved (lambda name x m rest e) S r h =
        let g = low_with x m S r.1 h in
        lambda_moved has_cell n x m e (converted has_cell n e) r.1 (free_under e (scope_with x m S) r.2 g) (free_moved e (scope_with x m S) r.2 g)
    free_moved (call site spread f es) S r h =
        rw (free_moved f S r.0 h, each_moved es S r.1 h) (moved_union (free f) (free_each es) (free_under f S r.0 h) (each_under es S r.1 h))
    free_moved (operation site which es) S r h = each_moved es S r h
    free_moved (new_cells cs e) S r h = absurd r
    free_moved (cell_get x) S r h = absurd r
    free_moved (cell_set x e) S r h = absurd r

    each_moved : (es : Trees) (S : List ℕ) → RightEach has_cell n es S → AllLow S → free_each (converted_each has_cell n es) ≡ map (moved has_cell n) (free_each es)
    each_moved no_trees S r h = refl
    each_moved (and_tree e es) S r h = rw (free_moved e S r.0 h, each_moved es S r.1 h) (moved_union (free e) (free_each es) (free_under e S r.0 h) (each_under es S r.1 h))

    lambdas_moved : (ls : Lambdas) (S : List ℕ) → RightLambdas has_cell n ls S → AllLow S → free_lambdas (converted_lambdas has_cell n ls) ≡ map (moved has_cell n) (free_lambdas ls)
    lambdas_moved no_lambdas S r h = refl
    lambdas_moved (and_lambda name x m rest e ls) S r h =
        let g = low_with x m S r.0.1 h in
        rw (lambda_moved has_cell n x m e (converted has_cell n e) r.0.1 (free_under e (scope_with x m S) r.0.2 g) (free_moved e (scope_with x m S) r.0.2 g), lambdas_moved ls S r.1 h)
        (moved_union (without x m (free e)) (free_lambdas ls) (under_without x m (free e) n (free_under e (scope_with x m S) r.0.2 g)) (lambdas_under ls S r.1 h))

  -- a procedure has as many free variables as before
  pub lambda_free : (x m : ℕ) (e : Tree) (S : List ℕ) → Low n x m → Right has_cell n e (scope_with x m S) → AllLow S →
      length (without x m (free (wrapped (cells_for has_cell n x m) (converted has_cell n e)))) ≡ length (without x m (free e))
  lambda_free x m e S low r h =
      let g = low_with x m S low h in
      ap length (lambda_moved has_cell n x m e (converted has_cell n e) low (free_under e (scope_with x m S) r g) (free_moved e (scope_with x m S) r g)) ∙ map_length (moved has_cell n) (without x m (free e))
