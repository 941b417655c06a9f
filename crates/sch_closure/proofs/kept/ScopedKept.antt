-- In a flat program each variable is bound in its body or a field of its record, and each record has the fields
-- that its body asks for.
use Rattle.std.proofs.Common.{◌≡◌, ℕ, zero, suc, ◌+◌, Bool, true, false, List, [], ◌∷◌, ◌++◌, length, map, Option, Some, None, refl, ap, subst, arith}
use Rattle.std.specs.Prelude.{cond, IsTrue, nat_eq, not, ◌||◌, ◌&&◌, slice_get}
use Rattle.std.specs.List.{list_all}
use Rattle.std.proofs.lemmas.Bool.{eqb-true, lt-ltb}
use Rattle.sch_word.specs.trees.NumberSets.{has, union, without_repeats, In}
use Rattle.sch_word.specs.trees.Bindings.{numbers, without, remove, scope_with, pushed}
use Rattle.sch_cells.specs.declared.tree.NewCell.{NewCell}
use Rattle.sch_cells.specs.Tree.{Tree, Trees, Lambdas, constant, literal, variable, global, set_variable, set_global, define, branch, sequence, bind, fix, letrec, lambda, call, operation, new_cells, cell_get, cell_set, no_trees, and_tree, no_lambdas, and_lambda, count, count_lambdas}
use Rattle.sch_cells.specs.Variables.{free, free_each, free_lambdas, bound, bound_each, bound_lambdas, cells_bound, cells_used, and_some, without_each}
use Rattle.sch_cells.specs.Clear.{Apart, Clear, ClearEach, ClearLambdas}
use Rattle.sch_flat.specs.Tree as flat
use Rattle.sch_flat.specs.Valid.{is_known, is_content, cell_variables, all_new, is_made, body_scoped}
use Rattle.sch_flat.specs.Valid as valid
use Rattle.sch_closure.specs.Closed.{place, place_from, place_or_none, placed, procedures, procedures_each, procedures_lambdas, fields_of, made, closed, closed_each, made_each, body_of, all_procedures, all_of_each, all_of_lambdas}
use Rattle.sch_closure.specs.Fresh.{Fresh, FreshEach, FreshLambdas, Stand, StandEach, StandLambdas}
use Rattle.sch_closure.proofs.Sets.{remove_other}
use Rattle.sch_closure.proofs.Scopes.{Within, each_within}
use Rattle.sch_closure.proofs.Same.{made_length}
use Rattle.sch_word.proofs.facts.NumberTests.{same}
use Rattle.sch_word.proofs.facts.NumberSets.{in_more, in_here, union_left, union_right, distinct_left, distinct_right}
use Rattle.sch_word.proofs.facts.Lists.{map_length}
use Rattle.sch_word.proofs.facts.Booleans.{not_true, is_not_true, and_of, and_parts}

-- ## Variables that are known

-- each of these variables is a field, or one that the body has bound
record Known (fs own xs : List ℕ) : Type 0 where
  at : (x : ℕ) → In x xs → has x fs ≡ false → In x own

known_less : {fs own : List ℕ} (xs ys : List ℕ) → Within ys xs → Known fs own xs → Known fs own ys
known_less xs ys w k = record { at = λ x i n. k.at x (w x i) n }

known_left : {fs own : List ℕ} (xs ys : List ℕ) → Known fs own (union xs ys) → Known fs own xs
known_left xs ys k = known_less (union xs ys) xs (λ x i. union_left x xs ys i) k

known_right : {fs own : List ℕ} (xs ys : List ℕ) → Known fs own (union xs ys) → Known fs own ys
known_right xs ys k = known_less (union xs ys) ys (λ x i. union_right x xs ys i) k

known_push : {fs own : List ℕ} (y : ℕ) (xs : List ℕ) → Known fs own (remove y xs) → Known fs (y ∷ own) xs
known_push {fs} {own} y xs k = record { at = λ x i n. go x i n (nat_eq x y) refl }
  where
    go : (x : ℕ) → In x xs → has x fs ≡ false → (b : Bool) → nat_eq x y ≡ b → In x (y ∷ own)
    go x i n true e = rw e refl
    go x i n false e = in_more x y own (k.at x (remove_other x y xs e i) n)

known_with : {fs own : List ℕ} (x m : ℕ) (xs : List ℕ) → Known fs own (without x m xs) → Known fs (scope_with x m own) xs
known_with x zero xs k = k
known_with x (suc m) xs k = known_with (suc x) m xs (known_push x (without (suc x) m xs) k)

known_pushed : {fs own : List ℕ} (ys xs : List ℕ) → Known fs own (without_each ys xs) → Known fs (pushed ys own) xs
known_pushed [] xs k = k
known_pushed (y ∷ ys) xs k = known_pushed ys xs (known_push y (without_each ys xs) k)

place_known : (k : ℕ) (fs own : List ℕ) (x : ℕ) → (has x fs ≡ false → In x own) → IsTrue (is_known own (k + length fs) (place_from k fs x))
place_known k [] own x h = h refl
place_known k (y ∷ fs) own x h = go (nat_eq x y) h (λ g. place_known (suc k) fs own x g)
  where
    go : (b : Bool) → ((b || has x fs) ≡ false → In x own) → ((has x fs ≡ false → In x own) → IsTrue (is_known own (suc k + length fs) (place_from (suc k) fs x)))
        → IsTrue (is_known own (k + suc (length fs)) (cond b (flat.free k) (place_from (suc k) fs x)))
    go true h deeper = lt-ltb k (k + suc (length fs)) (omega arith)
    go false h deeper = let p : suc k + length fs ≡ k + suc (length fs) = omega arith in subst (λ n. IsTrue (is_known own n (place_from (suc k) fs x))) p (deeper h)

is_one_known : (fs own xs : List ℕ) (x : ℕ) → Known fs own xs → In x xs → IsTrue (is_known own (length fs) (place fs x))
is_one_known fs own xs x k i = let p : 0 + length fs ≡ length fs = omega arith in subst (λ n. IsTrue (is_known own n (place fs x))) p (place_known 0 fs own x (k.at x i))

all_known : (fs own xs : List ℕ) → Known fs own xs → IsTrue (list_all (is_known own (length fs)) (map (place fs) xs))
all_known fs own [] k = refl
all_known fs own (x ∷ xs) k = and_of _ _ (is_one_known fs own (x ∷ xs) x k (in_here x xs)) (all_known fs own xs (known_less (x ∷ xs) xs (λ y i. in_more y x xs i) k))

contents_known : (fs own : List ℕ) (cs : List NewCell) → Known fs own (cells_used cs) → IsTrue (list_all (λ c. is_content own (length fs) c.content) (map (placed fs) cs))
contents_known fs own [] k = refl
contents_known fs own (c ∷ cs) k = go (λ k. contents_known fs own cs k) c.content k
  where
    go : (Known fs own (cells_used cs) → IsTrue (list_all (λ c. is_content own (length fs) c.content) (map (placed fs) cs))) → (o : Option ℕ) → Known fs own (and_some o (cells_used cs))
        → IsTrue (is_content own (length fs) (place_or_none fs o) && list_all (λ c. is_content own (length fs) c.content) (map (placed fs) cs))
    go rest None k = rest k
    go rest (Some x) k = and_of _ _ (is_one_known fs own (x ∷ []) x (known_left (x ∷ []) (cells_used cs) k) (in_here x [])) (rest (known_right (x ∷ []) (cells_used cs) k))

-- ## Variables that are new

record New (xs own : List ℕ) : Type 0 where
  at : (y : ℕ) → In y xs → has y own ≡ false

all_are_new : (xs own : List ℕ) → IsTrue (without_repeats xs) → New xs own → IsTrue (all_new xs own)
all_are_new [] own d n = refl
all_are_new (x ∷ xs) own d n =
    let p = and_parts (not (has x xs)) (without_repeats xs) d in
    and_of _ _ (is_not_true (has x own) (n.at x (in_here x xs))) (all_are_new xs (x ∷ own) p.1 (record { at = λ y i. go y i (nat_eq y x) refl (not_true (has x xs) p.0) }))
  where
    go : (y : ℕ) → In y xs → (b : Bool) → nat_eq y x ≡ b → has x xs ≡ false → (nat_eq y x || has y own) ≡ false
    go y i true e f = absurd (let q : y ≡ x = eqb-true y x e in let r : has x xs ≡ true = subst (λ z. has z xs ≡ true) q i in cc)
    go y i false e f = rw e (n.at y (in_more y x xs i))

new_here : (xs own S : List ℕ) → Within own S → Apart xs S → New xs own
new_here xs own S w a = record { at = λ y i. go y (a.at y i) (has y own) refl }
  where
    go : (y : ℕ) → has y S ≡ false → (b : Bool) → has y own ≡ b → b ≡ false
    go y f true e = absurd (let k : has y S ≡ true = w y e in cc)
    go y f false e = refl

within_push : (y : ℕ) (own S : List ℕ) → Within own S → Within (y ∷ own) (y ∷ S)
within_push y own S w x i = go (nat_eq x y) i
  where
    go : (b : Bool) → (b || has x own) ≡ true → (b || has x S) ≡ true
    go true i = refl
    go false i = w x i

within_with : (x m : ℕ) (own S : List ℕ) → Within own S → Within (scope_with x m own) (scope_with x m S)
within_with x zero own S w = w
within_with x (suc m) own S w = within_with (suc x) m (x ∷ own) (x ∷ S) (within_push x own S w)

within_pushed : (ys own S : List ℕ) → Within own S → Within (pushed ys own) (pushed ys S)
within_pushed [] own S w = w
within_pushed (y ∷ ys) own S w = within_pushed ys (y ∷ own) (y ∷ S) (within_push y own S w)

variables_same : (gs : List ℕ) (cs : List NewCell) → cell_variables (map (placed gs) cs) ≡ cells_bound cs
variables_same gs [] = refl
variables_same gs (c ∷ cs) = ap (λ l. c.variable ∷ l) (variables_same gs cs)

pub counts : (es : Trees) (fs : List ℕ) (n : ℕ) → flat.count (closed_each es fs n) ≡ count es
counts no_trees fs n = refl
counts (and_tree e es) fs n = ap suc (counts es fs (n + procedures e))

-- ## Trees

pub list_both : {A : Type 0} (test : A → Bool) (xs ys : List A) → IsTrue (list_all test xs) → IsTrue (list_all test ys) → IsTrue (list_all test (xs ++ ys))
list_both test [] ys p q = q
list_both test (x ∷ xs) ys p q = let r = and_parts (test x) (list_all test xs) p in and_of _ _ r.0 (list_both test xs ys r.1 q)

module _ (all : List flat.Body) where
  record_known : (name : List ℕ) (x m : ℕ) (rest : Bool) (e : Tree) (fs own : List ℕ) (n : ℕ) → Known fs own (fields_of x m e) → slice_get all n ≡ Some (body_of name x m rest e n)
      → IsTrue (is_made all own (length fs) (made x m e fs n))
  record_known name x m rest e fs own n k h =
      and_of _ _ (all_known fs own (fields_of x m e) k) (rw (h, map_length (place fs) (fields_of x m e)) (same (length (fields_of x m e))))

  lambdas_known : (ls : Lambdas) (fs own : List ℕ) (n : ℕ) → Known fs own (free_lambdas ls) → StandLambdas all ls n → IsTrue (list_all (is_made all own (length fs)) (made_each ls fs n))
  lambdas_known no_lambdas fs own n k t = refl
  lambdas_known (and_lambda name x m rest e ls) fs own n k t =
      and_of _ _ (record_known name x m rest e fs own n (known_left (fields_of x m e) (free_lambdas ls) k) t.0.0)
      (lambdas_known ls fs own (suc n + procedures e) (known_right (fields_of x m e) (free_lambdas ls) k) t.1)

  mutual
    scoped : (e : Tree) (fs own S : List ℕ) (n : ℕ) → Known fs own (free e) → Within own S → Clear e S → Fresh e fs → IsTrue (without_repeats (bound e)) → Stand all e n
        → IsTrue (valid.scoped all (closed e fs n) own (length fs))
    scoped (constant c) fs own S n k w c' f d t = refl
    scoped (literal i) fs own S n k w c' f d t = refl
    scoped (variable x) fs own S n k w c' f d t = is_one_known fs own (x ∷ []) x k (in_here x [])
    scoped (global g) fs own S n k w c' f d t = refl
    scoped (set_variable x e) fs own S n k w c' f d t = absurd f
    scoped (set_global g e) fs own S n k w c' f d t = scoped e fs own S n k w c' f d t
    scoped (define g e) fs own S n k w c' f d t = scoped e fs own S n k w c' f d t
    scoped (branch a b c) fs own S n k w c' f d t =
        let k' = known_right (free a) (union (free b) (free c)) k in
        let d' = distinct_right (bound a) (bound b ++ bound c) d in
        and_of _ _ (scoped a fs own S n (known_left (free a) (union (free b) (free c)) k) w c'.0 f.0 (distinct_left (bound a) (bound b ++ bound c) d) t.0)
        (and_of _ _ (scoped b fs own S (n + procedures a) (known_left (free b) (free c) k') w c'.1 f.1 (distinct_left (bound b) (bound c) d') t.1)
        (scoped c fs own S (n + procedures a + procedures b) (known_right (free b) (free c) k') w c'.2 f.2 (distinct_right (bound b) (bound c) d') t.2))
    scoped (sequence es) fs own S n k w c' f d t = each_scoped es fs own S n k w c' f d t
    scoped (bind site x es e) fs own S n k w c' f d t =
        let m = count es in
        let d' = distinct_right (numbers x m) (bound_each es ++ bound e) d in
        rw (counts es fs n)
        (and_of _ _ (each_scoped es fs own S n (known_left (free_each es) (without x m (free e)) k) w c'.0 f.1 (distinct_left (bound_each es) (bound e) d') t.0)
        (and_of _ _ (all_are_new (numbers x m) own (distinct_left (numbers x m) (bound_each es ++ bound e) d) (new_here (numbers x m) own S w c'.1))
        (scoped e fs (scope_with x m own) (scope_with x m S) (n + procedures_each es) (known_with x m (free e) (known_right (free_each es) (without x m (free e)) k))
        (within_with x m own S w) c'.2 f.2 (distinct_right (bound_each es) (bound e) d') t.1)))
    scoped (fix x ls e) fs own S n k w c' f d t =
        let m = count_lambdas ls in
        let k' = known_with x m (union (free_lambdas ls) (free e)) k in
        let d' = distinct_right (numbers x m) (bound_lambdas ls ++ bound e) d in
        rw (made_length ls fs n)
        (and_of _ _ (all_are_new (numbers x m) own (distinct_left (numbers x m) (bound_lambdas ls ++ bound e) d) (new_here (numbers x m) own S w c'.0))
        (and_of _ _ (lambdas_known ls fs (scope_with x m own) n (known_left (free_lambdas ls) (free e) k') t.0)
        (scoped e fs (scope_with x m own) (scope_with x m S) (n + procedures_lambdas ls) (known_right (free_lambdas ls) (free e) k') (within_with x m own S w) c'.2 f.2
        (distinct_right (bound_lambdas ls) (bound e) d') t.1)))
    scoped (letrec site x es e) fs own S n k w c' f d t = absurd f
    scoped (lambda name x m rest e) fs own S n k w c' f d t = record_known name x m rest e fs own n k t.0
    scoped (call site spread g es) fs own S n k w c' f d t =
        and_of _ _ (scoped g fs own S n (known_left (free g) (free_each es) k) w c'.0 f.0 (distinct_left (bound g) (bound_each es) d) t.0)
        (each_scoped es fs own S (n + procedures g) (known_right (free g) (free_each es) k) w c'.1 f.1 (distinct_right (bound g) (bound_each es) d) t.1)
    scoped (operation site which es) fs own S n k w c' f d t = each_scoped es fs own S n k w c' f d t
    scoped (new_cells cs e) fs own S n k w c' f d t =
        let k' = known_right (cells_used cs) (without_each (cells_bound cs) (free e)) k in
        rw (variables_same fs cs)
        (and_of _ _ (contents_known fs own cs (known_left (cells_used cs) (without_each (cells_bound cs) (free e)) k))
        (and_of _ _ (all_are_new (cells_bound cs) own (distinct_left (cells_bound cs) (bound e) d) (new_here (cells_bound cs) own S w c'.1))
        (scoped e fs (pushed (cells_bound cs) own) (pushed (cells_bound cs) S) n (known_pushed (cells_bound cs) (free e) k') (within_pushed (cells_bound cs) own S w) c'.2 f.1
        (distinct_right (cells_bound cs) (bound e) d) t)))
    scoped (cell_get x) fs own S n k w c' f d t = is_one_known fs own (x ∷ []) x k (in_here x [])
    scoped (cell_set x e) fs own S n k w c' f d t =
        and_of _ _ (is_one_known fs own (x ∷ []) x (known_left (x ∷ []) (free e) k) (in_here x [])) (scoped e fs own S n (known_right (x ∷ []) (free e) k) w c'.1 f d t)

    each_scoped : (es : Trees) (fs own S : List ℕ) (n : ℕ) → Known fs own (free_each es) → Within own S → ClearEach es S → FreshEach es fs → IsTrue (without_repeats (bound_each es)) → StandEach all es n
        → IsTrue (valid.scoped_each all (closed_each es fs n) own (length fs))
    each_scoped no_trees fs own S n k w c' f d t = refl
    each_scoped (and_tree e es) fs own S n k w c' f d t =
        and_of _ _ (scoped e fs own S n (known_left (free e) (free_each es) k) w c'.0 f.0 (distinct_left (bound e) (bound_each es) d) t.0)
        (each_scoped es fs own S (n + procedures e) (known_right (free e) (free_each es) k) w c'.1 f.1 (distinct_right (bound e) (bound_each es) d) t.1)

  body_known : (name : List ℕ) (x m : ℕ) (rest : Bool) (e : Tree) (S : List ℕ) (n : ℕ) → Clear e (scope_with x m S) → Fresh e (fields_of x m e) → IsTrue (without_repeats (bound e)) → Stand all e (suc n)
      → IsTrue (body_scoped all (body_of name x m rest e n))
  body_known name x m rest e S n c' f d t =
      scoped e (fields_of x m e) (scope_with x m []) (scope_with x m S) (suc n) (known_with x m (free e) (record { at = λ y i h. absurd (let j : has y (fields_of x m e) ≡ true = i in cc) }))
      (within_with x m [] S (λ y i. absurd (cc))) c' f d t

  mutual
    bodies_known : (e : Tree) (fs S : List ℕ) (n : ℕ) → Clear e S → Fresh e fs → IsTrue (without_repeats (bound e)) → Stand all e n → IsTrue (list_all (body_scoped all) (all_procedures body_of e n))
    bodies_known (constant c) fs S n c' f d t = refl
    bodies_known (literal i) fs S n c' f d t = refl
    bodies_known (variable x) fs S n c' f d t = refl
    bodies_known (global g) fs S n c' f d t = refl
    bodies_known (set_variable x e) fs S n c' f d t = absurd f
    bodies_known (set_global g e) fs S n c' f d t = bodies_known e fs S n c' f d t
    bodies_known (define g e) fs S n c' f d t = bodies_known e fs S n c' f d t
    bodies_known (branch a b c) fs S n c' f d t =
        let d' = distinct_right (bound a) (bound b ++ bound c) d in
        list_both _ (all_procedures body_of a n) _ (bodies_known a fs S n c'.0 f.0 (distinct_left (bound a) (bound b ++ bound c) d) t.0)
        (list_both _ (all_procedures body_of b (n + procedures a)) _ (bodies_known b fs S (n + procedures a) c'.1 f.1 (distinct_left (bound b) (bound c) d') t.1)
        (bodies_known c fs S (n + procedures a + procedures b) c'.2 f.2 (distinct_right (bound b) (bound c) d') t.2))
    bodies_known (sequence es) fs S n c' f d t = each_bodies_known es fs S n c' f d t
    bodies_known (bind site x es e) fs S n c' f d t =
        let d' = distinct_right (numbers x (count es)) (bound_each es ++ bound e) d in
        list_both _ (all_of_each body_of es n) _ (each_bodies_known es fs S n c'.0 f.1 (distinct_left (bound_each es) (bound e) d') t.0)
        (bodies_known e fs (scope_with x (count es) S) (n + procedures_each es) c'.2 f.2 (distinct_right (bound_each es) (bound e) d') t.1)
    bodies_known (fix x ls e) fs S n c' f d t =
        let d' = distinct_right (numbers x (count_lambdas ls)) (bound_lambdas ls ++ bound e) d in
        list_both _ (all_of_lambdas body_of ls n) _ (lambdas_bodies_known ls (scope_with x (count_lambdas ls) S) n c'.1 f.1 (distinct_left (bound_lambdas ls) (bound e) d') t.0)
        (bodies_known e fs (scope_with x (count_lambdas ls) S) (n + procedures_lambdas ls) c'.2 f.2 (distinct_right (bound_lambdas ls) (bound e) d') t.1)
    bodies_known (letrec site x es e) fs S n c' f d t = absurd f
    bodies_known (lambda name x m rest e) fs S n c' f d t =
        let d' = distinct_right (numbers x m) (bound e) d in
        and_of _ _ (body_known name x m rest e S n c'.1 f.1 d' t.1) (bodies_known e (fields_of x m e) (scope_with x m S) (suc n) c'.1 f.1 d' t.1)
    bodies_known (call site spread g es) fs S n c' f d t =
        list_both _ (all_procedures body_of g n) _ (bodies_known g fs S n c'.0 f.0 (distinct_left (bound g) (bound_each es) d) t.0)
        (each_bodies_known es fs S (n + procedures g) c'.1 f.1 (distinct_right (bound g) (bound_each es) d) t.1)
    bodies_known (operation site which es) fs S n c' f d t = each_bodies_known es fs S n c' f d t
    bodies_known (new_cells cs e) fs S n c' f d t = bodies_known e fs (pushed (cells_bound cs) S) n c'.2 f.1 (distinct_right (cells_bound cs) (bound e) d) t
    bodies_known (cell_get x) fs S n c' f d t = refl
    bodies_known (cell_set x e) fs S n c' f d t = bodies_known e fs S n c'.1 f d t

    pub each_bodies_known : (es : Trees) (fs S : List ℕ) (n : ℕ) → ClearEach es S → FreshEach es fs → IsTrue (without_repeats (bound_each es)) → StandEach all es n
        → IsTrue (list_all (body_scoped all) (all_of_each body_of es n))
    each_bodies_known no_trees fs S n c' f d t = refl
    each_bodies_known (and_tree e es) fs S n c' f d t =
        list_both _ (all_procedures body_of e n) _ (bodies_known e fs S n c'.0 f.0 (distinct_left (bound e) (bound_each es) d) t.0)
        (each_bodies_known es fs S (n + procedures e) c'.1 f.1 (distinct_right (bound e) (bound_each es) d) t.1)

    pub lambdas_bodies_known : (ls : Lambdas) (S : List ℕ) (n : ℕ) → ClearLambdas ls S → FreshLambdas ls → IsTrue (without_repeats (bound_lambdas ls)) → StandLambdas all ls n
        → IsTrue (list_all (body_scoped all) (all_of_lambdas body_of ls n))
    lambdas_bodies_known no_lambdas S n c' f d t = refl
    lambdas_bodies_known (and_lambda name x m rest e ls) S n c' f d t =
        let d' = distinct_right (numbers x m) (bound e ++ bound_lambdas ls) d in
        let d'' = distinct_left (bound e) (bound_lambdas ls) d' in
        and_of _ _ (body_known name x m rest e S n c'.0.1 f.0.1 d'' t.0.1)
        (list_both _ (all_procedures body_of e (suc n)) _ (bodies_known e (fields_of x m e) (scope_with x m S) (suc n) c'.0.1 f.0.1 d'' t.0.1)
        (lambdas_bodies_known ls S (suc n + procedures e) c'.1 f.1 (distinct_right (bound e) (bound_lambdas ls) d') t.1))

  pub forms_known : (es : Trees) (n : ℕ) → ClearEach es [] → FreshEach es [] → IsTrue (without_repeats (bound_each es)) → StandEach all es n → IsTrue (valid.scoped_each all (closed_each es [] n) [] 0)
  forms_known es n c' f d t = each_scoped es [] [] [] n (record { at = λ x i h. each_within es [] c' x i }) (λ x i. i) c' f d t
