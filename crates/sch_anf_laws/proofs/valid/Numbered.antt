-- A normal form binds the numbers from n on, each once, and no more than the flat tree may need.
use Rattle.std.proofs.Common.{◌≡◌, ℕ, zero, suc, ◌+◌, ◌≤◌, Bool, true, false, cond, List, [], ◌∷◌, ◌++◌, length, refl, sym, ap, ◌∙◌, arith}
use Rattle.std.specs.Prelude.{nat_lt, nat_le, ◌&&◌}
use Rattle.std.specs.List.{list_all}
use Rattle.std.proofs.lemmas.Bool.{le-leb, lt-ltb}
use Rattle.sch_word.specs.trees.Bindings.{numbers}
use Rattle.sch_word.proofs.facts.NumberSets.{numbers_joined}
use Rattle.sch_flat.specs.Tree as flat
use Rattle.sch_flat.specs.Tree.{Tree, Trees, Made, NewCell, constant, literal, variable, global, set_global, define, branch, sequence, bind, make_closure, fix_closures, call, operation, new_cells, cell_get, cell_set, no_trees, and_tree, count}
use Rattle.sch_flat.specs.Measures.{one_unless_simple, variables, variables_each, variables_operands, variables_parts}
use Rattle.sch_control.specs.Tree as tree
use Rattle.sch_control.specs.Tree.{Expression}
use Rattle.sch_control.specs.Valid.{bound_in, member_variables}
use Rattle.sch_anf_laws.specs.Normal.{Scope, is_simple, unless_atom, ends_in_call, part_binds, binds, binds_parts, operands_bind, inits_bind, finished, called, bound_unless, normal, normal_parts, with_operands, with_inits, with_new_cells, members_of}
use Rattle.sch_anf_laws.proofs.DroppedAtoms.{dropped_as, of_atom}

-- ## Numbers in a row

renumber : (n n' m m' : ℕ) → n ≡ n' → m ≡ m' → numbers n m ≡ numbers n' m'
renumber n n' m m' p q = rw (p, q) refl

no_numbers : (n m : ℕ) → [] ≡ numbers n m → m ≡ 0
no_numbers n zero h = refl
no_numbers n (suc m) h = absurd (cc)

-- two rows that follow each other
joined : (n a b c : ℕ) (xs ys : List ℕ) → xs ≡ numbers n a → ys ≡ numbers (n + a) b → c ≡ a + b → xs ++ ys ≡ numbers n c
joined n a b c xs ys p q e = ap (λ l. l ++ ys) p ∙ (ap (λ l. numbers n a ++ l) q ∙ (numbers_joined n a b ∙ ap (λ c. numbers n c) (sym e)))

module _ (starts : List ℕ) where
  finished_bound : (tail : Bool) (o : _) → bound_in (finished tail (tree.perform o)) ≡ []
  finished_bound true o = refl
  finished_bound false o = refl

  called_bound : (tail : Bool) (a : _) → bound_in (called tail a) ≡ []
  called_bound true a = refl
  called_bound false a = refl

  members_bound : (scope : Scope) (ms : List Made) (n : ℕ) → member_variables (members_of starts scope ms n) ≡ numbers n (length ms)
  members_bound scope [] n = refl
  members_bound scope (m ∷ ms) n = ap (λ l. n ∷ l) (members_bound scope ms (suc n))

  -- a part that is bound where it is not simple, and what follows
  unless_bound : (b : Bool) (e : Tree) (scope : Scope) (n m : ℕ) (body : Expression) → bound_in (normal starts false e scope (suc n)) ≡ numbers (suc n) (binds e)
      → bound_in body ≡ numbers (n + part_binds b (binds e)) m
      → bound_in (bound_unless b n (normal starts false e scope (suc n)) body) ≡ numbers n (part_binds b (binds e) + m)
  unless_bound true e scope n m body h k = k ∙ renumber (n + 0) n m (0 + m) (omega arith) (omega arith)
  unless_bound false e scope n m body h k = ap (λ l. n ∷ l) (joined (suc n) (binds e) m (binds e + m) (bound_in (normal starts false e scope (suc n))) (bound_in body) h
      (k ∙ renumber (n + suc (binds e)) (suc n + binds e) m m (omega arith) refl) refl) ∙ renumber n n (suc (binds e + m)) (suc (binds e) + m) refl (omega arith)

  new_cells_bound : (scope : Scope) (cs : List NewCell) (n m : ℕ) (body : Expression) → bound_in body ≡ numbers (n + length cs) m
      → bound_in (with_new_cells scope cs n body) ≡ numbers n (length cs + m)
  new_cells_bound scope [] n m body h = h ∙ renumber (n + 0) n m (0 + m) (omega arith) (omega arith)
  new_cells_bound scope (c ∷ cs) n m body h = ap (λ l. n ∷ l) (new_cells_bound scope cs (suc n) m body (h ∙ renumber (n + suc (length cs)) (suc n + length cs) m m (omega arith) refl))
      ∙ renumber n n (suc (length cs + m)) (suc (length cs) + m) refl (omega arith)

  value_bound : (tail : Bool) (e : Tree) (scope : Scope) (n : ℕ) (o : _) → bound_in (normal starts false e scope (suc n)) ≡ numbers (suc n) (binds e)
      → bound_in (bound_unless (is_simple e) n (normal starts false e scope (suc n)) (finished tail (tree.perform o))) ≡ numbers n (part_binds (is_simple e) (binds e))
  value_bound tail e scope n o h = unless_bound (is_simple e) e scope n 0 (finished tail (tree.perform o)) h (finished_bound tail o)
      ∙ renumber n n (part_binds (is_simple e) (binds e) + 0) (part_binds (is_simple e) (binds e)) refl (omega arith)

  mutual
    pub bound : (tail : Bool) (e : Tree) (scope : Scope) (n : ℕ) → bound_in (normal starts tail e scope n) ≡ numbers n (binds e)
    bound tail (constant c) scope n = finished_bound tail _
    bound tail (literal k) scope n = finished_bound tail _
    bound tail (variable (flat.bound x)) scope n = finished_bound tail _
    bound tail (variable (flat.free k)) scope n = finished_bound tail _
    bound tail (global g) scope n = finished_bound tail _
    bound tail (set_global g e) scope n = value_bound tail e scope n _ (bound false e scope (suc n))
    bound tail (define g e) scope n = value_bound tail e scope n _ (bound false e scope (suc n))
    bound tail (branch x y z) scope n =
        joined n (binds x) (binds y + binds z) (binds x + (binds y + binds z)) _ _ (bound false x scope n)
        (joined (n + binds x) (binds y) (binds z) (binds y + binds z) _ _ (bound tail y scope (n + binds x)) (bound tail z scope (n + binds x + binds y)) refl) refl
    bound tail (sequence es) scope n = bound_parts tail es scope n
    bound tail (bind site first es e) scope n = bound_inits es scope n (binds e) _ (bound tail e _ (n + inits_bind es))
    bound tail (make_closure m) scope n = finished_bound tail _
    bound tail (fix_closures first ms e) scope n =
        joined n (length ms) (binds e) (length ms + binds e) _ _ (members_bound _ ms n) (bound tail e _ (n + length ms)) refl
    bound tail (call site spread f es) scope n =
        bound_operands es scope n (part_binds (is_simple f) (binds f)) _
        (unless_bound (is_simple f) f scope (n + operands_bind es) 0 _ (bound false f scope (suc (n + operands_bind es))) (called_bound tail _)
        ∙ renumber (n + operands_bind es) (n + operands_bind es) (part_binds (is_simple f) (binds f) + 0) (part_binds (is_simple f) (binds f)) refl (omega arith))
    bound tail (operation site which es) scope n = bound_operands es scope n 0 _ (finished_bound tail _) ∙ renumber n n (operands_bind es + 0) (operands_bind es) refl (omega arith)
    bound tail (new_cells cs e) scope n = new_cells_bound scope cs n (binds e) _ (bound tail e _ (n + length cs))
    bound tail (cell_get v) scope n = finished_bound tail _
    bound tail (cell_set v e) scope n = value_bound tail e scope n _ (bound false e scope (suc n))

    bound_parts : (tail : Bool) (es : Trees) (scope : Scope) (n : ℕ) → bound_in (normal_parts starts tail es scope n) ≡ numbers n (binds_parts es)
    bound_parts tail no_trees scope n = finished_bound tail _
    bound_parts tail (and_tree e no_trees) scope n = bound tail e scope n
    bound_parts tail (and_tree e (and_tree e' es)) scope n =
        go (ends_in_call e) (bound false e scope n) (bound false e scope (suc n)) (λ m. bound_parts tail (and_tree e' es) scope m)
      where
        go : (b : Bool) → bound_in (normal starts false e scope n) ≡ numbers n (binds e) → bound_in (normal starts false e scope (suc n)) ≡ numbers (suc n) (binds e)
            → ((m : ℕ) → bound_in (normal_parts starts tail (and_tree e' es) scope m) ≡ numbers m (binds_parts (and_tree e' es)))
            → bound_in (cond b (tree.bind n (normal starts false e scope (suc n)) (normal_parts starts tail (and_tree e' es) scope (suc n + binds e)))
            (unless_atom (normal starts false e scope n) (normal_parts starts tail (and_tree e' es) scope (n + binds e))))
            ≡ numbers n (cond b (suc (binds e)) (binds e) + binds_parts (and_tree e' es))
        go true p q more =
            ap (λ l. n ∷ l) (joined (suc n) (binds e) (binds_parts (and_tree e' es)) (binds e + binds_parts (and_tree e' es)) _ _ q (more (suc n + binds e)) refl)
            ∙ renumber n n (suc (binds e + binds_parts (and_tree e' es))) (suc (binds e) + binds_parts (and_tree e' es)) refl (omega arith)
        go false p q more =
            dropped_as (λ z. bound_in z ≡ numbers n (binds e + binds_parts (and_tree e' es))) (normal starts false e scope n) (normal_parts starts tail (and_tree e' es) scope (n + binds e))
            (λ i. joined n (binds e) (binds_parts (and_tree e' es)) _ _ _ p (more (n + binds e)) refl)
            (λ i. let none = no_numbers n (binds e) (sym (of_atom bound_in [] (λ a. refl) (λ v k. refl) (normal starts false e scope n) i) ∙ p) in
            more (n + binds e) ∙ renumber (n + binds e) n (binds_parts (and_tree e' es)) (binds e + binds_parts (and_tree e' es)) (omega (arith, none)) (omega (arith, none)))

    bound_operands : (es : Trees) (scope : Scope) (n m : ℕ) (body : Expression) → bound_in body ≡ numbers (n + operands_bind es) m
        → bound_in (with_operands starts es scope n body) ≡ numbers n (operands_bind es + m)
    bound_operands no_trees scope n m body h = h ∙ renumber (n + 0) n m (0 + m) (omega arith) (omega arith)
    bound_operands (and_tree e es) scope n m body h =
        unless_bound (is_simple e) e scope n (operands_bind es + m) _ (bound false e scope (suc n))
        (bound_operands es scope (n + part_binds (is_simple e) (binds e)) m body
        (h ∙ renumber (n + operands_bind (and_tree e es)) (n + part_binds (is_simple e) (binds e) + operands_bind es) m m (omega arith) refl))
        ∙ renumber n n (part_binds (is_simple e) (binds e) + (operands_bind es + m)) (operands_bind (and_tree e es) + m) refl (omega arith)

    bound_inits : (es : Trees) (scope : Scope) (n m : ℕ) (body : Expression) → bound_in body ≡ numbers (n + inits_bind es) m
        → bound_in (with_inits starts es scope n body) ≡ numbers n (inits_bind es + m)
    bound_inits no_trees scope n m body h = h ∙ renumber (n + 0) n m (0 + m) (omega arith) (omega arith)
    bound_inits (and_tree e es) scope n m body h =
        ap (λ l. n ∷ l) (joined (suc n) (binds e) (inits_bind es + m) (binds e + (inits_bind es + m)) _ _ (bound false e scope (suc n))
        (bound_inits es scope (suc n + binds e) m body (h ∙ renumber (n + inits_bind (and_tree e es)) (suc n + binds e + inits_bind es) m m (omega arith) refl)) refl)
        ∙ renumber n n (suc (binds e + (inits_bind es + m))) (inits_bind (and_tree e es) + m) refl (omega arith)

-- ## No more than may be needed

part_few : (e : Tree) → binds e ≤ variables e → part_binds (is_simple e) (binds e) ≤ one_unless_simple e + variables e
part_few (constant c) h = omega arith
part_few (literal k) h = omega arith
part_few (variable (flat.bound x)) h = omega arith
part_few (variable (flat.free k)) h = omega (arith, h)
part_few (operation site which es) h = go (is_simple (operation site which es)) h
  where
    go : (b : Bool) → binds (operation site which es) ≤ variables (operation site which es) → part_binds b (binds (operation site which es)) ≤ 1 + variables (operation site which es)
    go true h = omega arith
    go false h = omega (arith, h)
part_few (global g) h = omega (arith, h)
part_few (set_global g e) h = omega (arith, h)
part_few (define g e) h = omega (arith, h)
part_few (branch x y z) h = omega (arith, h)
part_few (sequence es) h = omega (arith, h)
part_few (bind site first es e) h = omega (arith, h)
part_few (make_closure m) h = omega (arith, h)
part_few (fix_closures first ms e) h = omega (arith, h)
part_few (call site spread f es) h = omega (arith, h)
part_few (new_cells cs e) h = omega (arith, h)
part_few (cell_get v) h = omega (arith, h)
part_few (cell_set v e) h = omega (arith, h)

dropped_few : (e : Tree) → binds e ≤ variables e → cond (ends_in_call e) (suc (binds e)) (binds e) ≤ one_unless_simple e + variables e
dropped_few (constant c) h = omega arith
dropped_few (literal k) h = omega arith
dropped_few (variable v) h = omega arith
dropped_few e h = go e (ends_in_call e) refl h
  where
    go : (e : Tree) (b : Bool) → ends_in_call e ≡ b → binds e ≤ variables e → cond b (suc (binds e)) (binds e) ≤ one_unless_simple e + variables e
    go e false i h = omega (arith, h)
    go (constant c) true i h = absurd (cc)
    go (literal k) true i h = absurd (cc)
    go (variable v) true i h = absurd (cc)
    go (global g) true i h = omega (arith, h)
    go (set_global g e) true i h = omega (arith, h)
    go (define g e) true i h = omega (arith, h)
    go (branch x y z) true i h = omega (arith, h)
    go (sequence es) true i h = omega (arith, h)
    go (bind site first es e) true i h = omega (arith, h)
    go (make_closure m) true i h = omega (arith, h)
    go (fix_closures first ms e) true i h = omega (arith, h)
    go (call site spread f es) true i h = omega (arith, h)
    go (operation site which es) true i h = omega (arith, h)
    go (new_cells cs e) true i h = omega (arith, h)
    go (cell_get v) true i h = omega (arith, h)
    go (cell_set v e) true i h = omega (arith, h)

mutual
  pub few : (e : Tree) → binds e ≤ variables e
  few (constant c) = omega arith
  few (literal k) = omega arith
  few (variable v) = omega arith
  few (global g) = omega arith
  few (set_global g e) = part_few e (few e)
  few (define g e) = part_few e (few e)
  few (branch x y z) = let a = few x in let b = few y in let c = few z in omega (arith, a, b, c)
  few (sequence es) = few_parts es
  few (bind site first es e) = let a = few_inits es in let b = few e in omega (arith, a, b)
  few (make_closure m) = omega arith
  few (fix_closures first ms e) = let b = few e in omega (arith, b)
  few (call site spread f es) = let a = part_few f (few f) in let b = few_operands es in omega (arith, a, b)
  few (operation site which es) = few_operands es
  few (new_cells cs e) = let b = few e in omega (arith, b)
  few (cell_get v) = omega arith
  few (cell_set v e) = part_few e (few e)

  few_parts : (es : Trees) → binds_parts es ≤ variables_parts es
  few_parts no_trees = omega arith
  few_parts (and_tree e no_trees) = few e
  few_parts (and_tree e (and_tree e' es)) = let a = dropped_few e (few e) in let b = few_parts (and_tree e' es) in omega (arith, a, b)

  few_operands : (es : Trees) → operands_bind es ≤ variables_operands es
  few_operands no_trees = omega arith
  few_operands (and_tree e es) = let a = part_few e (few e) in let b = few_operands es in omega (arith, a, b)

  few_inits : (es : Trees) → inits_bind es ≤ count es + variables_each es
  few_inits no_trees = omega arith
  few_inits (and_tree e es) = let a = few e in let b = few_inits es in omega (arith, a, b)

-- ## Each once

pub within_numbers : (x n low high : ℕ) → low ≤ x → x + n ≤ high → list_all (λ y. nat_le low y && nat_lt y high) (numbers x n) ≡ true
within_numbers x zero low high l h = refl
within_numbers x (suc n) low high l h = rw (le-leb low x l, lt-ltb x high (omega (arith, h))) (within_numbers (suc x) n low high (omega (arith, l)) (omega (arith, h)))
