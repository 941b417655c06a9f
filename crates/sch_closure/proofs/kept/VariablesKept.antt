-- A body of a flat program may need as many variables as the procedure that it comes from.
use Rattle.std.proofs.Common.{◌≡◌, ℕ, zero, suc, ◌+◌, Bool, true, false, List, [], ◌∷◌, Some, refl, subst, arith}
use Rattle.std.specs.Prelude.{cond, nat_eq, not, ◌||◌}
use Rattle.std.proofs.lemmas.Bool.{eqb-true}
use Rattle.sch_word.specs.trees.NumberSets.{has, union, In}
use Rattle.sch_word.specs.trees.Bindings.{Bindings, bound_to, with_variables, numbers, without, remove}
use Rattle.sch_cells.specs.declared.tree.NewCell.{NewCell}
use Rattle.sch_cells.specs.Tree.{Tree, Trees, Lambdas, constant, literal, variable, global, set_variable, set_global, define, branch, sequence, bind, fix, letrec, lambda, call, operation, new_cells, cell_get, cell_set, no_trees, and_tree, no_lambdas, and_lambda, count, count_lambdas}
use Rattle.sch_cells.specs.Variables.{free, free_each, free_lambdas, cells_bound, cells_used, without_each, assigns, assigns_each, assigns_lambdas}
use Rattle.sch_cells.specs.Bodies as from
use Rattle.sch_cells.proofs.Unassigned.{all_unassigned, bound_count_unassigned}
use Rattle.sch_word.specs.values.Options.{or_false}
use Rattle.sch_word.specs.trees.VariableCounts.{one_unless}
use Rattle.sch_cells.specs.Bodies.{counts_nothing, all_same, once_with_cells}
use Rattle.sch_cells.specs.Clear.{Apart}
use Rattle.sch_flat.specs.Tree as flat
use Rattle.sch_flat.specs.Measures as to
use Rattle.sch_flat.specs.Measures.{one_unless_simple}
use Rattle.sch_closure.specs.Closed.{place, place_from, placed, procedures, procedures_each, procedures_lambdas, fields_of, closed, closed_each, body_of}
use Rattle.sch_closure.specs.Fresh.{Fresh, FreshEach, FreshLambdas}
use Rattle.sch_closure.proofs.Sets.{remove_other}
use Rattle.sch_closure.proofs.Same.{made_length, place_bound, apart_head, apart_tail}
use Rattle.sch_closure.proofs.kept.ScopedKept.{counts}
use Rattle.sch_word.proofs.facts.NumberSets.{in_here, union_left, union_right}
use Rattle.sch_word.proofs.facts.Booleans.{neither}
use Rattle.sch_word.proofs.facts.Lists.{map_length}

-- ## No variable is assigned

mutual
  not_assigned : (e : Tree) (fs : List ℕ) → Fresh e fs → (y : ℕ) → assigns e y ≡ false
  not_assigned (constant c) fs f y = refl
  not_assigned (literal n) fs f y = refl
  not_assigned (variable x) fs f y = refl
  not_assigned (global g) fs f y = refl
  not_assigned (set_variable x e) fs f y = absurd f
  not_assigned (set_global g e) fs f y = not_assigned e fs f y
  not_assigned (define g e) fs f y = not_assigned e fs f y
  not_assigned (branch a b c) fs f y = neither _ _ (not_assigned a fs f.0 y) (neither _ _ (not_assigned b fs f.1 y) (not_assigned c fs f.2 y))
  not_assigned (sequence es) fs f y = each_not es fs f y
  not_assigned (bind site x es e) fs f y = neither _ _ (each_not es fs f.1 y) (not_assigned e fs f.2 y)
  not_assigned (fix x ls e) fs f y = neither _ _ (lambdas_not ls f.1 y) (not_assigned e fs f.2 y)
  not_assigned (letrec site x es e) fs f y = absurd f
  not_assigned (lambda name x m rest e) fs f y = not_assigned e (fields_of x m e) f.1 y
  not_assigned (call site spread g es) fs f y = neither _ _ (not_assigned g fs f.0 y) (each_not es fs f.1 y)
  not_assigned (operation site which es) fs f y = each_not es fs f y
  not_assigned (new_cells cs e) fs f y = not_assigned e fs f.1 y
  not_assigned (cell_get x) fs f y = refl
  not_assigned (cell_set x e) fs f y = not_assigned e fs f y

  each_not : (es : Trees) (fs : List ℕ) → FreshEach es fs → (y : ℕ) → assigns_each es y ≡ false
  each_not no_trees fs f y = refl
  each_not (and_tree e es) fs f y = neither _ _ (not_assigned e fs f.0 y) (each_not es fs f.1 y)

  lambdas_not : (ls : Lambdas) → FreshLambdas ls → (y : ℕ) → assigns_lambdas ls y ≡ false
  lambdas_not no_lambdas f y = refl
  lambdas_not (and_lambda name x m rest e ls) f y = neither _ _ (not_assigned e (fields_of x m e) f.0.1 y) (lambdas_not ls f.1 y)

-- ## Variables that count nothing

-- each of these variables counts nothing where its body binds it, which is where it is no field
record Counts (fs xs : List ℕ) (once : Bindings Bool) : Type 0 where
  at : (x : ℕ) → In x xs → or_false (bound_to x once) ≡ not (has x fs)

counts_less : {fs : List ℕ} {once : Bindings Bool} (xs ys : List ℕ) → ((x : ℕ) → In x ys → In x xs) → Counts fs xs once → Counts fs ys once
counts_less xs ys w k = record { at = λ x i. k.at x (w x i) }

counts_left : {fs : List ℕ} {once : Bindings Bool} (xs ys : List ℕ) → Counts fs (union xs ys) once → Counts fs xs once
counts_left xs ys k = counts_less (union xs ys) xs (λ x i. union_left x xs ys i) k

counts_right : {fs : List ℕ} {once : Bindings Bool} (xs ys : List ℕ) → Counts fs (union xs ys) once → Counts fs ys once
counts_right xs ys k = counts_less (union xs ys) ys (λ x i. union_right x xs ys i) k

counts_push : {fs xs : List ℕ} {once : Bindings Bool} (y : ℕ) → has y fs ≡ false → Counts fs (remove y xs) once → Counts fs xs ((y, true) ∷ once)
counts_push {fs} {xs} {once} y a k = record { at = λ x i. go x (nat_eq x y) refl i }
  where
    go : (x : ℕ) (b : Bool) → nat_eq x y ≡ b → In x xs → or_false (cond (nat_eq x y) (Some true) (bound_to x once)) ≡ not (has x fs)
    go x true e i =
        let q : x ≡ y = eqb-true x y e in
        let h : has x fs ≡ false = rw q a in
        rw (e, h) refl
    go x false e i = rw e (k.at x (remove_other x y xs e i))

counts_with : {fs xs : List ℕ} {once : Bindings Bool} (x m : ℕ) → Apart (numbers x m) fs → Counts fs (without x m xs) once → Counts fs xs (with_variables x (all_same m true) once)
counts_with x zero a k = k
counts_with {fs} x (suc m) a k = counts_with (suc x) m (apart_tail x (numbers (suc x) m) fs a) (counts_push x (apart_head x (numbers (suc x) m) fs a) k)

counts_cells : {fs xs : List ℕ} {once : Bindings Bool} (cs : List NewCell) → Apart (cells_bound cs) fs → Counts fs (without_each (cells_bound cs) xs) once → Counts fs xs (once_with_cells cs once)
counts_cells [] a k = k
counts_cells {fs} (c ∷ cs) a k = counts_cells cs (apart_tail c.variable (cells_bound cs) fs a) (counts_push c.variable (apart_head c.variable (cells_bound cs) fs a) k)

field_counts : (k : ℕ) (fs : List ℕ) (x : ℕ) → has x fs ≡ true → one_unless_simple (flat.variable (place_from k fs x)) ≡ 1
field_counts k [] x h = absurd (cc)
field_counts k (y ∷ fs) x h = go (nat_eq x y) h (λ g. field_counts (suc k) fs x g)
  where
    go : (b : Bool) → (b || has x fs) ≡ true → (has x fs ≡ true → one_unless_simple (flat.variable (place_from (suc k) fs x)) ≡ 1)
        → one_unless_simple (flat.variable (cond b (flat.free k) (place_from (suc k) fs x))) ≡ 1
    go true h deeper = refl
    go false h deeper = deeper h

variable_counts : (fs : List ℕ) (x : ℕ) (b : Bool) → b ≡ not (has x fs) → one_unless_simple (flat.variable (place fs x)) ≡ one_unless b
variable_counts fs x b h = go (has x fs) refl h
  where
    go : (c : Bool) → has x fs ≡ c → b ≡ not c → one_unless_simple (flat.variable (place fs x)) ≡ one_unless b
    go true e p = rw p (field_counts 0 fs x e)
    go false e p = let q : place fs x ≡ flat.bound x = place_bound 0 fs x e in rw (p, q) refl

simple : (e : Tree) (fs : List ℕ) (n : ℕ) {once : Bindings Bool} → Fresh e fs → Counts fs (free e) once → one_unless_simple (closed e fs n) ≡ one_unless (counts_nothing e once)
simple (constant c) fs n f k = refl
simple (literal i) fs n f k = refl
simple (variable x) fs n {once} f k = variable_counts fs x (or_false (bound_to x once)) (k.at x (in_here x []))
simple (global g) fs n f k = refl
simple (set_variable x e) fs n f k = absurd f
simple (set_global g e) fs n f k = refl
simple (define g e) fs n f k = refl
simple (branch a b c) fs n f k = refl
simple (sequence es) fs n f k = refl
simple (bind site x es e) fs n f k = refl
simple (fix x ls e) fs n f k = refl
simple (letrec site x es e) fs n f k = absurd f
simple (lambda name x m rest e) fs n f k = refl
simple (call site spread g es) fs n f k = refl
simple (operation site which es) fs n f k = refl
simple (new_cells cs e) fs n f k = refl
simple (cell_get x) fs n f k = refl
simple (cell_set x e) fs n f k = refl

-- ## Variables of a body

mutual
  kept : (e : Tree) (fs : List ℕ) (n : ℕ) {once : Bindings Bool} → Fresh e fs → Counts fs (free e) once → to.variables (closed e fs n) ≡ from.variables e once
  kept (constant c) fs n f k = refl
  kept (literal i) fs n f k = refl
  kept (variable x) fs n f k = refl
  kept (global g) fs n f k = refl
  kept (set_variable x e) fs n f k = absurd f
  kept (set_global g e) fs n f k = rw (simple e fs n f k, kept e fs n f k) refl
  kept (define g e) fs n f k = rw (simple e fs n f k, kept e fs n f k) refl
  kept (branch a b c) fs n f k =
      let k' = counts_right (free a) (union (free b) (free c)) k in
      rw (
        kept a fs n f.0 (counts_left (free a) (union (free b) (free c)) k),
        kept b fs (n + procedures a) f.1 (counts_left (free b) (free c) k'),
        kept c fs (n + procedures a + procedures b) f.2 (counts_right (free b) (free c) k'),
      ) refl
  kept (sequence es) fs n f k = parts_kept es fs n f k
  kept (bind site x es e) fs n {once} f k =
      let m = count es in
      let a = not_assigned e fs f.2 in
      let i = kept e fs (n + procedures_each es) f.2 (counts_with x m f.0 (counts_right (free_each es) (without x m (free e)) k)) in
      let j = each_kept es fs n f.1 (counts_left (free_each es) (without x m (free e)) k) in
      rw (counts es fs n, i, j, bound_count_unassigned x m e a, all_unassigned x m e a) (omega arith)
  kept (fix x ls e) fs n f k =
      rw (made_length ls fs n, kept e fs (n + procedures_lambdas ls) f.2 (counts_right (free_lambdas ls) (free e) (counts_with x (count_lambdas ls) f.0 k))) refl
  kept (letrec site x es e) fs n f k = absurd f
  kept (lambda name x m rest e) fs n f k = refl
  kept (call site spread g es) fs n f k =
      let l = counts_left (free g) (free_each es) k in
      rw (simple g fs n f.0 l, kept g fs n f.0 l, operands_kept es fs (n + procedures g) f.1 (counts_right (free g) (free_each es) k)) refl
  kept (operation site which es) fs n f k = operands_kept es fs n f k
  kept (new_cells cs e) fs n f k =
      rw (map_length (placed fs) cs, kept e fs n f.1 (counts_cells cs f.0 (counts_right (cells_used cs) (without_each (cells_bound cs) (free e)) k))) refl
  kept (cell_get x) fs n f k = refl
  kept (cell_set x e) fs n f k = let r = counts_right (x ∷ []) (free e) k in rw (simple e fs n f r, kept e fs n f r) refl

  each_kept : (es : Trees) (fs : List ℕ) (n : ℕ) {once : Bindings Bool} → FreshEach es fs → Counts fs (free_each es) once → to.variables_each (closed_each es fs n) ≡ from.variables_each es once
  each_kept no_trees fs n f k = refl
  each_kept (and_tree e es) fs n f k =
      rw (kept e fs n f.0 (counts_left (free e) (free_each es) k), each_kept es fs (n + procedures e) f.1 (counts_right (free e) (free_each es) k)) refl

  operands_kept : (es : Trees) (fs : List ℕ) (n : ℕ) {once : Bindings Bool} → FreshEach es fs → Counts fs (free_each es) once
      → to.variables_operands (closed_each es fs n) ≡ from.variables_operands es once
  operands_kept no_trees fs n f k = refl
  operands_kept (and_tree e es) fs n f k =
      let l = counts_left (free e) (free_each es) k in
      rw (simple e fs n f.0 l, kept e fs n f.0 l, operands_kept es fs (n + procedures e) f.1 (counts_right (free e) (free_each es) k)) refl

  parts_kept : (es : Trees) (fs : List ℕ) (n : ℕ) {once : Bindings Bool} → FreshEach es fs → Counts fs (free_each es) once → to.variables_parts (closed_each es fs n) ≡ from.variables_parts es once
  parts_kept no_trees fs n f k = refl
  parts_kept (and_tree e no_trees) fs n f k = kept e fs n f.0 (counts_left (free e) [] k)
  parts_kept (and_tree e (and_tree e' es)) fs n f k =
      let l = counts_left (free e) (free_each (and_tree e' es)) k in
      rw (simple e fs n f.0 l, kept e fs n f.0 l, parts_kept (and_tree e' es) fs (n + procedures e) f.1 (counts_right (free e) (free_each (and_tree e' es)) k)) refl

pub body_kept : (name : List ℕ) (x m : ℕ) (rest : Bool) (e : Tree) (n : ℕ) → Apart (numbers x m) (fields_of x m e) → Fresh e (fields_of x m e)
    → to.body_variables (body_of name x m rest e n) ≡ from.body_variables x m e
body_kept name x m rest e n a f =
    let h = not_assigned e (fields_of x m e) f in
    let base : Counts (fields_of x m e) (without x m (free e)) [] = record { at = λ y i. (let j : has y (fields_of x m e) ≡ true = i in rw j refl) } in
    rw (kept e (fields_of x m e) (suc n) f (counts_with x m a base), bound_count_unassigned x m e h, all_unassigned x m e h) refl

pub form_kept : (e : Tree) (n : ℕ) → Fresh e [] → free e ≡ [] → to.variables (closed e [] n) ≡ from.variables e []
form_kept e n f none = kept e [] n f (record { at = λ x i. absurd (let j : In x [] = subst (λ l. In x l) none i in cc) })
