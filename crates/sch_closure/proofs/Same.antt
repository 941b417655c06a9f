-- A flat tree runs as the tree that it was made from.
use Rattle.std.proofs.Common.{◌≡◌, ℕ, zero, suc, ◌+◌, Bool, true, false, List, [], ◌∷◌, ◌++◌, length, map, Option, Some, None, refl, sym, ap, ◌∙◌, arith, append_assoc, length-append}
use Rattle.std.specs.Prelude.{cond, slice_get, nat_eq, ◌||◌}
use Rattle.std.proofs.lemmas.Bool.{eqb-true}
use Rattle.sch_word.specs.values.Values.{Value, unspecified, is_true, cell, fixnum, character, boolean, nil, symbol, object, procedure}
use Rattle.sch_word.specs.trees.NumberSets.{has, union, In}
use Rattle.sch_word.specs.trees.Bindings.{Bindings, bound_to, value_or, value_of, with_variables, numbers, scope_with, remove, without}
use Rattle.sch_word.specs.runs.Computation.{Computation, read_literal, read_global, write_global, take_entry, with_cell}
use Rattle.sch_word.specs.runs.Charges.{charge, charge_each, procedure_bytes, fit}
use Rattle.sch_word.specs.values.CellBytes.{cells_bytes}
use Rattle.sch_word.specs.runs.Orders.{Orders, order_at}
use Rattle.sch_word.specs.values.PrimitiveRows.{primitive}
use Rattle.sch_word.specs.runs.Runs.{SameRuns, starting_store}
use Rattle.sch_word.specs.runs.Procedures.{Procedure, library_procedures}
use Rattle.sch_word.proofs.Similar.{EachSimilar, no_similar, and_similar, similar_gives, similar_spent, similar_unreached, similar_either, similar_then, similar_all_values, similar_in_turn}
use Rattle.sch_word.proofs.SameStore.{same_store, Pairs, no_pairs, and_pair, DoesSame, same_in_store, keeps_in_store, same_read_cell, same_write_cell, same_new_procedure, keeps_new_cells, keeps_new_group, same_keeping, same_call, same_seen, fit_length}
use Rattle.sch_cells.specs.declared.tree.NewCell.{NewCell}
use Rattle.sch_cells.specs.Tree.{Tree, Trees, Lambdas, Source, constant, literal, variable, global, set_variable, set_global, define, branch, sequence, bind, fix, letrec, lambda, call, operation, new_cells, cell_get, cell_set, no_trees, and_tree, no_lambdas, and_lambda, count, count_lambdas}
use Rattle.sch_cells.specs.Variables.{free, free_each, free_lambdas, cells_bound, cells_used, and_some, without_each}
use Rattle.sch_cells.specs.Clear.{Apart, ClearEach, ClearLambdas}
use Rattle.sch_cells.specs.Procedures.{Closure, closures, lambdas_bytes}
use Rattle.sch_cells.specs.BoxedMeaning as from
use Rattle.sch_flat.specs.Tree as flat
use Rattle.sch_flat.specs.Meaning as to
use Rattle.sch_flat.specs.Meaning.{Environment, value_in, values_in, and_values}
use Rattle.sch_flat.specs.Run as runs
use Rattle.sch_closure.specs.Closed.{place_from, place, place_or_none, placed, procedures, procedures_each, procedures_lambdas, fields_of, closed, closed_each, made_each, body_of, labels, closed_source}
use Rattle.sch_closure.specs.Fresh.{Fresh, FreshEach, FreshLambdas, Stand, StandEach, StandLambdas}
use Rattle.sch_closure.proofs.Sets.{remove_other, without_scope}
use Rattle.sch_closure.proofs.Scopes.{Within, free_within, BoxedEach, BoxedLambdas, fresh_each, fresh_lambdas}
use Rattle.sch_closure.proofs.Standing.{stands_library, stands_forms}
use Rattle.sch_word.proofs.facts.NumberSets.{in_more, in_here, union_left, union_right}
use Rattle.sch_word.proofs.facts.Lists.{get_seam, map_length}

-- ## Variables

-- each of these variables has the same value on both sides
record Seen (fields xs : List ℕ) (environment : Bindings Value) (h : Environment) : Type 0 where
  at : (x : ℕ) → In x xs → value_in h (place fields x) ≡ value_of x environment

seen_less : {fs : List ℕ} (xs : List ℕ) {ys : List ℕ} {environment : Bindings Value} {h : Environment} → ((x : ℕ) → In x ys → In x xs) → Seen fs xs environment h → Seen fs ys environment h
seen_less xs k s = record { at = λ x i. s.at x (k x i) }

seen_left : {fs : List ℕ} (xs ys : List ℕ) {environment : Bindings Value} {h : Environment} → Seen fs (union xs ys) environment h → Seen fs xs environment h
seen_left xs ys s = seen_less (union xs ys) (λ x i. union_left x xs ys i) s

seen_right : {fs : List ℕ} (xs ys : List ℕ) {environment : Bindings Value} {h : Environment} → Seen fs (union xs ys) environment h → Seen fs ys environment h
seen_right xs ys s = seen_less (union xs ys) (λ x i. union_right x xs ys i) s

-- a variable that is no field is one that the body binds
pub place_bound : (k : ℕ) (fs : List ℕ) (x : ℕ) → has x fs ≡ false → place_from k fs x ≡ flat.bound x
place_bound k [] x e = refl
place_bound k (y ∷ fs) x e = go (place_bound (suc k) fs x) (nat_eq x y) e
  where
    go : (has x fs ≡ false → place_from (suc k) fs x ≡ flat.bound x) → (b : Bool) → (b || has x fs) ≡ false → cond b (flat.free k) (place_from (suc k) fs x) ≡ flat.bound x
    go deeper true e = absurd (cc)
    go deeper false e = deeper e

abbrev push : ℕ → Value → Environment → Environment
push y v h = record { variables = (y, v) ∷ h.variables; fields = h.fields }

push_other : (k : ℕ) (fs : List ℕ) (x y : ℕ) (v : Value) (h : Environment) → nat_eq x y ≡ false → value_in (push y v h) (place_from k fs x) ≡ value_in h (place_from k fs x)
push_other k [] x y v h e = rw e refl
push_other k (z ∷ fs) x y v h e = go (nat_eq x z) (push_other (suc k) fs x y v h e)
  where
    go : (b : Bool) → value_in (push y v h) (place_from (suc k) fs x) ≡ value_in h (place_from (suc k) fs x)
        → value_in (push y v h) (cond b (flat.free k) (place_from (suc k) fs x)) ≡ value_in h (cond b (flat.free k) (place_from (suc k) fs x))
    go true d = refl
    go false d = d

seen_push : {fs xs : List ℕ} {environment : Bindings Value} {h : Environment} (y : ℕ) (v : Value) → has y fs ≡ false → Seen fs (remove y xs) environment h
    → Seen fs xs ((y, v) ∷ environment) (push y v h)
seen_push {fs} {xs} {environment} {h} y v a s = record { at = λ x i. go x (nat_eq x y) refl i }
  where
    go : (x : ℕ) (b : Bool) → nat_eq x y ≡ b → In x xs → value_in (push y v h) (place fs x) ≡ value_or (cond (nat_eq x y) (Some v) (bound_to x environment))
    go x true e i =
        let q : x ≡ y = eqb-true x y e in
        let p : place fs x ≡ flat.bound x = place_bound 0 fs x (rw q a) in
        rw (p, e) refl
    go x false e i = push_other 0 fs x y v h e ∙ s.at x (remove_other x y xs e i) ∙ rw e refl

pub apart_head : (y : ℕ) (ys fs : List ℕ) → Apart (y ∷ ys) fs → has y fs ≡ false
apart_head y ys fs a = a.at y (in_here y ys)

pub apart_tail : (y : ℕ) (ys fs : List ℕ) → Apart (y ∷ ys) fs → Apart ys fs
apart_tail y ys fs a = record { at = λ z i. a.at z (in_more z y ys i) }

seen_with : {fs xs : List ℕ} {environment : Bindings Value} {h : Environment} (x m : ℕ) (vs : List Value) → length vs ≡ m → Apart (numbers x m) fs → Seen fs (without x m xs) environment h
    → Seen fs xs (with_variables x vs environment) (and_values x vs h)
seen_with x zero [] l a s = s
seen_with x zero (v ∷ vs) l a s = absurd (omega arith)
seen_with x (suc m) [] l a s = absurd (omega arith)
seen_with {fs} {xs} {environment} {h} x (suc m) (v ∷ vs) l a s =
    seen_with (suc x) m vs (omega arith) (apart_tail x (numbers (suc x) m) fs a) (seen_push x v (apart_head x (numbers (suc x) m) fs a) s)

seen_cells : {fs xs : List ℕ} (gs : List ℕ) {environment : Bindings Value} {h : Environment} (cs : List NewCell) (ns : List ℕ) → length ns ≡ length cs → Apart (cells_bound cs) fs
    → Seen fs (without_each (cells_bound cs) xs) environment h → Seen fs xs (from.with_new_cells cs ns environment) (to.and_cells (map (placed gs) cs) ns h)
seen_cells gs [] ns l a s = s
seen_cells gs (c ∷ cs) [] l a s = absurd (omega arith)
seen_cells {fs} {xs} gs {environment} {h} (c ∷ cs) (n ∷ ns) l a s =
    seen_cells gs cs ns (omega arith) (apart_tail c.variable (cells_bound cs) fs a) (seen_push c.variable (cell n) (apart_head c.variable (cells_bound cs) fs a) s)

-- the values of some variables
abbrev values_of : List ℕ → Bindings Value → List Value
values_of [] environment = []
values_of (x ∷ xs) environment = value_of x environment ∷ values_of xs environment

captured : (fs gs : List ℕ) {environment : Bindings Value} {h : Environment} → Seen fs gs environment h → values_in h (map (place fs) gs) ≡ values_of gs environment
captured fs [] s = refl
captured fs (x ∷ gs) {environment} {h} s =
    let here : value_in h (place fs x) ≡ value_of x environment = s.at x (in_here x gs) in
    let deeper : values_in h (map (place fs) gs) ≡ values_of gs environment = captured fs gs (seen_less (x ∷ gs) (λ y i. in_more y x gs i) s) in
    rw (here, deeper) refl

abbrev of_fields : List Value → Environment
of_fields vs = record { variables = []; fields = vs }

field_found : (fs : List ℕ) (x k : ℕ) (before : List Value) (environment : Bindings Value) → k ≡ length before → In x fs
    → value_in (of_fields (before ++ values_of fs environment)) (place_from k fs x) ≡ value_of x environment
field_found [] x k before environment l i = absurd (cc)
field_found (y ∷ fs) x k before environment l i = go (nat_eq x y) refl i
    (field_found fs x (suc k) (before ++ value_of y environment ∷ []) environment (omega (arith, length-append before (value_of y environment ∷ []))))
  where
    go : (b : Bool) → nat_eq x y ≡ b → (b || has x fs) ≡ true
        → (In x fs → value_in (of_fields ((before ++ value_of y environment ∷ []) ++ values_of fs environment)) (place_from (suc k) fs x) ≡ value_of x environment)
        → value_in (of_fields (before ++ value_of y environment ∷ values_of fs environment)) (cond b (flat.free k) (place_from (suc k) fs x)) ≡ value_of x environment
    go true e j deeper = rw (l, get_seam before (values_of fs environment) (value_of y environment)) (ap (λ z. value_of z environment) (sym (eqb-true x y e)))
    go false e j deeper = rw (← append_assoc before (value_of y environment ∷ []) (values_of fs environment)) (deeper j)

seen_fields : (fs : List ℕ) (environment : Bindings Value) → Seen fs fs environment (of_fields (values_of fs environment))
seen_fields fs environment = record { at = λ x i. field_found fs x 0 [] environment refl i }

-- what new cells hold
contents_same : (fs : List ℕ) (cs : List NewCell) {environment : Bindings Value} {h : Environment} → Seen fs (cells_used cs) environment h
    → to.contents h (map (placed fs) cs) ≡ from.contents cs environment
contents_same fs [] s = refl
contents_same fs (c ∷ cs) {environment} {h} s = go (λ s. contents_same fs cs s) c.content s
  where
    go : (Seen fs (cells_used cs) environment h → to.contents h (map (placed fs) cs) ≡ from.contents cs environment) → (o : Option ℕ) → Seen fs (and_some o (cells_used cs)) environment h
        → (to.content h (place_or_none fs o) ∷ to.contents h (map (placed fs) cs)) ≡ (from.content o environment ∷ from.contents cs environment)
    go rest None s = ap (λ l. None ∷ l) (rest s)
    go rest (Some x) s =
        let here : value_in h (place fs x) ≡ value_of x environment = s.at x (union_left x (x ∷ []) (cells_used cs) (in_here x [])) in
        let deeper : to.contents h (map (placed fs) cs) ≡ from.contents cs environment = rest (seen_right (x ∷ []) (cells_used cs) s) in
        rw (here, deeper) refl

contents_length : (cs : List NewCell) (environment : Bindings Value) → length (from.contents cs environment) ≡ length cs
contents_length [] environment = refl
contents_length (c ∷ cs) environment = ap suc (contents_length cs environment)

-- ## Charges

bytes_same : (ls : Lambdas) (fs : List ℕ) (n : ℕ) → to.closures_bytes (made_each ls fs n) ≡ lambdas_bytes ls
bytes_same no_lambdas fs n = refl
bytes_same (and_lambda name x m rest e ls) fs n = rw (map_length (place fs) (fields_of x m e), bytes_same ls fs (suc n + procedures e)) refl

pub made_length : (ls : Lambdas) (fs : List ℕ) (n : ℕ) → length (made_each ls fs n) ≡ count_lambdas ls
made_length no_lambdas fs n = refl
made_length (and_lambda name x m rest e ls) fs n = ap suc (made_length ls fs (suc n + procedures e))

-- ## Procedures

abbrev free_of : Closure Value → List ℕ
free_of p = fields_of p.first p.formals p.body

module _ (all : List flat.Body) where
  -- A procedure and its record: the values of its free variables, and its body at its label.
  pub record Becomes (p : Closure Value) (q : Procedure) : Type 0 where
    pub name : List ℕ
    pub fields : q.fields ≡ values_of (free_of p) p.environment
    pub body : slice_get all q.label ≡ Some (body_of name p.first p.formals p.rest p.body q.label)
    pub stand : Stand all p.body (suc q.label)
    pub apart : Apart (numbers p.first p.formals) (free_of p)
    pub fresh : Fresh p.body (free_of p)

  -- the procedures of a group, once their numbers are given
  groups : (ls : Lambdas) (fs : List ℕ) (n : ℕ) {environment : Bindings Value} {h : Environment} → Seen fs (free_lambdas ls) environment h → FreshLambdas ls → StandLambdas all ls n
      → Pairs Becomes (closures ls environment) (to.closures h (made_each ls fs n))
  groups no_lambdas fs n s f t = no_pairs
  groups (and_lambda name x m rest e ls) fs n s f t =
      and_pair
      (record { name = name; fields = captured fs (fields_of x m e) (seen_left (fields_of x m e) (free_lambdas ls) s); body = t.0.0; stand = t.0.1; apart = f.0.0; fresh = f.0.1 })
      (groups ls fs (suc n + procedures e) (seen_right (fields_of x m e) (free_lambdas ls) s) f.1 t.1)

  same_cell : {v v' : Value} {c : ℕ → Computation (Closure Value) Value} {d : ℕ → Computation Procedure Value} → v' ≡ v → ((k : ℕ) → DoesSame Becomes (c k) (d k))
      → DoesSame Becomes (with_cell v c) (with_cell v' d)
  same_cell {v} {c = c} {d = d} e h = rw e (go v)
    where
      go : (v : Value) → DoesSame Becomes (with_cell v c) (with_cell v d)
      go (fixnum n) = similar_unreached (same_store Becomes)
      go (character b) = similar_unreached (same_store Becomes)
      go (boolean b) = similar_unreached (same_store Becomes)
      go nil = similar_unreached (same_store Becomes)
      go unspecified = similar_unreached (same_store Becomes)
      go (symbol n) = similar_unreached (same_store Becomes)
      go (object n) = similar_unreached (same_store Becomes)
      go (procedure n) = similar_unreached (same_store Becomes)
      go (cell n) = h n

  module _ (orders : Orders) (enter : from.Enter) (enter' : to.Enter)
      (same_enter : (p : Closure Value) (q : Procedure) → Becomes p q → (vs : List Value) (depth : ℕ) → DoesSame Becomes (enter p vs depth) (enter' q vs depth)) where
    each_length : (es : Trees) (environment : Bindings Value) (depth : ℕ) → length (from.each orders enter es environment depth) ≡ count es
    each_length no_trees environment depth = refl
    each_length (and_tree e es) environment depth = ap suc (each_length es environment depth)

    mutual
      evaluate_same : (e : Tree) (fs : List ℕ) (n : ℕ) {environment : Bindings Value} {h : Environment} (depth : ℕ) (tail : Bool) → Seen fs (free e) environment h → Fresh e fs → Stand all e n
          → DoesSame Becomes (from.evaluate orders enter e environment depth tail) (to.evaluate orders enter' (closed e fs n) h depth tail)
      evaluate_same (constant c) fs n depth tail s f t = similar_gives (same_store Becomes) _ _ (λ _ _. refl)
      evaluate_same (literal k) fs n depth tail s f t = same_in_store Becomes (read_literal k)
      evaluate_same (variable x) fs n depth tail s f t = similar_gives (same_store Becomes) _ _ (λ _ _. sym (s.at x (in_here x [])))
      evaluate_same (global g) fs n depth tail s f t = same_in_store Becomes (read_global g)
      evaluate_same (set_global g e) fs n depth tail s f t =
          similar_then (same_store Becomes) (evaluate_same e fs n depth false s f t) (λ _ _ v. same_in_store Becomes (write_global g v))
      evaluate_same (define g e) fs n depth tail s f t =
          similar_then (same_store Becomes) (evaluate_same e fs n depth false s f t) (λ _ _ v. same_in_store Becomes (write_global g v))
      evaluate_same (branch a b c) fs n depth tail s f t =
          let r = seen_right (free a) (union (free b) (free c)) s in
          similar_then (same_store Becomes) (evaluate_same a fs n depth false (seen_left (free a) (union (free b) (free c)) s) f.0 t.0)
          (λ _ _ v. similar_either (same_store Becomes) (is_true v)
          (evaluate_same b fs (n + procedures a) depth tail (seen_left (free b) (free c) r) f.1 t.1)
          (evaluate_same c fs (n + procedures a + procedures b) depth tail (seen_right (free b) (free c) r) f.2 t.2))
      evaluate_same (sequence es) fs n depth tail s f t = similar_in_turn (same_store Becomes) unspecified (parts_same es fs n depth tail s f t)
      evaluate_same (bind site x es e) fs n {environment} depth tail s f t =
          same_keeping Becomes {Promise = λ vs. length vs ≡ length (from.each orders enter es environment depth)}
          (similar_all_values (same_store Becomes) (orders site) (each_same es fs n depth (seen_left (free_each es) _ s) f.1 t.0))
          (λ vs l. evaluate_same e fs (n + procedures_each es) depth tail
          (seen_with x (count es) vs (l ∙ each_length es environment depth) f.0 (seen_right (free_each es) (without x (count es) (free e)) s)) f.2 t.1)
      evaluate_same (fix x ls e) fs n {environment} {h} depth tail s f t =
          rw (bytes_same ls fs n, made_length ls fs n) (similar_then (same_store Becomes) (same_in_store Becomes (charge_each (lambdas_bytes ls)))
          (λ _ _ _. same_keeping Becomes
          (keeps_new_group Becomes (count_lambdas ls) (λ vs l. groups ls fs n (seen_left (free_lambdas ls) (free e) (seen_with x (count_lambdas ls) vs l f.0 s)) f.1 t.0))
          (λ vs l. evaluate_same e fs (n + procedures_lambdas ls) depth tail (seen_right (free_lambdas ls) (free e) (seen_with x (count_lambdas ls) vs l f.0 s)) f.2 t.1)))
      evaluate_same (lambda name x m rest e) fs n depth tail s f t =
          rw (map_length (place fs) (fields_of x m e)) (similar_then (same_store Becomes) (same_in_store Becomes (charge (procedure_bytes (length (fields_of x m e)))))
          (λ _ _ _. same_new_procedure Becomes (record { name = name; fields = captured fs (fields_of x m e) s; body = t.0; stand = t.1; apart = f.0; fresh = f.1 })))
      evaluate_same (call site spread g es) fs n {environment} depth tail s f t =
          same_keeping Becomes {Promise = λ vs. length vs ≡ suc (length (from.each orders enter es environment depth))}
          (similar_all_values (same_store Becomes) (orders site)
          (and_similar (evaluate_same g fs n depth false (seen_left (free g) (free_each es) s) f.0 t.0) (each_same es fs (n + procedures g) depth (seen_right (free g) (free_each es) s) f.1 t.1)))
          (λ vs _. same_call Becomes enter enter' same_enter spread tail depth vs)
      evaluate_same (operation site which es) fs n {environment} depth tail s f t =
          same_keeping Becomes {Promise = λ vs. length vs ≡ length (from.each orders enter es environment depth)}
          (similar_all_values (same_store Becomes) (orders site) (each_same es fs n depth s f t))
          (λ vs _. same_in_store Becomes (primitive which vs))
      evaluate_same (new_cells cs e) fs n {environment} {h} depth tail s f t =
          let used = seen_left (cells_used cs) (without_each (cells_bound cs) (free e)) s in
          rw (map_length (placed fs) cs, contents_same fs cs used) (similar_then (same_store Becomes) (same_in_store Becomes (charge_each (cells_bytes (length cs))))
          (λ _ _ _. same_keeping Becomes (keeps_new_cells Becomes (length cs) (from.contents cs environment) (contents_length cs environment))
          (λ ns l. evaluate_same e fs n depth tail (seen_cells fs cs ns l f.0 (seen_right (cells_used cs) (without_each (cells_bound cs) (free e)) s)) f.1 t)))
      evaluate_same (cell_get x) fs n depth tail s f t = same_cell (s.at x (in_here x [])) (λ c. same_read_cell Becomes c)
      evaluate_same (cell_set x e) fs n depth tail s f t =
          similar_then (same_store Becomes) (evaluate_same e fs n depth false (seen_right (x ∷ []) (free e) s) f t)
          (λ _ _ v. same_cell (s.at x (union_left x (x ∷ []) (free e) (in_here x []))) (λ c. same_write_cell Becomes c v))
      evaluate_same (set_variable x e) fs n depth tail s f t = absurd f
      evaluate_same (letrec site x es e) fs n depth tail s f t = absurd f

      each_same : (es : Trees) (fs : List ℕ) (n : ℕ) {environment : Bindings Value} {h : Environment} (depth : ℕ) → Seen fs (free_each es) environment h → FreshEach es fs → StandEach all es n
          → EachSimilar (same_store Becomes) tt (from.each orders enter es environment depth) (to.each orders enter' (closed_each es fs n) h depth)
      each_same no_trees fs n depth s f t = no_similar
      each_same (and_tree e es) fs n depth s f t =
          and_similar (evaluate_same e fs n depth false (seen_left (free e) (free_each es) s) f.0 t.0) (each_same es fs (n + procedures e) depth (seen_right (free e) (free_each es) s) f.1 t.1)

      parts_same : (es : Trees) (fs : List ℕ) (n : ℕ) {environment : Bindings Value} {h : Environment} (depth : ℕ) (tail : Bool) → Seen fs (free_each es) environment h → FreshEach es fs
          → StandEach all es n → EachSimilar (same_store Becomes) tt (from.parts orders enter es environment depth tail) (to.parts orders enter' (closed_each es fs n) h depth tail)
      parts_same no_trees fs n depth tail s f t = no_similar
      parts_same (and_tree e no_trees) fs n depth tail s f t = and_similar (evaluate_same e fs n depth tail (seen_left (free e) [] s) f.0 t.0) no_similar
      parts_same (and_tree e (and_tree e' es)) fs n depth tail s f t =
          and_similar (evaluate_same e fs n depth false (seen_left (free e) (free_each (and_tree e' es)) s) f.0 t.0)
          (parts_same (and_tree e' es) fs (n + procedures e) depth tail (seen_right (free e) (free_each (and_tree e' es)) s) f.1 t.1)

  enter_same : (orders : Orders) (n : ℕ) (p : Closure Value) (q : Procedure) → Becomes p q → (vs : List Value) (depth : ℕ)
      → DoesSame Becomes (from.enter orders n p vs depth) (to.enter all orders n q vs depth)
  enter_same orders zero p q h vs depth = similar_spent (same_store Becomes)
  enter_same orders (suc n) p q h vs depth =
      rw (h.body, h.fields) (same_keeping Becomes (keeps_in_store Becomes (λ ws. length ws ≡ p.formals) (fit p.formals p.rest vs) (fit_length p.formals p.rest vs))
      (λ ws l. similar_then (same_store Becomes) (same_in_store Becomes take_entry)
      (λ _ _ _. evaluate_same orders (from.enter orders n) (to.enter all orders n) (enter_same orders n) p.body (free_of p) (suc q.label) depth true
      (seen_with p.first p.formals ws l h.apart (seen_fields (free_of p) p.environment)) h.fresh h.stand)))

-- ## Programs

pub none_within : (xs : List ℕ) → Within xs [] → xs ≡ []
none_within [] w = refl
none_within (x ∷ xs) w = absurd (let h : false ≡ true = w x (in_here x xs) in cc)

-- a library's procedure has no free variable
library_becomes : (all : List flat.Body) (ls : Lambdas) (n : ℕ) → ClearLambdas ls [] → FreshLambdas ls → StandLambdas all ls n
    → Pairs (Becomes all) (closures ls []) (library_procedures (labels ls n))
library_becomes all no_lambdas n c f t = no_pairs
library_becomes all (and_lambda name x m rest e ls) n c f t =
    let none = none_within (fields_of x m e) (without_scope x m (free e) [] (free_within e (scope_with x m []) c.0.1)) in
    and_pair
    (record { name = name; fields = ap (λ xs. values_of xs []) (sym none); body = t.0.0; stand = t.0.1; apart = f.0.0; fresh = f.0.1 })
    (library_becomes all ls (suc n + procedures e) c.1 f.1 t.1)

seen_none : (xs : List ℕ) → Seen [] xs [] runs.top_level
seen_none xs = record { at = λ x i. refl }

-- A program and its flat program have the same runs.
pub runs_alike : (p : Source) → ClearLambdas p.library [] → ClearEach p.forms [] → BoxedLambdas p.library → BoxedEach p.forms → SameRuns (from.run p) (runs.run (closed_source p))
runs_alike p cl c bl b = record {
  same = λ table heap depth answers entries.
      let all = (closed_source p).bodies in
      same_seen (Becomes all) answers entries _ _
      (similar_in_turn (same_store (Becomes all)) unspecified
      (each_same all (order_at table) (from.enter (order_at table) entries) (to.enter all (order_at table) entries) (enter_same all (order_at table) entries) p.forms []
      (procedures_lambdas p.library) depth
      (seen_none (free_each p.forms)) (fresh_each p.forms [] [] (λ x i. i) c b) (stands_forms body_of p.library p.forms)))
      (starting_store p.statics heap answers entries) (closures p.library []) (library_procedures (labels p.library 0))
      (library_becomes all p.library 0 cl (fresh_lambdas p.library [] cl bl) (stands_library body_of p.library p.forms));
}
