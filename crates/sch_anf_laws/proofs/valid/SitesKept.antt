-- A normal form has the calls and primitives of the flat tree, each as often and with its width.
use Rattle.std.proofs.Common.{◌≡◌, ℕ, suc, ◌+◌, Bool, true, false, cond, List, [], ◌∷◌, ◌++◌, length, Option, Some, None, refl, sym, ap, ◌∙◌, ◌≤◌, arith}
use Rattle.std.specs.List.{sum_by}
use Rattle.std.proofs.lemmas.List.Sums.{sum_by-append, sum_by-cons}
use Rattle.sch_anf_laws.proofs.runs.Ready.{all_sites, all_sites_each}
use Rattle.sch_word.specs.declared.constant.Const.TheVariants.{Unspecified}
use Rattle.sch_flat.specs.Tree as flat
use Rattle.sch_flat.specs.Tree.{Tree, Trees, NewCell, constant, literal, variable, global, set_global, define, branch, sequence, bind, make_closure, fix_closures, call, operation, new_cells, cell_get, cell_set, no_trees, and_tree, count}
use Rattle.sch_control.specs.declared.operation.Atom.TheVariants as atom
use Rattle.sch_control.specs.declared.operation.Operand.TheVariants as op
use Rattle.sch_control.specs.declared.operation.Operation.{Operation}
use Rattle.sch_control.specs.declared.operation.Operation.TheVariants as does
use Rattle.sch_control.specs.declared.operation.Application.{Application}
use Rattle.sch_control.specs.AtomsAndSites.{operand_sites, operands_sites, operation_sites, application_sites}
use Rattle.sch_control.specs.Tree as tree
use Rattle.sch_control.specs.Tree.{Expression}
use Rattle.sch_control.specs.Valid as to
use Rattle.sch_word.specs.trees.Bindings.{with_variables}
use Rattle.sch_control.specs.Valid.{only_reads}
use Rattle.sch_anf_laws.specs.Normal.{Scope, init_numbers, source_of, is_atom, are_atoms, is_simple, atoms_of, simple_operand, operand_at, operands_at, operand_binds, unless_atom, ends_in_call, part_binds, binds, operands_bind, inits_bind, finished, called, bound_unless, normal, normal_parts, with_operands, with_inits, with_new_cells, cell_operation}
use Rattle.sch_word.specs.trees.Shape as shapes
use Rattle.sch_word.specs.trees.Shape.{Shape}
use Rattle.sch_word.proofs.facts.Booleans.{and_left, and_right}
use Rattle.sch_flat.specs.Measures.{over, over_each}
use Rattle.sch_anf_laws.proofs.DroppedAtoms.{dropped_as, of_atom}
use Rattle.sch_anf_laws.proofs.runs.Agree.{operands_length}

-- the site of a call or a primitive, with its width
abbrev pub call_row_of : Shape → List (ℕ × ℕ)
call_row_of (shapes.call site operands spread) = (site, suc operands) ∷ []
call_row_of (shapes.operation site which operands) = (site, operands) ∷ []
call_row_of _ = []

abbrev pub calls_in : Tree → List (ℕ × ℕ)
calls_in = over [] (λ x y. x ++ y) call_row_of

abbrev pub calls_in_each : Trees → List (ℕ × ℕ)
calls_in_each = over_each [] (λ x y. x ++ y) call_row_of

module _ (starts : List ℕ) (f : ℕ × ℕ → ℕ) where
  abbrev total : List (ℕ × ℕ) → ℕ
  total xs = sum_by f xs

  abbrev made : Expression → ℕ
  made x = sum_by f (to.sites_of x)

  both : (xs ys : List (ℕ × ℕ)) → total (xs ++ ys) ≡ total xs + total ys
  both xs ys = sum_by-append f xs ys

  first : (x : ℕ × ℕ) (xs : List (ℕ × ℕ)) → total (x ∷ xs) ≡ f x + total xs
  first x xs = sum_by-cons f x xs

  -- ## Simple parts

  atom_none : (e : Tree) → is_atom e ≡ true → calls_in e ≡ []
  atom_none (constant c) i = refl
  atom_none (literal k) i = refl
  atom_none (variable (flat.bound x)) i = refl
  atom_none _ i = absurd (cc)

  atoms_none : (es : Trees) → are_atoms es ≡ true → calls_in_each es ≡ []
  atoms_none no_trees i = refl
  atoms_none (and_tree e es) i = rw (atom_none e (and_left (is_atom e) (are_atoms es) i), atoms_none es (and_right (is_atom e) (are_atoms es) i)) refl

  atoms_length : (scope : Scope) (es : Trees) → length (atoms_of scope es) ≡ count es
  atoms_length scope no_trees = refl
  atoms_length scope (and_tree e es) = ap suc (atoms_length scope es)

  simple_kept : (scope : Scope) (e : Tree) → is_simple e ≡ true → total (operand_sites (simple_operand scope e)) ≡ total (calls_in e)
  simple_kept scope (constant c) i = refl
  simple_kept scope (literal k) i = refl
  simple_kept scope (variable (flat.bound x)) i = refl
  simple_kept scope (operation site which es) i = rw (atoms_none es (and_right (only_reads which) (are_atoms es) i), atoms_length scope es) refl
  simple_kept scope _ i = absurd (cc)

  -- the sites of the parts that are bound, and of those that are not
  abbrev bound_sites : Trees → ℕ
  bound_sites no_trees = 0
  bound_sites (and_tree e es) = cond (is_simple e) 0 (total (calls_in e)) + bound_sites es

  operand_kept : (b : Bool) (scope : Scope) (e : Tree) (n : ℕ) → is_simple e ≡ b
      → cond b 0 (total (calls_in e)) + total (operand_sites (cond b (simple_operand scope e) (op.Atom (atom.Variable n)))) ≡ total (calls_in e)
  operand_kept true scope e n i = let h = simple_kept scope e i in omega (arith, h)
  operand_kept false scope e n i = omega arith

  operands_kept : (scope : Scope) (es : Trees) (n : ℕ) → bound_sites es + total (operands_sites (operands_at scope es n)) ≡ total (calls_in_each es)
  operands_kept scope no_trees n = refl
  operands_kept scope (and_tree e es) n =
      let here = operand_kept (is_simple e) scope e n refl in
      let more = operands_kept scope es (n + operand_binds e) in
      omega (arith, here, more, both (operand_sites (operand_at scope e n)) (operands_sites (operands_at scope es (n + operand_binds e))), both (calls_in e) (calls_in_each es))

  finished_sites : (tail : Bool) (o : Operation ℕ) → made (finished tail (tree.perform o)) ≡ total (operation_sites o)
  finished_sites true o = refl
  finished_sites false o = refl

  called_sites : (tail : Bool) (a : Application ℕ) → made (called tail a) ≡ total (application_sites a)
  called_sites true a = refl
  called_sites false a = refl

  unless_sites : (b : Bool) (e : Tree) (n : ℕ) (x y : Expression) → made x ≡ total (calls_in e) → made (bound_unless b n x y) ≡ cond b 0 (total (calls_in e)) + made y
  unless_sites true e n x y h = omega arith
  unless_sites false e n x y h = both (to.sites_of x) (to.sites_of y) ∙ ap (λ m. m + made y) h

  cells_sites : (scope : Scope) (cs : List NewCell) (n : ℕ) (body : Expression) → made (with_new_cells scope cs n body) ≡ made body
  cells_sites scope [] n body = refl
  cells_sites scope (c ∷ cs) n body = go c.content (cells_sites scope cs (suc n) body)
    where
      go : (o : Option flat.Variable) → made (with_new_cells scope cs (suc n) body) ≡ made body
          → total (operation_sites (cell_operation scope o) ++ to.sites_of (with_new_cells scope cs (suc n) body)) ≡ made body
      go None h = h
      go (Some v) h = h

  -- a value that is set, bound first where it is not simple
  value_sites : (tail : Bool) (e : Tree) (scope : Scope) (n : ℕ) (o : Operation ℕ) → made (normal starts false e scope (suc n)) ≡ total (calls_in e)
      → operation_sites o ≡ operand_sites (operand_at scope e n)
      → made (bound_unless (is_simple e) n (normal starts false e scope (suc n)) (finished tail (tree.perform o))) ≡ total (calls_in e)
  value_sites tail e scope n o h k =
      let here = unless_sites (is_simple e) e n (normal starts false e scope (suc n)) (finished tail (tree.perform o)) h in
      let kept = operand_kept (is_simple e) scope e n refl in
      omega (arith, here, kept, finished_sites tail o, ap total k)

  call_sites : (tail : Bool) (site : ℕ) (spread : Bool) (scope : Scope) (g : Tree) (es : Trees) (n x : ℕ)
      → made (called tail (record { site = site; spread = spread; operator = operand_at scope g x; operands = operands_at scope es n })) +
      (cond (is_simple g) 0 (total (calls_in g)) + bound_sites es) ≡ total (calls_in (call site spread g es))
  call_sites tail site spread scope g es n x =
      let a : Application ℕ = record { site = site; spread = spread; operator = operand_at scope g x; operands = operands_at scope es n } in
      let width : f (site, suc (length (operands_at scope es n))) ≡ f (site, suc (count es)) = ap (λ m. f (site, suc m)) (operands_length scope es n) in
      let g' = operand_kept (is_simple g) scope g x refl in
      let es' = operands_kept scope es n in
      omega (
        arith,
        called_sites tail a,
        first (site, suc (length (operands_at scope es n))) (operands_sites (a.operator ∷ a.operands)),
        both (operand_sites (operand_at scope g x)) (operands_sites (operands_at scope es n)),
        width,
        g',
        es',
        first (site, suc (count es)) (calls_in g ++ calls_in_each es),
        both (calls_in g) (calls_in_each es),
      )

  prim_sites : (tail : Bool) (site : ℕ) (which : _) (scope : Scope) (es : Trees) (n : ℕ)
      → made (finished tail (tree.perform (does.Prim site which (operands_at scope es n)))) + bound_sites es ≡ total (calls_in (operation site which es))
  prim_sites tail site which scope es n =
      let width : f (site, length (operands_at scope es n)) ≡ f (site, count es) = ap (λ m. f (site, m)) (operands_length scope es n) in
      let es' = operands_kept scope es n in
      omega (
        arith,
        finished_sites tail (does.Prim site which (operands_at scope es n)),
        first (site, length (operands_at scope es n)) (operands_sites (operands_at scope es n)),
        width,
        es',
        first (site, count es) (calls_in_each es),
      )

  mutual
    pub kept : (tail : Bool) (e : Tree) (scope : Scope) (n : ℕ) → made (normal starts tail e scope n) ≡ total (calls_in e)
    kept tail (constant c) scope n = finished_sites tail (does.Operand (op.Atom (atom.Constant c)))
    kept tail (literal k) scope n = finished_sites tail (does.Operand (op.Atom (atom.Literal k)))
    kept tail (variable (flat.bound x)) scope n = finished_sites tail (does.Operand (op.Atom (atom.Variable _)))
    kept tail (variable (flat.free k)) scope n = finished_sites tail (does.Field 1 k)
    kept tail (global g) scope n = finished_sites tail (does.Global g)
    kept tail (set_global g e) scope n = value_sites tail e scope n (does.SetGlobal g (operand_at scope e n)) (kept false e scope (suc n)) refl
    kept tail (define g e) scope n = value_sites tail e scope n (does.SetGlobal g (operand_at scope e n)) (kept false e scope (suc n)) refl
    kept tail (branch x y z) scope n =
        let p = kept false x scope n in
        let q = kept tail y scope (n + binds x) in
        let r = kept tail z scope (n + binds x + binds y) in
        omega (
          arith,
          p,
          q,
          r,
          both (to.sites_of (normal starts false x scope n)) (to.sites_of (normal starts tail y scope (n + binds x)) ++ to.sites_of (normal starts tail z scope (n + binds x + binds y))),
          both (to.sites_of (normal starts tail y scope (n + binds x))) (to.sites_of (normal starts tail z scope (n + binds x + binds y))),
          both (calls_in x) (calls_in y ++ calls_in z),
          both (calls_in y) (calls_in z),
        )
    kept tail (sequence es) scope n = kept_parts tail es scope n
    kept tail (bind site x es e) scope n =
        let p = kept_inits es scope n (normal starts tail e (with_variables x (init_numbers es n) scope) (n + inits_bind es)) in
        let q = kept tail e (with_variables x (init_numbers es n) scope) (n + inits_bind es) in
        omega (arith, p, q, both (calls_in_each es) (calls_in e))
    kept tail (make_closure m) scope n = finished_sites tail _
    kept tail (fix_closures x ms e) scope n = kept tail e _ (n + length ms)
    kept tail (call site spread g es) scope n =
        let a : Application ℕ = record { site = site; spread = spread; operator = operand_at scope g (n + operands_bind es); operands = operands_at scope es n } in
        let p = kept_operands es scope n (bound_unless (is_simple g) (n + operands_bind es) (normal starts false g scope (suc (n + operands_bind es))) (called tail a)) in
        let q = unless_sites (is_simple g) g (n + operands_bind es) (normal starts false g scope (suc (n + operands_bind es))) (called tail a) (kept false g scope (suc (n + operands_bind es))) in
        omega (arith, p, q, call_sites tail site spread scope g es n (n + operands_bind es))
    kept tail (operation site which es) scope n =
        let p = kept_operands es scope n (finished tail (tree.perform (does.Prim site which (operands_at scope es n)))) in
        omega (arith, p, prim_sites tail site which scope es n)
    kept tail (new_cells cs e) scope n = cells_sites scope cs n _ ∙ kept tail e _ (n + length cs)
    kept tail (cell_get v) scope n = finished_sites tail (does.CellGet (source_of scope v))
    kept tail (cell_set v e) scope n = value_sites tail e scope n (does.CellSet (source_of scope v) (operand_at scope e n)) (kept false e scope (suc n)) refl

    kept_parts : (tail : Bool) (es : Trees) (scope : Scope) (n : ℕ) → made (normal_parts starts tail es scope n) ≡ total (calls_in_each es)
    kept_parts tail no_trees scope n = finished_sites tail (does.Operand (op.Atom (atom.Constant Unspecified)))
    kept_parts tail (and_tree e no_trees) scope n = let p = kept tail e scope n in omega (arith, p, both (calls_in e) [])
    kept_parts tail (and_tree e (and_tree e' es)) scope n =
        go (ends_in_call e) (λ m. kept false e scope m) (λ m. kept_parts tail (and_tree e' es) scope m)
      where
        go : (b : Bool) → ((m : ℕ) → made (normal starts false e scope m) ≡ total (calls_in e))
            → ((m : ℕ) → made (normal_parts starts tail (and_tree e' es) scope m) ≡ total (calls_in_each (and_tree e' es)))
            → made (cond b (tree.bind n (normal starts false e scope (suc n)) (normal_parts starts tail (and_tree e' es) scope (suc n + binds e)))
            (unless_atom (normal starts false e scope n) (normal_parts starts tail (and_tree e' es) scope (n + binds e)))) ≡ total (calls_in_each (and_tree e (and_tree e' es)))
        go true p q =
            both (to.sites_of (normal starts false e scope (suc n))) (to.sites_of (normal_parts starts tail (and_tree e' es) scope (suc n + binds e)))
            ∙ (ap (λ m. m + made (normal_parts starts tail (and_tree e' es) scope (suc n + binds e))) (p (suc n))
            ∙ (ap (λ m. total (calls_in e) + m) (q (suc n + binds e)) ∙ sym (both (calls_in e) (calls_in_each (and_tree e' es)))))
        go false p q =
            let here = p n in
            let more = q (n + binds e) in
            let parts = both (calls_in e) (calls_in_each (and_tree e' es)) in
            dropped_as (λ z. made z ≡ total (calls_in_each (and_tree e (and_tree e' es)))) (normal starts false e scope n) (normal_parts starts tail (and_tree e' es) scope (n + binds e))
            (λ i. let two = both (to.sites_of (normal starts false e scope n)) (to.sites_of (normal_parts starts tail (and_tree e' es) scope (n + binds e))) in omega (arith, two, here, more, parts))
            (λ i. let none = of_atom made (total []) (λ a. refl) (λ v k. refl) (normal starts false e scope n) i in omega (arith, none, here, more, parts, both [] []))

    kept_operands : (es : Trees) (scope : Scope) (n : ℕ) (body : Expression) → made (with_operands starts es scope n body) ≡ bound_sites es + made body
    kept_operands no_trees scope n body = omega arith
    kept_operands (and_tree e es) scope n body =
        let p = unless_sites (is_simple e) e n (normal starts false e scope (suc n)) (with_operands starts es scope (n + part_binds (is_simple e) (binds e)) body) (kept false e scope (suc n)) in
        let q = kept_operands es scope (n + part_binds (is_simple e) (binds e)) body in
        omega (arith, p, q)

    kept_inits : (es : Trees) (scope : Scope) (n : ℕ) (body : Expression) → made (with_inits starts es scope n body) ≡ total (calls_in_each es) + made body
    kept_inits no_trees scope n body = omega arith
    kept_inits (and_tree e es) scope n body =
        let p = kept false e scope (suc n) in
        let q = kept_inits es scope (suc n + binds e) body in
        omega (arith, p, q, both (to.sites_of (normal starts false e scope (suc n))) (to.sites_of (with_inits starts es scope (suc n + binds e) body)), both (calls_in e) (calls_in_each es))

-- no more than all sites
module _ (f : ℕ × ℕ → ℕ) where
  abbrev sum : List (ℕ × ℕ) → ℕ
  sum xs = sum_by f xs

  two : (xs ys us vs : List (ℕ × ℕ)) → sum xs ≤ sum us → sum ys ≤ sum vs → sum (xs ++ ys) ≤ sum (us ++ vs)
  two xs ys us vs h k = omega (arith, sum_by-append f xs ys, sum_by-append f us vs, h, k)

  one_more : (x : ℕ × ℕ) (xs us : List (ℕ × ℕ)) → sum xs ≤ sum us → sum (x ∷ xs) ≤ sum (x ∷ us)
  one_more x xs us h = omega (arith, sum_by-cons f x xs, sum_by-cons f x us, h)

  mutual
    pub fewer : (e : Tree) → sum (calls_in e) ≤ sum (all_sites e)
    fewer (constant c) = omega arith
    fewer (literal k) = omega arith
    fewer (variable (flat.bound x)) = omega arith
    fewer (variable (flat.free x)) = omega arith
    fewer (global g) = omega arith
    fewer (set_global g e) = fewer e
    fewer (define g e) = fewer e
    fewer (branch x y z) = two (calls_in x) (calls_in y ++ calls_in z) (all_sites x) (all_sites y ++ all_sites z) (fewer x)
        (two (calls_in y) (calls_in z) (all_sites y) (all_sites z) (fewer y) (fewer z))
    fewer (sequence es) = fewer_each es
    fewer (bind site x es e) =
        let h = two (calls_in_each es) (calls_in e) (all_sites_each es) (all_sites e) (fewer_each es) (fewer e) in
        omega (arith, h, sum_by-cons f (site, count es) (all_sites_each es ++ all_sites e))
    fewer (make_closure m) = omega arith
    fewer (fix_closures x ms e) = fewer e
    fewer (call site spread g es) = one_more (site, suc (count es)) (calls_in g ++ calls_in_each es) (all_sites g ++ all_sites_each es)
        (two (calls_in g) (calls_in_each es) (all_sites g) (all_sites_each es) (fewer g) (fewer_each es))
    fewer (operation site which es) = one_more (site, count es) (calls_in_each es) (all_sites_each es) (fewer_each es)
    fewer (new_cells cs e) = fewer e
    fewer (cell_get v) = omega arith
    fewer (cell_set v e) = fewer e

    pub fewer_each : (es : Trees) → sum (calls_in_each es) ≤ sum (all_sites_each es)
    fewer_each no_trees = omega arith
    fewer_each (and_tree e es) = two (calls_in e) (calls_in_each es) (all_sites e) (all_sites_each es) (fewer e) (fewer_each es)
