-- No body that normalizing makes has more sequences than its flat body may need variables: a part before the last of which
-- more than an atom is left, and which is not bound, counts as a variable there.
use Rattle.std.proofs.Common.{◌≡◌, ℕ, suc, ◌+◌, ◌≤◌, Bool, true, false, cond, List, [], ◌∷◌, length, arith}
use Rattle.std.specs.Prelude.{nat_le}
use Rattle.std.proofs.lemmas.Bool.{le-leb}
use Rattle.sch_word.specs.trees.Bindings.{numbers, with_variables}
use Rattle.sch_flat.specs.Tree as flat
use Rattle.sch_flat.specs.Tree.{Tree, Trees, Body, NewCell, constant, literal, variable, global, set_global, define, branch, sequence, bind, make_closure, fix_closures, call, operation, new_cells, cell_get, cell_set, no_trees, and_tree}
use Rattle.sch_flat.specs.Measures.{one_unless_simple, variables, variables_each, variables_operands, variables_parts, body_variables}
use Rattle.sch_control.specs.declared.operation.Operation.{Operation}
use Rattle.sch_control.specs.declared.operation.Operation.TheVariants as does
use Rattle.sch_control.specs.declared.operation.Application.{Application}
use Rattle.sch_control.specs.Tree as tree
use Rattle.sch_control.specs.Tree.{Expression}
use Rattle.sch_control.specs.Sizes.{is_bare_atom, sequences_in, sequences_within}
use Rattle.sch_anf_laws.specs.Counted.{most_variables}
use Rattle.sch_anf_laws.specs.Normal.{Scope, is_simple, ends_in_call, unless_atom, part_binds, binds, operands_bind, inits_bind, init_numbers, numbers_for, operand_at, operands_at, cells_scope, finished, called, bound_unless, normal, normal_parts, with_operands, with_inits, with_new_cells, procedure_code, form_code, normal_source}
use Rattle.sch_anf_laws.proofs.DroppedAtoms.{dropped_as}
use Rattle.sch_anf_laws.proofs.kept.EachBody.{program_holds}

-- ## Parts

finished_few : (tail : Bool) (o : Operation ℕ) → sequences_in (finished tail (tree.perform o)) ≤ 0
finished_few true o = omega arith
finished_few false o = omega arith

called_few : (tail : Bool) (a : Application ℕ) → sequences_in (called tail a) ≤ 0
called_few true a = omega arith
called_few false a = omega arith

unless_few : (b : Bool) (n : ℕ) (x y : Expression) → sequences_in (bound_unless b n x y) ≤ sequences_in x + sequences_in y
unless_few true n x y = omega arith
unless_few false n x y = omega arith

cells_few : (scope : Scope) (cs : List NewCell) (n : ℕ) (body : Expression)
    → sequences_in (with_new_cells scope cs n body) ≤ sequences_in body
cells_few scope [] n body = omega arith
cells_few scope (c ∷ cs) n body = let h = cells_few scope cs (suc n) body in omega (arith, h)

-- a part of a sequence, which counts as one where more than an atom is left of it, and what follows
step_few : (b : Bool) (n : ℕ) (x x' y y' : Expression) (one k m : ℕ) → (is_bare_atom x' ≡ false → 1 ≤ one)
    → sequences_in x ≤ k → sequences_in x' ≤ k → sequences_in y ≤ m → sequences_in y' ≤ m
    → sequences_in (cond b (tree.bind n x y) (unless_atom x' y')) ≤ one + (k + m)
step_few true n x x' y y' one k m counts h h' l l' = omega (arith, h, l)
step_few false n x x' y y' one k m counts h h' l l' =
    dropped_as (λ z. sequences_in z ≤ one + (k + m)) x' y' (λ i. let c = counts i in omega (arith, c, h', l')) (λ i. omega (arith, l'))

-- ## Expressions

module _ (starts : List ℕ) where
  -- a part of which more than an atom is left counts as a variable
  counts_one : (e : Tree) (scope : Scope) (n : ℕ) → is_bare_atom (normal starts false e scope n) ≡ false → 1 ≤ one_unless_simple e
  counts_one (constant c) scope n h = absurd (cc)
  counts_one (literal k) scope n h = absurd (cc)
  counts_one (variable (flat.bound x)) scope n h = absurd (cc)
  counts_one (variable (flat.free k)) scope n h = omega arith
  counts_one (global g) scope n h = omega arith
  counts_one (set_global g e) scope n h = omega arith
  counts_one (define g e) scope n h = omega arith
  counts_one (branch x y z) scope n h = omega arith
  counts_one (sequence es) scope n h = omega arith
  counts_one (bind site first es e) scope n h = omega arith
  counts_one (make_closure m) scope n h = omega arith
  counts_one (fix_closures first ms e) scope n h = omega arith
  counts_one (call site spread f es) scope n h = omega arith
  counts_one (operation site which es) scope n h = omega arith
  counts_one (new_cells cs e) scope n h = omega arith
  counts_one (cell_get v) scope n h = omega arith
  counts_one (cell_set v e) scope n h = omega arith

  -- a value that is set
  value_few : (tail : Bool) (e : Tree) (scope : Scope) (n : ℕ) (o : Operation ℕ)
      → sequences_in (normal starts false e scope (suc n)) ≤ variables e
      → sequences_in (bound_unless (is_simple e) n (normal starts false e scope (suc n)) (finished tail (tree.perform o)))
      ≤ one_unless_simple e + variables e
  value_few tail e scope n o h =
      let k = unless_few (is_simple e) n (normal starts false e scope (suc n)) (finished tail (tree.perform o)) in
      omega (arith, k, h, finished_few tail o)

  mutual
    sequences_few : (tail : Bool) (e : Tree) (scope : Scope) (n : ℕ) → sequences_in (normal starts tail e scope n) ≤ variables e
    sequences_few tail (constant c) scope n = finished_few tail _
    sequences_few tail (literal k) scope n = finished_few tail _
    sequences_few tail (variable (flat.bound x)) scope n = finished_few tail _
    sequences_few tail (variable (flat.free k)) scope n = finished_few tail _
    sequences_few tail (global g) scope n = finished_few tail _
    sequences_few tail (set_global g e) scope n = value_few tail e scope n _ (sequences_few false e scope (suc n))
    sequences_few tail (define g e) scope n = value_few tail e scope n _ (sequences_few false e scope (suc n))
    sequences_few tail (branch x y z) scope n =
        let p = sequences_few false x scope n in
        let q = sequences_few tail y scope (n + binds x) in
        let r = sequences_few tail z scope (n + binds x + binds y) in
        omega (arith, p, q, r)
    sequences_few tail (sequence es) scope n = parts_few tail es scope n
    sequences_few tail (bind site first es e) scope n =
        let inner = with_variables first (init_numbers es n) scope in
        let p = inits_few es scope n (normal starts tail e inner (n + inits_bind es)) in
        let q = sequences_few tail e inner (n + inits_bind es) in
        omega (arith, p, q)
    sequences_few tail (make_closure m) scope n = finished_few tail _
    sequences_few tail (fix_closures first ms e) scope n =
        let p = sequences_few tail e (with_variables first (numbers_for ms n) scope) (n + length ms) in
        omega (arith, p)
    sequences_few tail (call site spread f es) scope n =
        let m = n + operands_bind es in
        let operands = operands_at scope es n in
        let a : Application ℕ = record { site = site; spread = spread; operator = operand_at scope f m; operands = operands } in
        let value = normal starts false f scope (suc m) in
        let p = operands_few es scope n (bound_unless (is_simple f) m value (called tail a)) in
        let q = unless_few (is_simple f) m value (called tail a) in
        let r = sequences_few false f scope (suc m) in
        omega (arith, p, q, r, called_few tail a)
    sequences_few tail (operation site which es) scope n =
        let o : Operation ℕ = does.Prim site which (operands_at scope es n) in
        let p = operands_few es scope n (finished tail (tree.perform o)) in
        omega (arith, p, finished_few tail o)
    sequences_few tail (new_cells cs e) scope n =
        let p = sequences_few tail e (cells_scope cs n scope) (n + length cs) in
        let q = cells_few scope cs n (normal starts tail e (cells_scope cs n scope) (n + length cs)) in
        omega (arith, p, q)
    sequences_few tail (cell_get v) scope n = finished_few tail _
    sequences_few tail (cell_set v e) scope n = value_few tail e scope n _ (sequences_few false e scope (suc n))

    parts_few : (tail : Bool) (es : Trees) (scope : Scope) (n : ℕ) → sequences_in (normal_parts starts tail es scope n) ≤ variables_parts es
    parts_few tail no_trees scope n = finished_few tail _
    parts_few tail (and_tree e no_trees) scope n = sequences_few tail e scope n
    parts_few tail (and_tree e (and_tree e' es)) scope n =
        let x = normal starts false e scope (suc n) in
        let x' = normal starts false e scope n in
        let y = normal_parts starts tail (and_tree e' es) scope (suc n + binds e) in
        let y' = normal_parts starts tail (and_tree e' es) scope (n + binds e) in
        let m = variables_parts (and_tree e' es) in
        step_few (ends_in_call e) n x x' y y' (one_unless_simple e) (variables e) m (counts_one e scope n)
        (sequences_few false e scope (suc n)) (sequences_few false e scope n)
        (parts_few tail (and_tree e' es) scope (suc n + binds e)) (parts_few tail (and_tree e' es) scope (n + binds e))

    operands_few : (es : Trees) (scope : Scope) (n : ℕ) (body : Expression)
        → sequences_in (with_operands starts es scope n body) ≤ variables_operands es + sequences_in body
    operands_few no_trees scope n body = omega arith
    operands_few (and_tree e es) scope n body =
        let rest = with_operands starts es scope (n + part_binds (is_simple e) (binds e)) body in
        let p = unless_few (is_simple e) n (normal starts false e scope (suc n)) rest in
        let q = sequences_few false e scope (suc n) in
        let r = operands_few es scope (n + part_binds (is_simple e) (binds e)) body in
        omega (arith, p, q, r)

    inits_few : (es : Trees) (scope : Scope) (n : ℕ) (body : Expression)
        → sequences_in (with_inits starts es scope n body) ≤ variables_each es + sequences_in body
    inits_few no_trees scope n body = omega arith
    inits_few (and_tree e es) scope n body =
        let p = sequences_few false e scope (suc n) in
        let q = inits_few es scope (suc n + binds e) body in
        omega (arith, p, q)

  -- ## Programs

  body_few : (b : Body) → nat_le (sequences_in (procedure_code starts b).expression) (body_variables b) ≡ true
  body_few b =
      let l = sequences_few true b.code (with_variables b.first (numbers 2 b.formals) []) (2 + b.formals) in
      le-leb _ _ (omega (arith, l))

  form_few : (e : Tree) → nat_le (sequences_in (form_code starts e).expression) (variables e) ≡ true
  form_few e = let l = sequences_few false e [] 2 in le-leb _ _ (omega (arith, l))

-- No body has more sequences than its flat body may need variables.
pub program_few : (p : flat.Source) → sequences_within (normal_source p).bodies (most_variables p) ≡ true
program_few p = program_holds (λ c n. nat_le (sequences_in c.expression) n) p (body_few p.starts) (form_few p.starts)
