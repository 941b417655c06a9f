-- A normal form drops no atom.
use Rattle.std.proofs.Common.{◌≡◌, ℕ, suc, ◌+◌, ◌-◌, Bool, true, false, cond, List, [], ◌∷◌, ◌++◌, map, take, drop, length, refl, ap, arith}
use Rattle.sch_word.specs.trees.Bindings.{numbers, with_variables}
use Rattle.sch_flat.specs.Tree as flat
use Rattle.sch_flat.specs.Tree.{Tree, Trees, Body, NewCell, constant, literal, variable, global, set_global, define, branch, sequence, bind, make_closure, fix_closures, call, operation, new_cells, cell_get, cell_set, no_trees, and_tree}
use Rattle.sch_control.specs.declared.operation.Operation.{Operation}
use Rattle.sch_control.specs.declared.operation.Application.{Application}
use Rattle.sch_control.specs.Tree as tree
use Rattle.sch_control.specs.Tree.{Expression, Code}
use Rattle.sch_control.specs.Sizes.{is_bare_atom, dropped_in, dropped_of}
use Rattle.sch_anf_laws.specs.Normal.{Scope, is_simple, ends_in_call, unless_atom, part_binds, binds, operands_bind, inits_bind, finished, called, bound_unless, normal, normal_parts, with_operands, with_inits, with_new_cells, procedure_code, form_code, normal_bodies, normal_source}
use Rattle.sch_anf_laws.proofs.DroppedAtoms.{dropped_as}

finished_none : (tail : Bool) (o : Operation ℕ) → dropped_in (finished tail (tree.perform o)) ≡ 0
finished_none true o = refl
finished_none false o = refl

called_none : (tail : Bool) (a : Application ℕ) → dropped_in (called tail a) ≡ 0
called_none true a = refl
called_none false a = refl

unless_none : (b : Bool) (n : ℕ) (x y : Expression) → dropped_in x ≡ 0 → dropped_in y ≡ 0 → dropped_in (bound_unless b n x y) ≡ 0
unless_none true n x y h k = k
unless_none false n x y h k = omega (arith, h, k)

cells_none : (scope : Scope) (cs : List NewCell) (n : ℕ) (body : Expression) → dropped_in body ≡ 0 → dropped_in (with_new_cells scope cs n body) ≡ 0
cells_none scope [] n body h = h
cells_none scope (c ∷ cs) n body h = let k = cells_none scope cs (suc n) body h in omega (arith, k)

step_none : (b : Bool) (n : ℕ) (x x' y y' : Expression) → dropped_in x ≡ 0 → dropped_in x' ≡ 0 → dropped_in y ≡ 0 → dropped_in y' ≡ 0 → dropped_in (cond b (tree.bind n x y) (unless_atom x' y')) ≡ 0
step_none true n x x' y y' h h' k k' = omega (arith, h, k)
step_none false n x x' y y' h h' k k' =
    dropped_as (λ z. dropped_in z ≡ 0) x' y'
    (λ i. let here : cond {A = ℕ} (is_bare_atom x') 1 0 ≡ 0 = ap (λ b. cond {A = ℕ} b 1 0) i in omega (arith, here, h', k')) (λ i. k')

-- ## Expressions

module _ (starts : List ℕ) where
  mutual
    pub none_dropped : (tail : Bool) (e : Tree) (scope : Scope) (n : ℕ) → dropped_in (normal starts tail e scope n) ≡ 0
    none_dropped tail (constant c) scope n = finished_none tail _
    none_dropped tail (literal k) scope n = finished_none tail _
    none_dropped tail (variable (flat.bound x)) scope n = finished_none tail _
    none_dropped tail (variable (flat.free k)) scope n = finished_none tail _
    none_dropped tail (global g) scope n = finished_none tail _
    none_dropped tail (set_global g e) scope n = unless_none (is_simple e) n _ _ (none_dropped false e scope (suc n)) (finished_none tail _)
    none_dropped tail (define g e) scope n = unless_none (is_simple e) n _ _ (none_dropped false e scope (suc n)) (finished_none tail _)
    none_dropped tail (branch x y z) scope n =
        let p = none_dropped false x scope n in
        let q = none_dropped tail y scope (n + binds x) in
        let r = none_dropped tail z scope (n + binds x + binds y) in
        omega (arith, p, q, r)
    none_dropped tail (sequence es) scope n = parts_none tail es scope n
    none_dropped tail (bind site first es e) scope n = inits_none es scope n _ (none_dropped tail e _ (n + inits_bind es))
    none_dropped tail (make_closure m) scope n = finished_none tail _
    none_dropped tail (fix_closures first ms e) scope n = none_dropped tail e _ (n + length ms)
    none_dropped tail (call site spread f es) scope n =
        operands_none es scope n _ (unless_none (is_simple f) (n + operands_bind es) _ _ (none_dropped false f scope (suc (n + operands_bind es))) (called_none tail _))
    none_dropped tail (operation site which es) scope n = operands_none es scope n _ (finished_none tail _)
    none_dropped tail (new_cells cs e) scope n = cells_none scope cs n _ (none_dropped tail e _ (n + length cs))
    none_dropped tail (cell_get v) scope n = finished_none tail _
    none_dropped tail (cell_set v e) scope n = unless_none (is_simple e) n _ _ (none_dropped false e scope (suc n)) (finished_none tail _)

    parts_none : (tail : Bool) (es : Trees) (scope : Scope) (n : ℕ) → dropped_in (normal_parts starts tail es scope n) ≡ 0
    parts_none tail no_trees scope n = finished_none tail _
    parts_none tail (and_tree e no_trees) scope n = none_dropped tail e scope n
    parts_none tail (and_tree e (and_tree e' es)) scope n =
        step_none (ends_in_call e) n (normal starts false e scope (suc n)) (normal starts false e scope n) (normal_parts starts tail (and_tree e' es) scope (suc n + binds e))
        (normal_parts starts tail (and_tree e' es) scope (n + binds e)) (none_dropped false e scope (suc n)) (none_dropped false e scope n) (parts_none tail (and_tree e' es) scope (suc n + binds e))
        (parts_none tail (and_tree e' es) scope (n + binds e))

    operands_none : (es : Trees) (scope : Scope) (n : ℕ) (body : Expression) → dropped_in body ≡ 0 → dropped_in (with_operands starts es scope n body) ≡ 0
    operands_none no_trees scope n body h = h
    operands_none (and_tree e es) scope n body h =
        unless_none (is_simple e) n _ _ (none_dropped false e scope (suc n)) (operands_none es scope (n + part_binds (is_simple e) (binds e)) body h)

    inits_none : (es : Trees) (scope : Scope) (n : ℕ) (body : Expression) → dropped_in body ≡ 0 → dropped_in (with_inits starts es scope n body) ≡ 0
    inits_none no_trees scope n body h = h
    inits_none (and_tree e es) scope n body h =
        let p = none_dropped false e scope (suc n) in
        let q = inits_none es scope (suc n + binds e) body h in
        omega (arith, p, q)

  -- ## Programs

  dropped_append : (xs ys : List Code) → dropped_of (xs ++ ys) ≡ dropped_of xs + dropped_of ys
  dropped_append [] ys = omega arith
  dropped_append (x ∷ xs) ys = let h = dropped_append xs ys in omega (arith, h)

  procedures_none : (bs : List Body) → dropped_of (map (procedure_code starts) bs) ≡ 0
  procedures_none [] = refl
  procedures_none (b ∷ bs) =
      let h = procedures_none bs in
      let k = none_dropped true b.code (with_variables b.first (numbers 2 b.formals) []) (2 + b.formals) in
      omega (arith, h, k)

  codes_none : (forms : Trees) (places : List ℕ) (bodies : List Body) (before : ℕ) → dropped_of (normal_bodies starts before bodies forms places) ≡ 0
  codes_none no_trees places bodies before = procedures_none bodies
  codes_none (and_tree e es) [] bodies before =
      let h = codes_none es [] bodies before in
      let k = none_dropped false e [] 2 in
      omega (arith, h, k)
  codes_none (and_tree e es) (p ∷ places) bodies before =
      let h = codes_none es places (drop (p - before) bodies) p in
      let k = none_dropped false e [] 2 in
      let m = procedures_none (take (p - before) bodies) in
      omega (
        arith,
        h,
        k,
        m,
        dropped_append (map (procedure_code starts) (take (p - before) bodies))
            (form_code starts e ∷ normal_bodies starts p (drop (p - before) bodies) es places),
      )

-- What normalizing makes of a program drops no atom.
pub program_drops_none : (p : flat.Source) → dropped_of (normal_source p).bodies ≡ 0
program_drops_none p = codes_none p.starts p.forms p.starts p.bodies 0
