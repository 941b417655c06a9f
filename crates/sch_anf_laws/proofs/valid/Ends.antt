-- Each call of a normal form is bound, tested or in tail position, and each way through a body ends it.
use Rattle.std.proofs.Common.{◌≡◌, ℕ, suc, ◌+◌, Bool, true, false, cond, List, [], ◌∷◌, length, refl}
use Rattle.std.specs.Prelude.{◌||◌}
use Rattle.sch_flat.specs.Tree as flat
use Rattle.sch_flat.specs.Tree.{Tree, Trees, NewCell, constant, literal, variable, global, set_global, define, branch, sequence, bind, make_closure, fix_closures, call, operation, new_cells, cell_get, cell_set, no_trees, and_tree}
use Rattle.sch_control.specs.declared.operation.Operation.{Operation}
use Rattle.sch_control.specs.declared.operation.Application.{Application}
use Rattle.sch_control.specs.Tree as tree
use Rattle.sch_control.specs.Tree.{Expression}
use Rattle.sch_control.specs.Valid.{Position, value, no_call, procedure_end, form_end, positioned, is_bare}
use Rattle.sch_anf_laws.specs.Normal.{Scope, is_simple, ends_in_call, last_in_call, unless_atom, part_binds, binds, operands_bind, inits_bind, finished, called, bound_unless, normal, normal_parts, with_operands, with_inits, with_new_cells, cell_operation}
use Rattle.sch_anf_laws.proofs.DroppedAtoms.{dropped_as}

-- where a tree may stand that may be a call, or not
abbrev Allowed : (tail call : Bool) → Position → Type 0
Allowed true _ procedure_end = Unit {0}
Allowed false _ value = Unit {0}
Allowed false false no_call = Unit {0}
Allowed _ _ _ = ⊥

abbrev pub Placed : Expression → Position → Type 0
Placed x at = (positioned x at ≡ true) × (is_bare x ≡ true)

left_allowed : (tail x y : Bool) (at : Position) → Allowed tail (x || y) at → Allowed tail x at
left_allowed true x y procedure_end h = tt
left_allowed true x y value h = absurd h
left_allowed true x y no_call h = absurd h
left_allowed true x y form_end h = absurd h
left_allowed false x y value h = tt
left_allowed false true y no_call h = absurd h
left_allowed false false y no_call h = tt
left_allowed false x y procedure_end h = absurd h
left_allowed false x y form_end h = absurd h

right_allowed : (tail x y : Bool) (at : Position) → Allowed tail (x || y) at → Allowed tail y at
right_allowed true x y procedure_end h = tt
right_allowed true x y value h = absurd h
right_allowed true x y no_call h = absurd h
right_allowed true x y form_end h = absurd h
right_allowed false x y value h = tt
right_allowed false true y no_call h = absurd h
right_allowed false false y no_call h = h
right_allowed false x y procedure_end h = absurd h
right_allowed false x y form_end h = absurd h

-- what makes no call may stand where none may
calm : (x : Bool) → x ≡ false → Allowed false x no_call
calm true h = absurd (cc)
calm false h = tt

finished_placed : (tail : Bool) (o : Operation ℕ) (at : Position) → Allowed tail false at → Placed (finished tail (tree.perform o)) at
finished_placed true o procedure_end h = (refl, refl)
finished_placed true o value h = absurd h
finished_placed true o no_call h = absurd h
finished_placed true o form_end h = absurd h
finished_placed false o value h = (refl, refl)
finished_placed false o no_call h = (refl, refl)
finished_placed false o procedure_end h = absurd h
finished_placed false o form_end h = absurd h

called_placed : (tail : Bool) (a : Application ℕ) (at : Position) → Allowed tail true at → Placed (called tail a) at
called_placed true a procedure_end h = (refl, refl)
called_placed true a value h = absurd h
called_placed true a no_call h = absurd h
called_placed true a form_end h = absurd h
called_placed false a value h = (refl, refl)
called_placed false a no_call h = absurd h
called_placed false a procedure_end h = absurd h
called_placed false a form_end h = absurd h

bind_placed : (n : ℕ) (x y : Expression) (at : Position) → Placed x value → Placed y at → Placed (tree.bind n x y) at
bind_placed n x y at h k = (rw (h.0, k.0) refl, rw (h.1, k.1) refl)

unless_placed : (b : Bool) (n : ℕ) (x y : Expression) (at : Position) → Placed x value → Placed y at → Placed (bound_unless b n x y) at
unless_placed true n x y at h k = k
unless_placed false n x y at h k = bind_placed n x y at h k

cells_placed : (scope : Scope) (cs : List NewCell) (n : ℕ) (body : Expression) (at : Position) → Placed body at → Placed (with_new_cells scope cs n body) at
cells_placed scope [] n body at h = h
cells_placed scope (c ∷ cs) n body at h = bind_placed n (tree.perform (cell_operation scope c.content)) (with_new_cells scope cs (suc n) body) at (refl, refl) (cells_placed scope cs (suc n) body at h)

module _ (starts : List ℕ) where
  mutual
    pub placed : (tail : Bool) (e : Tree) (scope : Scope) (n : ℕ) (at : Position) → Allowed tail (ends_in_call e) at → Placed (normal starts tail e scope n) at
    placed tail (constant c) scope n at h = finished_placed tail _ at h
    placed tail (literal k) scope n at h = finished_placed tail _ at h
    placed tail (variable (flat.bound x)) scope n at h = finished_placed tail _ at h
    placed tail (variable (flat.free k)) scope n at h = finished_placed tail _ at h
    placed tail (global g) scope n at h = finished_placed tail _ at h
    placed tail (set_global g e) scope n at h = unless_placed (is_simple e) n _ _ at (placed false e scope (suc n) value tt) (finished_placed tail _ at h)
    placed tail (define g e) scope n at h = unless_placed (is_simple e) n _ _ at (placed false e scope (suc n) value tt) (finished_placed tail _ at h)
    placed tail (branch x y z) scope n at h =
        let p = placed false x scope n value tt in
        let q = placed tail y scope (n + binds x) at (left_allowed tail (ends_in_call y) (ends_in_call z) at h) in
        let r = placed tail z scope (n + binds x + binds y) at (right_allowed tail (ends_in_call y) (ends_in_call z) at h) in
        (rw (p.0, q.0, r.0) refl, rw (p.1, q.1, r.1) refl)
    placed tail (sequence es) scope n at h = placed_parts tail es scope n at h
    placed tail (bind site first es e) scope n at h = placed_inits es scope n _ at (placed tail e _ (n + inits_bind es) at h)
    placed tail (make_closure m) scope n at h = finished_placed tail _ at h
    placed tail (fix_closures first ms e) scope n at h = placed tail e _ (n + length ms) at h
    placed tail (call site spread f es) scope n at h =
        placed_operands es scope n _ at (unless_placed (is_simple f) (n + operands_bind es) _ _ at (placed false f scope (suc (n + operands_bind es)) value tt) (called_placed tail _ at h))
    placed tail (operation site which es) scope n at h = placed_operands es scope n _ at (finished_placed tail _ at h)
    placed tail (new_cells cs e) scope n at h = cells_placed scope cs n _ at (placed tail e _ (n + length cs) at h)
    placed tail (cell_get v) scope n at h = finished_placed tail _ at h
    placed tail (cell_set v e) scope n at h = unless_placed (is_simple e) n _ _ at (placed false e scope (suc n) value tt) (finished_placed tail _ at h)

    placed_parts : (tail : Bool) (es : Trees) (scope : Scope) (n : ℕ) (at : Position) → Allowed tail (last_in_call es) at → Placed (normal_parts starts tail es scope n) at
    placed_parts tail no_trees scope n at h = finished_placed tail _ at h
    placed_parts tail (and_tree e no_trees) scope n at h = placed tail e scope n at h
    placed_parts tail (and_tree e (and_tree e' es)) scope n at h =
        go (ends_in_call e) refl (λ i. placed false e scope n no_call (calm (ends_in_call e) i)) (placed false e scope (suc n) value tt) (λ m. placed_parts tail (and_tree e' es) scope m at h)
      where
        go : (b : Bool) → ends_in_call e ≡ b → (ends_in_call e ≡ false → Placed (normal starts false e scope n) no_call) → Placed (normal starts false e scope (suc n)) value
            → ((m : ℕ) → Placed (normal_parts starts tail (and_tree e' es) scope m) at)
            → Placed (cond b (tree.bind n (normal starts false e scope (suc n)) (normal_parts starts tail (and_tree e' es) scope (suc n + binds e)))
            (unless_atom (normal starts false e scope n) (normal_parts starts tail (and_tree e' es) scope (n + binds e)))) at
        go true i p q more = bind_placed n (normal starts false e scope (suc n)) (normal_parts starts tail (and_tree e' es) scope (suc n + binds e)) at q (more (suc n + binds e))
        go false i p q more =
            let a = p i in
            let b = more (n + binds e) in
            dropped_as (λ z. Placed z at) (normal starts false e scope n) (normal_parts starts tail (and_tree e' es) scope (n + binds e)) (λ _. (rw (a.0, b.0) refl, rw (a.1, b.1) refl)) (λ _. b)

    placed_operands : (es : Trees) (scope : Scope) (n : ℕ) (body : Expression) (at : Position) → Placed body at → Placed (with_operands starts es scope n body) at
    placed_operands no_trees scope n body at h = h
    placed_operands (and_tree e es) scope n body at h =
        unless_placed (is_simple e) n _ _ at (placed false e scope (suc n) value tt) (placed_operands es scope (n + part_binds (is_simple e) (binds e)) body at h)

    placed_inits : (es : Trees) (scope : Scope) (n : ℕ) (body : Expression) (at : Position) → Placed body at → Placed (with_inits starts es scope n body) at
    placed_inits no_trees scope n body at h = h
    placed_inits (and_tree e es) scope n body at h = bind_placed n (normal starts false e scope (suc n)) (with_inits starts es scope (suc n + binds e) body) at
        (placed false e scope (suc n) value tt) (placed_inits es scope (suc n + binds e) body at h)
