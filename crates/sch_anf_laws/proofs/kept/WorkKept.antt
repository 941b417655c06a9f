-- There is no more work in the expression of a tree than its nodes weigh, and so in the bodies of a program.
use Rattle.std.proofs.Common.{◌≡◌, ℕ, zero, suc, ◌+◌, ◌*◌, ◌-◌, ◌≤◌, Bool, true, false, cond, List, [], ◌∷◌, ◌++◌, length, map, take, drop, Option, Some, None, refl, arith, length-append}
use Rattle.std.proofs.lemmas.Bool.{and_parts}
use Rattle.sch_word.specs.declared.constant.Const.TheVariants.{Unspecified}
use Rattle.sch_word.specs.trees.Bindings.{numbers, with_variables}
use Rattle.sch_word.specs.trees.Shape as shapes
use Rattle.sch_flat.specs.Tree as from
use Rattle.sch_flat.specs.Tree.{Tree, Trees, Variable, Made, NewCell, bound, free, constant, literal, variable, global, set_global, define, branch, sequence, make_closure, fix_closures, call, operation, new_cells, cell_get, cell_set, no_trees, and_tree, count}
use Rattle.sch_flat.specs.Measures.{over, over_each, over_bodies, made_shapes, dropped}
use Rattle.sch_control.specs.declared.operation.Atom.TheVariants as atom
use Rattle.sch_control.specs.declared.operation.Operand.{Operand}
use Rattle.sch_control.specs.declared.operation.Operand.TheVariants as operand
use Rattle.sch_control.specs.declared.operation.Operation.{Operation}
use Rattle.sch_control.specs.declared.operation.Operation.TheVariants as does
use Rattle.sch_control.specs.declared.operation.Application.{Application}
use Rattle.sch_control.specs.AtomsAndSites.{source_atoms, member_atoms}
use Rattle.sch_control.specs.Sizes.{operand_size, operands_size, operation_size}
use Rattle.sch_control.specs.Tree as to
use Rattle.sch_control.specs.Tree.{Expression, Code}
use Rattle.sch_word.specs.trees.NodeWeights.{weight_of, fields_of}
use Rattle.sch_control.specs.Work.{codes_work, expression_work, operands_work}
use Rattle.sch_control.proofs.OperandSizes.{atoms_within}
use Rattle.sch_anf_laws.specs.Normal.{Scope, number_of, source_of, are_atoms, init_numbers, inits_bind, is_simple, simple_operand, atoms_of, binds, operand_binds, operands_bind, operand_at, operands_at, unless_atom, ends_in_call, bound_unless, closure_of, members_of, numbers_for, cell_operation, cells_scope, finished, called, normal, normal_parts, with_operands, with_inits, with_new_cells, procedure_code, form_code, normal_bodies, normal_source}
use Rattle.sch_flat.specs.Measures.{bodies_weight, weight}
use Rattle.sch_anf_laws.proofs.DroppedAtoms.{dropped_as}
use Rattle.sch_anf_laws.proofs.runs.Agree.{operands_length}

abbrev size : Tree → ℕ
size = over 0 (λ a b. a + b) weight_of

abbrev sizes : Trees → ℕ
sizes = over_each 0 (λ a b. a + b) weight_of

abbrev sizes_bodies : List from.Body → ℕ
sizes_bodies = over_bodies 0 (λ a b. a + b) weight_of

-- ## Simple parts

atoms_size : (scope : Scope) (es : Trees) → are_atoms es ≡ true → length (atoms_of scope es) ≤ sizes es
atoms_size scope no_trees h = omega arith
atoms_size scope (and_tree (constant c) es) h = let k = atoms_size scope es h in omega (arith, k)
atoms_size scope (and_tree (literal i) es) h = let k = atoms_size scope es h in omega (arith, k)
atoms_size scope (and_tree (variable (bound x)) es) h = let k = atoms_size scope es h in omega (arith, k)
atoms_size scope (and_tree _ es) h = absurd (cc)

-- a simple part
simple_size : (scope : Scope) (e : Tree) → is_simple e ≡ true → operand_size (simple_operand scope e) ≤ size e
simple_size scope (constant c) h = omega arith
simple_size scope (literal k) h = omega arith
simple_size scope (variable (bound x)) h = omega arith
simple_size scope (operation site which es) h = let k = atoms_size scope es (and_parts _ (are_atoms es) h).1 in omega (arith, k)
simple_size scope _ h = absurd (cc)

-- a part that is bound where it is not simple, and its operand
part_size : (b : Bool) (s : Operand ℕ) (n : ℕ) (value body : Expression) (m : ℕ) → (b ≡ true → operand_size s ≤ m) → expression_work value ≤ m →
    expression_work (bound_unless b n value body) + operand_size (cond b s (operand.Atom (atom.Variable n))) ≤ expression_work body + m + 2
part_size true s n value body m g h = let k = g refl in omega (arith, k)
part_size false s n value body m g h = omega (arith, h)

-- a part of a sequence, with what follows
step_size : (b : Bool) (n : ℕ) (a a' rest rest' : Expression) (k m : ℕ) → expression_work a ≤ k → expression_work a' ≤ k → expression_work rest ≤ m → expression_work rest' ≤ m →
    expression_work (cond b (to.bind n a rest) (unless_atom a' rest')) ≤ suc (k + m)
step_size true n a a' rest rest' k m g g' h h' = omega (arith, g, h)
step_size false n a a' rest rest' k m g g' h h' = dropped_as (λ z. expression_work z ≤ suc (k + m)) a' rest' (λ i. omega (arith, g', h')) (λ i. omega (arith, h'))

-- ## What ends a body

-- a return is one more
abbrev returned : (tail : Bool) → ℕ
returned true = 1
returned false = 0

finished_size : (tail : Bool) (o : Operation ℕ) → expression_work (finished tail (to.perform o)) ≡ operation_size o + 1 + returned tail
finished_size true o = omega arith
finished_size false o = omega arith

called_size : (tail : Bool) (a : Application ℕ) → expression_work (called tail a) ≤ operand_size a.operator + operands_work a.operands + 4
called_size true a = omega arith
called_size false a = omega arith

handed_size : (os : List (Operand ℕ)) → operands_work os ≡ 3 * length os + operands_size os
handed_size [] = omega arith
handed_size (o ∷ os) = let h = handed_size os in omega (arith, h)

-- ## Closures and cells

module _ (starts : List ℕ) where
  sources_size : (scope : Scope) (vs : List Variable) → length (source_atoms (map (source_of scope) vs)) ≡ length vs
  sources_size scope [] = refl
  sources_size scope (v ∷ vs) = let h = sources_size scope vs in omega (arith, h)

  members_size : (scope : Scope) (ms : List Made) (n : ℕ) → length (member_atoms (members_of starts scope ms n)) ≡ fields_of (made_shapes ms)
  members_size scope [] n = refl
  members_size scope (m ∷ ms) n =
      let h = members_size scope ms (suc n) in
      omega (arith, h, sources_size scope m.fields, length-append (source_atoms (map (source_of scope) m.fields)) (member_atoms (members_of starts scope ms (suc n))))

  cell_size : (scope : Scope) (v : Option Variable) → operation_size (cell_operation scope v) ≤ 1
  cell_size scope None = omega arith
  cell_size scope (Some v) = omega arith

  members_count : (scope : Scope) (ms : List Made) (n : ℕ) → length (members_of starts scope ms n) ≡ length ms
  members_count scope [] n = refl
  members_count scope (m ∷ ms) n = let h = members_count scope ms (suc n) in omega (arith, h)

  cells_size : (scope : Scope) (cs : List NewCell) (n : ℕ) (body : Expression) → expression_work (with_new_cells scope cs n body) ≤ expression_work body + 3 * length cs
  cells_size scope [] n body = omega arith
  cells_size scope (c ∷ cs) n body = let h = cells_size scope cs (suc n) body in let k = cell_size scope c.content in omega (arith, h, k)

  -- ## Expressions

  -- a value that is set
  value_size : (tail : Bool) (e : Tree) (scope : Scope) (n : ℕ) (o : Operation ℕ) (m : ℕ) → expression_work (normal starts false e scope (suc n)) ≤ size e
      → operation_size o ≤ operand_size (operand_at scope e n) + m
      → expression_work (bound_unless (is_simple e) n (normal starts false e scope (suc n)) (finished tail (to.perform o))) ≤ 3 + m + size e + returned tail
  value_size tail e scope n o m h k =
      let body = finished tail (to.perform o) in
      let s = part_size (is_simple e) (simple_operand scope e) n (normal starts false e scope (suc n)) body (size e) (simple_size scope e) h in
      omega (arith, s, k, finished_size tail o)

  mutual
    pub normal_size : (tail : Bool) (e : Tree) (scope : Scope) (n : ℕ) → expression_work (normal starts tail e scope n) ≤ size e + returned tail
    normal_size tail (constant c) scope n = let f = finished_size tail (does.Operand (operand.Atom (atom.Constant c))) in omega (arith, f)
    normal_size tail (literal k) scope n = let f = finished_size tail (does.Operand (operand.Atom (atom.Literal k))) in omega (arith, f)
    normal_size tail (variable (bound x)) scope n = let f = finished_size tail (does.Operand (operand.Atom (atom.Variable (number_of scope x)))) in omega (arith, f)
    normal_size tail (variable (free k)) scope n = let f = finished_size tail (does.Field 1 k) in omega (arith, f)
    normal_size tail (global g) scope n = let f = finished_size tail (does.Global g) in omega (arith, f)
    normal_size tail (set_global g e) scope n =
        let s = value_size tail e scope n (does.SetGlobal g (operand_at scope e n)) 0 (omega (arith, normal_size false e scope (suc n))) (omega arith) in
        omega (arith, s)
    normal_size tail (define g e) scope n =
        let s = value_size tail e scope n (does.SetGlobal g (operand_at scope e n)) 0 (omega (arith, normal_size false e scope (suc n))) (omega arith) in
        omega (arith, s)
    normal_size true (branch a b c) scope n =
        let x = normal_size false a scope n in
        let y = normal_size true b scope (n + binds a) in
        let z = normal_size true c scope (n + binds a + binds b) in
        omega (arith, x, y, z)
    normal_size false (branch a b c) scope n =
        let x = normal_size false a scope n in
        let y = normal_size false b scope (n + binds a) in
        let z = normal_size false c scope (n + binds a + binds b) in
        omega (arith, x, y, z)
    normal_size tail (sequence es) scope n = let s = parts_size tail es scope n in omega (arith, s)
    normal_size tail (from.bind site first es e) scope n =
        let inner = with_variables first (init_numbers es n) scope in
        let t = normal_size tail e inner (n + inits_bind es) in
        let s = inits_size es scope n (normal starts tail e inner (n + inits_bind es)) in
        omega (arith, s, t)
    normal_size tail (make_closure m) scope n =
        let f = finished_size tail (does.MakeClosure (closure_of starts scope m)) in
        omega (arith, f, sources_size scope m.fields)
    normal_size tail (fix_closures first ms e) scope n =
        let inner = with_variables first (numbers_for ms n) scope in
        let t = normal_size tail e inner (n + length ms) in
        omega (arith, t, members_size inner ms n, members_count inner ms n)
    normal_size tail (call site spread f es) scope n =
        let m = n + operands_bind es in
        let a : Application ℕ = record { site = site; spread = spread; operator = operand_at scope f m; operands = operands_at scope es n } in
        let last = bound_unless (is_simple f) m (normal starts false f scope (suc m)) (called tail a) in
        let s = part_size (is_simple f) (simple_operand scope f) m (normal starts false f scope (suc m)) (called tail a) (size f) (simple_size scope f)
        (omega (arith, normal_size false f scope (suc m))) in
        let t = operands_within es scope n last in
        omega (arith, s, t, called_size tail a, handed_size (operands_at scope es n), operands_length scope es n)
    normal_size tail (operation site which es) scope n =
        let o : Operation ℕ = does.Prim site which (operands_at scope es n) in
        let s = operands_within es scope n (finished tail (to.perform o)) in
        omega (arith, s, finished_size tail o)
    normal_size tail (new_cells cs e) scope n =
        let t = normal_size tail e (cells_scope cs n scope) (n + length cs) in
        let s = cells_size scope cs n (normal starts tail e (cells_scope cs n scope) (n + length cs)) in
        omega (arith, s, t)
    normal_size tail (cell_get v) scope n = let f = finished_size tail (does.CellGet (source_of scope v)) in omega (arith, f)
    normal_size tail (cell_set v e) scope n =
        let long = atoms_within (operand_at scope e n) in
        let s = value_size tail e scope n (does.CellSet (source_of scope v) (operand_at scope e n)) 1 (omega (arith, normal_size false e scope (suc n))) (omega (arith, long)) in
        omega (arith, s)

    parts_size : (tail : Bool) (es : Trees) (scope : Scope) (n : ℕ)
        → expression_work (normal_parts starts tail es scope n) ≤ weight_of (shapes.sequence (count es) (dropped es)) + sizes es + returned tail
    parts_size tail no_trees scope n = let f = finished_size tail (does.Operand (operand.Atom (atom.Constant Unspecified))) in omega (arith, f)
    parts_size tail (and_tree e no_trees) scope n = let s = normal_size tail e scope n in omega (arith, s)
    parts_size tail (and_tree e (and_tree e' es)) scope n =
        let x = normal_parts starts tail (and_tree e' es) scope (suc n + binds e) in
        let y = normal_parts starts tail (and_tree e' es) scope (n + binds e) in
        let p = parts_size tail (and_tree e' es) scope (suc n + binds e) in
        let q = parts_size tail (and_tree e' es) scope (n + binds e) in
        let a = normal_size false e scope (suc n) in
        let b = normal_size false e scope n in
        let s = step_size (ends_in_call e) n (normal starts false e scope (suc n)) (normal starts false e scope n) x y (size e) (count es + sizes (and_tree e' es) + returned tail)
        (omega (arith, a)) (omega (arith, b)) (omega (arith, p)) (omega (arith, q)) in
        omega (arith, s)

    operands_within : (es : Trees) (scope : Scope) (n : ℕ) (body : Expression)
        → expression_work (with_operands starts es scope n body) + operands_size (operands_at scope es n) ≤ expression_work body + sizes es + 2 * count es
    operands_within no_trees scope n body = omega arith
    operands_within (and_tree e es) scope n body =
        let rest = with_operands starts es scope (n + operand_binds e) body in
        let v = normal_size false e scope (suc n) in
        let s = part_size (is_simple e) (simple_operand scope e) n (normal starts false e scope (suc n)) rest (size e) (simple_size scope e) (omega (arith, v)) in
        let t = operands_within es scope (n + operand_binds e) body in
        omega (arith, s, t)

    inits_size : (es : Trees) (scope : Scope) (n : ℕ) (body : Expression) → expression_work (with_inits starts es scope n body) ≤ expression_work body + sizes es + count es
    inits_size no_trees scope n body = omega arith
    inits_size (and_tree e es) scope n body =
        let s = normal_size false e scope (suc n) in
        let t = inits_size es scope (suc n + binds e) body in
        omega (arith, s, t)

  -- ## Programs

  work_append : (xs ys : List Code) → codes_work (xs ++ ys) ≡ codes_work xs + codes_work ys
  work_append [] ys = omega arith
  work_append (x ∷ xs) ys = let h = work_append xs ys in omega (arith, h)

  procedures_size : (bs : List from.Body) → codes_work (map (procedure_code starts) bs) ≤ bodies_weight bs + sizes_bodies bs
  procedures_size [] = omega arith
  procedures_size (b ∷ bs) =
      let h = procedures_size bs in
      let k = normal_size true b.code (with_variables b.first (numbers 2 b.formals) []) (2 + b.formals) in
      omega (arith, h, k)

  abbrev bodies_size : List from.Body → ℕ
  bodies_size bs = bodies_weight bs + sizes_bodies bs

  bodies_split : (bs : List from.Body) (d : ℕ) → bodies_size (take d bs) + bodies_size (drop d bs) ≡ bodies_size bs
  bodies_split bs zero = omega arith
  bodies_split [] (suc d) = omega arith
  bodies_split (b ∷ bs) (suc d) = let h = bodies_split bs d in omega (arith, h)

  codes_size : (forms : Trees) (places : List ℕ) (bodies : List from.Body) (before : ℕ)
      → codes_work (normal_bodies starts before bodies forms places) ≤ bodies_size bodies + (count forms + sizes forms)
  codes_size no_trees places bodies before = let h = procedures_size bodies in omega (arith, h)
  codes_size (and_tree e es) [] bodies before =
      let h = codes_size es [] bodies before in
      let k = normal_size false e [] 2 in
      omega (arith, h, k)
  codes_size (and_tree e es) (p ∷ places) bodies before =
      let h = codes_size es places (drop (p - before) bodies) p in
      let k = normal_size false e [] 2 in
      let m = procedures_size (take (p - before) bodies) in
      omega (
        arith,
        h,
        k,
        m,
        bodies_split bodies (p - before),
        work_append (map (procedure_code starts) (take (p - before) bodies))
            (form_code starts e ∷ normal_bodies starts p (drop (p - before) bodies) es places),
      )

-- There is no more work in the bodies that normalizing makes than the program weighs.
pub program_weight : (p : from.Source) → codes_work (normal_source p).bodies ≤ weight p
program_weight p = let h = codes_size p.starts p.forms p.starts p.bodies 0 in omega (arith, h)
