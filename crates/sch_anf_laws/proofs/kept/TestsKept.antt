-- A normal form has the tests of the flat tree.
use Rattle.std.proofs.Common.{◌≡◌, ℕ, zero, suc, ◌+◌, ◌-◌, Bool, true, false, cond, List, [], ◌∷◌, ◌++◌, length, map, take, drop, refl, ap, ◌∙◌, arith}
use Rattle.sch_word.specs.trees.Shape as shapes
use Rattle.sch_word.specs.trees.Bindings.{numbers, with_variables}
use Rattle.sch_word.proofs.facts.Booleans.{and_left, and_right}
use Rattle.sch_flat.specs.Tree as flat
use Rattle.sch_flat.specs.Tree.{Tree, Trees, Body, NewCell, constant, literal, variable, global, set_global, define, branch, sequence, bind, make_closure, fix_closures, call, operation, new_cells, cell_get, cell_set, no_trees, and_tree}
use Rattle.sch_flat.specs.Measures.{over, over_each, over_bodies}
use Rattle.sch_flat.specs.Measures as measures
use Rattle.sch_control.specs.declared.operation.Operation.{Operation}
use Rattle.sch_control.specs.declared.operation.Operation.TheVariants as does
use Rattle.sch_control.specs.declared.operation.Application.{Application}
use Rattle.sch_control.specs.Tree as tree
use Rattle.sch_control.specs.Tree.{Expression, Code}
use Rattle.sch_control.specs.Valid.{only_reads}
use Rattle.sch_anf_laws.specs.Normal.{Scope, is_atom, are_atoms, is_simple, unless_atom, ends_in_call, part_binds, binds, operands_bind, inits_bind, init_numbers, finished, called, bound_unless, normal, normal_parts, with_operands, with_inits, with_new_cells, procedure_code, form_code, normal_bodies, normal_source}
use Rattle.sch_anf_laws.specs.Normal as normal
use Rattle.sch_control.specs.Sizes.{tests_in, tests_of}
use Rattle.sch_anf_laws.proofs.DroppedAtoms.{dropped_as, of_atom}

abbrev flat_tests : Tree → ℕ
flat_tests = over 0 (λ x y. x + y) shapes.tests_in

abbrev flat_tests_each : Trees → ℕ
flat_tests_each = over_each 0 (λ x y. x + y) shapes.tests_in

atom_none : (e : Tree) → is_atom e ≡ true → flat_tests e ≡ 0
atom_none (constant c) i = refl
atom_none (literal k) i = refl
atom_none (variable (flat.bound x)) i = refl
atom_none _ i = absurd (cc)

atoms_none : (es : Trees) → are_atoms es ≡ true → flat_tests_each es ≡ 0
atoms_none no_trees i = refl
atoms_none (and_tree e es) i = let h = atom_none e (and_left (is_atom e) (are_atoms es) i) in let k = atoms_none es (and_right (is_atom e) (are_atoms es) i) in omega (arith, h, k)

simple_none : (e : Tree) → is_simple e ≡ true → flat_tests e ≡ 0
simple_none (operation site which es) i = let h = atoms_none es (and_right (only_reads which) (are_atoms es) i) in omega (arith, h)
simple_none (constant c) i = refl
simple_none (literal k) i = refl
simple_none (variable (flat.bound x)) i = refl
simple_none _ i = absurd (cc)

finished_none : (tail : Bool) (o : Operation ℕ) → tests_in (finished tail (tree.perform o)) ≡ 0
finished_none true o = refl
finished_none false o = refl

called_none : (tail : Bool) (a : Application ℕ) → tests_in (called tail a) ≡ 0
called_none true a = refl
called_none false a = refl

unless_tests : (b : Bool) (e : Tree) (n : ℕ) (x y : Expression) → is_simple e ≡ b → tests_in x ≡ flat_tests e → tests_in (bound_unless b n x y) ≡ flat_tests e + tests_in y
unless_tests true e n x y i h = let k = simple_none e i in omega (arith, k)
unless_tests false e n x y i h = omega (arith, h)

cells_tests : (scope : Scope) (cs : List NewCell) (n : ℕ) (body : Expression) → tests_in (with_new_cells scope cs n body) ≡ tests_in body
cells_tests scope [] n body = refl
cells_tests scope (c ∷ cs) n body = let h = cells_tests scope cs (suc n) body in omega (arith, h)

module _ (starts : List ℕ) where
  value_tests : (tail : Bool) (e : Tree) (scope : Scope) (n : ℕ) (o : Operation ℕ) → tests_in (normal starts false e scope (suc n)) ≡ flat_tests e
      → tests_in (bound_unless (is_simple e) n (normal starts false e scope (suc n)) (finished tail (tree.perform o))) ≡ 0 + flat_tests e
  value_tests tail e scope n o h =
      let k = unless_tests (is_simple e) e n (normal starts false e scope (suc n)) (finished tail (tree.perform o)) refl h in omega (arith, k, finished_none tail o)

  mutual
    pub tests_kept : (tail : Bool) (e : Tree) (scope : Scope) (n : ℕ) → tests_in (normal starts tail e scope n) ≡ flat_tests e
    tests_kept tail (constant c) scope n = finished_none tail _
    tests_kept tail (literal k) scope n = finished_none tail _
    tests_kept tail (variable (flat.bound x)) scope n = finished_none tail _
    tests_kept tail (variable (flat.free k)) scope n = finished_none tail _
    tests_kept tail (global g) scope n = finished_none tail _
    tests_kept tail (set_global g e) scope n = value_tests tail e scope n _ (tests_kept false e scope (suc n))
    tests_kept tail (define g e) scope n = value_tests tail e scope n _ (tests_kept false e scope (suc n))
    tests_kept tail (branch x y z) scope n =
        let p = tests_kept false x scope n in
        let q = tests_kept tail y scope (n + binds x) in
        let r = tests_kept tail z scope (n + binds x + binds y) in
        omega (arith, p, q, r)
    tests_kept tail (sequence es) scope n = let h = parts_kept tail es scope n in omega (arith, h)
    tests_kept tail (bind site first es e) scope n =
        let p = inits_kept es scope n (normal starts tail e (with_variables first (init_numbers es n) scope) (n + inits_bind es)) in
        let q = tests_kept tail e (with_variables first (init_numbers es n) scope) (n + inits_bind es) in
        omega (arith, p, q)
    tests_kept tail (make_closure m) scope n = finished_none tail _
    tests_kept tail (fix_closures first ms e) scope n = let h = tests_kept tail e (with_variables first (normal.numbers_for ms n) scope) (n + length ms) in omega (arith, h)
    tests_kept tail (call site spread f es) scope n =
        let a : Application ℕ = record { site = site; spread = spread; operator = normal.operand_at scope f (n + operands_bind es); operands = normal.operands_at scope es n } in
        let p = operands_kept es scope n (bound_unless (is_simple f) (n + operands_bind es) (normal starts false f scope (suc (n + operands_bind es))) (called tail a)) in
        let q = unless_tests (is_simple f) f (n + operands_bind es) (normal starts false f scope (suc (n + operands_bind es))) (called tail a) refl
        (tests_kept false f scope (suc (n + operands_bind es))) in
        omega (arith, p, q, called_none tail a)
    tests_kept tail (operation site which es) scope n =
        let o : Operation ℕ = does.Prim site which (normal.operands_at scope es n) in
        let p = operands_kept es scope n (finished tail (tree.perform o)) in
        omega (arith, p, finished_none tail o)
    tests_kept tail (new_cells cs e) scope n =
        let h = tests_kept tail e (normal.cells_scope cs n scope) (n + length cs) in
        let k = cells_tests scope cs n (normal starts tail e (normal.cells_scope cs n scope) (n + length cs)) in
        omega (arith, h, k)
    tests_kept tail (cell_get v) scope n = finished_none tail _
    tests_kept tail (cell_set v e) scope n = value_tests tail e scope n _ (tests_kept false e scope (suc n))

    parts_kept : (tail : Bool) (es : Trees) (scope : Scope) (n : ℕ) → tests_in (normal_parts starts tail es scope n) ≡ flat_tests_each es
    parts_kept tail no_trees scope n = finished_none tail _
    parts_kept tail (and_tree e no_trees) scope n = let h = tests_kept tail e scope n in omega (arith, h)
    parts_kept tail (and_tree e (and_tree e' es)) scope n = go (ends_in_call e) (λ m. tests_kept false e scope m) (λ m. parts_kept tail (and_tree e' es) scope m)
      where
        go : (b : Bool) → ((m : ℕ) → tests_in (normal starts false e scope m) ≡ flat_tests e)
            → ((m : ℕ) → tests_in (normal_parts starts tail (and_tree e' es) scope m) ≡ flat_tests_each (and_tree e' es))
            → tests_in (cond b (tree.bind n (normal starts false e scope (suc n)) (normal_parts starts tail (and_tree e' es) scope (suc n + binds e)))
            (unless_atom (normal starts false e scope n) (normal_parts starts tail (and_tree e' es) scope (n + binds e)))) ≡ flat_tests_each (and_tree e (and_tree e' es))
        go true p q = ap (λ m. m + tests_in (normal_parts starts tail (and_tree e' es) scope (suc n + binds e))) (p (suc n)) ∙ ap (λ m. flat_tests e + m) (q (suc n + binds e))
        go false p q =
            let here = p n in
            let more = q (n + binds e) in
            dropped_as (λ z. tests_in z ≡ flat_tests_each (and_tree e (and_tree e' es))) (normal starts false e scope n) (normal_parts starts tail (and_tree e' es) scope (n + binds e))
            (λ i. omega (arith, here, more)) (λ i. let none = of_atom tests_in 0 (λ a. refl) (λ v k. refl) (normal starts false e scope n) i in omega (arith, none, here, more))

    operands_kept : (es : Trees) (scope : Scope) (n : ℕ) (body : Expression) → tests_in (with_operands starts es scope n body) ≡ flat_tests_each es + tests_in body
    operands_kept no_trees scope n body = omega arith
    operands_kept (and_tree e es) scope n body =
        let p = unless_tests (is_simple e) e n (normal starts false e scope (suc n)) (with_operands starts es scope (n + part_binds (is_simple e) (binds e)) body) refl
        (tests_kept false e scope (suc n)) in
        let q = operands_kept es scope (n + part_binds (is_simple e) (binds e)) body in
        omega (arith, p, q)

    inits_kept : (es : Trees) (scope : Scope) (n : ℕ) (body : Expression) → tests_in (with_inits starts es scope n body) ≡ flat_tests_each es + tests_in body
    inits_kept no_trees scope n body = omega arith
    inits_kept (and_tree e es) scope n body =
        let p = tests_kept false e scope (suc n) in
        let q = inits_kept es scope (suc n + binds e) body in
        omega (arith, p, q)

  -- ## Programs

  abbrev flat_tests_bodies : List Body → ℕ
  flat_tests_bodies = over_bodies 0 (λ x y. x + y) shapes.tests_in

  tests_append : (xs ys : List Code) → tests_of (xs ++ ys) ≡ tests_of xs + tests_of ys
  tests_append [] ys = omega arith
  tests_append (x ∷ xs) ys = let h = tests_append xs ys in omega (arith, h)

  procedures_kept : (bs : List Body) → tests_of (map (procedure_code starts) bs) ≡ flat_tests_bodies bs
  procedures_kept [] = refl
  procedures_kept (b ∷ bs) =
      let h = procedures_kept bs in
      let k = tests_kept true b.code (with_variables b.first (numbers 2 b.formals) []) (2 + b.formals) in
      omega (arith, h, k)

  bodies_split : (bs : List Body) (d : ℕ) → flat_tests_bodies (take d bs) + flat_tests_bodies (drop d bs) ≡ flat_tests_bodies bs
  bodies_split bs zero = omega arith
  bodies_split [] (suc d) = omega arith
  bodies_split (b ∷ bs) (suc d) = let h = bodies_split bs d in omega (arith, h)

  codes_kept : (forms : Trees) (places : List ℕ) (bodies : List Body) (before : ℕ) → tests_of (normal_bodies starts before bodies forms places) ≡ flat_tests_bodies bodies + flat_tests_each forms
  codes_kept no_trees places bodies before = let h = procedures_kept bodies in omega (arith, h)
  codes_kept (and_tree e es) [] bodies before =
      let h = codes_kept es [] bodies before in
      let k = tests_kept false e [] 2 in
      omega (arith, h, k)
  codes_kept (and_tree e es) (p ∷ places) bodies before =
      let h = codes_kept es places (drop (p - before) bodies) p in
      let k = tests_kept false e [] 2 in
      let m = procedures_kept (take (p - before) bodies) in
      omega (
        arith,
        h,
        k,
        m,
        bodies_split bodies (p - before),
        tests_append (map (procedure_code starts) (take (p - before) bodies))
            (form_code starts e ∷ normal_bodies starts p (drop (p - before) bodies) es places),
      )

-- What normalizing makes of a program has as many tests as the program.
pub program_tests : (p : flat.Source) → tests_of (normal_source p).bodies ≡ measures.tests_of p
program_tests p = codes_kept p.starts p.forms p.starts p.bodies 0
