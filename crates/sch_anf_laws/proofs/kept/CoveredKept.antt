-- The normal form of covered code is covered, and so are the bodies of its procedures.
use Rattle.std.proofs.Common.{◌≡◌, ℕ, zero, suc, ◌+◌, ◌-◌, Bool, true, false, cond, List, [], ◌∷◌, ◌++◌, length, map, take, drop, refl, Option, Some, None}
use Rattle.std.specs.Prelude.{◌&&◌, not, nat_le}
use Rattle.std.specs.List.{list_all}
use Rattle.std.proofs.lemmas.List.{length-map}
use Rattle.sch_word.specs.trees.Bindings.{numbers, with_variables}
use Rattle.sch_word.specs.trees.Shape.{max_library}
use Rattle.sch_word.specs.trees.Covered.{is_covered_primitive}
use Rattle.sch_word.proofs.facts.Booleans.{and_left, and_right, and_of}
use Rattle.sch_flat.specs.Covered as from
use Rattle.sch_flat.specs.Tree as flat
use Rattle.sch_flat.specs.Tree.{Tree, Trees, Body, Made, NewCell, Variable, constant, literal, variable, global, set_global, define, branch, sequence, bind, make_closure, fix_closures, call, operation, new_cells, cell_get, cell_set, no_trees, and_tree}
use Rattle.sch_control.specs.Covered.{is_covered_source, is_covered_member, is_covered_operation, is_covered_application, is_covered, is_covered_code, is_covered_program}
use Rattle.sch_control.specs.CoveredOperands.{is_covered_atom, is_covered_operand}
use Rattle.sch_control.specs.declared.operation.Application.{Application}
use Rattle.sch_control.specs.declared.operation.Atom.TheVariants as atom
use Rattle.sch_control.specs.declared.operation.Operand.TheVariants as operand
use Rattle.sch_control.specs.declared.operation.Operation.TheVariants as does
use Rattle.sch_control.specs.Tree as tree
use Rattle.sch_control.specs.Tree.{Expression, Code}
use Rattle.sch_anf_laws.specs.Normal.{Scope, is_simple, atom_of, atoms_of, simple_operand, source_of, unless_atom, ends_in_call, part_binds, binds, operands_bind, inits_bind, init_numbers, numbers_for, operand_at, operands_at, members_of, cell_operation, cells_scope, finished, called, bound_unless, normal, normal_parts, with_new_cells, with_operands, with_inits, procedure_code, form_code, normal_bodies, normal_source, new_label}
use Rattle.sch_anf_laws.proofs.DroppedAtoms.{dropped_as}

-- ## Operands

atom_covered : (scope : Scope) (e : Tree) → from.is_covered e ≡ true → is_covered_atom (atom_of scope e) ≡ true
atom_covered scope (constant c) h = h
atom_covered scope (literal k) h = h
atom_covered scope (variable (flat.bound x)) h = refl
atom_covered scope _ h = refl

atoms_covered : (scope : Scope) (es : Trees) → from.are_covered es ≡ true → list_all is_covered_atom (atoms_of scope es) ≡ true
atoms_covered scope no_trees h = refl
atoms_covered scope (and_tree e es) h =
    and_of (is_covered_atom (atom_of scope e)) (list_all is_covered_atom (atoms_of scope es)) (atom_covered scope e (and_left (from.is_covered e) (from.are_covered es) h))
    (atoms_covered scope es (and_right (from.is_covered e) (from.are_covered es) h))

simple_covered : (scope : Scope) (e : Tree) → from.is_covered e ≡ true → is_covered_operand (simple_operand scope e) ≡ true
simple_covered scope (operation site which es) h =
    and_of (is_covered_primitive which) (list_all is_covered_atom (atoms_of scope es)) refl (atoms_covered scope es h)
simple_covered scope (constant c) h = atom_covered scope (constant c) h
simple_covered scope (literal k) h = h
simple_covered scope (variable v) h = atom_covered scope (variable v) h
simple_covered scope (global g) h = refl
simple_covered scope (set_global g e) h = refl
simple_covered scope (define g e) h = refl
simple_covered scope (branch a b c) h = refl
simple_covered scope (sequence es) h = refl
simple_covered scope (bind site first es e) h = refl
simple_covered scope (make_closure m) h = refl
simple_covered scope (fix_closures first ms e) h = refl
simple_covered scope (call site spread f es) h = refl
simple_covered scope (new_cells cs e) h = refl
simple_covered scope (cell_get v) h = refl
simple_covered scope (cell_set v e) h = refl

operand_covered : (scope : Scope) (e : Tree) (n : ℕ) → from.is_covered e ≡ true → is_covered_operand (operand_at scope e n) ≡ true
operand_covered scope e n h = go (is_simple e)
  where
    go : (b : Bool) → is_covered_operand (cond b (simple_operand scope e) (operand.Atom (atom.Variable n))) ≡ true
    go true = simple_covered scope e h
    go false = refl

operands_covered : (scope : Scope) (es : Trees) (n : ℕ) → from.are_covered es ≡ true → list_all is_covered_operand (operands_at scope es n) ≡ true
operands_covered scope no_trees n h = refl
operands_covered scope (and_tree e es) n h =
    and_of (is_covered_operand (operand_at scope e n)) (list_all is_covered_operand (operands_at scope es (n + part_binds (is_simple e) (binds e))))
    (operand_covered scope e n (and_left (from.is_covered e) (from.are_covered es) h))
    (operands_covered scope es (n + part_binds (is_simple e) (binds e)) (and_right (from.is_covered e) (from.are_covered es) h))

-- ## What closures and cells take

source_covered : (scope : Scope) (v : Variable) → is_covered_source (source_of scope v) ≡ true
source_covered scope (flat.bound x) = refl
source_covered scope (flat.free k) = refl

sources_covered : (scope : Scope) (vs : List Variable) → list_all is_covered_source (map (source_of scope) vs) ≡ true
sources_covered scope [] = refl
sources_covered scope (v ∷ vs) = and_of (is_covered_source (source_of scope v)) (list_all is_covered_source (map (source_of scope) vs)) (source_covered scope v) (sources_covered scope vs)

members_covered : (starts : List ℕ) (scope : Scope) (ms : List Made) (n : ℕ) → list_all is_covered_member (members_of starts scope ms n) ≡ true
members_covered starts scope [] n = refl
members_covered starts scope (m ∷ ms) n =
    and_of (list_all is_covered_source (map (source_of scope) m.fields)) (list_all is_covered_member (members_of starts scope ms (suc n))) (sources_covered scope m.fields)
    (members_covered starts scope ms (suc n))

cell_covered : (scope : Scope) (content : Option Variable) → is_covered_operation (cell_operation scope content) ≡ true
cell_covered scope None = refl
cell_covered scope (Some v) = source_covered scope v

cells_covered : (scope : Scope) (cs : List NewCell) (n : ℕ) (body : Expression) → is_covered body ≡ true → is_covered (with_new_cells scope cs n body) ≡ true
cells_covered scope [] n body h = h
cells_covered scope (c ∷ cs) n body h =
    and_of (is_covered_operation (cell_operation scope c.content)) (is_covered (with_new_cells scope cs (suc n) body)) (cell_covered scope c.content) (cells_covered scope cs (suc n) body h)

-- ## Expressions

finished_covered : (tail : Bool) (e : Expression) → is_covered e ≡ true → is_covered (finished tail e) ≡ true
finished_covered true e h = h
finished_covered false e h = h

called_covered : (tail : Bool) (a : Application ℕ) → is_covered_application a ≡ true → is_covered (called tail a) ≡ true
called_covered true a h = h
called_covered false a h = h

bound_covered : (b : Bool) (n : ℕ) (x y : Expression) → is_covered x ≡ true → is_covered y ≡ true → is_covered (bound_unless b n x y) ≡ true
bound_covered true n x y h k = k
bound_covered false n x y h k = and_of (is_covered x) (is_covered y) h k

module _ (starts : List ℕ) where
  mutual
    pub covered_kept : (tail : Bool) (e : Tree) (scope : Scope) (n : ℕ) → from.is_covered e ≡ true → is_covered (normal starts tail e scope n) ≡ true
    covered_kept tail (constant c) scope n h = finished_covered tail _ h
    covered_kept tail (literal k) scope n h = finished_covered tail _ h
    covered_kept tail (variable (flat.bound x)) scope n h = finished_covered tail _ refl
    covered_kept tail (variable (flat.free k)) scope n h = finished_covered tail _ refl
    covered_kept tail (global g) scope n h = finished_covered tail _ refl
    covered_kept tail (set_global g e) scope n h =
        let after = tree.perform (does.SetGlobal g (operand_at scope e n)) in
        bound_covered (is_simple e) n (normal starts false e scope (suc n)) (finished tail after) (covered_kept false e scope (suc n) h) (finished_covered tail after (operand_covered scope e n h))
    covered_kept tail (define g e) scope n h =
        let after = tree.perform (does.SetGlobal g (operand_at scope e n)) in
        bound_covered (is_simple e) n (normal starts false e scope (suc n)) (finished tail after) (covered_kept false e scope (suc n) h) (finished_covered tail after (operand_covered scope e n h))
    covered_kept tail (branch a b c) scope n h =
        let h' = and_right (from.is_covered a) (from.is_covered b && from.is_covered c) h in
        let x = normal starts false a scope n in
        let y = normal starts tail b scope (n + binds a) in
        let z = normal starts tail c scope (n + binds a + binds b) in
        and_of (is_covered x) (is_covered y && is_covered z) (covered_kept false a scope n (and_left (from.is_covered a) (from.is_covered b && from.is_covered c) h))
        (and_of (is_covered y) (is_covered z) (covered_kept tail b scope (n + binds a) (and_left (from.is_covered b) (from.is_covered c) h'))
        (covered_kept tail c scope (n + binds a + binds b) (and_right (from.is_covered b) (from.is_covered c) h')))
    covered_kept tail (sequence es) scope n h = parts_covered tail es scope n h
    covered_kept tail (bind site first es e) scope n h =
        inits_covered es scope n (normal starts tail e (with_variables first (init_numbers es n) scope) (n + inits_bind es)) (and_left (from.are_covered es) (from.is_covered e) h)
        (covered_kept tail e (with_variables first (init_numbers es n) scope) (n + inits_bind es) (and_right (from.are_covered es) (from.is_covered e) h))
    covered_kept tail (make_closure m) scope n h = finished_covered tail _ (sources_covered scope m.fields)
    covered_kept tail (fix_closures first ms e) scope n h =
        let inner = with_variables first (numbers_for ms n) scope in
        and_of (list_all is_covered_member (members_of starts inner ms n)) (is_covered (normal starts tail e inner (n + length ms))) (members_covered starts inner ms n)
        (covered_kept tail e inner (n + length ms) h)
    covered_kept tail (call site spread f es) scope n h =
        let k = and_right (not spread) (from.is_covered f && from.are_covered es) h in
        let here = and_left (from.is_covered f) (from.are_covered es) k in
        let rest = and_right (from.is_covered f) (from.are_covered es) k in
        let m = n + operands_bind es in
        let a : Application ℕ = record { site = site; spread = spread; operator = operand_at scope f m; operands = operands_at scope es n } in
        let last = called tail a in
        let operands = and_of (is_covered_operand a.operator) (list_all is_covered_operand a.operands) (operand_covered scope f m here) (operands_covered scope es n rest) in
        let applied = and_of (not spread) (is_covered_operand a.operator && list_all is_covered_operand a.operands) (and_left (not spread) (from.is_covered f && from.are_covered es) h) operands in
        each_covered es scope n (bound_unless (is_simple f) m (normal starts false f scope (suc m)) last) rest
        (bound_covered (is_simple f) m (normal starts false f scope (suc m)) last (covered_kept false f scope (suc m) here) (called_covered tail a applied))
    covered_kept tail (operation site which es) scope n h =
        let after = tree.perform (does.Prim site which (operands_at scope es n)) in
        each_covered es scope n (finished tail after) h
        (finished_covered tail after (and_of (is_covered_primitive which) (list_all is_covered_operand (operands_at scope es n)) refl (operands_covered scope es n h)))
    covered_kept tail (new_cells cs e) scope n h =
        cells_covered scope cs n (normal starts tail e (cells_scope cs n scope) (n + length cs)) (covered_kept tail e (cells_scope cs n scope) (n + length cs) h)
    covered_kept tail (cell_get v) scope n h = finished_covered tail _ (source_covered scope v)
    covered_kept tail (cell_set v e) scope n h =
        let after = tree.perform (does.CellSet (source_of scope v) (operand_at scope e n)) in
        bound_covered (is_simple e) n (normal starts false e scope (suc n)) (finished tail after) (covered_kept false e scope (suc n) h)
        (finished_covered tail after (and_of (is_covered_source (source_of scope v)) (is_covered_operand (operand_at scope e n)) (source_covered scope v) (operand_covered scope e n h)))

    parts_covered : (tail : Bool) (es : Trees) (scope : Scope) (n : ℕ) → from.are_covered es ≡ true → is_covered (normal_parts starts tail es scope n) ≡ true
    parts_covered tail no_trees scope n h = finished_covered tail _ refl
    parts_covered tail (and_tree e no_trees) scope n h = covered_kept tail e scope n (and_left (from.is_covered e) true h)
    parts_covered tail (and_tree e (and_tree e' es)) scope n h =
        let here = and_left (from.is_covered e) (from.are_covered (and_tree e' es)) h in
        let rest = and_right (from.is_covered e) (from.are_covered (and_tree e' es)) h in
        go (ends_in_call e) (covered_kept false e scope n here) (covered_kept false e scope (suc n) here) (parts_covered tail (and_tree e' es) scope (suc n + binds e) rest)
        (parts_covered tail (and_tree e' es) scope (n + binds e) rest)
      where
        go : (b : Bool) → is_covered (normal starts false e scope n) ≡ true → is_covered (normal starts false e scope (suc n)) ≡ true
            → is_covered (normal_parts starts tail (and_tree e' es) scope (suc n + binds e)) ≡ true → is_covered (normal_parts starts tail (and_tree e' es) scope (n + binds e)) ≡ true
            → is_covered (cond b (tree.bind n (normal starts false e scope (suc n)) (normal_parts starts tail (and_tree e' es) scope (suc n + binds e)))
            (unless_atom (normal starts false e scope n) (normal_parts starts tail (and_tree e' es) scope (n + binds e)))) ≡ true
        go true x y z w = and_of (is_covered (normal starts false e scope (suc n))) (is_covered (normal_parts starts tail (and_tree e' es) scope (suc n + binds e))) y z
        go false x y z w =
            dropped_as (λ z. is_covered z ≡ true) (normal starts false e scope n) (normal_parts starts tail (and_tree e' es) scope (n + binds e)) (λ i. and_of (is_covered (normal starts false e scope n)) (is_covered (normal_parts starts tail (and_tree e' es) scope (n + binds e))) x w) (λ i. w)

    each_covered : (es : Trees) (scope : Scope) (n : ℕ) (body : Expression) → from.are_covered es ≡ true → is_covered body ≡ true → is_covered (with_operands starts es scope n body) ≡ true
    each_covered no_trees scope n body h k = k
    each_covered (and_tree e es) scope n body h k =
        bound_covered (is_simple e) n (normal starts false e scope (suc n)) (with_operands starts es scope (n + part_binds (is_simple e) (binds e)) body)
        (covered_kept false e scope (suc n) (and_left (from.is_covered e) (from.are_covered es) h))
        (each_covered es scope (n + part_binds (is_simple e) (binds e)) body (and_right (from.is_covered e) (from.are_covered es) h) k)

    inits_covered : (es : Trees) (scope : Scope) (n : ℕ) (body : Expression) → from.are_covered es ≡ true → is_covered body ≡ true → is_covered (with_inits starts es scope n body) ≡ true
    inits_covered no_trees scope n body h k = k
    inits_covered (and_tree e es) scope n body h k =
        and_of (is_covered (normal starts false e scope (suc n))) (is_covered (with_inits starts es scope (suc n + binds e) body))
        (covered_kept false e scope (suc n) (and_left (from.is_covered e) (from.are_covered es) h))
        (inits_covered es scope (suc n + binds e) body (and_right (from.is_covered e) (from.are_covered es) h) k)

  -- ## Bodies

  procedures_covered : (bs : List Body) → list_all from.is_covered_body bs ≡ true → list_all is_covered_code (map (procedure_code starts) bs) ≡ true
  procedures_covered [] h = refl
  procedures_covered (b ∷ bs) h =
      let scope = with_variables b.first (numbers 2 b.formals) [] in
      let here = and_left (from.is_covered_body b) (list_all from.is_covered_body bs) h in
      and_of (is_covered_code (procedure_code starts b)) (list_all is_covered_code (map (procedure_code starts) bs))
      (covered_kept true b.code scope (2 + b.formals) here)
      (procedures_covered bs (and_right (from.is_covered_body b) (list_all from.is_covered_body bs) h))

  taken_covered : (n : ℕ) (bs : List Body) → list_all from.is_covered_body bs ≡ true → list_all from.is_covered_body (take n bs) ≡ true
  taken_covered zero bs h = refl
  taken_covered (suc n) [] h = refl
  taken_covered (suc n) (b ∷ bs) h =
      and_of (from.is_covered_body b) (list_all from.is_covered_body (take n bs)) (and_left (from.is_covered_body b) (list_all from.is_covered_body bs) h)
      (taken_covered n bs (and_right (from.is_covered_body b) (list_all from.is_covered_body bs) h))

  dropped_covered : (n : ℕ) (bs : List Body) → list_all from.is_covered_body bs ≡ true → list_all from.is_covered_body (drop n bs) ≡ true
  dropped_covered zero bs h = h
  dropped_covered (suc n) [] h = refl
  dropped_covered (suc n) (b ∷ bs) h = dropped_covered n bs (and_right (from.is_covered_body b) (list_all from.is_covered_body bs) h)

  appended_covered : (xs ys : List Code) → list_all is_covered_code xs ≡ true → list_all is_covered_code ys ≡ true → list_all is_covered_code (xs ++ ys) ≡ true
  appended_covered [] ys h k = k
  appended_covered (x ∷ xs) ys h k =
      and_of (is_covered_code x) (list_all is_covered_code (xs ++ ys)) (and_left (is_covered_code x) (list_all is_covered_code xs) h)
      (appended_covered xs ys (and_right (is_covered_code x) (list_all is_covered_code xs) h) k)

  codes_covered : (forms : Trees) (places : List ℕ) (bodies : List Body) (before : ℕ) → list_all from.is_covered_body bodies ≡ true → from.are_covered forms ≡ true
      → list_all is_covered_code (normal_bodies starts before bodies forms places) ≡ true
  codes_covered no_trees places bodies before h k = procedures_covered bodies h
  codes_covered (and_tree e es) [] bodies before h k =
      and_of (is_covered (normal starts false e [] 2)) (list_all is_covered_code (normal_bodies starts before bodies es []))
      (covered_kept false e [] 2 (and_left (from.is_covered e) (from.are_covered es) k)) (codes_covered es [] bodies before h (and_right (from.is_covered e) (from.are_covered es) k))
  codes_covered (and_tree e es) (place ∷ places) bodies before h k =
      let rest = normal_bodies starts place (drop (place - before) bodies) es places in
      appended_covered (map (procedure_code starts) (take (place - before) bodies)) (form_code starts e ∷ rest)
      (procedures_covered (take (place - before) bodies) (taken_covered (place - before) bodies h))
      (and_of (is_covered (normal starts false e [] 2)) (list_all is_covered_code rest)
      (covered_kept false e [] 2 (and_left (from.is_covered e) (from.are_covered es) k))
      (codes_covered es places (drop (place - before) bodies) place (dropped_covered (place - before) bodies h) (and_right (from.is_covered e) (from.are_covered es) k)))

-- What normalizing makes of a covered program is covered.
pub program_covered : (p : flat.Source) → from.is_covered_program p ≡ true → is_covered_program (normal_source p) ≡ true
program_covered p h =
    let all = list_all from.is_covered_body p.bodies in
    let k = and_right (nat_le (length p.library) max_library) (all && from.are_covered p.forms) h in
    and_of (nat_le (length (map (new_label p.starts) p.library)) max_library) (list_all is_covered_code (normal_bodies p.starts 0 p.bodies p.forms p.starts))
    (rw (length-map p.library (new_label p.starts)) (and_left (nat_le (length p.library) max_library) (all && from.are_covered p.forms) h))
    (codes_covered p.starts p.forms p.starts p.bodies 0 (and_left all (from.are_covered p.forms) k) (and_right all (from.are_covered p.forms) k))
