-- The parts of a normal form are well shaped, name what there is, and read fields that are there.
use Rattle.std.proofs.Common.{◌≡◌, ℕ, suc, ◌+◌, Bool, true, false, cond, List, [], ◌∷◌, ◌++◌, length, map, Option, Some, None, refl, sym, ap, ◌∙◌, subst}
use Rattle.std.specs.Prelude.{slice_get, nat_eq, nat_le, nat_lt, not, ◌&&◌, ◌||◌}
use Rattle.std.specs.List.{list_all}
use Rattle.std.proofs.lemmas.Bool.{eq-eqb, eqb-true}
use Rattle.std.proofs.lemmas.List.{length-map}
use Rattle.sch_word.specs.declared.primitive.Primitive.{Primitive}
use Rattle.sch_word.specs.declared.constant.Const.TheVariants.{Unspecified}
use Rattle.sch_word.specs.trees.Bindings.{numbers, scope_with, with_variables}
use Rattle.sch_word.specs.values.Literals.{constant_known}
use Rattle.sch_word.specs.values.Primitives.{operands_of}
use Rattle.sch_word.specs.values.Values.{is_constant}
use Rattle.sch_word.specs.trees.Shape as shapes
use Rattle.sch_word.specs.trees.Shape.{Shape, names_known, constant_in_range, well_formed, fits, max_operands, max_variables, max_free_variables}
use Rattle.sch_word.proofs.facts.Booleans.{and_left, and_right, and_of}
use Rattle.sch_flat.specs.Tree as flat
use Rattle.sch_flat.specs.Tree.{Tree, Trees, Variable, Body, Made, NewCell, constant, literal, variable, global, set_global, define, branch, sequence, bind, make_closure, fix_closures, call, operation, new_cells, cell_get, cell_set, no_trees, and_tree, count}
use Rattle.sch_flat.specs.Measures.{made_shapes, dropped, over, over_each, over_bodies, over_source}
use Rattle.sch_flat.specs.Valid.{is_known, is_content, is_made, all_new, cell_variables, cells_scope, scoped, scoped_each, has_fields}
use Rattle.sch_control.specs.declared.body.Entry.{Entry}
use Rattle.sch_control.specs.declared.operation.Atom.{Atom}
use Rattle.sch_control.specs.declared.operation.Atom.TheVariants as atom
use Rattle.sch_control.specs.declared.operation.Operand.{Operand}
use Rattle.sch_control.specs.declared.operation.Operand.TheVariants as op
use Rattle.sch_control.specs.declared.operation.Member.{Member}
use Rattle.sch_control.specs.declared.operation.Operation.{Operation}
use Rattle.sch_control.specs.declared.operation.Operation.TheVariants as does
use Rattle.sch_control.specs.declared.operation.Application.{Application}
use Rattle.sch_control.specs.AtomsAndSites.{operand_atoms, operands_atoms, source_atom, source_atoms, member_atoms}
use Rattle.sch_control.specs.Tree as tree
use Rattle.sch_control.specs.Tree.{Expression}
use Rattle.sch_control.specs.Valid.{Tests, each_part, only_reads, operand_shaped, operands_shaped, closure_shaped, members_shaped, operation_shaped, application_shaped, group_shaped, source_field, closure_fields, operation_field, group_fields, Names, atom_known, enters, closure_known, members_known, atoms_known, operation_known, application_known, group_known}
use Rattle.sch_anf_laws.specs.Normal.{Scope, number_of, source_of, is_atom, are_atoms, is_simple, atom_of, atoms_of, simple_operand, operand_at, operands_at, operand_binds, unless_atom, ends_in_call, part_binds, binds, operands_bind, inits_bind, init_numbers, numbers_for, new_label, finished, called, bound_unless, normal, normal_parts, with_operands, with_inits, with_new_cells, cell_operation, closure_of, members_of}
use Rattle.sch_anf_laws.specs.Normal as normal
use Rattle.sch_anf_laws.proofs.DroppedAtoms.{dropped_as}

-- ## Joined tests

pair : (x y p q r t : Bool) → (x ≡ true → p ≡ true → r ≡ true) → (y ≡ true → q ≡ true → t ≡ true) → (x && y) ≡ true → (p && q) ≡ true → (r && t) ≡ true
pair x y p q r t a b h k = and_of r t (a (and_left x y h) (and_left p q k)) (b (and_right x y h) (and_right p q k))

module _ (f g : Shape → Bool) where
  abbrev joint : Shape → Bool
  joint s = f s && g s

  abbrev over_f : Tree → Bool
  over_f = over true (λ x y. x && y) f

  abbrev over_g : Tree → Bool
  over_g = over true (λ x y. x && y) g

  abbrev over_both : Tree → Bool
  over_both = over true (λ x y. x && y) joint

  abbrev each_f : Trees → Bool
  each_f = over_each true (λ x y. x && y) f

  abbrev each_g : Trees → Bool
  each_g = over_each true (λ x y. x && y) g

  abbrev each_both : Trees → Bool
  each_both = over_each true (λ x y. x && y) joint

  step : (s : Shape) (y q r : Bool) → (y ≡ true → q ≡ true → r ≡ true) → (f s && y) ≡ true → (g s && q) ≡ true → ((f s && g s) && r) ≡ true
  step s y q r a h k = pair (f s) y (g s) q (f s && g s) r (λ h k. and_of (f s) (g s) h k) a h k

  mutual
    joint_over : (e : Tree) → over_f e ≡ true → over_g e ≡ true → over_both e ≡ true
    joint_over (constant c) h k = and_of (f (shapes.constant c)) (g (shapes.constant c)) h k
    joint_over (literal n) h k = and_of _ _ h k
    joint_over (variable (flat.bound x)) h k = and_of _ _ h k
    joint_over (variable (flat.free x)) h k = and_of _ _ h k
    joint_over (global n) h k = and_of _ _ h k
    joint_over (set_global n e) h k = step _ (over_f e) (over_g e) (over_both e) (joint_over e) h k
    joint_over (define n e) h k = step _ (over_f e) (over_g e) (over_both e) (joint_over e) h k
    joint_over (branch x y z) h k =
        step _ _ _ _ (λ h k. pair (over_f x) (over_f y && over_f z) (over_g x) (over_g y && over_g z) (over_both x) (over_both y && over_both z) (joint_over x)
        (λ h k. pair (over_f y) (over_f z) (over_g y) (over_g z) (over_both y) (over_both z) (joint_over y) (joint_over z) h k) h k) h k
    joint_over (sequence es) h k = step _ (each_f es) (each_g es) (each_both es) (joint_each es) h k
    joint_over (bind site first es e) h k = step _ _ _ _ (λ h k. pair (each_f es) (over_f e) (each_g es) (over_g e) (each_both es) (over_both e) (joint_each es) (joint_over e) h k) h k
    joint_over (make_closure m) h k = and_of _ _ h k
    joint_over (fix_closures first ms e) h k = step _ (over_f e) (over_g e) (over_both e) (joint_over e) h k
    joint_over (call site spread t es) h k = step _ _ _ _ (λ h k. pair (over_f t) (each_f es) (over_g t) (each_g es) (over_both t) (each_both es) (joint_over t) (joint_each es) h k) h k
    joint_over (operation site which es) h k = step _ (each_f es) (each_g es) (each_both es) (joint_each es) h k
    joint_over (new_cells cs e) h k = step _ (over_f e) (over_g e) (over_both e) (joint_over e) h k
    joint_over (cell_get v) h k = and_of _ _ h k
    joint_over (cell_set v e) h k = step _ (over_f e) (over_g e) (over_both e) (joint_over e) h k

    joint_each : (es : Trees) → each_f es ≡ true → each_g es ≡ true → each_both es ≡ true
    joint_each no_trees h k = refl
    joint_each (and_tree e es) h k = pair (over_f e) (each_f es) (over_g e) (each_g es) (over_both e) (each_both es) (joint_over e) (joint_each es) h k

  joint_bodies : (bs : List Body) → over_bodies true (λ x y. x && y) f bs ≡ true → over_bodies true (λ x y. x && y) g bs ≡ true → over_bodies true (λ x y. x && y) joint bs ≡ true
  joint_bodies [] h k = refl
  joint_bodies (b ∷ bs) h k = pair (over_f b.code) (over_bodies true (λ x y. x && y) f bs) (over_g b.code) (over_bodies true (λ x y. x && y) g bs) _ _ (joint_over b.code) (joint_bodies bs) h k

  pub joint_source : (p : flat.Source) → over_source true (λ x y. x && y) f p ≡ true → over_source true (λ x y. x && y) g p ≡ true → over_source true (λ x y. x && y) joint p ≡ true
  joint_source p h k = pair (over_bodies true (λ x y. x && y) f p.bodies) (each_f p.forms) (over_bodies true (λ x y. x && y) g p.bodies) (each_g p.forms) _ _ (joint_bodies p.bodies)
      (joint_each p.forms) h k

-- ## Tests of parts

-- what passes one test passes another
pub each_part_also : (t u : Tests) → ((o : Operation ℕ) → t.operation o ≡ true → u.operation o ≡ true) → ((a : Application ℕ) → t.application a ≡ true → u.application a ≡ true)
    → ((ms : List (Member ℕ)) → t.group ms ≡ true → u.group ms ≡ true)
    → (x : Expression) → each_part t x ≡ true → each_part u x ≡ true
each_part_also t u p q r (tree.perform o) h = p o h
each_part_also t u p q r (tree.bind n x y) h = and_of _ _ (each_part_also t u p q r x (and_left (each_part t x) (each_part t y) h))
    (each_part_also t u p q r y (and_right (each_part t x) (each_part t y) h))
each_part_also t u p q r (tree.sequence x y) h = and_of _ _ (each_part_also t u p q r x (and_left (each_part t x) (each_part t y) h))
    (each_part_also t u p q r y (and_right (each_part t x) (each_part t y) h))
each_part_also t u p q r (tree.branch x y z) h =
    let k = and_right (each_part t x) (each_part t y && each_part t z) h in
    and_of _ _ (each_part_also t u p q r x (and_left (each_part t x) (each_part t y && each_part t z) h))
    (and_of _ _ (each_part_also t u p q r y (and_left (each_part t y) (each_part t z) k)) (each_part_also t u p q r z (and_right (each_part t y) (each_part t z) k)))
each_part_also t u p q r (tree.fix ms x) h = and_of _ _ (r ms (and_left (t.group ms) (each_part t x) h)) (each_part_also t u p q r x (and_right (t.group ms) (each_part t x) h))
each_part_also t u p q r (tree.call a restores) h = q a h
each_part_also t u p q r (tree.tail_call a) h = q a h
each_part_also t u p q r (tree.return x) h = each_part_also t u p q r x h
each_part_also t u p q r (tree.end x) h = each_part_also t u p q r x h
each_part_also t u p q r (tree.save saves x) h = each_part_also t u p q r x h

-- a part is shaped well, reads fields that are there, and names what there is
abbrev pub all_tests : (fields : ℕ) → Names → Tests
all_tests fields names = record {
  operation = λ o. operation_shaped o && (operation_field fields o && operation_known names o);
  application = λ a. application_shaped a && application_known names a;
  group = λ ms. group_shaped ms && (group_fields fields ms && group_known names ms);
}

known_append : (names : Names) (xs ys : List (Atom ℕ)) → atoms_known names xs ≡ true → atoms_known names ys ≡ true → atoms_known names (xs ++ ys) ≡ true
known_append names [] ys h k = k
known_append names (x ∷ xs) ys h k =
    and_of (atom_known names.symbols names.literals x) (atoms_known names (xs ++ ys)) (and_left (atom_known names.symbols names.literals x) (atoms_known names xs) h)
    (known_append names xs ys (and_right (atom_known names.symbols names.literals x) (atoms_known names xs) h) k)

-- the tests of a node, all together
abbrev pub node_good : Names → Shape → Bool
node_good names s = (names_known names.symbols names.literals names.globals s && constant_in_range s) && (well_formed s && fits max_variables s)

abbrev pub entry_for : Body → Entry
entry_for b = record { formals = b.formals; rest = b.rest; fields = b.fields }

module _ (starts : List ℕ) (bodies : List Body) (names : Names)
    (few_fields : (label : ℕ) (b : Body) → slice_get bodies label ≡ Some b → nat_le b.fields max_free_variables ≡ true)
    (entry_there : (label : ℕ) (b : Body) → slice_get bodies label ≡ Some b → slice_get names.entries (new_label starts label) ≡ Some (Some (entry_for b))) (fields : ℕ) where
  abbrev pub good : Tree → Bool
  good = over true (λ x y. x && y) (node_good names)

  abbrev good_each : Trees → Bool
  good_each = over_each true (λ x y. x && y) (node_good names)

  abbrev passes : Expression → Type 0
  passes x = each_part (all_tests fields names) x ≡ true

  -- ## Operands

  atom_good : (scope : Scope) (e : Tree) → is_atom e ≡ true → good e ≡ true → atom_known names.symbols names.literals (atom_of scope e) ≡ true
  atom_good scope (constant c) i h = and_left (constant_known names.symbols c && is_constant c) _ h
  atom_good scope (literal k) i h = and_left (nat_lt k names.literals) _ (and_left (nat_lt k names.literals && true) _ h)
  atom_good scope (variable (flat.bound x)) i h = refl
  atom_good scope _ i h = absurd (cc)

  atoms_good : (scope : Scope) (es : Trees) → are_atoms es ≡ true → good_each es ≡ true → (atoms_known names (atoms_of scope es) ≡ true) × (length (atoms_of scope es) ≡ count es)
  atoms_good scope no_trees i h = (refl, refl)
  atoms_good scope (and_tree e es) i h =
      let more = atoms_good scope es (and_right (is_atom e) (are_atoms es) i) (and_right (good e) (good_each es) h) in
      (and_of _ _ (atom_good scope e (and_left (is_atom e) (are_atoms es) i) (and_left (good e) (good_each es) h)) more.0, ap suc more.1)

  abbrev OperandGood : Operand ℕ → Type 0
  OperandGood x = (operand_shaped x ≡ true) × (atoms_known names (operand_atoms x) ≡ true)

  simple_good : (scope : Scope) (e : Tree) → is_simple e ≡ true → good e ≡ true → OperandGood (simple_operand scope e)
  simple_good scope (operation site which es) i h =
      let here = and_left (node_good names (shapes.operation site which (count es))) (good_each es) h in
      let arity = and_left (nat_eq (count es) (operands_of which)) (nat_le (count es) max_operands) (and_right true (nat_eq (count es) (operands_of which) && nat_le (count es) max_operands) here) in
      let atoms = atoms_good scope es (and_right (only_reads which) (are_atoms es) i) (and_right (node_good names (shapes.operation site which (count es))) (good_each es) h) in
      (and_of _ _ (and_left (only_reads which) (are_atoms es) i) (subst (λ m. nat_eq m (operands_of which) ≡ true) (sym atoms.1) arity), atoms.0)
  simple_good scope (constant c) i h = (refl, and_of (atom_known names.symbols names.literals (atom_of scope (constant c))) true (atom_good scope (constant c) refl h) refl)
  simple_good scope (literal k) i h = (refl, and_of (atom_known names.symbols names.literals (atom_of scope (literal k))) true (atom_good scope (literal k) refl h) refl)
  simple_good scope (variable (flat.bound x)) i h = (refl, refl)
  simple_good scope _ i h = absurd (cc)

  operand_good : (b : Bool) (scope : Scope) (e : Tree) (n : ℕ) → is_simple e ≡ b → good e ≡ true → OperandGood (cond b (simple_operand scope e) (op.Atom (atom.Variable n)))
  operand_good true scope e n i h = simple_good scope e i h
  operand_good false scope e n i h = (refl, refl)

  operands_good : (scope : Scope) (es : Trees) (n : ℕ) → good_each es ≡ true
      → (operands_shaped (operands_at scope es n) ≡ true) × (atoms_known names (operands_atoms (operands_at scope es n)) ≡ true) × (length (operands_at scope es n) ≡ count es)
  operands_good scope no_trees n h = (refl, refl, refl)
  operands_good scope (and_tree e es) n h =
      let here = operand_good (is_simple e) scope e n refl (and_left (good e) (good_each es) h) in
      let more = operands_good scope es (n + operand_binds e) (and_right (good e) (good_each es) h) in (
        and_of (operand_shaped (operand_at scope e n)) _ here.0 more.0,
        known_append names (operand_atoms (operand_at scope e n)) (operands_atoms (operands_at scope es (n + operand_binds e))) here.1 more.1,
        ap suc more.2,
      )

  -- ## Closures

  source_good : (scope : Scope) (known : List ℕ) (v : Variable) → is_known known fields v ≡ true
      → (source_field fields (source_of scope v) ≡ true) × (atom_known names.symbols names.literals (source_atom (source_of scope v)) ≡ true)
  source_good scope known (flat.bound x) i = (refl, refl)
  source_good scope known (flat.free k) i = (i, refl)

  sources_good : (scope : Scope) (known : List ℕ) (vs : List Variable) → list_all (is_known known fields) vs ≡ true
      → (list_all (source_field fields) (map (source_of scope) vs) ≡ true) × (atoms_known names (source_atoms (map (source_of scope) vs)) ≡ true)
  sources_good scope known [] i = (refl, refl)
  sources_good scope known (v ∷ vs) i =
      let here = source_good scope known v (and_left (is_known known fields v) (list_all (is_known known fields) vs) i) in
      let more = sources_good scope known vs (and_right (is_known known fields v) (list_all (is_known known fields) vs) i) in
      (and_of (source_field fields (source_of scope v)) _ here.0 more.0, and_of (atom_known names.symbols names.literals (source_atom (source_of scope v))) _ here.1 more.1)

  body_there : (o : Option Body) (m : Made) → slice_get bodies m.label ≡ o → has_fields o (length m.fields) ≡ true → (b : Body) × (slice_get bodies m.label ≡ Some b) × (length m.fields ≡ b.fields)
  body_there None m e h = absurd (cc)
  body_there (Some b) m e h = (b, e, eqb-true (length m.fields) b.fields h)

  closure_good : (scope : Scope) (known : List ℕ) (m : Made) → is_made bodies known fields m ≡ true
      → (closure_shaped (closure_of starts scope m) ≡ true) × (closure_known names.entries (closure_of starts scope m) ≡ true)
  closure_good scope known m i =
      let b = body_there (slice_get bodies m.label) m refl (and_right (list_all (is_known known fields) m.fields) (has_fields (slice_get bodies m.label) (length m.fields)) i) in
      let long : length (map (source_of scope) m.fields) ≡ b.0.fields = length-map m.fields (source_of scope) ∙ b.2 in (
        subst (λ x. nat_le x max_free_variables ≡ true) (sym long) (few_fields m.label b.0 b.1),
        subst (λ (o : Option (Option Entry)). enters o (length (map (source_of scope) m.fields)) ≡ true) (sym (entry_there m.label b.0 b.1))
            (eq-eqb b.0.fields (length (map (source_of scope) m.fields)) (sym long)),
      )

  members_good : (scope : Scope) (known : List ℕ) (ms : List Made) (n : ℕ) → list_all (is_made bodies known fields) ms ≡ true
      → (members_shaped (members_of starts scope ms n) ≡ true) × (group_fields fields (members_of starts scope ms n) ≡ true)
      × (atoms_known names (member_atoms (members_of starts scope ms n)) ≡ true) × (members_known names.entries (members_of starts scope ms n) ≡ true)
      × (length (members_of starts scope ms n) ≡ length ms)
  members_good scope known [] n i = (refl, refl, refl, refl, refl)
  members_good scope known (m ∷ ms) n i =
      let made = and_left (is_made bodies known fields m) (list_all (is_made bodies known fields) ms) i in
      let here = closure_good scope known m made in
      let fs = sources_good scope known m.fields (and_left (list_all (is_known known fields) m.fields) (has_fields (slice_get bodies m.label) (length m.fields)) made) in
      let more = members_good scope known ms (suc n) (and_right (is_made bodies known fields m) (list_all (is_made bodies known fields) ms) i) in (
        and_of (closure_shaped (closure_of starts scope m)) _ here.0 more.0,
        and_of (closure_fields fields (closure_of starts scope m)) _ fs.0 more.1,
        known_append names (source_atoms (map (source_of scope) m.fields)) (member_atoms (members_of starts scope ms (suc n))) fs.1 more.2,
        and_of (closure_known names.entries (closure_of starts scope m)) _ here.1 more.3,
        ap suc more.4,
      )

  -- ## Trees

  finished_passes : (tail : Bool) (o : Operation ℕ) → (all_tests fields names).operation o ≡ true → passes (finished tail (tree.perform o))
  finished_passes true o h = h
  finished_passes false o h = h

  called_passes : (tail : Bool) (a : Application ℕ) → (all_tests fields names).application a ≡ true → passes (called tail a)
  called_passes true a h = h
  called_passes false a h = h

  unless_passes : (b : Bool) (n : ℕ) (x y : Expression) → passes x → passes y → passes (bound_unless b n x y)
  unless_passes true n x y h k = k
  unless_passes false n x y h k = and_of (each_part (all_tests fields names) x) (each_part (all_tests fields names) y) h k

  simple_operation : (tail : Bool) (x : Operand ℕ) → OperandGood x → passes (finished tail (tree.perform (does.Operand x)))
  simple_operation tail x h = finished_passes tail (does.Operand x) (and_of (operand_shaped x) _ h.0 (and_of (atoms_known names (operand_atoms x)) true h.1 refl))

  set_passes : (tail : Bool) (g : ℕ) (scope : Scope) (e : Tree) (n : ℕ) → nat_lt g names.globals ≡ true → good e ≡ true
      → passes (finished tail (tree.perform (does.SetGlobal g (operand_at scope e n))))
  set_passes tail g scope e n l h =
      let x = operand_good (is_simple e) scope e n refl h in
      finished_passes tail (does.SetGlobal g (operand_at scope e n))
      (and_of (operand_shaped (operand_at scope e n)) _ x.0 (and_of (atoms_known names (operand_atoms (operand_at scope e n))) _ x.1 (and_of (nat_lt g names.globals) true l refl)))

  cells_passes : (scope : Scope) (known : List ℕ) (cs : List NewCell) (n : ℕ) (body : Expression) → list_all (λ c. is_content known fields c.content) cs ≡ true → passes body
      → passes (with_new_cells scope cs n body)
  cells_passes scope known [] n body i h = h
  cells_passes scope known (c ∷ cs) n body i h =
      and_of ((all_tests fields names).operation (cell_operation scope c.content)) _
      (content c.content (and_left (is_content known fields c.content) (list_all (λ c. is_content known fields c.content) cs) i))
      (cells_passes scope known cs (suc n) body (and_right (is_content known fields c.content) (list_all (λ c. is_content known fields c.content) cs) i) h)
    where
      content : (o : Option Variable) → is_content known fields o ≡ true → (all_tests fields names).operation (cell_operation scope o) ≡ true
      content None i = refl
      content (Some v) i = let x = source_good scope known v i in rw (x.0, x.1) refl

  -- a value that is set, bound first where it is not simple
  abbrev Claim : Tree → Type 0
  Claim e = (tail : Bool) (known : List ℕ) (scope : Scope) (n : ℕ) → scoped bodies e known fields ≡ true → good e ≡ true → passes (normal starts tail e scope n)

  here_good : (s : Shape) (x : Bool) → (node_good names s && x) ≡ true → node_good names s ≡ true
  here_good s x h = and_left (node_good names s) x h

  named_of : (s : Shape) → node_good names s ≡ true → names_known names.symbols names.literals names.globals s ≡ true
  named_of s h = and_left (names_known names.symbols names.literals names.globals s) (constant_in_range s)
      (and_left (names_known names.symbols names.literals names.globals s && constant_in_range s) (well_formed s && fits max_variables s) h)

  formed_of : (s : Shape) → node_good names s ≡ true → well_formed s ≡ true
  formed_of s h = and_left (well_formed s) (fits max_variables s)
      (and_right (names_known names.symbols names.literals names.globals s && constant_in_range s) (well_formed s && fits max_variables s) h)

  fits_of : (s : Shape) → node_good names s ≡ true → fits max_variables s ≡ true
  fits_of s h = and_right (well_formed s) (fits max_variables s) (and_right (names_known names.symbols names.literals names.globals s && constant_in_range s) (well_formed s && fits max_variables s) h)

  call_good : (site : ℕ) (spread tail : Bool) (scope : Scope) (f : Tree) (es : Trees) (n x : ℕ) → node_good names (shapes.call site (count es) spread) ≡ true → good f ≡ true → good_each es ≡ true
      → passes (called tail (record { site = site; spread = spread; operator = operand_at scope f x; operands = operands_at scope es n }))
  call_good site spread tail scope f es n x h hf hs =
      let operator = operand_good (is_simple f) scope f x refl hf in
      let others = operands_good scope es n hs in
      called_passes tail (record { site = site; spread = spread; operator = operand_at scope f x; operands = operands_at scope es n })
      (and_of _ _
      (and_of (nat_le (length (operands_at scope es n)) max_operands) _ (subst (λ m. nat_le m max_operands ≡ true) (sym others.2) (fits_of (shapes.call site (count es) spread) h))
      (and_of (not spread || nat_le 1 (length (operands_at scope es n))) _ (spread_good spread (formed_of (shapes.call site (count es) spread) h))
      (and_of (operand_shaped (operand_at scope f x)) _ operator.0 others.0)))
      (known_append names (operand_atoms (operand_at scope f x)) (operands_atoms (operands_at scope es n)) operator.1 others.1))
    where
      spread_good : (spread : Bool) → well_formed (shapes.call site (count es) spread) ≡ true → (not spread || nat_le 1 (length (operands_at scope es n))) ≡ true
      spread_good true h = subst (λ m. nat_le 1 m ≡ true) (sym (operands_good scope es n hs).2) h
      spread_good false h = refl

  prim_good : (site : ℕ) (which : Primitive) (tail : Bool) (scope : Scope) (es : Trees) (n : ℕ) → node_good names (shapes.operation site which (count es)) ≡ true → good_each es ≡ true
      → passes (finished tail (tree.perform (does.Prim site which (operands_at scope es n))))
  prim_good site which tail scope es n h hs =
      let others = operands_good scope es n hs in
      let arity : nat_eq (length (operands_at scope es n)) (operands_of which) ≡ true =
      subst (λ m. nat_eq m (operands_of which) ≡ true) (sym others.2) (formed_of (shapes.operation site which (count es)) h) in
      finished_passes tail (does.Prim site which (operands_at scope es n)) (rw (arity, others.0, others.1) refl)

  cell_set_good : (tail : Bool) (scope : Scope) (known : List ℕ) (v : Variable) (e : Tree) (n : ℕ) → is_known known fields v ≡ true → good e ≡ true
      → passes (finished tail (tree.perform (does.CellSet (source_of scope v) (operand_at scope e n))))
  cell_set_good tail scope known v e n i h =
      let x = operand_good (is_simple e) scope e n refl h in
      let c = source_good scope known v i in
      finished_passes tail (does.CellSet (source_of scope v) (operand_at scope e n)) (rw (x.0, c.0, c.1, x.1) refl)

  cell_get_good : (tail : Bool) (scope : Scope) (known : List ℕ) (v : Variable) → is_known known fields v ≡ true → passes (finished tail (tree.perform (does.CellGet (source_of scope v))))
  cell_get_good tail scope known v i = let c = source_good scope known v i in finished_passes tail (does.CellGet (source_of scope v)) (rw (c.0, c.1) refl)

  closure_passes : (tail : Bool) (scope : Scope) (known : List ℕ) (m : Made) → is_made bodies known fields m ≡ true
      → passes (finished tail (tree.perform (does.MakeClosure (closure_of starts scope m))))
  closure_passes tail scope known m i =
      let c = closure_good scope known m i in
      let fs = sources_good scope known m.fields (and_left (list_all (is_known known fields) m.fields) (has_fields (slice_get bodies m.label) (length m.fields)) i) in
      finished_passes tail (does.MakeClosure (closure_of starts scope m)) (rw (c.0, fs.0, fs.1, c.1) refl)

  group_good : (scope : Scope) (known : List ℕ) (ms : List Made) (n : ℕ) → list_all (is_made bodies known fields) ms ≡ true → nat_le (length ms) max_operands ≡ true
      → (all_tests fields names).group (members_of starts scope ms n) ≡ true
  group_good scope known ms n i l =
      let c = members_good scope known ms n i in
      let few : nat_le (length (members_of starts scope ms n)) max_operands ≡ true = subst (λ m. nat_le m max_operands ≡ true) (sym c.4) l in
      rw (few, c.0, c.1, c.2, c.3) refl

  abbrev flat_shape : List Made → Shape
  flat_shape ms = shapes.fix_closures (length ms) (made_shapes ms)

  sequence_good : (es : Trees) → good (sequence es) ≡ true → good_each es ≡ true
  sequence_good es h = and_right (node_good names (shapes.sequence (count es) (dropped es))) (good_each es) h

  mutual
    pub all_pass : (e : Tree) → Claim e
    all_pass (constant c) tail known scope n s h = simple_operation tail (op.Atom (atom.Constant c)) (simple_good scope (constant c) refl h)
    all_pass (literal k) tail known scope n s h = simple_operation tail (op.Atom (atom.Literal k)) (simple_good scope (literal k) refl h)
    all_pass (variable (flat.bound x)) tail known scope n s h = simple_operation tail (op.Atom (atom.Variable (number_of scope x))) (refl, refl)
    all_pass (variable (flat.free k)) tail known scope n s h = finished_passes tail (does.Field 1 k) (rw s refl)
    all_pass (global g) tail known scope n s h = finished_passes tail (does.Global g) (rw (named_of (shapes.global g) h) refl)
    all_pass (set_global g e) tail known scope n s h =
        let k = and_right (node_good names (shapes.set_global g)) (good e) h in
        unless_passes (is_simple e) n (normal starts false e scope (suc n)) (finished tail (tree.perform (does.SetGlobal g (operand_at scope e n)))) (all_pass e false known scope (suc n) s k)
        (set_passes tail g scope e n (named_of (shapes.set_global g) (here_good (shapes.set_global g) (good e) h)) k)
    all_pass (define g e) tail known scope n s h =
        let k = and_right (node_good names (shapes.define g)) (good e) h in
        unless_passes (is_simple e) n (normal starts false e scope (suc n)) (finished tail (tree.perform (does.SetGlobal g (operand_at scope e n)))) (all_pass e false known scope (suc n) s k)
        (set_passes tail g scope e n (named_of (shapes.define g) (here_good (shapes.define g) (good e) h)) k)
    all_pass (branch x y z) tail known scope n s h =
        let s' = and_right (scoped bodies x known fields) (scoped bodies y known fields && scoped bodies z known fields) s in
        let h' = and_right (node_good names shapes.branch) (good x && (good y && good z)) h in
        let h'' = and_right (good x) (good y && good z) h' in
        let p = all_pass x false known scope n (and_left (scoped bodies x known fields) (scoped bodies y known fields && scoped bodies z known fields) s) (and_left (good x) (good y && good z) h') in
        let q = all_pass y tail known scope (n + binds x) (and_left (scoped bodies y known fields) (scoped bodies z known fields) s') (and_left (good y) (good z) h'') in
        let r = all_pass z tail known scope (n + binds x + binds y) (and_right (scoped bodies y known fields) (scoped bodies z known fields) s') (and_right (good y) (good z) h'') in
        rw (p, q, r) refl
    all_pass (sequence es) tail known scope n s h = pass_parts es tail known scope n s (sequence_good es h)
    all_pass (bind site first es e) tail known scope n s h =
        let s' = and_right (scoped_each bodies es known fields) (all_new (numbers first (count es)) known && scoped bodies e (scope_with first (count es) known) fields) s in
        let h' = and_right (node_good names (shapes.bind site (count es))) (good_each es && good e) h in
        pass_inits es known scope n (normal starts tail e (with_variables first (init_numbers es n) scope) (n + inits_bind es))
        (and_left (scoped_each bodies es known fields) (all_new (numbers first (count es)) known && scoped bodies e (scope_with first (count es) known) fields) s)
        (and_left (good_each es) (good e) h')
        (all_pass e tail (scope_with first (count es) known) (with_variables first (init_numbers es n) scope) (n + inits_bind es)
        (and_right (all_new (numbers first (count es)) known) (scoped bodies e (scope_with first (count es) known) fields) s') (and_right (good_each es) (good e) h'))
    all_pass (make_closure m) tail known scope n s h = closure_passes tail scope known m s
    all_pass (fix_closures first ms e) tail known scope n s h =
        let inner = scope_with first (length ms) known in
        let inside : Scope = with_variables first (numbers_for ms n) scope in
        let s' = and_right (all_new (numbers first (length ms)) known) (list_all (is_made bodies inner fields) ms && scoped bodies e inner fields) s in
        let shape : Shape = flat_shape ms in
        and_of ((all_tests fields names).group (members_of starts inside ms n)) (each_part (all_tests fields names) (normal starts tail e inside (n + length ms)))
        (group_good inside inner ms n (and_left (list_all (is_made bodies inner fields) ms) (scoped bodies e inner fields) s') (fits_of shape (here_good shape (good e) h)))
        (all_pass e tail inner inside (n + length ms) (and_right (list_all (is_made bodies inner fields) ms) (scoped bodies e inner fields) s') (and_right (node_good names shape) (good e) h))
    all_pass (call site spread f es) tail known scope n s h =
        let shape : Shape = shapes.call site (count es) spread in
        let h' = and_right (node_good names shape) (good f && good_each es) h in
        let hf = and_left (good f) (good_each es) h' in
        let hs = and_right (good f) (good_each es) h' in
        pass_operands es known scope n (bound_unless (is_simple f) (n + operands_bind es) (normal starts false f scope (suc (n + operands_bind es)))
        (called tail (record { site = site; spread = spread; operator = operand_at scope f (n + operands_bind es); operands = operands_at scope es n })))
        (and_right (scoped bodies f known fields) (scoped_each bodies es known fields) s) hs
        (unless_passes (is_simple f) (n + operands_bind es) (normal starts false f scope (suc (n + operands_bind es)))
        (called tail (record { site = site; spread = spread; operator = operand_at scope f (n + operands_bind es); operands = operands_at scope es n }))
        (all_pass f false known scope (suc (n + operands_bind es)) (and_left (scoped bodies f known fields) (scoped_each bodies es known fields) s) hf)
        (call_good site spread tail scope f es n (n + operands_bind es) (here_good shape (good f && good_each es) h) hf hs))
    all_pass (operation site which es) tail known scope n s h =
        let shape : Shape = shapes.operation site which (count es) in
        let hs = and_right (node_good names shape) (good_each es) h in
        pass_operands es known scope n (finished tail (tree.perform (does.Prim site which (operands_at scope es n)))) s hs (prim_good site which tail scope es n (here_good shape (good_each es) h) hs)
    all_pass (new_cells cs e) tail known scope n s h =
        let s' = and_right (list_all (λ c. is_content known fields c.content) cs) (all_new (cell_variables cs) known && scoped bodies e (cells_scope cs known) fields) s in
        cells_passes scope known cs n (normal starts tail e (normal.cells_scope cs n scope) (n + length cs))
        (and_left (list_all (λ c. is_content known fields c.content) cs) (all_new (cell_variables cs) known && scoped bodies e (cells_scope cs known) fields) s)
        (all_pass e tail (cells_scope cs known) (normal.cells_scope cs n scope) (n + length cs) (and_right (all_new (cell_variables cs) known) (scoped bodies e (cells_scope cs known) fields) s')
        (and_right (node_good names (shapes.new_cells (length cs))) (good e) h))
    all_pass (cell_get v) tail known scope n s h = cell_get_good tail scope known v s
    all_pass (cell_set v e) tail known scope n s h =
        let k = and_right (node_good names shapes.cell_set) (good e) h in
        unless_passes (is_simple e) n (normal starts false e scope (suc n)) (finished tail (tree.perform (does.CellSet (source_of scope v) (operand_at scope e n))))
        (all_pass e false known scope (suc n) (and_right (is_known known fields v) (scoped bodies e known fields) s) k)
        (cell_set_good tail scope known v e n (and_left (is_known known fields v) (scoped bodies e known fields) s) k)

    pass_parts : (es : Trees) (tail : Bool) (known : List ℕ) (scope : Scope) (n : ℕ) → scoped_each bodies es known fields ≡ true → good_each es ≡ true → passes (normal_parts starts tail es scope n)
    pass_parts no_trees tail known scope n s h = simple_operation tail (op.Atom (atom.Constant Unspecified)) (refl, refl)
    pass_parts (and_tree e no_trees) tail known scope n s h = all_pass e tail known scope n (and_left (scoped bodies e known fields) true s) (and_left (good e) true h)
    pass_parts (and_tree e (and_tree e' es)) tail known scope n s h =
        go (ends_in_call e) (λ m. all_pass e false known scope m (and_left (scoped bodies e known fields) (scoped_each bodies (and_tree e' es) known fields) s)
        (and_left (good e) (good_each (and_tree e' es)) h))
        (λ m. pass_parts (and_tree e' es) tail known scope m (and_right (scoped bodies e known fields) (scoped_each bodies (and_tree e' es) known fields) s)
        (and_right (good e) (good_each (and_tree e' es)) h))
      where
        go : (b : Bool) → ((m : ℕ) → passes (normal starts false e scope m)) → ((m : ℕ) → passes (normal_parts starts tail (and_tree e' es) scope m))
            → passes (cond b (tree.bind n (normal starts false e scope (suc n)) (normal_parts starts tail (and_tree e' es) scope (suc n + binds e)))
            (unless_atom (normal starts false e scope n) (normal_parts starts tail (and_tree e' es) scope (n + binds e))))
        go true p q = rw (p (suc n), q (suc n + binds e)) refl
        go false p q =
            dropped_as (λ z. passes z) (normal starts false e scope n) (normal_parts starts tail (and_tree e' es) scope (n + binds e)) (λ i. rw (p n, q (n + binds e)) refl) (λ i. q (n + binds e))

    pass_operands : (es : Trees) (known : List ℕ) (scope : Scope) (n : ℕ) (body : Expression) → scoped_each bodies es known fields ≡ true → good_each es ≡ true → passes body
        → passes (with_operands starts es scope n body)
    pass_operands no_trees known scope n body s h b = b
    pass_operands (and_tree e es) known scope n body s h b =
        unless_passes (is_simple e) n (normal starts false e scope (suc n)) (with_operands starts es scope (n + part_binds (is_simple e) (binds e)) body)
        (all_pass e false known scope (suc n) (and_left (scoped bodies e known fields) (scoped_each bodies es known fields) s) (and_left (good e) (good_each es) h))
        (pass_operands es known scope (n + part_binds (is_simple e) (binds e)) body (and_right (scoped bodies e known fields) (scoped_each bodies es known fields) s)
        (and_right (good e) (good_each es) h) b)

    pass_inits : (es : Trees) (known : List ℕ) (scope : Scope) (n : ℕ) (body : Expression) → scoped_each bodies es known fields ≡ true → good_each es ≡ true → passes body
        → passes (with_inits starts es scope n body)
    pass_inits no_trees known scope n body s h b = b
    pass_inits (and_tree e es) known scope n body s h b =
        and_of (each_part (all_tests fields names) (normal starts false e scope (suc n))) (each_part (all_tests fields names) (with_inits starts es scope (suc n + binds e) body))
        (all_pass e false known scope (suc n) (and_left (scoped bodies e known fields) (scoped_each bodies es known fields) s) (and_left (good e) (good_each es) h))
        (pass_inits es known scope (suc n + binds e) body (and_right (scoped bodies e known fields) (scoped_each bodies es known fields) s) (and_right (good e) (good_each es) h) b)
