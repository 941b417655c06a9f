-- Each variable that a normal form reads is bound there.
use Rattle.std.proofs.Common.{◌≡◌, ℕ, zero, suc, ◌+◌, Bool, true, false, cond, List, [], ◌∷◌, ◌++◌, length, map, Option, Some, None, refl, arith}
use Rattle.std.specs.Prelude.{slice_get, nat_eq, nat_lt, ◌&&◌, ◌||◌}
use Rattle.std.specs.List.{list_all}
use Rattle.std.proofs.lemmas.Bool.{eq-eqb}
use Rattle.sch_word.specs.trees.NumberSets.{has}
use Rattle.sch_word.specs.trees.Bindings.{numbers, scope_with, with_variables}
use Rattle.sch_word.proofs.facts.Booleans.{and_left, and_right}
use Rattle.sch_flat.specs.Tree as flat
use Rattle.sch_flat.specs.Tree.{Tree, Trees, Variable, Body, Made, NewCell, constant, literal, variable, global, set_global, define, branch, sequence, bind, make_closure, fix_closures, call, operation, new_cells, cell_get, cell_set, no_trees, and_tree, count}
use Rattle.sch_flat.specs.Valid.{is_known, is_content, is_made, all_new, cell_variables, cells_scope, scoped, scoped_each, has_fields}
use Rattle.sch_control.specs.declared.operation.Operation.{Operation}
use Rattle.sch_control.specs.declared.operation.Atom.{Atom}
use Rattle.sch_control.specs.declared.operation.Atom.TheVariants as atom
use Rattle.sch_control.specs.declared.operation.Operand.{Operand}
use Rattle.sch_control.specs.declared.operation.Operand.TheVariants as op
use Rattle.sch_control.specs.declared.operation.Operation.TheVariants as does
use Rattle.sch_control.specs.declared.operation.Application.{Application}
use Rattle.sch_control.specs.AtomsAndSites.{operand_atoms, operands_atoms, source_atom, source_atoms, operation_atoms, application_atoms, member_atoms}
use Rattle.sch_control.specs.Tree as tree
use Rattle.sch_control.specs.Tree.{Expression}
use Rattle.sch_control.specs.Valid.{with_variable, with_members, in_scope_atom, in_scope_atoms, in_scope, only_reads}
use Rattle.sch_anf_laws.specs.Normal.{Scope, number_of, source_of, is_atom, are_atoms, is_simple, atom_of, atoms_of, simple_operand, operand_at, operands_at, operand_binds, unless_atom, ends_in_call, part_binds, binds, operands_bind, inits_bind, init_numbers, numbers_for, finished, called, bound_unless, normal, normal_parts, with_operands, with_inits, with_new_cells, cell_operation, members_of}
use Rattle.sch_anf_laws.specs.Normal as normal
use Rattle.sch_anf_laws.proofs.DroppedAtoms.{dropped_as}
use Rattle.sch_anf_laws.proofs.runs.Agree.{init_numbers_length, numbers_for_length}

-- one set of variables is in another
record Wider (inner outer : ℕ → Bool) : Type 0 where
  at : (x : ℕ) → inner x ≡ true → outer x ≡ true

wider_self : (s : ℕ → Bool) → Wider s s
wider_self s = record { at = λ x h. h }

wider_on : (s t u : ℕ → Bool) → Wider s t → Wider t u → Wider s u
wider_on s t u p q = record { at = λ x h. q.at x (p.at x h) }

with_more : (x : ℕ) (s : ℕ → Bool) → Wider s (with_variable x s)
with_more x s = record { at = λ y h. go (nat_eq y x) h }
  where
    go : {y : ℕ} (b : Bool) → s y ≡ true → (b || s y) ≡ true
    go true h = refl
    go false h = h

with_here : (x : ℕ) (s : ℕ → Bool) → with_variable x s x ≡ true
with_here x s = rw (eq-eqb x x refl) refl

abbrev pub HeldIn : (ℕ → Bool) → List ℕ → Type 0
HeldIn s [] = Unit {0}
HeldIn s (y ∷ ys) = (s y ≡ true) × HeldIn s ys

held_wider : (s t : ℕ → Bool) (ys : List ℕ) → Wider s t → HeldIn s ys → HeldIn t ys
held_wider s t [] w h = tt
held_wider s t (y ∷ ys) w h = (w.at y h.0, held_wider s t ys w h.1)

abbrev FilledIn : (ℕ → Bool) → Trees → (n : ℕ) → Type 0
FilledIn s no_trees n = Unit {0}
FilledIn s (and_tree e es) n = (is_simple e ≡ false → s n ≡ true) × FilledIn s es (n + operand_binds e)

filled_wider : (s t : ℕ → Bool) (es : Trees) (n : ℕ) → Wider s t → FilledIn s es n → FilledIn t es n
filled_wider s t no_trees n w h = tt
filled_wider s t (and_tree e es) n w h = ((λ i. w.at n (h.0 i)), filled_wider s t es (n + operand_binds e) w h.1)

atoms_append : (s : ℕ → Bool) (xs ys : List (Atom ℕ)) → in_scope_atoms s xs ≡ true → in_scope_atoms s ys ≡ true → in_scope_atoms s (xs ++ ys) ≡ true
atoms_append s [] ys h k = k
atoms_append s (x ∷ xs) ys h k = rw (and_left (in_scope_atom s x) (in_scope_atoms s xs) h) (atoms_append s xs ys (and_right (in_scope_atom s x) (in_scope_atoms s xs) h) k)

finished_scoped : (tail : Bool) (o : Operation ℕ) (s : ℕ → Bool) → in_scope_atoms s (operation_atoms o) ≡ true → in_scope (finished tail (tree.perform o)) s ≡ true
finished_scoped true o s h = h
finished_scoped false o s h = h

called_scoped : (tail : Bool) (a : Application ℕ) (s : ℕ → Bool) → in_scope_atoms s (application_atoms a) ≡ true → in_scope (called tail a) s ≡ true
called_scoped true a s h = h
called_scoped false a s h = h

module _ (starts : List ℕ) (bodies : List Body) (fields : ℕ) where
  -- each known variable is in a set, under its new number, and so is the closure where it has fields
  pub record Inside (names : List ℕ) (scope : Scope) (s : ℕ → Bool) : Type 0 where
    pub at : (x : ℕ) → has x names ≡ true → s (number_of scope x) ≡ true
    pub closure : (k : ℕ) → nat_lt k fields ≡ true → s 1 ≡ true

  inside_wider : (names : List ℕ) (scope : Scope) (s t : ℕ → Bool) → Wider s t → Inside names scope s → Inside names scope t
  inside_wider names scope s t w h = record { at = λ x i. w.at (number_of scope x) (h.at x i); closure = λ k l. w.at 1 (h.closure k l) }

  inside_push : (names : List ℕ) (scope : Scope) (s : ℕ → Bool) (x y : ℕ) → s y ≡ true → Inside names scope s → Inside (x ∷ names) ((x, y) ∷ scope) s
  inside_push names scope s x y e h = record { at = λ z i. go z (nat_eq z x) refl i; closure = h.closure }
    where
      go : (z : ℕ) (b : Bool) → nat_eq z x ≡ b → (b || has z names) ≡ true → s (number_of ((x, y) ∷ scope) z) ≡ true
      go z true k i = rw k e
      go z false k i = rw k (h.at z i)

  pub inside_with : (names : List ℕ) (scope : Scope) (s : ℕ → Bool) (x m : ℕ) (ys : List ℕ) → length ys ≡ m → HeldIn s ys → Inside names scope s
      → Inside (scope_with x m names) (with_variables x ys scope) s
  inside_with names scope s x zero [] e k h = h
  inside_with names scope s x (suc m) [] e k h = absurd (omega (arith, e))
  inside_with names scope s x zero (y ∷ ys) e k h = absurd (omega (arith, e))
  inside_with names scope s x (suc m) (y ∷ ys) e k h = inside_with (x ∷ names) ((x, y) ∷ scope) s (suc x) m ys (omega (arith, e)) k.1 (inside_push names scope s x y k.0 h)

  inside_cells : (names : List ℕ) (scope : Scope) (s : ℕ → Bool) (cs : List NewCell) (n : ℕ) → HeldIn s (numbers_for cs n) → Inside names scope s
      → Inside (cells_scope cs names) (normal.cells_scope cs n scope) s
  inside_cells names scope s [] n k h = h
  inside_cells names scope s (c ∷ cs) n k h = inside_cells (c.variable ∷ names) ((c.variable, n) ∷ scope) s cs (suc n) k.1 (inside_push names scope s c.variable n k.0 h)

  module _ (names : List ℕ) (scope : Scope) (s : ℕ → Bool) (h : Inside names scope s) where
    source_scoped : (v : Variable) → is_known names fields v ≡ true → in_scope_atom s (source_atom (source_of scope v)) ≡ true
    source_scoped (flat.bound x) i = h.at x i
    source_scoped (flat.free k) i = h.closure k i

    sources_scoped : (vs : List Variable) → list_all (is_known names fields) vs ≡ true → in_scope_atoms s (source_atoms (map (source_of scope) vs)) ≡ true
    sources_scoped [] i = refl
    sources_scoped (v ∷ vs) i = rw (source_scoped v (and_left (is_known names fields v) (list_all (is_known names fields) vs) i))
        (sources_scoped vs (and_right (is_known names fields v) (list_all (is_known names fields) vs) i))

    members_scoped : (ms : List Made) (n : ℕ) → list_all (is_made bodies names fields) ms ≡ true → in_scope_atoms s (member_atoms (members_of starts scope ms n)) ≡ true
    members_scoped [] n i = refl
    members_scoped (m ∷ ms) n i =
        atoms_append s (source_atoms (map (source_of scope) m.fields)) (member_atoms (members_of starts scope ms (suc n)))
        (sources_scoped m.fields (and_left (list_all (is_known names fields) m.fields) _ (and_left (is_made bodies names fields m) (list_all (is_made bodies names fields) ms) i)))
        (members_scoped ms (suc n) (and_right (is_made bodies names fields m) (list_all (is_made bodies names fields) ms) i))

    atom_scoped : (e : Tree) → is_atom e ≡ true → scoped bodies e names fields ≡ true → in_scope_atom s (atom_of scope e) ≡ true
    atom_scoped (constant c) i k = refl
    atom_scoped (literal c) i k = refl
    atom_scoped (variable (flat.bound x)) i k = h.at x k
    atom_scoped _ i k = absurd (cc)

    atoms_scoped : (es : Trees) → are_atoms es ≡ true → scoped_each bodies es names fields ≡ true → in_scope_atoms s (atoms_of scope es) ≡ true
    atoms_scoped no_trees i k = refl
    atoms_scoped (and_tree e es) i k =
        rw (atom_scoped e (and_left (is_atom e) (are_atoms es) i) (and_left (scoped bodies e names fields) (scoped_each bodies es names fields) k))
        (atoms_scoped es (and_right (is_atom e) (are_atoms es) i) (and_right (scoped bodies e names fields) (scoped_each bodies es names fields) k))

    simple_scoped : (e : Tree) → is_simple e ≡ true → scoped bodies e names fields ≡ true → in_scope_atoms s (operand_atoms (simple_operand scope e)) ≡ true
    simple_scoped (operation site which es) i k = atoms_scoped es (and_right (only_reads which) (are_atoms es) i) k
    simple_scoped e i k = rw (atom_scoped e i k) refl

    operand_scoped : (b : Bool) (e : Tree) (n : ℕ) → is_simple e ≡ b → (b ≡ false → s n ≡ true) → scoped bodies e names fields ≡ true
        → in_scope_atoms s (operand_atoms (cond b (simple_operand scope e) (op.Atom (atom.Variable n)))) ≡ true
    operand_scoped true e n i k f = simple_scoped e i f
    operand_scoped false e n i k f = rw (k refl) refl

    operands_scoped : (es : Trees) (n : ℕ) → FilledIn s es n → scoped_each bodies es names fields ≡ true → in_scope_atoms s (operands_atoms (operands_at scope es n)) ≡ true
    operands_scoped no_trees n k f = refl
    operands_scoped (and_tree e es) n k f =
        atoms_append s (operand_atoms (operand_at scope e n)) (operands_atoms (operands_at scope es (n + operand_binds e)))
        (operand_scoped (is_simple e) e n refl k.0 (and_left (scoped bodies e names fields) (scoped_each bodies es names fields) f))
        (operands_scoped es (n + operand_binds e) k.1 (and_right (scoped bodies e names fields) (scoped_each bodies es names fields) f))

  members_wider : (scope : Scope) (ms : List Made) (n : ℕ) (s : ℕ → Bool) → Wider s (with_members (members_of starts scope ms n) s)
  members_wider scope [] n s = wider_self s
  members_wider scope (m ∷ ms) n s = wider_on s (with_variable n s) (with_members (members_of starts scope ms (suc n)) (with_variable n s)) (with_more n s)
      (members_wider scope ms (suc n) (with_variable n s))

  members_held : (scope : Scope) (ms : List Made) (n : ℕ) (s : ℕ → Bool) → HeldIn (with_members (members_of starts scope ms n) s) (numbers_for ms n)
  members_held scope [] n s = tt
  members_held scope (m ∷ ms) n s = ((members_wider scope ms (suc n) (with_variable n s)).at n (with_here n s), members_held scope ms (suc n) (with_variable n s))

  content_scoped : (o : Option Variable) (names : List ℕ) (scope : Scope) (s : ℕ → Bool) → is_content names fields o ≡ true → Inside names scope s
      → in_scope_atoms s (operation_atoms (cell_operation scope o)) ≡ true
  content_scoped None names scope s i h = refl
  content_scoped (Some v) names scope s i h = rw (source_scoped names scope s h v i) refl

  cells_scoped : (cs : List NewCell) (names : List ℕ) (scope : Scope) (n : ℕ) (s : ℕ → Bool) (body : Expression) → list_all (λ c. is_content names fields c.content) cs ≡ true → Inside names scope s
      → ((t : ℕ → Bool) → Wider s t → HeldIn t (numbers_for cs n) → in_scope body t ≡ true) → in_scope (with_new_cells scope cs n body) s ≡ true
  cells_scoped [] names scope n s body i h more = more s (wider_self s) tt
  cells_scoped (c ∷ cs) names scope n s body i h more =
      rw (content_scoped c.content names scope s (and_left (is_content names fields c.content) (list_all (λ c. is_content names fields c.content) cs) i) h)
      (cells_scoped cs names scope (suc n) (with_variable n s) body (and_right (is_content names fields c.content) (list_all (λ c. is_content names fields c.content) cs) i)
      (inside_wider names scope s (with_variable n s) (with_more n s) h)
      (λ t w k. more t (wider_on s (with_variable n s) t (with_more n s) w) (w.at n (with_here n s), k)))

  abbrev Claim : Tree → Type 0
  Claim e = (tail : Bool) (names : List ℕ) (scope : Scope) (n : ℕ) (s : ℕ → Bool) → scoped bodies e names fields ≡ true → Inside names scope s → in_scope (normal starts tail e scope n) s ≡ true

  bind_scoped : (e : Tree) → Claim e → (names : List ℕ) (scope : Scope) (n : ℕ) (s : ℕ → Bool) (body : Expression) → scoped bodies e names fields ≡ true → Inside names scope s
      → in_scope body (with_variable n s) ≡ true → in_scope (tree.bind n (normal starts false e scope (suc n)) body) s ≡ true
  bind_scoped e claim names scope n s body f h more = rw (claim false names scope (suc n) s f h, more) refl

  part_scoped : (b : Bool) (e : Tree) → is_simple e ≡ b → Claim e → (names : List ℕ) (scope : Scope) (n : ℕ) (s : ℕ → Bool) (body : Expression) → scoped bodies e names fields ≡ true
      → Inside names scope s
      → ((t : ℕ → Bool) → Wider s t → (b ≡ false → t n ≡ true) → in_scope body t ≡ true) → in_scope (bound_unless b n (normal starts false e scope (suc n)) body) s ≡ true
  part_scoped true e i claim names scope n s body f h more = more s (wider_self s) (λ e. absurd (cc))
  part_scoped false e i claim names scope n s body f h more = bind_scoped e claim names scope n s body f h (more (with_variable n s) (with_more n s) (λ _. with_here n s))

  value_scoped : (e : Tree) → Claim e → (tail : Bool) (o : Operand ℕ → Operation ℕ) (names : List ℕ) (scope : Scope) (n : ℕ) (s : ℕ → Bool) → scoped bodies e names fields ≡ true → Inside names scope s
      → ((t : ℕ → Bool) (x : Operand ℕ) → Wider s t → in_scope_atoms t (operand_atoms x) ≡ true → in_scope_atoms t (operation_atoms (o x)) ≡ true)
      → in_scope (bound_unless (is_simple e) n (normal starts false e scope (suc n)) (finished tail (tree.perform (o (operand_at scope e n))))) s ≡ true
  value_scoped e claim tail o names scope n s f h good =
      part_scoped (is_simple e) e refl claim names scope n s (finished tail (tree.perform (o (operand_at scope e n)))) f h
      (λ t w k. finished_scoped tail (o (operand_at scope e n)) t (good t (operand_at scope e n) w (operand_scoped names scope t (inside_wider names scope s t w h) (is_simple e) e n refl k f)))

  mutual
    pub in_scope_all : (e : Tree) → Claim e
    in_scope_all (constant c) tail names scope n s f h = finished_scoped tail _ s refl
    in_scope_all (literal k) tail names scope n s f h = finished_scoped tail _ s refl
    in_scope_all (variable (flat.bound x)) tail names scope n s f h = finished_scoped tail _ s (rw (h.at x f) refl)
    in_scope_all (variable (flat.free k)) tail names scope n s f h = finished_scoped tail _ s (rw (h.closure k f) refl)
    in_scope_all (global g) tail names scope n s f h = finished_scoped tail _ s refl
    in_scope_all (set_global g e) tail names scope n s f h = value_scoped e (in_scope_all e) tail (λ x. does.SetGlobal g x) names scope n s f h (λ t x w k. k)
    in_scope_all (define g e) tail names scope n s f h = value_scoped e (in_scope_all e) tail (λ x. does.SetGlobal g x) names scope n s f h (λ t x w k. k)
    in_scope_all (branch x y z) tail names scope n s f h =
        let f' = and_right (scoped bodies x names fields) (scoped bodies y names fields && scoped bodies z names fields) f in
        rw (
          in_scope_all x false names scope n s (and_left (scoped bodies x names fields) (scoped bodies y names fields && scoped bodies z names fields) f) h,
          in_scope_all y tail names scope (n + binds x) s (and_left (scoped bodies y names fields) (scoped bodies z names fields) f') h,
          in_scope_all z tail names scope (n + binds x + binds y) s (and_right (scoped bodies y names fields) (scoped bodies z names fields) f') h,
        ) refl
    in_scope_all (sequence es) tail names scope n s f h = in_scope_parts es tail names scope n s f h
    in_scope_all (bind site first es e) tail names scope n s f h =
        let f' = and_right (scoped_each bodies es names fields) (all_new (numbers first (count es)) names && scoped bodies e (scope_with first (count es) names) fields) f in
        in_scope_inits es names scope n s (normal starts tail e (with_variables first (init_numbers es n) scope) (n + inits_bind es))
        (and_left (scoped_each bodies es names fields) (all_new (numbers first (count es)) names && scoped bodies e (scope_with first (count es) names) fields) f) h
        (λ t w k. in_scope_all e tail (scope_with first (count es) names) (with_variables first (init_numbers es n) scope) (n + inits_bind es) t
        (and_right (all_new (numbers first (count es)) names) (scoped bodies e (scope_with first (count es) names) fields) f')
        (inside_with names scope t first (count es) (init_numbers es n) (init_numbers_length es n) k (inside_wider names scope s t w h)))
    in_scope_all (make_closure m) tail names scope n s f h =
        finished_scoped tail _ s (sources_scoped names scope s h m.fields (and_left (list_all (is_known names fields) m.fields) (has_fields (slice_get bodies m.label) (length m.fields)) f))
    in_scope_all (fix_closures first ms e) tail names scope n s f h =
        let inner = scope_with first (length ms) names in
        let inside : Scope = with_variables first (numbers_for ms n) scope in
        let t : ℕ → Bool = with_members (members_of starts inside ms n) s in
        let f' = and_right (all_new (numbers first (length ms)) names) (list_all (is_made bodies inner fields) ms && scoped bodies e inner fields) f in
        let k : Inside inner inside t = inside_with names scope t first (length ms) (numbers_for ms n) (numbers_for_length ms n) (members_held inside ms n s)
        (inside_wider names scope s t (members_wider inside ms n s) h) in
        rw (members_scoped inner inside t k ms n (and_left (list_all (is_made bodies inner fields) ms) (scoped bodies e inner fields) f'))
        (in_scope_all e tail inner inside (n + length ms) t (and_right (list_all (is_made bodies inner fields) ms) (scoped bodies e inner fields) f') k)
    in_scope_all (call site spread g es) tail names scope n s f h =
        let fg = and_left (scoped bodies g names fields) (scoped_each bodies es names fields) f in
        let fs = and_right (scoped bodies g names fields) (scoped_each bodies es names fields) f in
        let a : Application ℕ = record { site = site; spread = spread; operator = operand_at scope g (n + operands_bind es); operands = operands_at scope es n } in
        in_scope_operands es names scope n s (bound_unless (is_simple g) (n + operands_bind es) (normal starts false g scope (suc (n + operands_bind es))) (called tail a)) fs h
        (λ t w k. part_scoped (is_simple g) g refl (in_scope_all g) names scope (n + operands_bind es) t (called tail a) fg (inside_wider names scope s t w h)
        (λ u w' o. called_scoped tail a u (atoms_append u (operand_atoms (operand_at scope g (n + operands_bind es))) (operands_atoms (operands_at scope es n))
        (operand_scoped names scope u (inside_wider names scope t u w' (inside_wider names scope s t w h)) (is_simple g) g (n + operands_bind es) refl o fg)
        (operands_scoped names scope u (inside_wider names scope t u w' (inside_wider names scope s t w h)) es n (filled_wider t u es n w' k) fs))))
    in_scope_all (operation site which es) tail names scope n s f h =
        in_scope_operands es names scope n s (finished tail (tree.perform (does.Prim site which (operands_at scope es n)))) f h
        (λ t w k. finished_scoped tail (does.Prim site which (operands_at scope es n)) t (operands_scoped names scope t (inside_wider names scope s t w h) es n k f))
    in_scope_all (new_cells cs e) tail names scope n s f h =
        let f' = and_right (list_all (λ c. is_content names fields c.content) cs) (all_new (cell_variables cs) names && scoped bodies e (cells_scope cs names) fields) f in
        cells_scoped cs names scope n s (normal starts tail e (normal.cells_scope cs n scope) (n + length cs))
        (and_left (list_all (λ c. is_content names fields c.content) cs) (all_new (cell_variables cs) names && scoped bodies e (cells_scope cs names) fields) f) h
        (λ t w k. in_scope_all e tail (cells_scope cs names) (normal.cells_scope cs n scope) (n + length cs) t
        (and_right (all_new (cell_variables cs) names) (scoped bodies e (cells_scope cs names) fields) f')
        (inside_cells names scope t cs n k (inside_wider names scope s t w h)))
    in_scope_all (cell_get v) tail names scope n s f h = finished_scoped tail _ s (rw (source_scoped names scope s h v f) refl)
    in_scope_all (cell_set v e) tail names scope n s f h =
        value_scoped e (in_scope_all e) tail (λ x. does.CellSet (source_of scope v) x) names scope n s (and_right (is_known names fields v) (scoped bodies e names fields) f) h
        (λ t x w k. rw (source_scoped names scope t (inside_wider names scope s t w h) v (and_left (is_known names fields v) (scoped bodies e names fields) f)) k)

    in_scope_parts : (es : Trees) (tail : Bool) (names : List ℕ) (scope : Scope) (n : ℕ) (s : ℕ → Bool) → scoped_each bodies es names fields ≡ true → Inside names scope s
        → in_scope (normal_parts starts tail es scope n) s ≡ true
    in_scope_parts no_trees tail names scope n s f h = finished_scoped tail _ s refl
    in_scope_parts (and_tree e no_trees) tail names scope n s f h = in_scope_all e tail names scope n s (and_left (scoped bodies e names fields) true f) h
    in_scope_parts (and_tree e (and_tree e' es)) tail names scope n s f h =
        go (ends_in_call e) (in_scope_all e false names scope n s here h) (in_scope_all e false names scope (suc n) s here h)
        (λ m t w. in_scope_parts (and_tree e' es) tail names scope m t (and_right (scoped bodies e names fields) (scoped_each bodies (and_tree e' es) names fields) f)
        (inside_wider names scope s t w h))
      where
        here : scoped bodies e names fields ≡ true
        here = and_left (scoped bodies e names fields) (scoped_each bodies (and_tree e' es) names fields) f

        go : (b : Bool) → in_scope (normal starts false e scope n) s ≡ true → in_scope (normal starts false e scope (suc n)) s ≡ true
            → ((m : ℕ) (t : ℕ → Bool) → Wider s t → in_scope (normal_parts starts tail (and_tree e' es) scope m) t ≡ true)
            → in_scope (cond b (tree.bind n (normal starts false e scope (suc n)) (normal_parts starts tail (and_tree e' es) scope (suc n + binds e)))
            (unless_atom (normal starts false e scope n) (normal_parts starts tail (and_tree e' es) scope (n + binds e)))) s ≡ true
        go true p q more = rw (q, more (suc n + binds e) (with_variable n s) (with_more n s)) refl
        go false p q more =
            dropped_as (λ z. in_scope z s ≡ true) (normal starts false e scope n) (normal_parts starts tail (and_tree e' es) scope (n + binds e))
            (λ i. rw (p, more (n + binds e) s (wider_self s)) refl) (λ i. more (n + binds e) s (wider_self s))

    in_scope_operands : (es : Trees) (names : List ℕ) (scope : Scope) (n : ℕ) (s : ℕ → Bool) (body : Expression) → scoped_each bodies es names fields ≡ true → Inside names scope s
        → ((t : ℕ → Bool) → Wider s t → FilledIn t es n → in_scope body t ≡ true) → in_scope (with_operands starts es scope n body) s ≡ true
    in_scope_operands no_trees names scope n s body f h more = more s (wider_self s) tt
    in_scope_operands (and_tree e es) names scope n s body f h more =
        part_scoped (is_simple e) e refl (in_scope_all e) names scope n s (with_operands starts es scope (n + part_binds (is_simple e) (binds e)) body)
        (and_left (scoped bodies e names fields) (scoped_each bodies es names fields) f) h
        (λ t w k. in_scope_operands es names scope (n + part_binds (is_simple e) (binds e)) t body (and_right (scoped bodies e names fields) (scoped_each bodies es names fields) f)
        (inside_wider names scope s t w h)
        (λ u w' l. more u (wider_on s t u w w') ((λ i. w'.at n (k i)), l)))

    in_scope_inits : (es : Trees) (names : List ℕ) (scope : Scope) (n : ℕ) (s : ℕ → Bool) (body : Expression) → scoped_each bodies es names fields ≡ true → Inside names scope s
        → ((t : ℕ → Bool) → Wider s t → HeldIn t (init_numbers es n) → in_scope body t ≡ true) → in_scope (with_inits starts es scope n body) s ≡ true
    in_scope_inits no_trees names scope n s body f h more = more s (wider_self s) tt
    in_scope_inits (and_tree e es) names scope n s body f h more =
        bind_scoped e (in_scope_all e) names scope n s (with_inits starts es scope (suc n + binds e) body) (and_left (scoped bodies e names fields) (scoped_each bodies es names fields) f) h
        (in_scope_inits es names scope (suc n + binds e) (with_variable n s) body (and_right (scoped bodies e names fields) (scoped_each bodies es names fields) f)
        (inside_wider names scope s (with_variable n s) (with_more n s) h)
        (λ t w k. more t (wider_on s (with_variable n s) t (with_more n s) w) (w.at n (with_here n s), k)))
