-- What a normal form binds of its calls and primitives are variables, bound in the order in which they are listed.
use Rattle.std.proofs.Common.{◌≡◌, ℕ, suc, ◌+◌, Bool, true, false, cond, List, [], ◌∷◌, ◌++◌, length, map, Option, Some, None, refl, sym, ap, ◌∙◌, subst, arith, append_assoc, one-add}
use Rattle.std.specs.Prelude.{slice_get, ◌&&◌}
use Rattle.std.proofs.lemmas.Bool.{eq-eqb}
use Rattle.std.proofs.lemmas.List.{append-nil}
use Rattle.std.proofs.lemmas.List.Folds.{list_all-append}
use Rattle.std.proofs.Math.Nat.{zero-add}
use Rattle.sch_word.specs.declared.constant.Const.TheVariants.{Unspecified}
use Rattle.sch_word.specs.trees.Bindings.{numbers, with_variables}
use Rattle.sch_word.specs.runs.Orders.{order_at}
use Rattle.sch_word.proofs.facts.Booleans.{and_left, and_right, and_of}
use Rattle.sch_flat.specs.Tree as flat
use Rattle.sch_flat.specs.Tree.{Tree, Trees, Body, NewCell, constant, literal, variable, global, set_global, define, branch, sequence, bind, make_closure, fix_closures, call, operation, new_cells, cell_get, cell_set, no_trees, and_tree}
use Rattle.sch_control.specs.declared.operation.Atom.TheVariants as atom
use Rattle.sch_control.specs.declared.operation.Operand.{Operand}
use Rattle.sch_control.specs.declared.operation.Operand.TheVariants as op
use Rattle.sch_control.specs.declared.operation.Operation.{Operation}
use Rattle.sch_control.specs.declared.operation.Operation.TheVariants as does
use Rattle.sch_control.specs.declared.operation.Application.{Application}
use Rattle.sch_control.specs.BoundParts.{application_parts, in_turn, is_variable, operand_parts, operands_parts, operation_parts, parts_in_turn, sites_in_turn}
use Rattle.sch_control.specs.Sizes.{is_bare_atom}
use Rattle.sch_control.specs.Tree as tree
use Rattle.sch_control.specs.Tree.{Expression}
use Rattle.sch_control.specs.Valid.{only_reads}
use Rattle.sch_anf_laws.specs.Normal.{Scope, init_numbers, source_of, is_atom, are_atoms, is_simple, atoms_of, simple_operand, operand_at, operands_at, operand_binds, unless_atom, ends_in_call, binds, operands_bind, inits_bind, finished, called, bound_unless, normal, normal_parts, with_operands, with_inits, with_new_cells, cell_operation, bound_places, operator_place, bound_rows, bound_rows_each, bound_rows_bodies, procedure_code}
use Rattle.std.specs.List.{AllByRecursion}
use Rattle.sch_anf_laws.proofs.runs.Ready.{every_left, every_right}
use Rattle.sch_anf_laws.proofs.runs.Agree.{atom_simple}

-- ## One after the other

module _ (parts : List (Operand ℕ)) where
  fewer : (k : ℕ) (ks before : List ℕ) → in_turn parts (k ∷ ks) before ≡ true → in_turn parts ks before ≡ true
  fewer k ks [] h = absurd (cc)
  fewer k [] (x ∷ before) h = refl
  fewer k (j ∷ ks) (x ∷ before) h =
      here (is_variable x (slice_get parts j)) (λ g. fewer j ks before g) (later (is_variable x (slice_get parts k)) (λ g. fewer k (j ∷ ks) before g) h)
    where
      later : (b : Bool) → (in_turn parts (k ∷ (j ∷ ks)) before ≡ true → in_turn parts (j ∷ ks) before ≡ true)
          → cond b (in_turn parts (j ∷ ks) before) (in_turn parts (k ∷ (j ∷ ks)) before) ≡ true → in_turn parts (j ∷ ks) before ≡ true
      later true less h = h
      later false less h = less h

      here : (b : Bool) → (in_turn parts (j ∷ ks) before ≡ true → in_turn parts ks before ≡ true)
          → in_turn parts (j ∷ ks) before ≡ true → cond b (in_turn parts ks before) (in_turn parts (j ∷ ks) before) ≡ true
      here true less h = less h
      here false less h = h

  -- with a variable more before them
  more : (ks before : List ℕ) (x : ℕ) → in_turn parts ks before ≡ true → in_turn parts ks (x ∷ before) ≡ true
  more [] before x h = refl
  more (k ∷ ks) before x h = by (is_variable x (slice_get parts k))
    where
      by : (b : Bool) → cond b (in_turn parts ks before) (in_turn parts (k ∷ ks) before) ≡ true
      by true = fewer k ks before h
      by false = h

  behind : (ks xs before : List ℕ) → in_turn parts ks xs ≡ true → in_turn parts ks (before ++ xs) ≡ true
  behind ks xs [] h = h
  behind ks xs (x ∷ before) h = more ks (before ++ xs) x (behind ks xs before h)

  -- the parts of these numbers are these variables
  abbrev Are : List ℕ → List ℕ → Type 0
  Are [] xs = Unit {0}
  Are (k ∷ ks) [] = ⊥
  Are (k ∷ ks) (x ∷ xs) = (slice_get parts k ≡ Some (op.Atom (atom.Variable x))) × Are ks xs

  are_in_turn : (ks xs : List ℕ) → Are ks xs → in_turn parts ks xs ≡ true
  are_in_turn [] xs a = refl
  are_in_turn (k ∷ ks) [] a = absurd a
  are_in_turn (k ∷ ks) (x ∷ xs) a =
      let same : is_variable x (slice_get parts k) ≡ true = ap (is_variable x) a.0 ∙ eq-eqb x x refl in
      ap (λ b. cond b (in_turn parts ks xs) (in_turn parts (k ∷ ks) xs)) same ∙ are_in_turn ks xs a.1

-- ## The parts of a node

-- the variables to which parts are bound that are not simple
abbrev part_variables : Trees → (n : ℕ) → List ℕ
part_variables no_trees n = []
part_variables (and_tree e es) n = cond (is_simple e) (part_variables es (n + operand_binds e)) (n ∷ part_variables es (n + operand_binds e))

abbrev operator_variable : Tree → (n : ℕ) → List ℕ
operator_variable f n = cond (is_simple f) [] (n ∷ [])

bound_operand : (scope : Scope) (e : Tree) (n : ℕ) → is_simple e ≡ false → operand_at scope e n ≡ op.Atom (atom.Variable n)
bound_operand scope e n s = ap (λ b. cond b (simple_operand scope e) (op.Atom (atom.Variable n))) s

module _ (parts : List (Operand ℕ)) where
  operands_are : (es : Trees) (scope : Scope) (n place : ℕ) (last xs : List ℕ) → ((i : ℕ) → slice_get parts (place + i) ≡ slice_get (operands_at scope es n) i)
      → Are parts last xs → Are parts (bound_places place es last) (part_variables es n ++ xs)
  operands_are no_trees scope n place last xs at h = h
  operands_are (and_tree e es) scope n place last xs at h =
      by (is_simple e) refl (operands_are es scope (n + operand_binds e) (suc place) last xs (λ i. ap (slice_get parts) (omega arith) ∙ at (suc i)) h)
    where
      by : (b : Bool) → is_simple e ≡ b → Are parts (bound_places (suc place) es last) (part_variables es (n + operand_binds e) ++ xs)
          → Are parts (cond b (bound_places (suc place) es last) (place ∷ bound_places (suc place) es last))
          (cond b (part_variables es (n + operand_binds e)) (n ∷ part_variables es (n + operand_binds e)) ++ xs)
      by true s k = k
      by false s k = (ap (slice_get parts) (omega arith) ∙ (at 0 ∙ ap Some (bound_operand scope e n s)), k)

operator_is : (scope : Scope) (f : Tree) (n : ℕ) (operands : List (Operand ℕ)) → Are (operand_at scope f n ∷ operands) (operator_place f) (operator_variable f n)
operator_is scope f n operands = by (is_simple f) refl
  where
    by : (b : Bool) → is_simple f ≡ b → Are (operand_at scope f n ∷ operands) (cond b [] (0 ∷ [])) (cond b [] (n ∷ []))
    by true s = tt
    by false s = (ap Some (bound_operand scope f n s), tt)

atoms_bound : (es : Trees) (place : ℕ) → are_atoms es ≡ true → bound_places place es [] ≡ []
atoms_bound no_trees place h = refl
atoms_bound (and_tree e es) place h =
    ap (λ b. cond b (bound_places (suc place) es []) (place ∷ bound_places (suc place) es [])) (atom_simple e (and_left (is_atom e) (are_atoms es) h))
    ∙ atoms_bound es (suc place) (and_right (is_atom e) (are_atoms es) h)

-- ## Expressions

module _ (bound : List (List ℕ)) where
  -- a site is listed with what is bound there
  abbrev pub Listed : ℕ × List ℕ → Type 0
  Listed r = order_at bound r.0 ≡ r.1

  -- what is read among the operands binds nothing
  simple_turns : (scope : Scope) (e : Tree) (before : List ℕ) → is_simple e ≡ true → AllByRecursion Listed (bound_rows e) → sites_in_turn bound before (operand_parts (simple_operand scope e)) ≡ true
  simple_turns scope (constant c) before s h = refl
  simple_turns scope (literal k) before s h = refl
  simple_turns scope (variable (flat.bound x)) before s h = refl
  simple_turns scope (operation site which es) before s h =
      let none = h.0 ∙ atoms_bound es 0 (and_right (only_reads which) (are_atoms es) s) in
      ap (λ ks. in_turn (map op.Atom (atoms_of scope es)) ks before && true) none
  simple_turns scope _ before s h = absurd (cc)

  operand_turns : (scope : Scope) (e : Tree) (n : ℕ) (before : List ℕ) → AllByRecursion Listed (bound_rows e) → sites_in_turn bound before (operand_parts (operand_at scope e n)) ≡ true
  operand_turns scope e n before h = by (is_simple e) refl
    where
      by : (b : Bool) → is_simple e ≡ b → sites_in_turn bound before (operand_parts (cond b (simple_operand scope e) (op.Atom (atom.Variable n)))) ≡ true
      by true s = simple_turns scope e before s h
      by false s = refl

  both : (before : List ℕ) (xs ys : List (ℕ × List (Operand ℕ))) → sites_in_turn bound before xs ≡ true → sites_in_turn bound before ys ≡ true → sites_in_turn bound before (xs ++ ys) ≡ true
  both before xs ys h k = list_all-append (λ s. in_turn s.1 (order_at bound s.0) before) xs ys ∙ and_of (sites_in_turn bound before xs) (sites_in_turn bound before ys) h k

  operands_turn : (scope : Scope) (es : Trees) (n : ℕ) (before : List ℕ) → AllByRecursion Listed (bound_rows_each es) → sites_in_turn bound before (operands_parts (operands_at scope es n)) ≡ true
  operands_turn scope no_trees n before h = refl
  operands_turn scope (and_tree e es) n before h =
      both before (operand_parts (operand_at scope e n)) (operands_parts (operands_at scope es (n + operand_binds e)))
      (operand_turns scope e n before (every_left Listed (bound_rows e) (bound_rows_each es) h))
      (operands_turn scope es (n + operand_binds e) before (every_right Listed (bound_rows e) (bound_rows_each es) h))

  finished_turns : (tail : Bool) (o : Operation ℕ) (before : List ℕ) → sites_in_turn bound before (operation_parts o) ≡ true → parts_in_turn bound (finished tail (tree.perform o)) before ≡ true
  finished_turns true o before h = h
  finished_turns false o before h = h

  called_turns : (tail : Bool) (a : Application ℕ) (before : List ℕ) → sites_in_turn bound before (application_parts a) ≡ true → parts_in_turn bound (called tail a) before ≡ true
  called_turns true a before h = h
  called_turns false a before h = h

  unless_turns : (b : Bool) (n : ℕ) (value body : Expression) (before : List ℕ) → parts_in_turn bound value before ≡ true
      → parts_in_turn bound body (before ++ cond b [] (n ∷ [])) ≡ true → parts_in_turn bound (bound_unless b n value body) before ≡ true
  unless_turns true n value body before h k = subst (λ xs. parts_in_turn bound body xs ≡ true) (append-nil before) k
  unless_turns false n value body before h k = and_of (parts_in_turn bound value before) (parts_in_turn bound body (before ++ n ∷ [])) h k

  cells_turn : (scope : Scope) (cs : List NewCell) (n : ℕ) (body : Expression) → ((before : List ℕ) → parts_in_turn bound body before ≡ true)
      → (before : List ℕ) → parts_in_turn bound (with_new_cells scope cs n body) before ≡ true
  cells_turn scope [] n body h before = h before
  cells_turn scope (c ∷ cs) n body h before =
      and_of (parts_in_turn bound (tree.perform (cell_operation scope c.content)) before) (parts_in_turn bound (with_new_cells scope cs (suc n) body) (before ++ n ∷ []))
      (none c.content) (cells_turn scope cs (suc n) body h (before ++ n ∷ []))
    where
      none : (v : Option flat.Variable) → parts_in_turn bound (tree.perform (cell_operation scope v)) before ≡ true
      none None = refl
      none (Some v) = refl

  module _ (starts : List ℕ) where
    -- a value that is set, bound first where it is not simple
    value_turns : (tail : Bool) (e : Tree) (scope : Scope) (n : ℕ) (o : Operation ℕ) (before : List ℕ) → parts_in_turn bound (normal starts false e scope (suc n)) before ≡ true
        → operation_parts o ≡ operand_parts (operand_at scope e n) → AllByRecursion Listed (bound_rows e)
        → parts_in_turn bound (bound_unless (is_simple e) n (normal starts false e scope (suc n)) (finished tail (tree.perform o))) before ≡ true
    value_turns tail e scope n o before h k r =
        let there = before ++ operator_variable e n in
        unless_turns (is_simple e) n (normal starts false e scope (suc n)) (finished tail (tree.perform o)) before h
        (finished_turns tail o there (ap (sites_in_turn bound there) k ∙ operand_turns scope e n there r))

    mutual
      pub normal_turns : (tail : Bool) (e : Tree) (scope : Scope) (n : ℕ) (before : List ℕ) → AllByRecursion Listed (bound_rows e) → parts_in_turn bound (normal starts tail e scope n) before ≡ true
      normal_turns tail (constant c) scope n before h = finished_turns tail (does.Operand (op.Atom (atom.Constant c))) before refl
      normal_turns tail (literal k) scope n before h = finished_turns tail (does.Operand (op.Atom (atom.Literal k))) before refl
      normal_turns tail (variable (flat.bound x)) scope n before h = finished_turns tail (does.Operand (op.Atom (atom.Variable _))) before refl
      normal_turns tail (variable (flat.free k)) scope n before h = finished_turns tail (does.Field 1 k) before refl
      normal_turns tail (global g) scope n before h = finished_turns tail (does.Global g) before refl
      normal_turns tail (set_global g e) scope n before h =
          value_turns tail e scope n (does.SetGlobal g (operand_at scope e n)) before (normal_turns false e scope (suc n) before h) refl h
      normal_turns tail (define g e) scope n before h =
          value_turns tail e scope n (does.SetGlobal g (operand_at scope e n)) before (normal_turns false e scope (suc n) before h) refl h
      normal_turns tail (branch x y z) scope n before h =
          let l = every_right Listed (bound_rows x) (bound_rows y ++ bound_rows z) h in
          and_of (parts_in_turn bound (normal starts false x scope n) before) _ (normal_turns false x scope n before (every_left Listed (bound_rows x) (bound_rows y ++ bound_rows z) h))
          (and_of (parts_in_turn bound (normal starts tail y scope (n + binds x)) before) (parts_in_turn bound (normal starts tail z scope (n + binds x + binds y)) before)
          (normal_turns tail y scope (n + binds x) before (every_left Listed (bound_rows y) (bound_rows z) l))
          (normal_turns tail z scope (n + binds x + binds y) before (every_right Listed (bound_rows y) (bound_rows z) l)))
      normal_turns tail (sequence es) scope n before h = parts_turn tail es scope n before h
      normal_turns tail (bind site x es e) scope n before h =
          inits_turn es scope n (normal starts tail e (with_variables x (init_numbers es n) scope) (n + inits_bind es))
          (λ there. normal_turns tail e (with_variables x (init_numbers es n) scope) (n + inits_bind es) there (every_right Listed (bound_rows_each es) (bound_rows e) h.1))
          before (every_left Listed (bound_rows_each es) (bound_rows e) h.1)
      normal_turns tail (make_closure m) scope n before h = finished_turns tail _ before refl
      normal_turns tail (fix_closures x ms e) scope n before h = normal_turns tail e _ (n + length ms) before h
      normal_turns tail (call site spread f es) scope n before h =
          let m = n + operands_bind es in
          let a : Application ℕ = record { site = site; spread = spread; operator = operand_at scope f m; operands = operands_at scope es n } in
          let hf = every_left Listed (bound_rows f) (bound_rows_each es) h.1 in
          let he = every_right Listed (bound_rows f) (bound_rows_each es) h.1 in
          let xs = part_variables es n in
          let there = (before ++ xs) ++ operator_variable f m in
          let parts = operand_at scope f m ∷ operands_at scope es n in
          let are = operands_are parts es scope n 1 (operator_place f) (operator_variable f m) (λ i. ap (slice_get parts) (one-add i)) (operator_is scope f m (operands_at scope es n)) in
          let turned : in_turn parts (bound_places 1 es (operator_place f)) (before ++ (xs ++ operator_variable f m)) ≡ true =
          behind parts (bound_places 1 es (operator_place f)) (xs ++ operator_variable f m) before (are_in_turn parts (bound_places 1 es (operator_place f)) (xs ++ operator_variable f m) are) in
          let here : in_turn parts (order_at bound site) there ≡ true =
          ap (λ ks. in_turn parts ks there) h.0 ∙ (ap (in_turn parts (bound_places 1 es (operator_place f))) (append_assoc before xs (operator_variable f m)) ∙ turned) in
          operands_turned es scope n (bound_unless (is_simple f) m (normal starts false f scope (suc m)) (called tail a)) before he
          (unless_turns (is_simple f) m (normal starts false f scope (suc m)) (called tail a) (before ++ xs) (normal_turns false f scope (suc m) (before ++ xs) hf)
          (called_turns tail a there (and_of (in_turn parts (order_at bound site) there) (sites_in_turn bound there (operands_parts parts)) here
          (both there (operand_parts (operand_at scope f m)) (operands_parts (operands_at scope es n)) (operand_turns scope f m there hf) (operands_turn scope es n there he)))))
      normal_turns tail (operation site which es) scope n before h =
          let o : Operation ℕ = does.Prim site which (operands_at scope es n) in
          let xs = part_variables es n in
          let there = before ++ xs in
          let parts = operands_at scope es n in
          let are = operands_are parts es scope n 0 [] [] (λ i. ap (slice_get parts) (zero-add i)) tt in
          let turned : in_turn parts (bound_places 0 es []) (before ++ (xs ++ [])) ≡ true =
          behind parts (bound_places 0 es []) (xs ++ []) before (are_in_turn parts (bound_places 0 es []) (xs ++ []) are) in
          let here : in_turn parts (order_at bound site) there ≡ true =
          ap (λ ks. in_turn parts ks there) h.0 ∙ (ap (λ ys. in_turn parts (bound_places 0 es []) (before ++ ys)) (sym (append-nil xs)) ∙ turned) in
          operands_turned es scope n (finished tail (tree.perform o)) before h.1
          (finished_turns tail o there (and_of (in_turn parts (order_at bound site) there) (sites_in_turn bound there (operands_parts parts)) here (operands_turn scope es n there h.1)))
      normal_turns tail (new_cells cs e) scope n before h =
          cells_turn scope cs n _ (λ there. normal_turns tail e _ (n + length cs) there h) before
      normal_turns tail (cell_get v) scope n before h = finished_turns tail (does.CellGet (source_of scope v)) before refl
      normal_turns tail (cell_set v e) scope n before h =
          value_turns tail e scope n (does.CellSet (source_of scope v) (operand_at scope e n)) before (normal_turns false e scope (suc n) before h) refl h

      parts_turn : (tail : Bool) (es : Trees) (scope : Scope) (n : ℕ) (before : List ℕ) → AllByRecursion Listed (bound_rows_each es) → parts_in_turn bound (normal_parts starts tail es scope n) before ≡ true
      parts_turn tail no_trees scope n before h = finished_turns tail (does.Operand (op.Atom (atom.Constant Unspecified))) before refl
      parts_turn tail (and_tree e no_trees) scope n before h = normal_turns tail e scope n before (every_left Listed (bound_rows e) [] h)
      parts_turn tail (and_tree e (and_tree e' es)) scope n before h =
          let l = every_left Listed (bound_rows e) (bound_rows_each (and_tree e' es)) h in
          let r = every_right Listed (bound_rows e) (bound_rows_each (and_tree e' es)) h in
          by (ends_in_call e) (λ m. normal_turns false e scope m before l) (λ m there. parts_turn tail (and_tree e' es) scope m there r)
        where
          by : (b : Bool) → ((m : ℕ) → parts_in_turn bound (normal starts false e scope m) before ≡ true)
              → ((m : ℕ) (there : List ℕ) → parts_in_turn bound (normal_parts starts tail (and_tree e' es) scope m) there ≡ true)
              → parts_in_turn bound (cond b (tree.bind n (normal starts false e scope (suc n)) (normal_parts starts tail (and_tree e' es) scope (suc n + binds e)))
              (unless_atom (normal starts false e scope n) (normal_parts starts tail (and_tree e' es) scope (n + binds e)))) before ≡ true
          by true first rest = and_of (parts_in_turn bound (normal starts false e scope (suc n)) before) _ (first (suc n)) (rest (suc n + binds e) (before ++ n ∷ []))
          by false first rest = bare (is_bare_atom (normal starts false e scope n))
            where
              bare : (b : Bool) → parts_in_turn bound (cond b (normal_parts starts tail (and_tree e' es) scope (n + binds e))
                  (tree.sequence (normal starts false e scope n) (normal_parts starts tail (and_tree e' es) scope (n + binds e)))) before ≡ true
              bare true = rest (n + binds e) before
              bare false = and_of (parts_in_turn bound (normal starts false e scope n) before) _ (first n) (rest (n + binds e) before)

      operands_turned : (es : Trees) (scope : Scope) (n : ℕ) (body : Expression) (before : List ℕ) → AllByRecursion Listed (bound_rows_each es)
          → parts_in_turn bound body (before ++ part_variables es n) ≡ true → parts_in_turn bound (with_operands starts es scope n body) before ≡ true
      operands_turned no_trees scope n body before h k = subst (λ xs. parts_in_turn bound body xs ≡ true) (append-nil before) k
      operands_turned (and_tree e es) scope n body before h k =
          let l = every_left Listed (bound_rows e) (bound_rows_each es) h in
          let r = every_right Listed (bound_rows e) (bound_rows_each es) h in
          unless_turns (is_simple e) n (normal starts false e scope (suc n)) (with_operands starts es scope (n + operand_binds e) body) before (normal_turns false e scope (suc n) before l)
          (operands_turned es scope (n + operand_binds e) body (before ++ operator_variable e n) r
          (subst (λ xs. parts_in_turn bound body xs ≡ true) (split (is_simple e)) k))
        where
          split : (b : Bool) → before ++ cond b (part_variables es (n + operand_binds e)) (n ∷ part_variables es (n + operand_binds e))
              ≡ (before ++ cond b [] (n ∷ [])) ++ part_variables es (n + operand_binds e)
          split true = ap (λ xs. xs ++ part_variables es (n + operand_binds e)) (sym (append-nil before))
          split false = sym (append_assoc before (n ∷ []) (part_variables es (n + operand_binds e)))

      inits_turn : (es : Trees) (scope : Scope) (n : ℕ) (body : Expression) → ((there : List ℕ) → parts_in_turn bound body there ≡ true)
          → (before : List ℕ) → AllByRecursion Listed (bound_rows_each es) → parts_in_turn bound (with_inits starts es scope n body) before ≡ true
      inits_turn no_trees scope n body k before h = k before
      inits_turn (and_tree e es) scope n body k before h =
          and_of (parts_in_turn bound (normal starts false e scope (suc n)) before) _ (normal_turns false e scope (suc n) before (every_left Listed (bound_rows e) (bound_rows_each es) h))
          (inits_turn es scope (suc n + binds e) body k (before ++ n ∷ []) (every_right Listed (bound_rows e) (bound_rows_each es) h))

    pub procedures_turn : (bs : List Body) → AllByRecursion Listed (bound_rows_bodies bs) → AllByRecursion (λ b. parts_in_turn bound (procedure_code starts b).expression [] ≡ true) bs
    procedures_turn [] h = tt
    procedures_turn (b ∷ bs) h = (
      normal_turns true b.code (with_variables b.first (numbers 2 b.formals) []) (2 + b.formals) [] (every_left Listed (bound_rows b.code) (bound_rows_bodies bs) h),
      procedures_turn bs (every_right Listed (bound_rows b.code) (bound_rows_bodies bs) h),
    )
