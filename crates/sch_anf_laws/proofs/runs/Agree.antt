-- The variables of a flat body and those of its normal form, and the operands that are simple.
use Rattle.std.proofs.Common.{◌≡◌, ℕ, zero, suc, ◌+◌, ◌<◌, ◌≤◌, Bool, true, false, cond, List, [], ◌∷◌, length, Some, refl, ap, ◌∙◌, arith}
use Rattle.std.specs.Prelude.{slice_get, nat_eq, nat_lt, ◌||◌}
use Rattle.sch_word.specs.declared.primitive.Primitive.{Primitive}
use Rattle.sch_word.specs.declared.primitive.Primitive.TheVariants.{Eq, Eqv, IsBoolean, IsPair, IsNull, IsSymbol, IsInteger, IsChar, IsString, IsVector, IsProcedure}
use Rattle.sch_word.specs.values.Values.{Value, constant_value}
use Rattle.sch_word.specs.runs.Store.{Store}
use Rattle.sch_word.specs.trees.NumberSets.{has}
use Rattle.sch_word.specs.trees.Bindings.{value_or, value_of, with_variables, scope_with}
use Rattle.sch_word.specs.values.Primitives.{operands_of}
use Rattle.sch_word.specs.values.PrimitiveRows.{primitive, unary, binary}
use Rattle.sch_word.specs.runs.Computation.{Outcome, Action, gives, State, in_store, read_literal, in_order, blanks}
use Rattle.sch_word.proofs.facts.Booleans.{and_left, and_right}
use Rattle.sch_flat.specs.Tree.{Tree, Trees, Variable, bound, free, constant, literal, variable, operation, no_trees, and_tree, count}
use Rattle.sch_flat.specs.Meaning as from
use Rattle.sch_flat.specs.Meaning.{value_in, and_values}
use Rattle.sch_word.specs.runs.Procedures.{Procedure}
use Rattle.sch_flat.specs.Valid.{is_known}
use Rattle.sch_control.specs.declared.operation.Atom.TheVariants as atom
use Rattle.sch_control.specs.declared.operation.Operand.TheVariants as operand
use Rattle.sch_control.specs.Operations.{field, atom_value, atom_values, operand_value, operand_values, source_value, given}
use Rattle.sch_control.specs.Meaning as to
use Rattle.sch_control.specs.Valid.{only_reads}
use Rattle.sch_control.proofs.Environments.{put_other}
use Rattle.sch_anf_laws.specs.Normal.{Scope, number_of, source_of, is_atom, are_atoms, is_simple, atom_of, atoms_of, simple_operand, operands_at, operand_binds, operands_bind, binds, bound_places, init_numbers, numbers_for}
use Rattle.sch_anf_laws.proofs.runs.Orders.{Parts, no_parts, and_simple, and_bound}
use Rattle.sch_anf_laws.proofs.runs.Worlds.{Setting, Reached, images, state_of}
use Rattle.sch_anf_laws.proofs.runs.Fine.{Fine, FineEach, simples, operands_rest}

-- what a variable has below a number stays
pub record Below (n : ℕ) (environment after : to.Environment) : Type 0 where
  pub at : (x : ℕ) → x < n → after x ≡ environment x

pub below_self : (n : ℕ) (environment : to.Environment) → Below n environment environment
below_self n environment = record { at = λ x l. refl }

pub below_on : (n m : ℕ) (f g h : to.Environment) → n ≤ m → Below n f g → Below m g h → Below n f h
below_on n m f g h l p q = record { at = λ x k. q.at x (omega (arith, l, k)) ∙ p.at x k }

pub below_put : (n : ℕ) (f g : to.Environment) (v : Value) → Below n f g → Below n f (to.put g n v)
below_put n f g v h = record { at = λ x l. put_other g n v x (λ e. omega (arith, l, e)) ∙ h.at x l }

pub atom_simple : (e : Tree) → is_atom e ≡ true → is_simple e ≡ true
atom_simple (operation site which es) h = absurd (cc)
atom_simple e h = h

-- as many numbers and operands as trees, and as many numbers as items
pub init_numbers_length : (es : Trees) (n : ℕ) → length (init_numbers es n) ≡ count es
init_numbers_length no_trees n = refl
init_numbers_length (and_tree e es) n = ap suc (init_numbers_length es (suc n + binds e))

pub operands_length : (scope : Scope) (es : Trees) (n : ℕ) → length (operands_at scope es n) ≡ count es
operands_length scope no_trees n = refl
operands_length scope (and_tree e es) n = ap suc (operands_length scope es (n + operand_binds e))

pub numbers_for_length : {A : Type 0} (xs : List A) (n : ℕ) → length (numbers_for xs n) ≡ length xs
numbers_for_length [] n = refl
numbers_for_length (x ∷ xs) n = ap suc (numbers_for_length xs (suc n))

-- these variables have these values, and are below a number
abbrev pub Held : (m : ℕ) → to.Environment → List ℕ → List Value → Type 0
Held m environment [] [] = Unit {0}
Held m environment (y ∷ ys) (v ∷ vs) = (y < m) × (environment y ≡ Some v) × Held m environment ys vs
Held m environment _ _ = ⊥

pub held_below : (m n : ℕ) (f g : to.Environment) (ys : List ℕ) (vs : List Value) → m ≤ n → Below m f g → Held m f ys vs → Held n g ys vs
held_below m n f g [] [] l b h = tt
held_below m n f g (y ∷ ys) (v ∷ vs) l b h = (omega (arith, l, h.0), b.at y h.0 ∙ h.1, held_below m n f g ys vs l b h.2)
held_below m n f g [] (v ∷ vs) l b h = absurd h
held_below m n f g (y ∷ ys) [] l b h = absurd h

-- each part that is not simple is bound to its value
abbrev pub Filled : Trees → (n : ℕ) → List Value → to.Environment → Type 0
Filled no_trees n [] environment = Unit {0}
Filled (and_tree e es) n (w ∷ ws) environment = (is_simple e ≡ false → environment n ≡ Some w) × Filled es (n + operand_binds e) ws environment
Filled _ n _ environment = ⊥

pub filled_below : (es : Trees) (n m : ℕ) (ws : List Value) (f g : to.Environment) → n + operands_bind es ≤ m → Below m f g → Filled es n ws f → Filled es n ws g
filled_below no_trees n m [] f g l b h = tt
filled_below (and_tree e es) n m (w ∷ ws) f g l b h =
    (λ i. let z : operand_binds e ≡ suc (binds e) = rw i refl in b.at n (omega (arith, l, z)) ∙ h.0 i, filled_below es (n + operand_binds e) m ws f g (omega (arith, l)) b h.1)
filled_below no_trees n m (w ∷ ws) f g l b h = absurd h
filled_below (and_tree e es) n m [] f g l b h = absurd h

module _ (a : Setting) (start : State Procedure) (fields : ℕ) where
  -- Each variable of a flat body is bound below n and has its value in the other environment; so has each field of
  -- the closure in variable 1, in every state that is reached.
  pub record Agrees (names : List ℕ) (scope : Scope) (n : ℕ) (h : from.Environment) (environment : to.Environment) : Type 0 where
    pub two : 2 ≤ n
    pub at : (x : ℕ) → has x names ≡ true → (number_of scope x < n) × (environment (number_of scope x) ≡ Some (value_of x h.variables))
    pub field : (k : ℕ) → nat_lt k fields ≡ true → (s : State Procedure) → Reached a start s → field (environment 1) k (images a.starts s.procedures) ≡ Some (value_or (slice_get h.fields k))

  pub agrees_below : (names : List ℕ) (scope : Scope) (n m : ℕ) (h : from.Environment) (f g : to.Environment) → n ≤ m → Below n f g → Agrees names scope n h f → Agrees names scope m h g
  agrees_below names scope n m h f g l b w = record {
    two = omega (arith, l, w.two);
    at = λ x i. (omega (arith, l, (w.at x i).0), b.at (number_of scope x) (w.at x i).0 ∙ (w.at x i).1);
    field = λ k l s r. rw (b.at 1 (omega (arith, w.two))) (w.field k l s r);
  }

  abbrev pub push : ℕ → Value → from.Environment → from.Environment
  push x v h = record { variables = (x, v) ∷ h.variables; fields = h.fields }

  pub agrees_push : (names : List ℕ) (scope : Scope) (n : ℕ) (h : from.Environment) (environment : to.Environment) (x y : ℕ) (v : Value) → y < n → environment y ≡ Some v
      → Agrees names scope n h environment → Agrees (x ∷ names) ((x, y) ∷ scope) n (push x v h) environment
  agrees_push names scope n h environment x y v l e w = record { two = w.two; at = λ z i. go z (nat_eq z x) refl i; field = w.field }
    where
      go : (z : ℕ) (b : Bool) → nat_eq z x ≡ b → (b || has z names) ≡ true
          → (number_of ((x, y) ∷ scope) z < n) × (environment (number_of ((x, y) ∷ scope) z) ≡ Some (value_of z ((x, v) ∷ h.variables)))
      go z true k i = rw k (l, e)
      go z false k i = rw k (w.at z i)

  pub agrees_with : (names : List ℕ) (scope : Scope) (n : ℕ) (h : from.Environment) (environment : to.Environment) (x m : ℕ) (ys : List ℕ) (vs : List Value) → length ys ≡ m → Held n environment ys vs
      → Agrees names scope n h environment → Agrees (scope_with x m names) (with_variables x ys scope) n (and_values x vs h) environment
  agrees_with names scope n h environment x zero [] [] e k w = w
  agrees_with names scope n h environment x (suc m) [] [] e k w = absurd (omega (arith, e))
  agrees_with names scope n h environment x zero (y ∷ ys) (v ∷ vs) e k w = absurd (omega (arith, e))
  agrees_with names scope n h environment x (suc m) (y ∷ ys) (v ∷ vs) e k w =
      agrees_with (x ∷ names) ((x, y) ∷ scope) n (push x v h) environment (suc x) m ys vs (omega (arith, e)) k.2 (agrees_push names scope n h environment x y v k.0 k.1 w)
  agrees_with names scope n h environment x m [] (v ∷ vs) e k w = absurd k
  agrees_with names scope n h environment x m (y ∷ ys) [] e k w = absurd k

  -- ## Variables

  pub source_given : (names : List ℕ) (scope : Scope) (n : ℕ) (h : from.Environment) (environment : to.Environment) (v : Variable) → is_known names fields v ≡ true
      → Agrees names scope n h environment → (s : State Procedure) → Reached a start s
      → source_value environment (state_of a.starts s) (source_of scope v) ≡ Some (value_in h v)
  source_given names scope n h environment (bound x) f w s r = (w.at x f).1
  source_given names scope n h environment (free k) f w s r = w.field k f s r

  -- ## Simple parts

  literal_given : (k : ℕ) (v : Value) (s : State Procedure) → slice_get s.store.constants.literals k ≡ Some v → in_store (read_literal k) s ≡ gives v s
  literal_given k v s e = rw e refl

  unary_given : (us : List Value) (row : Value → Action Value) (t : Store) → length us ≡ 1 → ((u : Value) → (v : Value) × (row u t ≡ gives v t)) → (v : Value) × (unary us row t ≡ gives v t)
  unary_given [] row t l h = absurd (omega (arith, l))
  unary_given (u ∷ []) row t l h = h u
  unary_given (u ∷ (u' ∷ us)) row t l h = absurd (omega (arith, l))

  binary_given : (us : List Value) (row : Value → Value → Action Value) (t : Store) → length us ≡ 2 → ((u u' : Value) → (v : Value) × (row u u' t ≡ gives v t))
      → (v : Value) × (binary us row t ≡ gives v t)
  binary_given [] row t l h = absurd (omega (arith, l))
  binary_given (u ∷ []) row t l h = absurd (omega (arith, l))
  binary_given (u ∷ (u' ∷ [])) row t l h = h u u'
  binary_given (u ∷ (u' ∷ (u'' ∷ us))) row t l h = absurd (omega (arith, l))

  -- a read gives a value and changes nothing
  read_given : (which : Primitive) (us : List Value) (t : Store) → only_reads which ≡ true → length us ≡ operands_of which → (v : Value) × (primitive which us t ≡ gives v t)
  read_given Eq us t r l = binary_given us _ t l (λ u u'. (_, refl))
  read_given Eqv us t r l = binary_given us _ t l (λ u u'. (_, refl))
  read_given IsBoolean us t r l = unary_given us _ t l (λ u. (_, refl))
  read_given IsPair us t r l = unary_given us _ t l (λ u. (_, refl))
  read_given IsNull us t r l = unary_given us _ t l (λ u. (_, refl))
  read_given IsSymbol us t r l = unary_given us _ t l (λ u. (_, refl))
  read_given IsInteger us t r l = unary_given us _ t l (λ u. (_, refl))
  read_given IsChar us t r l = unary_given us _ t l (λ u. (_, refl))
  read_given IsString us t r l = unary_given us _ t l (λ u. (_, refl))
  read_given IsVector us t r l = unary_given us _ t l (λ u. (_, refl))
  read_given IsProcedure us t r l = unary_given us _ t l (λ u. (_, refl))
  read_given _ us t r l = absurd (cc)

  module _ (enter : from.Enter) (names : List ℕ) (scope : Scope) (h : from.Environment) (environment : to.Environment) (depth : ℕ) where
    abbrev value : Tree → State Procedure → Outcome (State Procedure) Value
    value e = from.evaluate a.orders enter e h depth false

    abbrev values : Trees → List (State Procedure → Outcome (State Procedure) Value)
    values es = from.each a.orders enter es h depth

    atom_given : (n : ℕ) (e : Tree) → is_atom e ≡ true → Fine a fields e names → Agrees names scope n h environment → (s : State Procedure) → Reached a start s
        → (u : Value) × (value e s ≡ gives u s) × (atom_value environment s.store (atom_of scope e) ≡ Some u)
    atom_given n (constant c) i f w s r = (constant_value c, refl, refl)
    atom_given n (literal k) i f w s r =
        let g = a.literal k f in
        let e : slice_get s.store.constants.literals k ≡ Some g.0 = ap (λ c. slice_get c.literals k) r.constants ∙ g.1 in
        (g.0, literal_given k g.0 s e, e)
    atom_given n (variable (bound x)) i f w s r = (value_of x h.variables, refl, (w.at x f).1)
    atom_given n _ i f w s r = absurd (cc)

    atoms_given : (n : ℕ) (es : Trees) → are_atoms es ≡ true → FineEach a fields es names → Agrees names scope n h environment → (s : State Procedure) → Reached a start s
        → (us : List Value) × Parts s (values es) (blanks (values es)) us (simples es) × (atom_values environment s.store (atoms_of scope es) ≡ Some us) × (length us ≡ count es)
    atoms_given n no_trees i f w s r = ([], no_parts, refl, refl)
    atoms_given n (and_tree e es) i f w s r =
        let here = atom_given n e (and_left (is_atom e) (are_atoms es) i) f.0 w s r in
        let more = atoms_given n es (and_right (is_atom e) (are_atoms es) i) f.1 w s r in
        let simple : is_simple e ≡ true = atom_simple e (and_left (is_atom e) (are_atoms es) i) in
        (here.0 ∷ more.0, rw simple (and_simple here.1 more.1), rw (here.2, more.2) refl, ap suc more.3)

    atoms_first : (es : Trees) (place : ℕ) (last : List ℕ) → are_atoms es ≡ true → bound_places place es last ≡ last
    atoms_first no_trees place last i = refl
    atoms_first (and_tree e es) place last i =
        rw (atom_simple e (and_left (is_atom e) (are_atoms es) i)) (atoms_first es (suc place) last (and_right (is_atom e) (are_atoms es) i))

    read_done : (which : Primitive) (us : List Value) (u : Value) (s : State Procedure) → primitive which us s.store ≡ gives u s.store → in_store (primitive which us) s ≡ gives u s
    read_done which us u s e = rw e refl

    pub simple_given : (n : ℕ) (e : Tree) → is_simple e ≡ true → Fine a fields e names → Agrees names scope n h environment → (s : State Procedure) → Reached a start s
        → (u : Value) × (value e s ≡ gives u s) × (operand_value environment s.store (simple_operand scope e) ≡ Some u)
    simple_given n (operation site which es) i f w s r =
        let atoms = and_right (only_reads which) (are_atoms es) i in
        let known = atoms_given n es atoms f.2 w s r in
        let order = operands_rest (State Procedure) es (a.orders site) f.0 in
        let only_rest : a.orders site ≡ order.rest = order.is ∙ atoms_first es 0 order.rest atoms in
        let done : in_order (a.orders site) (values es) (blanks (values es)) s ≡ gives known.0 s = rw only_rest (order.settles known.1) in
        let found = read_given which known.0 s.store (and_left (only_reads which) (are_atoms es) i) (known.3 ∙ f.1) in
        (found.0, rw done (read_done which known.0 found.0 s found.1), rw known.2 (ap (λ o. given o) found.1))
    simple_given n e i f w s r = atom_given n e i f w s r

    -- ## Parts, once those that are not simple are bound

    -- the value that a part has in the end
    pub part_given : (m n : ℕ) (e : Tree) (w : Value) (b : Bool) → is_simple e ≡ b → Fine a fields e names → Agrees names scope m h environment → (s : State Procedure) → Reached a start s
        → (b ≡ false → environment n ≡ Some w)
        → (u : Value) × ((cs : List (State Procedure → Outcome (State Procedure) Value)) (ws us : List Value) (simple : List Bool) → Parts s cs ws us simple
        → Parts s (value e ∷ cs) (w ∷ ws) (u ∷ us) (b ∷ simple))
        × (operand_value environment s.store (cond b (simple_operand scope e) (operand.Atom (atom.Variable n))) ≡ Some u)
    part_given m n e w true i f k s r h = let g = simple_given m e i f k s r in (g.0, λ cs ws us simple parts. and_simple g.1 parts, g.2)
    part_given m n e w false i f k s r h = (w, λ cs ws us simple parts. and_bound parts, h refl)

    pub parts_given : (m n : ℕ) (es : Trees) (ws : List Value) → FineEach a fields es names → Agrees names scope m h environment → (s : State Procedure) → Reached a start s → Filled es n ws environment
        → (us : List Value) × Parts s (values es) ws us (simples es) × (operand_values environment s.store (operands_at scope es n) ≡ Some us)
    parts_given m n no_trees [] f k s r l = ([], no_parts, refl)
    parts_given m n (and_tree e es) (w ∷ ws) f k s r l =
        let here = part_given m n e w (is_simple e) refl f.0 k s r l.0 in
        let more = parts_given m (n + operand_binds e) es ws f.1 k s r l.1 in
        (here.0 ∷ more.0, here.1 (values es) ws more.0 (simples es) more.1, rw (here.2, more.2) refl)
    parts_given m n no_trees (w ∷ ws) f k s r l = absurd l
    parts_given m n (and_tree e es) [] f k s r l = absurd l
