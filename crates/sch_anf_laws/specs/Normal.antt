-- What normalizing makes of a flat tree: an expression of the language Control.
use Rattle.std.specs.Prelude.{ℕ, suc, ◌+◌, ◌-◌, Bool, true, false, ◌&&◌, ◌||◌, cond, nat_le, List, [], ◌∷◌, ◌++◌, length, map, take, drop, Option, Some, None, codes}
use Rattle.std.specs.Option.{unwrap_or}
use Rattle.sch_word.specs.declared.constant.Const.TheVariants.{Unspecified}
use Rattle.sch_word.specs.trees.Bindings.{Bindings, bound_to, numbers, with_variables}
use Rattle.sch_word.specs.runs.Orders.{order_or_none}
use Rattle.sch_flat.specs.Tree as from
use Rattle.sch_flat.specs.Tree.{Tree, Trees, Variable, bound, free, Made, NewCell, constant, literal, variable, global, set_global, define, branch, sequence, make_closure, fix_closures, call, operation, new_cells, cell_get, cell_set, no_trees, and_tree}
use Rattle.sch_control.specs.declared.operation.Atom.{Atom}
use Rattle.sch_control.specs.declared.operation.Atom.TheVariants as atom
use Rattle.sch_control.specs.declared.operation.Operand.{Operand}
use Rattle.sch_control.specs.declared.operation.Operand.TheVariants as operand
use Rattle.sch_control.specs.declared.operation.Source.{Source}
use Rattle.sch_control.specs.declared.operation.Source.TheVariants as source
use Rattle.sch_control.specs.declared.operation.Closure.{Closure}
use Rattle.sch_control.specs.declared.operation.Member.{Member}
use Rattle.sch_control.specs.declared.operation.Operation.{Operation}
use Rattle.sch_control.specs.declared.operation.Operation.TheVariants as does
use Rattle.sch_control.specs.declared.operation.Application.{Application}
use Rattle.sch_control.specs.Sizes.{is_bare_atom}
use Rattle.sch_control.specs.Valid.{only_reads}
use Rattle.sch_control.specs.Tree as to
use Rattle.sch_control.specs.Tree.{Expression}

-- ## Variables

-- the numbers that the variables of the flat body have in the new one
abbrev pub Scope : Type 0
Scope = Bindings ℕ

abbrev pub number_of : Scope → ℕ → ℕ
number_of scope x = unwrap_or (bound_to x scope) 0

-- a variable of the body, or a field of the closure in variable 1
abbrev pub source_of : Scope → Variable → Source ℕ
source_of scope (bound x) = source.Atom (atom.Variable (number_of scope x))
source_of scope (free k) = source.Field 1 k

-- ## Simple parts

-- a constant, a literal or a variable of the body
abbrev pub is_atom : Tree → Bool
is_atom (constant c) = true
is_atom (literal k) = true
is_atom (variable (bound x)) = true
is_atom _ = false

abbrev pub are_atoms : Trees → Bool
are_atoms no_trees = true
are_atoms (and_tree e es) = is_atom e && are_atoms es

-- an atom, or a primitive that only reads, over atoms
abbrev pub is_simple : Tree → Bool
is_simple (operation site which es) = only_reads which && are_atoms es
is_simple e = is_atom e

-- the atom that a tree is, where it is one
abbrev pub atom_of : Scope → Tree → Atom ℕ
atom_of scope (constant c) = atom.Constant c
atom_of scope (literal k) = atom.Literal k
atom_of scope (variable (bound x)) = atom.Variable (number_of scope x)
atom_of scope _ = atom.Variable 0

abbrev pub atoms_of : Scope → Trees → List (Atom ℕ)
atoms_of scope no_trees = []
atoms_of scope (and_tree e es) = atom_of scope e ∷ atoms_of scope es

-- the operand that a tree is, where it is simple
abbrev pub simple_operand : Scope → Tree → Operand ℕ
simple_operand scope (operation site which es) = operand.Read site which (atoms_of scope es)
simple_operand scope e = operand.Atom (atom_of scope e)

-- ## Values that are dropped

-- whether the value of a tree may be that of a call
abbrev mutual
  pub ends_in_call : Tree → Bool
  ends_in_call (branch a b c) = ends_in_call b || ends_in_call c
  ends_in_call (sequence es) = last_in_call es
  ends_in_call (from.bind site first es e) = ends_in_call e
  ends_in_call (fix_closures first ms e) = ends_in_call e
  ends_in_call (call site spread f es) = true
  ends_in_call (new_cells cs e) = ends_in_call e
  ends_in_call _ = false

  pub last_in_call : Trees → Bool
  last_in_call no_trees = false
  last_in_call (and_tree e no_trees) = ends_in_call e
  last_in_call (and_tree e (and_tree e' es)) = last_in_call (and_tree e' es)

-- A part of a sequence before the last, round what follows. Where only an atom is left of it, it leaves nothing, since
-- to read an atom does nothing.
abbrev pub unless_atom : (first rest : Expression) → Expression
unless_atom first rest = cond (is_bare_atom first) rest (to.sequence first rest)

-- ## How many variables are bound

-- a part that is not simple is bound to a variable of its own
abbrev pub part_binds : (simple : Bool) → (inside : ℕ) → ℕ
part_binds simple inside = cond simple 0 (suc inside)

abbrev mutual
  pub binds : Tree → ℕ
  binds (constant c) = 0
  binds (literal k) = 0
  binds (variable v) = 0
  binds (global g) = 0
  binds (set_global g e) = part_binds (is_simple e) (binds e)
  binds (define g e) = part_binds (is_simple e) (binds e)
  binds (branch a b c) = binds a + (binds b + binds c)
  binds (sequence es) = binds_parts es
  binds (from.bind site first es e) = inits_bind es + binds e
  binds (make_closure m) = 0
  binds (fix_closures first ms e) = length ms + binds e
  binds (call site spread f es) = operands_bind es + part_binds (is_simple f) (binds f)
  binds (operation site which es) = operands_bind es
  binds (new_cells cs e) = length cs + binds e
  binds (cell_get v) = 0
  binds (cell_set v e) = part_binds (is_simple e) (binds e)

  -- a part of a sequence before the last is bound where its value may be that of a call
  pub binds_parts : Trees → ℕ
  binds_parts no_trees = 0
  binds_parts (and_tree e no_trees) = binds e
  binds_parts (and_tree e (and_tree e' es)) = cond (ends_in_call e) (suc (binds e)) (binds e) + binds_parts (and_tree e' es)

  pub operands_bind : Trees → ℕ
  operands_bind no_trees = 0
  operands_bind (and_tree e es) = part_binds (is_simple e) (binds e) + operands_bind es

  pub inits_bind : Trees → ℕ
  inits_bind no_trees = 0
  inits_bind (and_tree e es) = suc (binds e) + inits_bind es

abbrev pub operand_binds : Tree → ℕ
operand_binds e = part_binds (is_simple e) (binds e)

-- ## Operands

-- The operand for a part whose variable, if it needs one, is n.
abbrev pub operand_at : Scope → Tree → (n : ℕ) → Operand ℕ
operand_at scope e n = cond (is_simple e) (simple_operand scope e) (operand.Atom (atom.Variable n))

-- the operands for some parts; the variables of the parts are numbered from n on, each before those inside it
abbrev pub operands_at : Scope → Trees → (n : ℕ) → List (Operand ℕ)
operands_at scope no_trees n = []
operands_at scope (and_tree e es) n = operand_at scope e n ∷ operands_at scope es (n + operand_binds e)

-- the numbers of the variables of inits
abbrev pub init_numbers : Trees → (n : ℕ) → List ℕ
init_numbers no_trees n = []
init_numbers (and_tree e es) n = n ∷ init_numbers es (suc n + binds e)

-- as many numbers as a list is long, from n on
abbrev pub numbers_for : {A : Type 0} → List A → (n : ℕ) → List ℕ
numbers_for [] n = []
numbers_for (x ∷ xs) n = n ∷ numbers_for xs (suc n)

-- ## Labels

-- how many top-level forms stand before the body of a label, where `starts` has for each form how many
-- bodies stand before those of its procedures
abbrev pub forms_before : (starts : List ℕ) → (label : ℕ) → ℕ
forms_before [] label = 0
forms_before (start ∷ starts) label = cond (nat_le start label) 1 0 + forms_before starts label

-- each form is a body of its own, directly before those of its procedures
abbrev pub new_label : (starts : List ℕ) → (label : ℕ) → ℕ
new_label starts label = label + forms_before starts label

-- ## Closures and cells

abbrev pub closure_of : (starts : List ℕ) → Scope → Made → Closure ℕ
closure_of starts scope m = record { label = new_label starts m.label; fields = map (source_of scope) m.fields }

abbrev pub members_of : (starts : List ℕ) → Scope → List Made → (n : ℕ) → List (Member ℕ)
members_of starts scope [] n = []
members_of starts scope (m ∷ ms) n = record { at = n; closure = closure_of starts scope m } ∷ members_of starts scope ms (suc n)

abbrev pub cell_operation : Scope → Option Variable → Operation ℕ
cell_operation scope None = does.UnsetCell
cell_operation scope (Some v) = does.NewCell (source_of scope v)

-- new cells, one after another
abbrev pub with_new_cells : Scope → List NewCell → (n : ℕ) → Expression → Expression
with_new_cells scope [] n body = body
with_new_cells scope (c ∷ cs) n body = to.bind n (to.perform (cell_operation scope c.content)) (with_new_cells scope cs (suc n) body)

abbrev pub cells_scope : List NewCell → (n : ℕ) → Scope → Scope
cells_scope [] n scope = scope
cells_scope (c ∷ cs) n scope = cells_scope cs (suc n) ((c.variable, n) ∷ scope)

-- ## Expressions

-- what ends a body in a tail context, with a value
abbrev pub finished : (tail : Bool) → Expression → Expression
finished true e = to.return e
finished false e = e

abbrev pub called : (tail : Bool) → Application ℕ → Expression
called true a = to.tail_call a
called false a = to.call a []

-- a part round what follows: it is bound where it is not simple
abbrev pub bound_unless : (simple : Bool) → (n : ℕ) → (value body : Expression) → Expression
bound_unless simple n value body = cond simple body (to.bind n value body)

module _ (starts : List ℕ) where
  -- The expression for a tree, whose variables are numbered from n on. `tail` says whether it stands in a tail
  -- context of a procedure's body (R5RS 3.5).
  abbrev mutual
    pub normal : (tail : Bool) → Tree → Scope → (n : ℕ) → Expression
    normal tail (constant c) scope n = finished tail (to.perform (does.Operand (operand.Atom (atom.Constant c))))
    normal tail (literal k) scope n = finished tail (to.perform (does.Operand (operand.Atom (atom.Literal k))))
    normal tail (variable (bound x)) scope n = finished tail (to.perform (does.Operand (operand.Atom (atom.Variable (number_of scope x)))))
    normal tail (variable (free k)) scope n = finished tail (to.perform (does.Field 1 k))
    normal tail (global g) scope n = finished tail (to.perform (does.Global g))
    normal tail (set_global g e) scope n = bound_unless (is_simple e) n (normal false e scope (suc n)) (finished tail (to.perform (does.SetGlobal g (operand_at scope e n))))
    normal tail (define g e) scope n = bound_unless (is_simple e) n (normal false e scope (suc n)) (finished tail (to.perform (does.SetGlobal g (operand_at scope e n))))
    normal tail (branch a b c) scope n =
        to.branch (normal false a scope n) (normal tail b scope (n + binds a)) (normal tail c scope (n + binds a + binds b))
    normal tail (sequence es) scope n = normal_parts tail es scope n
    normal tail (from.bind site first es e) scope n =
        with_inits es scope n (normal tail e (with_variables first (init_numbers es n) scope) (n + inits_bind es))
    normal tail (make_closure m) scope n = finished tail (to.perform (does.MakeClosure (closure_of starts scope m)))
    normal tail (fix_closures first ms e) scope n =
        to.fix (members_of starts (with_variables first (numbers_for ms n) scope) ms n) (normal tail e (with_variables first (numbers_for ms n) scope) (n + length ms))
    normal tail (call site spread f es) scope n =
        with_operands es scope n (bound_unless (is_simple f) (n + operands_bind es) (normal false f scope (suc (n + operands_bind es)))
        (called tail (record { site = site; spread = spread; operator = operand_at scope f (n + operands_bind es); operands = operands_at scope es n })))
    normal tail (operation site which es) scope n =
        with_operands es scope n (finished tail (to.perform (does.Prim site which (operands_at scope es n))))
    normal tail (new_cells cs e) scope n =
        with_new_cells scope cs n (normal tail e (cells_scope cs n scope) (n + length cs))
    normal tail (cell_get v) scope n = finished tail (to.perform (does.CellGet (source_of scope v)))
    normal tail (cell_set v e) scope n = bound_unless (is_simple e) n (normal false e scope (suc n)) (finished tail (to.perform (does.CellSet (source_of scope v) (operand_at scope e n))))

    -- The parts of a sequence, of which the last is in the sequence's own context. No call stands where its value
    -- is dropped, and no atom.
    pub normal_parts : (tail : Bool) → Trees → Scope → (n : ℕ) → Expression
    normal_parts tail no_trees scope n = finished tail (to.perform (does.Operand (operand.Atom (atom.Constant Unspecified))))
    normal_parts tail (and_tree e no_trees) scope n = normal tail e scope n
    normal_parts tail (and_tree e (and_tree e' es)) scope n =
        cond (ends_in_call e)
        (to.bind n (normal false e scope (suc n)) (normal_parts tail (and_tree e' es) scope (suc n + binds e)))
        (unless_atom (normal false e scope n) (normal_parts tail (and_tree e' es) scope (n + binds e)))

    -- the parts that are not simple are bound from left to right
    pub with_operands : Trees → Scope → (n : ℕ) → Expression → Expression
    with_operands no_trees scope n body = body
    with_operands (and_tree e es) scope n body =
        bound_unless (is_simple e) n (normal false e scope (suc n)) (with_operands es scope (n + part_binds (is_simple e) (binds e)) body)

    -- all inits are bound from left to right
    pub with_inits : Trees → Scope → (n : ℕ) → Expression → Expression
    with_inits no_trees scope n body = body
    with_inits (and_tree e es) scope n body =
        to.bind n (normal false e scope (suc n)) (with_inits es scope (suc n + binds e) body)

-- ## Programs

-- the body of a procedure: variable 0 is the return address, variable 1 its closure, and the formals follow
abbrev pub procedure_code : (starts : List ℕ) → from.Body → to.Code
procedure_code starts b = record {
  name = b.name;
  entry = Some (record { formals = b.formals; rest = b.rest; fields = b.fields });
  variables = 2 + (b.formals + binds b.code);
  expression = normal starts true b.code (with_variables b.first (numbers 2 b.formals) []) (2 + b.formals);
}

abbrev pub form_code : (starts : List ℕ) → Tree → to.Code
form_code starts e = record {
  name = codes "form";
  entry = None;
  variables = 2 + binds e;
  expression = to.end (normal starts false e [] 2);
}

-- The bodies: each form stands before those of its procedures. `before` is the number of flat bodies that stand
-- before `bodies`; `places` has for each form of `forms` the number of those that stand before its procedures' bodies.
abbrev pub normal_bodies : (starts : List ℕ) → (before : ℕ) → List from.Body → (forms : Trees) → (places : List ℕ) → List to.Code
normal_bodies starts before bodies no_trees places = map (procedure_code starts) bodies
normal_bodies starts before bodies (and_tree e es) [] = form_code starts e ∷ normal_bodies starts before bodies es []
normal_bodies starts before bodies (and_tree e es) (place ∷ places) =
    map (procedure_code starts) (take (place - before) bodies)
    ++ form_code starts e ∷ normal_bodies starts place (drop (place - before) bodies) es places

-- ## What is bound at each site

-- the places of the parts that are not simple, from this place on, and then some last ones
abbrev pub bound_places : (place : ℕ) → Trees → (last : List ℕ) → List ℕ
bound_places place no_trees last = last
bound_places place (and_tree e es) last = cond (is_simple e) (bound_places (suc place) es last) (place ∷ bound_places (suc place) es last)

-- the operator, whose place is 0, is bound after the operands
abbrev pub operator_place : Tree → List ℕ
operator_place f = cond (is_simple f) [] (0 ∷ [])

-- the sites of a tree, each with the places of the parts that are bound there, in their order
abbrev mutual
  pub bound_rows : Tree → Bindings (List ℕ)
  bound_rows (constant c) = []
  bound_rows (literal k) = []
  bound_rows (variable v) = []
  bound_rows (global g) = []
  bound_rows (set_global g e) = bound_rows e
  bound_rows (define g e) = bound_rows e
  bound_rows (branch a b c) = bound_rows a ++ (bound_rows b ++ bound_rows c)
  bound_rows (sequence es) = bound_rows_each es
  bound_rows (from.bind site first es e) = (site, numbers 0 (from.count es)) ∷ (bound_rows_each es ++ bound_rows e)
  bound_rows (make_closure m) = []
  bound_rows (fix_closures first ms e) = bound_rows e
  bound_rows (call site spread f es) = (site, bound_places 1 es (operator_place f)) ∷ (bound_rows f ++ bound_rows_each es)
  bound_rows (operation site which es) = (site, bound_places 0 es []) ∷ bound_rows_each es
  bound_rows (new_cells cs e) = bound_rows e
  bound_rows (cell_get v) = []
  bound_rows (cell_set v e) = bound_rows e

  pub bound_rows_each : Trees → Bindings (List ℕ)
  bound_rows_each no_trees = []
  bound_rows_each (and_tree e es) = bound_rows e ++ bound_rows_each es

abbrev pub bound_rows_bodies : List from.Body → Bindings (List ℕ)
bound_rows_bodies [] = []
bound_rows_bodies (b ∷ bs) = bound_rows b.code ++ bound_rows_bodies bs

abbrev pub bound_rows_source : from.Source → Bindings (List ℕ)
bound_rows_source p = bound_rows_bodies p.bodies ++ bound_rows_each p.forms

-- the parts that are bound at each site
abbrev pub bound_parts : from.Source → List (List ℕ)
bound_parts p = map (λ site. order_or_none (bound_to site (bound_rows_source p))) (numbers 0 (length p.sites))

-- the program that normalizing makes
abbrev pub normal_source : from.Source → to.Source
normal_source p = record {
  statics = p.statics;
  library = map (new_label p.starts) p.library;
  bodies = normal_bodies p.starts 0 p.bodies p.forms p.starts;
  sites = p.sites;
  bound = bound_parts p;
}
