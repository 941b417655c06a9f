-- What a flat tree does: a variable that the body binds holds a value, which may be a cell, and so does a
-- field of the record that was entered.
use Rattle.std.specs.Prelude.{ℕ, zero, suc, Bool, true, false, List, [], ◌∷◌, length, slice_get, Option, Some, None, cond}
use Rattle.sch_word.specs.values.Values.{Value, unspecified, constant_value, is_true}
use Rattle.sch_word.specs.runs.Computation as computation
use Rattle.sch_word.specs.runs.Computation.{Computation, gives, spent, after, in_store, all_values, in_turn, read_literal, read_global, write_global, read_cell, write_cell, new_cells, new_procedure, new_group, take_entry, call_with, when_known, with_cell}
use Rattle.sch_word.specs.runs.Charges.{charge, charge_each, procedure_bytes, fit}
use Rattle.sch_word.specs.values.CellBytes.{cells_bytes}
use Rattle.sch_word.specs.runs.Orders.{Orders}
use Rattle.sch_word.specs.runs.Procedures.{Procedure}
use Rattle.sch_word.specs.values.PrimitiveRows.{primitive}
use Rattle.sch_word.specs.trees.Bindings.{Bindings, value_or, value_of, with_variables, with_cells}
use Rattle.sch_flat.specs.Tree.{Variable, bound, free, Made, NewCell, Tree, Trees, Body, constant, literal, variable, global, set_global, define, branch, sequence, bind, make_closure, fix_closures, call, operation, cell_get, cell_set, no_trees, and_tree}
use Rattle.sch_flat.specs.Tree as tree
use Rattle.sch_flat.specs.Valid.{cell_variables}

-- What the variables of a body have: those that it binds, the last first, and the fields of the record with
-- which it was entered.
pub record Environment : Type 0 where
  pub variables : Bindings Value
  pub fields : List Value

abbrev pub Enter : Type 0
Enter = computation.Enter Procedure

-- the value of a variable
abbrev pub value_in : Environment → Variable → Value
value_in environment (bound x) = value_of x environment.variables
value_in environment (free k) = value_or (slice_get environment.fields k)

abbrev pub values_in : Environment → List Variable → List Value
values_in environment [] = []
values_in environment (v ∷ vs) = value_in environment v ∷ values_in environment vs

-- the variables from x on have these values
abbrev pub and_values : ℕ → List Value → Environment → Environment
and_values x vs environment = record { variables = with_variables x vs environment.variables; fields = environment.fields }

-- the procedure of a record that is made
abbrev pub closure : Environment → Made → Procedure
closure environment m = record { label = m.label; fields = values_in environment m.fields }

abbrev pub closures : Environment → List Made → List Procedure
closures environment [] = []
closures environment (m ∷ ms) = closure environment m ∷ closures environment ms

-- what procedures are charged, in the order of the text
abbrev pub closures_bytes : List Made → List ℕ
closures_bytes [] = []
closures_bytes (m ∷ ms) = procedure_bytes (length m.fields) ∷ closures_bytes ms

-- what cells hold when they are made: the value of a variable, or nothing
abbrev pub content : Environment → Option Variable → Option Value
content environment None = None
content environment (Some v) = Some (value_in environment v)

abbrev pub contents : Environment → List NewCell → List (Option Value)
contents environment [] = []
contents environment (c ∷ cs) = content environment c.content ∷ contents environment cs

-- a group of cells bound to its variables
abbrev pub and_cells : List NewCell → List ℕ → Environment → Environment
and_cells cs ns environment = record { variables = with_cells (cell_variables cs) ns environment.variables; fields = environment.fields }

module _ (orders : Orders) (enter : Enter) where
  abbrev mutual
    pub evaluate : Tree → Environment → (depth : ℕ) → (tail : Bool) → Computation Procedure Value
    evaluate (constant c) environment depth tail = gives (constant_value c)
    evaluate (literal n) environment depth tail = in_store (read_literal n)
    evaluate (variable v) environment depth tail = gives (value_in environment v)
    evaluate (global g) environment depth tail = in_store (read_global g)
    evaluate (set_global g e) environment depth tail =
        after (evaluate e environment depth false) (λ v. in_store (write_global g v))
    evaluate (define g e) environment depth tail =
        after (evaluate e environment depth false) (λ v. in_store (write_global g v))
    evaluate (branch a b c) environment depth tail =
        after (evaluate a environment depth false)
        (λ v. cond (is_true v) (evaluate b environment depth tail) (evaluate c environment depth tail))
    evaluate (sequence es) environment depth tail = in_turn (parts es environment depth tail) unspecified
    evaluate (bind site first es e) environment depth tail =
        after (all_values (orders site) (each es environment depth))
        (λ vs. evaluate e (and_values first vs environment) depth tail)
    evaluate (make_closure m) environment depth tail =
        after (in_store (charge (procedure_bytes (length m.fields)))) (λ _. new_procedure (closure environment m))
    evaluate (fix_closures first ms e) environment depth tail =
        after (in_store (charge_each (closures_bytes ms)))
        (λ _. after (new_group (length ms) (λ vs. closures (and_values first vs environment) ms))
        (λ vs. evaluate e (and_values first vs environment) depth tail))
    evaluate (call site spread f es) environment depth tail =
        after (all_values (orders site) (evaluate f environment depth false ∷ each es environment depth))
        (call_with enter spread tail depth)
    evaluate (operation site which es) environment depth tail =
        after (all_values (orders site) (each es environment depth)) (λ vs. in_store (primitive which vs))
    evaluate (tree.new_cells cs e) environment depth tail =
        after (in_store (charge_each (cells_bytes (length cs))))
        (λ _. after (new_cells (contents environment cs))
        (λ ns. evaluate e (and_cells cs ns environment) depth tail))
    evaluate (cell_get v) environment depth tail = with_cell (value_in environment v) read_cell
    evaluate (cell_set v e) environment depth tail =
        after (evaluate e environment depth false) (λ w. with_cell (value_in environment v) (λ c. write_cell c w))

    -- each operand or init on its own
    pub each : Trees → Environment → (depth : ℕ) → List (Computation Procedure Value)
    each no_trees environment depth = []
    each (and_tree e es) environment depth = evaluate e environment depth false ∷ each es environment depth

    -- the parts of a sequence, of which the last is in the sequence's own context
    pub parts : Trees → Environment → (depth : ℕ) → (tail : Bool) → List (Computation Procedure Value)
    parts no_trees environment depth tail = []
    parts (and_tree e no_trees) environment depth tail = evaluate e environment depth tail ∷ []
    parts (and_tree e (and_tree e' es)) environment depth tail =
        evaluate e environment depth false ∷ parts (and_tree e' es) environment depth tail

-- where a body begins: its formals have these values
abbrev pub entered : Body → List Value → (fields : List Value) → Environment
entered b vs fields = record { variables = with_variables b.first vs []; fields = fields }

-- Entering a procedure, where at most n entries are nested: the count of operands and the rest list are
-- seen to, then the entry is taken, and the body is evaluated.
abbrev pub enter : List Body → Orders → (n : ℕ) → Enter
enter bodies orders zero p vs depth = spent
enter bodies orders (suc n) p vs depth =
    when_known (slice_get bodies p.label)
    (λ b. after (in_store (fit b.formals b.rest vs))
    (λ ws. after (in_store take_entry)
    (λ _. evaluate orders (enter bodies orders n) b.code (entered b ws p.fields) depth true)))
