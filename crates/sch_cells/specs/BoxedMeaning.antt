-- What a cell program does where no variable is ever assigned: a variable holds a value, which may be the
-- number of a cell.
use Rattle.std.specs.Prelude.{ℕ, zero, suc, Bool, true, false, List, [], ◌∷◌, length, Option, Some, None, cond}
use Rattle.sch_word.specs.declared.answer.Answer.{Answer}
use Rattle.sch_word.specs.values.Values.{Value, unspecified, constant_value, is_true}
use Rattle.sch_word.specs.runs.Computation as computation
use Rattle.sch_word.specs.runs.Computation.{Outcome, State, Computation, gives, spent, unreached, after, in_store, all_values, in_turn, read_literal, read_global, write_global, read_cell, write_cell, new_procedure, new_group, take_entry, call_with, with_cell}
use Rattle.sch_word.specs.runs.Charges.{charge, charge_each, fit}
use Rattle.sch_word.specs.values.CellBytes.{cells_bytes}
use Rattle.sch_word.specs.trees.Bindings.{Bindings, with_variables, with_cells, value_of}
use Rattle.sch_word.specs.runs.Orders.{Orders, order_at}
use Rattle.sch_word.specs.values.PrimitiveRows.{primitive}
use Rattle.sch_word.specs.runs.Runs.{Runs, seen, starting_store, starting_state}
use Rattle.sch_cells.specs.declared.tree.NewCell.{NewCell}
use Rattle.sch_cells.specs.Tree.{Tree, Trees, Source, constant, literal, variable, global, set_variable, set_global, define, branch, sequence, bind, fix, letrec, lambda, call, operation, new_cells, cell_get, cell_set, no_trees, and_tree, count_lambdas}
use Rattle.sch_cells.specs.Variables.{cells_bound}
use Rattle.sch_cells.specs.Procedures.{Closure, closures, lambda_bytes, lambdas_bytes}

abbrev pub Enter : Type 0
Enter = computation.Enter (Closure Value)

-- what a new cell holds at first
abbrev pub content : Option ℕ → Bindings Value → Option Value
content None environment = None
content (Some x) environment = Some (value_of x environment)

abbrev pub contents : List NewCell → Bindings Value → List (Option Value)
contents [] environment = []
contents (c ∷ cs) environment = content c.content environment ∷ contents cs environment

-- the variables of new cells have these cells
abbrev pub with_new_cells : List NewCell → List ℕ → Bindings Value → Bindings Value
with_new_cells cs ns environment = with_cells (cells_bound cs) ns environment

module _ (orders : Orders) (enter : Enter) where
  -- `depth` is how many calls may still be pending that are no tail calls, `tail` whether the tree is in a
  -- tail context (R5RS 3.5)
  abbrev mutual
    pub evaluate : Tree → (environment : Bindings Value) → (depth : ℕ) → (tail : Bool) → Computation (Closure Value) Value
    evaluate (constant c) environment depth tail = gives (constant_value c)
    evaluate (literal n) environment depth tail = in_store (read_literal n)
    evaluate (variable x) environment depth tail = gives (value_of x environment)
    evaluate (global g) environment depth tail = in_store (read_global g)
    evaluate (set_global g e) environment depth tail =
        after (evaluate e environment depth false) (λ v. in_store (write_global g v))
    evaluate (define g e) environment depth tail =
        after (evaluate e environment depth false) (λ v. in_store (write_global g v))
    evaluate (branch a b c) environment depth tail =
        after (evaluate a environment depth false)
        (λ v. cond (is_true v) (evaluate b environment depth tail) (evaluate c environment depth tail))
    evaluate (sequence es) environment depth tail = in_turn (parts es environment depth tail) unspecified
    evaluate (bind site first es e) environment depth tail =
        after (all_values (orders site) (each es environment depth))
        (λ vs. evaluate e (with_variables first vs environment) depth tail)
    evaluate (fix first ls e) environment depth tail =
        after (in_store (charge_each (lambdas_bytes ls)))
        (λ _. after (new_group (count_lambdas ls) (λ vs. closures ls (with_variables first vs environment)))
        (λ vs. evaluate e (with_variables first vs environment) depth tail))
    evaluate (lambda name first formals rest e) environment depth tail =
        after (in_store (charge (lambda_bytes first formals e)))
        (λ _. new_procedure (record { first = first; formals = formals; rest = rest; body = e; environment = environment }))
    evaluate (call site spread f es) environment depth tail =
        after (all_values (orders site) (evaluate f environment depth false ∷ each es environment depth))
        (call_with enter spread tail depth)
    evaluate (operation site which es) environment depth tail =
        after (all_values (orders site) (each es environment depth)) (λ vs. in_store (primitive which vs))
    evaluate (new_cells cs e) environment depth tail =
        after (in_store (charge_each (cells_bytes (length cs))))
        (λ _. after (computation.new_cells (contents cs environment))
        (λ ns. evaluate e (with_new_cells cs ns environment) depth tail))
    evaluate (cell_get x) environment depth tail = with_cell (value_of x environment) read_cell
    evaluate (cell_set x e) environment depth tail =
        after (evaluate e environment depth false) (λ v. with_cell (value_of x environment) (λ c. write_cell c v))
    -- these stand in no program of this form
    evaluate (set_variable x e) environment depth tail = unreached
    evaluate (letrec site first es e) environment depth tail = unreached

    -- each operand or init on its own
    pub each : Trees → (environment : Bindings Value) → (depth : ℕ) → List (Computation (Closure Value) Value)
    each no_trees environment depth = []
    each (and_tree e es) environment depth = evaluate e environment depth false ∷ each es environment depth

    -- the parts of a sequence, of which the last is in the sequence's own context
    pub parts : Trees → (environment : Bindings Value) → (depth : ℕ) → (tail : Bool) → List (Computation (Closure Value) Value)
    parts no_trees environment depth tail = []
    parts (and_tree e no_trees) environment depth tail = evaluate e environment depth tail ∷ []
    parts (and_tree e (and_tree e' es)) environment depth tail =
        evaluate e environment depth false ∷ parts (and_tree e' es) environment depth tail

-- Entering a procedure, where at most n entries are nested: the count of operands and the rest list are
-- seen to, then the entry is taken, and the body is evaluated.
abbrev pub enter : Orders → (n : ℕ) → Enter
enter orders zero p vs depth = spent
enter orders (suc n) p vs depth =
    after (in_store (fit p.formals p.rest vs))
    (λ ws. after (in_store take_entry)
    (λ _. evaluate orders (enter orders n) p.body (with_variables p.first ws p.environment) depth true))

-- ## Runs

-- the outcome of the forms, in their order, each at the whole depth and in no tail context
abbrev pub outcome : Source → List (List ℕ) → (heap depth : ℕ) → List Answer → (entries : ℕ) → Outcome (State (Closure Value)) Value
outcome p table heap depth answers entries =
    in_turn (each (order_at table) (enter (order_at table) entries) p.forms [] depth) unspecified
    (starting_state (starting_store p.statics heap answers entries) (closures p.library []))

-- what is seen of the run under an order table, with limits of heap and depth, against the answers of a
-- kernel and with at most a number of procedure entries
abbrev pub run : Source → Runs
run p table heap depth answers entries = seen answers entries (outcome p table heap depth answers entries)
