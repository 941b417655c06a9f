-- What a cell program does where variables may be assigned: each variable has a cell of its own, new at
-- each binding.
use Rattle.std.specs.Prelude.{ℕ, zero, suc, Bool, true, false, List, [], ◌∷◌, cond}
use Rattle.sch_word.specs.declared.answer.Answer.{Answer}
use Rattle.sch_word.specs.values.Values.{Value, unspecified, constant_value, is_true}
use Rattle.sch_word.specs.runs.Computation as computation
use Rattle.sch_word.specs.runs.Computation.{Outcome, State, Computation, gives, spent, unreached, after, in_store, all_values, in_turn, read_literal, read_global, write_global, read_cell, write_cell, write_cells, new_cells, some_each, unset_each, new_procedure, new_fix, take_entry, call_with, when_known}
use Rattle.sch_word.specs.runs.Charges.{charge, charge_each, fit}
use Rattle.sch_word.specs.values.CellBytes.{cells_bytes}
use Rattle.sch_word.specs.trees.Bindings.{Bindings, bound_to, with_variables}
use Rattle.sch_word.specs.runs.Orders.{Orders, order_at}
use Rattle.sch_word.specs.values.PrimitiveRows.{primitive}
use Rattle.sch_word.specs.runs.Runs.{Runs, seen, starting_store, starting_state}
use Rattle.sch_cells.specs.Tree as tree
use Rattle.sch_cells.specs.Tree.{Tree, Trees, Source, constant, literal, variable, global, set_variable, set_global, define, branch, sequence, bind, fix, letrec, lambda, call, operation, cell_get, cell_set, no_trees, and_tree, count, count_lambdas}
use Rattle.sch_cells.specs.Variables.{cells_of}
use Rattle.sch_cells.specs.Procedures.{Closure, closures, lambda_bytes, lambdas_bytes}

abbrev pub Enter : Type 0
Enter = computation.Enter (Closure ℕ)

module _ (orders : Orders) (enter : Enter) where
  -- `depth` is how many calls may still be pending that are no tail calls, `tail` whether the tree is in a
  -- tail context (R5RS 3.5)
  abbrev mutual
    pub evaluate : Tree → (environment : Bindings ℕ) → (depth : ℕ) → (tail : Bool) → Computation (Closure ℕ) Value
    evaluate (constant c) environment depth tail = gives (constant_value c)
    evaluate (literal n) environment depth tail = in_store (read_literal n)
    evaluate (variable x) environment depth tail = when_known (bound_to x environment) read_cell
    evaluate (global g) environment depth tail = in_store (read_global g)
    evaluate (set_variable x e) environment depth tail =
        after (evaluate e environment depth false) (λ v. when_known (bound_to x environment) (λ c. write_cell c v))
    evaluate (set_global g e) environment depth tail =
        after (evaluate e environment depth false) (λ v. in_store (write_global g v))
    evaluate (define g e) environment depth tail =
        after (evaluate e environment depth false) (λ v. in_store (write_global g v))
    evaluate (branch a b c) environment depth tail =
        after (evaluate a environment depth false)
        (λ v. cond (is_true v) (evaluate b environment depth tail) (evaluate c environment depth tail))
    evaluate (sequence es) environment depth tail = in_turn (parts es environment depth tail) unspecified
    evaluate (bind site first es e) environment depth tail =
        after (all_values (orders site) (each es environment depth))
        (λ vs. after (in_store (charge_each (cells_of first (count es) e)))
        (λ _. after (new_cells (some_each vs))
        (λ cs. evaluate e (with_variables first cs environment) depth tail)))
    evaluate (fix first ls e) environment depth tail =
        after (in_store (charge_each (lambdas_bytes ls)))
        (λ _. after (new_fix (count_lambdas ls) (λ cs. closures ls (with_variables first cs environment)))
        (λ cs. evaluate e (with_variables first cs environment) depth tail))
    evaluate (letrec site first es e) environment depth tail =
        after (in_store (charge_each (cells_bytes (count es))))
        (λ _. after (new_cells (unset_each (count es)))
        (λ cs. after (all_values (orders site) (each es (with_variables first cs environment) depth))
        (λ vs. after (write_cells cs vs)
        (λ _. evaluate e (with_variables first cs environment) depth tail))))
    evaluate (lambda name first formals rest e) environment depth tail =
        after (in_store (charge (lambda_bytes first formals e)))
        (λ _. new_procedure (record { first = first; formals = formals; rest = rest; body = e; environment = environment }))
    evaluate (call site spread f es) environment depth tail =
        after (all_values (orders site) (evaluate f environment depth false ∷ each es environment depth))
        (call_with enter spread tail depth)
    evaluate (operation site which es) environment depth tail =
        after (all_values (orders site) (each es environment depth)) (λ vs. in_store (primitive which vs))
    -- these stand in no program of this form
    evaluate (tree.new_cells cs e) environment depth tail = unreached
    evaluate (cell_get x) environment depth tail = unreached
    evaluate (cell_set x e) environment depth tail = unreached

    -- each operand or init on its own
    pub each : Trees → (environment : Bindings ℕ) → (depth : ℕ) → List (Computation (Closure ℕ) Value)
    each no_trees environment depth = []
    each (and_tree e es) environment depth = evaluate e environment depth false ∷ each es environment depth

    -- the parts of a sequence, of which the last is in the sequence's own context
    pub parts : Trees → (environment : Bindings ℕ) → (depth : ℕ) → (tail : Bool) → List (Computation (Closure ℕ) Value)
    parts no_trees environment depth tail = []
    parts (and_tree e no_trees) environment depth tail = evaluate e environment depth tail ∷ []
    parts (and_tree e (and_tree e' es)) environment depth tail =
        evaluate e environment depth false ∷ parts (and_tree e' es) environment depth tail

-- Entering a procedure, where at most n entries are nested: the count of operands and the rest list are
-- seen to, then the entry is taken, then the cells of assigned formals are charged, and the body is
-- evaluated.
abbrev pub enter : Orders → (n : ℕ) → Enter
enter orders zero p vs depth = spent
enter orders (suc n) p vs depth =
    after (in_store (fit p.formals p.rest vs))
    (λ ws. after (in_store take_entry)
    (λ _. after (in_store (charge_each (cells_of p.first p.formals p.body)))
    (λ _. after (new_cells (some_each ws))
    (λ cs. evaluate orders (enter orders n) p.body (with_variables p.first cs p.environment) depth true))))

-- ## Runs

-- the outcome of the forms, in their order, each at the whole depth and in no tail context
abbrev pub outcome : Source → List (List ℕ) → (heap depth : ℕ) → List Answer → (entries : ℕ) → Outcome (State (Closure ℕ)) Value
outcome p table heap depth answers entries =
    in_turn (each (order_at table) (enter (order_at table) entries) p.forms [] depth) unspecified
    (starting_state (starting_store p.statics heap answers entries) (closures p.library []))

-- what is seen of the run under an order table, with limits of heap and depth, against the answers of a
-- kernel and with at most a number of procedure entries
abbrev pub run : Source → Runs
run p table heap depth answers entries = seen answers entries (outcome p table heap depth answers entries)
