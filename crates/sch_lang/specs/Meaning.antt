-- What an expression does (R5RS 4.1, 4.2.2, 4.2.3 and 7.2, over an explicit store).
use Rattle.std.specs.Prelude.{ℕ, zero, suc, Bool, true, false, List, [], ◌∷◌, ◌++◌, length, reverse, slice_get, cond}
use Rattle.sch_word.specs.values.Values.{Value, unspecified, constant_value, is_true}
use Rattle.sch_word.specs.runs.Computation as computation
use Rattle.sch_word.specs.runs.Computation.{Computation, gives, spent, after, in_store, all_values, in_turn, read_literal, read_global, write_global, read_cell, write_cell, write_cells, new_cells, some_each, unset_each, new_procedure, new_fix, take_entry, call_with, when_known}
use Rattle.sch_word.specs.runs.Charges.{charge, charge_each, procedure_bytes, fit}
use Rattle.sch_word.specs.values.CellBytes.{cells_bytes}
use Rattle.sch_word.specs.runs.Orders.{Orders}
use Rattle.sch_word.specs.values.PrimitiveRows.{primitive}
use Rattle.sch_lang.specs.Tree.{Expression, Expressions, Lambdas, constant, literal, local, global, set_local, set_global, define, branch, sequence, bind, fix, letrec, lambda, call, operation, no_expressions, and_expression, no_lambdas, and_lambda, count, count_lambdas}
use Rattle.sch_lang.specs.Variables.{free, outside, cells_of}

-- A procedure is a lambda with its environment. An environment is a list of the cells of variables,
-- the nearest first: every variable has a cell of its own, new at each binding.
pub record Closure : Type 0 where
  pub formals : ℕ
  pub rest : Bool
  pub body : Expression
  pub environment : List ℕ

abbrev pub Enter : Type 0
Enter = computation.Enter Closure

-- what was just bound, as the cells of new variables, in front of an environment: the last is the nearest
abbrev pub onto : {A : Type 0} → List A → List A → List A
onto cs environment = reverse cs ++ environment

-- the procedures of a group of lambdas in an environment
abbrev pub closures : Lambdas → List ℕ → List Closure
closures no_lambdas environment = []
closures (and_lambda name formals rest e ls) environment = record { formals = formals; rest = rest; body = e; environment = environment } ∷ closures ls environment

-- what a procedure of n formals and this body is charged
abbrev pub lambda_bytes : ℕ → Expression → ℕ
lambda_bytes formals e = procedure_bytes (length (outside formals (free e)))

-- what the procedures of a group are charged, in the order of the text
abbrev pub lambdas_bytes : Lambdas → List ℕ
lambdas_bytes no_lambdas = []
lambdas_bytes (and_lambda name formals rest e ls) = lambda_bytes formals e ∷ lambdas_bytes ls

module _ (orders : Orders) (enter : Enter) where
  -- `depth` is how many calls may still be pending that are no tail calls, `tail` whether the
  -- expression is in a tail context (R5RS 3.5)
  abbrev mutual
    pub evaluate : Expression → (environment : List ℕ) → (depth : ℕ) → (tail : Bool) → Computation Closure Value
    evaluate (constant c) environment depth tail = gives (constant_value c)
    evaluate (literal n) environment depth tail = in_store (read_literal n)
    evaluate (local k) environment depth tail = when_known (slice_get environment k) read_cell
    evaluate (global g) environment depth tail = in_store (read_global g)
    evaluate (set_local k e) environment depth tail =
        after (evaluate e environment depth false) (λ v. when_known (slice_get environment k) (λ c. write_cell c v))
    evaluate (set_global g e) environment depth tail =
        after (evaluate e environment depth false) (λ v. in_store (write_global g v))
    evaluate (define g e) environment depth tail =
        after (evaluate e environment depth false) (λ v. in_store (write_global g v))
    evaluate (branch a b c) environment depth tail =
        after (evaluate a environment depth false)
        (λ v. cond (is_true v) (evaluate b environment depth tail) (evaluate c environment depth tail))
    evaluate (sequence es) environment depth tail = in_turn (parts es environment depth tail) unspecified
    evaluate (bind site es e) environment depth tail =
        after (all_values (orders site) (each es environment depth))
        (λ vs. after (in_store (charge_each (cells_of (count es) e)))
        (λ _. after (new_cells (some_each vs))
        (λ cs. evaluate e (onto cs environment) depth tail)))
    evaluate (fix ls e) environment depth tail =
        after (in_store (charge_each (lambdas_bytes ls)))
        (λ _. after (new_fix (count_lambdas ls) (λ cs. closures ls (onto cs environment)))
        (λ cs. evaluate e (onto cs environment) depth tail))
    evaluate (letrec site es e) environment depth tail =
        after (in_store (charge_each (cells_bytes (count es))))
        (λ _. after (new_cells (unset_each (count es)))
        (λ cs. after (all_values (orders site) (each es (onto cs environment) depth))
        (λ vs. after (write_cells cs vs)
        (λ _. evaluate e (onto cs environment) depth tail))))
    evaluate (lambda name formals rest e) environment depth tail =
        after (in_store (charge (lambda_bytes formals e)))
        (λ _. new_procedure (record { formals = formals; rest = rest; body = e; environment = environment }))
    evaluate (call site f es) environment depth tail =
        after (all_values (orders site) (evaluate f environment depth false ∷ each es environment depth))
        (call_with enter false tail depth)
    evaluate (operation site which es) environment depth tail =
        after (all_values (orders site) (each es environment depth)) (λ vs. in_store (primitive which vs))

    -- each operand or init on its own
    pub each : Expressions → (environment : List ℕ) → (depth : ℕ) → List (Computation Closure Value)
    each no_expressions environment depth = []
    each (and_expression e es) environment depth = evaluate e environment depth false ∷ each es environment depth

    -- the parts of a sequence, of which the last is in the sequence's own context
    pub parts : Expressions → (environment : List ℕ) → (depth : ℕ) → (tail : Bool) → List (Computation Closure Value)
    parts no_expressions environment depth tail = []
    parts (and_expression e no_expressions) environment depth tail = evaluate e environment depth tail ∷ []
    parts (and_expression e (and_expression e' es)) environment depth tail =
        evaluate e environment depth false ∷ parts (and_expression e' es) environment depth tail

-- Entering a procedure, where at most n entries are nested: the count of operands and the rest list
-- are seen to, then the entry is taken, then the cells of assigned formals are charged, and the body
-- is evaluated.
abbrev pub enter : Orders → (n : ℕ) → Enter
enter orders zero p vs depth = spent
enter orders (suc n) p vs depth =
    after (in_store (fit p.formals p.rest vs))
    (λ ws. after (in_store take_entry)
    (λ _. after (in_store (charge_each (cells_of p.formals p.body)))
    (λ _. after (new_cells (some_each ws))
    (λ cs. evaluate orders (enter orders n) p.body (onto cs p.environment) depth true))))
