-- Where a computation is spent, no procedure entry is left; so the nesting that bounds the evaluator
-- is never what ends a run.
use Rattle.std.proofs.Common.{◌≡◌, ℕ, zero, suc, ◌≤◌, Bool, true, false, List, [], ◌∷◌, Option, Some, None, refl, arith}
use Rattle.std.specs.Prelude.{slice_get, slice_set, cond}
use Rattle.sch_word.specs.declared.answer.Answer.{Answer}
use Rattle.sch_word.specs.declared.stop.Stop.{Stop}
use Rattle.sch_word.specs.values.Values.{Value, unspecified, is_true}
use Rattle.sch_word.specs.runs.Store.{Store}
use Rattle.sch_word.specs.values.Checked.{Checked, passes, refused, exhausted, unreachable}
use Rattle.sch_word.specs.runs.Computation.{Outcome, gives, stops, spent, State, Action, Computation, with_rest, in_store, on_value, after, at_place, in_order, in_turn, blanks, all_values, set_or_stop, read_cell, write_cell, write_cells, new_procedure, new_fix, new_cells, some_each, unset_each, checked, checked_call, call_with, taken, take_entry, when_known}
use Rattle.sch_word.specs.runs.Runs.{going, seen, starting_store, starting_state}
use Rattle.sch_word.proofs.Steady.{OutcomeGrows, NeverSpent, Steady, steady_charge, steady_charge_each, steady_fit, steady_read_global, steady_write_global, steady_read_literal, steady_primitive}
use Rattle.sch_word.proofs.NoEntryLeft.{Exhausts, exhausts_checked_call}
use Rattle.sch_word.specs.runs.Orders.{Orders, order_at}
use Rattle.sch_word.specs.values.CellBytes.{cells_bytes}
use Rattle.sch_lang.specs.Tree.{Expression, Expressions, constant, literal, local, global, set_local, set_global, define, branch, sequence, bind, fix, letrec, lambda, call, operation, no_expressions, and_expression, count, count_lambdas, Source}
use Rattle.sch_lang.specs.Variables.{cells_of}
use Rattle.sch_lang.specs.Meaning.{Closure, Enter, onto, closures, lambda_bytes, lambdas_bytes, evaluate, each, parts, enter}
use Rattle.sch_lang.specs.Run.{outcome}
use Rattle.sch_lang.specs.Laws.{GoesOnWhenSpent}

-- an outcome that leaves at most n entries, and none where it is spent
abbrev Within : {V : Type 0} → ℕ → Outcome (State Closure) V → Type 0
Within n (gives v s) = s.store.entries ≤ n
Within n (stops why s) = s.store.entries ≤ n
Within n (spent s) = s.store.entries ≡ 0

-- a computation that is spent only where no entry is left, from at most n
record Spends (n : ℕ) {V : Type 0} (c : Computation Closure V) : Type 0 where
  from : (s : State Closure) → s.store.entries ≤ n → Within n (c s)

within_more : {V : Type 0} (n : ℕ) (a : Outcome (State Closure) V) → Within n a → Within (suc n) a
within_more n (gives v s) g = omega (arith, g)
within_more n (stops why s) g = omega (arith, g)
within_more n (spent s) g = g

steady_within : {V : Type 0} (n : ℕ) (t : Store) (cs : List (Option Value)) (ps : List Closure) (a : Outcome Store V) → t.entries ≤ n → OutcomeGrows t a → NeverSpent a → Within n (with_rest cs ps a)
steady_within n t cs ps (gives v u) few g lasts = omega (arith, few, g.entries)
steady_within n t cs ps (stops why u) few g lasts = omega (arith, few, g.entries)
steady_within n t cs ps (spent u) few g lasts = absurd lasts

module _ (n : ℕ) where
  module _ {V : Type 0} where
    spends_gives : (v : V) → Spends n (gives v)
    spends_gives v = record { from = λ s g. g }

    spends_stops : (why : Stop) → Spends n {V = V} (stops why)
    spends_stops why = record { from = λ s g. g }

    spends_either : (b : Bool) {c d : Computation Closure V} → Spends n c → Spends n d → Spends n (cond b c d)
    spends_either true g h = g
    spends_either false g h = h

    spends_in_store : {f : Action V} → Steady f → Spends n (in_store f)
    spends_in_store {f} h = record { from = λ s g. steady_within n s.store s.cells s.procedures (f s.store) g (h.grows s.store) (h.lasts s.store) }

    module _ {W : Type 0} where
      within_on_value : (a : Outcome (State Closure) V) (next : V → Computation Closure W) → Within n a → ((v : V) → Spends n (next v)) → Within n (on_value a next)
      within_on_value (gives v s) next g h = (h v).from s g
      within_on_value (stops why s) next g h = g
      within_on_value (spent s) next g h = g

      spends_after : {c : Computation Closure V} {next : V → Computation Closure W} → Spends n c → ((v : V) → Spends n (next v)) → Spends n (after c next)
      spends_after {c} {next} g h = record { from = λ s e. within_on_value (c s) next (g.from s e) h }

  -- ## Lists

  data EachSpends : List (Computation Closure Value) → Type 0 where
    no_spending : EachSpends []
    and_spending : {c : Computation Closure Value} {cs : List (Computation Closure Value)} → Spends n c → EachSpends cs → EachSpends (c ∷ cs)

  spends_at_place : {cs : List (Computation Closure Value)} (i : ℕ) → EachSpends cs → Spends n (at_place (slice_get cs i))
  spends_at_place i no_spending = spends_gives unspecified
  spends_at_place zero (and_spending g gs) = g
  spends_at_place (suc i) (and_spending g gs) = spends_at_place i gs

  spends_in_order : (order : List ℕ) {cs : List (Computation Closure Value)} (vs : List Value) → EachSpends cs → Spends n (in_order order cs vs)
  spends_in_order [] vs g = spends_gives vs
  spends_in_order (i ∷ order) vs g = spends_after (spends_at_place i g) (λ v. spends_in_order order (slice_set vs i v) g)

  spends_all_values : (order : List ℕ) {cs : List (Computation Closure Value)} → EachSpends cs → Spends n (all_values order cs)
  spends_all_values order {cs} g = spends_in_order order (blanks cs) g

  spends_in_turn : {cs : List (Computation Closure Value)} (v : Value) → EachSpends cs → Spends n (in_turn cs v)
  spends_in_turn v no_spending = spends_gives v
  spends_in_turn v (and_spending g gs) = spends_after g (λ w. spends_in_turn w gs)

  -- ## Variables and procedures

  within_set_or_stop : (o : Option (Option Value)) (s : State Closure) → s.store.entries ≤ n → Within n (set_or_stop o s)
  within_set_or_stop None s g = g
  within_set_or_stop (Some None) s g = g
  within_set_or_stop (Some (Some v)) s g = g

  spends_read_cell : (c : ℕ) → Spends n (read_cell c)
  spends_read_cell c = record { from = λ s g. within_set_or_stop (slice_get s.cells c) s g }

  spends_write_cell : (c : ℕ) (v : Value) → Spends n (write_cell c v)
  spends_write_cell c v = record { from = λ s g. g }

  spends_write_cells : (cs : List ℕ) (vs : List Value) → Spends n (write_cells cs vs)
  spends_write_cells [] vs = spends_gives unspecified
  spends_write_cells (c ∷ cs) [] = spends_gives unspecified
  spends_write_cells (c ∷ cs) (v ∷ vs) = spends_after (spends_write_cell c v) (λ _. spends_write_cells cs vs)

  spends_new_cells : (contents : List (Option Value)) → Spends n (new_cells contents)
  spends_new_cells contents = record { from = λ s g. g }

  spends_new_procedure : (p : Closure) → Spends n (new_procedure p)
  spends_new_procedure p = record { from = λ s g. g }

  spends_new_fix : (k : ℕ) (make : List ℕ → List Closure) → Spends n (new_fix k make)
  spends_new_fix k make = record { from = λ s g. g }

  spends_known : {V : Type 0} (o : Option ℕ) {next : ℕ → Computation Closure V} → ((c : ℕ) → Spends n (next c)) → Spends n (when_known o next)
  spends_known None h = spends_stops _
  spends_known (Some c) h = h c

  -- ## Calls

  within_checked : {A V : Type 0} (c : Checked A) {next : A → Computation Closure V} → ((a : A) → Spends n (next a)) → (s : State Closure) → s.store.entries ≤ n → Exhausts s.store.entries c
      → Within n (checked c next s)
  within_checked (passes a) h s g e = (h a).from s g
  within_checked (refused why) h s g e = g
  within_checked exhausted h s g e = e
  within_checked unreachable h s g e = g

  module _ (enter1 : Enter) (enter_spends : (p : Closure) (vs : List Value) (depth : ℕ) → Spends n (enter1 p vs depth)) where
    spends_call : (tail : Bool) (depth : ℕ) (vs : List Value) → Spends n (call_with enter1 false tail depth vs)
    spends_call tail depth vs = record {
      from = λ s g. within_checked (checked_call s.procedures s.store false tail depth vs) (λ e. enter_spends e.procedure e.arguments e.depth) s g
          (exhausts_checked_call s.procedures s.store false tail depth vs);
    }

  -- taking an entry leaves one less
  within_taken : {W : Type 0} (m : ℕ) (cs : List (Option Value)) (ps : List Closure) (t : Store) (next : Value → Computation Closure W) → t.entries ≡ m → t.entries ≤ suc n
      → ((v : Value) → Spends n (next v)) → Within (suc n) (on_value (with_rest cs ps (taken m t)) next)
  within_taken zero cs ps t next e g h = e
  within_taken (suc m) cs ps t next e g h =
      let s : State Closure = record { cells = cs; store = record t { entries = m }; procedures = ps } in
      within_more n (next unspecified s) ((h unspecified).from s (omega (arith, e, g)))

  spends_taking : {W : Type 0} {next : Value → Computation Closure W} → ((v : Value) → Spends n (next v)) → Spends (suc n) (after (in_store take_entry) next)
  spends_taking {next = next} h = record { from = λ s g. within_taken s.store.entries s.cells s.procedures s.store next refl g h }

-- ## Expressions

module _ (n : ℕ) (orders : Orders) (enter1 : Enter) (enter_spends : (p : Closure) (vs : List Value) (depth : ℕ) → Spends n (enter1 p vs depth)) where
  mutual
    evaluate_spends : (e : Expression) (environment : List ℕ) (depth : ℕ) (tail : Bool) → Spends n (evaluate orders enter1 e environment depth tail)
    evaluate_spends (constant c) environment depth tail = spends_gives n _
    evaluate_spends (literal k) environment depth tail = spends_in_store n (steady_read_literal k)
    evaluate_spends (local k) environment depth tail = spends_known n (slice_get environment k) (spends_read_cell n)
    evaluate_spends (global g) environment depth tail = spends_in_store n (steady_read_global g)
    evaluate_spends (set_local k e) environment depth tail =
        spends_after n (evaluate_spends e environment depth false) (λ v. spends_known n (slice_get environment k) (λ c. spends_write_cell n c v))
    evaluate_spends (set_global g e) environment depth tail =
        spends_after n (evaluate_spends e environment depth false) (λ v. spends_in_store n (steady_write_global g v))
    evaluate_spends (define g e) environment depth tail =
        spends_after n (evaluate_spends e environment depth false) (λ v. spends_in_store n (steady_write_global g v))
    evaluate_spends (branch a b c) environment depth tail =
        spends_after n (evaluate_spends a environment depth false)
        (λ v. spends_either n (is_true v) (evaluate_spends b environment depth tail) (evaluate_spends c environment depth tail))
    evaluate_spends (sequence es) environment depth tail = spends_in_turn n unspecified (parts_spend es environment depth tail)
    evaluate_spends (bind site es e) environment depth tail =
        spends_after n (spends_all_values n (orders site) (each_spends es environment depth))
        (λ vs. spends_after n (spends_in_store n (steady_charge_each (cells_of (count es) e)))
        (λ _. spends_after n (spends_new_cells n (some_each vs))
        (λ cs. evaluate_spends e (onto cs environment) depth tail)))
    evaluate_spends (fix ls e) environment depth tail =
        spends_after n (spends_in_store n (steady_charge_each (lambdas_bytes ls)))
        (λ _. spends_after n (spends_new_fix n (count_lambdas ls) (λ cs. closures ls (onto cs environment)))
        (λ cs. evaluate_spends e (onto cs environment) depth tail))
    evaluate_spends (letrec site es e) environment depth tail =
        spends_after n (spends_in_store n (steady_charge_each (cells_bytes (count es))))
        (λ _. spends_after n (spends_new_cells n (unset_each (count es)))
        (λ cs. spends_after n (spends_all_values n (orders site) (each_spends es (onto cs environment) depth))
        (λ vs. spends_after n (spends_write_cells n cs vs)
        (λ _. evaluate_spends e (onto cs environment) depth tail))))
    evaluate_spends (lambda name formals rest e) environment depth tail =
        spends_after n (spends_in_store n (steady_charge (lambda_bytes formals e))) (λ _. spends_new_procedure n _)
    evaluate_spends (call site f es) environment depth tail =
        spends_after n (spends_all_values n (orders site) (and_spending (evaluate_spends f environment depth false) (each_spends es environment depth)))
        (λ vs. spends_call n enter1 enter_spends tail depth vs)
    evaluate_spends (operation site which es) environment depth tail =
        spends_after n (spends_all_values n (orders site) (each_spends es environment depth)) (λ vs. spends_in_store n (steady_primitive which vs))

    each_spends : (es : Expressions) (environment : List ℕ) (depth : ℕ) → EachSpends n (each orders enter1 es environment depth)
    each_spends no_expressions environment depth = no_spending
    each_spends (and_expression e es) environment depth = and_spending (evaluate_spends e environment depth false) (each_spends es environment depth)

    parts_spend : (es : Expressions) (environment : List ℕ) (depth : ℕ) (tail : Bool) → EachSpends n (parts orders enter1 es environment depth tail)
    parts_spend no_expressions environment depth tail = no_spending
    parts_spend (and_expression e no_expressions) environment depth tail = and_spending (evaluate_spends e environment depth tail) no_spending
    parts_spend (and_expression e (and_expression e' es)) environment depth tail =
        and_spending (evaluate_spends e environment depth false) (parts_spend (and_expression e' es) environment depth tail)

-- ## Entering, and whole runs

spent_at_none : (s : State Closure) → s.store.entries ≤ 0 → s.store.entries ≡ 0
spent_at_none s g = omega (arith, g)

enter_spends : (orders : Orders) (n : ℕ) (p : Closure) (vs : List Value) (depth : ℕ) → Spends n (enter orders n p vs depth)
enter_spends orders zero p vs depth = record { from = spent_at_none }
enter_spends orders (suc n) p vs depth =
    spends_after (suc n) (spends_in_store (suc n) (steady_fit p.formals p.rest vs))
    (λ ws. spends_taking n
    (λ _. spends_after n (spends_in_store n (steady_charge_each (cells_of p.formals p.body)))
    (λ _. spends_after n (spends_new_cells n (some_each ws))
    (λ cs. evaluate_spends n orders (enter orders n) (enter_spends orders n) p.body (onto cs p.environment) depth true))))

all_taken : (answers : List Answer) (n : ℕ) (a : Outcome (State Closure) Value) → Within n a → (seen answers n a).end ≡ going → (seen answers n a).entries ≡ n
all_taken answers n (gives v s) g e = absurd (cc)
all_taken answers n (stops why s) g e = absurd (cc)
all_taken answers n (spent s) g e = omega (arith, g)

pub goes_on_when_spent : (p : Source) → GoesOnWhenSpent p
goes_on_when_spent p = record {
  all_taken = λ table heap depth answers n e.
      all_taken answers n (outcome p table heap depth answers n)
      ((spends_in_turn n unspecified (each_spends n (order_at table) (enter (order_at table) n) (enter_spends (order_at table) n) p.forms [] depth)).from
      (starting_state (starting_store p.statics heap answers n) (closures p.library [])) (omega arith)) e;
}
