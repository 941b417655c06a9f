-- More entries change nothing of a run that has ended, and let any other go further.
use Rattle.std.proofs.Common.{◌≡◌, ℕ, zero, suc, ◌+◌, ◌-◌, ◌≤◌, Bool, true, false, List, [], length, Option, Some, None, sym, ap, subst, ◌∙◌, arith, length-append}
use Rattle.std.specs.Prelude.{slice_get}
use Rattle.std.proofs.lemmas.List.{append-nil}
use Rattle.sch_word.specs.declared.answer.Answer.{Answer}
use Rattle.sch_word.specs.values.Values.{Value, unspecified, is_true}
use Rattle.sch_word.specs.trees.Growth.{GrowsTo}
use Rattle.sch_word.specs.runs.Computation.{Outcome, gives, stops, spent, State, Action, Computation, in_store, after, all_values, new_cells, write_cells, some_each, unset_each, when_known}
use Rattle.sch_word.specs.runs.Charges.{charge_each}
use Rattle.sch_word.specs.runs.Runs.{Run, End, ended, going, run_with, seen, starting_store, starting_state}
use Rattle.sch_word.proofs.Steady.{Steady, steady_charge, steady_charge_each, steady_fit, steady_primitive, steady_read_global, steady_write_global, steady_read_literal}
use Rattle.sch_word.proofs.EntriesAhead.{more_than, more_than_is, Grows, grows_gives, grows_stops, grows_spent, grows_either, grows_in_store, grows_after, EachGrows, no_growth, and_growth, grows_all_values, grows_in_turn, grows_read_cell, grows_write_cell, grows_write_cells, grows_new_cells, grows_new_procedure, grows_new_fix, grows_take_entry, grows_call, ahead, AheadOutcome, Ahead, ahead_gives, ahead_stops, ahead_spent, ahead_either, ahead_after, ahead_in_store, EachAhead, no_ahead, and_ahead, ahead_all_values, ahead_in_turn, ahead_read_cell, ahead_write_cell, ahead_write_cells, ahead_new_cells, ahead_new_procedure, ahead_new_fix, ahead_take_entry, ahead_call}
use Rattle.sch_word.specs.runs.Orders.{Orders, order_at}
use Rattle.sch_word.specs.values.CellBytes.{cells_bytes}
use Rattle.sch_lang.specs.Tree.{Expression, Expressions, constant, literal, local, global, set_local, set_global, define, branch, sequence, bind, fix, letrec, lambda, call, operation, no_expressions, and_expression, count, count_lambdas, Source}
use Rattle.sch_lang.specs.Variables.{cells_of}
use Rattle.sch_lang.specs.Meaning.{Closure, Enter, onto, closures, lambda_bytes, lambdas_bytes, evaluate, each, parts, enter}
use Rattle.sch_lang.specs.Run.{outcome}
use Rattle.sch_lang.specs.Laws.{GoesFurther, MoreEntries}

-- ## Growth

steady_grows : {V : Type 0} {f : Action V} → Steady f → Grows {P = Closure} (in_store f)
steady_grows {f = f} h = grows_in_store f h.grows

known_grows : {V : Type 0} (o : Option ℕ) {next : ℕ → Computation Closure V} → ((c : ℕ) → Grows (next c)) → Grows (when_known o next)
known_grows None h = grows_stops _
known_grows (Some c) h = h c

module _ (orders : Orders) (enter1 : Enter) (enter_grows : (p : Closure) (vs : List Value) (depth : ℕ) → Grows (enter1 p vs depth)) where
  mutual
    evaluate_grows : (e : Expression) (environment : List ℕ) (depth : ℕ) (tail : Bool) → Grows (evaluate orders enter1 e environment depth tail)
    evaluate_grows (constant c) environment depth tail = grows_gives _
    evaluate_grows (literal n) environment depth tail = steady_grows (steady_read_literal n)
    evaluate_grows (local k) environment depth tail = known_grows (slice_get environment k) grows_read_cell
    evaluate_grows (global g) environment depth tail = steady_grows (steady_read_global g)
    evaluate_grows (set_local k e) environment depth tail =
        grows_after (evaluate_grows e environment depth false) (λ v. known_grows (slice_get environment k) (λ c. grows_write_cell c v))
    evaluate_grows (set_global g e) environment depth tail =
        grows_after (evaluate_grows e environment depth false) (λ v. steady_grows (steady_write_global g v))
    evaluate_grows (define g e) environment depth tail =
        grows_after (evaluate_grows e environment depth false) (λ v. steady_grows (steady_write_global g v))
    evaluate_grows (branch a b c) environment depth tail =
        grows_after (evaluate_grows a environment depth false)
        (λ v. grows_either (is_true v) (evaluate_grows b environment depth tail) (evaluate_grows c environment depth tail))
    evaluate_grows (sequence es) environment depth tail = grows_in_turn unspecified (parts_grow es environment depth tail)
    evaluate_grows (bind site es e) environment depth tail =
        grows_after (grows_all_values (orders site) (each_grows es environment depth))
        (λ vs. grows_after (steady_grows (steady_charge_each (cells_of (count es) e)))
        (λ _. grows_after (grows_new_cells (some_each vs))
        (λ cs. evaluate_grows e (onto cs environment) depth tail)))
    evaluate_grows (fix ls e) environment depth tail =
        grows_after (steady_grows (steady_charge_each (lambdas_bytes ls)))
        (λ _. grows_after (grows_new_fix (count_lambdas ls) (λ cs. closures ls (onto cs environment)))
        (λ cs. evaluate_grows e (onto cs environment) depth tail))
    evaluate_grows (letrec site es e) environment depth tail =
        grows_after (steady_grows (steady_charge_each (cells_bytes (count es))))
        (λ _. grows_after (grows_new_cells (unset_each (count es)))
        (λ cs. grows_after (grows_all_values (orders site) (each_grows es (onto cs environment) depth))
        (λ vs. grows_after (grows_write_cells cs vs)
        (λ _. evaluate_grows e (onto cs environment) depth tail))))
    evaluate_grows (lambda name formals rest e) environment depth tail =
        grows_after (steady_grows (steady_charge (lambda_bytes formals e))) (λ _. grows_new_procedure _)
    evaluate_grows (call site f es) environment depth tail =
        grows_after (grows_all_values (orders site) (and_growth (evaluate_grows f environment depth false) (each_grows es environment depth)))
        (λ vs. grows_call enter1 enter_grows false tail depth vs)
    evaluate_grows (operation site which es) environment depth tail =
        grows_after (grows_all_values (orders site) (each_grows es environment depth)) (λ vs. steady_grows (steady_primitive which vs))

    each_grows : (es : Expressions) (environment : List ℕ) (depth : ℕ) → EachGrows (each orders enter1 es environment depth)
    each_grows no_expressions environment depth = no_growth
    each_grows (and_expression e es) environment depth = and_growth (evaluate_grows e environment depth false) (each_grows es environment depth)

    parts_grow : (es : Expressions) (environment : List ℕ) (depth : ℕ) (tail : Bool) → EachGrows (parts orders enter1 es environment depth tail)
    parts_grow no_expressions environment depth tail = no_growth
    parts_grow (and_expression e no_expressions) environment depth tail = and_growth (evaluate_grows e environment depth tail) no_growth
    parts_grow (and_expression e (and_expression e' es)) environment depth tail =
        and_growth (evaluate_grows e environment depth false) (parts_grow (and_expression e' es) environment depth tail)

enter_grows : (orders : Orders) (n : ℕ) (p : Closure) (vs : List Value) (depth : ℕ) → Grows (enter orders n p vs depth)
enter_grows orders zero p vs depth = grows_spent
enter_grows orders (suc n) p vs depth =
    grows_after (steady_grows (steady_fit p.formals p.rest vs))
    (λ ws. grows_after grows_take_entry
    (λ _. grows_after (steady_grows (steady_charge_each (cells_of p.formals p.body)))
    (λ _. grows_after (grows_new_cells (some_each ws))
    (λ cs. evaluate_grows orders (enter orders n) (enter_grows orders n) p.body (onto cs p.environment) depth true))))

-- ## More entries

known_ahead : {V : Type 0} (k : ℕ) (o : Option ℕ) {next : ℕ → Computation Closure V} → ((c : ℕ) → Ahead k (next c) (next c)) → Ahead k (when_known o next) (when_known o next)
known_ahead k None h = ahead_stops k _
known_ahead k (Some c) h = h c

module _ (k : ℕ) (orders : Orders) (enter1 enter2 : Enter)
    (enter_ahead : (p : Closure) (vs : List Value) (depth : ℕ) → Ahead k (enter1 p vs depth) (enter2 p vs depth))
    (enter_grows : (p : Closure) (vs : List Value) (depth : ℕ) → Grows (enter2 p vs depth)) where
  -- what follows the parts of a binding, and of entering a procedure
  bound_grows : (vs : List Value) (e : Expression) (environment : List ℕ) (depth : ℕ) (tail : Bool)
      → Grows (after (new_cells (some_each vs)) (λ cs. evaluate orders enter2 e (onto cs environment) depth tail))
  bound_grows vs e environment depth tail =
      grows_after (grows_new_cells (some_each vs)) (λ cs. evaluate_grows orders enter2 enter_grows e (onto cs environment) depth tail)

  written_grows : (cs : List ℕ) (vs : List Value) (e : Expression) (environment : List ℕ) (depth : ℕ) (tail : Bool)
      → Grows (after (write_cells cs vs) (λ _. evaluate orders enter2 e (onto cs environment) depth tail))
  written_grows cs vs e environment depth tail =
      grows_after (grows_write_cells cs vs) (λ _. evaluate_grows orders enter2 enter_grows e (onto cs environment) depth tail)

  inits_grow : (site : ℕ) (cs : List ℕ) (es : Expressions) (e : Expression) (environment : List ℕ) (depth : ℕ) (tail : Bool)
      → Grows (after (all_values (orders site) (each orders enter2 es (onto cs environment) depth))
      (λ vs. after (write_cells cs vs) (λ _. evaluate orders enter2 e (onto cs environment) depth tail)))
  inits_grow site cs es e environment depth tail =
      grows_after (grows_all_values (orders site) (each_grows orders enter2 enter_grows es (onto cs environment) depth)) (λ vs. written_grows cs vs e environment depth tail)

  mutual
    evaluate_ahead : (e : Expression) (environment : List ℕ) (depth : ℕ) (tail : Bool) → Ahead k (evaluate orders enter1 e environment depth tail) (evaluate orders enter2 e environment depth tail)
    evaluate_ahead (constant c) environment depth tail = ahead_gives k _
    evaluate_ahead (literal n) environment depth tail = ahead_in_store k (steady_read_literal n)
    evaluate_ahead (local j) environment depth tail = known_ahead k (slice_get environment j) (ahead_read_cell k)
    evaluate_ahead (global g) environment depth tail = ahead_in_store k (steady_read_global g)
    evaluate_ahead (set_local j e) environment depth tail =
        ahead_after k (evaluate_ahead e environment depth false) (λ v. known_ahead k (slice_get environment j) (λ c. ahead_write_cell k c v))
        (λ v. known_grows (slice_get environment j) (λ c. grows_write_cell c v))
    evaluate_ahead (set_global g e) environment depth tail =
        ahead_after k (evaluate_ahead e environment depth false) (λ v. ahead_in_store k (steady_write_global g v)) (λ v. steady_grows (steady_write_global g v))
    evaluate_ahead (define g e) environment depth tail =
        ahead_after k (evaluate_ahead e environment depth false) (λ v. ahead_in_store k (steady_write_global g v)) (λ v. steady_grows (steady_write_global g v))
    evaluate_ahead (branch a b c) environment depth tail =
        ahead_after k (evaluate_ahead a environment depth false)
        (λ v. ahead_either k (is_true v) (evaluate_ahead b environment depth tail) (evaluate_ahead c environment depth tail))
        (λ v. grows_either (is_true v) (evaluate_grows orders enter2 enter_grows b environment depth tail) (evaluate_grows orders enter2 enter_grows c environment depth tail))
    evaluate_ahead (sequence es) environment depth tail =
        ahead_in_turn k unspecified (parts_ahead es environment depth tail) (parts_grow orders enter2 enter_grows es environment depth tail)
    evaluate_ahead (bind site es e) environment depth tail =
        ahead_after k (ahead_all_values k (orders site) (each_ahead es environment depth) (each_grows orders enter2 enter_grows es environment depth))
        (λ vs. ahead_after k (ahead_in_store k (steady_charge_each (cells_of (count es) e)))
        (λ _. ahead_after k (ahead_new_cells k (some_each vs))
        (λ cs. evaluate_ahead e (onto cs environment) depth tail)
        (λ cs. evaluate_grows orders enter2 enter_grows e (onto cs environment) depth tail))
        (λ _. bound_grows vs e environment depth tail))
        (λ vs. grows_after (steady_grows (steady_charge_each (cells_of (count es) e))) (λ _. bound_grows vs e environment depth tail))
    evaluate_ahead (fix ls e) environment depth tail =
        ahead_after k (ahead_in_store k (steady_charge_each (lambdas_bytes ls)))
        (λ _. ahead_after k (ahead_new_fix k (count_lambdas ls) (λ cs. closures ls (onto cs environment)))
        (λ cs. evaluate_ahead e (onto cs environment) depth tail)
        (λ cs. evaluate_grows orders enter2 enter_grows e (onto cs environment) depth tail))
        (λ _. grows_after (grows_new_fix (count_lambdas ls) (λ cs. closures ls (onto cs environment)))
        (λ cs. evaluate_grows orders enter2 enter_grows e (onto cs environment) depth tail))
    evaluate_ahead (letrec site es e) environment depth tail =
        ahead_after k (ahead_in_store k (steady_charge_each (cells_bytes (count es))))
        (λ _. ahead_after k (ahead_new_cells k (unset_each (count es)))
        (λ cs. ahead_after k (ahead_all_values k (orders site) (each_ahead es (onto cs environment) depth) (each_grows orders enter2 enter_grows es (onto cs environment) depth))
        (λ vs. ahead_after k (ahead_write_cells k cs vs)
        (λ _. evaluate_ahead e (onto cs environment) depth tail)
        (λ _. evaluate_grows orders enter2 enter_grows e (onto cs environment) depth tail))
        (λ vs. written_grows cs vs e environment depth tail))
        (λ cs. inits_grow site cs es e environment depth tail))
        (λ _. grows_after (grows_new_cells (unset_each (count es))) (λ cs. inits_grow site cs es e environment depth tail))
    evaluate_ahead (lambda name formals rest e) environment depth tail =
        ahead_after k (ahead_in_store k (steady_charge (lambda_bytes formals e))) (λ _. ahead_new_procedure k _) (λ _. grows_new_procedure _)
    evaluate_ahead (call site f es) environment depth tail =
        ahead_after k (ahead_all_values k (orders site)
        (and_ahead (evaluate_ahead f environment depth false) (each_ahead es environment depth))
        (and_growth (evaluate_grows orders enter2 enter_grows f environment depth false) (each_grows orders enter2 enter_grows es environment depth)))
        (λ vs. ahead_call k enter1 enter2 enter_ahead enter_grows false tail depth vs)
        (λ vs. grows_call enter2 enter_grows false tail depth vs)
    evaluate_ahead (operation site which es) environment depth tail =
        ahead_after k (ahead_all_values k (orders site) (each_ahead es environment depth) (each_grows orders enter2 enter_grows es environment depth))
        (λ vs. ahead_in_store k (steady_primitive which vs)) (λ vs. steady_grows (steady_primitive which vs))

    each_ahead : (es : Expressions) (environment : List ℕ) (depth : ℕ) → EachAhead k (each orders enter1 es environment depth) (each orders enter2 es environment depth)
    each_ahead no_expressions environment depth = no_ahead
    each_ahead (and_expression e es) environment depth = and_ahead (evaluate_ahead e environment depth false) (each_ahead es environment depth)

    parts_ahead : (es : Expressions) (environment : List ℕ) (depth : ℕ) (tail : Bool) → EachAhead k (parts orders enter1 es environment depth tail) (parts orders enter2 es environment depth tail)
    parts_ahead no_expressions environment depth tail = no_ahead
    parts_ahead (and_expression e no_expressions) environment depth tail = and_ahead (evaluate_ahead e environment depth tail) no_ahead
    parts_ahead (and_expression e (and_expression e' es)) environment depth tail =
        and_ahead (evaluate_ahead e environment depth false) (parts_ahead (and_expression e' es) environment depth tail)

module _ (orders : Orders) (n : ℕ) where
  entered_grows : (p : Closure) (ws : List Value) (depth : ℕ) → Grows (after (new_cells (some_each ws)) (λ cs. evaluate orders (enter orders n) p.body (onto cs p.environment) depth true))
  entered_grows p ws depth =
      grows_after (grows_new_cells (some_each ws)) (λ cs. evaluate_grows orders (enter orders n) (enter_grows orders n) p.body (onto cs p.environment) depth true)

  charged_grows : (p : Closure) (ws : List Value) (depth : ℕ)
      → Grows (after (in_store (charge_each (cells_of p.formals p.body)))
      (λ _. after (new_cells (some_each ws)) (λ cs. evaluate orders (enter orders n) p.body (onto cs p.environment) depth true)))
  charged_grows p ws depth = grows_after (steady_grows (steady_charge_each (cells_of p.formals p.body))) (λ _. entered_grows p ws depth)

enter_ahead : (k : ℕ) (orders : Orders) (n : ℕ) (p : Closure) (vs : List Value) (depth : ℕ) → Ahead k (enter orders n p vs depth) (enter orders (more_than n k) p vs depth)
enter_ahead k orders zero p vs depth = ahead_spent k (enter_grows orders k p vs depth)
enter_ahead k orders (suc n) p vs depth =
    ahead_after k (ahead_in_store k (steady_fit p.formals p.rest vs))
    (λ ws. ahead_after k (ahead_take_entry k)
    (λ _. ahead_after k (ahead_in_store k (steady_charge_each (cells_of p.formals p.body)))
    (λ _. ahead_after k (ahead_new_cells k (some_each ws))
    (λ cs. evaluate_ahead k orders (enter orders n) (enter orders (more_than n k)) (enter_ahead k orders n) (enter_grows orders (more_than n k)) p.body (onto cs p.environment) depth true)
    (λ cs. evaluate_grows orders (enter orders (more_than n k)) (enter_grows orders (more_than n k)) p.body (onto cs p.environment) depth true))
    (λ _. entered_grows orders (more_than n k) p ws depth))
    (λ _. charged_grows orders (more_than n k) p ws depth))
    (λ ws. grows_after grows_take_entry (λ _. charged_grows orders (more_than n k) p ws depth))

-- ## Runs

further : (a b : Run) → a ≡ b → GoesFurther a b
further a b same = subst (λ r. GoesFurther a r) same (record { written = []; output = sym (append-nil a.output); entries = omega arith; charged = omega arith; answers = omega arith })

abbrev seen_as : End → List Answer → ℕ → State Closure → Run
seen_as why answers n s = run_with why answers n s.store

-- the entries and the answers that are seen to be taken, from what is left
taken_same : (n k left : ℕ) → (n + k) - more_than left k ≡ n - left
taken_same n k left = rw (more_than_is left k) (omega arith)

seen_same : (answers : List Answer) (n k : ℕ) (why : End) (s : State Closure) → seen_as why answers (n + k) (ahead k s) ≡ seen_as why answers n s
seen_same answers n k why s = ap (λ m. record { output = s.store.output; entries = m; charged = s.store.charged; answers = length answers - length s.store.answers; end = why })
    (taken_same n k s.store.entries)

seen_further : (answers : List Answer) (n k : ℕ) (s : State Closure) (t : State Closure) (why : End) → GrowsTo (ahead k s).store t.store
    → GoesFurther (seen_as going answers n s) (seen_as why answers (n + k) t)
seen_further answers n k s t why g = record {
  written = g.written;
  output = g.output;
  entries = let fewer : t.store.entries ≤ s.store.entries + k = subst (λ m. t.store.entries ≤ m) (more_than_is s.store.entries k) g.entries in omega arith;
  charged = g.charged;
  answers = let same : length s.store.answers ≡ length g.used + length t.store.answers = ap length g.answers ∙ length-append g.used t.store.answers in omega arith;
}

outcome_further : (answers : List Answer) (n k : ℕ) (a b : Outcome (State Closure) Value) → AheadOutcome k a b → GoesFurther (seen answers n a) (seen answers (n + k) b)
outcome_further answers n k (gives v s) b h = further _ _ (sym (ap (seen answers (n + k)) h ∙ seen_same answers n k _ s))
outcome_further answers n k (stops why s) b h = further _ _ (sym (ap (seen answers (n + k)) h ∙ seen_same answers n k _ s))
outcome_further answers n k (spent s) (gives v t) h = seen_further answers n k s t _ h
outcome_further answers n k (spent s) (stops why t) h = seen_further answers n k s t _ h
outcome_further answers n k (spent s) (spent t) h = seen_further answers n k s t _ h

outcome_stays : (answers : List Answer) (n k status : ℕ) (a b : Outcome (State Closure) Value) → AheadOutcome k a b → (seen answers n a).end ≡ ended status → seen answers (n + k) b ≡ seen answers n a
outcome_stays answers n k status (gives v s) b h e = ap (seen answers (n + k)) h ∙ seen_same answers n k _ s
outcome_stays answers n k status (stops why s) b h e = ap (seen answers (n + k)) h ∙ seen_same answers n k _ s
outcome_stays answers n k status (spent s) b h e = absurd (cc)

outcomes_ahead : (p : Source) (table : List (List ℕ)) (heap depth : ℕ) (answers : List Answer) (n k : ℕ)
    → AheadOutcome k (outcome p table heap depth answers n) (outcome p table heap depth answers (more_than n k))
outcomes_ahead p table heap depth answers n k =
    (ahead_in_turn k unspecified
    (each_ahead k (order_at table) (enter (order_at table) n) (enter (order_at table) (more_than n k)) (enter_ahead k (order_at table) n)
    (enter_grows (order_at table) (more_than n k)) p.forms [] depth)
    (each_grows (order_at table) (enter (order_at table) (more_than n k)) (enter_grows (order_at table) (more_than n k)) p.forms [] depth)).from
    (starting_state (starting_store p.statics heap answers n) (closures p.library []))

outcomes_with_more : (p : Source) (table : List (List ℕ)) (heap depth : ℕ) (answers : List Answer) (n k : ℕ)
    → AheadOutcome k (outcome p table heap depth answers n) (outcome p table heap depth answers (n + k))
outcomes_with_more p table heap depth answers n k =
    subst (λ m. AheadOutcome k (outcome p table heap depth answers n) (outcome p table heap depth answers m)) (more_than_is n k) (outcomes_ahead p table heap depth answers n k)

pub more_entries : (p : Source) → MoreEntries p
more_entries p = record {
  ended_stays = λ table heap depth answers n k status e.
      outcome_stays answers n k status (outcome p table heap depth answers n) (outcome p table heap depth answers (n + k)) (outcomes_with_more p table heap depth answers n k) e;
  goes_further = λ table heap depth answers n k.
      outcome_further answers n k (outcome p table heap depth answers n) (outcome p table heap depth answers (n + k)) (outcomes_with_more p table heap depth answers n k);
}
