-- A run depends on an order table at the program's own sites alone.
use Rattle.std.proofs.Common.{◌≡◌, ℕ, zero, suc, Bool, true, false, List, [], ◌∷◌, ◌++◌, length, Option, Some, None, refl}
use Rattle.std.specs.Prelude.{slice_get}
use Rattle.sch_word.specs.values.Values.{Value, unspecified, is_true}
use Rattle.sch_word.specs.runs.Computation.{Computation, read_literal, read_global, write_global, some_each, unset_each, take_entry, when_known}
use Rattle.sch_word.specs.runs.Charges.{charge, charge_each, fit}
use Rattle.sch_word.specs.values.PrimitiveRows.{primitive}
use Rattle.sch_word.specs.runs.Runs.{starting_store}
use Rattle.sch_word.proofs.Lengths.{some_length, unset_length}
use Rattle.sch_word.proofs.Similar.{EachSimilar, no_similar, and_similar, similar_gives, similar_unreached, similar_spent, similar_either, similar_then, similar_all_values, similar_in_turn}
use Rattle.sch_word.proofs.SameStore.{same_store, Pairs, no_pairs, and_pair, DoesSame, same_in_store, keeps_in_store, same_read_cell, same_write_cell, same_write_cells, same_new_procedure, keeps_new_cells, keeps_new_fix, same_keeping, same_call, same_seen, fit_length}
use Rattle.sch_word.specs.runs.Orders.{Orders, order_at}
use Rattle.sch_word.specs.values.CellBytes.{cells_bytes}
use Rattle.sch_lang.specs.Tree.{Expression, Expressions, Lambdas, constant, literal, local, global, set_local, set_global, define, branch, sequence, bind, fix, letrec, lambda, call, operation, no_expressions, and_expression, no_lambdas, and_lambda, count, count_lambdas, Source}
use Rattle.sch_lang.specs.Variables.{cells_of}
use Rattle.sch_lang.specs.Measures.{over, over_each, over_lambdas, site_here}
use Rattle.sch_lang.specs.Meaning.{Closure, Enter, onto, closures, lambda_bytes, lambdas_bytes, evaluate, each, parts, enter}
use Rattle.sch_lang.specs.Laws.{AgreeOn, NeedsOwnOrders}

abbrev joined : List (ℕ × ℕ) → List (ℕ × ℕ) → List (ℕ × ℕ)
joined a b = a ++ b

abbrev sites : Expression → List (ℕ × ℕ)
sites = over [] (λ a b. a ++ b) site_here

abbrev sites_each : Expressions → List (ℕ × ℕ)
sites_each = over_each [] (λ a b. a ++ b) site_here

abbrev sites_lambdas : Lambdas → List (ℕ × ℕ)
sites_lambdas = over_lambdas [] (λ a b. a ++ b) site_here

module _ (orders orders' : Orders) where
  agree_left : (xs ys : List (ℕ × ℕ)) → AgreeOn orders orders' (xs ++ ys) → AgreeOn orders orders' xs
  agree_left [] ys a = tt
  agree_left (x ∷ xs) ys a = (a.0, agree_left xs ys a.1)

  agree_right : (xs ys : List (ℕ × ℕ)) → AgreeOn orders orders' (xs ++ ys) → AgreeOn orders orders' ys
  agree_right [] ys a = a
  agree_right (x ∷ xs) ys a = agree_right xs ys a.1

  -- the same procedure, in whose body the orders are the same
  pub record Becomes (p q : Closure) : Type 0 where
    pub same : p ≡ q
    pub agree : AgreeOn orders orders' (sites p.body)

  closures_become : (ls : Lambdas) (environment : List ℕ) → AgreeOn orders orders' (sites_lambdas ls) → Pairs Becomes (closures ls environment) (closures ls environment)
  closures_become no_lambdas environment a = no_pairs
  closures_become (and_lambda name formals rest e ls) environment a =
      and_pair (record { same = refl; agree = agree_left (sites e) (sites_lambdas ls) a }) (closures_become ls environment (agree_right (sites e) (sites_lambdas ls) a))

  known_same : {V : Type 0} (o : Option ℕ) {next : ℕ → Computation Closure V} → ((c : ℕ) → DoesSame Becomes (next c) (next c)) → DoesSame Becomes (when_known o next) (when_known o next)
  known_same None h = similar_unreached (same_store Becomes)
  known_same (Some c) h = h c

  module _ (enter1 enter2 : Enter) (same_enter : (p q : Closure) → Becomes p q → (vs : List Value) (depth : ℕ) → DoesSame Becomes (enter1 p vs depth) (enter2 q vs depth)) where
    mutual
      evaluate_same : (e : Expression) → AgreeOn orders orders' (sites e) → (environment : List ℕ) (depth : ℕ) (tail : Bool)
          → DoesSame Becomes (evaluate orders enter1 e environment depth tail) (evaluate orders' enter2 e environment depth tail)
      evaluate_same (constant c) a environment depth tail = similar_gives (same_store Becomes) _ _ (λ _ _. refl)
      evaluate_same (literal n) a environment depth tail = same_in_store Becomes (read_literal n)
      evaluate_same (local k) a environment depth tail = known_same (slice_get environment k) (same_read_cell Becomes)
      evaluate_same (global g) a environment depth tail = same_in_store Becomes (read_global g)
      evaluate_same (set_local k e) a environment depth tail =
          similar_then (same_store Becomes) (evaluate_same e a environment depth false) (λ _ _ v. known_same (slice_get environment k) (λ c. same_write_cell Becomes c v))
      evaluate_same (set_global g e) a environment depth tail =
          similar_then (same_store Becomes) (evaluate_same e a environment depth false) (λ _ _ v. same_in_store Becomes (write_global g v))
      evaluate_same (define g e) a environment depth tail =
          similar_then (same_store Becomes) (evaluate_same e a environment depth false) (λ _ _ v. same_in_store Becomes (write_global g v))
      evaluate_same (branch x y z) a environment depth tail =
          similar_then (same_store Becomes) (evaluate_same x (agree_left (sites x) (sites y ++ sites z) a) environment depth false)
          (λ _ _ v. similar_either (same_store Becomes) (is_true v)
          (evaluate_same y (agree_left (sites y) (sites z) (agree_right (sites x) (sites y ++ sites z) a)) environment depth tail)
          (evaluate_same z (agree_right (sites y) (sites z) (agree_right (sites x) (sites y ++ sites z) a)) environment depth tail))
      evaluate_same (sequence es) a environment depth tail = similar_in_turn (same_store Becomes) unspecified (parts_same es a environment depth tail)
      evaluate_same (bind site es e) a environment depth tail =
          rw (← a.0) (same_keeping Becomes (similar_all_values (same_store Becomes) (orders site) (each_same es (agree_left (sites_each es) (sites e) a.1) environment depth))
          (λ vs long. similar_then (same_store Becomes) (same_in_store Becomes (charge_each (cells_of (count es) e)))
          (λ _ _ _. same_keeping Becomes (keeps_new_cells Becomes (length vs) (some_each vs) (some_length vs))
          (λ cs _. evaluate_same e (agree_right (sites_each es) (sites e) a.1) (onto cs environment) depth tail))))
      evaluate_same (fix ls e) a environment depth tail =
          similar_then (same_store Becomes) (same_in_store Becomes (charge_each (lambdas_bytes ls)))
          (λ _ _ _. same_keeping Becomes (keeps_new_fix Becomes (count_lambdas ls) (λ cs _. closures_become ls (onto cs environment) (agree_left (sites_lambdas ls) (sites e) a)))
          (λ cs _. evaluate_same e (agree_right (sites_lambdas ls) (sites e) a) (onto cs environment) depth tail))
      evaluate_same (letrec site es e) a environment depth tail =
          rw (← a.0) (similar_then (same_store Becomes) (same_in_store Becomes (charge_each (cells_bytes (count es))))
          (λ _ _ _. same_keeping Becomes (keeps_new_cells Becomes (count es) (unset_each (count es)) (unset_length (count es)))
          (λ cs _. same_keeping Becomes (similar_all_values (same_store Becomes) (orders site) (each_same es (agree_left (sites_each es) (sites e) a.1) (onto cs environment) depth))
          (λ vs _. similar_then (same_store Becomes) (same_write_cells Becomes cs vs)
          (λ _ _ _. evaluate_same e (agree_right (sites_each es) (sites e) a.1) (onto cs environment) depth tail)))))
      evaluate_same (lambda name formals rest e) a environment depth tail =
          similar_then (same_store Becomes) (same_in_store Becomes (charge (lambda_bytes formals e)))
          (λ _ _ _. same_new_procedure Becomes (record { same = refl; agree = a }))
      evaluate_same (call site f es) a environment depth tail =
          rw (← a.0) (same_keeping Becomes (similar_all_values (same_store Becomes) (orders site)
          (and_similar (evaluate_same f (agree_left (sites f) (sites_each es) a.1) environment depth false) (each_same es (agree_right (sites f) (sites_each es) a.1) environment depth)))
          (λ vs _. same_call Becomes enter1 enter2 same_enter false tail depth vs))
      evaluate_same (operation site which es) a environment depth tail =
          rw (← a.0) (same_keeping Becomes (similar_all_values (same_store Becomes) (orders site) (each_same es a.1 environment depth))
          (λ vs _. same_in_store Becomes (primitive which vs)))

      each_same : (es : Expressions) → AgreeOn orders orders' (sites_each es) → (environment : List ℕ) (depth : ℕ)
          → EachSimilar (same_store Becomes) tt (each orders enter1 es environment depth) (each orders' enter2 es environment depth)
      each_same no_expressions a environment depth = no_similar
      each_same (and_expression e es) a environment depth =
          and_similar (evaluate_same e (agree_left (sites e) (sites_each es) a) environment depth false) (each_same es (agree_right (sites e) (sites_each es) a) environment depth)

      parts_same : (es : Expressions) → AgreeOn orders orders' (sites_each es) → (environment : List ℕ) (depth : ℕ) (tail : Bool)
          → EachSimilar (same_store Becomes) tt (parts orders enter1 es environment depth tail) (parts orders' enter2 es environment depth tail)
      parts_same no_expressions a environment depth tail = no_similar
      parts_same (and_expression e no_expressions) a environment depth tail =
          and_similar (evaluate_same e (agree_left (sites e) [] a) environment depth tail) no_similar
      parts_same (and_expression e (and_expression e' es)) a environment depth tail =
          and_similar (evaluate_same e (agree_left (sites e) (sites_each (and_expression e' es)) a) environment depth false)
          (parts_same (and_expression e' es) (agree_right (sites e) (sites_each (and_expression e' es)) a) environment depth tail)

  body_same : (n : ℕ) → ((p q : Closure) → Becomes p q → (vs : List Value) (depth : ℕ) → DoesSame Becomes (enter orders n p vs depth) (enter orders' n q vs depth)) → (p : Closure)
      → AgreeOn orders orders' (sites p.body) → (vs : List Value) (depth : ℕ) → DoesSame Becomes (enter orders (suc n) p vs depth) (enter orders' (suc n) p vs depth)
  body_same n deeper p a vs depth =
      same_keeping Becomes (keeps_in_store Becomes (λ ws. length ws ≡ p.formals) (fit p.formals p.rest vs) (fit_length p.formals p.rest vs))
      (λ ws _. similar_then (same_store Becomes) (same_in_store Becomes take_entry)
      (λ _ _ _. similar_then (same_store Becomes) (same_in_store Becomes (charge_each (cells_of p.formals p.body)))
      (λ _ _ _. same_keeping Becomes (keeps_new_cells Becomes (length ws) (some_each ws) (some_length ws))
      (λ cs _. evaluate_same (enter orders n) (enter orders' n) deeper p.body a (onto cs p.environment) depth true))))

  enter_same : (n : ℕ) (p q : Closure) → Becomes p q → (vs : List Value) (depth : ℕ) → DoesSame Becomes (enter orders n p vs depth) (enter orders' n q vs depth)
  enter_same zero p q b vs depth = similar_spent (same_store Becomes)
  enter_same (suc n) p q b vs depth = rw (← b.same) (body_same n (enter_same n) p b.agree vs depth)

pub needs_own_orders : (p : Source) → NeedsOwnOrders p
needs_own_orders p = record {
  runs = λ table table' a heap depth answers entries.
      let orders = order_at table in
      let orders' = order_at table' in
      same_seen (Becomes orders orders') answers entries _ _
      (similar_in_turn (same_store (Becomes orders orders')) unspecified
      (each_same orders orders' (enter orders entries) (enter orders' entries) (enter_same orders orders' entries) p.forms
      (agree_right orders orders' (sites_lambdas p.library) (sites_each p.forms) a) [] depth))
      (starting_store p.statics heap answers entries) (closures p.library []) (closures p.library [])
      (closures_become orders orders' p.library [] (agree_left orders orders' (sites_lambdas p.library) (sites_each p.forms) a));
}
