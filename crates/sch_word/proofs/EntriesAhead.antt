-- One computation with more procedure entries than another: it does the same, and where the other's
-- entries are spent it goes on from there, and its store only grows.
use Rattle.std.proofs.Common.{◌≡◌, ℕ, zero, suc, ◌+◌, Bool, true, false, List, [], ◌∷◌, Option, Some, None, refl, sym, ap, subst, ◌∙◌, arith}
use Rattle.std.specs.Prelude.{slice_get, slice_set, cond}
use Rattle.sch_word.specs.declared.stop.Stop.{Stop}
use Rattle.sch_word.specs.values.Values.{Value, unspecified}
use Rattle.sch_word.specs.runs.Store.{Store}
use Rattle.sch_word.specs.trees.Growth.{GrowsTo}
use Rattle.sch_word.specs.values.Checked.{Checked, passes, refused, exhausted, unreachable, on_passed}
use Rattle.sch_word.specs.runs.Handed.{handed}
use Rattle.sch_word.specs.runs.Computation.{Outcome, gives, stops, spent, State, Action, Computation, with_rest, in_store, on_value, after, at_place, in_order, in_turn, blanks, all_values, set_or_stop, read_cell, write_cell, write_cells, new_procedure, new_fix, new_cells, checked, callee, operands, depth_left, entry_left, checked_call, call_with, taken, take_entry, Enter}
use Rattle.sch_word.proofs.Steady.{OutcomeGrows, grows_self, grows_on, quiet, with_entries, outcome_with, Steady}

-- the sum, by recursion on its first number
abbrev pub more_than : ℕ → ℕ → ℕ
more_than zero k = k
more_than (suc n) k = suc (more_than n k)

pub more_than_is : (n k : ℕ) → more_than n k ≡ n + k
more_than_is zero k = omega arith
more_than_is (suc n) k = ap suc (more_than_is n k) ∙ omega arith

taken_grows : (n : ℕ) (t : Store) → OutcomeGrows (with_entries n t) (taken n (with_entries n t))
taken_grows zero t = grows_self (with_entries zero t)
taken_grows (suc n) t = quiet (with_entries (suc n) t) (with_entries n t) refl refl refl (omega arith) (omega arith) (omega arith)

-- how many entries are left after an action
abbrev pub entries_of : {V : Type 0} → Outcome Store V → ℕ
entries_of (gives v t) = t.entries
entries_of (stops why t) = t.entries
entries_of (spent t) = t.entries

entries_of_with : {V : Type 0} (n : ℕ) (a : Outcome Store V) → entries_of (outcome_with n a) ≡ n
entries_of_with n (gives v t) = refl
entries_of_with n (stops why t) = refl
entries_of_with n (spent t) = refl

-- a steady action leaves the entries as they were
entries_stay : {V : Type 0} {f : Action V} → Steady f → (t : Store) → entries_of (f t) ≡ t.entries
entries_stay {f = f} h t = ap entries_of (h.blind t.entries t) ∙ entries_of_with t.entries (f t)

-- checks of which the second is the first, or the first finds no entry left
pub data CheckedAhead {A : Type 0} : Checked A → Checked A → Type 0 where
  same_check : (c : Checked A) → CheckedAhead c c
  more_left : (c : Checked A) → CheckedAhead exhausted c

ahead_on_passed : {A B : Type 0} (c : Checked A) {next next' : A → Checked B} → ((a : A) → CheckedAhead (next a) (next' a)) → CheckedAhead (on_passed c next) (on_passed c next')
ahead_on_passed (passes a) h = h a
ahead_on_passed (refused why) h = same_check _
ahead_on_passed exhausted h = same_check _
ahead_on_passed unreachable h = same_check _

entry_left_ahead : {V : Type 0} (k n : ℕ) (v : V) → CheckedAhead (entry_left n v) (entry_left (more_than n k) v)
entry_left_ahead k zero v = more_left _
entry_left_ahead k (suc n) v = same_check _

module _ {P : Type 0} where
  -- ## Growth

  abbrev pub StateGrows : {V : Type 0} → Store → Outcome (State P) V → Type 0
  StateGrows t (gives v s) = GrowsTo t s.store
  StateGrows t (stops why s) = GrowsTo t s.store
  StateGrows t (spent s) = GrowsTo t s.store

  -- the store only grows
  pub record Grows {V : Type 0} (c : Computation P V) : Type 0 where
    pub from : (s : State P) → StateGrows s.store (c s)

  state_on : {V : Type 0} (t u : Store) (a : Outcome (State P) V) → GrowsTo t u → StateGrows u a → StateGrows t a
  state_on t u (gives v s) g h = grows_on t u s.store g h
  state_on t u (stops why s) g h = grows_on t u s.store g h
  state_on t u (spent s) g h = grows_on t u s.store g h

  module _ {V : Type 0} where
    pub grows_gives : (v : V) → Grows (gives v)
    grows_gives v = record { from = λ s. grows_self s.store }

    pub grows_stops : (why : Stop) → Grows {V = V} (stops why)
    grows_stops why = record { from = λ s. grows_self s.store }

    pub grows_spent : Grows {V = V} spent
    grows_spent = record { from = λ s. grows_self s.store }

    pub grows_either : (b : Bool) {c d : Computation P V} → Grows c → Grows d → Grows (cond b c d)
    grows_either true g h = g
    grows_either false g h = h

    pub grows_checked : {A : Type 0} (c : Checked A) {next : A → Computation P V} → ((a : A) → Grows (next a)) → Grows (checked c next)
    grows_checked (passes a) h = h a
    grows_checked (refused why) h = grows_stops why
    grows_checked exhausted h = grows_spent
    grows_checked unreachable h = grows_stops _

    with_rest_grows : (t : Store) (cs : List (Option Value)) (ps : List P) (a : Outcome Store V) → OutcomeGrows t a → StateGrows t (with_rest cs ps a)
    with_rest_grows t cs ps (gives v u) g = g
    with_rest_grows t cs ps (stops why u) g = g
    with_rest_grows t cs ps (spent u) g = g

    pub grows_in_store : (f : Action V) → ((t : Store) → OutcomeGrows t (f t)) → Grows (in_store f)
    grows_in_store f h = record { from = λ s. with_rest_grows s.store s.cells s.procedures (f s.store) (h s.store) }

    module _ {W : Type 0} where
      grows_on_value : (t : Store) (a : Outcome (State P) V) (next : V → Computation P W) → StateGrows t a → ((v : V) → Grows (next v)) → StateGrows t (on_value a next)
      grows_on_value t (gives v s) next g h = state_on t s.store (next v s) g ((h v).from s)
      grows_on_value t (stops why s) next g h = g
      grows_on_value t (spent s) next g h = g

      pub grows_after : {c : Computation P V} {next : V → Computation P W} → Grows c → ((v : V) → Grows (next v)) → Grows (after c next)
      grows_after {c} {next} g h = record { from = λ s. grows_on_value s.store (c s) next (g.from s) h }

  pub data EachGrows : List (Computation P Value) → Type 0 where
    no_growth : EachGrows []
    and_growth : {c : Computation P Value} {cs : List (Computation P Value)} → Grows c → EachGrows cs → EachGrows (c ∷ cs)

  at_place_grows : {cs : List (Computation P Value)} (i : ℕ) → EachGrows cs → Grows (at_place (slice_get cs i))
  at_place_grows i no_growth = grows_gives unspecified
  at_place_grows zero (and_growth g gs) = g
  at_place_grows (suc i) (and_growth g gs) = at_place_grows i gs

  in_order_grows : (order : List ℕ) {cs : List (Computation P Value)} (vs : List Value) → EachGrows cs → Grows (in_order order cs vs)
  in_order_grows [] vs g = grows_gives vs
  in_order_grows (i ∷ order) vs g = grows_after (at_place_grows i g) (λ v. in_order_grows order (slice_set vs i v) g)

  pub grows_all_values : (order : List ℕ) {cs : List (Computation P Value)} → EachGrows cs → Grows (all_values order cs)
  grows_all_values order {cs} g = in_order_grows order (blanks cs) g

  pub grows_in_turn : {cs : List (Computation P Value)} (v : Value) → EachGrows cs → Grows (in_turn cs v)
  grows_in_turn v no_growth = grows_gives v
  grows_in_turn v (and_growth g gs) = grows_after g (λ w. grows_in_turn w gs)

  set_or_stop_grows : (o : Option (Option Value)) (s : State P) → StateGrows s.store (set_or_stop o s)
  set_or_stop_grows None s = grows_self s.store
  set_or_stop_grows (Some None) s = grows_self s.store
  set_or_stop_grows (Some (Some v)) s = grows_self s.store

  pub grows_read_cell : (c : ℕ) → Grows (read_cell c)
  grows_read_cell c = record { from = λ s. set_or_stop_grows (slice_get s.cells c) s }

  pub grows_write_cell : (c : ℕ) (v : Value) → Grows (write_cell c v)
  grows_write_cell c v = record { from = λ s. grows_self s.store }

  pub grows_write_cells : (cs : List ℕ) (vs : List Value) → Grows (write_cells cs vs)
  grows_write_cells [] vs = grows_gives unspecified
  grows_write_cells (c ∷ cs) [] = grows_gives unspecified
  grows_write_cells (c ∷ cs) (v ∷ vs) = grows_after (grows_write_cell c v) (λ _. grows_write_cells cs vs)

  pub grows_new_cells : (contents : List (Option Value)) → Grows (new_cells contents)
  grows_new_cells contents = record { from = λ s. grows_self s.store }

  pub grows_new_procedure : (p : P) → Grows (new_procedure p)
  grows_new_procedure p = record { from = λ s. grows_self s.store }

  pub grows_new_fix : (count : ℕ) (make : List ℕ → List P) → Grows (new_fix count make)
  grows_new_fix count make = record { from = λ s. grows_self s.store }

  pub grows_take_entry : Grows (in_store take_entry)
  grows_take_entry = grows_in_store take_entry (λ t. taken_grows t.entries t)

  module _ (enter : Enter P) (enter_grows : (p : P) (vs : List Value) (depth : ℕ) → Grows (enter p vs depth)) where
    pub grows_call : (spread tail : Bool) (depth : ℕ) (vs : List Value) → Grows (call_with enter spread tail depth vs)
    grows_call spread tail depth vs = record {
      from = λ s. (grows_checked (checked_call s.procedures s.store spread tail depth vs) (λ e. enter_grows e.procedure e.arguments e.depth)).from s;
    }

  -- ## More entries

  module _ (k : ℕ) where
    -- the same state with k more entries left
    abbrev pub ahead : State P → State P
    ahead s = record s { store = with_entries (more_than s.store.entries k) s.store }

    abbrev pub AheadOutcome : {V : Type 0} → Outcome (State P) V → Outcome (State P) V → Type 0
    AheadOutcome (gives v s) a = a ≡ gives v (ahead s)
    AheadOutcome (stops why s) a = a ≡ stops why (ahead s)
    AheadOutcome (spent s) a = StateGrows (ahead s).store a

    pub record Ahead {V : Type 0} (c d : Computation P V) : Type 0 where
      pub from : (s : State P) → AheadOutcome (c s) (d (ahead s))

    module _ {V : Type 0} where
      pub ahead_gives : (v : V) → Ahead (gives v) (gives v)
      ahead_gives v = record { from = λ s. refl }

      pub ahead_stops : (why : Stop) → Ahead {V = V} (stops why) (stops why)
      ahead_stops why = record { from = λ s. refl }

      pub ahead_spent : {d : Computation P V} → Grows d → Ahead spent d
      ahead_spent {d} g = record { from = λ s. g.from (ahead s) }

      pub ahead_either : (b : Bool) {c c' d d' : Computation P V} → Ahead c d → Ahead c' d' → Ahead (cond b c c') (cond b d d')
      ahead_either true g h = g
      ahead_either false g h = h

      module _ {W : Type 0} where
        ahead_on_value : (a b : Outcome (State P) V) (next next' : V → Computation P W) → AheadOutcome a b → ((v : V) → Ahead (next v) (next' v)) → ((v : V) → Grows (next' v))
            → AheadOutcome (on_value a next) (on_value b next')
        ahead_on_value (gives v s) b next next' g h r = rw g ((h v).from s)
        ahead_on_value (stops why s) b next next' g h r = rw g refl
        ahead_on_value (spent s) b next next' g h r = grows_on_value (ahead s).store b next' g r

        pub ahead_after : {c d : Computation P V} {next next' : V → Computation P W} → Ahead c d → ((v : V) → Ahead (next v) (next' v)) → ((v : V) → Grows (next' v))
            → Ahead (after c next) (after d next')
        ahead_after {c} {d} {next} {next'} g h r = record { from = λ s. ahead_on_value (c s) (d (ahead s)) next next' (g.from s) h r }

    module _ {V : Type 0} (cs : List (Option Value)) (ps : List P) where
      with_rest_ahead : (a : Outcome Store V) (n : ℕ) → entries_of a ≡ n → AheadOutcome (with_rest cs ps a) (with_rest cs ps (outcome_with (more_than n k) a))
      with_rest_ahead (gives v u) n e = ap (λ m. gives v (record { cells = cs; store = with_entries (more_than m k) u; procedures = ps })) (sym e)
      with_rest_ahead (stops why u) n e = ap (λ m. stops why (record { cells = cs; store = with_entries (more_than m k) u; procedures = ps })) (sym e)
      with_rest_ahead (spent u) n e =
          subst (λ m. GrowsTo (with_entries (more_than u.entries k) u) (with_entries (more_than m k) u)) e (grows_self (with_entries (more_than u.entries k) u))

    pub ahead_in_store : {V : Type 0} {f : Action V} → Steady f → Ahead (in_store f) (in_store f)
    ahead_in_store {f = f} h = record {
      from = λ s. rw (h.blind (more_than s.store.entries k) s.store) (with_rest_ahead s.cells s.procedures (f s.store) s.store.entries (entries_stay h s.store));
    }

    pub data EachAhead : List (Computation P Value) → List (Computation P Value) → Type 0 where
      no_ahead : EachAhead [] []
      and_ahead : {c d : Computation P Value} {cs ds : List (Computation P Value)} → Ahead c d → EachAhead cs ds → EachAhead (c ∷ cs) (d ∷ ds)

    at_place_ahead : {cs ds : List (Computation P Value)} (i : ℕ) → EachAhead cs ds → Ahead (at_place (slice_get cs i)) (at_place (slice_get ds i))
    at_place_ahead i no_ahead = ahead_gives unspecified
    at_place_ahead zero (and_ahead h hs) = h
    at_place_ahead (suc i) (and_ahead h hs) = at_place_ahead i hs

    in_order_ahead : (order : List ℕ) {cs ds : List (Computation P Value)} (vs : List Value) → EachAhead cs ds → EachGrows ds → Ahead (in_order order cs vs) (in_order order ds vs)
    in_order_ahead [] vs h g = ahead_gives vs
    in_order_ahead (i ∷ order) vs h g =
        ahead_after (at_place_ahead i h) (λ v. in_order_ahead order (slice_set vs i v) h g) (λ v. in_order_grows order (slice_set vs i v) g)

    blanks_ahead : {cs ds : List (Computation P Value)} → EachAhead cs ds → blanks cs ≡ blanks ds
    blanks_ahead no_ahead = refl
    blanks_ahead (and_ahead h hs) = ap (λ l. unspecified ∷ l) (blanks_ahead hs)

    pub ahead_all_values : (order : List ℕ) {cs ds : List (Computation P Value)} → EachAhead cs ds → EachGrows ds → Ahead (all_values order cs) (all_values order ds)
    ahead_all_values order {cs} {ds} h g = rw (← blanks_ahead h) (in_order_ahead order (blanks cs) h g)

    pub ahead_in_turn : {cs ds : List (Computation P Value)} (v : Value) → EachAhead cs ds → EachGrows ds → Ahead (in_turn cs v) (in_turn ds v)
    ahead_in_turn v no_ahead g = ahead_gives v
    ahead_in_turn v (and_ahead h hs) (and_growth g gs) = ahead_after h (λ w. ahead_in_turn w hs gs) (λ w. grows_in_turn w gs)

    set_or_stop_ahead : (o : Option (Option Value)) (s : State P) → AheadOutcome (set_or_stop o s) (set_or_stop o (ahead s))
    set_or_stop_ahead None s = refl
    set_or_stop_ahead (Some None) s = refl
    set_or_stop_ahead (Some (Some v)) s = refl

    pub ahead_read_cell : (c : ℕ) → Ahead (read_cell c) (read_cell c)
    ahead_read_cell c = record { from = λ s. set_or_stop_ahead (slice_get s.cells c) s }

    pub ahead_write_cell : (c : ℕ) (v : Value) → Ahead (write_cell c v) (write_cell c v)
    ahead_write_cell c v = record { from = λ s. refl }

    pub ahead_write_cells : (cs : List ℕ) (vs : List Value) → Ahead (write_cells cs vs) (write_cells cs vs)
    ahead_write_cells [] vs = ahead_gives unspecified
    ahead_write_cells (c ∷ cs) [] = ahead_gives unspecified
    ahead_write_cells (c ∷ cs) (v ∷ vs) = ahead_after (ahead_write_cell c v) (λ _. ahead_write_cells cs vs) (λ _. grows_write_cells cs vs)

    pub ahead_new_cells : (contents : List (Option Value)) → Ahead (new_cells contents) (new_cells contents)
    ahead_new_cells contents = record { from = λ s. refl }

    pub ahead_new_procedure : (p : P) → Ahead (new_procedure p) (new_procedure p)
    ahead_new_procedure p = record { from = λ s. refl }

    pub ahead_new_fix : (count : ℕ) (make : List ℕ → List P) → Ahead (new_fix count make) (new_fix count make)
    ahead_new_fix count make = record { from = λ s. refl }

    -- ## Calls

    pub ahead_checked : {A V : Type 0} {c d : Checked A} {next next' : A → Computation P V} → CheckedAhead c d → ((a : A) → Ahead (next a) (next' a)) → ((a : A) → Grows (next' a))
        → Ahead (checked c next) (checked d next')
    ahead_checked (same_check (passes a)) h g = h a
    ahead_checked (same_check (refused why)) h g = ahead_stops why
    ahead_checked (same_check exhausted) h g = ahead_spent grows_spent
    ahead_checked (same_check unreachable) h g = ahead_stops _
    ahead_checked (more_left d) h g = ahead_spent (grows_checked d g)

    checked_call_ahead : (ps : List P) (t : Store) (spread tail : Bool) (depth : ℕ) (vs : List Value)
        → CheckedAhead (checked_call ps t spread tail depth vs) (checked_call ps (with_entries (more_than t.entries k) t) spread tail depth vs)
    checked_call_ahead ps t spread tail depth vs =
        ahead_on_passed (handed (operands vs) spread t.objects)
        (λ arguments. ahead_on_passed (callee ps vs) (λ p. ahead_on_passed (depth_left tail depth) (λ left. entry_left_ahead k t.entries _)))

    take_entry_ahead : (n : ℕ) (cs : List (Option Value)) (ps : List P) (t : Store) →
        AheadOutcome (with_rest cs ps (taken n (with_entries n t))) (with_rest cs ps (taken (more_than n k) (with_entries (more_than n k) t)))
    take_entry_ahead zero cs ps t = with_rest_grows (with_entries k t) cs ps _ (taken_grows k t)
    take_entry_ahead (suc n) cs ps t = refl

    pub ahead_take_entry : Ahead (in_store take_entry) (in_store take_entry)
    ahead_take_entry = record { from = λ s. take_entry_ahead s.store.entries s.cells s.procedures s.store }

    module _ (enter enter' : Enter P) (enter_ahead : (p : P) (vs : List Value) (depth : ℕ) → Ahead (enter p vs depth) (enter' p vs depth))
        (enter_grows : (p : P) (vs : List Value) (depth : ℕ) → Grows (enter' p vs depth)) where
      pub ahead_call : (spread tail : Bool) (depth : ℕ) (vs : List Value) → Ahead (call_with enter spread tail depth vs) (call_with enter' spread tail depth vs)
      ahead_call spread tail depth vs = record {
        from = λ s. (ahead_checked (checked_call_ahead s.procedures s.store spread tail depth vs)
            (λ e. enter_ahead e.procedure e.arguments e.depth) (λ e. enter_grows e.procedure e.arguments e.depth)).from s;
      }
