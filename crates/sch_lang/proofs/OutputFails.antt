-- A run stops with a failed output only where one of the kernel's answers takes nothing. It is proved for
-- any R that each such answer gives: from a state of such answers every computation leaves such answers,
-- and where it stops with a failed output, R holds.
use Rattle.std.proofs.Common.{◌≡◌, ℕ, zero, suc, Bool, true, false, ℤ, List, [], ◌∷◌, drop, Option, Some, None, refl, ap, subst, sym, arith}
use Rattle.std.specs.Prelude.{All, Any, slice_get, slice_set, slice_index_or, nat_le, ◌+◌, ◌++◌, cond}
use Rattle.std.proofs.lemmas.List.Elements.{All-contains_itself}
use Rattle.sch_word.specs.declared.answer.Answer.{Answer}
use Rattle.sch_word.specs.declared.answer.Answer.TheVariants.{Took, Failed}
use Rattle.sch_word.specs.declared.stop.Stop.{Stop}
use Rattle.sch_word.specs.declared.stop.Stop.TheVariants.{HeapLimit, OutputFailed}
use Rattle.sch_word.specs.declared.primitive.Primitive.{Primitive}
use Rattle.sch_word.specs.declared.primitive.Primitive.TheVariants.{Put}
use Rattle.sch_word.specs.values.Put.{put}
use Rattle.sch_word.specs.values.Values.{Value, fixnum, character, unspecified, symbol, object, procedure, Object, pair, vector, string, is_true}
use Rattle.sch_word.specs.runs.Store.{Store}
use Rattle.sch_word.specs.runs.Stops.{status_of}
use Rattle.sch_word.specs.values.Checked.{Checked, passes, refused, exhausted, unreachable, on_passed}
use Rattle.sch_word.specs.runs.Computation.{Outcome, gives, stops, spent, State, Action, Computation, with_rest, in_store, on_value, after, require, at_place, in_order, in_turn, blanks, all_values, set_or_stop, read_cell, write_cell, write_cells, new_procedure, new_fix, new_cells, some_each, unset_each, read_global, write_global, known_value, read_literal, known_procedure, callee, depth_left, entry_left, checked, checked_call, call_with, taken, take_entry, when_known}
use Rattle.sch_word.specs.runs.Charges.{charge, charge_each, new_object, new_list, fit}
use Rattle.sch_word.specs.values.CellBytes.{cells_bytes}
use Rattle.sch_word.specs.runs.Orders.{Orders, order_at}
use Rattle.sch_word.specs.values.PrimitiveRows.{unary, binary, ternary, as_fixnum, as_character, as_symbol, object_at, pair_or_stop, vector_or_stop, string_or_stop, as_pair, as_vector, as_string, object_test, write_object, element, piece, put_piece, primitive}
use Rattle.sch_word.specs.runs.Runs.{End, ended, going, seen, starting_store, starting_state}
use Rattle.sch_lang.specs.Tree.{Expression, Expressions, constant, literal, local, global, set_local, set_global, define, branch, sequence, bind, fix, letrec, lambda, call, operation, no_expressions, and_expression, count, count_lambdas, Source}
use Rattle.sch_lang.specs.Variables.{cells_of}
use Rattle.sch_lang.specs.Meaning.{Closure, Enter, onto, closures, lambda_bytes, lambdas_bytes, evaluate, each, parts, enter}
use Rattle.sch_lang.specs.Run.{outcome, run}
use Rattle.sch_word.specs.runs.Answers.{TakesNothing}
use Rattle.sch_lang.specs.Laws.{FailsByAnswer}

module _ (R : Type 0) where
  -- each answer that takes nothing gives R
  abbrev Gives : List Answer → Type 0
  Gives answers = All (λ answer. TakesNothing answer → R) answers

  -- a failed output gives R
  abbrev OnFailed : Stop → Type 0
  OnFailed OutputFailed = R
  OnFailed _ = Unit {0}

  -- what an outcome leaves, over states of any kind that have the kernel's answers
  abbrev Kept : {S V : Type 0} → (S → List Answer) → Outcome S V → Type 0
  Kept left (gives v s) = Gives (left s)
  Kept left (stops why s) = OnFailed why
  Kept left (spent s) = Unit {0}

  -- a computation that keeps this
  record Keeps {S V : Type 0} (left : S → List Answer) (c : S → Outcome S V) : Type 0 where
    from : (s : S) → Gives (left s) → Kept left (c s)

  -- ## Computations in general

  module _ {S : Type 0} {left : S → List Answer} where
    module _ {V : Type 0} where
      keeps_gives : (v : V) → Keeps left (gives v)
      keeps_gives v = record { from = λ s g. g }

      keeps_stops : (why : Stop) → OnFailed why → Keeps {V = V} left (stops why)
      keeps_stops why h = record { from = λ s g. h }

      keeps_require : (b : Bool) (why : Stop) {c : S → Outcome S V} → OnFailed why → Keeps left c → Keeps left (require b why c)
      keeps_require true why h g = g
      keeps_require false why h g = keeps_stops why h

      keeps_either : (b : Bool) {c d : S → Outcome S V} → Keeps left c → Keeps left d → Keeps left (cond b c d)
      keeps_either true g h = g
      keeps_either false g h = h

    module _ {V W : Type 0} where
      kept_on_value : (a : Outcome S V) (next : V → S → Outcome S W) → Kept left a → ((v : V) → Keeps left (next v)) → Kept left (on_value a next)
      kept_on_value (gives v s) next g h = (h v).from s g
      kept_on_value (stops why s) next g h = g
      kept_on_value (spent s) next g h = tt

      keeps_after : {c : S → Outcome S V} {next : V → S → Outcome S W} → Keeps left c → ((v : V) → Keeps left (next v)) → Keeps left (after c next)
      keeps_after {c} {next} g h = record { from = λ s e. kept_on_value (c s) next (g.from s e) h }

    keeps_set_or_stop : (o : Option (Option Value)) → Keeps left (set_or_stop o)
    keeps_set_or_stop None = keeps_stops _ tt
    keeps_set_or_stop (Some None) = keeps_stops _ tt
    keeps_set_or_stop (Some (Some v)) = keeps_gives v

  -- ## Actions

  abbrev Acts : {V : Type 0} → Action V → Type 0
  Acts = Keeps (λ t. t.answers)

  keeps_unary : (vs : List Value) {row : Value → Action Value} → ((a : Value) → Acts (row a)) → Acts (unary vs row)
  keeps_unary (a ∷ []) h = h a
  keeps_unary _ h = keeps_stops _ tt

  keeps_binary : (vs : List Value) {row : Value → Value → Action Value} → ((a b : Value) → Acts (row a b)) → Acts (binary vs row)
  keeps_binary (a ∷ (b ∷ [])) h = h a b
  keeps_binary _ h = keeps_stops _ tt

  keeps_ternary : (vs : List Value) {row : Value → Value → Value → Action Value} → ((a b c : Value) → Acts (row a b c)) → Acts (ternary vs row)
  keeps_ternary (a ∷ (b ∷ (c ∷ []))) h = h a b c
  keeps_ternary _ h = keeps_stops _ tt

  keeps_as_fixnum : (v : Value) {next : ℤ → Action Value} → ((n : ℤ) → Acts (next n)) → Acts (as_fixnum v next)
  keeps_as_fixnum (fixnum n) h = h n
  keeps_as_fixnum _ h = keeps_stops _ tt

  keeps_as_character : (v : Value) {next : ℕ → Action Value} → ((byte : ℕ) → Acts (next byte)) → Acts (as_character v next)
  keeps_as_character (character byte) h = h byte
  keeps_as_character _ h = keeps_stops _ tt

  keeps_known_name : (o : Option (List ℕ)) {next : List ℕ → Action Value} → ((name : List ℕ) → Acts (next name)) → Acts (when_known o next)
  keeps_known_name (Some name) h = h name
  keeps_known_name None h = keeps_stops _ tt

  keeps_pair_or_stop : (o : Option Object) {next : Value → Value → Action Value} → ((a d : Value) → Acts (next a d)) → Acts (pair_or_stop o next)
  keeps_pair_or_stop (Some (pair a d)) h = h a d
  keeps_pair_or_stop _ h = keeps_stops _ tt

  keeps_vector_or_stop : (o : Option Object) {next : List Value → Action Value} → ((vs : List Value) → Acts (next vs)) → Acts (vector_or_stop o next)
  keeps_vector_or_stop (Some (vector vs)) h = h vs
  keeps_vector_or_stop _ h = keeps_stops _ tt

  keeps_string_or_stop : (o : Option Object) {next : List ℕ → Action Value} → ((bytes : List ℕ) → Acts (next bytes)) → Acts (string_or_stop o next)
  keeps_string_or_stop (Some (string bytes)) h = h bytes
  keeps_string_or_stop _ h = keeps_stops _ tt

  -- an action that first looks at the store
  keeps_looking : {A V : Type 0} (look : Store → A) (act : A → Action V) → ((a : A) → Acts (act a)) → Acts (λ t. act (look t) t)
  keeps_looking look act h = record { from = λ t g. (h (look t)).from t g }

  keeps_as_symbol : (v : Value) {next : List ℕ → Action Value} → ((name : List ℕ) → Acts (next name)) → Acts (as_symbol v next)
  keeps_as_symbol (symbol n) {next} h = keeps_looking (λ t. slice_get t.constants.symbols n) (λ o. when_known o next) (λ o. keeps_known_name o h)
  keeps_as_symbol _ h = keeps_stops _ tt

  keeps_as_pair : (v : Value) {next : Value → Value → Action Value} → ((a d : Value) → Acts (next a d)) → Acts (as_pair v next)
  keeps_as_pair v {next} h = keeps_looking (object_at v) (λ o. pair_or_stop o next) (λ o. keeps_pair_or_stop o h)

  keeps_as_vector : (v : Value) {next : List Value → Action Value} → ((vs : List Value) → Acts (next vs)) → Acts (as_vector v next)
  keeps_as_vector v {next} h = keeps_looking (object_at v) (λ o. vector_or_stop o next) (λ o. keeps_vector_or_stop o h)

  keeps_as_string : (v : Value) {next : List ℕ → Action Value} → ((bytes : List ℕ) → Acts (next bytes)) → Acts (as_string v next)
  keeps_as_string v {next} h = keeps_looking (object_at v) (λ o. string_or_stop o next) (λ o. keeps_string_or_stop o h)

  keeps_charge_where : (b : Bool) (bytes : ℕ) → Acts (require b HeapLimit (λ u. gives unspecified (record u { charged = u.charged + bytes })))
  keeps_charge_where true bytes = record { from = λ t g. g }
  keeps_charge_where false bytes = keeps_stops _ tt

  keeps_charge : (bytes : ℕ) → Acts (charge bytes)
  keeps_charge bytes = record { from = λ t g. (keeps_charge_where (nat_le (t.charged + bytes) t.constants.heap) bytes).from t g }

  keeps_new_object : (o : Object) → Acts (new_object o)
  keeps_new_object o = record { from = λ t g. g }

  keeps_write_object : (v : Value) (o : Object) → Acts (write_object v o)
  keeps_write_object (object k) o = record { from = λ t g. g }
  keeps_write_object _ o = keeps_stops _ tt

  keeps_element : (o : Option Value) → Acts (element o)
  keeps_element (Some v) = keeps_gives v
  keeps_element None = keeps_stops _ tt

  keeps_object_test : (test : Option Object → Bool) (v : Value) → Acts (object_test test v)
  keeps_object_test test v = record { from = λ t g. g }

  ruleset rows = (
    keeps_gives,
    keeps_require,
    keeps_after,
    keeps_unary,
    keeps_binary,
    keeps_ternary,
    keeps_as_fixnum,
    keeps_as_character,
    keeps_as_symbol,
    keeps_as_pair,
    keeps_as_vector,
    keeps_as_string,
    keeps_charge,
    keeps_new_object,
    keeps_write_object,
    keeps_element,
    keeps_object_test,
  )

  -- ## Output

  later : (answer : Answer) (answers : List Answer) → Gives (answer ∷ answers) → Gives answers
  later answer answers h = λ k d lt. h (suc k) d (omega (arith, lt))

  -- a put leaves such answers, and has taken all of the piece, or R
  put_gives : (bytes : List ℕ) (answers : List Answer) → Gives answers → Gives (put bytes answers).left × ((put bytes answers).whole ≡ false → R)
  put_gives [] answers h = (h, λ cut. absurd cc)
  put_gives (b ∷ bs) [] h = (h, λ cut. absurd cc)
  put_gives (b ∷ bs) (Failed ∷ answers) h = (later Failed answers h, λ cut. h 0 Failed (omega arith) tt)
  put_gives (b ∷ bs) (Took zero ∷ answers) h = (later (Took zero) answers h, λ cut. h 0 (Took zero) (omega arith) tt)
  put_gives (b ∷ bs) (Took (suc k) ∷ answers) h = put_gives (drop (suc k) (b ∷ bs)) answers (later (Took (suc k)) answers h)

  kept_whole : (b : Bool) (t : Store) → Gives t.answers → (b ≡ false → R) → Kept {V = Value} (λ u. u.answers) (require b OutputFailed (gives unspecified) t)
  kept_whole true t g h = g
  kept_whole false t g h = h refl

  keeps_put_piece : (o : Option (List ℕ)) → Acts (put_piece o)
  keeps_put_piece None = keeps_stops _ tt
  keeps_put_piece (Some bytes) = record {
    from = λ t g. let h = put_gives bytes t.answers g in
        kept_whole (put bytes t.answers).whole (record t { output = t.output ++ (put bytes t.answers).taken; answers = (put bytes t.answers).left }) h.0 h.1;
  }

  -- every primitive, of which `Put` alone uses answers
  keeps_primitive : (which : Primitive) (vs : List Value) → Acts (primitive which vs)
  keeps_primitive Put vs = keeps_unary vs (λ v. keeps_looking (piece v) put_piece keeps_put_piece)
  keeps_primitive _ vs = search rows depth 9

  -- ## Charges, variables and literals

  keeps_charge_each : (ns : List ℕ) → Acts (charge_each ns)
  keeps_charge_each [] = keeps_gives _
  keeps_charge_each (n ∷ ns) = keeps_after (keeps_charge n) (λ _. keeps_charge_each ns)

  keeps_new_list : (vs : List Value) → Acts (new_list vs)
  keeps_new_list vs = keeps_after (keeps_charge _) (λ _. record { from = λ t g. g })

  keeps_fit : (formals : ℕ) (rest : Bool) (vs : List Value) → Acts (fit formals rest vs)
  keeps_fit formals false vs = keeps_require _ _ tt (keeps_gives _)
  keeps_fit zero true vs = keeps_stops _ tt
  keeps_fit (suc required) true vs = keeps_require _ _ tt (keeps_after (keeps_new_list _) (λ list. keeps_gives _))

  keeps_read_global : (g : ℕ) → Acts (read_global g)
  keeps_read_global g = keeps_looking (λ t. slice_get t.globals g) set_or_stop keeps_set_or_stop

  keeps_write_global : (g : ℕ) (v : Value) → Acts (write_global g v)
  keeps_write_global g v = record { from = λ t h. h }

  keeps_known_value : (o : Option Value) → Acts (known_value o)
  keeps_known_value None = keeps_stops _ tt
  keeps_known_value (Some v) = keeps_gives v

  keeps_read_literal : (k : ℕ) → Acts (read_literal k)
  keeps_read_literal k = keeps_looking (λ t. slice_get t.constants.literals k) known_value keeps_known_value

  keeps_taken : (n : ℕ) → Acts (taken n)
  keeps_taken zero = record { from = λ t g. tt }
  keeps_taken (suc n) = record { from = λ t g. g }

  keeps_take_entry : Acts take_entry
  keeps_take_entry = keeps_looking (λ t. t.entries) taken keeps_taken

  -- ## Computations

  abbrev Computes : {V : Type 0} → Computation Closure V → Type 0
  Computes = Keeps (λ s. s.store.answers)

  kept_in_store : {V : Type 0} (cs : List (Option Value)) (ps : List Closure) (a : Outcome Store V) → Kept (λ t. t.answers) a → Kept (λ s. s.store.answers) (with_rest cs ps a)
  kept_in_store cs ps (gives v t) g = g
  kept_in_store cs ps (stops why t) g = g
  kept_in_store cs ps (spent t) g = g

  keeps_in_store : {V : Type 0} {f : Action V} → Acts f → Computes (in_store f)
  keeps_in_store {f = f} h = record { from = λ s g. kept_in_store s.cells s.procedures (f s.store) (h.from s.store g) }

  data EachKeeps : List (Computation Closure Value) → Type 0 where
    no_keeping : EachKeeps []
    and_keeping : {c : Computation Closure Value} {cs : List (Computation Closure Value)} → Computes c → EachKeeps cs → EachKeeps (c ∷ cs)

  keeps_at_place : {cs : List (Computation Closure Value)} (i : ℕ) → EachKeeps cs → Computes (at_place (slice_get cs i))
  keeps_at_place i no_keeping = keeps_gives unspecified
  keeps_at_place zero (and_keeping g gs) = g
  keeps_at_place (suc i) (and_keeping g gs) = keeps_at_place i gs

  keeps_in_order : (order : List ℕ) {cs : List (Computation Closure Value)} (vs : List Value) → EachKeeps cs → Computes (in_order order cs vs)
  keeps_in_order [] vs g = keeps_gives vs
  keeps_in_order (i ∷ order) vs g = keeps_after (keeps_at_place i g) (λ v. keeps_in_order order (slice_set vs i v) g)

  keeps_all_values : (order : List ℕ) {cs : List (Computation Closure Value)} → EachKeeps cs → Computes (all_values order cs)
  keeps_all_values order {cs} g = keeps_in_order order (blanks cs) g

  keeps_in_turn : {cs : List (Computation Closure Value)} (v : Value) → EachKeeps cs → Computes (in_turn cs v)
  keeps_in_turn v no_keeping = keeps_gives v
  keeps_in_turn v (and_keeping g gs) = keeps_after g (λ w. keeps_in_turn w gs)

  keeps_read_cell : (c : ℕ) → Computes (read_cell c)
  keeps_read_cell c = record { from = λ s g. (keeps_set_or_stop (slice_get s.cells c)).from s g }

  keeps_write_cell : (c : ℕ) (v : Value) → Computes (write_cell c v)
  keeps_write_cell c v = record { from = λ s g. g }

  keeps_write_cells : (cs : List ℕ) (vs : List Value) → Computes (write_cells cs vs)
  keeps_write_cells [] vs = keeps_gives unspecified
  keeps_write_cells (c ∷ cs) [] = keeps_gives unspecified
  keeps_write_cells (c ∷ cs) (v ∷ vs) = keeps_after (keeps_write_cell c v) (λ _. keeps_write_cells cs vs)

  keeps_new_cells : (contents : List (Option Value)) → Computes (new_cells contents)
  keeps_new_cells contents = record { from = λ s g. g }

  keeps_new_procedure : (p : Closure) → Computes (new_procedure p)
  keeps_new_procedure p = record { from = λ s g. g }

  keeps_new_fix : (k : ℕ) (make : List ℕ → List Closure) → Computes (new_fix k make)
  keeps_new_fix k make = record { from = λ s g. g }

  keeps_known : {V : Type 0} (o : Option ℕ) {next : ℕ → Computation Closure V} → ((c : ℕ) → Computes (next c)) → Computes (when_known o next)
  keeps_known None h = keeps_stops _ tt
  keeps_known (Some c) h = h c

  -- ## Calls, whose checks refuse with no failed output

  abbrev Refuses : {A : Type 0} → Checked A → Type 0
  Refuses (refused why) = OnFailed why
  Refuses _ = Unit {0}

  refuses_on : {A B : Type 0} (c : Checked A) (next : A → Checked B) → Refuses c → ((a : A) → Refuses (next a)) → Refuses (on_passed c next)
  refuses_on (passes a) next g h = h a
  refuses_on (refused why) next g h = g
  refuses_on exhausted next g h = tt
  refuses_on unreachable next g h = tt

  refuses_known : {P : Type 0} (p : Option P) → Refuses (known_procedure p)
  refuses_known None = tt
  refuses_known (Some p) = tt

  refuses_callee : {P : Type 0} (ps : List P) (vs : List Value) → Refuses (callee ps vs)
  refuses_callee ps (procedure n ∷ vs) = refuses_known (slice_get ps n)
  refuses_callee ps _ = tt

  refuses_depth_left : (tail : Bool) (depth : ℕ) → Refuses (depth_left tail depth)
  refuses_depth_left true depth = tt
  refuses_depth_left false zero = tt
  refuses_depth_left false (suc depth) = tt

  refuses_entry_left : {V : Type 0} (n : ℕ) (v : V) → Refuses (entry_left n v)
  refuses_entry_left zero v = tt
  refuses_entry_left (suc n) v = tt

  refuses_checked_call : {P : Type 0} (ps : List P) (t : Store) (tail : Bool) (depth : ℕ) (vs : List Value) → Refuses (checked_call ps t false tail depth vs)
  refuses_checked_call ps t tail depth vs =
      refuses_on (callee ps vs) _ (refuses_callee ps vs) (λ _. refuses_on (depth_left tail depth) _ (refuses_depth_left tail depth) (λ _. refuses_entry_left t.entries _))

  keeps_checked : {A V : Type 0} (c : Checked A) {next : A → Computation Closure V} → Refuses c → ((a : A) → Computes (next a)) → Computes (checked c next)
  keeps_checked (passes a) g h = h a
  keeps_checked (refused why) g h = keeps_stops why g
  keeps_checked exhausted g h = record { from = λ s e. tt }
  keeps_checked unreachable g h = keeps_stops _ tt

  module _ (enter1 : Enter) (enter_keeps : (p : Closure) (vs : List Value) (depth : ℕ) → Computes (enter1 p vs depth)) where
    keeps_call : (tail : Bool) (depth : ℕ) (vs : List Value) → Computes (call_with enter1 false tail depth vs)
    keeps_call tail depth vs = record {
      from = λ s g. (keeps_checked (checked_call s.procedures s.store false tail depth vs) (refuses_checked_call s.procedures s.store tail depth vs)
          (λ e. enter_keeps e.procedure e.arguments e.depth)).from s g;
    }

  -- ## Expressions

  module _ (orders : Orders) (enter1 : Enter) (enter_keeps : (p : Closure) (vs : List Value) (depth : ℕ) → Computes (enter1 p vs depth)) where
    mutual
      evaluate_keeps : (e : Expression) (environment : List ℕ) (depth : ℕ) (tail : Bool) → Computes (evaluate orders enter1 e environment depth tail)
      evaluate_keeps (constant c) environment depth tail = keeps_gives _
      evaluate_keeps (literal k) environment depth tail = keeps_in_store (keeps_read_literal k)
      evaluate_keeps (local k) environment depth tail = keeps_known (slice_get environment k) keeps_read_cell
      evaluate_keeps (global g) environment depth tail = keeps_in_store (keeps_read_global g)
      evaluate_keeps (set_local k e) environment depth tail =
          keeps_after (evaluate_keeps e environment depth false) (λ v. keeps_known (slice_get environment k) (λ c. keeps_write_cell c v))
      evaluate_keeps (set_global g e) environment depth tail = keeps_after (evaluate_keeps e environment depth false) (λ v. keeps_in_store (keeps_write_global g v))
      evaluate_keeps (define g e) environment depth tail = keeps_after (evaluate_keeps e environment depth false) (λ v. keeps_in_store (keeps_write_global g v))
      evaluate_keeps (branch a b c) environment depth tail =
          keeps_after (evaluate_keeps a environment depth false)
          (λ v. keeps_either (is_true v) (evaluate_keeps b environment depth tail) (evaluate_keeps c environment depth tail))
      evaluate_keeps (sequence es) environment depth tail = keeps_in_turn unspecified (parts_keep es environment depth tail)
      evaluate_keeps (bind site es e) environment depth tail =
          keeps_after (keeps_all_values (orders site) (each_keeps es environment depth))
          (λ vs. keeps_after (keeps_in_store (keeps_charge_each (cells_of (count es) e)))
          (λ _. keeps_after (keeps_new_cells (some_each vs))
          (λ cs. evaluate_keeps e (onto cs environment) depth tail)))
      evaluate_keeps (fix ls e) environment depth tail =
          keeps_after (keeps_in_store (keeps_charge_each (lambdas_bytes ls)))
          (λ _. keeps_after (keeps_new_fix (count_lambdas ls) (λ cs. closures ls (onto cs environment)))
          (λ cs. evaluate_keeps e (onto cs environment) depth tail))
      evaluate_keeps (letrec site es e) environment depth tail =
          keeps_after (keeps_in_store (keeps_charge_each (cells_bytes (count es))))
          (λ _. keeps_after (keeps_new_cells (unset_each (count es)))
          (λ cs. keeps_after (keeps_all_values (orders site) (each_keeps es (onto cs environment) depth))
          (λ vs. keeps_after (keeps_write_cells cs vs)
          (λ _. evaluate_keeps e (onto cs environment) depth tail))))
      evaluate_keeps (lambda name formals rest e) environment depth tail =
          keeps_after (keeps_in_store (keeps_charge (lambda_bytes formals e))) (λ _. keeps_new_procedure _)
      evaluate_keeps (call site f es) environment depth tail =
          keeps_after (keeps_all_values (orders site) (and_keeping (evaluate_keeps f environment depth false) (each_keeps es environment depth)))
          (λ vs. keeps_call enter1 enter_keeps tail depth vs)
      evaluate_keeps (operation site which es) environment depth tail =
          keeps_after (keeps_all_values (orders site) (each_keeps es environment depth)) (λ vs. keeps_in_store (keeps_primitive which vs))

      each_keeps : (es : Expressions) (environment : List ℕ) (depth : ℕ) → EachKeeps (each orders enter1 es environment depth)
      each_keeps no_expressions environment depth = no_keeping
      each_keeps (and_expression e es) environment depth = and_keeping (evaluate_keeps e environment depth false) (each_keeps es environment depth)

      parts_keep : (es : Expressions) (environment : List ℕ) (depth : ℕ) (tail : Bool) → EachKeeps (parts orders enter1 es environment depth tail)
      parts_keep no_expressions environment depth tail = no_keeping
      parts_keep (and_expression e no_expressions) environment depth tail = and_keeping (evaluate_keeps e environment depth tail) no_keeping
      parts_keep (and_expression e (and_expression e' es)) environment depth tail =
          and_keeping (evaluate_keeps e environment depth false) (parts_keep (and_expression e' es) environment depth tail)

  -- ## Entering, and whole runs

  enter_keeps : (orders : Orders) (n : ℕ) (p : Closure) (vs : List Value) (depth : ℕ) → Computes (enter orders n p vs depth)
  enter_keeps orders zero p vs depth = record { from = λ s g. tt }
  enter_keeps orders (suc n) p vs depth =
      keeps_after (keeps_in_store (keeps_fit p.formals p.rest vs))
      (λ ws. keeps_after (keeps_in_store keeps_take_entry)
      (λ _. keeps_after (keeps_in_store (keeps_charge_each (cells_of p.formals p.body)))
      (λ _. keeps_after (keeps_new_cells (some_each ws))
      (λ cs. evaluate_keeps orders (enter orders n) (enter_keeps orders n) p.body (onto cs p.environment) depth true))))

  stop_gives : (why : Stop) → OnFailed why → status_of why ≡ status_of OutputFailed → R
  stop_gives OutputFailed h is = h
  stop_gives _ h is = absurd (omega (arith, is))

  abbrev status : End → ℕ
  status (ended n) = n
  status going = 0

  seen_gives : (answers : List Answer) (n : ℕ) (a : Outcome (State Closure) Value) → Kept (λ s. s.store.answers) a → (seen answers n a).end ≡ ended (status_of OutputFailed) → R
  seen_gives answers n (gives v s) g is = absurd cc
  seen_gives answers n (stops why s) g is = stop_gives why g (ap status is)
  seen_gives answers n (spent s) g is = absurd cc

  run_gives : (p : Source) (table : List (List ℕ)) (heap depth : ℕ) (answers : List Answer) (n : ℕ) → Gives answers → (run p table heap depth answers n).end ≡ ended (status_of OutputFailed) → R
  run_gives p table heap depth answers n g is =
      let forms = each_keeps (order_at table) (enter (order_at table) n) (enter_keeps (order_at table) n) p.forms [] depth in
      seen_gives answers n (outcome p table heap depth answers n)
      ((keeps_in_turn unspecified forms).from (starting_state (starting_store p.statics heap answers n) (closures p.library [])) g) is

-- an answer that takes nothing is one
any_refused : (answers : List Answer) → Gives (Any TakesNothing answers) answers
any_refused answers k d lt h = let found = All-contains_itself answers k d lt in (found.0, slice_index_or answers k d, found.1, found.2, h)

pub fails_by_answer : (p : Source) → FailsByAnswer p
fails_by_answer p = record { nothing_taken = λ table heap depth answers n is. run_gives (Any TakesNothing answers) p table heap depth answers n (any_refused answers) is }

-- what follows from each answer that takes nothing follows where there is one
pub refused_gives : (R : Type 0) (answers : List Answer) → Any TakesNothing answers → All (λ answer. TakesNothing answer → R) answers → R
refused_gives R answers found h = h found.0 found.1 found.2 (subst TakesNothing (sym found.3) found.4)
