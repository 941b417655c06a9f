-- Steady actions: the store only grows, how many entries are left is nothing to them, and they are
-- never spent. Every primitive and every charge is one.
use Rattle.std.proofs.Common.{◌≡◌, ℕ, zero, suc, ◌+◌, ◌≤◌, Bool, true, false, ℤ, List, [], ◌∷◌, ◌++◌, length, drop, Option, Some, None, refl, sym, ap, ◌∙◌, arith, append_assoc, length-append}
use Rattle.std.specs.Prelude.{slice_get, slice_set, slice_index, replicate, nat_eq, nat_le, ◌+ℤ◌, ◌-ℤ◌, ◌*ℤ◌, nat_abs, int_div, int_rem, int_lt, int_le, ◌&&◌}
use Rattle.std.proofs.lemmas.List.{append-nil, length-set}
use Rattle.sch_word.specs.declared.answer.Answer.{Answer}
use Rattle.sch_word.specs.declared.answer.Answer.TheVariants.{Took, Failed}
use Rattle.sch_word.specs.declared.stop.Stop.{Stop}
use Rattle.sch_word.specs.declared.stop.Stop.TheVariants.{HeapLimit, OutputFailed}
use Rattle.sch_word.specs.declared.primitive.Primitive.{Primitive}
use Rattle.sch_word.specs.declared.primitive.Primitive.TheVariants.{Eq, Eqv, IsBoolean, IsPair, IsNull, IsSymbol, IsInteger, IsChar, IsString, IsVector, IsProcedure, Cons, Car, Cdr, SetCar, SetCdr, Add, Subtract, Multiply, Quotient, Remainder, Modulo, Equal, Less, Greater, LessEqual, GreaterEqual, CharToInteger, IntegerToChar, MakeString, StringLength, StringRef, StringSet, MakeVector, VectorLength, VectorRef, VectorSet, Put, SymbolLength, SymbolRef}
use Rattle.sch_word.specs.values.Fixnum.{is_fixnum}
use Rattle.sch_word.specs.values.Put as puts
use Rattle.sch_word.specs.values.Values.{Value, fixnum, character, boolean, nil, unspecified, symbol, object, procedure, cell, Object, pair, vector, string}
use Rattle.sch_word.specs.runs.Store.{Store}
use Rattle.sch_word.specs.trees.Growth.{GrowsTo}
use Rattle.sch_word.specs.runs.Computation.{Outcome, gives, stops, spent, Action, on_value, after, require, when_known, set_or_stop, read_global, write_global, known_value, read_literal}
use Rattle.sch_word.specs.runs.Charges.{string_bytes, vector_bytes, charge, charge_each, new_object, charged_object, linked, list_value, new_list, fit}
use Rattle.sch_word.specs.values.PrimitiveRows.{unary, binary, ternary, as_fixnum, as_character, as_symbol, object_at, pair_or_stop, vector_or_stop, string_or_stop, as_pair, as_vector, as_string, in_range, as_length, fixnum_or_stop, arithmetic, comparison, division, object_test, is_pair, is_vector, is_string, int_modulo, is_natural, is_index, write_object, element, piece, put_piece, primitive}

-- ## Growth

-- where the output and the answers are as they were
pub quiet : (s t : Store) → t.constants ≡ s.constants → t.output ≡ s.output → s.answers ≡ t.answers → s.charged ≤ t.charged → length s.objects ≤ length t.objects → t.entries ≤ s.entries → GrowsTo s t
quiet s t constants output answers charged objects entries = record {
  constants = constants;
  written = [];
  output = output ∙ sym (append-nil s.output);
  used = [];
  answers = answers;
  charged = charged;
  objects = objects;
  entries = entries;
}

pub grows_self : (s : Store) → GrowsTo s s
grows_self s = quiet s s refl refl refl (omega arith) (omega arith) (omega arith)

pub grows_on : (s t u : Store) → GrowsTo s t → GrowsTo t u → GrowsTo s u
grows_on s t u g h = record {
  constants = h.constants ∙ g.constants;
  written = g.written ++ h.written;
  output = h.output ∙ (ap (λ l. l ++ h.written) g.output ∙ append_assoc s.output g.written h.written);
  used = g.used ++ h.used;
  answers = g.answers ∙ (ap (λ l. g.used ++ l) h.answers ∙ sym (append_assoc g.used h.used u.answers));
  charged = omega (arith, g.charged, h.charged);
  objects = omega (arith, g.objects, h.objects);
  entries = omega (arith, g.entries, h.entries);
}

-- the store of an outcome has grown from this one
abbrev pub OutcomeGrows : {V : Type 0} → Store → Outcome Store V → Type 0
OutcomeGrows s (gives v t) = GrowsTo s t
OutcomeGrows s (stops why t) = GrowsTo s t
OutcomeGrows s (spent t) = GrowsTo s t

outcome_on : {V : Type 0} (s t : Store) (a : Outcome Store V) → GrowsTo s t → OutcomeGrows t a → OutcomeGrows s a
outcome_on s t (gives v u) g h = grows_on s t u g h
outcome_on s t (stops why u) g h = grows_on s t u g h
outcome_on s t (spent u) g h = grows_on s t u g h

-- ## Steady actions

-- the same store with n entries left
abbrev pub with_entries : ℕ → Store → Store
with_entries n t = record t { entries = n }

abbrev pub outcome_with : {V : Type 0} → ℕ → Outcome Store V → Outcome Store V
outcome_with n (gives v t) = gives v (with_entries n t)
outcome_with n (stops why t) = stops why (with_entries n t)
outcome_with n (spent t) = spent (with_entries n t)

abbrev pub NeverSpent : {V : Type 0} → Outcome Store V → Type 0
NeverSpent (spent t) = ⊥
NeverSpent _ = Unit {0}

pub record Steady {V : Type 0} (f : Action V) : Type 0 where
  pub grows : (t : Store) → OutcomeGrows t (f t)
  pub blind : (n : ℕ) (t : Store) → f (with_entries n t) ≡ outcome_with n (f t)
  pub lasts : (t : Store) → NeverSpent (f t)

module _ {V : Type 0} where
  pub steady_gives : (v : V) → Steady (gives v)
  steady_gives v = record { grows = grows_self; blind = λ n t. refl; lasts = λ t. tt }

  pub steady_stops : (why : Stop) → Steady {V = V} (stops why)
  steady_stops why = record { grows = grows_self; blind = λ n t. refl; lasts = λ t. tt }

  pub steady_require : (b : Bool) (why : Stop) {next : Action V} → Steady next → Steady (require b why next)
  steady_require true why h = h
  steady_require false why h = steady_stops why

  -- an action that first looks at the store
  pub steady_looking : {A : Type 0} (look : Store → A) (act : A → Action V) → ((n : ℕ) (t : Store) → look (with_entries n t) ≡ look t) → ((a : A) → Steady (act a)) → Steady (λ t. act (look t) t)
  steady_looking look act same h = record {
    grows = λ t. (h (look t)).grows t;
    blind = λ n t. ap (λ a. act a (with_entries n t)) (same n t) ∙ (h (look t)).blind n t;
    lasts = λ t. (h (look t)).lasts t;
  }

module _ {V W : Type 0} where
  grows_on_value : (s : Store) (a : Outcome Store V) (next : V → Action W) → OutcomeGrows s a → ((v : V) → Steady (next v)) → OutcomeGrows s (on_value a next)
  grows_on_value s (gives v t) next g h = outcome_on s t (next v t) g ((h v).grows t)
  grows_on_value s (stops why t) next g h = g
  grows_on_value s (spent t) next g h = g

  blind_on_value : (n : ℕ) (a : Outcome Store V) (next : V → Action W) → ((v : V) → Steady (next v)) → on_value (outcome_with n a) next ≡ outcome_with n (on_value a next)
  blind_on_value n (gives v t) next h = (h v).blind n t
  blind_on_value n (stops why t) next h = refl
  blind_on_value n (spent t) next h = refl

  lasts_on_value : (a : Outcome Store V) (next : V → Action W) → NeverSpent a → ((v : V) → Steady (next v)) → NeverSpent (on_value a next)
  lasts_on_value (gives v t) next g h = (h v).lasts t
  lasts_on_value (stops why t) next g h = tt
  lasts_on_value (spent t) next g h = g

  pub steady_after : {first : Action V} {next : V → Action W} → Steady first → ((v : V) → Steady (next v)) → Steady (after first next)
  steady_after {first} {next} f h = record {
    grows = λ t. grows_on_value t (first t) next (f.grows t) h;
    blind = λ n t. ap (λ a. on_value a next) (f.blind n t) ∙ blind_on_value n (first t) next h;
    lasts = λ t. lasts_on_value (first t) next (f.lasts t) h;
  }

-- ## Charges and new objects

abbrev more_charged : ℕ → Action Value
more_charged bytes u = gives unspecified (record u { charged = u.charged + bytes })

steady_more_charged : (bytes : ℕ) → Steady (more_charged bytes)
steady_more_charged bytes = record {
  grows = λ t. quiet t (record t { charged = t.charged + bytes }) refl refl refl (omega arith) (omega arith) (omega arith);
  blind = λ n t. refl;
  lasts = λ t. tt;
}

pub steady_charge : (bytes : ℕ) → Steady (charge bytes)
steady_charge bytes =
    steady_looking (λ t. nat_le (t.charged + bytes) t.constants.heap) (λ b. require b HeapLimit (more_charged bytes)) (λ n t. refl)
    (λ b. steady_require b HeapLimit (steady_more_charged bytes))

pub steady_charge_each : (ns : List ℕ) → Steady (charge_each ns)
steady_charge_each [] = steady_gives unspecified
steady_charge_each (n ∷ ns) = steady_after (steady_charge n) (λ _. steady_charge_each ns)

-- more objects behind those that there are, for a value; both depend on how many there are
abbrev more_objects : (ℕ → Value) → (ℕ → List Object) → Action Value
more_objects value objects t = gives (value (length t.objects)) (record t { objects = t.objects ++ objects (length t.objects) })

steady_more_objects : (value : ℕ → Value) (objects : ℕ → List Object) → Steady (more_objects value objects)
steady_more_objects value objects = record {
  grows = λ t. quiet t (record t { objects = t.objects ++ objects (length t.objects) }) refl refl refl (omega arith)
      (omega (arith, length-append t.objects (objects (length t.objects)))) (omega arith);
  blind = λ n t. refl;
  lasts = λ t. tt;
}

pub steady_new_object : (o : Object) → Steady (new_object o)
steady_new_object o = steady_more_objects object (λ _. o ∷ [])

pub steady_charged_object : (bytes : ℕ) (o : Object) → Steady (charged_object bytes o)
steady_charged_object bytes o = steady_after (steady_charge bytes) (λ _. steady_new_object o)

pub steady_new_list : (vs : List Value) → Steady (new_list vs)
steady_new_list vs = steady_after (steady_charge _) (λ _. steady_more_objects (λ n. list_value n vs nil) (λ n. linked n vs nil))

pub steady_fit : (formals : ℕ) (rest : Bool) (vs : List Value) → Steady (fit formals rest vs)
steady_fit formals false vs = steady_require (nat_eq (length vs) formals) _ (steady_gives vs)
steady_fit zero true vs = steady_stops _
steady_fit (suc required) true vs =
    steady_require (nat_le required (length vs)) _ (steady_after (steady_new_list (drop required vs)) (λ list. steady_gives _))

-- ## Variables and literals

steady_set_or_stop : (o : Option (Option Value)) → Steady (set_or_stop o)
steady_set_or_stop None = steady_stops _
steady_set_or_stop (Some None) = steady_stops _
steady_set_or_stop (Some (Some v)) = steady_gives v

pub steady_read_global : (g : ℕ) → Steady (read_global g)
steady_read_global g = steady_looking (λ t. slice_get t.globals g) set_or_stop (λ n t. refl) steady_set_or_stop

pub steady_write_global : (g : ℕ) (v : Value) → Steady (write_global g v)
steady_write_global g v = record {
  grows = λ t. quiet t (record t { globals = slice_set t.globals g (Some v) }) refl refl refl (omega arith) (omega arith) (omega arith);
  blind = λ n t. refl;
  lasts = λ t. tt;
}

steady_known_value : (o : Option Value) → Steady (known_value o)
steady_known_value None = steady_stops _
steady_known_value (Some v) = steady_gives v

pub steady_read_literal : (k : ℕ) → Steady (read_literal k)
steady_read_literal k = steady_looking (λ t. slice_get t.constants.literals k) known_value (λ n t. refl) steady_known_value

-- ## The parts of primitives

steady_unary : (vs : List Value) {row : Value → Action Value} → ((a : Value) → Steady (row a)) → Steady (unary vs row)
steady_unary [] h = steady_stops _
steady_unary (a ∷ []) h = h a
steady_unary (a ∷ (b ∷ vs)) h = steady_stops _

steady_binary : (vs : List Value) {row : Value → Value → Action Value} → ((a b : Value) → Steady (row a b)) → Steady (binary vs row)
steady_binary [] h = steady_stops _
steady_binary (a ∷ []) h = steady_stops _
steady_binary (a ∷ (b ∷ [])) h = h a b
steady_binary (a ∷ (b ∷ (c ∷ vs))) h = steady_stops _

steady_ternary : (vs : List Value) {row : Value → Value → Value → Action Value} → ((a b c : Value) → Steady (row a b c)) → Steady (ternary vs row)
steady_ternary [] h = steady_stops _
steady_ternary (a ∷ []) h = steady_stops _
steady_ternary (a ∷ (b ∷ [])) h = steady_stops _
steady_ternary (a ∷ (b ∷ (c ∷ []))) h = h a b c
steady_ternary (a ∷ (b ∷ (c ∷ (d ∷ vs)))) h = steady_stops _

steady_as_fixnum : (v : Value) {next : ℤ → Action Value} → ((n : ℤ) → Steady (next n)) → Steady (as_fixnum v next)
steady_as_fixnum (fixnum n) h = h n
steady_as_fixnum _ h = steady_stops _

steady_as_character : (v : Value) {next : ℕ → Action Value} → ((byte : ℕ) → Steady (next byte)) → Steady (as_character v next)
steady_as_character (character byte) h = h byte
steady_as_character _ h = steady_stops _

steady_known : {next : List ℕ → Action Value} → ((name : List ℕ) → Steady (next name)) → (o : Option (List ℕ)) → Steady (when_known o next)
steady_known h (Some name) = h name
steady_known h None = steady_stops _

steady_as_symbol : (v : Value) {next : List ℕ → Action Value} → ((name : List ℕ) → Steady (next name)) → Steady (as_symbol v next)
steady_as_symbol (symbol n) {next} h = steady_looking (λ t. slice_get t.constants.symbols n) (λ o. when_known o next) (λ _ t. refl) (steady_known h)
steady_as_symbol _ h = steady_stops _

object_at_blind : (v : Value) (n : ℕ) (t : Store) → object_at v (with_entries n t) ≡ object_at v t
object_at_blind (object k) n t = refl
object_at_blind _ n t = refl

steady_pair_or_stop : {next : Value → Value → Action Value} → ((a d : Value) → Steady (next a d)) → (o : Option Object) → Steady (pair_or_stop o next)
steady_pair_or_stop h (Some (pair a d)) = h a d
steady_pair_or_stop h _ = steady_stops _

steady_vector_or_stop : {next : List Value → Action Value} → ((vs : List Value) → Steady (next vs)) → (o : Option Object) → Steady (vector_or_stop o next)
steady_vector_or_stop h (Some (vector vs)) = h vs
steady_vector_or_stop h _ = steady_stops _

steady_string_or_stop : {next : List ℕ → Action Value} → ((bytes : List ℕ) → Steady (next bytes)) → (o : Option Object) → Steady (string_or_stop o next)
steady_string_or_stop h (Some (string bytes)) = h bytes
steady_string_or_stop h _ = steady_stops _

steady_as_pair : (v : Value) {next : Value → Value → Action Value} → ((a d : Value) → Steady (next a d)) → Steady (as_pair v next)
steady_as_pair v {next} h = steady_looking (object_at v) (λ o. pair_or_stop o next) (object_at_blind v) (steady_pair_or_stop h)

steady_as_vector : (v : Value) {next : List Value → Action Value} → ((vs : List Value) → Steady (next vs)) → Steady (as_vector v next)
steady_as_vector v {next} h = steady_looking (object_at v) (λ o. vector_or_stop o next) (object_at_blind v) (steady_vector_or_stop h)

steady_as_string : (v : Value) {next : List ℕ → Action Value} → ((bytes : List ℕ) → Steady (next bytes)) → Steady (as_string v next)
steady_as_string v {next} h = steady_looking (object_at v) (λ o. string_or_stop o next) (object_at_blind v) (steady_string_or_stop h)

steady_in_range : (n : ℤ) (bound : ℕ) {next : ℕ → Action Value} → ((k : ℕ) → Steady (next k)) → Steady (in_range n bound next)
steady_in_range n bound h = steady_require (is_index n bound) _ (h (nat_abs n))

steady_as_length : (n : ℤ) {next : ℕ → Action Value} → ((k : ℕ) → Steady (next k)) → Steady (as_length n next)
steady_as_length n h = steady_require (is_natural n) _ (h (nat_abs n))

steady_fixnum_or_stop : (n : ℤ) → Steady (fixnum_or_stop n)
steady_fixnum_or_stop n = steady_require (is_fixnum n) _ (steady_gives _)

steady_arithmetic : (f : ℤ → ℤ → ℤ) (a b : Value) → Steady (arithmetic f a b)
steady_arithmetic f a b = steady_as_fixnum a (λ x. steady_as_fixnum b (λ y. steady_fixnum_or_stop (f x y)))

steady_comparison : (f : ℤ → ℤ → Bool) (a b : Value) → Steady (comparison f a b)
steady_comparison f a b = steady_as_fixnum a (λ x. steady_as_fixnum b (λ y. steady_gives _))

steady_division : (f : ℤ → ℤ → ℤ) (a b : Value) → Steady (division f a b)
steady_division f a b = steady_as_fixnum a (λ x. steady_as_fixnum b (λ y. steady_require _ _ (steady_fixnum_or_stop (f x y))))

steady_object_test : (test : Option Object → Bool) (v : Value) → Steady (object_test test v)
steady_object_test test v = steady_looking (object_at v) (λ o. gives (boolean (test o))) (object_at_blind v) (λ o. steady_gives _)

steady_write_object : (v : Value) (o : Object) → Steady (write_object v o)
steady_write_object (object k) o = record {
  grows = λ t. quiet t (record t { objects = slice_set t.objects k o }) refl refl refl (omega arith) (omega (arith, length-set t.objects k o)) (omega arith);
  blind = λ n t. refl;
  lasts = λ t. tt;
}
steady_write_object _ o = steady_stops _

steady_element : (o : Option Value) → Steady (element o)
steady_element (Some v) = steady_gives v
steady_element None = steady_stops _

-- ## Output

-- a put uses answers from the front
put_uses : (bytes : List ℕ) (answers : List Answer) → (used : List Answer) × (answers ≡ used ++ (puts.put bytes answers).left)
put_uses [] answers = ([], refl)
put_uses (b ∷ bs) [] = ([], refl)
put_uses (b ∷ bs) (Failed ∷ answers) = (Failed ∷ [], refl)
put_uses (b ∷ bs) (Took zero ∷ answers) = (Took zero ∷ [], refl)
put_uses (b ∷ bs) (Took (suc k) ∷ answers) =
    (Took (suc k) ∷ (put_uses (drop (suc k) (b ∷ bs)) answers).0, ap (λ l. Took (suc k) ∷ l) (put_uses (drop (suc k) (b ∷ bs)) answers).1)

put_grows : (bytes : List ℕ) (t : Store) → GrowsTo t (record t { output = t.output ++ (puts.put bytes t.answers).taken; answers = (puts.put bytes t.answers).left })
put_grows bytes t = record {
  constants = refl;
  written = (puts.put bytes t.answers).taken;
  output = refl;
  used = (put_uses bytes t.answers).0;
  answers = (put_uses bytes t.answers).1;
  charged = omega arith;
  objects = omega arith;
  entries = omega arith;
}

whole_grows : (b : Bool) (s t : Store) → GrowsTo s t → OutcomeGrows {V = Value} s (require b OutputFailed (gives unspecified) t)
whole_grows true s t g = g
whole_grows false s t g = g

whole_blind : (b : Bool) (n : ℕ) (t : Store) → require b OutputFailed (gives unspecified) (with_entries n t) ≡ outcome_with {V = Value} n (require b OutputFailed (gives unspecified) t)
whole_blind true n t = refl
whole_blind false n t = refl

whole_lasts : (b : Bool) (t : Store) → NeverSpent {V = Value} (require b OutputFailed (gives unspecified) t)
whole_lasts true t = tt
whole_lasts false t = tt

steady_put_piece : (o : Option (List ℕ)) → Steady (put_piece o)
steady_put_piece (Some bytes) = record {
  grows = λ t. whole_grows (puts.put bytes t.answers).whole t _ (put_grows bytes t);
  blind = λ n t. whole_blind (puts.put bytes t.answers).whole n (record t { output = t.output ++ (puts.put bytes t.answers).taken; answers = (puts.put bytes t.answers).left });
  lasts = λ t. whole_lasts (puts.put bytes t.answers).whole (record t { output = t.output ++ (puts.put bytes t.answers).taken; answers = (puts.put bytes t.answers).left });
}
steady_put_piece None = steady_stops _

piece_blind : (v : Value) (n : ℕ) (t : Store) → piece v (with_entries n t) ≡ piece v t
piece_blind (fixnum k) n t = refl
piece_blind (character byte) n t = refl
piece_blind (boolean true) n t = refl
piece_blind (boolean false) n t = refl
piece_blind nil n t = refl
piece_blind unspecified n t = refl
piece_blind (symbol k) n t = refl
piece_blind (object k) n t = refl
piece_blind (procedure k) n t = refl
piece_blind (cell k) n t = refl

-- ## The rows

pub steady_primitive : (which : Primitive) (vs : List Value) → Steady (primitive which vs)
steady_primitive Eq vs = steady_binary vs (λ a b. steady_gives _)
steady_primitive Eqv vs = steady_binary vs (λ a b. steady_gives _)
steady_primitive IsBoolean vs = steady_unary vs (λ a. steady_gives _)
steady_primitive IsPair vs = steady_unary vs (steady_object_test is_pair)
steady_primitive IsNull vs = steady_unary vs (λ a. steady_gives _)
steady_primitive IsSymbol vs = steady_unary vs (λ a. steady_gives _)
steady_primitive IsInteger vs = steady_unary vs (λ a. steady_gives _)
steady_primitive IsChar vs = steady_unary vs (λ a. steady_gives _)
steady_primitive IsString vs = steady_unary vs (steady_object_test is_string)
steady_primitive IsVector vs = steady_unary vs (steady_object_test is_vector)
steady_primitive IsProcedure vs = steady_unary vs (λ a. steady_gives _)
steady_primitive Cons vs = steady_binary vs (λ a d. steady_charged_object _ _)
steady_primitive Car vs = steady_unary vs (λ p. steady_as_pair p (λ a d. steady_gives _))
steady_primitive Cdr vs = steady_unary vs (λ p. steady_as_pair p (λ a d. steady_gives _))
steady_primitive SetCar vs = steady_binary vs (λ p v. steady_as_pair p (λ a d. steady_write_object p _))
steady_primitive SetCdr vs = steady_binary vs (λ p v. steady_as_pair p (λ a d. steady_write_object p _))
steady_primitive Add vs = steady_binary vs (steady_arithmetic (λ x y. x +ℤ y))
steady_primitive Subtract vs = steady_binary vs (steady_arithmetic (λ x y. x -ℤ y))
steady_primitive Multiply vs = steady_binary vs (steady_arithmetic (λ x y. x *ℤ y))
steady_primitive Quotient vs = steady_binary vs (steady_division int_div)
steady_primitive Remainder vs = steady_binary vs (steady_division int_rem)
steady_primitive Modulo vs = steady_binary vs (steady_division int_modulo)
steady_primitive Equal vs = steady_binary vs (steady_comparison (λ x y. int_le x y && int_le y x))
steady_primitive Less vs = steady_binary vs (steady_comparison int_lt)
steady_primitive Greater vs = steady_binary vs (steady_comparison (λ x y. int_lt y x))
steady_primitive LessEqual vs = steady_binary vs (steady_comparison int_le)
steady_primitive GreaterEqual vs = steady_binary vs (steady_comparison (λ x y. int_le y x))
steady_primitive CharToInteger vs = steady_unary vs (λ c. steady_as_character c (λ byte. steady_gives _))
steady_primitive IntegerToChar vs = steady_unary vs (λ n. steady_as_fixnum n (λ x. steady_in_range x 256 (λ byte. steady_gives (character byte))))
steady_primitive MakeString vs = steady_binary vs (λ n c. steady_as_fixnum n (λ x. steady_as_character c (λ byte. steady_as_length x
    (λ k. steady_after (steady_charge (string_bytes k)) (λ _. steady_new_object (string (replicate k byte)))))))
steady_primitive StringLength vs = steady_unary vs (λ s. steady_as_string s (λ bytes. steady_gives _))
steady_primitive StringRef vs = steady_binary vs (λ s n. steady_as_string s (λ bytes. steady_as_fixnum n (λ x. steady_in_range x (length bytes)
    (λ k. steady_gives (character (slice_index bytes k))))))
steady_primitive StringSet vs = steady_ternary vs (λ s n c. steady_as_string s (λ bytes. steady_as_fixnum n (λ x. steady_as_character c (λ byte. steady_in_range x (length bytes)
    (λ k. steady_write_object s (string (slice_set bytes k byte)))))))
steady_primitive MakeVector vs = steady_binary vs (λ n v. steady_as_fixnum n (λ x. steady_as_length x
    (λ k. steady_after (steady_charge (vector_bytes k)) (λ _. steady_new_object (vector (replicate k v))))))
steady_primitive VectorLength vs = steady_unary vs (λ v. steady_as_vector v (λ elements. steady_gives _))
steady_primitive VectorRef vs = steady_binary vs (λ v n. steady_as_vector v (λ elements. steady_as_fixnum n (λ x. steady_in_range x (length elements)
    (λ k. steady_element (slice_get elements k)))))
steady_primitive VectorSet vs = steady_ternary vs (λ v n w. steady_as_vector v (λ elements. steady_as_fixnum n (λ x. steady_in_range x (length elements)
    (λ k. steady_write_object v (vector (slice_set elements k w))))))
steady_primitive Put vs = steady_unary vs (λ v. steady_looking (piece v) put_piece (piece_blind v) steady_put_piece)
steady_primitive SymbolLength vs = steady_unary vs (λ s. steady_as_symbol s (λ name. steady_gives _))
steady_primitive SymbolRef vs = steady_binary vs (λ s n. steady_as_symbol s (λ name. steady_as_fixnum n (λ x. steady_in_range x (length name)
    (λ k. steady_gives (character (slice_index name k))))))
