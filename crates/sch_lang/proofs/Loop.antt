-- What the loop of n rounds does at depth 1, by induction on the rounds: it puts "ok" and ends after n + 1
-- entries, however many more there are, and goes on where there are no more than n.
use Rattle.std.proofs.Common.{◌≡◌, ℕ, zero, suc, ◌+◌, ◌-◌, ◌≤◌, true, false, ◌&&◌, List, [], ◌∷◌, ◌++◌, length, Option, Some, pos, negsuc, refl, sym, ap, subst, ◌∙◌, cond, arith}
use Rattle.std.specs.Prelude.{codes, slice_get, int_le, ◌-ℤ◌, ltb, leb}
use Rattle.std.proofs.lemmas.Bool.{leb-true, ltb-true, false_from_ne_true}
use Rattle.sch_word.specs.declared.primitive.Primitive.TheVariants.{Subtract, Equal}
use Rattle.sch_word.specs.values.Fixnum.{is_fixnum}
use Rattle.sch_word.specs.values.Values.{Value, fixnum, unspecified, object, procedure, string}
use Rattle.sch_word.specs.runs.Computation.{Outcome, State, gives, spent, on_value, in_turn}
use Rattle.sch_word.specs.runs.Runs.{seen}
use Rattle.sch_word.proofs.values.Fixnums.{lesser_fixnum}
use Rattle.sch_word.proofs.EntriesAhead.{more_than, more_than_is}
use Rattle.sch_word.specs.runs.Orders.{Orders, order_at, in_text_order}
use Rattle.sch_lang.specs.Tree.{literal, local, global, branch}
use Rattle.sch_lang.specs.Meaning.{Closure, evaluate, enter}
use Rattle.sch_word.specs.runs.WorkedRuns.{ends}
use Rattle.sch_word.proofs.facts.Lists.{get_seam}
use Rattle.sch_lang.specs.Examples.{number, two, put, apply, plain_run, goes_on, loop_of}
use Rattle.sch_lang.specs.Run.{outcome}
use Rattle.sch_lang.specs.Valid.{is_valid}

-- ## The loop's procedure, and the states that it runs in

abbrev orders : Orders
orders = order_at (in_text_order (2 ∷ 1 ∷ 2 ∷ 2 ∷ 2 ∷ []))

abbrev loop : Closure
loop = record {
  formals = 1;
  rest = false;
  body = branch (two 0 Equal (local 0) (number (pos 0))) (put 1 (literal 0)) (apply 2 (global 0) (two 3 Subtract (local 0) (number (pos 1)) ∷ []));
  environment = [];
}

abbrev looping : List (Option Value) → (output : List ℕ) → (left : ℕ) → State Closure
looping cells output left = record {
  cells = cells;
  store = record {
    constants = record { heap = 4096; symbols = []; literals = object 0 ∷ [] };
    globals = Some (procedure 0) ∷ [];
    objects = string (codes "ok") ∷ [];
    charged = 16;
    output = output;
    answers = [];
    entries = left;
  };
  procedures = loop ∷ [];
}

-- ## One round

never_zero : (k : ℕ) → (int_le (pos (suc k)) (pos 0) && int_le (pos 0) (pos (suc k))) ≡ false
never_zero k = ap (λ b. b && leb 0 (suc k)) (false_from_ne_true (leb (suc k) 0) (λ e. omega (arith, leb-true (suc k) 0 e)))

one_less : (k : ℕ) → pos (suc k) -ℤ pos 1 ≡ pos k
one_less k =
    let least : ltb (suc k) 1 ≡ false = false_from_ne_true (ltb (suc k) 1) (λ e. omega (arith, ltb-true (suc k) 1 e)) in
    ap (λ b. cond b (negsuc (1 - suc (suc k))) (pos (suc k - 1))) least ∙ ap pos (omega arith)

entered : (e : ℕ) (cells : List (Option Value)) (v : Value) (left : ℕ)
    → enter orders (suc e) loop (v ∷ []) 0 (looping cells [] (suc left)) ≡ evaluate orders (enter orders e) loop.body (length cells ∷ []) 0 true (looping (cells ++ (Some v ∷ [])) [] left)
entered e cells v left = refl

last_round : (e c : ℕ) (cells : List (Option Value)) (left : ℕ) → slice_get cells c ≡ Some (Some (fixnum (pos 0))) → evaluate orders (enter orders e) loop.body (c ∷ []) 0 true (looping cells [] left) ≡ gives unspecified (looping cells (codes "ok") left)
last_round e c cells left here = rw here refl

other_round : (e c k : ℕ) (cells : List (Option Value)) (left : ℕ) → slice_get cells c ≡ Some (Some (fixnum (pos (suc k)))) → is_fixnum (pos k) ≡ true
    → evaluate orders (enter orders e) loop.body (c ∷ []) 0 true (looping cells [] (suc left)) ≡ enter orders e loop (fixnum (pos k) ∷ []) 0 (looping cells [] (suc left))
other_round e c k cells left here fits = rw (here, never_zero k, here, one_less k, fits) refl

spent_round : (e c k : ℕ) (cells : List (Option Value)) → slice_get cells c ≡ Some (Some (fixnum (pos (suc k)))) → is_fixnum (pos k) ≡ true
    → evaluate orders (enter orders e) loop.body (c ∷ []) 0 true (looping cells [] 0) ≡ spent (looping cells [] 0)
spent_round e c k cells here fits = rw (here, never_zero k, here, one_less k, fits) refl

-- ## All rounds

-- an outcome after the last round, with the entries that are left
record Finished (left : ℕ) (o : Outcome (State Closure) Value) : Type 0 where
  cells : List (Option Value)
  is : o ≡ gives unspecified (looping cells (codes "ok") left)

rounds : (k more : ℕ) (cells : List (Option Value)) → is_fixnum (pos k) ≡ true
    → Finished more (enter orders (suc (more_than k more)) loop (fixnum (pos k) ∷ []) 0 (looping cells [] (suc (more_than k more))))
rounds zero more cells fits = record { cells = _; is = last_round more (length cells) (cells ++ (Some (fixnum (pos 0)) ∷ [])) more (get_seam cells [] (Some (fixnum (pos 0)))) }
rounds (suc k) more cells fits =
    let fewer : is_fixnum (pos k) ≡ true = lesser_fixnum k (suc k) (omega arith) fits in
    let longer : List (Option Value) = cells ++ (Some (fixnum (pos (suc k))) ∷ []) in
    let rest : Finished more _ = rounds k more longer fewer in
    record { cells = rest.cells; is = other_round (suc (more_than k more)) (length cells) k longer (more_than k more) (get_seam cells [] (Some (fixnum (pos (suc k))))) fewer ∙ rest.is }

-- the definition is charged and the last form enters the loop
begun : (n entries : ℕ)
    → outcome (loop_of n) (in_text_order (loop_of n).sites) 4096 1 [] (suc entries) ≡ on_value (enter orders (suc entries) loop (fixnum (pos n) ∷ []) 0 (looping [] [] (suc entries))) (in_turn [])
begun n entries = refl

seen_finished : (n more entries : ℕ) (o : Outcome (State Closure) Value) → Finished more o → entries ≡ n + 1 + more → seen [] entries (on_value o (in_turn [])) ≡ ends (codes "ok") 0 (n + 1) 16
seen_finished n more entries o h e = ap (λ a. seen [] entries (on_value a (in_turn []))) h.is ∙ ap (λ m. ends (codes "ok") 0 m 16) (omega (arith, e))

loop_takes : (n more entries : ℕ) → is_fixnum (pos n) ≡ true → entries ≡ suc (more_than n more) → plain_run (loop_of n) 1 entries ≡ ends (codes "ok") 0 (n + 1) 16
loop_takes n more entries fits e =
    subst (λ m. plain_run (loop_of n) 1 m ≡ ends (codes "ok") 0 (n + 1) 16) (sym e)
    (ap (seen [] (suc (more_than n more))) (begun n (more_than n more))
    ∙ seen_finished n more (suc (more_than n more)) _ (rounds n more [] fits) (ap suc (more_than_is n more) ∙ omega arith))

loop_runs : (n more : ℕ) → is_fixnum (pos n) ≡ true → plain_run (loop_of n) 1 (n + 1 + more) ≡ ends (codes "ok") 0 (n + 1) 16
loop_runs n more fits = loop_takes n more (n + 1 + more) fits (let sum : more_than n more ≡ n + more = more_than_is n more in omega (arith, sum))

-- ## Too few entries

record Spent (o : Outcome (State Closure) Value) : Type 0 where
  cells : List (Option Value)
  is : o ≡ spent (looping cells [] 0)

spent_rounds : (e k : ℕ) (cells : List (Option Value)) → e ≤ k → is_fixnum (pos k) ≡ true → Spent (enter orders e loop (fixnum (pos k) ∷ []) 0 (looping cells [] e))
spent_rounds zero k cells few fits = record { cells = cells; is = refl }
spent_rounds (suc e) zero cells few fits = absurd (omega (arith, few))
spent_rounds (suc zero) (suc k) cells few fits =
    record { cells = _; is = spent_round zero (length cells) k (cells ++ (Some (fixnum (pos (suc k))) ∷ [])) (get_seam cells [] (Some (fixnum (pos (suc k))))) (lesser_fixnum k (suc k) (omega arith) fits) }
spent_rounds (suc (suc e)) (suc k) cells few fits =
    let fewer : is_fixnum (pos k) ≡ true = lesser_fixnum k (suc k) (omega arith) fits in
    let longer : List (Option Value) = cells ++ (Some (fixnum (pos (suc k))) ∷ []) in
    let rest : Spent _ = spent_rounds (suc e) k longer (omega (arith, few)) fewer in
    record { cells = rest.cells; is = other_round (suc e) (length cells) k longer e (get_seam cells [] (Some (fixnum (pos (suc k))))) fewer ∙ rest.is }

loop_goes_on : (n entries : ℕ) → entries ≤ n → is_fixnum (pos n) ≡ true → plain_run (loop_of n) 1 entries ≡ goes_on [] entries 16
loop_goes_on n zero few fits = refl
loop_goes_on n (suc e) few fits =
    let out : Spent _ = spent_rounds (suc e) n [] few fits in
    ap (seen [] (suc e)) (begun n e) ∙ (ap (λ a. seen [] (suc e) (on_value a (in_turn []))) out.is ∙ ap (λ m. goes_on [] m 16) (omega arith))

-- ## A million rounds

loop_valid : (n : ℕ) → is_fixnum (pos n) ≡ true → is_valid (loop_of n) ≡ true
loop_valid n fits = ap (λ b. (((b && true) && true) && true) && true) fits

million_rounds : plain_run (loop_of 1000000) 1 1000001 ≡ ends (codes "ok") 0 1000001 16
million_rounds = loop_runs 1000000 0 refl

million_rounds_spent : plain_run (loop_of 1000000) 1 1000000 ≡ goes_on [] 1000000 16
million_rounds_spent = loop_goes_on 1000000 1000000 (omega arith) refl
