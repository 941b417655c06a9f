-- A tree with numbers runs as the tree that it was made from.
use Rattle.std.proofs.Common.{◌≡◌, ℕ, zero, suc, ◌+◌, ◌<◌, Bool, true, false, List, [], ◌∷◌, length, Option, Some, None, refl, ap, ◌∙◌, arith}
use Rattle.std.specs.Prelude.{slice_get}
use Rattle.sch_word.specs.values.Values.{Value, unspecified, is_true}
use Rattle.sch_word.specs.runs.Computation.{Computation, read_literal, read_global, write_global, some_each, unset_each, take_entry, when_known}
use Rattle.sch_word.specs.runs.Charges.{charge, charge_each, fit}
use Rattle.sch_word.specs.values.PrimitiveRows.{primitive}
use Rattle.sch_word.specs.runs.Runs.{SameRuns, starting_store}
use Rattle.sch_word.proofs.Lengths.{some_length, unset_length}
use Rattle.sch_word.proofs.Similar.{EachSimilar, no_similar, and_similar, similar_gives, similar_unreached, similar_spent, similar_either, similar_then, similar_all_values, similar_in_turn}
use Rattle.sch_word.proofs.SameStore.{same_store, Pairs, no_pairs, and_pair, DoesSame, same_in_store, keeps_in_store, same_read_cell, same_write_cell, same_write_cells, same_new_procedure, keeps_new_cells, keeps_new_fix, same_keeping, same_call, same_seen, fit_length}
use Rattle.sch_lang.specs.Tree.{Expression, Expressions, Lambdas, Source, constant, literal, local, global, set_local, set_global, define, branch, sequence, bind, fix, letrec, lambda, call, operation, no_expressions, and_expression, no_lambdas, and_lambda, count, count_lambdas}
use Rattle.sch_lang.specs.Variables.{cells_of}
use Rattle.sch_lang.specs.Meaning as from
use Rattle.sch_lang.specs.Meaning.{lambda_bytes, lambdas_bytes}
use Rattle.sch_word.specs.values.CellBytes.{cells_bytes}
use Rattle.sch_word.specs.runs.Orders.{Orders, order_at}
use Rattle.sch_lang.specs.Run as source
use Rattle.sch_cells.specs.UnboxedMeaning as to
use Rattle.sch_cells.specs.Procedures as procedures
use Rattle.sch_word.specs.trees.Bindings.{Bindings, bound_to, with_variables, scope_with}
use Rattle.sch_rename.specs.Made.{number_at, binds, binds_each, binds_lambdas, renamed, renamed_each, renamed_lambdas, renamed_source}
use Rattle.sch_lang.specs.InScope.{InScope, EachInScope, LambdasInScope, IsClosed}
use Rattle.sch_rename.proofs.Scopes.{Falls, falls_more, falls_with, at_below, inside}
use Rattle.sch_lang.specs.Meaning.{onto}
use Rattle.sch_lang.proofs.Environments.{onto_more}
use Rattle.sch_rename.proofs.FreeKept.{counts, counts_lambdas, free_length}
use Rattle.sch_rename.proofs.AssignedKept.{cells_kept}
use Rattle.sch_word.proofs.facts.NumberTests.{below_differs, same as self}

-- each variable in scope has the same on both sides
pub record Fits {A : Type 0} (s : List ℕ) (environment : List A) (environment' : Bindings A) : Type 0 where
  pub at : (k : ℕ) → k < length s → bound_to (number_at s k) environment' ≡ slice_get environment k

module _ {A : Type 0} where
  fits_push : {s : List ℕ} {environment : List A} {environment' : Bindings A} (x : ℕ) (c : A) → Falls s x → Fits s environment environment' → Fits (x ∷ s) (c ∷ environment) ((x, c) ∷ environment')
  fits_push {s} {environment} {environment'} x c f h = record { at = go }
    where
      go : (k : ℕ) → k < length (x ∷ s) → bound_to (number_at (x ∷ s) k) ((x, c) ∷ environment') ≡ slice_get (c ∷ environment) k
      go zero l = rw (self x) refl
      go (suc k) l = rw (below_differs (number_at s k) x (at_below s x k f (omega arith))) (h.at k (omega arith))

  pub fits_with : {s : List ℕ} {environment : List A} {environment' : Bindings A} (x m : ℕ) (cs : List A) → length cs ≡ m → Falls s x → Fits s environment environment' → Fits (scope_with x m s) (onto cs environment) (with_variables x cs environment')
  fits_with x zero [] l f h = h
  fits_with x zero (c ∷ cs) l f h = absurd (omega arith)
  fits_with x (suc m) [] l f h = absurd (omega arith)
  fits_with {s = s} {environment = environment} {environment' = environment'} x (suc m) (c ∷ cs) l f h =
      rw (onto_more c cs environment) (fits_with {s = x ∷ s} {environment = c ∷ environment} {environment' = (x, c) ∷ environment'} (suc x) m cs (omega arith) (omega arith, f) (fits_push x c f h))

pub record Becomes (p : from.Closure) (q : procedures.Closure ℕ) : Type 0 where
  pub scope : List ℕ
  pub first : ℕ
  pub environment' : Bindings ℕ
  pub is : q ≡ record { first = first; formals = p.formals; rest = p.rest; body = renamed p.body (scope_with first p.formals scope) (first + p.formals); environment = environment' }
  pub falls : Falls scope first
  pub inside : InScope p.body (length scope + p.formals)
  pub fits : Fits scope p.environment environment'

sizes_kept : (ls : Lambdas) (s : List ℕ) (x : ℕ) → Falls s x → LambdasInScope ls (length s) → procedures.lambdas_bytes (renamed_lambdas ls s x) ≡ lambdas_bytes ls
sizes_kept no_lambdas s x f i = refl
sizes_kept (and_lambda name m rest e ls) s x f i = rw (free_length m e s x f i.0, sizes_kept ls s (x + m + binds e) (falls_more s x _ (omega arith) f) i.1) refl

closures_become : (ls : Lambdas) (s : List ℕ) (x : ℕ) {environment : List ℕ} {environment' : Bindings ℕ} → Falls s x → LambdasInScope ls (length s) → Fits s environment environment' → Pairs Becomes (from.closures ls environment) (procedures.closures (renamed_lambdas ls s x) environment')
closures_become no_lambdas s x f i h = no_pairs
closures_become (and_lambda name m rest e ls) s x {environment} {environment'} f i h =
    and_pair (record { scope = s; first = x; environment' = environment'; is = refl; falls = f; inside = i.0; fits = h })
    (closures_become ls s (x + m + binds e) (falls_more s x _ (omega arith) f) i.1 h)

same_variable : {o : Option ℕ} (o' : Option ℕ) {c : ℕ → Computation from.Closure Value} {d : ℕ → Computation (procedures.Closure ℕ) Value} → o' ≡ o → ((k : ℕ) → DoesSame Becomes (c k) (d k)) → DoesSame Becomes (when_known o c) (when_known o' d)
same_variable None e h = rw (← e) (similar_unreached (same_store Becomes))
same_variable (Some k) e h = rw (← e) (h k)

module _ (orders : Orders) (enter : from.Enter) (enter' : to.Enter)
    (same_enter : (p : from.Closure) (q : procedures.Closure ℕ) → Becomes p q → (vs : List Value) (depth : ℕ) → DoesSame Becomes (enter p vs depth) (enter' q vs depth)) where
  each_length : (es : Expressions) (environment : List ℕ) (depth : ℕ) → length (from.each orders enter es environment depth) ≡ count es
  each_length no_expressions environment depth = refl
  each_length (and_expression e es) environment depth = ap suc (each_length es environment depth)

  mutual
    pub evaluate_same : (e : Expression) (s : List ℕ) (x : ℕ) {environment : List ℕ} {environment' : Bindings ℕ} (depth : ℕ) (tail : Bool) → Falls s x → InScope e (length s) → Fits s environment environment' → DoesSame Becomes (from.evaluate orders enter e environment depth tail) (to.evaluate orders enter' (renamed e s x) environment' depth tail)
    evaluate_same (constant c) s x depth tail f i h = similar_gives (same_store Becomes) _ _ (λ _ _. refl)
    evaluate_same (literal n) s x depth tail f i h = same_in_store Becomes (read_literal n)
    evaluate_same (local k) s x depth tail f i h = same_variable _ (h.at k i) (λ c. same_read_cell Becomes c)
    evaluate_same (global g) s x depth tail f i h = same_in_store Becomes (read_global g)
    evaluate_same (set_local k e) s x depth tail f i h =
        similar_then (same_store Becomes) (evaluate_same e s x depth false f i.1 h) (λ _ _ v. same_variable _ (h.at k i.0) (λ c. same_write_cell Becomes c v))
    evaluate_same (set_global g e) s x depth tail f i h =
        similar_then (same_store Becomes) (evaluate_same e s x depth false f i h) (λ _ _ v. same_in_store Becomes (write_global g v))
    evaluate_same (define g e) s x depth tail f i h =
        similar_then (same_store Becomes) (evaluate_same e s x depth false f i h) (λ _ _ v. same_in_store Becomes (write_global g v))
    evaluate_same (branch a b c) s x depth tail f i h =
        similar_then (same_store Becomes) (evaluate_same a s x depth false f i.0 h)
        (λ _ _ v. similar_either (same_store Becomes) (is_true v)
        (evaluate_same b s (x + binds a) depth tail (falls_more s x _ (omega arith) f) i.1.0 h)
        (evaluate_same c s (x + binds a + binds b) depth tail (falls_more s x _ (omega arith) f) i.1.1 h))
    evaluate_same (sequence es) s x depth tail f i h = similar_in_turn (same_store Becomes) unspecified (parts_same es s x depth tail f i h)
    evaluate_same (bind site es e) s x {environment} depth tail f i h =
        let m = count es in
        let t : Falls (scope_with x m s) (x + m + binds_each es) = falls_more (scope_with x m s) (x + m) _ (omega arith) (falls_with x m s f) in
        rw (counts es s (x + m), cells_kept e x m s (x + m + binds_each es) t i.1)
        (same_keeping Becomes {Promise = λ vs. length vs ≡ length (from.each orders enter es environment depth)} (similar_all_values (same_store Becomes) (orders site) (each_same es s (x + m) depth (falls_more s x _ (omega arith) f) i.0 h))
        (λ vs l. similar_then (same_store Becomes) (same_in_store Becomes (charge_each (cells_of m e)))
        (λ _ _ _. same_keeping Becomes (keeps_new_cells Becomes m (some_each vs) (some_length vs ∙ l ∙ each_length es environment depth))
        (λ cs k. evaluate_same e (scope_with x m s) (x + m + binds_each es) depth tail t (inside x m s (InScope e) i.1) (fits_with x m cs k f h)))))
    evaluate_same (fix ls e) s x depth tail f i h =
        let m = count_lambdas ls in
        let t = scope_with x m s in
        let g : Falls t (x + m) = falls_with x m s f in
        let il : LambdasInScope ls (length t) = inside x m s (LambdasInScope ls) i.0 in
        rw (counts_lambdas ls t (x + m), sizes_kept ls t (x + m) g il)
        (similar_then (same_store Becomes) (same_in_store Becomes (charge_each (lambdas_bytes ls)))
        (λ _ _ _. same_keeping Becomes (keeps_new_fix Becomes m (λ cs k. closures_become ls t (x + m) g il (fits_with x m cs k f h)))
        (λ cs k. evaluate_same e t (x + m + binds_lambdas ls) depth tail (falls_more t (x + m) _ (omega arith) g) (inside x m s (InScope e) i.1) (fits_with x m cs k f h))))
    evaluate_same (letrec site es e) s x {environment} depth tail f i h =
        let m = count es in
        let t = scope_with x m s in
        let g : Falls t (x + m) = falls_with x m s f in
        rw (counts es t (x + m))
        (similar_then (same_store Becomes) (same_in_store Becomes (charge_each (cells_bytes m)))
        (λ _ _ _. same_keeping Becomes (keeps_new_cells Becomes m (unset_each m) (unset_length m))
        (λ cs k. same_keeping Becomes {Promise = λ vs. length vs ≡ length (from.each orders enter es (onto cs environment) depth)}
        (similar_all_values (same_store Becomes) (orders site) (each_same es t (x + m) depth g (inside x m s (EachInScope es) i.0) (fits_with x m cs k f h)))
        (λ vs l. similar_then (same_store Becomes) (same_write_cells Becomes cs vs)
        (λ _ _ _. evaluate_same e t (x + m + binds_each es) depth tail (falls_more t (x + m) _ (omega arith) g) (inside x m s (InScope e) i.1) (fits_with x m cs k f h))))))
    evaluate_same (lambda name m rest e) s x depth tail f i h =
        rw (free_length m e s x f i) (similar_then (same_store Becomes) (same_in_store Becomes (charge (lambda_bytes m e)))
        (λ _ _ _. same_new_procedure Becomes (record { scope = s; first = x; environment' = _; is = refl; falls = f; inside = i; fits = h })))
    evaluate_same (call site a es) s x {environment} depth tail f i h =
        same_keeping Becomes {Promise = λ vs. length vs ≡ suc (length (from.each orders enter es environment depth))} (similar_all_values (same_store Becomes) (orders site) (and_similar (evaluate_same a s x depth false f i.0 h) (each_same es s (x + binds a) depth (falls_more s x _ (omega arith) f) i.1 h)))
        (λ vs _. same_call Becomes enter enter' same_enter false tail depth vs)
    evaluate_same (operation site which es) s x {environment} depth tail f i h =
        same_keeping Becomes {Promise = λ vs. length vs ≡ length (from.each orders enter es environment depth)} (similar_all_values (same_store Becomes) (orders site) (each_same es s x depth f i h))
        (λ vs _. same_in_store Becomes (primitive which vs))

    each_same : (es : Expressions) (s : List ℕ) (x : ℕ) {environment : List ℕ} {environment' : Bindings ℕ} (depth : ℕ) → Falls s x → EachInScope es (length s) → Fits s environment environment' → EachSimilar (same_store Becomes) tt (from.each orders enter es environment depth) (to.each orders enter' (renamed_each es s x) environment' depth)
    each_same no_expressions s x depth f i h = no_similar
    each_same (and_expression e es) s x depth f i h = and_similar (evaluate_same e s x depth false f i.0 h) (each_same es s (x + binds e) depth (falls_more s x _ (omega arith) f) i.1 h)

    parts_same : (es : Expressions) (s : List ℕ) (x : ℕ) {environment : List ℕ} {environment' : Bindings ℕ} (depth : ℕ) (tail : Bool) → Falls s x → EachInScope es (length s) → Fits s environment environment' → EachSimilar (same_store Becomes) tt (from.parts orders enter es environment depth tail) (to.parts orders enter' (renamed_each es s x) environment' depth tail)
    parts_same no_expressions s x depth tail f i h = no_similar
    parts_same (and_expression e no_expressions) s x depth tail f i h = and_similar (evaluate_same e s x depth tail f i.0 h) no_similar
    parts_same (and_expression e (and_expression e' es)) s x depth tail f i h =
        and_similar (evaluate_same e s x depth false f i.0 h) (parts_same (and_expression e' es) s (x + binds e) depth tail (falls_more s x _ (omega arith) f) i.1 h)

enter_same : (orders : Orders) (n : ℕ) (p : from.Closure) (q : procedures.Closure ℕ) → Becomes p q → (vs : List Value) (depth : ℕ) → DoesSame Becomes (from.enter orders n p vs depth) (to.enter orders n q vs depth)
enter_same orders zero p q h vs depth = similar_spent (same_store Becomes)
enter_same orders (suc n) p q h vs depth =
    let t = falls_with h.first p.formals h.scope h.falls in
    rw (h.is, cells_kept p.body h.first p.formals h.scope (h.first + p.formals) t h.inside)
    (same_keeping Becomes (keeps_in_store Becomes (λ ws. length ws ≡ p.formals) (fit p.formals p.rest vs) (fit_length p.formals p.rest vs))
    (λ ws l. similar_then (same_store Becomes) (same_in_store Becomes take_entry)
    (λ _ _ _. similar_then (same_store Becomes) (same_in_store Becomes (charge_each (cells_of p.formals p.body)))
    (λ _ _ _. same_keeping Becomes (keeps_new_cells Becomes p.formals (some_each ws) (some_length ws ∙ l))
    (λ cs k. evaluate_same orders (from.enter orders n) (to.enter orders n) (enter_same orders n) p.body (scope_with h.first p.formals h.scope) (h.first + p.formals) depth true t
    (inside h.first p.formals h.scope (InScope p.body) h.inside) (fits_with h.first p.formals cs k h.falls h.fits))))))

-- a program and its program with numbers have the same runs
pub runs_alike : (p : Source) → IsClosed p → SameRuns (source.run p) (to.run (renamed_source p))
runs_alike p c = record {
  same = λ table heap depth answers entries.
      same_seen Becomes answers entries _ _
      (similar_in_turn (same_store Becomes) unspecified
      (each_same (order_at table) (from.enter (order_at table) entries) (to.enter (order_at table) entries) (enter_same (order_at table) entries) p.forms [] (binds_lambdas p.library) depth tt c.forms (record { at = λ k l. absurd (omega arith) })))
      (starting_store p.statics heap answers entries) (from.closures p.library []) (procedures.closures (renamed_lambdas p.library [] 0) [])
      (closures_become p.library [] 0 tt c.library (record { at = λ k l. absurd (omega arith) }));
}
