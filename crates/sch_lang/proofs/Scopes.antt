-- In a valid program each variable is in scope: the test and the proposition say the same.
use Rattle.std.proofs.Common.{ℕ, ◌+◌, refl, lt-ltb}
use Rattle.std.specs.Prelude.{IsTrue, ◌&&◌, nat_lt}
use Rattle.std.proofs.lemmas.Bool.{ltb-true}
use Rattle.sch_word.proofs.facts.Booleans.{and_of, and_parts}
use Rattle.sch_lang.specs.Tree.{Expression, Expressions, Lambdas, constant, literal, local, global, set_local, set_global, define, branch, sequence, bind, fix, letrec, lambda, call, operation, no_expressions, and_expression, no_lambdas, and_lambda, count, count_lambdas, Source}
use Rattle.sch_lang.specs.Valid.{in_range}
use Rattle.sch_lang.specs.InScope.{in_scope, each_in_scope, lambdas_in_scope, InScope, EachInScope, LambdasInScope, IsClosed}

mutual
  pub scope_is : (e : Expression) (n : ℕ) → IsTrue (in_scope e n) → InScope e n
  scope_is (constant c) n h = tt
  scope_is (literal l) n h = tt
  scope_is (local k) n h = ltb-true k n h
  scope_is (global g) n h = tt
  scope_is (set_local k e) n h = let p = and_parts (nat_lt k n) (in_scope e n) h in (ltb-true k n p.0, scope_is e n p.1)
  scope_is (set_global g e) n h = scope_is e n h
  scope_is (define g e) n h = scope_is e n h
  scope_is (branch a b c) n h =
      let p = and_parts (in_scope a n) (in_scope b n && in_scope c n) h in
      let q = and_parts (in_scope b n) (in_scope c n) p.1 in
      (scope_is a n p.0, (scope_is b n q.0, scope_is c n q.1))
  scope_is (sequence es) n h = each_scope_is es n h
  scope_is (bind site es e) n h =
      let p = and_parts (each_in_scope es n) (in_scope e (n + count es)) h in (each_scope_is es n p.0, scope_is e (n + count es) p.1)
  scope_is (fix ls e) n h =
      let m = n + count_lambdas ls in
      let p = and_parts (lambdas_in_scope ls m) (in_scope e m) h in
      (lambdas_scope_is ls m p.0, scope_is e m p.1)
  scope_is (letrec site es e) n h =
      let m = n + count es in
      let p = and_parts (each_in_scope es m) (in_scope e m) h in
      (each_scope_is es m p.0, scope_is e m p.1)
  scope_is (lambda name formals rest e) n h = scope_is e (n + formals) h
  scope_is (call site f es) n h = let p = and_parts (in_scope f n) (each_in_scope es n) h in (scope_is f n p.0, each_scope_is es n p.1)
  scope_is (operation site which es) n h = each_scope_is es n h

  pub each_scope_is : (es : Expressions) (n : ℕ) → IsTrue (each_in_scope es n) → EachInScope es n
  each_scope_is no_expressions n h = tt
  each_scope_is (and_expression e es) n h = let p = and_parts (in_scope e n) (each_in_scope es n) h in (scope_is e n p.0, each_scope_is es n p.1)

  pub lambdas_scope_is : (ls : Lambdas) (n : ℕ) → IsTrue (lambdas_in_scope ls n) → LambdasInScope ls n
  lambdas_scope_is no_lambdas n h = tt
  lambdas_scope_is (and_lambda name formals rest e ls) n h =
      let p = and_parts (in_scope e (n + formals)) (lambdas_in_scope ls n) h in
      (scope_is e (n + formals) p.0, lambdas_scope_is ls n p.1)

-- a program whose numbers are in range is closed
pub program_is_closed : (p : Source) → IsTrue (in_range p) → IsClosed p
program_is_closed p h =
    let q = and_parts (lambdas_in_scope p.library 0) _ h in
    let r = and_parts (each_in_scope p.forms 0) _ q.1 in
    record { library = lambdas_scope_is p.library 0 q.0; forms = each_scope_is p.forms 0 r.0 }

-- ## The test, of what is in scope

mutual
  pub is_scope : (e : Expression) (n : ℕ) → InScope e n → IsTrue (in_scope e n)
  is_scope (constant c) n h = refl
  is_scope (literal l) n h = refl
  is_scope (local k) n h = lt-ltb k n h
  is_scope (global g) n h = refl
  is_scope (set_local k e) n h = and_of _ _ (lt-ltb k n h.0) (is_scope e n h.1)
  is_scope (set_global g e) n h = is_scope e n h
  is_scope (define g e) n h = is_scope e n h
  is_scope (branch a b c) n h = and_of _ _ (is_scope a n h.0) (and_of _ _ (is_scope b n h.1.0) (is_scope c n h.1.1))
  is_scope (sequence es) n h = is_scope_each es n h
  is_scope (bind site es e) n h = and_of _ _ (is_scope_each es n h.0) (is_scope e (n + count es) h.1)
  is_scope (fix ls e) n h = and_of _ _ (is_scope_lambdas ls (n + count_lambdas ls) h.0) (is_scope e (n + count_lambdas ls) h.1)
  is_scope (letrec site es e) n h = and_of _ _ (is_scope_each es (n + count es) h.0) (is_scope e (n + count es) h.1)
  is_scope (lambda name formals rest e) n h = is_scope e (n + formals) h
  is_scope (call site f es) n h = and_of _ _ (is_scope f n h.0) (is_scope_each es n h.1)
  is_scope (operation site which es) n h = is_scope_each es n h

  pub is_scope_each : (es : Expressions) (n : ℕ) → EachInScope es n → IsTrue (each_in_scope es n)
  is_scope_each no_expressions n h = refl
  is_scope_each (and_expression e es) n h = and_of _ _ (is_scope e n h.0) (is_scope_each es n h.1)

  pub is_scope_lambdas : (ls : Lambdas) (n : ℕ) → LambdasInScope ls n → IsTrue (lambdas_in_scope ls n)
  is_scope_lambdas no_lambdas n h = refl
  is_scope_lambdas (and_lambda name formals rest e ls) n h = and_of _ _ (is_scope e (n + formals) h.0) (is_scope_lambdas ls n h.1)
