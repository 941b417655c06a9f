-- The numbers that are given: each once, all below the next one, and bound where they are used.
use Rattle.std.proofs.Common.{◌≡◌, ℕ, zero, suc, ◌+◌, ◌<◌, ◌≤◌, List, [], ◌∷◌, ◌++◌, length, refl, ap, arith}
use Rattle.std.specs.Prelude.{IsTrue, nat_eq}
use Rattle.std.proofs.lemmas.Bool.{lt-ltb}
use Rattle.sch_word.specs.trees.NumberSets.{has}
use Rattle.sch_lang.specs.Tree.{Expression, Expressions, Lambdas, Source, constant, literal, local, global, set_local, set_global, define, branch, sequence, bind, fix, letrec, lambda, call, operation, no_expressions, and_expression, no_lambdas, and_lambda, count, count_lambdas}
use Rattle.sch_word.specs.trees.Bindings.{numbers, scope_with}
use Rattle.sch_cells.specs.Variables.{bound, bound_each, bound_lambdas, closed, closed_each, closed_lambdas, below}
use Rattle.sch_rename.specs.Made.{number_at, binds, binds_each, binds_lambdas, renamed, renamed_each, renamed_lambdas}
use Rattle.sch_lang.specs.InScope.{InScope, EachInScope, LambdasInScope}
use Rattle.sch_rename.proofs.Scopes.{inside}
use Rattle.sch_rename.proofs.FreeKept.{counts, counts_lambdas}
use Rattle.sch_word.proofs.facts.NumberTests.{same}
use Rattle.sch_word.proofs.facts.NumberSets.{numbers_joined}
use Rattle.sch_word.proofs.facts.Booleans.{or_right, and_of}

-- ## Each number once

-- one list of numbers after another
on : {A B : List ℕ} (x m n y : ℕ) → y ≡ x + m → A ≡ numbers x m → B ≡ numbers y n → A ++ B ≡ numbers x (m + n)
on x m n y e p q = rw (p, q, e) (numbers_joined x m n)

-- three of them
on_three : {A B C : List ℕ} (x a b c y z : ℕ) → y ≡ x + a → z ≡ x + a + b → A ≡ numbers x a → B ≡ numbers y b → C ≡ numbers z c → A ++ (B ++ C) ≡ numbers x (a + b + c)
on_three x a b c y z e d p q r =
    let w : a + b + c ≡ a + (b + c) = omega arith in
    rw w (on x a (b + c) y e p (on y b c z (omega (arith, e, d)) q r))

mutual
  pub bound_is : (e : Expression) (s : List ℕ) (x : ℕ) → bound (renamed e s x) ≡ numbers x (binds e)
  bound_is (constant c) s x = refl
  bound_is (literal n) s x = refl
  bound_is (local k) s x = refl
  bound_is (global g) s x = refl
  bound_is (set_local k e) s x = bound_is e s x
  bound_is (set_global g e) s x = bound_is e s x
  bound_is (define g e) s x = bound_is e s x
  bound_is (branch a b c) s x = on_three x (binds a) (binds b) (binds c) _ _ refl refl (bound_is a s x) (bound_is b s _) (bound_is c s _)
  bound_is (sequence es) s x = each_bound es s x
  bound_is (bind site es e) s x =
      on_three x (count es) (binds_each es) (binds e) _ _ refl refl (ap (numbers x) (counts es s (x + count es))) (each_bound es s _) (bound_is e _ _)
  bound_is (fix ls e) s x =
      on_three x (count_lambdas ls) (binds_lambdas ls) (binds e) _ _ refl refl (ap (numbers x) (counts_lambdas ls _ (x + count_lambdas ls))) (lambdas_bound ls _ _) (bound_is e _ _)
  bound_is (letrec site es e) s x =
      on_three x (count es) (binds_each es) (binds e) _ _ refl refl (ap (numbers x) (counts es _ (x + count es))) (each_bound es _ _) (bound_is e _ _)
  bound_is (lambda name formals rest e) s x = on x formals (binds e) _ refl refl (bound_is e _ _)
  bound_is (call site f es) s x = on x (binds f) (binds_each es) _ refl (bound_is f s x) (each_bound es s _)
  bound_is (operation site which es) s x = each_bound es s x

  pub each_bound : (es : Expressions) (s : List ℕ) (x : ℕ) → bound_each (renamed_each es s x) ≡ numbers x (binds_each es)
  each_bound no_expressions s x = refl
  each_bound (and_expression e es) s x = on x (binds e) (binds_each es) _ refl (bound_is e s x) (each_bound es s _)

  pub lambdas_bound : (ls : Lambdas) (s : List ℕ) (x : ℕ) → bound_lambdas (renamed_lambdas ls s x) ≡ numbers x (binds_lambdas ls)
  lambdas_bound no_lambdas s x = refl
  lambdas_bound (and_lambda name formals rest e ls) s x =
      on_three x formals (binds e) (binds_lambdas ls) _ _ refl refl refl (bound_is e _ _) (lambdas_bound ls s _)

-- a whole program's numbers
pub program_bound : (p : Source) → bound_lambdas (renamed_lambdas p.library [] 0) ++ bound_each (renamed_each p.forms [] (binds_lambdas p.library)) ≡ numbers 0 (binds_lambdas p.library + binds_each p.forms)
program_bound p = on 0 (binds_lambdas p.library) (binds_each p.forms) _ (omega arith) (lambdas_bound p.library [] 0) (each_bound p.forms [] _)

pub numbers_below : (x n m : ℕ) → x + n ≤ m → IsTrue (below m (numbers x n))
numbers_below x zero m l = refl
numbers_below x (suc n) m l = and_of _ _ (lt-ltb x m (omega (arith, l))) (numbers_below (suc x) n m (omega (arith, l)))

-- ## Bound where they are used

pub number_in : (s : List ℕ) (k : ℕ) → k < length s → IsTrue (has (number_at s k) s)
number_in [] k l = absurd (omega arith)
number_in (y ∷ s) zero l = rw (same y) refl
number_in (y ∷ s) (suc k) l = or_right (nat_eq (number_at s k) y) _ (number_in s k (omega arith))

mutual
  pub named_closed : (e : Expression) (s : List ℕ) (x : ℕ) → InScope e (length s) → IsTrue (closed (renamed e s x) s)
  named_closed (constant c) s x i = refl
  named_closed (literal n) s x i = refl
  named_closed (local k) s x i = number_in s k i
  named_closed (global g) s x i = refl
  named_closed (set_local k e) s x i = and_of _ _ (number_in s k i.0) (named_closed e s x i.1)
  named_closed (set_global g e) s x i = named_closed e s x i
  named_closed (define g e) s x i = named_closed e s x i
  named_closed (branch a b c) s x i = and_of _ _ (named_closed a s _ i.0) (and_of _ _ (named_closed b s _ i.1.0) (named_closed c s _ i.1.1))
  named_closed (sequence es) s x i = each_closed es s x i
  named_closed (bind site es e) s x i =
      rw (counts es s (x + count es)) (and_of _ _ (each_closed es s _ i.0) (named_closed e _ _ (inside x (count es) s (InScope e) i.1)))
  named_closed (fix ls e) s x i =
      rw (counts_lambdas ls (scope_with x (count_lambdas ls) s) (x + count_lambdas ls))
      (and_of _ _ (lambdas_closed ls _ _ (inside x (count_lambdas ls) s (LambdasInScope ls) i.0)) (named_closed e _ _ (inside x (count_lambdas ls) s (InScope e) i.1)))
  named_closed (letrec site es e) s x i =
      rw (counts es (scope_with x (count es) s) (x + count es))
      (and_of _ _ (each_closed es _ _ (inside x (count es) s (EachInScope es) i.0)) (named_closed e _ _ (inside x (count es) s (InScope e) i.1)))
  named_closed (lambda name formals rest e) s x i = named_closed e _ _ (inside x formals s (InScope e) i)
  named_closed (call site f es) s x i = and_of _ _ (named_closed f s _ i.0) (each_closed es s _ i.1)
  named_closed (operation site which es) s x i = each_closed es s x i

  pub each_closed : (es : Expressions) (s : List ℕ) (x : ℕ) → EachInScope es (length s) → IsTrue (closed_each (renamed_each es s x) s)
  each_closed no_expressions s x i = refl
  each_closed (and_expression e es) s x i = and_of _ _ (named_closed e s _ i.0) (each_closed es s _ i.1)

  pub lambdas_closed : (ls : Lambdas) (s : List ℕ) (x : ℕ) → LambdasInScope ls (length s) → IsTrue (closed_lambdas (renamed_lambdas ls s x) s)
  lambdas_closed no_lambdas s x i = refl
  lambdas_closed (and_lambda name formals rest e ls) s x i = and_of _ _ (named_closed e _ _ (inside x formals s (InScope e) i.0)) (lambdas_closed ls s _ i.1)
