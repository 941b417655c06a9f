-- Each variable is one of those in scope: as a test, and as a proposition, which has its parts by name.
use Rattle.std.specs.Prelude.{ℕ, ◌+◌, ◌<◌, Bool, true, ◌&&◌, nat_lt}
use Rattle.sch_lang.specs.Tree.{Expression, Expressions, Lambdas, constant, literal, local, global, set_local, set_global, define, branch, sequence, bind, fix, letrec, lambda, call, operation, no_expressions, and_expression, no_lambdas, and_lambda, count, count_lambdas, Source}

-- What holds where each variable is `known`: its number, and how many are in scope. `always` and `both` join
-- what holds of the parts.
module _ {ℓ} {A : Type ℓ} (always : A) (both : A → A → A) (known : (k n : ℕ) → A) where
  -- of n variables around the tree
  abbrev mutual
    pub scoped : Expression → (n : ℕ) → A
    scoped (constant c) n = always
    scoped (literal l) n = always
    scoped (local k) n = known k n
    scoped (global g) n = always
    scoped (set_local k e) n = both (known k n) (scoped e n)
    scoped (set_global g e) n = scoped e n
    scoped (define g e) n = scoped e n
    scoped (branch a b c) n = both (scoped a n) (both (scoped b n) (scoped c n))
    scoped (sequence es) n = scoped_each es n
    scoped (bind site es e) n = both (scoped_each es n) (scoped e (n + count es))
    scoped (fix ls e) n = both (scoped_lambdas ls (n + count_lambdas ls)) (scoped e (n + count_lambdas ls))
    scoped (letrec site es e) n = both (scoped_each es (n + count es)) (scoped e (n + count es))
    scoped (lambda name formals rest e) n = scoped e (n + formals)
    scoped (call site f es) n = both (scoped f n) (scoped_each es n)
    scoped (operation site which es) n = scoped_each es n

    pub scoped_each : Expressions → (n : ℕ) → A
    scoped_each no_expressions n = always
    scoped_each (and_expression e es) n = both (scoped e n) (scoped_each es n)

    pub scoped_lambdas : Lambdas → (n : ℕ) → A
    scoped_lambdas no_lambdas n = always
    scoped_lambdas (and_lambda name formals rest e ls) n = both (scoped e (n + formals)) (scoped_lambdas ls n)

-- ## The test

abbrev pub in_scope : Expression → (n : ℕ) → Bool
in_scope = scoped true (λ a b. a && b) nat_lt

abbrev pub each_in_scope : Expressions → (n : ℕ) → Bool
each_in_scope = scoped_each true (λ a b. a && b) nat_lt

abbrev pub lambdas_in_scope : Lambdas → (n : ℕ) → Bool
lambdas_in_scope = scoped_lambdas true (λ a b. a && b) nat_lt

-- ## The proposition

abbrev pub InScope : Expression → (n : ℕ) → Type 0
InScope = scoped (Unit {0}) (λ A B. A × B) (λ k n. k < n)

abbrev pub EachInScope : Expressions → (n : ℕ) → Type 0
EachInScope = scoped_each (Unit {0}) (λ A B. A × B) (λ k n. k < n)

abbrev pub LambdasInScope : Lambdas → (n : ℕ) → Type 0
LambdasInScope = scoped_lambdas (Unit {0}) (λ A B. A × B) (λ k n. k < n)

-- a program, around which there is no local variable
pub record IsClosed (p : Source) : Type 0 where
  pub library : LambdasInScope p.library 0
  pub forms : EachInScope p.forms 0
