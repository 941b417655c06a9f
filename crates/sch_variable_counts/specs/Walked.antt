-- What walks over a tree add to what they have found and marked before.
use Rattle.std.specs.Prelude.{ℕ, zero, suc, ◌≡◌, min, reverse, Bool, List, [], ◌∷◌}
use Rattle.sch_word.specs.trees.NumberSets.{insert, union}
use Rattle.sch_word.specs.trees.Shape.{max_variables}
use Rattle.sch_lang.specs.Tree.{Expression, Expressions, Lambdas, constant, literal, local, global, set_local, set_global, define, branch, sequence, bind, fix, letrec, lambda, call, operation, no_expressions, and_expression, no_lambdas, and_lambda, count, count_lambdas}
use Rattle.sch_lang.specs.Variables.{outside, assigns}

-- whether each of n variables is in a set, from the farthest to the nearest, in front of others
abbrev pub marks_of : (n : ℕ) → (ℕ → Bool) → List Bool → List Bool
marks_of zero test rest = rest
marks_of (suc n) test rest = test n ∷ marks_of n test rest

-- whether each variable is assigned that a `let` or a lambda in an expression binds, in the order of the
-- text, in front of others
abbrev mutual
  pub marks_in : Expression → List Bool → List Bool
  marks_in (constant c) rest = rest
  marks_in (literal n) rest = rest
  marks_in (local k) rest = rest
  marks_in (global g) rest = rest
  marks_in (set_local k e) rest = marks_in e rest
  marks_in (set_global g e) rest = marks_in e rest
  marks_in (define g e) rest = marks_in e rest
  marks_in (branch a b c) rest = marks_in a (marks_in b (marks_in c rest))
  marks_in (sequence es) rest = marks_in_each es rest
  marks_in (bind site es e) rest = marks_in_each es (marks_of (count es) (assigns e) (marks_in e rest))
  marks_in (fix ls e) rest = marks_in_lambdas ls (marks_in e rest)
  marks_in (letrec site es e) rest = marks_in_each es (marks_in e rest)
  marks_in (lambda name formals takes_rest e) rest = marks_of formals (assigns e) (marks_in e rest)
  marks_in (call site f es) rest = marks_in f (marks_in_each es rest)
  marks_in (operation site which es) rest = marks_in_each es rest

  pub marks_in_each : Expressions → List Bool → List Bool
  marks_in_each no_expressions rest = rest
  marks_in_each (and_expression e es) rest = marks_in e (marks_in_each es rest)

  pub marks_in_lambdas : Lambdas → List Bool → List Bool
  marks_in_lambdas no_lambdas rest = rest
  marks_in_lambdas (and_lambda name formals takes_rest e ls) rest =
      marks_of formals (assigns e) (marks_in e (marks_in_lambdas ls rest))

-- What holds after marks were taken from a stack, if these stood on top of it; and those below are left.
pub record Takes (marks : List Bool → List Bool) (old new : List Bool) (holds : Type 0) : Type 0 where
  pub taken : (rest : List Bool) → reverse old ≡ marks rest → (reverse new ≡ rest) × holds

-- a count that goes no further than past the limit
abbrev pub capped : ℕ → ℕ
capped n = min n (suc max_variables)

-- the free variables of an expression, before those found
abbrev mutual
  pub found : Expression → List ℕ → List ℕ
  found (constant c) xs = xs
  found (literal n) xs = xs
  found (local k) xs = insert k xs
  found (global g) xs = xs
  found (set_local k e) xs = insert k (found e xs)
  found (set_global g e) xs = found e xs
  found (define g e) xs = found e xs
  found (branch a b c) xs = found a (found b (found c xs))
  found (sequence es) xs = found_each es xs
  found (bind site es e) xs = found_each es (union (outside (count es) (found e [])) xs)
  found (fix ls e) xs = union (outside (count_lambdas ls) (found_lambdas ls (found e []))) xs
  found (letrec site es e) xs = union (outside (count es) (found_each es (found e []))) xs
  found (lambda name formals rest e) xs = union (outside formals (found e [])) xs
  found (call site f es) xs = found f (found_each es xs)
  found (operation site which es) xs = found_each es xs

  pub found_each : Expressions → List ℕ → List ℕ
  found_each no_expressions xs = xs
  found_each (and_expression e es) xs = found e (found_each es xs)

  pub found_lambdas : Lambdas → List ℕ → List ℕ
  found_lambdas no_lambdas xs = xs
  found_lambdas (and_lambda name formals rest e ls) xs = union (outside formals (found e [])) (found_lambdas ls xs)
