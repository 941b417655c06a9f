-- Which variables are free, and which are assigned.
use Rattle.std.specs.Prelude.{ℕ, zero, suc, ◌+◌, Bool, false, ◌||◌, nat_eq, List, [], ◌∷◌, map}
use Rattle.std.specs.List.{filter}
use Rattle.sch_word.specs.trees.NumberSets.{union}
use Rattle.sch_word.specs.runs.Charges.{cell_bytes}
use Rattle.sch_lang.specs.Tree.{Expression, Expressions, Lambdas, constant, literal, local, global, set_local, set_global, define, branch, sequence, bind, fix, letrec, lambda, call, operation, no_expressions, and_expression, no_lambdas, and_lambda, count, count_lambdas}

-- variables as they are seen from outside a binding of one variable, and of n
abbrev pub outside_one : List ℕ → List ℕ
outside_one [] = []
outside_one (zero ∷ xs) = outside_one xs
outside_one (suc x ∷ xs) = x ∷ outside_one xs

abbrev pub outside : ℕ → List ℕ → List ℕ
outside zero xs = xs
outside (suc bound) xs = outside_one (outside bound xs)

-- the free local variables, each once
abbrev mutual
  pub free : Expression → List ℕ
  free (constant c) = []
  free (literal n) = []
  free (local k) = k ∷ []
  free (global g) = []
  free (set_local k e) = union (k ∷ []) (free e)
  free (set_global g e) = free e
  free (define g e) = free e
  free (branch a b c) = union (free a) (union (free b) (free c))
  free (sequence es) = free_each es
  free (bind site es e) = union (free_each es) (outside (count es) (free e))
  free (fix ls e) = outside (count_lambdas ls) (union (free_lambdas ls) (free e))
  free (letrec site es e) = outside (count es) (union (free_each es) (free e))
  free (lambda name formals rest e) = outside formals (free e)
  free (call site f es) = union (free f) (free_each es)
  free (operation site which es) = free_each es

  pub free_each : Expressions → List ℕ
  free_each no_expressions = []
  free_each (and_expression e es) = union (free e) (free_each es)

  pub free_lambdas : Lambdas → List ℕ
  free_lambdas no_lambdas = []
  free_lambdas (and_lambda name formals rest e ls) = union (outside formals (free e)) (free_lambdas ls)

-- whether the variable with j bound nearer is assigned anywhere
abbrev mutual
  pub assigns : Expression → ℕ → Bool
  assigns (constant c) j = false
  assigns (literal n) j = false
  assigns (local k) j = false
  assigns (global g) j = false
  assigns (set_local k e) j = nat_eq k j || assigns e j
  assigns (set_global g e) j = assigns e j
  assigns (define g e) j = assigns e j
  assigns (branch a b c) j = assigns a j || (assigns b j || assigns c j)
  assigns (sequence es) j = assigns_each es j
  assigns (bind site es e) j = assigns_each es j || assigns e (j + count es)
  assigns (fix ls e) j = assigns_lambdas ls (j + count_lambdas ls) || assigns e (j + count_lambdas ls)
  assigns (letrec site es e) j = assigns_each es (j + count es) || assigns e (j + count es)
  assigns (lambda name formals rest e) j = assigns e (j + formals)
  assigns (call site f es) j = assigns f j || assigns_each es j
  assigns (operation site which es) j = assigns_each es j

  pub assigns_each : Expressions → ℕ → Bool
  assigns_each no_expressions j = false
  assigns_each (and_expression e es) j = assigns e j || assigns_each es j

  pub assigns_lambdas : Lambdas → ℕ → Bool
  assigns_lambdas no_lambdas j = false
  assigns_lambdas (and_lambda name formals rest e ls) j = assigns e (j + formals) || assigns_lambdas ls j

-- the nearest variables of a tree in the order of the text, so the nearest is the last
abbrev pub nearest : (n : ℕ) → List ℕ
nearest zero = []
nearest (suc n) = n ∷ nearest n

-- the charges for the cells of the nearest variables of a tree: one for each that the tree assigns
abbrev pub cells_of : (n : ℕ) → Expression → List ℕ
cells_of n e = map (λ _. cell_bytes) (filter (assigns e) (nearest n))
