-- What the walk finds is the free variables.
use Rattle.std.proofs.Common.{reverse, subst, ◌≡◌, ℕ, zero, suc, Bool, true, false, List, [], ◌∷◌, refl, sym, ap, ◌∙◌, arith}
use Rattle.std.specs.Prelude.{nat_eq, ◌||◌}
use Rattle.sch_word.specs.trees.NumberSets.{has, unless, insert, union}
use Rattle.sch_lang.specs.Tree.{Expression, Expressions, Lambdas, constant, literal, local, global, set_local, set_global, define, branch, sequence, bind, fix, letrec, lambda, call, operation, no_expressions, and_expression, no_lambdas, and_lambda, count, count_lambdas}
use Rattle.sch_lang.specs.Variables.{outside, outside_one, free, free_each, free_lambdas}
use Rattle.sch_word.proofs.facts.NumberSets.{union_insert, union_assoc, Once, once_union}
use Rattle.sch_word.proofs.facts.NumberTests.{differ}
use Rattle.std.proofs.lemmas.Bool.Decides.{nat_tests}
use Rattle.sch_variable_counts.specs.Walked.{found, found_each, found_lambdas}

-- ## Variables seen from outside

-- the numbers seen from outside one binding, in order
outside_has : (x : ℕ) (xs : List ℕ) → has x (outside_one xs) ≡ has (suc x) xs
outside_has x [] = refl
outside_has x (zero ∷ xs) = outside_has x xs ∙ sym (ap (λ b. b || has (suc x) xs) (differ (suc x) 0 (λ e. omega (arith, e))))
outside_has x (suc y ∷ xs) = ap (λ b. nat_eq x y || b) (outside_has x xs) ∙ ap (λ b. b || has (suc x) xs) (grind (arith, nat_tests))

outside_insert : (y : ℕ) (xs : List ℕ) → outside_one (insert (suc y) xs) ≡ insert y (outside_one xs)
outside_insert y xs = rw (outside_has y xs) (go (has (suc y) xs))
  where
    go : (b : Bool) → outside_one (unless b (suc y) xs) ≡ unless b y (outside_one xs)
    go true = refl
    go false = refl

outside_zero : (xs : List ℕ) → outside_one (insert 0 xs) ≡ outside_one xs
outside_zero xs = go (has 0 xs)
  where
    go : (b : Bool) → outside_one (unless b 0 xs) ≡ outside_one xs
    go true = refl
    go false = refl

outside_union : (ps qs : List ℕ) → outside_one (union ps qs) ≡ union (outside_one ps) (outside_one qs)
outside_union [] qs = refl
outside_union (zero ∷ ps) qs = outside_zero (union ps qs) ∙ outside_union ps qs
outside_union (suc y ∷ ps) qs = outside_insert y (union ps qs) ∙ ap (insert y) (outside_union ps qs)

-- ## Each variable once

once_outside : (n : ℕ) (xs : List ℕ) → Once xs → Once (outside n xs)
once_outside zero xs h = h
once_outside (suc n) xs h = sym (outside_union (outside n xs) []) ∙ ap outside_one (once_outside n xs h)

mutual
  once : (e : Expression) → Once (free e)
  once (constant c) = refl
  once (literal n) = refl
  once (local k) = refl
  once (global g) = refl
  once (set_local k e) = once_union (k ∷ []) (free e) (once e)
  once (set_global g e) = once e
  once (define g e) = once e
  once (branch a b c) = once_union (free a) (union (free b) (free c)) (once_union (free b) (free c) (once c))
  once (sequence es) = once_each es
  once (bind site es e) = once_union (free_each es) (outside (count es) (free e)) (once_outside (count es) (free e) (once e))
  once (fix ls e) = once_outside (count_lambdas ls) (union (free_lambdas ls) (free e)) (once_union (free_lambdas ls) (free e) (once e))
  once (letrec site es e) = once_outside (count es) (union (free_each es) (free e)) (once_union (free_each es) (free e) (once e))
  once (lambda name n rest e) = once_outside n (free e) (once e)
  once (call site f es) = once_union (free f) (free_each es) (once_each es)
  once (operation site which es) = once_each es

  once_each : (es : Expressions) → Once (free_each es)
  once_each no_expressions = refl
  once_each (and_expression e es) = once_union (free e) (free_each es) (once_each es)

-- ## Free variables

mutual
  found_is : (e : Expression) (xs : List ℕ) → found e xs ≡ union (free e) xs
  found_is (constant c) xs = refl
  found_is (literal n) xs = refl
  found_is (local k) xs = refl
  found_is (global g) xs = refl
  found_is (set_local k e) xs = ap (insert k) (found_is e xs) ∙ sym (union_insert k (free e) xs)
  found_is (set_global g e) xs = found_is e xs
  found_is (define g e) xs = found_is e xs
  found_is (branch a b c) xs =
      found_is a (found b (found c xs))
      ∙ ap (union (free a)) (found_is b (found c xs) ∙ ap (union (free b)) (found_is c xs) ∙ sym (union_assoc (free b) (free c) xs))
      ∙ sym (union_assoc (free a) (union (free b) (free c)) xs)
  found_is (sequence es) xs = each_found es xs
  found_is (bind site es e) xs =
      each_found es _ ∙ ap (λ l. union (free_each es) (union (outside (count es) l) xs)) (found_is e [] ∙ once e)
      ∙ sym (union_assoc (free_each es) (outside (count es) (free e)) xs)
  found_is (fix ls e) xs = ap (λ l. union (outside (count_lambdas ls) l) xs) (lambdas_found ls (found e []) ∙ ap (union (free_lambdas ls)) (found_is e [] ∙ once e))
  found_is (letrec site es e) xs = ap (λ l. union (outside (count es) l) xs) (each_found es (found e []) ∙ ap (union (free_each es)) (found_is e [] ∙ once e))
  found_is (lambda name n rest e) xs = ap (λ l. union (outside n l) xs) (found_is e [] ∙ once e)
  found_is (call site f es) xs = found_is f (found_each es xs) ∙ ap (union (free f)) (each_found es xs) ∙ sym (union_assoc (free f) (free_each es) xs)
  found_is (operation site which es) xs = each_found es xs

  each_found : (es : Expressions) (xs : List ℕ) → found_each es xs ≡ union (free_each es) xs
  each_found no_expressions xs = refl
  each_found (and_expression e es) xs = found_is e (found_each es xs) ∙ ap (union (free e)) (each_found es xs) ∙ sym (union_assoc (free e) (free_each es) xs)

  lambdas_found : (ls : Lambdas) (xs : List ℕ) → found_lambdas ls xs ≡ union (free_lambdas ls) xs
  lambdas_found no_lambdas xs = refl
  lambdas_found (and_lambda name n rest e ls) xs =
      ap (λ l. union (outside n l) (found_lambdas ls xs)) (found_is e [] ∙ once e) ∙ ap (union (outside n (free e))) (lambdas_found ls xs)
      ∙ sym (union_assoc (outside n (free e)) (free_lambdas ls) xs)

pub found_alone : (e : Expression) → found e [] ≡ free e
found_alone e = found_is e [] ∙ once e

-- ## What a walk finds, seen from outside a binding

module _ (n : ℕ) (e : Expression) where
  pub once_found : Once (outside n (found e []))
  once_found = subst (λ l. Once (outside n l)) (sym (found_alone e)) (once_outside n (free e) (once e))

  pub once_found_each : (es : Expressions) → Once (outside n (found_each es (found e [])))
  once_found_each es =
      subst (λ l. Once (outside n l)) (sym (each_found es (found e []) ∙ ap (union (free_each es)) (found_alone e))) (once_outside n (union (free_each es) (free e)) (once_union (free_each es) (free e) (once e)))

  pub once_found_lambdas : (ls : Lambdas) → Once (outside n (found_lambdas ls (found e [])))
  once_found_lambdas ls =
      subst (λ l. Once (outside n l)) (sym (lambdas_found ls (found e []) ∙ ap (union (free_lambdas ls)) (found_alone e))) (once_outside n (union (free_lambdas ls) (free e)) (once_union (free_lambdas ls) (free e) (once e)))

pub is_once : (n : ℕ) (outer slice inside all : List ℕ) → reverse outer ≡ outside n (reverse slice) → slice ≡ inside → reverse inside ≡ all → Once (outside n all) → Once (reverse outer)
is_once n outer slice inside all p q r h = subst Once (sym (p ∙ ap (λ l. outside n (reverse l)) q ∙ ap (outside n) r)) h
