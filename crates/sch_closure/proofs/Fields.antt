-- What the walk finds is what stands in the definitions: the free variables, and the fields of each procedure.
use Rattle.std.proofs.Common.{◌≡◌, ℕ, zero, suc, ◌+◌, Bool, true, false, List, [], ◌∷◌, ◌++◌, reverse, Option, Some, None, refl, sym, ap, ◌∙◌, append_assoc, append-nil}
use Rattle.std.specs.Prelude.{nat_eq, ◌||◌}
use Rattle.std.proofs.lemmas.Bool.{eqb-true}
use Rattle.sch_word.specs.trees.NumberSets.{has, unless, insert, union}
use Rattle.sch_word.specs.trees.Bindings.{remove, without}
use Rattle.sch_cells.specs.declared.tree.NewCell.{NewCell}
use Rattle.sch_cells.specs.Tree.{Tree, Trees, Lambdas, constant, literal, variable, global, set_variable, set_global, define, branch, sequence, bind, fix, letrec, lambda, call, operation, new_cells, cell_get, cell_set, no_trees, and_tree, no_lambdas, and_lambda, count, count_lambdas}
use Rattle.sch_cells.specs.Variables.{free, free_each, free_lambdas, cells_bound, cells_used, and_some, without_each}
use Rattle.sch_closure.specs.Closed.{procedures, procedures_each, procedures_lambdas, captured, all_procedures, all_of_each, all_of_lambdas, program_fields}
use Rattle.sch_closure.specs.Found.{found, found_each, found_lambdas, found_cells, fields_found, fields_of_each, fields_of_lambdas}
use Rattle.sch_word.proofs.facts.NumberSets.{union_insert, union_assoc, Once, once_union}

-- ## Unions

has_remove : (x y : ℕ) (xs : List ℕ) → nat_eq x y ≡ false → has x (remove y xs) ≡ has x xs
has_remove x y [] d = refl
has_remove x y (z ∷ xs) d = go (nat_eq z y) refl (has_remove x y xs d)
  where
    go : (b : Bool) → nat_eq z y ≡ b → has x (remove y xs) ≡ has x xs → has x (unless b z (remove y xs)) ≡ (nat_eq x z || has x xs)
    go true e h =
        let p : z ≡ y = eqb-true z y e in
        let q : nat_eq x z ≡ false = rw p d in
        rw q h
    go false e h = ap (λ b. nat_eq x z || b) h

remove_insert : (y x : ℕ) (xs : List ℕ) → nat_eq x y ≡ false → remove y (insert x xs) ≡ insert x (remove y xs)
remove_insert y x xs d = rw (has_remove x y xs d) (go (has x xs))
  where
    go : (b : Bool) → remove y (unless b x xs) ≡ unless b x (remove y xs)
    go true = refl
    go false = rw d refl

remove_inserted : (y x : ℕ) (xs : List ℕ) → nat_eq x y ≡ true → remove y (insert x xs) ≡ remove y xs
remove_inserted y x xs d = go (has x xs)
  where
    go : (b : Bool) → remove y (unless b x xs) ≡ remove y xs
    go true = refl
    go false = rw d refl

remove_union : (y : ℕ) (ps qs : List ℕ) → remove y (union ps qs) ≡ union (remove y ps) (remove y qs)
remove_union y [] qs = refl
remove_union y (p ∷ ps) qs = go (nat_eq p y) refl (remove_union y ps qs)
  where
    go : (b : Bool) → nat_eq p y ≡ b → remove y (union ps qs) ≡ union (remove y ps) (remove y qs) → remove y (insert p (union ps qs)) ≡ union (unless b p (remove y ps)) (remove y qs)
    go true e h = remove_inserted y p (union ps qs) e ∙ h
    go false e h = remove_insert y p (union ps qs) e ∙ ap (insert p) h

-- ## Each variable once

once_remove : (y : ℕ) (xs : List ℕ) → Once xs → Once (remove y xs)
once_remove y xs h = sym (remove_union y xs []) ∙ ap (remove y) h

once_without : (x m : ℕ) (xs : List ℕ) → Once xs → Once (without x m xs)
once_without x zero xs h = h
once_without x (suc m) xs h = once_remove x (without (suc x) m xs) (once_without (suc x) m xs h)

once_without_each : (ys xs : List ℕ) → Once xs → Once (without_each ys xs)
once_without_each [] xs h = h
once_without_each (y ∷ ys) xs h = once_remove y (without_each ys xs) (once_without_each ys xs h)

mutual
  once : (e : Tree) → Once (free e)
  once (constant c) = refl
  once (literal n) = refl
  once (variable x) = refl
  once (global g) = refl
  once (set_variable x e) = once_union (x ∷ []) (free e) (once e)
  once (set_global g e) = once e
  once (define g e) = once e
  once (branch a b c) = once_union (free a) (union (free b) (free c)) (once_union (free b) (free c) (once c))
  once (sequence es) = once_each es
  once (bind site x es e) = once_union (free_each es) (without x (count es) (free e)) (once_without x (count es) (free e) (once e))
  once (fix x ls e) = once_without x (count_lambdas ls) (union (free_lambdas ls) (free e)) (once_union (free_lambdas ls) (free e) (once e))
  once (letrec site x es e) = once_without x (count es) (union (free_each es) (free e)) (once_union (free_each es) (free e) (once e))
  once (lambda name x m rest e) = once_without x m (free e) (once e)
  once (call site spread f es) = once_union (free f) (free_each es) (once_each es)
  once (operation site which es) = once_each es
  once (new_cells cs e) =
      once_union (cells_used cs) (without_each (cells_bound cs) (free e)) (once_without_each (cells_bound cs) (free e) (once e))
  once (cell_get x) = refl
  once (cell_set x e) = once_union (x ∷ []) (free e) (once e)

  once_each : (es : Trees) → Once (free_each es)
  once_each no_trees = refl
  once_each (and_tree e es) = once_union (free e) (free_each es) (once_each es)

-- ## Free variables

cells_found : (cs : List NewCell) (xs : List ℕ) → found_cells cs xs ≡ union (cells_used cs) xs
cells_found [] xs = refl
cells_found (c ∷ cs) xs = ap (and_some c.content) (cells_found cs xs) ∙ go c.content
  where
    go : (o : Option ℕ) → and_some o (union (cells_used cs) xs) ≡ union (and_some o (cells_used cs)) xs
    go None = refl
    go (Some x) = sym (union_insert x (cells_used cs) xs)

mutual
  found_is : (e : Tree) (xs : List ℕ) → found e xs ≡ union (free e) xs
  found_is (constant c) xs = refl
  found_is (literal n) xs = refl
  found_is (variable x) xs = refl
  found_is (global g) xs = refl
  found_is (set_variable x e) xs = ap (insert x) (found_is e xs) ∙ sym (union_insert x (free e) xs)
  found_is (set_global g e) xs = found_is e xs
  found_is (define g e) xs = found_is e xs
  found_is (branch a b c) xs =
      found_is a (found b (found c xs))
      ∙ ap (union (free a)) (found_is b (found c xs) ∙ ap (union (free b)) (found_is c xs) ∙ sym (union_assoc (free b) (free c) xs))
      ∙ sym (union_assoc (free a) (union (free b) (free c)) xs)
  found_is (sequence es) xs = each_found es xs
  found_is (bind site x es e) xs =
      each_found es _ ∙ ap (λ l. union (free_each es) (union (without x (count es) l) xs)) (found_is e [] ∙ once e)
      ∙ sym (union_assoc (free_each es) (without x (count es) (free e)) xs)
  found_is (fix x ls e) xs = ap (λ l. union (without x (count_lambdas ls) l) xs) (lambdas_found ls (found e []) ∙ ap (union (free_lambdas ls)) (found_is e [] ∙ once e))
  found_is (letrec site x es e) xs = ap (λ l. union (without x (count es) l) xs) (each_found es (found e []) ∙ ap (union (free_each es)) (found_is e [] ∙ once e))
  found_is (lambda name x m rest e) xs = ap (λ l. union (without x m l) xs) (found_is e [] ∙ once e)
  found_is (call site spread f es) xs = found_is f (found_each es xs) ∙ ap (union (free f)) (each_found es xs) ∙ sym (union_assoc (free f) (free_each es) xs)
  found_is (operation site which es) xs = each_found es xs
  found_is (new_cells cs e) xs =
      cells_found cs _ ∙ ap (λ l. union (cells_used cs) (union (without_each (cells_bound cs) l) xs)) (found_is e [] ∙ once e)
      ∙ sym (union_assoc (cells_used cs) (without_each (cells_bound cs) (free e)) xs)
  found_is (cell_get x) xs = refl
  found_is (cell_set x e) xs = ap (insert x) (found_is e xs) ∙ sym (union_insert x (free e) xs)

  each_found : (es : Trees) (xs : List ℕ) → found_each es xs ≡ union (free_each es) xs
  each_found no_trees xs = refl
  each_found (and_tree e es) xs = found_is e (found_each es xs) ∙ ap (union (free e)) (each_found es xs) ∙ sym (union_assoc (free e) (free_each es) xs)

  lambdas_found : (ls : Lambdas) (xs : List ℕ) → found_lambdas ls xs ≡ union (free_lambdas ls) xs
  lambdas_found no_lambdas xs = refl
  lambdas_found (and_lambda name x m rest e ls) xs =
      ap (λ l. union (without x m l) (found_lambdas ls xs)) (found_is e [] ∙ once e) ∙ ap (union (without x m (free e))) (lambdas_found ls xs)
      ∙ sym (union_assoc (without x m (free e)) (free_lambdas ls) xs)

pub found_alone : (e : Tree) → found e [] ≡ free e
found_alone e = found_is e [] ∙ once e

-- ## Fields

mutual
  pub fields_is : (e : Tree) (n : ℕ) (all : List (List ℕ)) → fields_found e all ≡ all_procedures captured e n ++ all
  fields_is (constant c) n all = refl
  fields_is (literal k) n all = refl
  fields_is (variable x) n all = refl
  fields_is (global g) n all = refl
  fields_is (set_variable x e) n all = fields_is e n all
  fields_is (set_global g e) n all = fields_is e n all
  fields_is (define g e) n all = fields_is e n all
  fields_is (branch a b c) n all =
      fields_is a n _ ∙ ap (λ l. all_procedures captured a n ++ l)
      (fields_is b (n + procedures a) _ ∙ ap (λ l. all_procedures captured b (n + procedures a) ++ l) (fields_is c (n + procedures a + procedures b) all)
      ∙ sym (append_assoc (all_procedures captured b (n + procedures a)) (all_procedures captured c (n + procedures a + procedures b)) all))
      ∙ sym (append_assoc (all_procedures captured a n) (all_procedures captured b (n + procedures a) ++ all_procedures captured c (n + procedures a + procedures b)) all)
  fields_is (sequence es) n all = each_fields es n all
  fields_is (bind site x es e) n all =
      each_fields es n _ ∙ ap (λ l. all_of_each captured es n ++ l) (fields_is e (n + procedures_each es) all)
      ∙ sym (append_assoc (all_of_each captured es n) (all_procedures captured e (n + procedures_each es)) all)
  fields_is (letrec site x es e) n all =
      each_fields es n _ ∙ ap (λ l. all_of_each captured es n ++ l) (fields_is e (n + procedures_each es) all)
      ∙ sym (append_assoc (all_of_each captured es n) (all_procedures captured e (n + procedures_each es)) all)
  fields_is (fix x ls e) n all =
      lambdas_fields ls n _ ∙ ap (λ l. all_of_lambdas captured ls n ++ l) (fields_is e (n + procedures_lambdas ls) all)
      ∙ sym (append_assoc (all_of_lambdas captured ls n) (all_procedures captured e (n + procedures_lambdas ls)) all)
  fields_is (lambda name x m rest e) n all = rw (found_alone e) (ap (λ l. without x m (free e) ∷ l) (fields_is e (suc n) all))
  fields_is (call site spread f es) n all =
      fields_is f n _ ∙ ap (λ l. all_procedures captured f n ++ l) (each_fields es (n + procedures f) all)
      ∙ sym (append_assoc (all_procedures captured f n) (all_of_each captured es (n + procedures f)) all)
  fields_is (operation site which es) n all = each_fields es n all
  fields_is (new_cells cs e) n all = fields_is e n all
  fields_is (cell_get x) n all = refl
  fields_is (cell_set x e) n all = fields_is e n all

  pub each_fields : (es : Trees) (n : ℕ) (all : List (List ℕ)) → fields_of_each es all ≡ all_of_each captured es n ++ all
  each_fields no_trees n all = refl
  each_fields (and_tree e es) n all =
      fields_is e n _ ∙ ap (λ l. all_procedures captured e n ++ l) (each_fields es (n + procedures e) all)
      ∙ sym (append_assoc (all_procedures captured e n) (all_of_each captured es (n + procedures e)) all)

  pub lambdas_fields : (ls : Lambdas) (n : ℕ) (all : List (List ℕ)) → fields_of_lambdas ls all ≡ all_of_lambdas captured ls n ++ all
  lambdas_fields no_lambdas n all = refl
  lambdas_fields (and_lambda name x m rest e ls) n all =
      rw (found_alone e) (ap (λ l. without x m (free e) ∷ l)
      (fields_is e (suc n) _ ∙ ap (λ l. all_procedures captured e (suc n) ++ l) (lambdas_fields ls (suc n + procedures e) all)
      ∙ sym (append_assoc (all_procedures captured e (suc n)) (all_of_lambdas captured ls (suc n + procedures e)) all)))

-- The lists of the walk are turned: what it finds of a program.
pub fields_made : (library : Lambdas) (forms : Trees) (empty before after all : List (List ℕ)) → empty ≡ []
    → reverse before ≡ fields_of_each forms (reverse empty) → reverse after ≡ fields_of_lambdas library (reverse before) → all ≡ reverse after
    → all ≡ program_fields library forms
fields_made library forms empty before after all none first next turned =
    let n = procedures_lambdas library in
    let f : reverse before ≡ all_of_each captured forms n =
    first ∙ ap (λ l. fields_of_each forms (reverse l)) none ∙ each_fields forms n [] ∙ append-nil (all_of_each captured forms n) in
    turned ∙ next ∙ ap (fields_of_lambdas library) f ∙ lambdas_fields library 0 (all_of_each captured forms n)
