-- In a valid program no variable that a body binds is a field of its record.
use Rattle.std.proofs.Common.{◌≡◌, ℕ, Bool, true, false, List, [], ◌∷◌, refl, sym, subst}
use Rattle.std.specs.Prelude.{IsTrue, nat_eq, ◌||◌, ◌&&◌}
use Rattle.std.proofs.lemmas.Bool.{eqb-true}
use Rattle.sch_word.proofs.facts.NumberSets.{in_deeper}
use Rattle.sch_word.specs.trees.NumberSets.{has, In}
use Rattle.sch_word.specs.trees.Bindings.{numbers, without, scope_with, pushed}
use Rattle.sch_cells.specs.Tree.{Tree, Trees, Lambdas, constant, literal, variable, global, set_variable, set_global, define, branch, sequence, bind, fix, letrec, lambda, call, operation, new_cells, cell_get, cell_set, no_trees, and_tree, no_lambdas, and_lambda, count, count_lambdas}
use Rattle.sch_cells.specs.Variables.{free, free_each, free_lambdas, cells_bound, cells_used, all_in}
use Rattle.sch_cells.specs.Measures.{over, over_each, over_lambdas, shape}
use Rattle.sch_cells.specs.Valid.{has_form}
use Rattle.sch_cells.specs.Clear.{Apart, Clear, ClearEach, ClearLambdas}
use Rattle.sch_closure.specs.Closed.{fields_of}
use Rattle.sch_closure.specs.Fresh.{Fresh, FreshEach, FreshLambdas}
use Rattle.sch_cells.proofs.Clearing.{in_under}
use Rattle.sch_closure.proofs.Sets.{union_within, without_scope, without_each_scope}
use Rattle.sch_word.proofs.facts.Booleans.{and_parts}

abbrev pub Within : List ℕ → List ℕ → Type 0
Within xs ys = (x : ℕ) → In x xs → In x ys

alone : (x : ℕ) (S : List ℕ) → In x S → Within (x ∷ []) S
alone x S h y i = go (nat_eq y x) refl i
  where
    go : (b : Bool) → nat_eq y x ≡ b → (b || false) ≡ true → In y S
    go true e k = subst (λ z. In z S) (sym (eqb-true y x e)) h
    go false e k = absurd (cc)

all_within : (xs S : List ℕ) → all_in xs S ≡ true → Within xs S
all_within [] S h y i = absurd (cc)
all_within (x ∷ xs) S h y i =
    let p = and_parts (has x S) (all_in xs S) h in
    go p.0 (all_within xs S p.1) (nat_eq y x) refl i
  where
    go : In x S → Within xs S → (b : Bool) → nat_eq y x ≡ b → (b || has y xs) ≡ true → In y S
    go first rest true e k = subst (λ z. In z S) (sym (eqb-true y x e)) first
    go first rest false e k = rest y k

mutual
  pub free_within : (e : Tree) (S : List ℕ) → Clear e S → Within (free e) S
  free_within (constant k) S c = λ x i. absurd (cc)
  free_within (literal k) S c = λ x i. absurd (cc)
  free_within (variable y) S c = alone y S c
  free_within (global g) S c = λ x i. absurd (cc)
  free_within (set_variable y e) S c = union_within (y ∷ []) (free e) S (alone y S c.0) (free_within e S c.1)
  free_within (set_global g e) S c = free_within e S c
  free_within (define g e) S c = free_within e S c
  free_within (branch a b d) S c = union_within (free a) _ S (free_within a S c.0) (union_within (free b) (free d) S (free_within b S c.1) (free_within d S c.2))
  free_within (sequence es) S c = each_within es S c
  free_within (bind site y es e) S c =
      union_within (free_each es) _ S (each_within es S c.0) (without_scope y (count es) (free e) S (free_within e (scope_with y (count es) S) c.2))
  free_within (fix y ls e) S c =
      let T = scope_with y (count_lambdas ls) S in
      without_scope y (count_lambdas ls) _ S (union_within (free_lambdas ls) (free e) T (lambdas_within ls T c.1) (free_within e T c.2))
  free_within (letrec site y es e) S c =
      let T = scope_with y (count es) S in
      without_scope y (count es) _ S (union_within (free_each es) (free e) T (each_within es T c.1) (free_within e T c.2))
  free_within (lambda name y m rest e) S c = without_scope y m (free e) S (free_within e (scope_with y m S) c.1)
  free_within (call site spread f es) S c = union_within (free f) (free_each es) S (free_within f S c.0) (each_within es S c.1)
  free_within (operation site which es) S c = each_within es S c
  free_within (new_cells cs e) S c =
      union_within (cells_used cs) _ S (all_within (cells_used cs) S c.0) (without_each_scope (cells_bound cs) (free e) S (free_within e (pushed (cells_bound cs) S) c.2))
  free_within (cell_get y) S c = alone y S c
  free_within (cell_set y e) S c = union_within (y ∷ []) (free e) S (alone y S c.0) (free_within e S c.1)

  pub each_within : (es : Trees) (S : List ℕ) → ClearEach es S → Within (free_each es) S
  each_within no_trees S c = λ x i. absurd (cc)
  each_within (and_tree e es) S c = union_within (free e) (free_each es) S (free_within e S c.0) (each_within es S c.1)

  pub lambdas_within : (ls : Lambdas) (S : List ℕ) → ClearLambdas ls S → Within (free_lambdas ls) S
  lambdas_within no_lambdas S c = λ x i. absurd (cc)
  lambdas_within (and_lambda name y m rest e ls) S c =
      union_within (without y m (free e)) (free_lambdas ls) S (without_scope y m (free e) S (free_within e (scope_with y m S) c.0.1)) (lambdas_within ls S c.1)

not_in : (x : ℕ) (fs S : List ℕ) → Within fs S → has x S ≡ false → has x fs ≡ false
not_in x fs S w h = go (has x fs) refl
  where
    go : (b : Bool) → has x fs ≡ b → b ≡ false
    go true e = absurd (let k : has x S ≡ true = w x e in cc)
    go false e = refl

apart_within : (ys fs S : List ℕ) → Within fs S → Apart ys S → Apart ys fs
apart_within ys fs S w a = record { at = λ y i. not_in y fs S w (a.at y i) }

wider : (x m : ℕ) (fs S : List ℕ) → Within fs S → Within fs (scope_with x m S)
wider x m fs S w y i = in_deeper x m y S (w y i)

-- no node assigns a variable
abbrev Boxed : Tree → Type 0
Boxed e = IsTrue (over true (λ a b. a && b) (λ e. has_form true (shape e)) e)

abbrev pub BoxedEach : Trees → Type 0
BoxedEach es = IsTrue (over_each true (λ a b. a && b) (λ e. has_form true (shape e)) es)

abbrev pub BoxedLambdas : Lambdas → Type 0
BoxedLambdas ls = IsTrue (over_lambdas true (λ a b. a && b) (λ e. has_form true (shape e)) ls)

mutual
  pub fresh : (e : Tree) (fs S : List ℕ) → Within fs S → Clear e S → Boxed e → Fresh e fs
  fresh (constant k) fs S w c p = tt
  fresh (literal k) fs S w c p = tt
  fresh (variable y) fs S w c p = tt
  fresh (global g) fs S w c p = tt
  fresh (set_variable y e) fs S w c p = absurd (cc)
  fresh (set_global g e) fs S w c p = fresh e fs S w c p
  fresh (define g e) fs S w c p = fresh e fs S w c p
  fresh (branch a b d) fs S w c p =
      let q = and_parts _ _ p in let r = and_parts _ _ q.1 in
      (fresh a fs S w c.0 q.0, fresh b fs S w c.1 r.0, fresh d fs S w c.2 r.1)
  fresh (sequence es) fs S w c p = fresh_each es fs S w c p
  fresh (bind site y es e) fs S w c p =
      let q = and_parts _ _ p in
      (apart_within (numbers y (count es)) fs S w c.1, fresh_each es fs S w c.0 q.0, fresh e fs (scope_with y (count es) S) (wider y (count es) fs S w) c.2 q.1)
  fresh (fix y ls e) fs S w c p =
      let q = and_parts _ _ p in (
        apart_within (numbers y (count_lambdas ls)) fs S w c.0,
        fresh_lambdas ls (scope_with y (count_lambdas ls) S) c.1 q.0,
        fresh e fs (scope_with y (count_lambdas ls) S) (wider y (count_lambdas ls) fs S w) c.2 q.1,
      )
  fresh (letrec site y es e) fs S w c p = absurd (cc)
  fresh (lambda name y m rest e) fs S w c p =
      let v = without_scope y m (free e) S (free_within e (scope_with y m S) c.1) in
      (apart_within (numbers y m) (fields_of y m e) S v c.0, fresh e (fields_of y m e) (scope_with y m S) (wider y m (fields_of y m e) S v) c.1 p)
  fresh (call site spread f es) fs S w c p =
      let q = and_parts _ _ p in
      (fresh f fs S w c.0 q.0, fresh_each es fs S w c.1 q.1)
  fresh (operation site which es) fs S w c p = fresh_each es fs S w c p
  fresh (new_cells cs e) fs S w c p =
      (apart_within (cells_bound cs) fs S w c.1, fresh e fs (pushed (cells_bound cs) S) (λ y i. in_under (cells_bound cs) y S (w y i)) c.2 p)
  fresh (cell_get y) fs S w c p = tt
  fresh (cell_set y e) fs S w c p = fresh e fs S w c.1 p

  pub fresh_each : (es : Trees) (fs S : List ℕ) → Within fs S → ClearEach es S → BoxedEach es → FreshEach es fs
  fresh_each no_trees fs S w c p = tt
  fresh_each (and_tree e es) fs S w c p = let q = and_parts _ _ p in (fresh e fs S w c.0 q.0, fresh_each es fs S w c.1 q.1)

  pub fresh_lambdas : (ls : Lambdas) (S : List ℕ) → ClearLambdas ls S → BoxedLambdas ls → FreshLambdas ls
  fresh_lambdas no_lambdas S c p = tt
  fresh_lambdas (and_lambda name y m rest e ls) S c p =
      let v = without_scope y m (free e) S (free_within e (scope_with y m S) c.0.1) in
      let q = and_parts _ _ p in
      ((apart_within (numbers y m) (fields_of y m e) S v c.0.0, fresh e (fields_of y m e) (scope_with y m S) (wider y m (fields_of y m e) S v) c.0.1 q.0), fresh_lambdas ls S c.1 q.1)
