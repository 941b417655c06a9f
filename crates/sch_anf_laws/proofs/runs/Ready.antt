-- A valid program under a fitting table has all that its run rests on.
use Rattle.std.proofs.Common.{◌≡◌, ℕ, suc, Bool, true, false, List, [], ◌∷◌, ◌++◌, length}
use Rattle.std.specs.Prelude.{nat_eq, nat_lt, ◌&&◌}
use Rattle.std.specs.List.{list_all, AllByRecursion}
use Rattle.std.proofs.lemmas.Bool.{eqb-true}
use Rattle.sch_word.specs.trees.Bindings.{numbers, scope_with}
use Rattle.sch_word.specs.values.Primitives.{operands_of}
use Rattle.sch_word.specs.trees.Shape as shapes
use Rattle.sch_word.specs.trees.Shape.{names_known, well_formed}
use Rattle.sch_word.proofs.facts.Booleans.{and_left, and_right}
use Rattle.sch_flat.specs.Tree.{Tree, Trees, constant, literal, variable, global, set_global, define, branch, sequence, bind, make_closure, fix_closures, call, operation, new_cells, cell_get, cell_set, no_trees, and_tree, count}
use Rattle.sch_flat.specs.Measures.{over, over_each}
use Rattle.sch_flat.specs.Valid.{is_known, is_content, is_made, all_new, cell_variables, cells_scope, scoped, scoped_each}
use Rattle.sch_anf_laws.specs.Normal.{bound_places, operator_place, bound_rows, bound_rows_each}
use Rattle.sch_anf_laws.proofs.runs.Worlds.{Setting}
use Rattle.sch_anf_laws.proofs.runs.Fine.{FitsSite, Fine, FineEach}

-- ## Rows of sites

pub every_left : {A : Type 0} (P : A → Type 0) (xs ys : List A) → AllByRecursion P (xs ++ ys) → AllByRecursion P xs
every_left P [] ys h = tt
every_left P (x ∷ xs) ys h = (h.0, every_left P xs ys h.1)

pub every_right : {A : Type 0} (P : A → Type 0) (xs ys : List A) → AllByRecursion P (xs ++ ys) → AllByRecursion P ys
every_right P [] ys h = h
every_right P (x ∷ xs) ys h = every_right P xs ys h.1

pub every_of : {A : Type 0} (f : A → Bool) (xs : List A) → list_all f xs ≡ true → AllByRecursion (λ x. f x ≡ true) xs
every_of f [] h = tt
every_of f (x ∷ xs) h = (and_left (f x) (list_all f xs) h, every_of f xs (and_right (f x) (list_all f xs) h))

abbrev pub all_sites : Tree → List (ℕ × ℕ)
all_sites = over [] (λ x y. x ++ y) shapes.site_of

abbrev pub all_sites_each : Trees → List (ℕ × ℕ)
all_sites_each = over_each [] (λ x y. x ++ y) shapes.site_of

-- each site of a tree has its order
module _ (orders : ℕ → List ℕ) where
  abbrev mutual
    pub Ordered : Tree → Type 0
    Ordered (constant c) = Unit {0}
    Ordered (literal k) = Unit {0}
    Ordered (variable v) = Unit {0}
    Ordered (global g) = Unit {0}
    Ordered (set_global g e) = Ordered e
    Ordered (define g e) = Ordered e
    Ordered (branch x y z) = Ordered x × Ordered y × Ordered z
    Ordered (sequence es) = OrderedEach es
    Ordered (bind site first es e) = FitsSite (count es) (numbers 0 (count es)) (orders site) × OrderedEach es × Ordered e
    Ordered (make_closure m) = Unit {0}
    Ordered (fix_closures first ms e) = Ordered e
    Ordered (call site spread f es) = FitsSite (suc (count es)) (bound_places 1 es (operator_place f)) (orders site) × Ordered f × OrderedEach es
    Ordered (operation site which es) = FitsSite (count es) (bound_places 0 es []) (orders site) × OrderedEach es
    Ordered (new_cells cs e) = Ordered e
    Ordered (cell_get v) = Unit {0}
    Ordered (cell_set v e) = Ordered e

    pub OrderedEach : Trees → Type 0
    OrderedEach no_trees = Unit {0}
    OrderedEach (and_tree e es) = Ordered e × OrderedEach es

  module _ (Width : ℕ × ℕ → Type 0) (Found : ℕ × List ℕ → Type 0)
      (ordered_at : (site width : ℕ) (parts : List ℕ) → Width (site, width) → Found (site, parts) → FitsSite width parts (orders site)) where
    mutual
      pub ordered : (e : Tree) → AllByRecursion Width (all_sites e) → AllByRecursion Found (bound_rows e) → Ordered e
      ordered (constant c) s r = tt
      ordered (literal k) s r = tt
      ordered (variable v) s r = tt
      ordered (global g) s r = tt
      ordered (set_global g e) s r = ordered e s r
      ordered (define g e) s r = ordered e s r
      ordered (branch x y z) s r = (
        ordered x (every_left Width (all_sites x) (all_sites y ++ all_sites z) s) (every_left Found (bound_rows x) (bound_rows y ++ bound_rows z) r),
        ordered y (every_left Width (all_sites y) (all_sites z) (every_right Width (all_sites x) (all_sites y ++ all_sites z) s))
            (every_left Found (bound_rows y) (bound_rows z) (every_right Found (bound_rows x) (bound_rows y ++ bound_rows z) r)),
        ordered z (every_right Width (all_sites y) (all_sites z) (every_right Width (all_sites x) (all_sites y ++ all_sites z) s))
            (every_right Found (bound_rows y) (bound_rows z) (every_right Found (bound_rows x) (bound_rows y ++ bound_rows z) r)),
      )
      ordered (sequence es) s r = ordered_each es s r
      ordered (bind site first es e) s r = (
        ordered_at site (count es) (numbers 0 (count es)) s.0 r.0,
        ordered_each es (every_left Width (all_sites_each es) (all_sites e) s.1) (every_left Found (bound_rows_each es) (bound_rows e) r.1),
        ordered e (every_right Width (all_sites_each es) (all_sites e) s.1) (every_right Found (bound_rows_each es) (bound_rows e) r.1),
      )
      ordered (make_closure m) s r = tt
      ordered (fix_closures first ms e) s r = ordered e s r
      ordered (call site spread f es) s r = (
        ordered_at site (suc (count es)) (bound_places 1 es (operator_place f)) s.0 r.0,
        ordered f (every_left Width (all_sites f) (all_sites_each es) s.1) (every_left Found (bound_rows f) (bound_rows_each es) r.1),
        ordered_each es (every_right Width (all_sites f) (all_sites_each es) s.1) (every_right Found (bound_rows f) (bound_rows_each es) r.1),
      )
      ordered (operation site which es) s r = (ordered_at site (count es) (bound_places 0 es []) s.0 r.0, ordered_each es s.1 r.1)
      ordered (new_cells cs e) s r = ordered e s r
      ordered (cell_get v) s r = tt
      ordered (cell_set v e) s r = ordered e s r

      pub ordered_each : (es : Trees) → AllByRecursion Width (all_sites_each es) → AllByRecursion Found (bound_rows_each es) → OrderedEach es
      ordered_each no_trees s r = tt
      ordered_each (and_tree e es) s r = (
        ordered e (every_left Width (all_sites e) (all_sites_each es) s) (every_left Found (bound_rows e) (bound_rows_each es) r),
        ordered_each es (every_right Width (all_sites e) (all_sites_each es) s) (every_right Found (bound_rows e) (bound_rows_each es) r),
      )

-- ## What a run rests on

module _ (a : Setting) (fields symbols globals : ℕ) where
  abbrev named : Tree → Bool
  named = over true (λ x y. x && y) (names_known symbols a.literals globals)

  abbrev named_each : Trees → Bool
  named_each = over_each true (λ x y. x && y) (names_known symbols a.literals globals)

  abbrev formed : Tree → Bool
  formed = over true (λ x y. x && y) well_formed

  abbrev formed_each : Trees → Bool
  formed_each = over_each true (λ x y. x && y) well_formed

  mutual
    pub fine : (e : Tree) (names : List ℕ) → scoped a.bodies e names fields ≡ true → named e ≡ true → formed e ≡ true → Ordered a.orders e → Fine a fields e names
    fine (constant c) names s n f o = tt
    fine (literal k) names s n f o = n
    fine (variable v) names s n f o = s
    fine (global g) names s n f o = tt
    fine (set_global g e) names s n f o = fine e names s (and_right (nat_lt g globals) (named e) n) f o
    fine (define g e) names s n f o = fine e names s (and_right (nat_lt g globals) (named e) n) f o
    fine (branch x y z) names s n f o =
        let s' = and_right (scoped a.bodies x names fields) (scoped a.bodies y names fields && scoped a.bodies z names fields) s in
        let n' = and_right (named x) (named y && named z) n in
        let f' = and_right (formed x) (formed y && formed z) f in (
          fine x names (and_left (scoped a.bodies x names fields) (scoped a.bodies y names fields && scoped a.bodies z names fields) s) (and_left (named x) (named y && named z) n)
              (and_left (formed x) (formed y && formed z) f) o.0,
          fine y names (and_left (scoped a.bodies y names fields) (scoped a.bodies z names fields) s') (and_left (named y) (named z) n') (and_left (formed y) (formed z) f') o.1,
          fine z names (and_right (scoped a.bodies y names fields) (scoped a.bodies z names fields) s') (and_right (named y) (named z) n') (and_right (formed y) (formed z) f') o.2,
        )
    fine (sequence es) names s n f o = fine_each es names s n (and_right (well_formed (shapes.sequence (count es) 0)) (formed_each es) (parts es f)) o
      where
        parts : (es : Trees) → formed (sequence es) ≡ true → (well_formed (shapes.sequence (count es) 0) && formed_each es) ≡ true
        parts no_trees f = f
        parts (and_tree e es) f = f
    fine (bind site first es e) names s n f o =
        let s' = and_right (scoped_each a.bodies es names fields) (all_new (numbers first (count es)) names && scoped a.bodies e (scope_with first (count es) names) fields) s in (
          o.0,
          fine_each es names (and_left (scoped_each a.bodies es names fields) (all_new (numbers first (count es)) names && scoped a.bodies e (scope_with first (count es) names) fields) s)
              (and_left (named_each es) (named e) n) (and_left (formed_each es) (formed e) f) o.1,
          fine e (scope_with first (count es) names) (and_right (all_new (numbers first (count es)) names) (scoped a.bodies e (scope_with first (count es) names) fields) s')
              (and_right (named_each es) (named e) n) (and_right (formed_each es) (formed e) f) o.2,
        )
    fine (make_closure m) names s n f o = s
    fine (fix_closures first ms e) names s n f o =
        let inner = scope_with first (length ms) names in
        let s' = and_right (all_new (numbers first (length ms)) names) (list_all (is_made a.bodies inner fields) ms && scoped a.bodies e inner fields) s in (
          and_left (list_all (is_made a.bodies inner fields) ms) (scoped a.bodies e inner fields) s',
          fine e inner (and_right (list_all (is_made a.bodies inner fields) ms) (scoped a.bodies e inner fields) s') n f o,
        )
    fine (call site spread t es) names s n f o = (
      o.0,
      fine t names (and_left (scoped a.bodies t names fields) (scoped_each a.bodies es names fields) s) (and_left (named t) (named_each es) n)
          (and_left (formed t) (formed_each es) (parts spread f)) o.1,
      fine_each es names (and_right (scoped a.bodies t names fields) (scoped_each a.bodies es names fields) s) (and_right (named t) (named_each es) n)
          (and_right (formed t) (formed_each es) (parts spread f)) o.2,
    )
      where
        parts : (spread : Bool) → formed (call site spread t es) ≡ true → (formed t && formed_each es) ≡ true
        parts true f = and_right (well_formed (shapes.call site (count es) true)) (formed t && formed_each es) f
        parts false f = f
    fine (operation site which es) names s n f o = (
      o.0,
      eqb-true (count es) (operands_of which) (and_left (nat_eq (count es) (operands_of which)) (formed_each es) f),
      fine_each es names s n (and_right (nat_eq (count es) (operands_of which)) (formed_each es) f) o.1,
    )
    fine (new_cells cs e) names s n f o =
        let here = list_all (λ c. is_content names fields c.content) cs in (
          and_left here (all_new (cell_variables cs) names && scoped a.bodies e (cells_scope cs names) fields) s,
          fine e (cells_scope cs names) (and_right (all_new (cell_variables cs) names) (scoped a.bodies e (cells_scope cs names) fields)
              (and_right here (all_new (cell_variables cs) names && scoped a.bodies e (cells_scope cs names) fields) s)) n f o,
        )
    fine (cell_get v) names s n f o = s
    fine (cell_set v e) names s n f o =
        (and_left (is_known names fields v) (scoped a.bodies e names fields) s, fine e names (and_right (is_known names fields v) (scoped a.bodies e names fields) s) n f o)

    pub fine_each : (es : Trees) (names : List ℕ) → scoped_each a.bodies es names fields ≡ true → named_each es ≡ true → formed_each es ≡ true → OrderedEach a.orders es → FineEach a fields es names
    fine_each no_trees names s n f o = tt
    fine_each (and_tree e es) names s n f o = (
      fine e names (and_left (scoped a.bodies e names fields) (scoped_each a.bodies es names fields) s) (and_left (named e) (named_each es) n) (and_left (formed e) (formed_each es) f) o.0,
      fine_each es names (and_right (scoped a.bodies e names fields) (scoped_each a.bodies es names fields) s) (and_right (named e) (named_each es) n) (and_right (formed e) (formed_each es) f) o.1,
    )
