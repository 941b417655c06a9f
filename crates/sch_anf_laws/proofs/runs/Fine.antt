-- What the run of a tree rests on: its variables are there, its literals too, and each site has a fitting order.
use Rattle.std.proofs.Common.{◌≡◌, ℕ, zero, suc, ◌+◌, ◌<◌, Bool, true, false, cond, not, List, [], ◌∷◌, ◌++◌, length, Some, refl, ap, ◌∙◌, subst, arith, length-append}
use Rattle.std.specs.Prelude.{slice_get, nat_eq, nat_lt, ◌&&◌, ◌||◌}
use Rattle.std.specs.List.{list_all}
use Rattle.std.proofs.lemmas.Bool.{eq-eqb, eqb-true}
use Rattle.std.proofs.lemmas.List.{append-nil}
use Rattle.sch_word.specs.values.Values.{Value}
use Rattle.sch_word.specs.trees.NumberSets.{has}
use Rattle.sch_word.specs.trees.Bindings.{numbers, scope_with}
use Rattle.sch_word.specs.values.Primitives.{operands_of}
use Rattle.sch_word.specs.runs.Computation.{Outcome, gives, in_order}
use Rattle.sch_word.specs.runs.Orders.{is_permutation}
use Rattle.sch_word.proofs.facts.Booleans.{and_left, and_right}
use Rattle.sch_word.proofs.facts.NumberSets.{numbers_length}
use Rattle.sch_word.proofs.facts.NumberTests.{below_differs}
use Rattle.sch_word.proofs.facts.Lists.{length_none}
use Rattle.sch_flat.specs.Tree.{Tree, Trees, constant, literal, variable, global, set_global, define, branch, sequence, bind, make_closure, fix_closures, call, operation, new_cells, cell_get, cell_set, no_trees, and_tree, count}
use Rattle.sch_flat.specs.Valid.{is_known, is_content, is_made, cells_scope}
use Rattle.sch_control.specs.Fits.{begins_with}
use Rattle.sch_anf_laws.specs.Normal.{is_simple, bound_places, operator_place}
use Rattle.sch_anf_laws.proofs.runs.Orders.{begins, Parts, settled}
use Rattle.sch_anf_laws.proofs.runs.Worlds.{Setting}

-- an order of all parts, in which these come first
abbrev pub FitsSite : (width : ℕ) → (parts order : List ℕ) → Type 0
FitsSite width parts order = (is_permutation width order && begins_with parts order) ≡ true

module _ (a : Setting) (fields : ℕ) where
  abbrev mutual
    pub Fine : Tree → List ℕ → Type 0
    Fine (constant c) names = Unit {0}
    Fine (literal k) names = nat_lt k a.literals ≡ true
    Fine (variable v) names = is_known names fields v ≡ true
    Fine (global g) names = Unit {0}
    Fine (set_global g e) names = Fine e names
    Fine (define g e) names = Fine e names
    Fine (branch e e' e'') names = Fine e names × Fine e' names × Fine e'' names
    Fine (sequence es) names = FineEach es names
    Fine (bind site first es e) names =
        FitsSite (count es) (numbers 0 (count es)) (a.orders site) × FineEach es names × Fine e (scope_with first (count es) names)
    Fine (make_closure m) names = is_made a.bodies names fields m ≡ true
    Fine (fix_closures first ms e) names =
        (list_all (is_made a.bodies (scope_with first (length ms) names) fields) ms ≡ true) × Fine e (scope_with first (length ms) names)
    Fine (call site spread f es) names =
        FitsSite (suc (count es)) (bound_places 1 es (operator_place f)) (a.orders site) × Fine f names × FineEach es names
    Fine (operation site which es) names =
        FitsSite (count es) (bound_places 0 es []) (a.orders site) × (count es ≡ operands_of which) × FineEach es names
    Fine (new_cells cs e) names = (list_all (λ c. is_content names fields c.content) cs ≡ true) × Fine e (cells_scope cs names)
    Fine (cell_get v) names = is_known names fields v ≡ true
    Fine (cell_set v e) names = (is_known names fields v ≡ true) × Fine e names

    pub FineEach : Trees → List ℕ → Type 0
    FineEach no_trees names = Unit {0}
    FineEach (and_tree e es) names = Fine e names × FineEach es names

-- ## The places of a site

abbrev pub simples : Trees → List Bool
simples no_trees = []
simples (and_tree e es) = is_simple e ∷ simples es

simples_length : (es : Trees) → length (simples es) ≡ count es
simples_length no_trees = refl
simples_length (and_tree e es) = ap suc (simples_length es)

bound_append : (place : ℕ) (es : Trees) (last rest : List ℕ) → bound_places place es last ++ rest ≡ bound_places place es (last ++ rest)
bound_append place no_trees last rest = refl
bound_append place (and_tree e es) last rest = go (is_simple e) (bound_append (suc place) es last rest)
  where
    go : (b : Bool) → bound_places (suc place) es last ++ rest ≡ bound_places (suc place) es (last ++ rest)
        → cond b (bound_places (suc place) es last) (place ∷ bound_places (suc place) es last) ++ rest
        ≡ cond b (bound_places (suc place) es (last ++ rest)) (place ∷ bound_places (suc place) es (last ++ rest))
    go true h = h
    go false h = ap (λ l. place ∷ l) h

pub bound_below : (q place : ℕ) (es : Trees) (last : List ℕ) → q < place → has q (bound_places place es last) ≡ has q last
bound_below q place no_trees last l = refl
bound_below q place (and_tree e es) last l = go (is_simple e) (bound_below q (suc place) es last (omega (arith, l)))
  where
    go : (b : Bool) → has q (bound_places (suc place) es last) ≡ has q last → has q (cond b (bound_places (suc place) es last) (place ∷ bound_places (suc place) es last)) ≡ has q last
    go true h = h
    go false h = rw (below_differs q place l) h

bound_at : (es : Trees) (place i q : ℕ) (last : List ℕ) (b : Bool) → q ≡ place + i → has q last ≡ false → slice_get (simples es) i ≡ Some b → has q (bound_places place es last) ≡ not b
bound_at no_trees place i q last b e n h = absurd (cc)
bound_at (and_tree t es) place zero q last b e n h = go (is_simple t) h
  where
    go : (c : Bool) → Some c ≡ Some b → has q (cond c (bound_places (suc place) es last) (place ∷ bound_places (suc place) es last)) ≡ not b
    go true h = bound_below q (suc place) es last (omega (arith, e)) ∙ (n ∙ ap not (let m : true ≡ b = cc in m))
    go false h = rw (eq-eqb q place (omega (arith, e))) (ap not (let m : false ≡ b = cc in m))
bound_at (and_tree t es) place (suc i) q last b e n h = go (is_simple t) (bound_at es (suc place) i q last b (omega (arith, e)) n h)
  where
    go : (c : Bool) → has q (bound_places (suc place) es last) ≡ not b → has q (cond c (bound_places (suc place) es last) (place ∷ bound_places (suc place) es last)) ≡ not b
    go true h = h
    go false h = other (nat_eq q place) refl h
      where
        other : (d : Bool) → nat_eq q place ≡ d → has q (bound_places (suc place) es last) ≡ not b → (d || has q (bound_places (suc place) es last)) ≡ not b
        other true k h = let m = eqb-true q place k in absurd (omega (arith, e, m))
        other false k h = h

-- the rest of an order, once the parts that come first are evaluated
pub record Rest (S : Type 0) (simple : List Bool) (first : List ℕ → List ℕ) (order : List ℕ) : Type 0 where
  pub rest : List ℕ
  pub is : order ≡ first rest
  pub settles : {s : S} {cs : List (S → Outcome S Value)} {vs us : List Value} → Parts s cs vs us simple → in_order rest cs vs s ≡ gives us s

pub operands_rest : (S : Type 0) (es : Trees) (order : List ℕ) → FitsSite (count es) (bound_places 0 es []) order → Rest S (simples es) (bound_places 0 es) order
operands_rest S es order f =
    let found = begins (bound_places 0 es []) order (and_right (is_permutation (count es) order) (begins_with (bound_places 0 es []) order) f) in
    let permutation : is_permutation (length (simples es)) (bound_places 0 es [] ++ found.0) ≡ true =
    subst (λ l. is_permutation (length (simples es)) l ≡ true) found.1 (rw (simples_length es) (and_left (is_permutation (count es) order) (begins_with (bound_places 0 es []) order) f)) in
    record {
      rest = found.0;
      is = found.1 ∙ bound_append 0 es [] found.0;
      settles = λ parts. settled (bound_places 0 es []) found.0 permutation (λ q b e. bound_at es 0 q q [] b (omega arith) refl e) parts;
    }

operator_there : (f : Tree) (es : Trees) (b : Bool) → Some (is_simple f) ≡ Some b → has 0 (bound_places 1 es (operator_place f)) ≡ not b
operator_there f es b e = bound_below 0 1 es (operator_place f) (omega arith) ∙ go (is_simple f) e
  where
    go : (c : Bool) → Some c ≡ Some b → has 0 (cond c [] (0 ∷ [])) ≡ not b
    go true e = ap not (let m : true ≡ b = cc in m)
    go false e = ap not (let m : false ≡ b = cc in m)

not_operator : (f : Tree) (q : ℕ) → has (suc q) (operator_place f) ≡ false
not_operator f q = go (is_simple f)
  where
    go : (c : Bool) → has (suc q) (cond c [] (0 ∷ [])) ≡ false
    go true = refl
    go false = go' (nat_eq (suc q) 0) refl
      where
        go' : (d : Bool) → nat_eq (suc q) 0 ≡ d → (d || false) ≡ false
        go' true e = let m = eqb-true (suc q) 0 e in absurd (omega (arith, m))
        go' false e = refl

pub call_rest : (S : Type 0) (f : Tree) (es : Trees) (order : List ℕ) → FitsSite (suc (count es)) (bound_places 1 es (operator_place f)) order
    → Rest S (is_simple f ∷ simples es) (λ rest. bound_places 1 es (operator_place f ++ rest)) order
call_rest S f es order h =
    let first = bound_places 1 es (operator_place f) in
    let found = begins first order (and_right (is_permutation (suc (count es)) order) (begins_with first order) h) in
    let permutation : is_permutation (suc (length (simples es))) (first ++ found.0) ≡ true =
    subst (λ l. is_permutation (suc (length (simples es))) l ≡ true) found.1 (rw (simples_length es) (and_left (is_permutation (suc (count es)) order) (begins_with first order) h)) in
    record {
      rest = found.0;
      is = found.1 ∙ bound_append 1 es (operator_place f) found.0;
      settles = λ parts. settled first found.0 permutation place parts;
    }
  where
    place : (q : ℕ) (b : Bool) → slice_get (is_simple f ∷ simples es) q ≡ Some b → has q (bound_places 1 es (operator_place f)) ≡ not b
    place zero b e = operator_there f es b e
    place (suc q) b e = bound_at es 1 q (suc q) (operator_place f) b (omega arith) (not_operator f q) e

-- where all parts come first, there is no rest
pub inits_order : (n : ℕ) (order : List ℕ) → FitsSite n (numbers 0 n) order → order ≡ numbers 0 n
inits_order n order h =
    let found = begins (numbers 0 n) order (and_right (is_permutation n order) (begins_with (numbers 0 n) order) h) in
    let long = eqb-true (length order) n (and_left (nat_eq (length order) n) _ (and_left (is_permutation n order) (begins_with (numbers 0 n) order) h)) in
    found.1 ∙ (ap (λ l. numbers 0 n ++ l) (length_none found.0 (omega (arith, long, ap length found.1, length-append (numbers 0 n) found.0, numbers_length 0 n))) ∙ append-nil (numbers 0 n))
