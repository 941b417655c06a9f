-- The turns of the loops that note what is bound at each site.
use Rattle.std.proofs.Common.{◌≡◌, ℕ, zero, suc, ◌+◌, ◌-◌, ◌<◌, ◌≤◌, List, [], ◌∷◌, ◌++◌, length, map, take, drop, replicate, get_or, set, refl, sym, ap, ◌∙◌, subst, arith, add-one, append_assoc, append-nil}
use Rattle.std.proofs.lemmas.Bool.{eq-eqb}
use Rattle.std.proofs.lemmas.List.{drop_all, replicate-append-replicate}
use Rattle.std.proofs.Math.Seq.{take-length}
use Rattle.sch_word.specs.trees.Bindings.{Bindings, bound_to, numbers}
use Rattle.sch_word.specs.runs.Orders.{order_or_none}
use Rattle.sch_word.proofs.Walking.{next_left}
use Rattle.sch_flat.specs.declared.tree.Exp.{Exp}
use Rattle.sch_flat.specs.declared.tree.Body as body
use Rattle.sch_flat.specs.Tree.{Tree, Trees, Body, constant, literal, variable, global, set_global, define, branch, sequence, bind, make_closure, fix_closures, call, operation, new_cells, cell_get, cell_set, no_trees, and_tree, count}
use Rattle.sch_flat.specs.View as view
use Rattle.sch_flat.specs.View.{tree, trees_of}
use Rattle.sch_flat.proofs.Rows.{trees_of_list}
use Rattle.sch_anf_laws.specs.Normal.{bound_places, operator_place, bound_rows, bound_rows_each, bound_rows_bodies}
use Rattle.sch_anf.specs.Placed.{placed, placed_each, placed_bodies}
use Rattle.sch_anf_laws.proofs.Items.{left}
use Rattle.sch_word.proofs.facts.NumberTests.{differ}
use Rattle.sch_word.proofs.facts.Lists.{turn_back}

-- ## Places

module _ (items : List Exp) (i : ℕ) (e : Exp) (l : i < length items) (is : e ≡ get_or items i e) where
  pub places_turn : (place place' : ℕ) (all all' : List ℕ) (whole : List ℕ → List ℕ) → place' ≡ place + 1
      → ((last : List ℕ) → all' ++ last ≡ all ++ bound_places place (and_tree (tree e) no_trees) last)
      → ((last : List ℕ) → all ++ bound_places place (left (drop i items)) last ≡ whole last) → (last : List ℕ) → all' ++ bound_places place' (left (drop (i + 1) items)) last ≡ whole last
  places_turn place place' all all' whole p h k last =
      let p' : place' ≡ suc place = omega (arith, p) in
      rw (p', add-one) (h (bound_places (suc place) (left (drop (suc i) items)) last) ∙ next_left items i (λ r. all ++ bound_places place (left r) last ≡ whole last) e l is (k last))

pub places_end : (items : List Exp) (i place : ℕ) (all : List ℕ) (whole : List ℕ → List ℕ) → length items ≤ i
    → ((last : List ℕ) → all ++ bound_places place (left (drop i items)) last ≡ whole last) → (last : List ℕ) → all ++ last ≡ whole last
places_end items i place all whole l h last = let t = rw (drop_all i items l) at (h last) in t

pub numbers_turn : (all all' whole : List ℕ) (place n : ℕ) → place < n → all' ≡ all ++ place ∷ [] → all ++ numbers place (n - place) ≡ whole → all' ++ numbers (place + 1) (n - (place + 1)) ≡ whole
numbers_turn all all' whole place n l h k =
    let m : n - place ≡ suc (n - (place + 1)) = omega (arith, l) in
    let k' : all ++ numbers place (suc (n - (place + 1))) ≡ whole = subst (λ j. all ++ numbers place j ≡ whole) m k in
    rw (h, append_assoc all (place ∷ []) (numbers (place + 1) (n - (place + 1)))) (ap (λ j. all ++ place ∷ numbers j (n - (place + 1))) (omega arith) ∙ k')

pub numbers_end : (all whole : List ℕ) (place n : ℕ) → n ≤ place → all ++ numbers place (n - place) ≡ whole → all ≡ whole
numbers_end all whole place n l k =
    let m : n - place ≡ 0 = omega (arith, l) in
    sym (append-nil all) ∙ subst (λ j. all ++ numbers place j ≡ whole) m k

-- the places of a call
pub call_is : (f : Tree) (es : Trees) (none all all' : List ℕ) → none ≡ [] → ((last : List ℕ) → all ++ last ≡ none ++ bound_places 1 es last)
    → ((last : List ℕ) → all' ++ last ≡ all ++ bound_places 0 (and_tree f no_trees) last) → all' ≡ bound_places 1 es (operator_place f)
call_is f es none all all' e h k = sym (append-nil all') ∙ k [] ∙ h (operator_place f) ∙ ap (λ l. l ++ bound_places 1 es (operator_place f)) e

pub operation_is : (es : Trees) (none all : List ℕ) → none ≡ [] → ((last : List ℕ) → all ++ last ≡ none ++ bound_places 0 es last) → all ≡ bound_places 0 es []
operation_is es none all e h = sym (append-nil all) ∙ h [] ∙ ap (λ l. l ++ bound_places 0 es []) e

pub set_beyond : {A : Type 0} (xs : List A) (i : ℕ) (v : A) → length xs ≤ i → set xs i v ≡ xs
set_beyond [] i v l = refl
set_beyond (x ∷ xs) zero v l = absurd (omega (arith, l))
set_beyond (x ∷ xs) (suc i) v l = ap (λ r. x ∷ r) (set_beyond xs i v (omega (arith, l)))

-- one more of the same
pub replicate_turn : {A : Type 0} (x y : A) (xs xs' : List A) (n : ℕ) → y ≡ x → xs' ≡ xs ++ y ∷ [] → xs ≡ replicate n x → xs' ≡ replicate (n + 1) x
replicate_turn x y xs xs' n e p h = p ∙ ap (λ r. xs ++ r ∷ []) e ∙ ap (λ r. r ++ x ∷ []) h ∙ replicate-append-replicate n 1 x

-- ## From the last to the first

each_last : (ps : List Exp) (e : Exp) (table : List (List ℕ)) → placed_each (left (ps ++ e ∷ [])) table ≡ placed_each (left ps) (placed (tree e) table)
each_last [] e table = refl
each_last (a ∷ ps) e table = ap (placed (tree a)) (each_last ps e table)

bodies_last : (ps : List body.Body) (b : body.Body) (table : List (List ℕ)) → placed_bodies (map view.body (ps ++ b ∷ [])) table ≡ placed_bodies (map view.body ps) (placed (tree b.code) table)
bodies_last [] b table = refl
bodies_last (a ∷ ps) b table = ap (placed (tree a.code)) (bodies_last ps b table)

pub each_back : (items : List Exp) (n : ℕ) (e : Exp) (r r' whole : List (List ℕ)) → 0 < n → n ≤ length items → e ≡ get_or items (n - 1) e → r' ≡ placed (tree e) r
    → placed_each (left (take n items)) r ≡ whole → placed_each (left (take (n - 1) items)) r' ≡ whole
each_back = turn_back (λ ps r. placed_each (left ps) r) (λ a r. placed (tree a) r) each_last

pub bodies_back : (items : List body.Body) (n : ℕ) (e : body.Body) (r r' whole : List (List ℕ)) → 0 < n → n ≤ length items → e ≡ get_or items (n - 1) e → r' ≡ placed (tree e.code) r
    → placed_bodies (map view.body (take n items)) r ≡ whole → placed_bodies (map view.body (take (n - 1) items)) r' ≡ whole
bodies_back = turn_back (λ ps r. placed_bodies (map view.body ps) r) (λ a r. placed (tree a.code) r) bodies_last

pub each_whole : (items : List Exp) → left (take (length items) items) ≡ trees_of items
each_whole items = ap left (take-length items) ∙ sym (trees_of_list items)

pub bodies_whole : (items : List body.Body) → map view.body (take (length items) items) ≡ map view.body items
bodies_whole items = ap (map view.body) (take-length items)

-- ## The table

-- rows in a table, of which the first of a site is set last
abbrev recorded : Bindings (List ℕ) → List (List ℕ) → List (List ℕ)
recorded [] table = table
recorded (row ∷ rows) table = set (recorded rows table) row.0 row.1

recorded_append : (rows more : Bindings (List ℕ)) (table : List (List ℕ)) → recorded (rows ++ more) table ≡ recorded rows (recorded more table)
recorded_append [] more table = refl
recorded_append (row ∷ rows) more table = ap (λ t. set t row.0 row.1) (recorded_append rows more table)

mutual
  placed_is : (e : Tree) (table : List (List ℕ)) → placed e table ≡ recorded (bound_rows e) table
  placed_is (constant c) table = refl
  placed_is (literal k) table = refl
  placed_is (variable v) table = refl
  placed_is (global g) table = refl
  placed_is (set_global g e) table = placed_is e table
  placed_is (define g e) table = placed_is e table
  placed_is (branch a b c) table =
      placed_is a (placed b (placed c table)) ∙ ap (recorded (bound_rows a))
      (placed_is b (placed c table) ∙ ap (recorded (bound_rows b)) (placed_is c table) ∙ sym (recorded_append (bound_rows b) (bound_rows c) table))
      ∙ sym (recorded_append (bound_rows a) (bound_rows b ++ bound_rows c) table)
  placed_is (sequence es) table = each_is es table
  placed_is (bind site first es e) table =
      ap (λ t. set t site (numbers 0 (count es))) (each_is es (placed e table) ∙ ap (recorded (bound_rows_each es)) (placed_is e table)
      ∙ sym (recorded_append (bound_rows_each es) (bound_rows e) table))
  placed_is (make_closure m) table = refl
  placed_is (fix_closures first ms e) table = placed_is e table
  placed_is (call site spread f es) table =
      ap (λ t. set t site (bound_places 1 es (operator_place f)))
      (placed_is f (placed_each es table) ∙ ap (recorded (bound_rows f)) (each_is es table) ∙ sym (recorded_append (bound_rows f) (bound_rows_each es) table))
  placed_is (operation site which es) table = ap (λ t. set t site (bound_places 0 es [])) (each_is es table)
  placed_is (new_cells cs e) table = placed_is e table
  placed_is (cell_get v) table = refl
  placed_is (cell_set v e) table = placed_is e table

  each_is : (es : Trees) (table : List (List ℕ)) → placed_each es table ≡ recorded (bound_rows_each es) table
  each_is no_trees table = refl
  each_is (and_tree e es) table = placed_is e (placed_each es table) ∙ ap (recorded (bound_rows e)) (each_is es table) ∙ sym (recorded_append (bound_rows e) (bound_rows_each es) table)

bodies_are : (bs : List Body) (table : List (List ℕ)) → placed_bodies bs table ≡ recorded (bound_rows_bodies bs) table
bodies_are [] table = refl
bodies_are (b ∷ bs) table = placed_is b.code (placed_bodies bs table) ∙ ap (recorded (bound_rows b.code)) (bodies_are bs table) ∙ sym (recorded_append (bound_rows b.code) (bound_rows_bodies bs) table)

same_from : {A : Type 0} (f g : ℕ → A) (s x n : ℕ) → s < x → ((y : ℕ) → (y ≡ s → ⊥) → g y ≡ f y) → map f (numbers x n) ≡ map g (numbers x n)
same_from f g s x zero l h = refl
same_from f g s x (suc n) l h = rw (h x (λ e. omega (arith, e, l))) (ap (λ r. f x ∷ r) (same_from f g s (suc x) n (omega (arith, l)) h))

set_number : {A : Type 0} (f g : ℕ → A) (s x n k : ℕ) (v : A) → s ≡ x + k → g s ≡ v → ((y : ℕ) → (y ≡ s → ⊥) → g y ≡ f y) → set (map f (numbers x n)) k v ≡ map g (numbers x n)
set_number f g s x zero k v p q h = refl
set_number f g s x (suc n) zero v p q h =
    let e : x ≡ s = omega (arith, p) in
    rw (ap g e ∙ q) (ap (λ r. v ∷ r) (same_from f g s (suc x) n (omega (arith, e)) h))
set_number f g s x (suc n) (suc k) v p q h = rw (h x (λ e. omega (arith, e, p))) (ap (λ r. f x ∷ r) (set_number f g s (suc x) n k v (omega (arith, p)) q h))

none_bound : (x n : ℕ) → replicate {A = List ℕ} n [] ≡ map (λ site. []) (numbers x n)
none_bound x zero = refl
none_bound x (suc n) = ap (λ r. [] ∷ r) (none_bound (suc x) n)

recorded_is : (rows : Bindings (List ℕ)) (n : ℕ) → recorded rows (replicate n []) ≡ map (λ site. order_or_none (bound_to site rows)) (numbers 0 n)
recorded_is [] n = none_bound 0 n
recorded_is (row ∷ rows) n =
    ap (λ t. set t row.0 row.1) (recorded_is rows n)
    ∙ set_number (λ site. order_or_none (bound_to site rows)) (λ site. order_or_none (bound_to site (row ∷ rows))) row.0 0 n row.0 row.1 (omega arith)
    (rw (eq-eqb row.0 row.0 refl) refl) (λ y d. rw (differ y row.0 d) refl)

-- the table of a program
pub bound_is : (bodies : List Body) (forms : Trees) (n : ℕ)
    → placed_bodies bodies (placed_each forms (replicate n [])) ≡ map (λ site. order_or_none (bound_to site (bound_rows_bodies bodies ++ bound_rows_each forms))) (numbers 0 n)
bound_is bodies forms n =
    bodies_are bodies (placed_each forms (replicate n [])) ∙ ap (recorded (bound_rows_bodies bodies)) (each_is forms (replicate n []))
    ∙ sym (recorded_append (bound_rows_bodies bodies) (bound_rows_each forms) (replicate n [])) ∙ recorded_is (bound_rows_bodies bodies ++ bound_rows_each forms) n
