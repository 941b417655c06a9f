-- The turns of the loops that make flat trees.
use Rattle.std.proofs.Common.{◌≡◌, ℕ, zero, suc, ◌+◌, ◌<◌, ◌≤◌, Bool, List, [], ◌∷◌, ◌++◌, length, map, drop, get_or, refl, sym, ap, ◌∙◌, subst, arith, add-one, append_assoc, append-nil, length-append}
use Rattle.std.specs.Prelude.{cond, nat_eq, slice_get, slice_set, Some}
use Rattle.std.proofs.lemmas.List.{drop_all, get_or_default, map-append, length-set}
use Rattle.std.proofs.lemmas.Bool.{eq-eqb}
use Rattle.sch_word.specs.trees.Walk.{onto}
use Rattle.sch_word.proofs.Walking.{next_made, next_count, next_left, end_made}
use Rattle.sch_cells.specs.declared.tree.Exp.{Exp}
use Rattle.sch_cells.specs.declared.tree.Lambda.{Lambda}
use Rattle.sch_cells.specs.Tree.{Tree, Trees, Lambdas}
use Rattle.sch_cells.specs.Tree as from_tree
use Rattle.sch_cells.specs.View as from
use Rattle.sch_cells.specs.View.{tree}
use Rattle.sch_cells.proofs.Rows.{trees_of_list, lambdas_of_list, left, left_lambdas}
use Rattle.sch_flat.specs.declared.tree.Exp as to
use Rattle.sch_flat.specs.declared.tree.Made as to_made
use Rattle.sch_flat.specs.declared.tree.Body as to_body
use Rattle.sch_flat.specs.Tree as flat
use Rattle.sch_flat.specs.Tree.{and_tree, no_trees}
use Rattle.sch_flat.specs.View as view
use Rattle.sch_flat.proofs.Rows as rows
use Rattle.sch_closure.specs.Closed as closing
use Rattle.sch_closure.specs.Closed.{place_from, fields_of, procedures, procedures_each, procedures_lambdas, captured, closed, closed_each, made, made_each, starts}
use Rattle.sch_closure.specs.Fresh.{EachStands, LambdasStand}
use Rattle.sch_closure.specs.Walked.{with_bodies, with_bodies_each, with_bodies_lambdas, Closes, ClosesEach, ClosesLambda, ClosesLambdas}
use Rattle.sch_closure.proofs.Walks.{body_set}
use Rattle.sch_word.proofs.facts.NumberTests.{differ}
use Rattle.sch_word.proofs.facts.Lists.{map_length, some_same}

-- ## Places

module _ (fields : List ℕ) (k x : ℕ) (whole : flat.Variable) (l : k < length fields) where
  place_turn : place_from k (drop k fields) x ≡ whole → cond (nat_eq x (get_or fields k 0)) (flat.free k) (place_from (suc k) (drop (suc k) fields) x) ≡ whole
  place_turn h = next_left fields k (λ r. place_from k r x ≡ whole) (get_or fields k 0) l (get_or_default fields k 0 (get_or fields k 0) l) h

  pub place_here : x ≡ get_or fields k 0 → place_from k (drop k fields) x ≡ whole → flat.free k ≡ whole
  place_here e h = let t = rw (eq-eqb x (get_or fields k 0) e) at (place_turn h) in t

  pub place_next : (x ≡ get_or fields k 0 → ⊥) → place_from k (drop k fields) x ≡ whole → place_from (k + 1) (drop (k + 1) fields) x ≡ whole
  place_next e h = let t = rw (differ x (get_or fields k 0) e) at (place_turn h) in rw add-one t

pub place_none : (fields : List ℕ) (k x : ℕ) (whole : flat.Variable) → length fields ≤ k → place_from k (drop k fields) x ≡ whole → flat.bound x ≡ whole
place_none fields k x whole l h = let t = rw (drop_all k fields l) at h in t

-- ## Lists of what is made of each item

module _ {A B C : Type 0} (f : A → C) (g : B → C) (items : List A) (i : ℕ) (d : A) (all : List B) (whole : List C) where
  pub mapped_next : (b : B) → i < length items → g b ≡ f (get_or items i d) → map g all ++ map f (drop i items) ≡ whole → map g (all ++ b ∷ []) ++ map f (drop (i + 1) items) ≡ whole
  mapped_next b l h k =
      let a = get_or items i d in
      rw (add-one, map-append g all (b ∷ []), append_assoc (map g all) (g b ∷ []) (map f (drop (suc i) items)), h)
      (next_left items i (λ r. map g all ++ map f r ≡ whole) a l (get_or_default items i d a l) k)

pub mapped_end : {A B C : Type 0} (f : A → C) (g : B → C) (items : List A) (i : ℕ) (all : List B) (whole : List C) → length items ≤ i → map g all ++ map f (drop i items) ≡ whole → map g all ≡ whole
mapped_end f g items i all whole l k = let t = rw (drop_all i items l, append-nil (map g all)) at k in t

-- ## Trees

abbrev pub and_then : to.Exp → flat.Trees → flat.Trees
and_then q rest = and_tree (view.tree q) rest

onto_trees : (qs : List to.Exp) → flat.trees (map view.tree qs) ≡ onto and_then qs no_trees
onto_trees [] = refl
onto_trees (q ∷ qs) = ap (and_tree (view.tree q)) (onto_trees qs)

pub trees_onto : (qs : List to.Exp) → view.trees_of qs ≡ onto and_then qs no_trees
trees_onto qs = rows.trees_of_list qs ∙ onto_trees qs

abbrev pub and_then_made : to_made.Made → List flat.Made → List flat.Made
and_then_made m rest = view.made m ∷ rest

pub made_onto : (ms : List to_made.Made) → map view.made ms ≡ onto and_then_made ms []
made_onto [] = refl
made_onto (m ∷ ms) = ap (λ l. view.made m ∷ l) (made_onto ms)

-- A turn over expressions: n bodies before it and m after it.
module _ (items : List Exp) (i : ℕ) (e : Exp) (n m : ℕ) (l : i < length items) (is : e ≡ get_or items i e) (g : m ≡ n + procedures (tree e)) where
  pub each_made : (own : List ℕ) (all : List to.Exp) (q : to.Exp) (whole : flat.Trees) → view.tree q ≡ closed (tree e) own n → onto and_then all (closed_each (left (drop i items)) own n) ≡ whole
      → onto and_then (all ++ q ∷ []) (closed_each (left (drop (i + 1) items)) own m) ≡ whole
  each_made own all q whole h k = next_made items i and_then (λ es x. closed_each (left es) own x) all e q n m whole l is (rw (h, g) refl) k

  pub each_bodies : (d d' whole : List flat.Body) → d' ≡ with_bodies (tree e) d → with_bodies_each (left (drop i items)) d ≡ whole → with_bodies_each (left (drop (i + 1) items)) d' ≡ whole
  each_bodies d d' whole h k = rw (add-one, h) (next_left items i (λ r. with_bodies_each (left r) d ≡ whole) e l is k)

  pub each_count : (total : ℕ) → n + procedures_each (left (drop i items)) ≡ total → m + procedures_each (left (drop (i + 1) items)) ≡ total
  each_count total k = rw g (next_count items i (λ es. procedures_each (left es)) e n (procedures (tree e)) total l is refl k)

  pub each_stand : (table : List (List ℕ)) → EachStands captured table (left (drop i items)) n → EachStands captured table (left (drop (i + 1) items)) m
  each_stand table k = rw (add-one, g) (next_left items i (λ r. EachStands captured table (left r) n) e l is k).1

  pub each_starts : (before before' whole : List ℕ) → before' ≡ before ++ n ∷ [] → before ++ starts (left (drop i items)) n ≡ whole → before' ++ starts (left (drop (i + 1) items)) m ≡ whole
  each_starts before before' whole h k =
      rw (h, add-one, g, append_assoc before (n ∷ []) (starts (left (drop (suc i) items)) (n + procedures (tree e))))
      (next_left items i (λ r. before ++ starts (left r) n ≡ whole) e l is k)

module _ (items : List Lambda) (i : ℕ) (e : Lambda) (n m : ℕ) (l : i < length items) (is : e ≡ get_or items i e) (g : m ≡ n + suc (procedures (tree e.body))) where
  after : m ≡ suc n + procedures (tree e.body)
  after = omega (arith, g)

  pub lambdas_made : (own : List ℕ) (all : List to_made.Made) (q : to_made.Made) (whole : List flat.Made) → view.made q ≡ made e.first e.formals (tree e.body) own n
      → onto and_then_made all (made_each (left_lambdas (drop i items)) own n) ≡ whole
      → onto and_then_made (all ++ q ∷ []) (made_each (left_lambdas (drop (i + 1) items)) own m) ≡ whole
  lambdas_made own all q whole h k = next_made items i and_then_made (λ es x. made_each (left_lambdas es) own x) all e q n m whole l is (rw (h, after) refl) k

  pub lambdas_bodies : (d d' whole : List flat.Body) → d' ≡ with_bodies (tree e.body) (d ++ closing.body_of e.name e.first e.formals e.rest (tree e.body) (length d) ∷ [])
      → with_bodies_lambdas (left_lambdas (drop i items)) d ≡ whole → with_bodies_lambdas (left_lambdas (drop (i + 1) items)) d' ≡ whole
  lambdas_bodies d d' whole h k = rw (add-one, h) (next_left items i (λ r. with_bodies_lambdas (left_lambdas r) d ≡ whole) e l is k)

  pub lambdas_count : (total : ℕ) → n + procedures_lambdas (left_lambdas (drop i items)) ≡ total → m + procedures_lambdas (left_lambdas (drop (i + 1) items)) ≡ total
  lambdas_count total k = rw g (next_count items i (λ es. procedures_lambdas (left_lambdas es)) e n (suc (procedures (tree e.body))) total l is (omega arith) k)

  pub lambdas_stand : (table : List (List ℕ)) → LambdasStand captured table (left_lambdas (drop i items)) n → LambdasStand captured table (left_lambdas (drop (i + 1) items)) m
  lambdas_stand table k = rw (add-one, after) (next_left items i (λ r. LambdasStand captured table (left_lambdas r) n) e l is k).1

-- the start and the end
pub each_start : (items es : List Exp) (table : List (List ℕ)) (n : ℕ) → items ≡ es → EachStands captured table (from.trees_of es) n → EachStands captured table (left items) n
each_start items es table n h k = subst (λ t. EachStands captured table t n) (trees_of_list items) (subst (λ l. EachStands captured table (from.trees_of l) n) (sym h) k)

each_end : (items es : List Exp) (i : ℕ) (own : List ℕ) (n start : ℕ) (all : List to.Exp) → items ≡ es → length items ≤ i
    → onto and_then all (closed_each (left (drop i items)) own n) ≡ closed_each (from.trees_of items) own start
    → view.trees_of all ≡ closed_each (from.trees_of es) own start
each_end items es i own n start all h l k =
    trees_onto all ∙ end_made items i and_then (λ es x. closed_each (left es) own x) all n _ no_trees l refl k ∙ ap (λ l. closed_each (from.trees_of l) own start) h

pub lambdas_start : (items ls : List Lambda) (table : List (List ℕ)) (n : ℕ) → items ≡ ls → LambdasStand captured table (from.lambdas_of ls) n → LambdasStand captured table (left_lambdas items) n
lambdas_start items ls table n h k = subst (λ t. LambdasStand captured table t n) (lambdas_of_list items) (subst (λ l. LambdasStand captured table (from.lambdas_of l) n) (sym h) k)

lambdas_end : (items ls : List Lambda) (i : ℕ) (own : List ℕ) (n start : ℕ) (all : List to_made.Made) → items ≡ ls → length items ≤ i
    → onto and_then_made all (made_each (left_lambdas (drop i items)) own n) ≡ made_each (from.lambdas_of items) own start
    → map view.made all ≡ made_each (from.lambdas_of ls) own start
lambdas_end items ls i own n start all h l k =
    made_onto all ∙ end_made items i and_then_made (λ ls x. made_each (left_lambdas ls) own x) all n _ [] l refl k ∙ ap (λ l. made_each (from.lambdas_of l) own start) h

pub each_closes : (items es : List Exp) (i : ℕ) (own : List ℕ) (before now : List to_body.Body) (all : List to.Exp) → items ≡ es → length items ≤ i
    → onto and_then all (closed_each (left (drop i items)) own (length now)) ≡ closed_each (from.trees_of items) own (length before)
    → with_bodies_each (left (drop i items)) (map view.body now) ≡ with_bodies_each (from.trees_of items) (map view.body before)
    → length now + procedures_each (left (drop i items)) ≡ length before + procedures_each (from.trees_of items)
    → ClosesEach (from.trees_of es) own before now (view.trees_of all)
each_closes items es i own before now all h l m b c =
    let d = rw (drop_all i items l) at b in
    let k = rw (drop_all i items l) at c in
    record {
      made = each_end items es i own (length now) (length before) all h l m;
      bodies = d ∙ ap (λ l. with_bodies_each (from.trees_of l) (map view.body before)) h;
      count = omega (arith, k, ap (λ l. procedures_each (from.trees_of l)) h);
    }

pub lambdas_close : (items ls : List Lambda) (i : ℕ) (own : List ℕ) (before now : List to_body.Body) (all : List to_made.Made) → items ≡ ls → length items ≤ i
    → onto and_then_made all (made_each (left_lambdas (drop i items)) own (length now)) ≡ made_each (from.lambdas_of items) own (length before)
    → with_bodies_lambdas (left_lambdas (drop i items)) (map view.body now) ≡ with_bodies_lambdas (from.lambdas_of items) (map view.body before)
    → length now + procedures_lambdas (left_lambdas (drop i items)) ≡ length before + procedures_lambdas (from.lambdas_of items)
    → ClosesLambdas (from.lambdas_of ls) own before now (map view.made all)
lambdas_close items ls i own before now all h l m b c =
    let d = rw (drop_all i items l) at b in
    let k = rw (drop_all i items l) at c in
    record {
      made = lambdas_end items ls i own (length now) (length before) all h l m;
      bodies = d ∙ ap (λ l. with_bodies_lambdas (from.lambdas_of l) (map view.body before)) h;
      count = omega (arith, k, ap (λ l. procedures_lambdas (from.lambdas_of l)) h);
    }

-- ## A procedure's body

map_set : {A B : Type 0} (f : A → B) (xs : List A) (i : ℕ) (v : A) → map f (slice_set xs i v) ≡ slice_set (map f xs) i (f v)
map_set f [] i v = refl
map_set f (x ∷ xs) zero v = refl
map_set f (x ∷ xs) (suc i) v = ap (λ l. f x ∷ l) (map_set f xs i v)

pub here_is : {A : Type 0} (xs : List A) (i : ℕ) (x v : A) → slice_get xs i ≡ Some v → x ≡ get_or xs i x → x ≡ v
here_is [] i x v h e = absurd (cc)
here_is (y ∷ xs) zero x v h e = e ∙ some_same h
here_is (y ∷ xs) (suc i) x v h e = here_is xs i x v h e

-- the body is put where another stood while what is inside it was made
pub body_made : (e : Tree) (old pushed new : List to_body.Body) (label : ℕ) (blank b : to_body.Body) (whole : ℕ → flat.Body) → pushed ≡ old ++ blank ∷ []
    → map view.body new ≡ with_bodies e (map view.body pushed) → label ≡ length old → view.body b ≡ whole label
    → map view.body (slice_set new label b) ≡ with_bodies e (map view.body old ++ whole (length (map view.body old)) ∷ [])
body_made e old pushed new label blank b whole p q l h =
    let n : label ≡ length (map view.body old) = l ∙ sym (map_length view.body old) in
    map_set view.body new label b
    ∙ ap (λ r. slice_set r label (view.body b)) (q ∙ ap (λ r. with_bodies e (map view.body r)) p ∙ ap (with_bodies e) (map-append view.body old (blank ∷ [])))
    ∙ ap (λ k. slice_set (with_bodies e (map view.body old ++ view.body blank ∷ [])) k (view.body b)) n
    ∙ body_set e (map view.body old) (view.body blank) (view.body b)
    ∙ ap (λ c. with_bodies e (map view.body old ++ c ∷ [])) (h ∙ ap whole n)

pub lambda_closes : (name : List ℕ) (x m : ℕ) (r : Bool) (e : Tree) (own inside : List ℕ) (old pushed new set : List to_body.Body) (n : ℕ) (blank b : to_body.Body) (code : flat.Tree) (taken : List flat.Variable)
    → n ≡ length old → inside ≡ fields_of x m e → pushed ≡ old ++ blank ∷ [] → Closes e inside pushed new code
    → view.body b ≡ record { name = name; first = x; formals = m; rest = r; fields = length inside; code = code }
    → set ≡ slice_set new n b → taken ≡ map (closing.place own) inside
    → ClosesLambda (record { name = name; first = x; formals = m; rest = r; body = e }) own old set (record { label = n; fields = taken })
lambda_closes name x m r e own inside old pushed new set n blank b code taken l i p w v s f =
    let k : length pushed ≡ suc n = ap length p ∙ omega (arith, length-append old (blank ∷ []), l) in
    let h : view.body b ≡ closing.body_of name x m r e n = v ∙ rw (w.made) (rw (i, k) refl) in
    record {
      made = rw (f, i, l) refl;
      bodies = ap (map view.body) s ∙ body_made e old pushed new n blank b (λ k. closing.body_of name x m r e k) p w.bodies l h;
      count = omega (arith, ap length s, length-set new n b, w.count, k, l);
    }

-- ## Labels

abbrev labels_in : List to_made.Made → List ℕ
labels_in ms = map (λ m. m.label) (map view.made ms)

pub label_next : (ms : List to_made.Made) (i : ℕ) (a : to_made.Made) (all whole : List ℕ) → i < length ms → a ≡ get_or ms i a → all ++ labels_in (drop i ms) ≡ whole
    → (all ++ a.label ∷ []) ++ labels_in (drop (i + 1) ms) ≡ whole
label_next ms i a all whole l e k =
    rw (add-one, append_assoc all (a.label ∷ []) (labels_in (drop (suc i) ms))) (next_left ms i (λ r. all ++ labels_in r ≡ whole) a l e k)

pub label_end : (ms : List to_made.Made) (i : ℕ) (all whole : List ℕ) → length ms ≤ i → all ++ labels_in (drop i ms) ≡ whole → all ≡ whole
label_end ms i all whole l k = let t = rw (drop_all i ms l, append-nil all) at k in t

pub labels_made : (ls : Lambdas) (own : List ℕ) (n : ℕ) → map (λ m. m.label) (made_each ls own n) ≡ closing.labels ls n
labels_made from_tree.no_lambdas own n = refl
labels_made (from_tree.and_lambda name x m rest e ls) own n = ap (λ l. n ∷ l) (labels_made ls own (suc n + procedures e))
