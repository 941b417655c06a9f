-- The turns of the loops that find free variables.
use Rattle.std.proofs.Common.{◌≡◌, ℕ, zero, suc, ◌+◌, ◌-◌, ◌<◌, ◌≤◌, Bool, true, false, List, [], ◌∷◌, ◌++◌, length, reverse, drop, take, get_or, refl, sym, ap, ◌∙◌, arith, add-one, append_assoc}
use Rattle.std.specs.Prelude.{nat_eq, nat_lt, nat_le, ◌||◌}
use Rattle.std.proofs.lemmas.Bool.{eq-eqb, lt-ltb, leb-true}
use Rattle.std.proofs.Math.Dec.{leb-suc-zero, leb-suc-suc}
use Rattle.std.proofs.lemmas.List.{reverse-append, drop_all, get_or_default}
use Rattle.std.proofs.Math.Seq.{take-length}
use Rattle.sch_word.specs.trees.NumberSets.{has, unless, union}
use Rattle.sch_word.specs.trees.Bindings.{numbers, remove, without}
use Rattle.sch_word.proofs.Walking.{next_left}
use Rattle.sch_cells.specs.declared.tree.Exp.{Exp}
use Rattle.sch_cells.specs.declared.tree.Lambda.{Lambda}
use Rattle.sch_cells.specs.declared.tree.NewCell.{NewCell}
use Rattle.sch_cells.specs.View.{tree, trees_of, lambdas_of}
use Rattle.sch_cells.proofs.Rows.{trees_of_list, lambdas_of_list, left, left_lambdas}
use Rattle.sch_cells.specs.Variables.{and_some, without_each}
use Rattle.sch_closure.specs.Found.{found, found_cells, found_each, found_lambdas, fields_found, fields_of_each, fields_of_lambdas}
use Rattle.sch_word.proofs.facts.NumberTests.{differ}
use Rattle.sch_word.proofs.facts.Lists.{reverse_cons, turn_back}

-- ## Numbers

in_group : (f c k : ℕ) → has (f + k) (numbers f c) ≡ nat_lt k c
in_group f zero k = sym (leb-suc-zero k)
in_group f (suc c) zero = rw (eq-eqb (f + 0) f (omega arith), lt-ltb 0 (suc c) (omega arith)) refl
in_group f (suc c) (suc k) =
    let p : f + suc k ≡ suc f + k = omega arith in
    ap (λ b. b || has (f + suc k) (numbers (suc f) c)) (differ (f + suc k) f (λ e. omega (arith, e)))
    ∙ ap (λ y. has y (numbers (suc f) c)) p ∙ in_group (suc f) c k ∙ sym (leb-suc-suc (suc k) c)

pub from_group : (x f c : ℕ) → f ≤ x → nat_lt (x - f) c ≡ has x (numbers f c)
from_group x f c l =
    let p : f + (x - f) ≡ x = omega (arith, l) in
    sym (in_group f c (x - f)) ∙ ap (λ y. has y (numbers f c)) p

pub compared : (f x : ℕ) → x < f → nat_le f x ≡ false
compared f x l = go (nat_le f x) refl
  where
    go : (b : Bool) → nat_le f x ≡ b → b ≡ false
    go true e = absurd (omega (arith, leb-true f x e, l))
    go false e = refl

-- ## Variables that are left out

remove_append : (y : ℕ) (ps qs : List ℕ) → remove y (ps ++ qs) ≡ remove y ps ++ remove y qs
remove_append y [] qs = refl
remove_append y (a ∷ ps) qs = go (nat_eq a y) (remove_append y ps qs)
  where
    go : (b : Bool) → remove y (ps ++ qs) ≡ remove y ps ++ remove y qs → unless b a (remove y (ps ++ qs)) ≡ unless b a (remove y ps) ++ remove y qs
    go true h = h
    go false h = ap (λ l. a ∷ l) h

pub without_append : (f c : ℕ) (ps qs : List ℕ) → without f c (ps ++ qs) ≡ without f c ps ++ without f c qs
without_append f zero ps qs = refl
without_append f (suc c) ps qs = rw (without_append (suc f) c ps qs) (remove_append f (without (suc f) c ps) (without (suc f) c qs))

pub without_each_append : (ys ps qs : List ℕ) → without_each ys (ps ++ qs) ≡ without_each ys ps ++ without_each ys qs
without_each_append [] ps qs = refl
without_each_append (y ∷ ys) ps qs = rw (without_each_append ys ps qs) (remove_append y (without_each ys ps) (without_each ys qs))

remove_one : (y x : ℕ) (c : Bool) → remove y (unless c x []) ≡ unless (nat_eq x y || c) x []
remove_one y x true = go (nat_eq x y)
  where
    go : (b : Bool) → [] ≡ unless (b || true) x []
    go true = refl
    go false = refl
remove_one y x false = go (nat_eq x y)
  where
    go : (b : Bool) → unless b x [] ≡ unless (b || false) x []
    go true = refl
    go false = refl

pub without_one : (f c x : ℕ) → without f c (x ∷ []) ≡ unless (has x (numbers f c)) x []
without_one f zero x = refl
without_one f (suc c) x = rw (without_one (suc f) c x) (remove_one f x (has x (numbers (suc f) c)))

pub without_each_one : (ys : List ℕ) (x : ℕ) → without_each ys (x ∷ []) ≡ unless (has x ys) x []
without_each_one [] x = refl
without_each_one (y ∷ ys) x = rw (without_each_one ys x) (remove_one y x (has x ys))

module _ (W : List ℕ → List ℕ) (bound : List ℕ) (over : (ps qs : List ℕ) → W (ps ++ qs) ≡ W ps ++ W qs) (one : (x : ℕ) → W (x ∷ []) ≡ unless (has x bound) x []) where
  turn : (xs : List ℕ) (i x : ℕ) (ys whole : List ℕ) → i < length xs → x ≡ get_or xs i x → W (reverse (drop i xs)) ++ reverse ys ≡ whole
      → W (reverse (drop (suc i) xs)) ++ (W (x ∷ []) ++ reverse ys) ≡ whole
  turn xs i x ys whole l is k =
      sym (append_assoc (W (reverse (drop (suc i) xs))) (W (x ∷ [])) (reverse ys))
      ∙ ap (λ r. r ++ reverse ys) (sym (over (reverse (drop (suc i) xs)) (x ∷ [])))
      ∙ ap (λ r. W r ++ reverse ys) (sym (reverse_cons x (drop (suc i) xs)))
      ∙ next_left xs i (λ r. W (reverse r) ++ reverse ys ≡ whole) x l is k

  pub stays : (xs : List ℕ) (i : ℕ) (ys ys' whole : List ℕ) → i < length xs → has (get_or xs i 0) bound ≡ false → ys' ≡ ys ++ get_or xs i 0 ∷ [] → W (reverse (drop i xs)) ++ reverse ys ≡ whole
      → W (reverse (drop (i + 1) xs)) ++ reverse ys' ≡ whole
  stays xs i ys ys' whole l e h k =
      let x = get_or xs i 0 in
      let t = rw (one x, e) at (turn xs i x ys whole l (get_or_default xs i 0 x l) k) in
      rw (h, add-one, reverse-append ys (x ∷ [])) t

  pub goes : (xs : List ℕ) (i : ℕ) (ys ys' whole : List ℕ) → i < length xs → has (get_or xs i 0) bound ≡ true → ys' ≡ ys → W (reverse (drop i xs)) ++ reverse ys ≡ whole
      → W (reverse (drop (i + 1) xs)) ++ reverse ys' ≡ whole
  goes xs i ys ys' whole l e h k =
      let x = get_or xs i 0 in
      let t = rw (one x, e) at (turn xs i x ys whole l (get_or_default xs i 0 x l) k) in
      rw (h, add-one) t

pub none_left : (W : List ℕ → List ℕ) (xs : List ℕ) (i : ℕ) (ys whole : List ℕ) → length xs ≤ i → W [] ≡ [] → W (reverse (drop i xs)) ++ reverse ys ≡ whole → reverse ys ≡ whole
none_left W xs i ys whole l e k = let k' = rw (drop_all i xs l, e) at k in k'

-- ## From the last to the first

cells_last : (ps : List NewCell) (c : NewCell) (xs : List ℕ) → found_cells (ps ++ c ∷ []) xs ≡ found_cells ps (and_some c.content xs)
cells_last [] c xs = refl
cells_last (a ∷ ps) c xs = ap (and_some a.content) (cells_last ps c xs)

each_last : (ps : List Exp) (e : Exp) (xs : List ℕ) → found_each (left (ps ++ e ∷ [])) xs ≡ found_each (left ps) (found (tree e) xs)
each_last [] e xs = refl
each_last (a ∷ ps) e xs = ap (found (tree a)) (each_last ps e xs)

each_fields_last : (ps : List Exp) (e : Exp) (all : List (List ℕ)) → fields_of_each (left (ps ++ e ∷ [])) all ≡ fields_of_each (left ps) (fields_found (tree e) all)
each_fields_last [] e all = refl
each_fields_last (a ∷ ps) e all = ap (fields_found (tree a)) (each_fields_last ps e all)

-- what a lambda adds
abbrev pub found_lambda : Lambda → List ℕ → List ℕ
found_lambda l xs = union (without l.first l.formals (found (tree l.body) [])) xs

abbrev pub fields_of_lambda : Lambda → List (List ℕ) → List (List ℕ)
fields_of_lambda l all = without l.first l.formals (found (tree l.body) []) ∷ fields_found (tree l.body) all

lambdas_last : (ps : List Lambda) (e : Lambda) (xs : List ℕ) → found_lambdas (left_lambdas (ps ++ e ∷ [])) xs ≡ found_lambdas (left_lambdas ps) (found_lambda e xs)
lambdas_last [] e xs = refl
lambdas_last (a ∷ ps) e xs = ap (found_lambda a) (lambdas_last ps e xs)

lambdas_fields_last : (ps : List Lambda) (e : Lambda) (all : List (List ℕ)) → fields_of_lambdas (left_lambdas (ps ++ e ∷ [])) all ≡ fields_of_lambdas (left_lambdas ps) (fields_of_lambda e all)
lambdas_fields_last [] e all = refl
lambdas_fields_last (a ∷ ps) e all = ap (fields_of_lambda a) (lambdas_fields_last ps e all)

pub cells_turn : (items : List NewCell) (n : ℕ) (a : NewCell) (r r' whole : List ℕ) → 0 < n → n ≤ length items → a ≡ get_or items (n - 1) a → r' ≡ and_some a.content r
    → found_cells (take n items) r ≡ whole → found_cells (take (n - 1) items) r' ≡ whole
cells_turn = turn_back found_cells (λ a r. and_some a.content r) cells_last

pub cells_back : (cs : List NewCell) (n : ℕ) (d : NewCell) (r r' whole : List ℕ) → 0 < n → n ≤ length cs → r' ≡ and_some (get_or cs (n - 1) d).content r → found_cells (take n cs) r ≡ whole
    → found_cells (take (n - 1) cs) r' ≡ whole
cells_back cs n d r r' whole l b h k = cells_turn cs n (get_or cs (n - 1) d) r r' whole l b (get_or_default cs (n - 1) d (get_or cs (n - 1) d) (omega (arith, l, b))) h k

pub each_turn : (items : List Exp) (n : ℕ) (a : Exp) (r r' whole : List ℕ) → 0 < n → n ≤ length items → a ≡ get_or items (n - 1) a → r' ≡ found (tree a) r
    → found_each (left (take n items)) r ≡ whole → found_each (left (take (n - 1) items)) r' ≡ whole
each_turn = turn_back (λ ps r. found_each (left ps) r) (λ a r. found (tree a) r) each_last

pub each_fields_turn : (items : List Exp) (n : ℕ) (a : Exp) (r r' whole : List (List ℕ)) → 0 < n → n ≤ length items → a ≡ get_or items (n - 1) a → r' ≡ fields_found (tree a) r
    → fields_of_each (left (take n items)) r ≡ whole → fields_of_each (left (take (n - 1) items)) r' ≡ whole
each_fields_turn = turn_back (λ ps r. fields_of_each (left ps) r) (λ a r. fields_found (tree a) r) each_fields_last

pub lambdas_turn : (items : List Lambda) (n : ℕ) (a : Lambda) (r r' whole : List ℕ) → 0 < n → n ≤ length items → a ≡ get_or items (n - 1) a → r' ≡ found_lambda a r
    → found_lambdas (left_lambdas (take n items)) r ≡ whole → found_lambdas (left_lambdas (take (n - 1) items)) r' ≡ whole
lambdas_turn = turn_back (λ ps r. found_lambdas (left_lambdas ps) r) found_lambda lambdas_last

pub lambdas_fields_turn : (items : List Lambda) (n : ℕ) (a : Lambda) (r r' whole : List (List ℕ)) → 0 < n → n ≤ length items → a ≡ get_or items (n - 1) a → r' ≡ fields_of_lambda a r
    → fields_of_lambdas (left_lambdas (take n items)) r ≡ whole → fields_of_lambdas (left_lambdas (take (n - 1) items)) r' ≡ whole
lambdas_fields_turn = turn_back (λ ps r. fields_of_lambdas (left_lambdas ps) r) fields_of_lambda lambdas_fields_last

pub each_whole : (items : List Exp) → left (take (length items) items) ≡ trees_of items
each_whole items = ap left (take-length items) ∙ sym (trees_of_list items)

pub lambdas_whole : (items : List Lambda) → left_lambdas (take (length items) items) ≡ lambdas_of items
lambdas_whole items = ap left_lambdas (take-length items) ∙ sym (lambdas_of_list items)
