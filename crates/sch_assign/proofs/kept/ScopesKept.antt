-- What is made of a tree uses variables only where they are bound.
use Rattle.std.proofs.Common.{◌≡◌, ℕ, zero, suc, ◌+◌, ◌<◌, Bool, true, false, List, [], ◌∷◌, refl, sym, subst, arith}
use Rattle.std.specs.Prelude.{IsTrue, ◌&&◌, ◌||◌, nat_eq}
use Rattle.sch_word.proofs.facts.Booleans.{and_of}
use Rattle.sch_word.specs.trees.NumberSets.{has, unless, insert, In}
use Rattle.sch_word.specs.trees.Bindings.{scope_with, pushed}
use Rattle.sch_cells.specs.declared.tree.NewCell.{NewCell}
use Rattle.sch_cells.specs.Tree.{Tree, Trees, Lambdas, Source, constant, literal, variable, global, set_variable, set_global, define, branch, sequence, bind, fix, letrec, lambda, call, operation, new_cells, cell_get, cell_set, no_trees, and_tree, no_lambdas, and_lambda, count, count_lambdas}
use Rattle.sch_cells.specs.Variables.{cells_bound, cells_used, all_in, closed, closed_each, closed_lambdas}
use Rattle.sch_cells.proofs.Clearing.{in_under}
use Rattle.sch_assign.specs.Converted.{and_cell, cells_for, empty_cells, filling, reading, wrapped, converted, converted_each, converted_lambdas, AllAre, Right, RightEach, RightLambdas}
use Rattle.sch_assign.proofs.Lookups.{Where, inside, outside, where_is, in_outside, in_group}
use Rattle.sch_word.proofs.facts.NumberSets.{in_more, in_deeper}
use Rattle.sch_assign.proofs.Moved.{AllInside, used_inside}
use Rattle.sch_assign.proofs.kept.FreeMoved.{count_same, count_lambdas_same, keys_have, empty_used}
use Rattle.sch_assign.proofs.ConversionIsRight.{IsRight}
use Rattle.sch_word.proofs.facts.NumberTests.{same}

-- ## Scopes with more variables

in_list : (zs : List ℕ) (y : ℕ) (S : List ℕ) → In y zs → In y (pushed zs S)
in_list [] y S i = absurd (cc)
in_list (z ∷ zs) y S i = go (nat_eq y z) refl (in_list zs y (z ∷ S))
  where
    go : (b : Bool) → nat_eq y z ≡ b → (In y zs → In y (pushed zs (z ∷ S))) → In y (pushed zs (z ∷ S))
    go true e k = in_under zs y (z ∷ S) (rw e refl)
    go false e k = let j : (false || has y zs) ≡ true = rw e at i in k j

all_in_insert : (y : ℕ) (ys S : List ℕ) → In y S → IsTrue (all_in ys S) → IsTrue (all_in (insert y ys) S)
all_in_insert y ys S i h = go (has y ys)
  where
    go : (b : Bool) → IsTrue (all_in (unless b y ys) S)
    go true = h
    go false = and_of _ _ i h

all_inside : (x m : ℕ) (ys S : List ℕ) → AllInside x m ys → IsTrue (all_in ys (scope_with x m S))
all_inside x m [] S h = refl
all_inside x m (y ∷ ys) S h = and_of _ _ (subst (λ z. In z (scope_with x m S)) (sym h.0.is) (in_group x m h.0.i S h.0.low)) (all_inside x m ys S h.1)

wrapped_closed : (cs : List NewCell) (e : Tree) (S : List ℕ) → IsTrue (all_in (cells_used cs) S) → IsTrue (closed e (pushed (cells_bound cs) S)) → IsTrue (closed (wrapped cs e) S)
wrapped_closed [] e S u h = h
wrapped_closed (c ∷ cs) e S u h = and_of _ _ u h

filling_closed : (n x m : ℕ) (e : Tree) (S : List ℕ) → ((i : ℕ) → i < m → In (x + i) S) → ((i : ℕ) → i < m → In (x + i + n) S) → IsTrue (closed e S) → IsTrue (closed_each (filling n x m e) S)
filling_closed n x zero e S f g h = and_of _ _ h refl
filling_closed n x (suc m) e S f g h =
    let q : x + 0 ≡ x = omega arith in
    let here : In x S = rw q at (f 0 (omega arith)) in
    let cell : In (x + n) S = rw q at (g 0 (omega arith)) in
    and_of _ _ (and_of _ _ cell here) (filling_closed n (suc x) m e S
    (λ i l. let r : x + suc i ≡ suc x + i = omega arith in rw r at (f (suc i) (omega (arith, l))))
    (λ i l. let r : x + suc i ≡ suc x + i = omega arith in rw r at (g (suc i) (omega (arith, l)))) h)

module _ (has_cell : ℕ → Bool) (n : ℕ) where
  key_there : (x m i z : ℕ) → i < m → z ≡ x + i → has_cell z ≡ true → In (z + n) (cells_bound (cells_for has_cell n x m))
  key_there x zero i z l e a = absurd (omega (arith, l))
  key_there x (suc m) zero z l e a =
      let q : z ≡ x = omega (arith, e) in
      let a' : has_cell x ≡ true = rw q at a in
      rw (q, a') (let s : nat_eq (x + n) (x + n) ≡ true = same (x + n) in rw s refl)
  key_there x (suc m) (suc i) z l e a = go (has_cell x) (key_there (suc x) m i z (omega (arith, l)) (omega (arith, e)) a)
    where
      go : (b : Bool) → In (z + n) (cells_bound (cells_for has_cell n (suc x) m)) → In (z + n) (cells_bound (and_cell n b x (cells_for has_cell n (suc x) m)))
      go true k = in_more (z + n) (x + n) (cells_bound (cells_for has_cell n (suc x) m)) k
      go false k = k

  -- a scope has a variable, or its cell, for each of another scope
  record Covers (S T : List ℕ) : Type 0 where
    plain : (y : ℕ) → In y S → has_cell y ≡ false → In y T
    cell : (y : ℕ) → In y S → has_cell y ≡ true → In (y + n) T

  covers_group : (x m : ℕ) (S T : List ℕ) → Covers S T → Covers (scope_with x m S) (pushed (cells_bound (cells_for has_cell n x m)) (scope_with x m T))
  covers_group x m S T h = record { plain = λ y i a. go y i a (where_is x m y); cell = λ y i a. gone y i a (where_is x m y) }
    where
      go : (y : ℕ) → In y (scope_with x m S) → has_cell y ≡ false → Where x m y → In y (pushed (cells_bound (cells_for has_cell n x m)) (scope_with x m T))
      go y i a (inside j l q) = in_under (cells_bound (cells_for has_cell n x m)) y (scope_with x m T) (subst (λ z. In z (scope_with x m T)) (sym q) (in_group x m j T l))
      go y i a (outside p) = in_under (cells_bound (cells_for has_cell n x m)) y (scope_with x m T) (in_deeper x m y T (h.plain y (in_outside x m y S p i) a))

      gone : (y : ℕ) → In y (scope_with x m S) → has_cell y ≡ true → Where x m y → In (y + n) (pushed (cells_bound (cells_for has_cell n x m)) (scope_with x m T))
      gone y i a (inside j l q) = in_list (cells_bound (cells_for has_cell n x m)) (y + n) (scope_with x m T) (key_there x m j y l q a)
      gone y i a (outside p) = in_under (cells_bound (cells_for has_cell n x m)) (y + n) (scope_with x m T) (in_deeper x m (y + n) T (h.cell y (in_outside x m y S p i) a))

  covers_fix : (x m : ℕ) (S T : List ℕ) → AllAre has_cell n false x m → Covers S T → Covers (scope_with x m S) (scope_with x m T)
  covers_fix x m S T all h = record { plain = λ y i a. go y i a (where_is x m y); cell = λ y i a. gone y i a (where_is x m y) }
    where
      go : (y : ℕ) → In y (scope_with x m S) → has_cell y ≡ false → Where x m y → In y (scope_with x m T)
      go y i a (inside j l q) = subst (λ z. In z (scope_with x m T)) (sym q) (in_group x m j T l)
      go y i a (outside p) = in_deeper x m y T (h.plain y (in_outside x m y S p i) a)

      gone : (y : ℕ) → In y (scope_with x m S) → has_cell y ≡ true → Where x m y → In (y + n) (scope_with x m T)
      gone y i a (inside j l q) = absurd (let b : has_cell (x + j) ≡ false = all.at j l in let c : has_cell (x + j) ≡ true = rw q at a in cc)
      gone y i a (outside p) = in_deeper x m (y + n) T (h.cell y (in_outside x m y S p i) a)

  covers_rec : (x m : ℕ) (S T : List ℕ) → AllAre has_cell n true x m → Covers S T → Covers (scope_with x m S) (pushed (cells_bound (empty_cells n x m)) T)
  covers_rec x m S T all h = record { plain = λ y i a. go y i a (where_is x m y); cell = λ y i a. gone y i a (where_is x m y) }
    where
      go : (y : ℕ) → In y (scope_with x m S) → has_cell y ≡ false → Where x m y → In y (pushed (cells_bound (empty_cells n x m)) T)
      go y i a (inside j l q) = absurd (let b : has_cell (x + j) ≡ true = all.at j l in let c : has_cell (x + j) ≡ false = rw q at a in cc)
      go y i a (outside p) = in_under (cells_bound (empty_cells n x m)) y T (h.plain y (in_outside x m y S p i) a)

      gone : (y : ℕ) → In y (scope_with x m S) → has_cell y ≡ true → Where x m y → In (y + n) (pushed (cells_bound (empty_cells n x m)) T)
      gone y i a (inside j l q) = in_list (cells_bound (empty_cells n x m)) (y + n) T (keys_have has_cell n x m j (y + n) l (omega (arith, q)))
      gone y i a (outside p) = in_under (cells_bound (empty_cells n x m)) (y + n) T (h.cell y (in_outside x m y S p i) a)

  covers_deeper : (x m : ℕ) (S T : List ℕ) → Covers S T → Covers S (scope_with x m T)
  covers_deeper x m S T h = record { plain = λ y i a. in_deeper x m y T (h.plain y i a); cell = λ y i a. in_deeper x m (y + n) T (h.cell y i a) }

  reading_closed : (b : Bool) (x : ℕ) (S T : List ℕ) → has_cell x ≡ b → In x S → Covers S T → IsTrue (closed (reading n b x) T)
  reading_closed true x S T a i h = h.cell x i a
  reading_closed false x S T a i h = h.plain x i a

  mutual
    tree_closed : (e : Tree) (S T : List ℕ) → Right has_cell n e S → Covers S T → IsTrue (closed (converted has_cell n e) T)
    tree_closed (constant c) S T r h = refl
    tree_closed (literal k) S T r h = refl
    tree_closed (variable x) S T r h = reading_closed (has_cell x) x S T refl r h
    tree_closed (global g) S T r h = refl
    tree_closed (set_variable x e) S T r h = and_of _ _ (h.cell x r.1 r.0) (tree_closed e S T r.2 h)
    tree_closed (set_global g e) S T r h = tree_closed e S T r h
    tree_closed (define g e) S T r h = tree_closed e S T r h
    tree_closed (branch a b c) S T r h = and_of _ _ (tree_closed a S T r.0 h) (and_of _ _ (tree_closed b S T r.1 h) (tree_closed c S T r.2 h))
    tree_closed (sequence es) S T r h = each_closed es S T r h
    tree_closed (bind site x es e) S T r h =
        let m = count es in
        rw (count_same has_cell n es) (and_of _ _ (each_closed es S T r.0 h)
        (wrapped_closed (cells_for has_cell n x m) (converted has_cell n e) (scope_with x m T) (all_inside x m (cells_used (cells_for has_cell n x m)) T (used_inside has_cell n x m))
        (tree_closed e (scope_with x m S) (pushed (cells_bound (cells_for has_cell n x m)) (scope_with x m T)) r.3 (covers_group x m S T h))))
    tree_closed (fix x ls e) S T r h =
        let m = count_lambdas ls in
        let g = covers_fix x m S T r.0 h in
        rw (count_lambdas_same has_cell n ls) (and_of _ _ (lambdas_closed ls (scope_with x m S) (scope_with x m T) r.2 g) (tree_closed e (scope_with x m S) (scope_with x m T) r.3 g))
    tree_closed (letrec site x es e) S T r h =
        let m = count es in
        let U = pushed (cells_bound (empty_cells n x m)) T in
        let g = covers_rec x m S T r.0 h in
        rw (empty_used has_cell n x m, count_same has_cell n es)
        (and_of _ _ (each_closed es (scope_with x m S) U r.2 g)
        (filling_closed n x m (converted has_cell n e) (scope_with x m U) (λ i l. in_group x m i U l)
        (λ i l. in_deeper x m (x + i + n) U (in_list (cells_bound (empty_cells n x m)) (x + i + n) T (keys_have has_cell n x m i (x + i + n) l refl)))
        (tree_closed e (scope_with x m S) (scope_with x m U) r.3 (covers_deeper x m (scope_with x m S) U g))))
    tree_closed (lambda name x m rest e) S T r h =
        wrapped_closed (cells_for has_cell n x m) (converted has_cell n e) (scope_with x m T) (all_inside x m (cells_used (cells_for has_cell n x m)) T (used_inside has_cell n x m))
        (tree_closed e (scope_with x m S) (pushed (cells_bound (cells_for has_cell n x m)) (scope_with x m T)) r.2 (covers_group x m S T h))
    tree_closed (call site spread f es) S T r h = and_of _ _ (tree_closed f S T r.0 h) (each_closed es S T r.1 h)
    tree_closed (operation site which es) S T r h = each_closed es S T r h
    tree_closed (new_cells cs e) S T r h = absurd r
    tree_closed (cell_get x) S T r h = absurd r
    tree_closed (cell_set x e) S T r h = absurd r

    each_closed : (es : Trees) (S T : List ℕ) → RightEach has_cell n es S → Covers S T → IsTrue (closed_each (converted_each has_cell n es) T)
    each_closed no_trees S T r h = refl
    each_closed (and_tree e es) S T r h = and_of _ _ (tree_closed e S T r.0 h) (each_closed es S T r.1 h)

    lambdas_closed : (ls : Lambdas) (S T : List ℕ) → RightLambdas has_cell n ls S → Covers S T → IsTrue (closed_lambdas (converted_lambdas has_cell n ls) T)
    lambdas_closed no_lambdas S T r h = refl
    lambdas_closed (and_lambda name x m rest e ls) S T r h =
        and_of _ _
        (wrapped_closed (cells_for has_cell n x m) (converted has_cell n e) (scope_with x m T) (all_inside x m (cells_used (cells_for has_cell n x m)) T (used_inside has_cell n x m))
        (tree_closed e (scope_with x m S) (pushed (cells_bound (cells_for has_cell n x m)) (scope_with x m T)) r.0.2 (covers_group x m S T h)))
        (lambdas_closed ls S T r.1 h)

  pub program_closed : (p : Source) → IsRight has_cell n p → IsTrue (closed_lambdas (converted_lambdas has_cell n p.library) [] && closed_each (converted_each has_cell n p.forms) [])
  program_closed p r =
      let nothing : Covers [] [] = record { plain = λ y i a. absurd (cc); cell = λ y i a. absurd (cc) } in
      and_of _ _ (lambdas_closed p.library [] [] r.library nothing) (each_closed p.forms [] [] r.forms nothing)
