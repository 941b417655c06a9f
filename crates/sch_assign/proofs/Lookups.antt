-- Variables of a group, by their places in it.
use Rattle.std.proofs.Common.{◌≡◌, ℕ, zero, suc, ◌+◌, ◌<◌, Bool, true, false, List, [], ◌∷◌, length, Option, Some, refl, ap, ◌∙◌, arith}
use Rattle.std.specs.Prelude.{nat_eq, slice_get, ◌||◌}
use Rattle.std.proofs.lemmas.Bool.{eqb-true, eq-eqb}
use Rattle.sch_word.specs.trees.NumberSets.{has}
use Rattle.sch_word.specs.values.Values.{Value, cell}
use Rattle.sch_word.specs.runs.Computation.{numbers_from}
use Rattle.sch_word.specs.values.CellBytes.{cells_bytes, where_assigned}
use Rattle.sch_word.specs.trees.Bindings.{Bindings, bound_to, with_variables, scope_with}
use Rattle.sch_cells.specs.Variables.{assigns, cells_of}
use Rattle.sch_cells.specs.Tree.{Tree}
use Rattle.sch_cells.specs.BoxedMeaning.{with_new_cells, contents}
use Rattle.sch_assign.specs.Converted.{and_cell, cells_for, Agree, AllAre, Low, empty_cells}
use Rattle.sch_word.proofs.facts.NumberSets.{in_deeper}
use Rattle.sch_word.proofs.facts.NumberTests.{differ, same as self}

-- y is none of the m from x on
pub record Apart (x m y : ℕ) : Type 0 where
  pub at : (i : ℕ) → i < m → y ≡ x + i → ⊥

pub apart_next : (x m y : ℕ) → Apart x (suc m) y → Apart (suc x) m y
apart_next x m y h = record { at = λ i l e. h.at (suc i) (omega (arith, l)) (omega (arith, e)) }

pub apart_first : (x m y : ℕ) → Apart x (suc m) y → nat_eq y x ≡ false
apart_first x m y h = differ y x (λ e. h.at 0 (omega arith) (omega (arith, e)))

pub data Where (x m y : ℕ) : Type 0 where
  inside : (i : ℕ) → i < m → y ≡ x + i → Where x m y
  outside : Apart x m y → Where x m y

pub where_is : (x m y : ℕ) → Where x m y
where_is x zero y = outside (record { at = λ i l e. absurd (omega (arith, l)) })
where_is x (suc m) y = go (nat_eq y x) refl (where_is (suc x) m y)
  where
    go : (b : Bool) → nat_eq y x ≡ b → Where (suc x) m y → Where x (suc m) y
    go true e w = inside 0 (omega arith) (let q : y ≡ x = eqb-true y x e in omega (arith, q))
    go false e (inside i l q) = inside (suc i) (omega (arith, l)) (omega (arith, q))
    go false e (outside h) = outside (record { at = at })
      where
        at : (i : ℕ) → i < suc m → y ≡ x + i → ⊥
        at zero l q = absurd (let r : nat_eq y x ≡ true = eq-eqb y x (omega (arith, q)) in cc)
        at (suc i) l q = h.at i (omega (arith, l)) (omega (arith, q))

pub in_outside : (x m y : ℕ) (S : List ℕ) → Apart x m y → has y (scope_with x m S) ≡ true → has y S ≡ true
in_outside x zero y S h i = i
in_outside x (suc m) y S h i =
    let d : nat_eq y x ≡ false = apart_first x m y h in
    let j : (nat_eq y x || has y S) ≡ true = in_outside (suc x) m y (x ∷ S) (apart_next x m y h) i in
    rw d at j

pub in_group : (x m i : ℕ) (S : List ℕ) → i < m → has (x + i) (scope_with x m S) ≡ true
in_group x zero i S l = absurd (omega (arith, l))
in_group x (suc m) zero S l =
    let q : x + 0 ≡ x = omega arith in
    rw q (in_deeper (suc x) m x (x ∷ S) (let s : nat_eq x x ≡ true = self x in rw s refl))
in_group x (suc m) (suc i) S l = let q : x + suc i ≡ suc x + i = omega arith in rw q (in_group (suc x) m i (x ∷ S) (omega (arith, l)))

module _ {V : Type 0} where
  pub outside_variables : (x y : ℕ) (vs : List V) (env : Bindings V) → Apart x (length vs) y → bound_to y (with_variables x vs env) ≡ bound_to y env
  outside_variables x y [] env h = refl
  outside_variables x y (v ∷ vs) env h =
      outside_variables (suc x) y vs ((x, v) ∷ env) (apart_next x (length vs) y h) ∙ rw (apart_first x (length vs) y h) refl

  pub inside_variables : (x i : ℕ) (vs : List V) (env : Bindings V) → i < length vs → bound_to (x + i) (with_variables x vs env) ≡ slice_get vs i
  inside_variables x i [] env l = absurd (omega (arith, l))
  inside_variables x zero (v ∷ vs) env l =
      let q : x + 0 ≡ x = omega arith in
      rw q (outside_variables (suc x) x vs ((x, v) ∷ env) (record { at = λ i k e. omega (arith, k, e) }) ∙ rw (self x) refl)
  inside_variables x (suc i) (v ∷ vs) env l =
      let q : x + suc i ≡ suc x + i = omega arith in
      rw q (inside_variables (suc x) i vs ((x, v) ∷ env) (omega (arith, l)))

pub numbers_get : {V : Type 0} (k i : ℕ) (vs : List V) → i < length vs → slice_get (numbers_from k vs) i ≡ Some (k + i)
numbers_get k i [] l = absurd (omega (arith, l))
numbers_get k zero (v ∷ vs) l = ap Some (omega arith)
numbers_get k (suc i) (v ∷ vs) l = numbers_get (suc k) i vs (omega (arith, l)) ∙ ap Some (omega arith)

pub empty_length : (n x m : ℕ) → length (empty_cells n x m) ≡ m
empty_length n x zero = refl
empty_length n x (suc m) = ap suc (empty_length n (suc x) m)

module _ (has_cell : ℕ → Bool) (n : ℕ) where
  -- how many of the variables from x on become cells
  abbrev pub one_more_if : Bool → ℕ → ℕ
  one_more_if true k = suc k
  one_more_if false k = k

  abbrev pub count_before : (x i : ℕ) → ℕ
  count_before x zero = 0
  count_before x (suc i) = one_more_if (has_cell x) (count_before (suc x) i)

  pub agree_next : (x m : ℕ) (e : Tree) → Agree has_cell n x (suc m) e → Agree has_cell n (suc x) m e
  agree_next x m e h = record { at = λ i l. let q : x + suc i ≡ suc x + i = omega arith in rw q at (h.at (suc i) (omega (arith, l))) }

  pub low_next : (x m : ℕ) → Low n x (suc m) → Low n (suc x) m
  low_next x m h = record { at = λ i l. let q : x + suc i ≡ suc x + i = omega arith in rw q at (h.at (suc i) (omega (arith, l))) }

  pub low_first : (x m : ℕ) → Low n x (suc m) → x < n
  low_first x m h = let q : x + 0 ≡ x = omega arith in rw q at (h.at 0 (omega arith))

  pub all_next : (b : Bool) (x m : ℕ) → AllAre has_cell n b x (suc m) → AllAre has_cell n b (suc x) m
  all_next b x m h = record { at = λ i l. let q : x + suc i ≡ suc x + i = omega arith in rw q at (h.at (suc i) (omega (arith, l))) }

  pub all_first : (b : Bool) (x m : ℕ) → AllAre has_cell n b x (suc m) → has_cell x ≡ b
  all_first b x m h = let q : x + 0 ≡ x = omega arith in rw q at (h.at 0 (omega arith))

  -- no cells where no variable becomes one
  pub no_cells : (x m : ℕ) → AllAre has_cell n false x m → cells_for has_cell n x m ≡ []
  no_cells x zero h = refl
  no_cells x (suc m) h = rw (all_first false x m h) (no_cells (suc x) m (all_next false x m h))

  -- the same charges
  pub charges_same : (x m : ℕ) (e : Tree) → Agree has_cell n x m e → cells_of x m e ≡ cells_bytes (length (cells_for has_cell n x m))
  charges_same x zero e h = refl
  charges_same x (suc m) e h =
      let q : x + 0 ≡ x = omega arith in
      let a : has_cell x ≡ assigns e x = rw q at (h.at 0 (omega arith)) in
      rw (← a) (go (has_cell x) (charges_same (suc x) m e (agree_next x m e h)))
    where
      go : (b : Bool) → cells_of (suc x) m e ≡ cells_bytes (length (cells_for has_cell n (suc x) m)) → where_assigned b (cells_of (suc x) m e) ≡ cells_bytes (length (and_cell n b x (cells_for has_cell n (suc x) m)))
      go true k = ap (λ l. 16 ∷ l) k
      go false k = k

  -- a key that is no cell of the group
  pub outside_cells : (x m k : ℕ) (ns : List ℕ) (env : Bindings Value) → Apart (x + n) m k → bound_to k (with_new_cells (cells_for has_cell n x m) ns env) ≡ bound_to k env
  outside_cells x zero k [] env h = refl
  outside_cells x zero k (c ∷ ns) env h = refl
  outside_cells x (suc m) k ns env h =
      go (has_cell x) ns (λ ns' env'. outside_cells (suc x) m k ns' env' (record { at = λ i l e. h.at (suc i) (omega (arith, l)) (omega (arith, e)) }))
    where
      go : (b : Bool) (ns : List ℕ) → ((ns : List ℕ) (env : Bindings Value) → bound_to k (with_new_cells (cells_for has_cell n (suc x) m) ns env) ≡ bound_to k env) → bound_to k (with_new_cells (and_cell n b x (cells_for has_cell n (suc x) m)) ns env) ≡ bound_to k env
      go true [] deeper = refl
      go true (c ∷ ns) deeper = deeper ns ((x + n, cell c) ∷ env) ∙ rw (apart_first (x + n) m k h) refl
      go false ns deeper = deeper ns env

  pub inside_cells : {V : Type 0} (x m i j : ℕ) (cts : List V) (env : Bindings Value) → length cts ≡ length (cells_for has_cell n x m) → i < m → has_cell (x + i) ≡ true → bound_to (x + i + n) (with_new_cells (cells_for has_cell n x m) (numbers_from j cts) env) ≡ Some (cell (j + count_before x i))
  inside_cells x zero i j cts env e l a = absurd (omega (arith, l))
  inside_cells {V} x (suc m) zero j cts env e l a =
      let q : x + 0 ≡ x = omega arith in
      let a' : has_cell x ≡ true = rw q at a in
      let e' : length cts ≡ length (and_cell n true x (cells_for has_cell n (suc x) m)) = rw a' at e in
      rw (q, a') (go cts e')
    where
      go : (cts : List V) → length cts ≡ length (and_cell n true x (cells_for has_cell n (suc x) m)) → bound_to (x + n) (with_new_cells (record { variable = x + n; content = Some x } ∷ cells_for has_cell n (suc x) m) (numbers_from j cts) env) ≡ Some (cell (j + 0))
      go [] k = absurd (omega (arith, k))
      go (c ∷ cts) k =
          outside_cells (suc x) m (x + n) (numbers_from (suc j) cts) ((x + n, cell j) ∷ env) (record { at = λ i l e. omega (arith, e) })
          ∙ (let r : j ≡ j + 0 = omega arith in rw (self (x + n)) (ap (λ k. Some (cell k)) r))
  inside_cells {V} x (suc m) (suc i) j cts env e l a =
      let q : x + suc i ≡ suc x + i = omega arith in
      let a' : has_cell (suc x + i) ≡ true = rw q at a in
      rw q (go (has_cell x) cts e (λ k cts' env' e'. inside_cells (suc x) m i k cts' env' e' (omega (arith, l)) a'))
    where
      go : (b : Bool) (cts : List V) → length cts ≡ length (and_cell n b x (cells_for has_cell n (suc x) m))
          → ((k : ℕ) (cts : List V) (env : Bindings Value) → length cts ≡ length (cells_for has_cell n (suc x) m) → bound_to (suc x + i + n) (with_new_cells (cells_for has_cell n (suc x) m) (numbers_from k cts) env) ≡ Some (cell (k + count_before (suc x) i)))
          → bound_to (suc x + i + n) (with_new_cells (and_cell n b x (cells_for has_cell n (suc x) m)) (numbers_from j cts) env) ≡ Some (cell (j + one_more_if b (count_before (suc x) i)))
      go true [] k deeper = absurd (omega (arith, k))
      go true (c ∷ cts) k deeper =
          deeper (suc j) cts ((x + n, cell j) ∷ env) (omega (arith, k))
          ∙ (let r : suc j + count_before (suc x) i ≡ j + suc (count_before (suc x) i) = omega arith in ap (λ k. Some (cell k)) r)
      go false cts k deeper = deeper j cts env k

  -- ## What new cells hold

  abbrev pub and_content : Bool → Value → List (Option Value) → List (Option Value)
  and_content true v cs = Some v ∷ cs
  and_content false v cs = cs

  abbrev pub chosen : ℕ → List Value → List (Option Value)
  chosen x [] = []
  chosen x (v ∷ vs) = and_content (has_cell x) v (chosen (suc x) vs)

  pub contents_are : (x m : ℕ) (vs : List Value) (env : Bindings Value) → length vs ≡ m → ((i : ℕ) → i < m → bound_to (x + i) env ≡ slice_get vs i) → contents (cells_for has_cell n x m) env ≡ chosen x vs
  contents_are x zero [] env e h = refl
  contents_are x zero (v ∷ vs) env e h = absurd (omega (arith, e))
  contents_are x (suc m) [] env e h = absurd (omega (arith, e))
  contents_are x (suc m) (v ∷ vs) env e h =
      let q : x + 0 ≡ x = omega arith in
      let here : bound_to x env ≡ Some v = rw q at (h 0 (omega arith)) in
      rw (← contents_are (suc x) m vs env (omega (arith, e)) (λ i l. let r : x + suc i ≡ suc x + i = omega arith in rw r at (h (suc i) (omega (arith, l))))) (go (has_cell x) here)
    where
      go : (b : Bool) → bound_to x env ≡ Some v → contents (and_cell n b x (cells_for has_cell n (suc x) m)) env ≡ and_content b v (contents (cells_for has_cell n (suc x) m) env)
      go true here = rw here refl
      go false here = refl

  pub chosen_length : (x : ℕ) (vs : List Value) → length (chosen x vs) ≡ length (cells_for has_cell n x (length vs))
  chosen_length x [] = refl
  chosen_length x (v ∷ vs) = go (has_cell x) (chosen_length (suc x) vs)
    where
      go : (b : Bool) → length (chosen (suc x) vs) ≡ length (cells_for has_cell n (suc x) (length vs)) → length (and_content b v (chosen (suc x) vs)) ≡ length (and_cell n b x (cells_for has_cell n (suc x) (length vs)))
      go true k = ap suc k
      go false k = k
