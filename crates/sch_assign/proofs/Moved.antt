-- Free variables under a conversion: a variable that becomes a cell is seen by its cell's number.
use Rattle.std.proofs.Common.{◌≡◌, ℕ, zero, suc, ◌+◌, ◌<◌, Bool, true, false, List, [], ◌∷◌, map, refl, sym, ap, ◌∙◌, arith}
use Rattle.sch_word.specs.trees.NumberSets.{has, unless, insert, union}
use Rattle.sch_cells.specs.declared.tree.NewCell.{NewCell}
use Rattle.sch_cells.specs.Tree.{Tree}
use Rattle.sch_word.specs.trees.Bindings.{remove, without}
use Rattle.sch_cells.specs.Variables.{without_each, cells_bound, cells_used, free}
use Rattle.sch_cells.proofs.Without.{without_each_none, without_none}
use Rattle.sch_assign.specs.Converted.{and_cell, cells_for, wrapped, Low}
use Rattle.sch_assign.proofs.Lookups.{Apart, apart_next, apart_first, Where, inside, outside, where_is}
use Rattle.sch_word.proofs.facts.NumberTests.{same}
use Rattle.sch_word.proofs.facts.NumberSets.{Under}

without_out : (x m y : ℕ) (zs : List ℕ) → Apart x m y → without x m (y ∷ zs) ≡ y ∷ without x m zs
without_out x zero y zs p = refl
without_out x (suc m) y zs p = ap (remove x) (without_out (suc x) m y zs (apart_next x m y p)) ∙ rw (apart_first x m y p) refl

without_in : (x m i : ℕ) (zs : List ℕ) → i < m → without x m ((x + i) ∷ zs) ≡ without x m zs
without_in x zero i zs l = absurd (omega (arith, l))
without_in x (suc m) zero zs l =
    let q : x + 0 ≡ x = omega arith in
    rw q (ap (remove x) (without_out (suc x) m x zs (record { at = λ i k e. omega (arith, k, e) })) ∙ rw (same x) refl)
without_in x (suc m) (suc i) zs l = let q : x + suc i ≡ suc x + i = omega arith in rw q (ap (remove x) (without_in (suc x) m i zs (omega (arith, l))))

pub record Inside (x m y : ℕ) : Type 0 where
  pub i : ℕ
  pub low : i < m
  pub is : y ≡ x + i

abbrev pub AllInside : ℕ → ℕ → List ℕ → Type 0
AllInside x m [] = Unit {0}
AllInside x m (y ∷ ys) = Inside x m y × AllInside x m ys

inside_wider : (x m : ℕ) (ys : List ℕ) → AllInside (suc x) m ys → AllInside x (suc m) ys
inside_wider x m [] h = tt
inside_wider x m (y ∷ ys) h = (record { i = suc h.0.i; low = omega (arith, h.0.low); is = omega (arith, h.0.is) }, inside_wider x m ys h.1)

insert_inside : (x m y : ℕ) (ys : List ℕ) → Inside x m y → AllInside x m ys → AllInside x m (insert y ys)
insert_inside x m y ys h hs = go (has y ys)
  where
    go : (b : Bool) → AllInside x m (unless b y ys)
    go true = hs
    go false = (h, hs)

-- what is taken away anyway may be added
used_gone : (x m : ℕ) (us zs : List ℕ) → AllInside x m us → without x m (union us zs) ≡ without x m zs
used_gone x m [] zs h = refl
used_gone x m (u ∷ us) zs h = go (has u (union us zs)) (used_gone x m us zs h.1)
  where
    go : (b : Bool) → without x m (union us zs) ≡ without x m zs → without x m (unless b u (union us zs)) ≡ without x m zs
    go true k = k
    go false k = let q : u ≡ x + h.0.i = h.0.is in rw q (without_in x m h.0.i (union us zs) h.0.low ∙ k)

module _ (has_cell : ℕ → Bool) (n : ℕ) where
  abbrev pub shift : Bool → ℕ → ℕ
  shift true y = y + n
  shift false y = y

  abbrev pub moved : ℕ → ℕ
  moved y = shift (has_cell y) y

  abbrev keys : (x m : ℕ) → List ℕ
  keys x m = cells_bound (cells_for has_cell n x m)

  key_out : (x m z : ℕ) (zs : List ℕ) → Apart (x + n) m z → without_each (keys x m) (z ∷ zs) ≡ z ∷ without_each (keys x m) zs
  key_out x zero z zs p = refl
  key_out x (suc m) z zs p = go (has_cell x) (key_out (suc x) m z zs (record { at = λ i l e. p.at (suc i) (omega (arith, l)) (omega (arith, e)) }))
    where
      go : (b : Bool) → without_each (keys (suc x) m) (z ∷ zs) ≡ z ∷ without_each (keys (suc x) m) zs →
          without_each (cells_bound (and_cell n b x (cells_for has_cell n (suc x) m))) (z ∷ zs) ≡ z ∷ without_each (cells_bound (and_cell n b x (cells_for has_cell n (suc x) m))) zs
      go true k = ap (remove (x + n)) k ∙ rw (apart_first (x + n) m z p) refl
      go false k = k

  key_in : (x m i : ℕ) (zs : List ℕ) → i < m → has_cell (x + i) ≡ true → without_each (keys x m) ((x + i + n) ∷ zs) ≡ without_each (keys x m) zs
  key_in x zero i zs l a = absurd (omega (arith, l))
  key_in x (suc m) zero zs l a =
      let q : x + 0 ≡ x = omega arith in
      let a' : has_cell x ≡ true = rw q at a in
      rw (q, a') (ap (remove (x + n)) (key_out (suc x) m (x + n) zs (record { at = λ i k e. omega (arith, k, e) })) ∙ rw (same (x + n)) refl)
  key_in x (suc m) (suc i) zs l a =
      let q : x + suc i ≡ suc x + i = omega arith in
      let a' : has_cell (suc x + i) ≡ true = rw q at a in
      rw q (go (has_cell x) (key_in (suc x) m i zs (omega (arith, l)) a'))
    where
      go : (b : Bool) → without_each (keys (suc x) m) ((suc x + i + n) ∷ zs) ≡ without_each (keys (suc x) m) zs →
          without_each (cells_bound (and_cell n b x (cells_for has_cell n (suc x) m))) ((suc x + i + n) ∷ zs) ≡ without_each (cells_bound (and_cell n b x (cells_for has_cell n (suc x) m))) zs
      go true k = ap (remove (x + n)) k
      go false k = k

  pub used_inside : (x m : ℕ) → AllInside x m (cells_used (cells_for has_cell n x m))
  used_inside x zero = tt
  used_inside x (suc m) = go (has_cell x) (inside_wider x m _ (used_inside (suc x) m))
    where
      go : (b : Bool) → AllInside x (suc m) (cells_used (cells_for has_cell n (suc x) m)) → AllInside x (suc m) (cells_used (and_cell n b x (cells_for has_cell n (suc x) m)))
      go true h = insert_inside x (suc m) x _ (record { i = 0; low = omega arith; is = omega arith }) h
      go false h = h

  -- a group and its cells taken away, from the moved variables
  pub group_moved : (x m : ℕ) (F : List ℕ) → Low n x m → Under F n → without x m (without_each (keys x m) (map moved F)) ≡ map moved (without x m F)
  group_moved x m [] few u = ap (without x m) (without_each_none (keys x m)) ∙ without_none x m ∙ ap (map moved) (sym (without_none x m))
  group_moved x m (z ∷ F) few u = go (where_is x m z) (has_cell z) refl (group_moved x m F few u.1)
    where
      go : Where x m z → (b : Bool) → has_cell z ≡ b → without x m (without_each (keys x m) (map moved F)) ≡ map moved (without x m F) →
          without x m (without_each (keys x m) (shift b z ∷ map moved F)) ≡ map moved (without x m (z ∷ F))
      go (inside i l q) true a k =
          let a' : has_cell (x + i) ≡ true = rw q at a in
          rw q (ap (without x m) (key_in x m i (map moved F) l a') ∙ k ∙ ap (map moved) (sym (without_in x m i F l)))
      go (inside i l q) false a k =
          rw q (ap (without x m) (key_out x m (x + i) (map moved F) (record { at = λ j lj e. let f : x + i < n = few.at i l in omega (arith, e, f) })) ∙ without_in x m i (without_each (keys x m) (map moved F)) l ∙ k ∙ ap (map moved) (sym (without_in x m i F l)))
      go (outside p) true a k =
          ap (without x m) (key_out x m (z + n) (map moved F) (record { at = λ j lj e. p.at j lj (omega (arith, e)) }))
          ∙ without_out x m (z + n) (without_each (keys x m) (map moved F)) (record { at = λ j lj e. let f : x + j < n = few.at j lj in omega (arith, e, f) })
          ∙ ap (λ l. (z + n) ∷ l) k ∙ sym (ap (map moved) (without_out x m z F p) ∙ ap (λ b. shift b z ∷ map moved (without x m F)) a)
      go (outside p) false a k =
          ap (without x m) (key_out x m z (map moved F) (record { at = λ j lj e. let zn = u.0 in omega (arith, e, zn) }))
          ∙ without_out x m z (without_each (keys x m) (map moved F)) p
          ∙ ap (λ l. z ∷ l) k ∙ sym (ap (map moved) (without_out x m z F p) ∙ ap (λ b. shift b z ∷ map moved (without x m F)) a)

  none_wrapped : (x m : ℕ) (cs : List NewCell) (e : Tree) → AllInside x m (cells_used cs) → without x m (free (wrapped cs e)) ≡ without x m (without_each (cells_bound cs) (free e))
  none_wrapped x m [] e h = refl
  none_wrapped x m (c ∷ cs) e h = used_gone x m (cells_used (c ∷ cs)) (without_each (cells_bound (c ∷ cs)) (free e)) h

  -- the free variables of a lambda, moved
  pub lambda_moved : (x m : ℕ) (e e' : Tree) → Low n x m → Under (free e) n → free e' ≡ map moved (free e) → without x m (free (wrapped (cells_for has_cell n x m) e')) ≡ map moved (without x m (free e))
  lambda_moved x m e e' few u h = none_wrapped x m (cells_for has_cell n x m) e' (used_inside x m) ∙ ap (λ l. without x m (without_each (keys x m) l)) h ∙ group_moved x m (free e) few u
