-- Where the bodies stand in the program that normalizing makes.
use Rattle.std.proofs.Common.{◌≡◌, ℕ, zero, suc, ◌+◌, ◌-◌, ◌<◌, ◌≤◌, Bool, true, false, cond, List, [], ◌∷◌, ◌++◌, length, map, take, drop, Some, refl, ap, ◌∙◌, arith}
use Rattle.std.specs.Prelude.{slice_get, nat_le}
use Rattle.std.proofs.lemmas.Bool.{leb-true, leb-false}
use Rattle.std.proofs.lemmas.List.{length-map, length-take-le}
use Rattle.sch_word.proofs.facts.Booleans.{and_left, and_right}
use Rattle.sch_word.proofs.facts.Lists.{left_length, get_grown}
use Rattle.sch_flat.specs.Tree.{Trees, Body, no_trees, and_tree, count}
use Rattle.sch_flat.specs.Valid.{ascending}
use Rattle.sch_anf_laws.specs.Normal.{forms_before, new_label, procedure_code, form_code, normal_bodies}

get_map : {A B : Type 0} (f : A → B) (xs : List A) (i : ℕ) (x : A) → slice_get xs i ≡ Some x → slice_get (map f xs) i ≡ Some (f x)
get_map f [] i x e = absurd (cc)
get_map f (y ∷ xs) zero x e = ap (λ o. o) (let m : y ≡ x = cc in ap (λ z. Some (f z)) m)
get_map f (y ∷ xs) (suc i) x e = get_map f xs i x e

pub get_right : {A : Type 0} (xs ys : List A) (i j : ℕ) → i ≡ length xs + j → slice_get (xs ++ ys) i ≡ slice_get ys j
get_right [] ys i j e = ap (λ i. slice_get ys i) (omega (arith, e))
get_right (x ∷ xs) ys zero j e = absurd (omega (arith, e))
get_right (x ∷ xs) ys (suc i) j e = get_right xs ys i j (omega (arith, e))

get_take : {A : Type 0} (xs : List A) (d i : ℕ) (x : A) → i < d → slice_get xs i ≡ Some x → slice_get (take d xs) i ≡ Some x
get_take xs zero i x l e = absurd (omega (arith, l))
get_take [] (suc d) i x l e = absurd (cc)
get_take (y ∷ xs) (suc d) zero x l e = e
get_take (y ∷ xs) (suc d) (suc i) x l e = get_take xs d i x (omega (arith, l)) e

pub get_drop : {A : Type 0} (xs : List A) (d i j : ℕ) → i ≡ d + j → slice_get (drop d xs) j ≡ slice_get xs i
get_drop xs zero i j e = ap (λ i. slice_get xs i) (omega (arith, e))
get_drop [] (suc d) i j e = refl
get_drop (x ∷ xs) (suc d) zero j e = absurd (omega (arith, e))
get_drop (x ∷ xs) (suc d) (suc i) j e = get_drop xs d i j (omega (arith, e))

-- the last of these is not more than the last number
pub ascending_last : (from last : ℕ) (places : List ℕ) → ascending from last places ≡ true → from ≤ last
ascending_last from last [] a = leb-true from last a
ascending_last from last (p ∷ places) a =
    let here = leb-true from p (and_left (nat_le from p) (ascending p last places) a) in
    let more = ascending_last p last places (and_right (nat_le from p) (ascending p last places) a) in
    omega (arith, here, more)

none_before : (from last label : ℕ) (places : List ℕ) → ascending from last places ≡ true → label < from → forms_before places label ≡ 0
none_before from last label [] a l = refl
none_before from last label (p ∷ places) a l =
    let here = leb-true from p (and_left (nat_le from p) (ascending p last places) a) in
    let more = none_before p last label places (and_right (nat_le from p) (ascending p last places) a) (omega (arith, l, here)) in
    go (nat_le p label) refl here more
  where
    go : (b : Bool) → nat_le p label ≡ b → from ≤ p → forms_before places label ≡ 0 → cond b 1 0 + forms_before places label ≡ 0
    go true e h m = let k = leb-true p label e in absurd (omega (arith, k, l, h))
    go false e h m = omega (arith, m)

module _ (starts : List ℕ) where
  -- a body that is left stands behind those before it and the forms before its label
  stands : (forms : Trees) (places : List ℕ) (bodies : List Body) (before last : ℕ) → length places ≡ count forms → ascending before last places ≡ true → last ≡ before + length bodies
      → (i label : ℕ) (b : Body) → label ≡ before + i → slice_get bodies i ≡ Some b
      → slice_get (normal_bodies starts before bodies forms places) (i + forms_before places label) ≡ Some (procedure_code starts b)
  stands no_trees [] bodies before last c a e i label b l h =
      ap (λ j. slice_get (map (procedure_code starts) bodies) j) (omega arith) ∙ get_map (procedure_code starts) bodies i b h
  stands no_trees (p ∷ places) bodies before last c a e i label b l h = absurd (omega (arith, c))
  stands (and_tree f forms) [] bodies before last c a e i label b l h = absurd (omega (arith, c))
  stands (and_tree f forms) (p ∷ places) bodies before last c a e i label b l h =
      go (λ j k g. stands forms places (drop (p - before) bodies) p last (omega (arith, c)) rest ends j label b k g) (nat_le p label) refl
    where
      from : before ≤ p
      from = leb-true before p (and_left (nat_le before p) (ascending p last places) a)

      rest : ascending p last places ≡ true
      rest = and_right (nat_le before p) (ascending p last places) a

      enough : p - before ≤ length bodies
      enough = let m = ascending_last p last places rest in let n = from in omega (arith, m, e, n)

      ends : last ≡ p + length (drop (p - before) bodies)
      ends = let m = left_length bodies (p - before) enough in let n = from in omega (arith, m, n, e)

      go : ((j : ℕ) → label ≡ p + j → slice_get (drop (p - before) bodies) j ≡ Some b
          → slice_get (normal_bodies starts p (drop (p - before) bodies) forms places) (j + forms_before places label) ≡ Some (procedure_code starts b))
          → (t : Bool) → nat_le p label ≡ t
          → slice_get (map (procedure_code starts) (take (p - before) bodies) ++ form_code starts f ∷ normal_bodies starts p (drop (p - before) bodies) forms places)
          (i + (cond t 1 0 + forms_before places label)) ≡ Some (procedure_code starts b)
      go more false t =
          let m = leb-false p label t in
          let none = none_before p last label places rest (omega (arith, m)) in
          ap (λ j. slice_get (map (procedure_code starts) (take (p - before) bodies) ++ form_code starts f ∷ normal_bodies starts p (drop (p - before) bodies) forms places) j) (omega (arith, none))
          ∙ get_grown (map (procedure_code starts) (take (p - before) bodies)) _ i (procedure_code starts b)
          (get_map (procedure_code starts) (take (p - before) bodies) i b (get_take bodies (p - before) i b (let n = from in omega (arith, m, l, n)) h))
      go more true t =
          let k = leb-true p label t in
          let m = from in
          let j : ℕ = i - (p - before) in
          let at : i ≡ (p - before) + j = omega (arith, k, m, l) in
          let long = length-map (take (p - before) bodies) (procedure_code starts) ∙ length-take-le (p - before) bodies enough in
          get_right (map (procedure_code starts) (take (p - before) bodies)) (form_code starts f ∷ normal_bodies starts p (drop (p - before) bodies) forms places)
          (i + (1 + forms_before places label)) (suc (j + forms_before places label)) (omega (arith, at, long))
          ∙ more j (omega (arith, k, m, l)) (get_drop bodies (p - before) i j at ∙ h)

  -- a body stands at its new label
  pub stands_at : (forms : Trees) (bodies : List Body) → length starts ≡ count forms → ascending 0 (length bodies) starts ≡ true
      → (label : ℕ) (b : Body) → slice_get bodies label ≡ Some b → slice_get (normal_bodies starts 0 bodies forms starts) (new_label starts label) ≡ Some (procedure_code starts b)
  stands_at forms bodies c a label b h = stands forms starts bodies 0 (length bodies) c a (omega arith) label label b (omega arith) h
