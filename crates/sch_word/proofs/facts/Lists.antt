-- Lists: what is left of one and what is taken, and an item that is set.
use Rattle.std.proofs.Common.{◌≡◌, ℕ, zero, suc, ◌+◌, ◌-◌, ◌<◌, ◌≤◌, Bool, true, false, cond, List, [], ◌∷◌, ◌++◌, length, map, reverse, drop, take, get_or, Some, None, refl, sym, ap, ◌∙◌, subst, arith, append_assoc, drop-cons}
use Rattle.std.specs.Prelude.{slice_get, slice_set}
use Rattle.std.specs.List.{filter, list_all}
use Rattle.std.proofs.lemmas.Option.{none-some, slice_get_within}
use Rattle.std.proofs.lemmas.List.{reverse-append, length-append, length-reverse, length-drop, map-append, take-append-drop}
pub use Rattle.std.proofs.lemmas.List.{nil_from_length as length_none}
use Rattle.std.proofs.Math.Seq.{take-suc, take-append_seam, drop-append_seam}
use Rattle.sch_word.proofs.facts.Booleans.{and_left, and_of, and_right}

pub next_left : {A : Type 0} (xs : List A) (i : ℕ) (x : A) → i < length xs → x ≡ get_or xs i x → drop i xs ≡ x ∷ drop (suc i) xs
next_left xs i x l e = drop-cons xs i x l ∙ ap (λ y. y ∷ drop (suc i) xs) (sym e)

pub next_taken : {A : Type 0} (xs : List A) (i : ℕ) (x : A) → i < length xs → x ≡ get_or xs i x → take (suc i) xs ≡ take i xs ++ x ∷ []
next_taken xs i x l e = take-suc xs i x l ∙ ap (λ y. take i xs ++ y ∷ []) (sym e)

pub left_length : {A : Type 0} (xs : List A) (m : ℕ) → m ≤ length xs → m + length (drop m xs) ≡ length xs
left_length xs zero l = omega arith
left_length [] (suc m) l = absurd (omega (arith, l))
left_length (x ∷ xs) (suc m) l = let h = left_length xs m (omega (arith, l)) in omega (arith, h)

pub map_length : {A B : Type 0} (f : A → B) (xs : List A) → length (map f xs) ≡ length xs
map_length f [] = refl
map_length f (x ∷ xs) = ap suc (map_length f xs)

pub reverse_cons : {A : Type 0} (x : A) (xs : List A) → reverse (x ∷ xs) ≡ reverse xs ++ x ∷ []
reverse_cons x xs = reverse-append (x ∷ []) xs

pub map_reverse : {A B : Type 0} (f : A → B) (xs : List A) → map f (reverse xs) ≡ reverse (map f xs)
map_reverse f [] = refl
map_reverse f (x ∷ xs) = ap (map f) (reverse_cons x xs) ∙ map-append f (reverse xs) (x ∷ []) ∙ ap (λ l. l ++ f x ∷ []) (map_reverse f xs) ∙ sym (reverse_cons (f x) (map f xs))

-- the first ones of a list that is turned
reversed_parts : {A : Type 0} (xs : List A) (m : ℕ) → reverse xs ≡ reverse (drop m xs) ++ reverse (take m xs)
reversed_parts xs m = ap reverse (sym (take-append-drop m xs)) ∙ reverse-append (take m xs) (drop m xs)

reversed_length : {A : Type 0} (xs : List A) (n m : ℕ) → n + m ≡ length xs → length (reverse (drop m xs)) ≡ n
reversed_length xs n m e = omega (arith, length-reverse (drop m xs), length-drop m xs, e)

pub take_reversed : {A : Type 0} (xs : List A) (n m : ℕ) → n + m ≡ length xs → take n (reverse xs) ≡ reverse (drop m xs)
take_reversed xs n m e =
    ap (take n) (reversed_parts xs m) ∙ ap (λ k. take k (reverse (drop m xs) ++ reverse (take m xs))) (sym (reversed_length xs n m e))
    ∙ take-append_seam (reverse (drop m xs)) (reverse (take m xs))

pub drop_reversed : {A : Type 0} (xs : List A) (n m : ℕ) → n + m ≡ length xs → drop n (reverse xs) ≡ reverse (take m xs)
drop_reversed xs n m e =
    ap (drop n) (reversed_parts xs m) ∙ ap (λ k. drop k (reverse (drop m xs) ++ reverse (take m xs))) (sym (reversed_length xs n m e))
    ∙ drop-append_seam (reverse (drop m xs)) (reverse (take m xs))

pub set_here : {A : Type 0} (xs : List A) (i : ℕ) (v : A) → i < length xs → slice_get (slice_set xs i v) i ≡ Some v
set_here [] i v l = absurd (omega (arith, l))
set_here (x ∷ xs) zero v l = refl
set_here (x ∷ xs) (suc i) v l = set_here xs i v (omega (arith, l))

pub set_elsewhere : {A : Type 0} (xs : List A) (i k : ℕ) (v : A) → (k ≡ i → ⊥) → slice_get (slice_set xs i v) k ≡ slice_get xs k
set_elsewhere [] i k v n = refl
set_elsewhere (x ∷ xs) zero zero v n = absurd (n refl)
set_elsewhere (x ∷ xs) zero (suc k) v n = refl
set_elsewhere (x ∷ xs) (suc i) zero v n = refl
set_elsewhere (x ∷ xs) (suc i) (suc k) v n = set_elsewhere xs i k v (λ e. n (ap suc e))

-- ## Equal parts

pub cons_same : {A : Type 0} {x y : A} {xs ys : List A} → x ≡ y → xs ≡ ys → x ∷ xs ≡ y ∷ ys
cons_same p q = rw (p, q) refl

pub append_same : {A : Type 0} {xs ys more less : List A} → xs ≡ ys → more ≡ less → xs ++ more ≡ ys ++ less
append_same p q = rw (p, q) refl

pub length_joined : {A : Type 0} (xs ys : List A) {a b : ℕ} → length xs ≡ a → length ys ≡ b → length (xs ++ ys) ≡ a + b
length_joined xs ys p q = omega (arith, length-append xs ys, p, q)

pub get_seam : {A : Type 0} (before rest : List A) (x : A) → slice_get (before ++ x ∷ rest) (length before) ≡ Some x
get_seam [] rest x = refl
get_seam (y ∷ before) rest x = get_seam before rest x

pub head_same : {A : Type 0} {x y : A} {xs ys : List A} → x ∷ xs ≡ y ∷ ys → x ≡ y
head_same e = cc

pub tail_same : {A : Type 0} {x y : A} {xs ys : List A} → x ∷ xs ≡ y ∷ ys → xs ≡ ys
tail_same e = cc

pub some_same : {A : Type 0} {x y : A} → Some x ≡ Some y → x ≡ y
some_same e = cc

pub append_behind : {A : Type 0} (xs ys zs more : List A) → xs ≡ ys ++ zs → xs ++ more ≡ ys ++ (zs ++ more)
append_behind xs ys zs more e = rw e (append_assoc ys zs more)

-- ## Items of two lists

pub get_front : {A : Type 0} (xs ys : List A) (k : ℕ) → k < length xs → slice_get (xs ++ ys) k ≡ slice_get xs k
get_front [] ys k l = absurd (omega (arith, l))
get_front (x ∷ xs) ys zero l = refl
get_front (x ∷ xs) ys (suc k) l = get_front xs ys k (omega (arith, l))

pub get_grown : {A : Type 0} (xs ys : List A) (k : ℕ) (x : A) → slice_get xs k ≡ Some x → slice_get (xs ++ ys) k ≡ Some x
get_grown xs ys k x e = get_front xs ys k (slice_get_within xs k x e) ∙ e

pub get_behind : {A : Type 0} (xs ys : List A) (k : ℕ) → slice_get (xs ++ ys) (length xs + k) ≡ slice_get ys k
get_behind [] ys k = let e : 0 + k ≡ k = omega arith in ap (slice_get ys) e
get_behind (x ∷ xs) ys k = let e : length (x ∷ xs) + k ≡ suc (length xs + k) = omega arith in ap (slice_get (x ∷ (xs ++ ys))) e ∙ get_behind xs ys k

pub get_there : {A : Type 0} (xs : List A) (k : ℕ) → k < length xs → (x : A) × (slice_get xs k ≡ Some x)
get_there [] k l = absurd (omega (arith, l))
get_there (x ∷ xs) zero l = (x, refl)
get_there (x ∷ xs) (suc k) l = get_there xs k (omega (arith, l))

pub not_missing : {A : Type 0} (xs : List A) (k : ℕ) → k < length xs → slice_get xs k ≡ None → ⊥
not_missing xs k l e = let there = get_there xs k l in absurd (none-some there.0 (sym e ∙ there.1))

-- ## Tests of all items

pub each_at : {A : Type 0} (p : A → Bool) (xs : List A) (k : ℕ) (x : A) → list_all p xs ≡ true → slice_get xs k ≡ Some x → p x ≡ true
each_at p [] k x h e = absurd (none-some x e)
each_at p (y ∷ xs) zero x h e = subst (λ z. p z ≡ true) (some_same e) (and_left (p y) (list_all p xs) h)
each_at p (y ∷ xs) (suc k) x h e = each_at p xs k x (and_right (p y) (list_all p xs) h) e

-- what passes a test passes a weaker one
pub all_passing : {A : Type 0} (f p : A → Bool) (xs : List A) → ((x : A) → f x ≡ true → p x ≡ true) → list_all p (filter f xs) ≡ true
all_passing f p [] h = refl
all_passing f p (x ∷ xs) h = by (f x) refl (all_passing f p xs h) where
  by : (t : Bool) → f x ≡ t → list_all p (filter f xs) ≡ true → list_all p (cond t (x ∷ filter f xs) (filter f xs)) ≡ true
  by true e rest = and_of (p x) _ (h x e) rest
  by false e rest = rest

-- ## Pieces

pub piece_within : {A : Type 0} (xs : List A) (k n l : ℕ) → k + n ≤ l → take n (drop k (take l xs)) ≡ take n (drop k xs)
piece_within xs zero zero l h = refl
piece_within xs zero (suc n) zero h = absurd (omega (arith, h))
piece_within [] zero (suc n) (suc l) h = refl
piece_within (x ∷ xs) zero (suc n) (suc l) h = ap (λ ys. x ∷ ys) (piece_within xs zero n l (omega (arith, h)))
piece_within xs (suc k) n zero h = absurd (omega (arith, h))
piece_within [] (suc k) n (suc l) h = refl
piece_within (x ∷ xs) (suc k) n (suc l) h = piece_within xs k n l (omega (arith, h))

-- ## Loops

-- a turn from the last to the first, for anything that is found of a list with its last item before what was found
module _ {A R : Type 0} (F : List A → R → R) (one : A → R → R) (last : (ps : List A) (a : A) (r : R) → F (ps ++ a ∷ []) r ≡ F ps (one a r)) where
  pub turn_back : (items : List A) (n : ℕ) (a : A) (r r' whole : R) → 0 < n → n ≤ length items → a ≡ get_or items (n - 1) a → r' ≡ one a r → F (take n items) r ≡ whole
      → F (take (n - 1) items) r' ≡ whole
  turn_back items n a r r' whole l b e h k =
      let p : n ≡ suc (n - 1) = omega (arith, l) in
      let k' : F (take (suc (n - 1)) items) r ≡ whole = subst (λ m. F (take m items) r ≡ whole) p k in
      rw h (sym (last (take (n - 1) items) a r) ∙ ap (λ t. F t r) (sym (next_taken items (n - 1) a (omega (arith, l, b)) e)) ∙ k')
