-- Finite sets of numbers: what is in them, and unions.
use Rattle.std.proofs.Common.{◌≡◌, ℕ, zero, suc, ◌+◌, ◌<◌, Bool, true, false, List, [], ◌∷◌, ◌++◌, length, map, reverse, drop, get_or, refl, sym, ap, ◌∙◌, subst, arith, add-one}
use Rattle.std.specs.Prelude.{nat_eq, ◌&&◌, ◌||◌, not}
use Rattle.std.proofs.lemmas.Bool.{eqb-true}
use Rattle.std.proofs.lemmas.List.{reverse-append, get_or_default}
use Rattle.std.specs.List.{list_all}
use Rattle.sch_word.specs.trees.NumberSets.{has, unless, insert, union, In, without_repeats}
use Rattle.sch_word.specs.trees.Bindings.{numbers, scope_with}
use Rattle.sch_word.proofs.facts.Booleans.{or_swap, or_right_false, and_left, and_right, or_left, or_right, and_of}
use Rattle.sch_word.proofs.facts.Lists.{next_left, reverse_cons, map_length}
use Rattle.sch_word.proofs.facts.NumberTests.{same, below_differs}

-- ## Members

pub in_here : (x : ℕ) (xs : List ℕ) → In x (x ∷ xs)
in_here x xs = rw (same x) refl

pub in_more : (x y : ℕ) (xs : List ℕ) → In x xs → In x (y ∷ xs)
in_more x y xs h = go (nat_eq x y) h
  where
    go : (b : Bool) → has x xs ≡ true → (b || has x xs) ≡ true
    go true e = refl
    go false e = e

-- a number of a scope is in a deeper one
pub in_deeper : (x m y : ℕ) (xs : List ℕ) → In y xs → In y (scope_with x m xs)
in_deeper x zero y xs h = h
in_deeper x (suc m) y xs h = in_deeper (suc x) m y (x ∷ xs) (in_more y x xs h)

pub insert_here : (x : ℕ) (xs : List ℕ) → In x (insert x xs)
insert_here x xs = go (has x xs) refl
  where
    go : (b : Bool) → has x xs ≡ b → In x (unless b x xs)
    go true e = e
    go false e = in_here x xs

pub insert_more : (x y : ℕ) (xs : List ℕ) → In x xs → In x (insert y xs)
insert_more x y xs h = go (has y xs)
  where
    go : (b : Bool) → In x (unless b y xs)
    go true = h
    go false = in_more x y xs h

pub union_left : (x : ℕ) (xs ys : List ℕ) → In x xs → In x (union xs ys)
union_left x [] ys h = absurd (cc)
union_left x (y ∷ xs) ys h = go (union_left x xs ys) (nat_eq x y) refl h
  where
    go : (In x xs → In x (union xs ys)) → (b : Bool) → nat_eq x y ≡ b → (b || has x xs) ≡ true → In x (insert y (union xs ys))
    go deeper true e k = subst (λ z. In x (insert z (union xs ys))) (eqb-true x y e) (insert_here x (union xs ys))
    go deeper false e k = insert_more x y (union xs ys) (deeper k)

pub union_right : (x : ℕ) (xs ys : List ℕ) → In x ys → In x (union xs ys)
union_right x [] ys h = h
union_right x (y ∷ xs) ys h = insert_more x y (union xs ys) (union_right x xs ys h)

pub below_numbers : (y x n : ℕ) → y < x → has y (numbers x n) ≡ false
below_numbers y x zero l = refl
below_numbers y x (suc n) l = rw (below_differs y x l) (below_numbers y (suc x) n (omega (arith, l)))

pub numbers_length : (x n : ℕ) → length (numbers x n) ≡ n
numbers_length x zero = refl
numbers_length x (suc n) = ap suc (numbers_length (suc x) n)

pub numbers_mapped : {A : Type 0} (f : ℕ → A) (x n : ℕ) → length (map f (numbers x n)) ≡ n
numbers_mapped f x n = map_length f (numbers x n) ∙ numbers_length x n

-- where all pass a test, each that is listed does
pub each_passes : (test : ℕ → Bool) (ys : List ℕ) → list_all test ys ≡ true → (x : ℕ) → has x ys ≡ true → test x ≡ true
each_passes test [] h x m = absurd (cc)
each_passes test (y ∷ ys) h x m = by (nat_eq x y) refl (each_passes test ys (and_right (test y) _ h) x) m where
  by : (t : Bool) → nat_eq x y ≡ t → (has x ys ≡ true → test x ≡ true) → (t || has x ys) ≡ true → test x ≡ true
  by true e f m = ap test (eqb-true x y e) ∙ and_left (test y) _ h
  by false e f m = f m

-- ## Members of lists put together

pub has_append : (x : ℕ) (ps qs : List ℕ) → has x (ps ++ qs) ≡ (has x ps || has x qs)
has_append x [] qs = refl
has_append x (p ∷ ps) qs = go (nat_eq x p) (has_append x ps qs)
  where
    go : (b : Bool) → has x (ps ++ qs) ≡ (has x ps || has x qs) → (b || has x (ps ++ qs)) ≡ ((b || has x ps) || has x qs)
    go true h = refl
    go false h = h

pub append_left : (x : ℕ) (xs ys : List ℕ) → In x xs → In x (xs ++ ys)
append_left x xs ys i = has_append x xs ys ∙ or_left (has x xs) (has x ys) i

pub append_right : (x : ℕ) (xs ys : List ℕ) → In x ys → In x (xs ++ ys)
append_right x xs ys i = has_append x xs ys ∙ or_right (has x xs) (has x ys) i

pub has_reverse : (x : ℕ) (xs : List ℕ) → has x (reverse xs) ≡ has x xs
has_reverse x [] = refl
has_reverse x (y ∷ xs) =
    ap (has x) (reverse_cons y xs) ∙ has_append x (reverse xs) (y ∷ []) ∙ or_swap (has x (reverse xs)) (nat_eq x y || false)
    ∙ ap (λ b. b || has x (reverse xs)) (or_right_false (nat_eq x y)) ∙ ap (λ b. nat_eq x y || b) (has_reverse x xs)

pub inserted : (x : ℕ) (xs : List ℕ) → has x xs ≡ false → reverse (xs ++ x ∷ []) ≡ insert x (reverse xs)
inserted x xs e = rw (reverse-append xs (x ∷ []), has_reverse x xs, e) refl

pub not_inserted : (x : ℕ) (xs : List ℕ) → has x xs ≡ true → reverse xs ≡ insert x (reverse xs)
not_inserted x xs e = rw (has_reverse x xs, e) refl

-- ## Unions

pub union_insert : (x : ℕ) (ps qs : List ℕ) → union (insert x ps) qs ≡ insert x (union ps qs)
union_insert x ps qs = go (has x ps) refl
  where
    go : (b : Bool) → has x ps ≡ b → union (unless b x ps) qs ≡ insert x (union ps qs)
    go true e = rw (union_left x ps qs e) refl
    go false e = refl

pub union_assoc : (ps qs rs : List ℕ) → union (union ps qs) rs ≡ union ps (union qs rs)
union_assoc [] qs rs = refl
union_assoc (p ∷ ps) qs rs = union_insert p (union ps qs) rs ∙ ap (insert p) (union_assoc ps qs rs)

-- each number once
abbrev pub Once : List ℕ → Type 0
Once xs = union xs [] ≡ xs

pub once_union : (ps qs : List ℕ) → Once qs → Once (union ps qs)
once_union ps qs h = union_assoc ps qs [] ∙ ap (union ps) h

union_last : (ps qs : List ℕ) (x : ℕ) → union (ps ++ x ∷ []) qs ≡ union ps (insert x qs)
union_last [] qs x = refl
union_last (a ∷ ps) qs x = ap (insert a) (union_last ps qs x)

-- a turn of a loop that inserts each of some numbers behind those that are there
pub union_next : (xs : List ℕ) (i : ℕ) (ys ys' whole : List ℕ) → i < length xs → reverse ys' ≡ insert (get_or xs i 0) (reverse ys) → union (reverse (drop i xs)) (reverse ys) ≡ whole
    → union (reverse (drop (i + 1) xs)) (reverse ys') ≡ whole
union_next xs i ys ys' whole l h k =
    let x = get_or xs i 0 in
    let n = subst (λ r. union (reverse r) (reverse ys) ≡ whole) (next_left xs i x l (get_or_default xs i 0 x l)) k in
    rw (add-one, h) (sym (union_last (reverse (drop (suc i) xs)) (reverse ys) x) ∙ ap (λ r. union r (reverse ys)) (sym (reverse_cons x (drop (suc i) xs))) ∙ n)

-- ## Numbers below another

-- each is below n
abbrev pub Under : List ℕ → ℕ → Type 0
Under [] n = Unit {0}
Under (x ∷ xs) n = (x < n) × Under xs n

pub unless_under : (b : Bool) (x : ℕ) (xs : List ℕ) (n : ℕ) → x < n → Under xs n → Under (unless b x xs) n
unless_under true x xs n l u = u
unless_under false x xs n l u = (l, u)

pub union_under : (xs ys : List ℕ) (n : ℕ) → Under xs n → Under ys n → Under (union xs ys) n
union_under [] ys n u v = v
union_under (x ∷ xs) ys n u v = unless_under (has x (union xs ys)) x (union xs ys) n u.0 (union_under xs ys n u.1 v)

-- ## Numbers in a row

pub numbers_joined : (x m n : ℕ) → numbers x m ++ numbers (x + m) n ≡ numbers x (m + n)
numbers_joined x zero n = let e : x + 0 ≡ x = omega arith in let d : 0 + n ≡ n = omega arith in rw (e, d) refl
numbers_joined x (suc m) n =
    let e : x + suc m ≡ suc x + m = omega arith in
    let d : suc m + n ≡ suc (m + n) = omega arith in
    rw (e, d) (ap (λ l. x ∷ l) (numbers_joined (suc x) m n))

-- ## Lists without repeats

pub distinct_numbers : (x n : ℕ) → without_repeats (numbers x n) ≡ true
distinct_numbers x zero = refl
distinct_numbers x (suc n) = and_of (not (has x (numbers (suc x) n))) _ (ap not (below_numbers x (suc x) n (omega arith))) (distinct_numbers (suc x) n)

pub distinct_left : (xs ys : List ℕ) → without_repeats (xs ++ ys) ≡ true → without_repeats xs ≡ true
distinct_left [] ys h = refl
distinct_left (x ∷ xs) ys h = by (has x xs) (has x (xs ++ ys)) (has_append x xs ys) h (distinct_left xs ys) where
  by : (t u : Bool) → u ≡ (t || has x ys) → (not u && without_repeats (xs ++ ys)) ≡ true → (without_repeats (xs ++ ys) ≡ true → without_repeats xs ≡ true)
      → (not t && without_repeats xs) ≡ true
  by true true e h f = absurd (cc)
  by true false e h f = absurd (cc)
  by false true e h f = absurd (cc)
  by false false e h f = f h

pub distinct_right : (xs ys : List ℕ) → without_repeats (xs ++ ys) ≡ true → without_repeats ys ≡ true
distinct_right [] ys h = h
distinct_right (x ∷ xs) ys h = distinct_right xs ys (and_right (not (has x (xs ++ ys))) _ h)
