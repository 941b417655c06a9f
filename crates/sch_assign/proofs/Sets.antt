-- Sets of variables without some: what is taken away from a union, from a mapped set, and twice.
use Rattle.std.proofs.Common.{◌≡◌, ℕ, zero, suc, Bool, true, false, List, [], ◌∷◌, map, refl, sym, ap, ◌∙◌}
use Rattle.std.specs.Prelude.{IsTrue, ◌||◌, ◌&&◌, not, nat_eq}
use Rattle.std.proofs.lemmas.Bool.{eqb-true}
use Rattle.sch_word.specs.trees.NumberSets.{has, unless, insert, union, without_repeats}
use Rattle.sch_word.specs.trees.Bindings.{numbers, remove, without}
use Rattle.sch_cells.specs.Variables.{without_each}
use Rattle.sch_word.proofs.facts.Booleans.{or_swap, and_of}

-- a set without those of which something holds
abbrev pub drop : (ℕ → Bool) → List ℕ → List ℕ
drop p [] = []
drop p (x ∷ xs) = unless (p x) x (drop p xs)

pub remove_is : (y : ℕ) (xs : List ℕ) → remove y xs ≡ drop (λ x. nat_eq x y) xs
remove_is y [] = refl
remove_is y (x ∷ xs) = rw (remove_is y xs) refl

drop_unless : (p : ℕ → Bool) (b : Bool) (x : ℕ) (xs : List ℕ) → drop p (unless b x xs) ≡ unless (b || p x) x (drop p xs)
drop_unless p true x xs = refl
drop_unless p false x xs = refl

pub drop_twice : (p q : ℕ → Bool) (xs : List ℕ) → drop p (drop q xs) ≡ drop (λ x. q x || p x) xs
drop_twice p q [] = refl
drop_twice p q (x ∷ xs) = drop_unless p (q x) x (drop q xs) ∙ rw (drop_twice p q xs) refl

pub drop_same : (p q : ℕ → Bool) (xs : List ℕ) → ((x : ℕ) → p x ≡ q x) → drop p xs ≡ drop q xs
drop_same p q [] h = refl
drop_same p q (x ∷ xs) h = rw (h x, drop_same p q xs h) refl

pub without_is : (x m : ℕ) (xs : List ℕ) → without x m xs ≡ drop (λ z. has z (numbers x m)) xs
without_is x zero xs = sym (nothing xs)
  where
    nothing : (xs : List ℕ) → drop (λ z. false) xs ≡ xs
    nothing [] = refl
    nothing (x ∷ xs) = ap (λ l. x ∷ l) (nothing xs)
without_is x (suc m) xs =
    ap (remove x) (without_is (suc x) m xs) ∙ remove_is x (drop (λ z. has z (numbers (suc x) m)) xs)
    ∙ drop_twice (λ z. nat_eq z x) (λ z. has z (numbers (suc x) m)) xs
    ∙ drop_same (λ z. has z (numbers (suc x) m) || nat_eq z x) (λ z. nat_eq z x || has z (numbers (suc x) m)) xs (λ z. or_swap (has z (numbers (suc x) m)) (nat_eq z x))

pub each_is : (ys xs : List ℕ) → without_each ys xs ≡ drop (λ z. has z ys) xs
each_is [] xs = sym (nothing xs)
  where
    nothing : (xs : List ℕ) → drop (λ z. false) xs ≡ xs
    nothing [] = refl
    nothing (x ∷ xs) = ap (λ l. x ∷ l) (nothing xs)
each_is (y ∷ ys) xs =
    ap (remove y) (each_is ys xs) ∙ remove_is y (drop (λ z. has z ys) xs) ∙ drop_twice (λ z. nat_eq z y) (λ z. has z ys) xs
    ∙ drop_same (λ z. has z ys || nat_eq z y) (λ z. nat_eq z y || has z ys) xs (λ z. or_swap (has z ys) (nat_eq z y))

-- what is kept is there as before
has_drop : (p : ℕ → Bool) (y : ℕ) (xs : List ℕ) → p y ≡ false → has y (drop p xs) ≡ has y xs
has_drop p y [] h = refl
has_drop p y (x ∷ xs) h = go (p x) refl (nat_eq y x) refl (has_drop p y xs h)
  where
    go : (b : Bool) → p x ≡ b → (c : Bool) → nat_eq y x ≡ c → has y (drop p xs) ≡ has y xs → has y (unless b x (drop p xs)) ≡ (nat_eq y x || has y xs)
    go true e true d k = absurd (let q : p y ≡ true = rw (eqb-true y x d) e in cc)
    go true e false d k = rw d k
    go false e c d k = rw k refl

drop_insert : (p : ℕ → Bool) (x : ℕ) (xs : List ℕ) (b : Bool) → p x ≡ b → drop p (insert x xs) ≡ unless (b || has x (drop p xs)) x (drop p xs)
drop_insert p x xs true e = drop_unless p (has x xs) x xs ∙ rw e (go (has x xs))
  where
    go : (b : Bool) → unless (b || true) x (drop p xs) ≡ drop p xs
    go true = refl
    go false = refl
drop_insert p x xs false e = drop_unless p (has x xs) x xs ∙ rw (e, has_drop p x xs e) (go (has x xs))
  where
    go : (b : Bool) → unless (b || false) x (drop p xs) ≡ unless b x (drop p xs)
    go true = refl
    go false = refl

pub drop_union : (p : ℕ → Bool) (xs ys : List ℕ) → drop p (union xs ys) ≡ union (drop p xs) (drop p ys)
drop_union p [] ys = refl
drop_union p (x ∷ xs) ys = drop_insert p x (union xs ys) (p x) refl ∙ rw (drop_union p xs ys) (go (p x))
  where
    go : (b : Bool) → unless (b || has x (union (drop p xs) (drop p ys))) x (union (drop p xs) (drop p ys)) ≡ union (unless b x (drop p xs)) (drop p ys)
    go true = refl
    go false = refl

pub drop_map : (p : ℕ → Bool) (f : ℕ → ℕ) (xs : List ℕ) → drop p (map f xs) ≡ map f (drop (λ x. p (f x)) xs)
drop_map p f [] = refl
drop_map p f (x ∷ xs) = rw (drop_map p f xs) (go (p (f x)))
  where
    go : (b : Bool) → unless b (f x) (map f (drop (λ x. p (f x)) xs)) ≡ map f (unless b x (drop (λ x. p (f x)) xs))
    go true = refl
    go false = refl

-- ## No repeats

distinct_insert : (x : ℕ) (xs : List ℕ) → IsTrue (without_repeats xs) → IsTrue (without_repeats (insert x xs))
distinct_insert x xs h = go (has x xs) refl
  where
    go : (b : Bool) → has x xs ≡ b → IsTrue (without_repeats (unless b x xs))
    go true e = h
    go false e = and_of _ _ (ap not e) h

pub distinct_union : (xs ys : List ℕ) → IsTrue (without_repeats ys) → IsTrue (without_repeats (union xs ys))
distinct_union [] ys h = h
distinct_union (x ∷ xs) ys h = distinct_insert x (union xs ys) (distinct_union xs ys h)

fewer : (p : ℕ → Bool) (y : ℕ) (xs : List ℕ) → has y xs ≡ false → has y (drop p xs) ≡ false
fewer p y [] h = refl
fewer p y (x ∷ xs) h = go (p x) (nat_eq y x) refl (fewer p y xs)
  where
    go : (b c : Bool) → nat_eq y x ≡ c → (has y xs ≡ false → has y (drop p xs) ≡ false) → has y (unless b x (drop p xs)) ≡ false
    go b true d k = absurd (let q : (true || has y xs) ≡ false = rw d at h in cc)
    go true false d k = let q : (false || has y xs) ≡ false = rw d at h in k q
    go false false d k = let q : (false || has y xs) ≡ false = rw d at h in rw d (k q)

pub distinct_drop : (p : ℕ → Bool) (xs : List ℕ) → IsTrue (without_repeats xs) → IsTrue (without_repeats (drop p xs))
distinct_drop p [] h = refl
distinct_drop p (x ∷ xs) h = go (p x) (first (has x xs) refl) (distinct_drop p xs (rest (has x xs) h))
  where
    first : (b : Bool) → has x xs ≡ b → b ≡ false
    first true e = absurd (let q : (not true && without_repeats xs) ≡ true = rw e at h in cc)
    first false e = refl

    rest : (b : Bool) → IsTrue (not b && without_repeats xs) → IsTrue (without_repeats xs)
    rest true k = absurd (cc)
    rest false k = k

    go : (b : Bool) → has x xs ≡ false → IsTrue (without_repeats (drop p xs)) → IsTrue (without_repeats (unless b x (drop p xs)))
    go true e k = k
    go false e k = and_of _ _ (ap not (fewer p x xs e)) k

pub union_nothing : (xs : List ℕ) → IsTrue (without_repeats xs) → union xs [] ≡ xs
union_nothing [] h = refl
union_nothing (x ∷ xs) h = rw (union_nothing xs (rest (has x xs) h)) (go (has x xs) refl)
  where
    rest : (b : Bool) → IsTrue (not b && without_repeats xs) → IsTrue (without_repeats xs)
    rest true k = absurd (cc)
    rest false k = k

    go : (b : Bool) → has x xs ≡ b → unless (has x xs) x xs ≡ x ∷ xs
    go true e = absurd (let q : (not true && without_repeats xs) ≡ true = rw e at h in cc)
    go false e = rw e refl
