-- Scopes of numbers, and sets of variables seen through them.
use Rattle.std.proofs.Common.{◌≡◌, ℕ, zero, suc, ◌+◌, ◌<◌, Bool, true, false, List, [], ◌∷◌, length, map, refl, ap, ◌∙◌, subst, arith}
use Rattle.std.specs.Prelude.{nat_eq}
use Rattle.std.proofs.lemmas.Bool.{eqb-true}
use Rattle.sch_word.specs.trees.NumberSets.{has, unless, insert, union}
use Rattle.sch_lang.specs.Variables.{outside_one, outside}
use Rattle.sch_rename.specs.Made.{number_at}
use Rattle.sch_word.specs.trees.Bindings.{scope_with, remove, without}
use Rattle.sch_word.proofs.facts.NumberTests.{below_differs, same as self}
use Rattle.sch_word.proofs.facts.NumberSets.{Under, union_under}
use Rattle.sch_word.proofs.facts.Booleans.{or_same}

-- a scope of numbers that fall from the nearest on, all below x
abbrev pub Falls : List ℕ → ℕ → Type 0
Falls [] x = Unit {0}
Falls (y ∷ s) x = (y < x) × Falls s y

pub falls_more : (s : List ℕ) (x y : ℕ) → x < suc y → Falls s x → Falls s y
falls_more [] x y l f = tt
falls_more (z ∷ s) x y l f = (omega (arith, f.0), f.1)

pub falls_with : (x m : ℕ) (s : List ℕ) → Falls s x → Falls (scope_with x m s) (x + m)
falls_with x zero s f = falls_more s x (x + 0) (omega arith) f
falls_with x (suc m) s f = falls_more (scope_with (suc x) m (x ∷ s)) (suc x + m) (x + suc m) (omega arith) (falls_with (suc x) m (x ∷ s) (omega arith, f))

pub with_length : (x m : ℕ) (s : List ℕ) → length s + m ≡ length (scope_with x m s)
with_length x zero s = omega arith
with_length x (suc m) s = let e : length (x ∷ s) + m ≡ length (scope_with (suc x) m (x ∷ s)) = with_length (suc x) m (x ∷ s) in omega (arith, e)

pub inside : (x m : ℕ) (s : List ℕ) (F : ℕ → Type 0) → F (length s + m) → F (length (scope_with x m s))
inside x m s F i = subst F (with_length x m s) i

pub at_below : (s : List ℕ) (x k : ℕ) → Falls s x → k < length s → number_at s k < x
at_below [] x k f l = absurd (omega arith)
at_below (y ∷ s) x zero f l = f.0
at_below (y ∷ s) x (suc k) f l = let h : number_at s k < y = at_below s y k f.1 (omega arith) in omega (arith, h, f.0)

pub at_same : (s : List ℕ) (x j k : ℕ) → Falls s x → j < length s → k < length s → number_at s j ≡ number_at s k → j ≡ k
at_same [] x j k f l r e = absurd (omega arith)
at_same (y ∷ s) x zero zero f l r e = refl
at_same (y ∷ s) x zero (suc k) f l r e = absurd (let h : number_at s k < y = at_below s y k f.1 (omega arith) in omega (arith, h, e))
at_same (y ∷ s) x (suc j) zero f l r e = absurd (let h : number_at s j < y = at_below s y j f.1 (omega arith) in omega (arith, h, e))
at_same (y ∷ s) x (suc j) (suc k) f l r e = ap suc (at_same s y j k f.1 (omega arith) (omega arith) e)

-- two numbers of a scope are the same where their places are
pub same_at : (s : List ℕ) (x k j : ℕ) → Falls s x → k < length s → j < length s → nat_eq (number_at s k) (number_at s j) ≡ nat_eq k j
same_at s x k j f l r = go (nat_eq k j) refl (nat_eq (number_at s k) (number_at s j)) refl
  where
    go : (b : Bool) → nat_eq k j ≡ b → (c : Bool) → nat_eq (number_at s k) (number_at s j) ≡ c → c ≡ b
    go true e true g = refl
    go false e false g = refl
    go true e false g = absurd (let q : k ≡ j = eqb-true k j e in let r : nat_eq (number_at s k) (number_at s j) ≡ true = rw q (self (number_at s j)) in cc)
    go false e true g = absurd (let q : k ≡ j = at_same s x k j f l r (eqb-true (number_at s k) (number_at s j) g) in let r : nat_eq k j ≡ true = rw q (self j) in cc)

-- ## Sets

one_under : (xs : List ℕ) (n : ℕ) → Under xs (suc n) → Under (outside_one xs) n
one_under [] n u = tt
one_under (zero ∷ xs) n u = one_under xs n u.1
one_under (suc x ∷ xs) n u = (omega (arith, u.0), one_under xs n u.1)

pub outside_under : (m : ℕ) (xs : List ℕ) (n : ℕ) → Under xs (n + m) → Under (outside m xs) n
outside_under zero xs n u = let e : n + zero ≡ n = omega arith in subst (λ k. Under xs k) e u
outside_under (suc m) xs n u = one_under (outside m xs) n (outside_under m xs (suc n) (let e : n + suc m ≡ suc n + m = omega arith in subst (λ k. Under xs k) e u))

has_map : (s : List ℕ) (x k : ℕ) (xs : List ℕ) → Falls s x → k < length s → Under xs (length s) → has (number_at s k) (map (number_at s) xs) ≡ has k xs
has_map s x k [] f l u = refl
has_map s x k (j ∷ xs) f l u = or_same (same_at s x k j f l u.0) (has_map s x k xs f l u.1)

insert_map : (s : List ℕ) (x k : ℕ) (xs : List ℕ) → Falls s x → k < length s → Under xs (length s) → insert (number_at s k) (map (number_at s) xs) ≡ map (number_at s) (insert k xs)
insert_map s x k xs f l u = rw (has_map s x k xs f l u) (go (has k xs))
  where
    go : (b : Bool) → unless b (number_at s k) (map (number_at s) xs) ≡ map (number_at s) (unless b k xs)
    go true = refl
    go false = refl

union_map : (s : List ℕ) (x : ℕ) (xs ys : List ℕ) → Falls s x → Under xs (length s) → Under ys (length s) → union (map (number_at s) xs) (map (number_at s) ys) ≡ map (number_at s) (union xs ys)
union_map s x [] ys f u v = refl
union_map s x (k ∷ xs) ys f u v = rw (union_map s x xs ys f u.1 v) (insert_map s x k (union xs ys) f u.0 (union_under xs ys (length s) u.1 v))

pub both : (s : List ℕ) (x : ℕ) {A B : List ℕ} (xs ys : List ℕ) → Falls s x → Under xs (length s) → Under ys (length s) → A ≡ map (number_at s) xs → B ≡ map (number_at s) ys → union A B ≡ map (number_at s) (union xs ys)
both s x xs ys f u v p q = rw (p, q) (union_map s x xs ys f u v)

one_map : (s : List ℕ) (y : ℕ) (xs : List ℕ) → Falls s y → Under xs (suc (length s)) → remove y (map (number_at (y ∷ s)) xs) ≡ map (number_at s) (outside_one xs)
one_map s y [] f u = refl
one_map s y (zero ∷ xs) f u = rw (self y) (one_map s y xs f u.1)
one_map s y (suc k ∷ xs) f u = rw (below_differs (number_at s k) y (at_below s y k f (omega (arith, u.0)))) (ap (λ l. number_at s k ∷ l) (one_map s y xs f u.1))

pub outside_map : (x m : ℕ) (s : List ℕ) (xs : List ℕ) → Falls s x → Under xs (length s + m) → without x m (map (number_at (scope_with x m s)) xs) ≡ map (number_at s) (outside m xs)
outside_map x zero s xs f u = refl
outside_map x (suc m) s xs f u =
    let e : length s + suc m ≡ suc (length s) + m = omega arith in
    let v : Under xs (suc (length s) + m) = subst (λ k. Under xs k) e u in
    ap (remove x) (outside_map (suc x) m (x ∷ s) xs (omega arith, f) v) ∙ one_map s x (outside m xs) f (outside_under m xs (suc (length s)) v)
