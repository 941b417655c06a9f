-- Sets of numbers: what is in a union, and in a set without some numbers.
use Rattle.std.proofs.Common.{◌≡◌, ℕ, zero, suc, Bool, true, false, List, [], ◌∷◌, refl, sym, subst}
use Rattle.std.specs.Prelude.{nat_eq, ◌||◌}
use Rattle.std.proofs.lemmas.Bool.{eqb-true}
use Rattle.sch_word.specs.trees.NumberSets.{has, unless, insert, union, In}
use Rattle.sch_word.specs.trees.Bindings.{remove, without, scope_with, pushed}
use Rattle.sch_cells.specs.Variables.{without_each}
use Rattle.sch_word.proofs.facts.NumberTests.{differ, same as self}
use Rattle.sch_word.proofs.facts.NumberSets.{in_more, in_here}

-- another number stays
pub remove_other : (x y : ℕ) (xs : List ℕ) → nat_eq x y ≡ false → In x xs → In x (remove y xs)
remove_other x y [] d h = h
remove_other x y (z ∷ xs) d h = go (remove_other x y xs d) (nat_eq z y) refl (nat_eq x z) refl h
  where
    go : (In x xs → In x (remove y xs)) → (b : Bool) → nat_eq z y ≡ b → (c : Bool) → nat_eq x z ≡ c → (c || has x xs) ≡ true → In x (unless b z (remove y xs))
    go deeper true e true f k = absurd (let q : x ≡ z = eqb-true x z f in let r : nat_eq x y ≡ true = rw q e in cc)
    go deeper true e false f k = deeper k
    go deeper false e true f k = rw f refl
    go deeper false e false f k = rw f (deeper k)

in_cons : (x y : ℕ) (xs : List ℕ) → nat_eq x y ≡ false → In x (y ∷ xs) → In x xs
in_cons x y xs d h = go (nat_eq x y) d h
  where
    go : (b : Bool) → b ≡ false → (b || has x xs) ≡ true → In x xs
    go true e k = absurd (cc)
    go false e k = k

pub insert_rest : (x y : ℕ) (xs : List ℕ) → nat_eq x y ≡ false → In x (insert y xs) → In x xs
insert_rest x y xs d h = go (has y xs) h
  where
    go : (b : Bool) → In x (unless b y xs) → In x xs
    go true k = k
    go false k = in_cons x y xs d k

pub union_within : (xs ys zs : List ℕ) → ((x : ℕ) → In x xs → In x zs) → ((x : ℕ) → In x ys → In x zs) → (x : ℕ) → In x (union xs ys) → In x zs
union_within [] ys zs f g x h = g x h
union_within (y ∷ xs) ys zs f g x h = go (union_within xs ys zs (λ z i. f z (in_more z y xs i)) g x) (nat_eq x y) refl
  where
    go : (In x (union xs ys) → In x zs) → (b : Bool) → nat_eq x y ≡ b → In x zs
    go deeper true e = subst (λ z. In z zs) (sym (eqb-true x y e)) (f y (in_here y xs))
    go deeper false e = deeper (insert_rest x y (union xs ys) e h)

pub remove_in : (x y : ℕ) (xs : List ℕ) → In x (remove y xs) → In x xs
remove_in x y [] h = h
remove_in x y (z ∷ xs) h = go (remove_in x y xs) (nat_eq z y) (nat_eq x z) refl h
  where
    go : (In x (remove y xs) → In x xs) → (b c : Bool) → nat_eq x z ≡ c → In x (unless b z (remove y xs)) → In x (z ∷ xs)
    go deeper true c e k = in_more x z xs (deeper k)
    go deeper false true e k = rw e refl
    go deeper false false e k = in_more x z xs (deeper (in_cons x z (remove y xs) e k))

remove_not : (y : ℕ) (xs : List ℕ) → has y (remove y xs) ≡ false
remove_not y [] = refl
remove_not y (z ∷ xs) = go (nat_eq z y) refl (nat_eq y z) refl (remove_not y xs)
  where
    go : (b : Bool) → nat_eq z y ≡ b → (c : Bool) → nat_eq y z ≡ c → has y (remove y xs) ≡ false → has y (unless b z (remove y xs)) ≡ false
    go true e c f k = k
    go false e true f k = absurd (let q : y ≡ z = eqb-true y z f in let r : nat_eq z y ≡ true = rw q (self z) in cc)
    go false e false f k = rw f k

remove_differs : (x y : ℕ) (xs : List ℕ) → In x (remove y xs) → nat_eq x y ≡ false
remove_differs x y xs h = differ x y (λ q. let r : has y (remove y xs) ≡ true = subst (λ z. has z (remove y xs) ≡ true) q h in let n = remove_not y xs in cc)

pub without_scope : (a m : ℕ) (xs S : List ℕ) → ((y : ℕ) → In y xs → In y (scope_with a m S)) → (y : ℕ) → In y (without a m xs) → In y S
without_scope a zero xs S f y h = f y h
without_scope a (suc m) xs S f y h =
    in_cons y a S (remove_differs y a (without (suc a) m xs) h) (without_scope (suc a) m xs (a ∷ S) f y (remove_in y a (without (suc a) m xs) h))

-- the same for any list of numbers
pub without_each_scope : (ys xs S : List ℕ) → ((y : ℕ) → In y xs → In y (pushed ys S)) → (y : ℕ) → In y (without_each ys xs) → In y S
without_each_scope [] xs S f y h = f y h
without_each_scope (a ∷ ys) xs S f y h =
    in_cons y a S (remove_differs y a (without_each ys xs) h) (without_each_scope ys xs (a ∷ S) f y (remove_in y a (without_each ys xs) h))
