-- Front parts and rests of lists, at lengths that a sum gives.
use Rattle.std.proofs.Common.{◌≡◌, ℕ, suc, ◌+◌, List, ◌∷◌, take, drop, ap, arith}

pub take_1 : (n x : ℕ) (bs : List ℕ) → take (n + 1) (x ∷ bs) ≡ x ∷ take n bs
take_1 n x bs = let e : n + 1 ≡ suc n = omega arith in ap (λ k. take k (x ∷ bs)) e

pub take_2 : (n x y : ℕ) (bs : List ℕ) → take (n + 2) (x ∷ y ∷ bs) ≡ x ∷ y ∷ take n bs
take_2 n x y bs = let e : n + 2 ≡ suc (suc n) = omega arith in ap (λ k. take k (x ∷ y ∷ bs)) e

pub take_3 : (n x y z : ℕ) (bs : List ℕ) → take (n + 3) (x ∷ y ∷ z ∷ bs) ≡ x ∷ y ∷ z ∷ take n bs
take_3 n x y z bs = let e : n + 3 ≡ suc (suc (suc n)) = omega arith in ap (λ k. take k (x ∷ y ∷ z ∷ bs)) e

pub drop_1 : (n x : ℕ) (bs : List ℕ) → drop (n + 1) (x ∷ bs) ≡ drop n bs
drop_1 n x bs = let e : n + 1 ≡ suc n = omega arith in ap (λ k. drop k (x ∷ bs)) e
