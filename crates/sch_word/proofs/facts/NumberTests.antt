-- Tests of equal numbers.
use Rattle.std.proofs.Common.{◌≡◌, ℕ, ◌<◌, Bool, true, false, refl, arith}
use Rattle.std.specs.Prelude.{nat_eq}
use Rattle.std.proofs.lemmas.Bool.{eqb-true, eq-eqb}
use Rattle.std.proofs.lemmas.Bool.Decides.{nat_tests}

pub same : (x : ℕ) → nat_eq x x ≡ true
same x = eq-eqb x x refl

pub differ : (x y : ℕ) → (x ≡ y → ⊥) → nat_eq x y ≡ false
differ x y n = go (nat_eq x y) refl
  where
    go : (b : Bool) → nat_eq x y ≡ b → b ≡ false
    go true e = absurd (n (eqb-true x y e))
    go false e = refl

pub below_differs : (x y : ℕ) → x < y → nat_eq x y ≡ false
below_differs x y l = differ x y (λ e. omega (arith, e, l))

pub same_test : (a b c d : ℕ) → (a ≡ b → c ≡ d) → (c ≡ d → a ≡ b) → nat_eq a b ≡ nat_eq c d
same_test a b c d f g = grind (arith, nat_tests, f, g)
