-- A number that is capped at each digit is the whole number capped.
use Rattle.std.proofs.Common.{◌≡◌, ℕ, ◌+◌, ◌*◌, ◌≤◌, min, arith, ap}
use Rattle.std.proofs.Math.Nat.{mul-le-mul_left}

pub capped_step : (v base d most : ℕ) → 1 ≤ base → min (min (min v most * base) most + d) most ≡ min (v * base + d) most
capped_step v base d most h =
    let a : v * 1 ≤ v * base = mul-le-mul_left v h in
    let b : min v most * 1 ≤ min v most * base = mul-le-mul_left (min v most) h in
    let c : v ≤ most → min v most * base ≡ v * base = λ k. ap (λ n. n * base) (let e : min v most ≡ v = omega arith in e) in
    grind arith
