-- Conjunctions and disjunctions, and what their parts are.
use Rattle.std.specs.Prelude.{◌≡◌, ◌≤◌, Bool, true, false, cond, ◌&&◌, ◌||◌, not}
use Rattle.std.proofs.Common.{refl, arith}
pub use Rattle.std.proofs.lemmas.Bool.{and_from as and_of, and_parts, or_left, or_right, or_from as neither, not-false as not_false, not-true as not_true, not_from_false as is_not_true, false_from_ne_true as never_true}

-- ## Conjunctions

pub and_left : (a b : Bool) → (a && b) ≡ true → a ≡ true
and_left true b h = refl
and_left false b h = absurd (cc)

pub and_right : (a b : Bool) → (a && b) ≡ true → b ≡ true
and_right true b h = h
and_right false b h = absurd (cc)

pub and_true : (a : Bool) → (a && true) ≡ a
and_true true = refl
and_true false = refl

pub and_and : (a b c : Bool) → ((a && b) && c) ≡ (a && (b && c))
and_and true b c = refl
and_and false b c = refl

-- ## Disjunctions

pub not_left : (a b : Bool) → (a || b) ≡ false → a ≡ false
not_left true b h = absurd (cc)
not_left false b h = refl

pub not_right : (a b : Bool) → (a || b) ≡ false → b ≡ false
not_right true b h = absurd (cc)
not_right false b h = h

pub or_right_false : (a : Bool) → (a || false) ≡ a
or_right_false true = refl
or_right_false false = refl

pub or_or : (a b c : Bool) → ((a || b) || c) ≡ (a || (b || c))
or_or true b c = refl
or_or false b c = refl

pub or_swap : (a b : Bool) → (a || b) ≡ (b || a)
or_swap true true = refl
or_swap true false = refl
or_swap false true = refl
or_swap false false = refl

pub or_around : (a b c : Bool) → (b || (a || c)) ≡ ((a || b) || c)
or_around true true c = refl
or_around true false c = refl
or_around false b c = refl

pub or_same : {a b c d : Bool} → a ≡ c → b ≡ d → (a || b) ≡ (c || d)
or_same p q = rw (p, q) refl

-- ## Negations

pub not_either : (a b c : Bool) → (not b && (not a && c)) ≡ (not (a || b) && c)
not_either true true c = refl
not_either true false c = refl
not_either false b c = refl

pub false_true : {b : Bool} → b ≡ true → b ≡ false → ⊥
false_true h k = absurd (cc)

-- ## As numbers

pub one_or_none : (b : Bool) → cond b 1 0 ≤ 1
one_or_none true = omega arith
one_or_none false = omega arith
