-- The test of a fixnum says what the fact says, and what that is in natural numbers.
use Rattle.std.proofs.Common.{◌≡◌, ℕ, ◌≤◌, ◌<◌, ◌^◌, Bool, true, false, ℤ, pos, negsuc, refl, sym, subst, T, arith}
use Rattle.std.specs.Prelude.{int_le, nat_le, nat_abs}
use Rattle.std.proofs.lemmas.Bool.{le-leb}
use Rattle.std.proofs.lemmas.Bool.Decides.{nat_tests}
use Rattle.std.specs.Int.Signed.{le_z_yes}
use Rattle.sch_word.specs.declared.fix.TheConstants.{FIXNUM_MIN, FIXNUM_MAX}
use Rattle.sch_word.specs.values.Fixnum.{IsFixnum, is_fixnum}
use Rattle.sch_word.proofs.facts.Booleans.{and_of, and_parts}

true_of : (b : Bool) → T b → b ≡ true
true_of true h = refl
true_of false h = absurd h

pub is_fixnum_says : (z : ℤ) → is_fixnum z ≡ true → IsFixnum z
is_fixnum_says z h =
    let both = and_parts (int_le FIXNUM_MIN z) (int_le z FIXNUM_MAX) h in
    record { low = le_z_yes (subst T (sym both.0) tt); high = le_z_yes (subst T (sym both.1) tt) }

pub is_fixnum_holds : (z : ℤ) → IsFixnum z → is_fixnum z ≡ true
is_fixnum_holds z h = and_of (int_le FIXNUM_MIN z) (int_le z FIXNUM_MAX) (true_of (int_le FIXNUM_MIN z) h.low.le) (true_of (int_le z FIXNUM_MAX) h.high.le)

-- ## The range in numbers

at_most : (a b : ℕ) → T (nat_le a b) → a ≤ b
at_most a b h = grind (arith, nat_tests)

-- a fixnum that is not negative, and one that is
pub natural_fixnum : (n : ℕ) → IsFixnum (pos n) → n < 2 ^ 60
natural_fixnum n h = let most : n ≤ nat_abs FIXNUM_MAX = at_most n (nat_abs FIXNUM_MAX) h.high.le in omega (arith, most)

pub negative_fixnum : (n : ℕ) → IsFixnum (negsuc n) → n < 2 ^ 60
negative_fixnum n h = let most : n ≤ nat_abs FIXNUM_MAX = at_most n (nat_abs FIXNUM_MAX) h.low.le in omega (arith, most)

-- a number that is not negative and at most a fixnum
pub lesser_fixnum : (m n : ℕ) → m ≤ n → is_fixnum (pos n) ≡ true → is_fixnum (pos m) ≡ true
lesser_fixnum m n less h =
    let most : n < 2 ^ 60 = natural_fixnum n (is_fixnum_says (pos n) h) in
    le-leb m (nat_abs FIXNUM_MAX) (omega (arith, less, most))
