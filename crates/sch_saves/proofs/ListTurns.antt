-- The turns of the loops over variables.
use Rattle.std.proofs.Common.{◌≡◌, ℕ, ◌+◌, List, [], ◌∷◌, refl, ap, ◌∙◌, arith}
use Rattle.std.specs.Prelude.{nat_eq, nat_lt, ◌||◌}
use Rattle.std.specs.FinSet as set
use Rattle.std.proofs.lemmas.Bool.Decides.{nat_tests}
use Rattle.sch_sets.specs.Members.{NumberSet}
use Rattle.sch_sets.proofs.Membership.{contains-empty, contains-insert}
use Rattle.sch_control.specs.Tree.{Expression, save}
use Rattle.sch_saves.specs.LazyRegions.{round}

pub first_init : (s : NumberSet) → s ≡ set.empty → (y : ℕ) → set.contains s y ≡ nat_lt y 0
first_init s none y = ap (λ z. set.contains z y) none ∙ (contains-empty y ∙ grind (arith, nat_tests))

pub first_turn : (s s' : NumberSet) (k : ℕ) → s' ≡ set.insert s k → ((y : ℕ) → set.contains s y ≡ nat_lt y k) → (y : ℕ) → set.contains s' y ≡ nat_lt y (k + 1)
first_turn s s' k h e y = rw h (contains-insert s k y ∙ (ap (λ b. nat_eq y k || b) (e y) ∙ grind (arith, nat_tests)))

pub round_some : (xs : List ℕ) (e : Expression) → (xs ≡ [] → ⊥) → save xs e ≡ round xs e
round_some [] e n = absurd (n refl)
round_some (x ∷ xs) e n = refl

pub round_none : (xs : List ℕ) (e : Expression) → xs ≡ [] → e ≡ round xs e
round_none [] e n = refl
round_none (x ∷ xs) e n = absurd (cc)
