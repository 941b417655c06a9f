-- Sets as tests of what holds behind an expression.
use Rattle.std.proofs.Common.{◌≡◌, ℕ, Bool, true, false, cond, None, refl, ap, sym, ◌∙◌}
use Rattle.std.specs.Prelude.{nat_eq, ◌||◌}
use Rattle.std.specs.FinSet as set
use Rattle.std.proofs.Math.Path.{fun_ext}
use Rattle.sch_sets.specs.Members.{NumberSet}
use Rattle.sch_sets.proofs.Membership.{contains-empty, contains-insert, contains-union}
use Rattle.sch_word.proofs.facts.Booleans.{or_right_false}
use Rattle.sch_control.specs.declared.operation.Operation.{Operation}
use Rattle.sch_control.specs.flow.Live.{known}
use Rattle.sch_control.specs.flow.LiveTests.{behind, by_result}

same_either : (s : NumberSet) (x : ℕ) (r : Bool) → behind s s x r ≡ set.contains s x
same_either s x true = refl
same_either s x false = refl

pub one_set : (s : NumberSet) (f : ℕ → Bool) → ((x : ℕ) → set.contains s x ≡ f x) → behind s s ≡ (λ x r. f x)
one_set s f h = fun_ext (λ x. fun_ext (λ r. same_either s x r ∙ h x))

pub two_sets : (s t : NumberSet) (f g : ℕ → Bool) → ((x : ℕ) → set.contains s x ≡ f x) → ((x : ℕ) → set.contains t x ≡ g x) → behind s t ≡ (λ x r. cond r (f x) (g x))
two_sets s t f g h k = fun_ext (λ x. fun_ext (λ r. by r x)) where
  by : (r : Bool) (x : ℕ) → behind s t x r ≡ cond r (f x) (g x)
  by true x = h x
  by false x = k x

pub unknown_behind : (o : Operation ℕ) (t f s : NumberSet) → known o ≡ None → s ≡ set.union t f → (x : ℕ) → set.contains s x ≡ by_result (known o) (behind t f x)
unknown_behind o t f s e u x = ap (λ z. set.contains z x) u ∙ (contains-union t f x ∙ ap (λ k. by_result k (behind t f x)) (sym e))

-- the set of the return address alone
pub link_only : (s0 s : NumberSet) → s0 ≡ set.empty → s ≡ set.insert s0 0 → (x : ℕ) → set.contains s x ≡ nat_eq x 0
link_only s0 s none put x =
    ap (λ q. set.contains q x) put ∙ (contains-insert s0 0 x ∙ (ap (λ z. nat_eq x 0 || z) (ap (λ q. set.contains q x) none ∙ contains-empty x) ∙ or_right_false (nat_eq x 0)))
