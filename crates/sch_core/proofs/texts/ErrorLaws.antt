-- An error is out of memory, names a fault, or names what exceeds a limit: of those that are not memory there is one at most.
use Rattle.std.proofs.Common.{◌≡◌, ◌≢◌, ℕ, Bool, true, false, cond, Option, Some, None, refl, sym, ap, ◌∙◌, subst}
use Rattle.std.proofs.lemmas.Option.{none-some}
use Rattle.sch_word.proofs.facts.Lists.{some_same}
use Rattle.sch_sketch.specs.declared.fault.Fault.{Fault}
use Rattle.sch_sketch.specs.declared.fault.Fault.TheVariants as fault
use Rattle.sch_core.specs.Answer.{IsErrorFor, IsErrorBy}
use Rattle.sch_core.specs.Excess.{at_place}
use Rattle.sch_core.specs.declared.error.CoreError.{CoreError}
use Rattle.sch_core.specs.declared.error.CoreError.TheVariants as errors
use Rattle.sch_core.specs.declared.error.Kind.{Kind}
use Rattle.sch_core.specs.declared.error.Kind.TheVariants as kinds

left_is : {p q : Kind × ℕ} → Some p ≡ Some q → p.0 ≡ q.0
left_is e = ap (λ p. p.0) (some_same e)

right_is : {p q : Kind × ℕ} → Some p ≡ Some q → p.1 ≡ q.1
right_is e = ap (λ p. p.1) (some_same e)

-- only these are counted
abbrev pub IsCounted : Kind → Type 0
IsCounted kinds.Variables = Unit {0}
IsCounted kinds.Free = Unit {0}
IsCounted _ = ⊥

pub excess_counted : (a b : Bool) (k : Kind) → cond a (cond b None (Some kinds.Free)) (Some kinds.Variables) ≡ Some k → IsCounted k
excess_counted true true k e = absurd (none-some _ e)
excess_counted true false k e = subst IsCounted (some_same e) tt
excess_counted false b k e = subst IsCounted (some_same e) tt

pub place_counted : (at : ℕ) (o : Option Kind) (others : Option (Kind × ℕ)) (k : Kind) (at' : ℕ) → at_place at o others ≡ Some (k, at') → ((j : Kind) → o ≡ Some j → IsCounted j) →
    (others ≡ Some (k, at') → IsCounted k) → IsCounted k
place_counted at (Some j) others k at' e h r = h k (ap Some (left_is e))
place_counted at None others k at' e h r = r e

-- the error that names a fault
pub error_for : Fault → CoreError
error_for (fault.KeywordDefined at) = errors.KeywordDefined at
error_for (fault.BadForm at) = errors.BadForm at
error_for (fault.Unbound at x) = errors.Unbound at x
error_for (fault.Operands at) = errors.Limit kinds.Operands at
error_for (fault.Core at) = errors.Limit kinds.Core at

pub named_by : (e : CoreError) (f : Fault) → IsErrorFor e f → e ≡ error_for f
unfolding error_for
named_by errors.Memory f h = absurd h
named_by (errors.BadForm at) f h = sym (ap error_for h)
named_by (errors.Unbound at x) f h = sym (ap error_for h)
named_by (errors.KeywordDefined at) f h = sym (ap error_for h)
named_by (errors.Limit kinds.Operands at) f h = sym (ap error_for h)
named_by (errors.Limit kinds.Core at) f h = sym (ap error_for h)
named_by (errors.Limit kinds.Variables at) f h = absurd h
named_by (errors.Limit kinds.Free at) f h = absurd h

module _ (IsFault : Fault → Type 0) (Exceeds : Kind → ℕ → Type 0) where
  pub faulty_error : (e : CoreError) (f : Fault) → IsErrorFor e f → IsFault f → IsErrorBy IsFault Exceeds e
  faulty_error errors.Memory f i h = absurd i
  faulty_error (errors.BadForm at) f i h = (f, i, h)
  faulty_error (errors.Unbound at x) f i h = (f, i, h)
  faulty_error (errors.KeywordDefined at) f i h = (f, i, h)
  faulty_error (errors.Limit kinds.Operands at) f i h = (f, i, h)
  faulty_error (errors.Limit kinds.Core at) f i h = (f, i, h)
  faulty_error (errors.Limit kinds.Variables at) f i h = absurd i
  faulty_error (errors.Limit kinds.Free at) f i h = absurd i

  pub excessive_error : (kind : Kind) (at : ℕ) → IsCounted kind → Exceeds kind at → IsErrorBy IsFault Exceeds (errors.Limit kind at)
  excessive_error kinds.Variables at c h = h
  excessive_error kinds.Free at c h = h
  excessive_error kinds.Operands at c h = absurd c
  excessive_error kinds.Core at c h = absurd c

  -- an error that is not memory, and why
  abbrev pub Refused : Type 0
  Refused = (e : CoreError) × (e ≢ errors.Memory) × IsErrorBy IsFault Exceeds e

  pub refused : (f : Fault) → IsFault f → Refused
  refused (fault.KeywordDefined at) h = (errors.KeywordDefined at, λ e. cc, (fault.KeywordDefined at, refl, h))
  refused (fault.BadForm at) h = (errors.BadForm at, λ e. cc, (fault.BadForm at, refl, h))
  refused (fault.Unbound at x) h = (errors.Unbound at x, λ e. cc, (fault.Unbound at x, refl, h))
  refused (fault.Operands at) h = (errors.Limit kinds.Operands at, λ e. cc, (fault.Operands at, refl, h))
  refused (fault.Core at) h = (errors.Limit kinds.Core at, λ e. cc, (fault.Core at, refl, h))

  pub exceeding : (kind : Kind) (at : ℕ) → IsCounted kind → Exceeds kind at → Refused
  exceeding kinds.Variables at c h = (errors.Limit kinds.Variables at, λ e. cc, h)
  exceeding kinds.Free at c h = (errors.Limit kinds.Free at, λ e. cc, h)
  exceeding kinds.Operands at c h = absurd c
  exceeding kinds.Core at c h = absurd c

  -- where there is no fault and nothing exceeds a limit, memory is the only error
  pub only_memory : ((f : Fault) → IsFault f → ⊥) → ((kind : Kind) (at : ℕ) → Exceeds kind at → ⊥) → (e : CoreError) → IsErrorBy IsFault Exceeds e → e ≡ errors.Memory
  only_memory clean fit errors.Memory h = refl
  only_memory clean fit (errors.BadForm at) (f, e, h) = absurd (clean f h)
  only_memory clean fit (errors.Unbound at x) (f, e, h) = absurd (clean f h)
  only_memory clean fit (errors.KeywordDefined at) (f, e, h) = absurd (clean f h)
  only_memory clean fit (errors.Limit kinds.Operands at) (f, e, h) = absurd (clean f h)
  only_memory clean fit (errors.Limit kinds.Core at) (f, e, h) = absurd (clean f h)
  only_memory clean fit (errors.Limit kinds.Variables at) h = absurd (fit kinds.Variables at h)
  only_memory clean fit (errors.Limit kinds.Free at) h = absurd (fit kinds.Free at h)

  -- why there is an error: a fault that it names, or what exceeds a limit
  data Cause : CoreError → Type 0 where
    faulty : (e : CoreError) (f : Fault) → IsErrorFor e f → IsFault f → Cause e
    excessive : (k : Kind) (at : ℕ) → Exceeds k at → Cause (errors.Limit k at)

  cause : (e : CoreError) → e ≢ errors.Memory → IsErrorBy IsFault Exceeds e → Cause e
  cause errors.Memory n h = absurd (n refl)
  cause (errors.BadForm at) n (f, e, h) = faulty _ f e h
  cause (errors.Unbound at x) n (f, e, h) = faulty _ f e h
  cause (errors.KeywordDefined at) n (f, e, h) = faulty _ f e h
  cause (errors.Limit kinds.Operands at) n (f, e, h) = faulty _ f e h
  cause (errors.Limit kinds.Core at) n (f, e, h) = faulty _ f e h
  cause (errors.Limit kinds.Variables at) n h = excessive kinds.Variables at h
  cause (errors.Limit kinds.Free at) n h = excessive kinds.Free at h

  -- where there is one fault at most, one excess at most, and never both
  module _ (fault_one : (f g : Fault) → IsFault f → IsFault g → f ≡ g)
      (exceeds_one : (k k' : Kind) (at at' : ℕ) → Exceeds k at → Exceeds k' at' → ◌≡◌ {A = Option (Kind × ℕ)} (Some (k, at)) (Some (k', at')))
      (exceeds_faultless : (k : Kind) (at : ℕ) (f : Fault) → Exceeds k at → IsFault f → ⊥) where
    cause_one : (e e' : CoreError) → Cause e → Cause e' → e ≡ e'
    cause_one e e' (faulty _ f p a) (faulty _ g q b) = named_by e f p ∙ ap error_for (fault_one f g a b) ∙ sym (named_by e' g q)
    cause_one e e' (faulty _ f p a) (excessive k at b) = absurd (exceeds_faultless k at f b a)
    cause_one e e' (excessive k at a) (faulty _ g q b) = absurd (exceeds_faultless k at g a b)
    cause_one e e' (excessive k at a) (excessive k' at' b) =
        let i = exceeds_one k k' at at' a b in
        ap (λ n. errors.Limit k n) (right_is i) ∙ ap (λ n. errors.Limit n at') (left_is i)

    pub one_error : (e e' : CoreError) → e ≢ errors.Memory → e' ≢ errors.Memory → IsErrorBy IsFault Exceeds e → IsErrorBy IsFault Exceeds e' → e ≡ e'
    one_error e e' n m a b = cause_one e e' (cause e n a) (cause e' m b)
