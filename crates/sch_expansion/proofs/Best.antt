-- The fault that is found is the least.
use Rattle.std.proofs.Common.{◌≡◌, ◌⊎◌, inl, inr, ◌≤◌, Bool, true, false, cond, Option, Some, None, nat_le, refl, sym, ◌∙◌, arith}
use Rattle.std.proofs.lemmas.Bool.{leb-true, leb-false}
use Rattle.std.proofs.lemmas.Option.{none-some}
use Rattle.sch_word.proofs.facts.Lists.{some_same}
use Rattle.sch_sketch.specs.declared.fault.Fault.{Fault}
use Rattle.sch_expansion.specs.FaultOrder.{rank, reported}

-- some fault that is none after g
pub record AtMost (b : Option Fault) (g : Fault) : Type 0 where
  pub fault : Fault
  pub is : b ≡ Some fault
  pub below : rank fault ≤ rank g

-- from the fault `a` by the faults `F` to the fault `b`: the least of all
pub record Best (F : Fault → Type 0) (a b : Option Fault) : Type 0 where
  pub from : (f : Fault) → b ≡ Some f → (a ≡ Some f) ⊎ F f
  pub below : (g : Fault) → F g → AtMost b g
  pub kept : (g : Fault) → a ≡ Some g → AtMost b g

pub none_new : (a : Option Fault) → Best (λ f. ⊥) a a
none_new a = record { from = λ f e. inl e; below = λ g h. absurd h; kept = λ g e. record { fault = g; is = e; below = omega arith } }

pub and_then : {F G : Fault → Type 0} {a b c : Option Fault} → Best F a b → Best G b c → Best (λ f. F f ⊎ G f) a c
and_then {F} {G} {a} {b} {c} p q =
    let on : (g : Fault) → AtMost b g → AtMost c g = λ g m. let k = q.kept m.fault m.is in record { fault = k.fault; is = k.is; below = omega (arith, k.below, m.below) } in
    record {
      from = λ f e. elim (q.from f e) [ inl h ↦ elim (p.from f h) [ inl h ↦ inl h | inr h ↦ inr (inl h) ] | inr h ↦ inr (inr h) ];
      below = λ g h. elim h [ inl h ↦ on g (p.below g h) | inr h ↦ q.below g h ];
      kept = λ g e. on g (p.kept g e);
    }

-- the same faults by other words
pub best_by : {F G : Fault → Type 0} {a b : Option Fault} → ((f : Fault) → F f → G f) → ((f : Fault) → G f → F f) → Best F a b → Best G a b
best_by to back p = record {
  from = λ f e. elim (p.from f e) [ inl h ↦ inl h | inr h ↦ inr (to f h) ];
  below = λ g h. p.below g (back g h);
  kept = p.kept;
}

reported_by : (f g : Fault) (t : Bool) → nat_le (rank g) (rank f) ≡ t → Best (λ h. h ≡ f) (Some g) (cond t (Some g) (Some f))
reported_by f g true e = record { from = λ h i. inl i; below = λ h i. record { fault = g; is = refl; below = rw i (leb-true _ _ e) }; kept = λ h i. record { fault = g; is = refl; below = rw (some_same i) (omega arith) } }
reported_by f g false e = record { from = λ h i. inr (sym (some_same i)); below = λ h i. record { fault = f; is = refl; below = rw i (omega arith) }; kept = λ h i. record { fault = f; is = refl; below = rw (sym (some_same i)) (omega (arith, leb-false _ _ e)) } }

pub one_new : (f : Fault) (a : Option Fault) → Best (λ h. h ≡ f) a (reported f a)
one_new f None = record { from = λ h i. inr (sym (some_same i)); below = λ h i. record { fault = f; is = refl; below = rw i (omega arith) }; kept = λ h i. absurd (none-some _ i) }
one_new f (Some g) = reported_by f g _ refl

-- no fault so far
none_by : {F : Fault → Type 0} {b : Option Fault} (a : Option Fault) → Best F a b → b ≡ None → a ≡ None
none_by None p e = refl
none_by (Some g) p e = absurd (none-some _ (sym e ∙ (p.kept g refl).is))

pub none_before : {F : Fault → Type 0} {a b : Option Fault} → Best F a b → b ≡ None → a ≡ None
none_before {F} {a} {b} p e = none_by a p e

pub none_reported : (f : Fault) (a : Option Fault) → reported f a ≡ None → ⊥
none_reported f a e = none-some _ (sym e ∙ ((one_new f a).below f refl).is)
