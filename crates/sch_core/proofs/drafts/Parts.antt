-- The drafts of a node's parts: all of them, all but the last, and the last.
use Rattle.std.proofs.Common.{◌≡◌, ◌≤◌, ◌+◌, ℕ, zero, suc, Bool, true, false, length, ap, subst, arith}
use Rattle.sch_names.specs.Scope.{Scope, onto, VariableNames}
use Rattle.sch_sketch.specs.Draft.{Draft, Drafts, no_drafts, and_draft, count}
use Rattle.sch_sketch.specs.DraftMeasures.{over, over_each}
use Rattle.sch_sketch.specs.Sketch.{Kind, binding, scope_in, front, last, first, but_first}
use Rattle.sch_core.specs.SoundDrafts.{IsSound, AreSound}

pub front_count : (es : Drafts) (n : ℕ) → count es ≡ suc n → count (front es) ≡ n
front_count no_drafts n h = absurd (omega (arith, h))
front_count (and_draft e no_drafts) n h = omega (arith, h)
front_count (and_draft e (and_draft f fs)) zero h = absurd (omega (arith, h))
front_count (and_draft e (and_draft f fs)) (suc n) h = ap suc (front_count (and_draft f fs) n (omega (arith, h)))

-- what is summed over the nodes of drafts, of the parts apart
module _ (here : Draft → ℕ) where
  pub front_sum : (es : Drafts) → 1 ≤ count es → over_each 0 (λ a b. a + b) here (front es) + over 0 (λ a b. a + b) here (last es) ≡ over_each 0 (λ a b. a + b) here es
  front_sum no_drafts h = absurd (omega (arith, h))
  front_sum (and_draft e no_drafts) h = omega arith
  front_sum (and_draft e (and_draft f fs)) h = omega (arith, front_sum (and_draft f fs) (omega arith))

  pub first_sum : (es : Drafts) → 1 ≤ count es → over 0 (λ a b. a + b) here (first es) + over_each 0 (λ a b. a + b) here (but_first es) ≡ over_each 0 (λ a b. a + b) here es
  first_sum no_drafts h = absurd (omega (arith, h))
  first_sum (and_draft e es) h = omega arith

pub front_sound : (m : ℕ) (es : Drafts) → AreSound m es → AreSound m (front es)
front_sound m no_drafts h = tt
front_sound m (and_draft e no_drafts) h = tt
front_sound m (and_draft e (and_draft f fs)) h = (h.0, front_sound m (and_draft f fs) h.1)

pub last_sound : (m : ℕ) (es : Drafts) → 1 ≤ count es → AreSound m es → IsSound m (last es)
last_sound m no_drafts c h = absurd (omega (arith, c))
last_sound m (and_draft e no_drafts) c h = h.0
last_sound m (and_draft e (and_draft f fs)) c h = last_sound m (and_draft f fs) (omega arith) h.1

pub first_sound : (m : ℕ) (es : Drafts) → 1 ≤ count es → AreSound m es → IsSound m (first es)
first_sound m no_drafts c h = absurd (omega (arith, c))
first_sound m (and_draft e es) c h = h.0

pub but_first_sound : (m : ℕ) (es : Drafts) → AreSound m es → AreSound m (but_first es)
but_first_sound m no_drafts h = tt
but_first_sound m (and_draft e es) h = h.1

abbrev pub is_none : Drafts → Bool
is_none no_drafts = true
is_none (and_draft e es) = false

-- each draft in the scope of its part
abbrev pub InPlace : Kind → (first : Bool) → Scope → Drafts → Type 0
InPlace k first s no_drafts = Unit {0}
InPlace k first s (and_draft e es) = IsSound (length (scope_in k first (is_none es) s)) e × InPlace k false s es

-- a kind whose parts all stand in scopes of one length
abbrev pub IsEven : Kind → Scope → ℕ → Type 0
IsEven k s m = (first final : Bool) → length (scope_in k first final s) ≡ m

pub all_in : (k : Kind) (first : Bool) (m : ℕ) (s : Scope) (es : Drafts) → IsEven k s m → InPlace k first s es → AreSound m es
all_in k first m s no_drafts h p = tt
all_in k first m s (and_draft e es) h p = (subst (λ v. IsSound v e) (h first (is_none es)) p.0, all_in k false m s es h p.1)

-- the inits of a binding stand outside its variables, and its body inside
pub inits_in_place : (vs : VariableNames) (first : Bool) (s : Scope) (es : Drafts) → InPlace (binding vs) first s es → AreSound (length s) (front es)
inits_in_place vs first s no_drafts p = tt
inits_in_place vs first s (and_draft e no_drafts) p = tt
inits_in_place vs first s (and_draft e (and_draft f fs)) p = (p.0, inits_in_place vs false s (and_draft f fs) p.1)

pub body_in_place : (vs : VariableNames) (first : Bool) (s : Scope) (es : Drafts) → 1 ≤ count es → InPlace (binding vs) first s es → IsSound (length (onto vs s)) (last es)
body_in_place vs first s no_drafts c p = absurd (omega (arith, c))
body_in_place vs first s (and_draft e no_drafts) c p = p.0
body_in_place vs first s (and_draft e (and_draft f fs)) c p = body_in_place vs false s (and_draft f fs) (omega arith) p.1
