-- The checks of a call find that no entry is left only where there is none.
use Rattle.std.proofs.Common.{◌≡◌, ℕ, zero, suc, Bool, true, false, List, ◌∷◌, Option, Some, None, refl}
use Rattle.std.specs.Prelude.{slice_get}
use Rattle.sch_word.specs.values.Values.{Value, procedure, Object}
use Rattle.sch_word.specs.runs.Store.{Store}
use Rattle.sch_word.specs.values.Checked.{Checked, passes, refused, exhausted, unreachable, on_passed}
use Rattle.sch_word.specs.runs.Handed.{handed}
use Rattle.sch_word.specs.runs.Computation.{known_procedure, callee, operands, depth_left, entry_left, checked_call}

-- with this many entries left
abbrev pub Exhausts : {A : Type 0} → ℕ → Checked A → Type 0
Exhausts entries exhausted = entries ≡ 0
Exhausts entries _ = Unit {0}

module _ (n : ℕ) where
  exhausts_on : {A B : Type 0} (c : Checked A) (next : A → Checked B) → Exhausts n c → ((a : A) → Exhausts n (next a)) → Exhausts n (on_passed c next)
  exhausts_on (passes a) next h k = k a
  exhausts_on (refused why) next h k = tt
  exhausts_on exhausted next h k = h
  exhausts_on unreachable next h k = tt

  exhausts_handed : (vs : List Value) (spread : Bool) (objects : List Object) → Exhausts n (handed vs spread objects)
  exhausts_handed vs false objects = tt
  exhausts_handed vs true objects = tt

  exhausts_known : {P : Type 0} (p : Option P) → Exhausts n (known_procedure p)
  exhausts_known None = tt
  exhausts_known (Some p) = tt

  exhausts_callee : {P : Type 0} (ps : List P) (vs : List Value) → Exhausts n (callee ps vs)
  exhausts_callee ps (procedure i ∷ vs) = exhausts_known (slice_get ps i)
  exhausts_callee ps _ = tt

  exhausts_depth_left : (tail : Bool) (depth : ℕ) → Exhausts n (depth_left tail depth)
  exhausts_depth_left true depth = tt
  exhausts_depth_left false zero = tt
  exhausts_depth_left false (suc depth) = tt

exhausts_entry_left : {V : Type 0} (n : ℕ) (v : V) → Exhausts n (entry_left n v)
exhausts_entry_left zero v = refl
exhausts_entry_left (suc n) v = tt

pub exhausts_checked_call : {P : Type 0} (ps : List P) (t : Store) (spread tail : Bool) (depth : ℕ) (vs : List Value) → Exhausts t.entries (checked_call ps t spread tail depth vs)
exhausts_checked_call ps t spread tail depth vs =
    exhausts_on t.entries (handed (operands vs) spread t.objects) _ (exhausts_handed t.entries (operands vs) spread t.objects)
    (λ _. exhausts_on t.entries (callee ps vs) _ (exhausts_callee t.entries ps vs)
    (λ _. exhausts_on t.entries (depth_left tail depth) _ (exhausts_depth_left t.entries tail depth)
    (λ _. exhausts_entry_left t.entries _)))
