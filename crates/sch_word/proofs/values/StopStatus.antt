-- Each stop has an exit status of its own.
use Rattle.std.proofs.Common.{◌≡◌, ℕ, Bool, true, false, List, [], ◌∷◌, Option, Some, refl, subst, cond}
use Rattle.std.specs.Prelude.{nat_eq, ◌↔◌}
use Rattle.std.specs.List.{find}
use Rattle.std.proofs.lemmas.Bool.{eqb-true}
use Rattle.std.proofs.lemmas.Option.{none-some, same_Some}
use Rattle.sch_word.specs.declared.stop.Stop.{Stop}
use Rattle.sch_word.specs.declared.stop.Stop.TheVariants.{WrongType, OutOfRange, NotProcedure, WrongCount, DivideByZero, Overflow, HeapLimit, DepthLimit, Unset, OutputFailed}
use Rattle.sch_word.specs.runs.Stops.{status_of, all_stops, stop_of}

module _ {A : Type 0} (test : A → Bool) where
  found_first : (b : Bool) (x y : A) (rest : Option A) → test x ≡ b → (rest ≡ Some y → test y ≡ true) → cond b (Some x) rest ≡ Some y → test y ≡ true
  found_first true x y rest e later is = subst (λ z. test z ≡ true) (same_Some x y is) e
  found_first false x y rest e later is = later is

  -- what is found passes
  found_passes : (xs : List A) (y : A) → find test xs ≡ Some y → test y ≡ true
  found_passes [] y is = absurd (none-some y is)
  found_passes (x ∷ xs) y is = found_first (test x) x y (find test xs) refl (found_passes xs y) is

pub status_of_stop : (status : ℕ) (stop : Stop) → stop_of status ≡ Some stop → status_of stop ≡ status
status_of_stop status stop is = eqb-true (status_of stop) status (found_passes (λ s. nat_eq (status_of s) status) all_stops stop is)

pub stop_of_status : (stop : Stop) → stop_of (status_of stop) ≡ Some stop
stop_of_status WrongType = refl
stop_of_status OutOfRange = refl
stop_of_status NotProcedure = refl
stop_of_status WrongCount = refl
stop_of_status DivideByZero = refl
stop_of_status Overflow = refl
stop_of_status HeapLimit = refl
stop_of_status DepthLimit = refl
stop_of_status Unset = refl
stop_of_status OutputFailed = refl

-- both ways at once
pub stop_is_of : (status : ℕ) (stop : Stop) → (stop_of status ≡ Some stop) ↔ (status_of stop ≡ status)
stop_is_of status stop = (status_of_stop status stop, λ e. subst (λ n. stop_of n ≡ Some stop) e (stop_of_status stop))
