-- What the walks over a body begin with.
use Rattle.std.proofs.Common.{◌≡◌, ℕ, zero, suc, ◌+◌, List, [], ◌∷◌, replicate, length, subst, refl, ap, ◌∙◌, sym, arith}
use Rattle.std.specs.Prelude.{map}
use Rattle.std.specs.FinSet as set
use Rattle.sch_sets.specs.Members.{NumberSet}
use Rattle.sch_sets.proofs.Membership.{contains-empty}
use Rattle.sch_word.specs.trees.Bindings.{numbers}
use Rattle.sch_word.specs.values.Registers.{argument_registers}
use Rattle.sch_word.specs.declared.place.Place.{Place}
use Rattle.sch_word.specs.declared.place.Place.TheVariants.{Reg}
use Rattle.sch_control.specs.flow.Places.{arrival}
use Rattle.sch_regs.specs.PlaceChoice.{place_in, in_order, arrived}
use Rattle.sch_regs.specs.Shows.{AreHeld}

-- no register holds a variable
none_in : (registers : List ℕ) → AreHeld [] registers (replicate (length registers) set.empty)
none_in [] = tt
none_in (r ∷ registers) = (contains-empty, none_in registers)

pub none_held : (sets : List NumberSet) → sets ≡ replicate 6 set.empty → AreHeld [] argument_registers sets
none_held sets e = subst (AreHeld [] argument_registers) (sym e) (none_in argument_registers)

same_places : (k n : ℕ) → replicate n (Reg 3) ≡ map (place_in []) (numbers k n)
same_places k zero = refl
same_places k (suc n) = ap (λ q. Reg 3 ∷ q) (same_places (suc k) n)

pub none_listed : (n : ℕ) (ps : List Place) → ps ≡ replicate n (Reg 3) → ps ≡ in_order n []
none_listed n ps h = h ∙ same_places 0 n

pub arrived_next : (k y n : ℕ) (p : Place) → y ≡ 2 + k → p ≡ arrival k → n ≡ k + 1 → (y, p) ∷ arrived k ≡ arrived n
arrived_next k y n p e h l =
    ap (λ z. (z, p) ∷ arrived k) (e ∙ two) ∙ (ap (λ q. (suc (suc k), q) ∷ arrived k) h ∙ ap arrived (sym (l ∙ one))) where
      two : 2 + k ≡ suc (suc k)
      two = omega arith

      one : k + 1 ≡ suc k
      one = omega arith
