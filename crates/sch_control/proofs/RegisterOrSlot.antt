-- An operand arrives in its register, or else in its slot.
use Rattle.std.proofs.Common.{◌≡◌, ℕ, zero, suc, refl, ap, arith}
use Rattle.std.specs.Prelude.{◌-◌}
use Rattle.sch_word.specs.declared.place.Place.TheVariants.{Slot}
use Rattle.sch_control.specs.flow.Places.{argument_register, argument_slot, arrival, register_or_slot}

pub arrival_by : (k : ℕ) → arrival k ≡ register_or_slot (argument_register k) (argument_slot k)
arrival_by zero = refl
arrival_by (suc zero) = refl
arrival_by (suc (suc zero)) = refl
arrival_by (suc (suc (suc zero))) = refl
arrival_by (suc (suc (suc (suc zero)))) = refl
arrival_by (suc (suc (suc (suc (suc zero))))) = refl
arrival_by (suc (suc (suc (suc (suc (suc k)))))) = ap Slot behind where
  behind : k ≡ suc (suc (suc (suc (suc (suc k))))) - 6
  behind = omega arith
