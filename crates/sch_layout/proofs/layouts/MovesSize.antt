-- A walk over instructions that takes a store and what is handed over alike, takes each write of a move so.
use Rattle.std.proofs.Common.{◌≡◌, ℕ, ◌-◌, List, ◌∷◌, Bool, true, false, cond}
use Rattle.std.specs.Prelude.{nat_lt}
use Rattle.sch_word.specs.declared.place.Place.{Place}
use Rattle.sch_word.specs.declared.place.Place.TheVariants.{Reg, Slot}
use Rattle.sch_frames.specs.declared.instruction.Instruction.{Instruction}
use Rattle.sch_frames.specs.declared.instruction.Instruction.TheVariants.{Store, Pass}
use Rattle.sch_layout.specs.BodyLayout.{writing}

pub writing_as : {A : Type 0} (limit : ℕ) (walk : List Instruction → A) → ((to : Place) (rest : List Instruction) → walk (Store to ∷ rest) ≡ walk (Pass 0 ∷ rest)) → ((k : ℕ) (rest : List Instruction) → walk (Pass k ∷ rest) ≡ walk (Pass 0 ∷ rest))
    → (to : Place) (rest : List Instruction) → walk (writing limit to ∷ rest) ≡ walk (Pass 0 ∷ rest)
writing_as limit walk s p (Reg r) rest = s (Reg r) rest
writing_as limit walk s p (Slot j) rest = by (nat_lt j limit) where
  by : (t : Bool) → walk (cond t (Store (Slot j)) (Pass (j - limit)) ∷ rest) ≡ walk (Pass 0 ∷ rest)
  by true = s (Slot j) rest
  by false = p (j - limit) rest
