-- What holds of instructions and of one more copy under its mark holds of what is saved or restored in front.
use Rattle.std.proofs.Common.{◌≡◌, ℕ, List, [], ◌∷◌, Bool, true, false, cond, refl}
use Rattle.sch_word.specs.declared.place.Place.{Place}
use Rattle.sch_word.specs.declared.mark.MarkKind.{MarkKind}
use Rattle.sch_frames.specs.declared.instruction.Instruction.{Instruction}
use Rattle.sch_frames.specs.declared.instruction.Instruction.TheVariants.{Copy, Mark}
use Rattle.sch_word.specs.values.Places.{is_slot}
use Rattle.sch_layout.specs.BodyLayout.{Plan, carried}

module _ (plan : Plan) (P : List Instruction → Type 0) (kind : ℕ → MarkKind) (to from : ℕ → Place)
    (copy : (x : ℕ) → is_slot (plan.place x) ≡ false → (rest : List Instruction) → P rest → P (Mark (kind x) ∷ (Copy (to x) (from x) ∷ rest))) where
  one_has : (x : ℕ) (t : Bool) → is_slot (plan.place x) ≡ t → (rest : List Instruction) → P rest → P (cond t rest (Mark (kind x) ∷ (Copy (to x) (from x) ∷ rest)))
  one_has x true i rest h = h
  one_has x false i rest h = copy x i rest h

  pub carried_has : (xs : List ℕ) (rest : List Instruction) → P rest → P (carried plan kind to from xs rest)
  carried_has [] rest h = h
  carried_has (x ∷ xs) rest h = one_has x (is_slot (plan.place x)) refl _ (carried_has xs rest h)
