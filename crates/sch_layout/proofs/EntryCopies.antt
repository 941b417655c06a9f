-- What holds of instructions and of one more copy, under its mark or none, holds of what a procedure is entered by.
use Rattle.std.proofs.Common.{◌≡◌, ℕ, zero, suc, ◌+◌, ◌*◌, ◌<◌, ◌≤◌, List, Option, Some, None, Bool, true, false, cond, refl, arith}
use Rattle.sch_word.specs.declared.mark.MarkKind.{MarkKind}
use Rattle.sch_word.specs.declared.mark.MarkKind.TheVariants as mark
use Rattle.sch_control.specs.declared.body.Entry.{Entry}
use Rattle.sch_frames.specs.declared.instruction.Instruction.{Instruction}
use Rattle.sch_frames.specs.declared.instruction.Instruction.TheVariants.{Copy}
use Rattle.sch_word.specs.values.Places.{same_place, is_slot}
use Rattle.sch_layout.specs.BodyLayout.{Plan, arrivals, entering, spill, under}
use Rattle.sch_control.specs.flow.Places.{variable_arrival}
use Rattle.sch_layout.specs.SharedPlaces.{entered_with}

module _ (plan : Plan) (P : List Instruction → Type 0) where
  -- this is so of a variable that is brought into its place
  abbrev pub Comes : ℕ → Type 0
  Comes x = same_place (plan.place x) (variable_arrival x) ≡ false → (rest : List Instruction) → P rest → P (under (spill plan x) (Copy (plan.place x) (variable_arrival x)) rest)

  brought_has : (x : ℕ) (t : Bool) → same_place (plan.place x) (variable_arrival x) ≡ t → Comes x → (rest : List Instruction) → P rest → P (cond t rest (under (spill plan x) (Copy (plan.place x) (variable_arrival x)) rest))
  brought_has x true e c rest h = h
  brought_has x false e c rest h = c e rest h

  pub entering_has : (entry : Option Entry) → ((x : ℕ) → x < entered_with entry → Comes x) → (rest : List Instruction) → P rest → P (entering plan entry rest)
  entering_has None copy rest h = h
  entering_has (Some e) copy rest h = by (suc e.formals) 1 (omega arith) where
    by : (count from : ℕ) → from + count ≤ 2 + e.formals → P (arrivals plan from count rest)
    by zero from le = h
    by (suc count) from le = brought_has from (same_place (plan.place from) (variable_arrival from)) refl (copy from (omega (arith, le))) _ (by count (suc from) (omega (arith, le)))

-- the mark of a spill is none of an entry
pub spill_has : (P : Option MarkKind → Type 0) (plan : Plan) (x : ℕ) → P None → P (Some (mark.Spill x)) → P (spill plan x)
spill_has P plan x none some = by (is_slot (plan.place x)) where
  by : (t : Bool) → P (cond t (Some (mark.Spill x)) None)
  by true = some
  by false = none

-- how many variables a procedure brings into their places at most
abbrev pub copies_at_most : Option Entry → ℕ
copies_at_most None = 0
copies_at_most (Some e) = suc e.formals

-- a size with no more for each copy than a number
pub entering_less : (plan : Plan) (size : List Instruction → ℕ) (most : ℕ) → ((x : ℕ) (rest : List Instruction) → size (under (spill plan x) (Copy (plan.place x) (variable_arrival x)) rest) ≤ most + size rest)
    → (entry : Option Entry) (rest : List Instruction) → size (entering plan entry rest) ≤ most * copies_at_most entry + size rest
entering_less plan size most copy None rest = omega arith
entering_less plan size most copy (Some e) rest = by (suc e.formals) 1 where
  brought_less : (x : ℕ) (t : Bool) (rest : List Instruction) → size (cond t rest (under (spill plan x) (Copy (plan.place x) (variable_arrival x)) rest)) ≤ most + size rest
  brought_less x true rest = omega arith
  brought_less x false rest = copy x rest

  by : (count from : ℕ) → size (arrivals plan from count rest) ≤ most * count + size rest
  by zero from = omega arith
  by (suc count) from =
      let h = brought_less from (same_place (plan.place from) (variable_arrival from)) (arrivals plan (suc from) count rest) in
      let k = by count (suc from) in
      omega (arith, h, k)
