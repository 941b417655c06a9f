-- In a layout each write of a slot stands directly behind one mark, and each mark directly before an instruction of its kind.
use Rattle.std.proofs.Common.{◌≡◌, ℕ, zero, suc, ◌+◌, ◌≤◌, List, [], ◌∷◌, length, Option, Some, None, Bool, true, false, cond, refl, ap, ◌∙◌, arith}
use Rattle.std.specs.Prelude.{filter, nat_lt, ◌-◌, ◌&&◌, not}
use Rattle.std.proofs.lemmas.Bool.{and_from, and_parts, eq-eqb}
use Rattle.sch_word.specs.declared.place.Place.{Place}
use Rattle.sch_word.specs.declared.place.Place.TheVariants.{Reg, Slot}
use Rattle.sch_control.specs.declared.body.Entry.{Entry}
use Rattle.sch_word.specs.declared.mark.MarkKind.TheVariants as mark
use Rattle.sch_control.specs.declared.operation.Atom.TheVariants.{Constant, Literal, Variable}
use Rattle.sch_control.specs.declared.operation.Member.{Member}
use Rattle.sch_control.specs.declared.operation.Operand.{Operand}
use Rattle.sch_control.specs.declared.operation.Operand.TheVariants as operand
use Rattle.sch_control.specs.declared.operation.Operation.TheVariants as operation
use Rattle.sch_control.specs.Meaning.{heads, no_region, with_region}
use Rattle.sch_control.specs.Tree.{Expression, perform, bind, sequence, branch, fix, call, tail_call, return, end, save}
use Rattle.sch_control.specs.Valid.{member_variables}
use Rattle.sch_frames.specs.declared.instruction.Instruction.{Instruction}
use Rattle.sch_frames.specs.declared.instruction.Instruction.TheVariants.{Do, Store, Copy, Pass, Mark}
use Rattle.sch_word.specs.values.Places.{same_place, is_slot}
use Rattle.sch_frames.specs.Valid.{in_slots}
use Rattle.sch_layout.specs.BodyLayout.{Plan, arrivals, entering, under, spill, members_at, writing, is_direct, move_into, move_all, stored, loaded, leave, labels, lay}
use Rattle.sch_control.specs.flow.Places.{variable_arrival}
use Rattle.sch_layout.specs.Laws.{EntersSlots, LaidMarksStand}
use Rattle.sch_layout.specs.Moves.{Move}
use Rattle.sch_layout.specs.SharedPlaces.{entered_with}
use Rattle.sch_frames.specs.Standing.{Called, Other, is_restore, is_unmarked, marks_stand}

-- they stand so in what follows
abbrev pub Stand : List Instruction → Type 0
Stand rest = marks_stand Other rest ≡ true

-- the same directly behind a call or a restore
abbrev pub StandBehind : List Instruction → Type 0
StandBehind rest = marks_stand Called rest ≡ true

stand_behind : (rest : List Instruction) → Stand rest → StandBehind rest
stand_behind [] h = refl
stand_behind (i ∷ rest) h = let p = and_parts (is_unmarked i && not (is_restore i)) _ h in and_from _ _ (and_parts (is_unmarked i) _ p.0).0 p.1

leave_stands : (test : Option ℕ) (rest : List Instruction) → Stand rest → Stand (leave test rest)
leave_stands None rest h = h
leave_stands (Some l) rest h = h

-- ## Moves

module _ (words : ℕ) where
  -- what is written through the accumulator
  writing_stands : (temp : Bool) (to : Place) (rest : List Instruction) → Stand rest → Stand (under (cond temp (Some mark.Temp) (cond (is_slot to) (Some mark.Argument) None)) (writing words to) rest)
  writing_stands true (Reg r) rest h = h
  writing_stands true (Slot j) rest h = by (nat_lt j words) where
    by : (t : Bool) → Stand (Mark mark.Temp ∷ (cond t (Store (Slot j)) (Pass (j - words)) ∷ rest))
    by true = h
    by false = h
  writing_stands false (Reg r) rest h = h
  writing_stands false (Slot j) rest h = by (nat_lt j words) where
    by : (t : Bool) → Stand (Mark mark.Argument ∷ (cond t (Store (Slot j)) (Pass (j - words)) ∷ rest))
    by true = h
    by false = h

  -- what is copied
  copy_stands : (temp : Bool) (to p : Place) → is_direct words to p ≡ true → (rest : List Instruction) → Stand rest → Stand (under (cond temp (Some mark.Temp) (cond (is_slot to) (Some mark.Argument) None)) (Copy to p) rest)
  copy_stands true (Reg r) p d rest h = h
  copy_stands true (Slot j) (Reg r) d rest h = h
  copy_stands true (Slot j) (Slot i) d rest h = absurd (cc)
  copy_stands false (Reg r) p d rest h = h
  copy_stands false (Slot j) (Reg r) d rest h = h
  copy_stands false (Slot j) (Slot i) d rest h = absurd (cc)

  move_stands : (temp : Bool) (to : Place) (o : Operand Place) (rest : List Instruction) → Stand rest
      → Stand (move_into words to (cond temp (Some mark.Temp) (cond (is_slot to) (Some mark.Argument) None)) o rest)
  move_stands temp to (operand.Atom (Variable p)) rest h = by (same_place to p) (is_direct words to p) refl where
    by : (t d : Bool) → is_direct words to p ≡ d → Stand (cond t rest (cond d (under (cond temp (Some mark.Temp) (cond (is_slot to) (Some mark.Argument) None)) (Copy to p) rest)
        (Do (operation.Operand (operand.Atom (Variable p))) ∷ under (cond temp (Some mark.Temp) (cond (is_slot to) (Some mark.Argument) None)) (writing words to) rest)))
    by true d i = h
    by false true i = copy_stands temp to p i rest h
    by false false i = writing_stands temp to rest h
  move_stands temp to (operand.Atom (Constant c)) rest h = writing_stands temp to rest h
  move_stands temp to (operand.Atom (Literal n)) rest h = writing_stands temp to rest h
  move_stands temp to (operand.Read site which atoms) rest h = writing_stands temp to rest h

  moves_stand : (moves : List Move) (rest : List Instruction) → Stand rest → Stand (move_all words moves rest)
  moves_stand [] rest h = h
  moves_stand (m ∷ moves) rest h = move_stands m.temp m.to m.from _ (moves_stand moves rest h)

-- ## Expressions

-- as many of a group are spilled as come into slots
pub as_many : (plan : Plan) (members : List (Member ℕ)) → length (filter (λ x. is_slot (plan.place x)) (member_variables members)) ≡ in_slots (members_at plan.place members)
as_many plan [] = refl
as_many plan (m ∷ members) = by (is_slot (plan.place m.at)) (as_many plan members) where
  by : (t : Bool) → length (filter (λ x. is_slot (plan.place x)) (member_variables members)) ≡ in_slots (members_at plan.place members)
      → length (cond t (m.at ∷ filter (λ x. is_slot (plan.place x)) (member_variables members)) (filter (λ x. is_slot (plan.place x)) (member_variables members)))
      ≡ cond t (suc (in_slots (members_at plan.place members))) (in_slots (members_at plan.place members))
  by true more = ap suc more
  by false more = more

-- what lives in a register is saved in a slot
module _ (plan : Plan) (saved : (x : ℕ) → is_slot (plan.place x) ≡ false → is_slot (plan.home x) ≡ true) where
  bound_stands : (x : ℕ) (rest : List Instruction) → Stand rest → Stand (under (spill plan x) (Store (plan.place x)) rest)
  bound_stands x rest h = by (plan.place x) where
    by : (p : Place) → Stand (under (cond (is_slot p) (Some (mark.Spill x)) None) (Store p) rest)
    by (Reg r) = h
    by (Slot j) = h

  stored_stands : (xs : List ℕ) (rest : List Instruction) → Stand rest → Stand (stored plan xs rest)
  stored_stands [] rest h = h
  stored_stands (x ∷ xs) rest h = by (is_slot (plan.place x)) refl (stored_stands xs rest h) where
    by : (t : Bool) → is_slot (plan.place x) ≡ t → Stand (stored plan xs rest) → Stand (cond t (stored plan xs rest) (Mark (mark.Save x) ∷ (Copy (plan.home x) (plan.place x) ∷ stored plan xs rest)))
    by true i more = more
    by false i more = and_from _ _ (and_from _ _ (saved x i) (ap not i)) more

  loaded_stands : (xs : List ℕ) (rest : List Instruction) → StandBehind rest → StandBehind (loaded plan xs rest)
  loaded_stands [] rest h = h
  loaded_stands (x ∷ xs) rest h = by (is_slot (plan.place x)) refl (loaded_stands xs rest h) where
    by : (t : Bool) → is_slot (plan.place x) ≡ t → StandBehind (loaded plan xs rest) → StandBehind (cond t (loaded plan xs rest) (Mark (mark.Restore x) ∷ (Copy (plan.place x) (plan.home x) ∷ loaded plan xs rest)))
    by true i more = more
    by false i more = and_from _ _ (and_from _ _ (ap not i) (saved x i)) more

  lay_stands : (e : Expression) (inside : ℕ → Bool) (n : ℕ) (test : Option ℕ) (rest : List Instruction) → Stand rest → Stand (lay plan e inside n test rest)
  lay_stands (perform o) inside n test rest h = leave_stands test rest h
  lay_stands (bind x a b) inside n test rest h =
      lay_stands a inside n None _ (bound_stands x _ (stored_stands (filter inside (x ∷ [])) (lay plan b inside (n + labels a) test rest) (lay_stands b inside (n + labels a) test rest h)))
  lay_stands (sequence a b) inside n test rest h = lay_stands a _ _ _ _ (lay_stands b _ _ _ _ h)
  lay_stands (branch a b c) inside n test rest h = lay_stands a _ _ _ _ (lay_stands b _ _ _ _ (lay_stands c _ _ _ _ h))
  lay_stands (fix members e) inside n test rest h =
      and_from _ _ (and_from _ _ (eq-eqb _ _ (as_many plan members)) refl) (stored_stands (filter inside (member_variables members)) (lay plan e inside n test rest) (lay_stands e inside n test rest h))
  lay_stands (return e) inside n test rest h = lay_stands e _ _ _ _ h
  lay_stands (end e) inside n test rest h = lay_stands e _ _ _ _ h
  lay_stands (call a restores) inside n test rest h = moves_stand plan.limit (plan.moves false a) _ (loaded_stands restores _ (stand_behind (leave test rest) (leave_stands test rest h)))
  lay_stands (tail_call a) inside n test rest h = moves_stand plan.limit (plan.moves true a) _ h
  lay_stands (save saves e) inside n test rest h = stored_stands (heads e saves) (lay plan e (with_region saves inside) n test rest) (lay_stands e (with_region saves inside) n test rest h)

  -- ## Entries

  entering_stands : (entry : Option Entry) → EntersSlots plan (entered_with entry) → (rest : List Instruction) → Stand rest → Stand (entering plan entry rest)
  entering_stands None go rest h = h
  entering_stands (Some e) go rest h = by (suc e.formals) 1 (omega arith) where
    by : (count from : ℕ) → from + count ≤ 2 + e.formals → Stand (arrivals plan from count rest)
    by zero from le = h
    by (suc count) from le = one (same_place (plan.place from) (variable_arrival from)) refl (by count (suc from) (omega (arith, le))) where
      stands : (t : Bool) → is_slot (plan.place from) ≡ t → (is_slot (plan.place from) ≡ true → is_slot (variable_arrival from) ≡ false)
          → Stand (arrivals plan (suc from) count rest) → Stand (under (cond t (Some (mark.Spill from)) None) (Copy (plan.place from) (variable_arrival from)) (arrivals plan (suc from) count rest))
      stands true i a more = and_from _ _ (and_from _ _ i (ap not (a i))) more
      stands false i a more = and_from _ _ (and_from _ _ (ap not i) refl) more

      one : (t : Bool) → same_place (plan.place from) (variable_arrival from) ≡ t → Stand (arrivals plan (suc from) count rest)
          → Stand (cond t (arrivals plan (suc from) count rest) (under (spill plan from) (Copy (plan.place from) (variable_arrival from)) (arrivals plan (suc from) count rest)))
      one true i more = more
      one false i more = stands (is_slot (plan.place from)) refl (go from (omega (arith, le)) i) more

pub laid_stands : LaidMarksStand
laid_stands c plan e code laid homes enters =
    let saved : (x : ℕ) → is_slot (plan.place x) ≡ false → is_slot (plan.home x) ≡ true = λ x s. (homes.home x s).in_slot in
    ap (λ is. marks_stand Other is) laid.instructions ∙ entering_stands plan saved c.entry enters _ (lay_stands plan saved e no_region 0 None [] refl)
