-- In the layout of a valid body each field has a number that a field may have, a form ends only in the body of a form,
-- no mark is that of an entry, and each mark has an instruction behind it.
use Rattle.std.proofs.Common.{◌≡◌, ◌<◌, ◌≤◌, ℕ, List, [], ◌∷◌, Option, Some, None, Bool, true, false, refl, ap, arith}
use Rattle.std.specs.Prelude.{not, ◌&&◌, nat_lt, nat_le, nat_eq}
use Rattle.std.specs.List.{list_all}
use Rattle.std.proofs.lemmas.Bool.{and_parts, and_from, ltb-true, lt-ltb, leb-true, false≢true}
use Rattle.sch_word.specs.declared.place.Place.{Place}
use Rattle.sch_word.specs.trees.Shape.{max_operands, max_free_variables}
use Rattle.sch_control.specs.declared.body.Entry.{Entry}
use Rattle.sch_control.specs.declared.operation.Operand.{Operand}
use Rattle.sch_control.specs.declared.operation.Member.{Member}
use Rattle.sch_control.specs.declared.operation.Operation.{Operation}
use Rattle.sch_control.specs.declared.operation.Operation.TheVariants as operation
use Rattle.sch_control.specs.declared.operation.Source.{Source}
use Rattle.sch_control.specs.declared.operation.Source.TheVariants as source
use Rattle.sch_control.specs.CoveredOperands.{is_form}
use Rattle.sch_control.specs.Tree.{Expression, perform, bind, sequence, branch, fix, call, tail_call, return, end, save}
use Rattle.sch_control.specs.Valid.{Position, value, no_call, ends_form, positioned, last_position, source_field, operation_field, group_fields, fields_of, fields_there, entry_shaped}
use Rattle.sch_frames.specs.declared.instruction.Instruction.{Instruction}
use Rattle.sch_frames.specs.declared.instruction.Instruction.TheVariants.{Do, Label, Mark}
use Rattle.sch_frames.specs.Covered.{source_low, member_low, operation_low, instruction_low, marks_settled, may_stand, plain_instruction, begins}
use Rattle.sch_layout.specs.BodyLayout.{Plan, operand_at, source_at, sources_at, members_at, operation_at}
use Rattle.sch_layout.proofs.layouts.InstructionTests.{Given, Passes, Steers, Takes, Unplaced, moves_pass}

-- a test that whatever goes into the accumulator of an operand passes
module _ (plan : Plan) (takes : Takes plan) (test : Instruction → Bool) (steers : Steers test) (unplaced : Unplaced test) (given : (o : Operand Place) → test (Do (operation.Operand o)) ≡ true) where
  pub all_given : (operands : List (Operand ℕ)) → Given plan takes test steers unplaced operands
  all_given [] = tt
  all_given (o ∷ operands) = (given (operand_at plan.place o), all_given operands)

pub low_steers : Steers instruction_low
low_steers = record { if_false = λ l. refl; jump = λ l. refl; label = λ l. refl; return = refl; marks = λ m e. refl }

pub low_unplaced : Unplaced instruction_low
low_unplaced = record { copies = λ to from. refl; stores = λ to. refl; passes = λ k. refl; variables = λ p. refl }

pub stand_steers : (ends : Bool) → Steers (may_stand ends)
stand_steers ends = record { if_false = λ l. refl; jump = λ l. refl; label = λ l. refl; return = refl; marks = λ m e. refl }

pub stand_unplaced : (ends : Bool) → Unplaced (may_stand ends)
stand_unplaced ends = record { copies = λ to from. refl; stores = λ to. refl; passes = λ k. refl; variables = λ p. refl }

-- ## Fields

module _ (place : ℕ → Place) (fields : ℕ) (few : fields ≤ max_free_variables) where
  number_low : (v k : ℕ) → (nat_eq v 1 && nat_lt k fields) ≡ true → nat_lt k max_free_variables ≡ true
  number_low v k h = let lt : k < fields = ltb-true k fields (and_parts (nat_eq v 1) (nat_lt k fields) h).1 in lt-ltb k max_free_variables (omega (arith, lt, few))

  source_is : (c : Source ℕ) → source_field fields c ≡ true → source_low (source_at place c) ≡ true
  source_is (source.Atom a) h = refl
  source_is (source.Field x k) h = number_low x k h

  sources_are : (cs : List (Source ℕ)) → list_all (source_field fields) cs ≡ true → list_all source_low (sources_at place cs) ≡ true
  sources_are [] h = refl
  sources_are (c ∷ cs) h = let p = and_parts _ _ h in and_from _ _ (source_is c p.0) (sources_are cs p.1)

  members_are : (members : List (Member ℕ)) → group_fields fields members ≡ true → list_all member_low (members_at place members) ≡ true
  members_are [] h = refl
  members_are (m ∷ members) h = let p = and_parts _ _ h in and_from _ _ (sources_are m.closure.fields p.0) (members_are members p.1)

  operation_is : (o : Operation ℕ) → operation_field fields o ≡ true → operation_low (operation_at place o) ≡ true
  operation_is (operation.Operand o) h = refl
  operation_is (operation.Prim site which operands) h = refl
  operation_is (operation.Global g) h = refl
  operation_is (operation.SetGlobal g o) h = refl
  operation_is (operation.Field x k) h = number_low x k h
  operation_is (operation.NewCell c) h = source_is c h
  operation_is operation.UnsetCell h = refl
  operation_is (operation.CellGet c) h = source_is c h
  operation_is (operation.CellSet c o) h = source_is c h
  operation_is (operation.MakeClosure c) h = sources_are c.fields h

module _ (plan : Plan) (takes : Takes plan) (fields : ℕ) (few : fields ≤ max_free_variables) where
  pub parts_low : (e : Expression) → fields_there fields e ≡ true → Passes plan instruction_low low_steers e
  parts_low (perform o) h = operation_is plan.place fields few o h
  parts_low (bind x a b) h = let p = and_parts _ _ h in (refl, (parts_low a p.0, parts_low b p.1))
  parts_low (sequence a b) h = let p = and_parts _ _ h in (parts_low a p.0, parts_low b p.1)
  parts_low (branch a b c) h = let p = and_parts _ _ h in let q = and_parts _ _ p.1 in (parts_low a p.0, (parts_low b q.0, parts_low c q.1))
  parts_low (fix members e) h = let p = and_parts _ _ h in (members_are plan.place fields few members p.0, parts_low e p.1)
  parts_low (return e) h = parts_low e h
  parts_low (end e) h = (refl, parts_low e h)
  parts_low (call a restores) h =
      (moves_pass plan takes instruction_low low_steers low_unplaced false a (all_given plan takes instruction_low low_steers low_unplaced (λ o. refl) (a.operator ∷ a.operands)), refl)
  parts_low (tail_call a) h =
      (moves_pass plan takes instruction_low low_steers low_unplaced true a (all_given plan takes instruction_low low_steers low_unplaced (λ o. refl) (a.operator ∷ a.operands)), refl)
  parts_low (save saves e) h = parts_low e h

pub few_fields : (entry : Option Entry) → entry_shaped entry ≡ true → fields_of entry ≤ max_free_variables
few_fields None h = omega arith
few_fields (Some e) h =
    let p = and_parts (nat_le e.formals max_operands) _ h in
    let q = and_parts _ (nat_le e.fields max_free_variables) p.1 in
    leb-true e.fields max_free_variables q.1

-- ## Ends

module _ (plan : Plan) (takes : Takes plan) (ends : Bool) where
  -- an expression has the end of a form only where it may end one
  pub parts_stand : (e : Expression) (at : Position) → (ends_form at ≡ true → ends ≡ true) → positioned e at ≡ true → Passes plan (may_stand ends) (stand_steers ends) e
  parts_stand (perform o) at may h = refl
  parts_stand (bind x a b) at may h = let p = and_parts _ _ h in (refl, (parts_stand a value (λ h. absurd (false≢true h)) p.0, parts_stand b at may p.1))
  parts_stand (sequence a b) at may h = let p = and_parts _ _ h in (parts_stand a no_call (λ h. absurd (false≢true h)) p.0, parts_stand b at may p.1)
  parts_stand (branch a b c) at may h =
      let p = and_parts _ _ h in
      let q = and_parts _ _ p.1 in
      (parts_stand a value (λ h. absurd (false≢true h)) p.0, (parts_stand b at may q.0, parts_stand c at may q.1))
  parts_stand (fix members e) at may h = (refl, parts_stand e at may h)
  parts_stand (return e) at may h = parts_stand e no_call (λ h. absurd (false≢true h)) (and_parts _ _ h).1
  parts_stand (end e) at may h = let p = and_parts _ _ h in (may p.0, parts_stand e value (λ h. absurd (false≢true h)) p.1)
  parts_stand (call a restores) at may h = (
    moves_pass plan takes (may_stand ends) (stand_steers ends) (stand_unplaced ends) false a
        (all_given plan takes (may_stand ends) (stand_steers ends) (stand_unplaced ends) (λ o. refl) (a.operator ∷ a.operands)),
    refl,
  )
  parts_stand (tail_call a) at may h = (
    moves_pass plan takes (may_stand ends) (stand_steers ends) (stand_unplaced ends) true a
        (all_given plan takes (may_stand ends) (stand_steers ends) (stand_unplaced ends) (λ o. refl) (a.operator ∷ a.operands)),
    refl,
  )
  parts_stand (save saves e) at may h = parts_stand e at may h

pub last_may : (entry : Option Entry) → ends_form (last_position entry) ≡ true → is_form entry ≡ true
last_may None h = refl
last_may (Some e) h = h

-- ## Marks of entries

pub plain_steers : Steers plain_instruction
plain_steers = record { if_false = λ l. refl; jump = λ l. refl; label = λ l. refl; return = refl; marks = λ m e. ap not e }

pub plain_unplaced : Unplaced plain_instruction
plain_unplaced = record { copies = λ to from. refl; stores = λ to. refl; passes = λ k. refl; variables = λ p. refl }

module _ (plan : Plan) (takes : Takes plan) where
  pub parts_plain : (e : Expression) → Passes plan plain_instruction plain_steers e
  parts_plain (perform o) = refl
  parts_plain (bind x a b) = (refl, (parts_plain a, parts_plain b))
  parts_plain (sequence a b) = (parts_plain a, parts_plain b)
  parts_plain (branch a b c) = (parts_plain a, (parts_plain b, parts_plain c))
  parts_plain (fix members e) = (refl, parts_plain e)
  parts_plain (return e) = parts_plain e
  parts_plain (end e) = (refl, parts_plain e)
  parts_plain (call a restores) =
      (moves_pass plan takes plain_instruction plain_steers plain_unplaced false a (all_given plan takes plain_instruction plain_steers plain_unplaced (λ o. refl) (a.operator ∷ a.operands)), refl)
  parts_plain (tail_call a) =
      (moves_pass plan takes plain_instruction plain_steers plain_unplaced true a (all_given plan takes plain_instruction plain_steers plain_unplaced (λ o. refl) (a.operator ∷ a.operands)), refl)
  parts_plain (save saves e) = parts_plain e

-- ## Marks with an instruction behind

-- no label stands first, so a mark may wait
pub may_wait : (is : List Instruction) → begins is ≡ true → marks_settled false is ≡ true → marks_settled true is ≡ true
may_wait [] b h = absurd cc
may_wait (Label l ∷ is) b h = absurd cc
may_wait (Mark m ∷ is) b h = h
may_wait (_ ∷ is) b h = h
