-- The layout of covered code is covered, and each layout begins with what is done, perhaps under its mark.
use Rattle.std.proofs.Common.{◌≡◌, ℕ, suc, List, [], ◌∷◌, Option, Some, None, Bool, true, false, refl, ap, ◌∙◌}
use Rattle.std.specs.Prelude.{◌&&◌}
use Rattle.std.specs.List.{list_all}
use Rattle.std.proofs.lemmas.Bool.{and_parts}
use Rattle.sch_word.specs.declared.mark.MarkKind.{MarkKind}
use Rattle.sch_word.specs.declared.mark.MarkKind.TheVariants as mark
use Rattle.sch_word.specs.declared.place.Place.{Place}
use Rattle.sch_word.specs.trees.Covered.{is_covered_primitive}
use Rattle.sch_control.specs.declared.operation.Application.{Application}
use Rattle.sch_control.specs.declared.operation.Operand.{Operand}
use Rattle.sch_control.specs.declared.operation.Source.{Source}
use Rattle.sch_control.specs.declared.operation.Source.TheVariants as source
use Rattle.sch_control.specs.declared.operation.Member.{Member}
use Rattle.sch_control.specs.declared.operation.Operation.{Operation}
use Rattle.sch_control.specs.declared.operation.Operation.TheVariants as operation
use Rattle.sch_control.specs.Covered.{is_covered, is_covered_source, is_covered_member, is_covered_operation}
use Rattle.sch_control.specs.CoveredOperands.{is_covered_operand}
use Rattle.sch_control.specs.Meaning.{heads, with_region}
use Rattle.sch_control.specs.Tree.{Expression, perform, bind, sequence, branch, fix, call, tail_call, return, end, save}
use Rattle.sch_frames.specs.declared.instruction.Instruction.{Instruction}
use Rattle.sch_frames.specs.declared.instruction.Instruction.TheVariants.{Copy}
use Rattle.sch_frames.specs.Covered.{is_covered_instruction, begins}
use Rattle.sch_layout.specs.BodyLayout.{Plan, move_all, operand_at, source_at, sources_at, members_at, operation_at, stored, under, lay}
use Rattle.sch_layout.proofs.CarriedCopies.{carried_has}
use Rattle.sch_layout.proofs.MovesHave.{each_move, moves_have}
use Rattle.sch_layout.proofs.layouts.InstructionTests.{Given, Passes, Steers, Takes, Unplaced, moves_pass}
use Rattle.sch_layout.proofs.layouts.OperandsKept.{atom_kept, operand_kept, operands_kept}

pub covered_steers : Steers is_covered_instruction
covered_steers = record { if_false = λ l. refl; jump = λ l. refl; label = λ l. refl; return = refl; marks = λ m e. refl }

pub covered_unplaced : Unplaced is_covered_instruction
covered_unplaced = record { copies = λ to from. refl; stores = λ to. refl; passes = λ k. refl; variables = λ p. refl }

module _ (place : ℕ → Place) where
  source_covered : (c : Source ℕ) → is_covered_source (source_at place c) ≡ is_covered_source c
  source_covered (source.Atom a) = atom_kept place a
  source_covered (source.Field x k) = refl

  sources_covered : (cs : List (Source ℕ)) → list_all is_covered_source (sources_at place cs) ≡ list_all is_covered_source cs
  sources_covered [] = refl
  sources_covered (c ∷ cs) = ap (λ b. b && list_all is_covered_source (sources_at place cs)) (source_covered c) ∙ ap (λ b. is_covered_source c && b) (sources_covered cs)

  members_covered : (members : List (Member ℕ)) → list_all is_covered_member (members_at place members) ≡ list_all is_covered_member members
  members_covered [] = refl
  members_covered (m ∷ members) =
      ap (λ b. b && list_all is_covered_member (members_at place members)) (sources_covered m.closure.fields) ∙ ap (λ b. is_covered_member m && b) (members_covered members)

  operation_covered : (o : Operation ℕ) → is_covered_operation (operation_at place o) ≡ is_covered_operation o
  operation_covered (operation.Operand o) = operand_kept place o
  operation_covered (operation.Prim site which operands) = ap (λ b. is_covered_primitive which && b) (operands_kept place operands)
  operation_covered (operation.Global g) = refl
  operation_covered (operation.SetGlobal g o) = operand_kept place o
  operation_covered (operation.Field x k) = refl
  operation_covered (operation.NewCell c) = source_covered c
  operation_covered operation.UnsetCell = refl
  operation_covered (operation.CellGet c) = source_covered c
  operation_covered (operation.CellSet c o) = ap (λ b. b && is_covered_operand (operand_at place o)) (source_covered c) ∙ ap (λ b. is_covered_source c && b) (operand_kept place o)
  operation_covered (operation.MakeClosure c) = sources_covered c.fields

module _ (plan : Plan) (takes : Takes plan) where
  given_covered : (operands : List (Operand ℕ)) → list_all is_covered_operand operands ≡ true → Given plan takes is_covered_instruction covered_steers covered_unplaced operands
  given_covered [] h = tt
  given_covered (o ∷ operands) h = let parts = and_parts _ _ h in (operand_kept plan.place o ∙ parts.0, given_covered operands parts.1)

  pub parts_covered : (e : Expression) → is_covered e ≡ true → Passes plan is_covered_instruction covered_steers e
  parts_covered (perform o) c = operation_covered plan.place o ∙ c
  parts_covered (bind x a b) c = let parts = and_parts _ _ c in (refl, (parts_covered a parts.0, parts_covered b parts.1))
  parts_covered (sequence a b) c = let parts = and_parts _ _ c in (parts_covered a parts.0, parts_covered b parts.1)
  parts_covered (branch a b d) c =
      let parts = and_parts _ _ c in
      let arms = and_parts _ _ parts.1 in
      (parts_covered a parts.0, (parts_covered b arms.0, parts_covered d arms.1))
  parts_covered (fix members e) c = let parts = and_parts _ _ c in (members_covered plan.place members ∙ parts.0, parts_covered e parts.1)
  parts_covered (return e) c = parts_covered e c
  parts_covered (end e) c = (refl, parts_covered e c)
  parts_covered (call a restores) c =
      let parts = and_parts _ _ c in
      (moves_pass plan takes is_covered_instruction covered_steers covered_unplaced false a (given_covered (a.operator ∷ a.operands) parts.1), parts.0)
  parts_covered (tail_call a) c =
      let parts = and_parts _ _ c in
      (moves_pass plan takes is_covered_instruction covered_steers covered_unplaced true a (given_covered (a.operator ∷ a.operands) parts.1), parts.0)
  parts_covered (save saves e) c = parts_covered e c

module _ (plan : Plan) where
  -- what is stored begins with a copy under its mark
  stored_begins : (xs : List ℕ) (rest : List Instruction) → begins rest ≡ true → begins (stored plan xs rest) ≡ true
  stored_begins = carried_has plan (λ is. begins is ≡ true) mark.Save plan.home plan.place (λ x i rest h. refl)

  moves_begin : (tail : Bool) (a : Application ℕ) (rest : List Instruction) → begins rest ≡ true → begins (move_all plan.limit (plan.moves tail a) rest) ≡ true
  moves_begin tail a rest h = moves_have plan.limit (λ is. begins is ≡ true) (λ o to. Unit {0}) (λ p to good d m e is h. copied p to m is) (λ o to good m e is h. refl) (plan.moves tail a) (each_move _ (λ m. tt) (plan.moves tail a)) rest h where
    copied : (p to : Place) (m : Option MarkKind) (is : List Instruction) → begins (under m (Copy to p) is) ≡ true
    copied p to None is = refl
    copied p to (Some m) is = refl

  pub lay_begins : (e : Expression) (inside : ℕ → Bool) (n : ℕ) (test : Option ℕ) (rest : List Instruction) → begins (lay plan e inside n test rest) ≡ true
  lay_begins (perform o) inside n test rest = refl
  lay_begins (bind x a b) inside n test rest = lay_begins a inside n None _
  lay_begins (sequence a b) inside n test rest = lay_begins a inside n None _
  lay_begins (branch a b d) inside n test rest = lay_begins a inside (suc (suc n)) (Some n) _
  lay_begins (fix members e) inside n test rest = refl
  lay_begins (return e) inside n test rest = lay_begins e inside n None _
  lay_begins (end e) inside n test rest = lay_begins e inside n None _
  lay_begins (call a restores) inside n test rest = moves_begin false a _ refl
  lay_begins (tail_call a) inside n test rest = moves_begin true a _ refl
  lay_begins (save saves e) inside n test rest = stored_begins (heads e saves) _ (lay_begins e (with_region saves inside) n test rest)
