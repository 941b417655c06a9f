-- The layout of a placed body begins with something that is done, and covered code stays covered.
use Rattle.std.proofs.Common.{◌≡◌, List, [], None, Bool, true, refl, sym, ap, ◌∙◌}
use Rattle.std.specs.List.{list_all}
use Rattle.std.proofs.lemmas.Bool.{and_from, and_parts}
use Rattle.sch_word.specs.declared.place.Place.{Place}
use Rattle.sch_control.specs.Covered as control_covered
use Rattle.sch_control.specs.Covered.{has_covered_formals, is_covered}
use Rattle.sch_control.specs.CoveredOperands.{is_form}
use Rattle.sch_control.specs.Meaning.{no_region}
use Rattle.sch_control.specs.Tree as control
use Rattle.sch_control.specs.Tree.{Expression, perform, bind, sequence, branch, fix, call, tail_call, return, end, save}
use Rattle.sch_control.specs.Valid.{ended, entry_shaped, fields_of, fields_there, is_bare, last_position, positioned, shaped}
use Rattle.sch_control.specs.flow.Bare.{erased}
use Rattle.sch_frames.specs.Covered.{begins, code_begins, instruction_low, is_covered_code, is_covered_instruction, may_stand, plain_instruction}
use Rattle.sch_frames.proofs.SettledMarks.{settled}
use Rattle.sch_frames.specs.Standing.{Other, code_marks_stand}
use Rattle.sch_frames.specs.declared.instruction.Instruction.{Instruction}
use Rattle.sch_frames.specs.declared.instruction.Instruction.TheVariants.{Copy}
use Rattle.sch_layout.specs.BodyLayout.{Plan, under}
use Rattle.sch_control.specs.flow.Places.{variable_arrival}
use Rattle.sch_layout.proofs.EntryCopies.{entering_has, spill_has}
use Rattle.sch_layout.proofs.layouts.CoveredSlots.{covered_steers, covered_unplaced, lay_begins, parts_covered}
use Rattle.sch_layout.proofs.layouts.InstructionTests.{Passes, Steers, Unplaced, entering_passes, lay_passes, unplaced_carries}
use Rattle.sch_layout.proofs.layouts.SettledSlots.{few_fields, last_may, low_steers, low_unplaced, may_wait, parts_low, parts_plain}
use Rattle.sch_layout.proofs.layouts.SettledSlots.{parts_stand, plain_steers, plain_unplaced, stand_steers, stand_unplaced}
use Rattle.sch_paths.proofs.paths.UnlistedPaths.{positioned_erased}
use Rattle.sch_homes.specs.Homes.{homes_code, homes_plan, place}
use Rattle.sch_homes.specs.Laws.{IsPlaced}
use Rattle.sch_homes.proofs.FrameDoes.{each_erased, homes_takes}

covered_erased : (e : Expression) → is_covered (erased e) ≡ is_covered e
covered_erased (perform o) = refl
covered_erased (bind x a b) = rw (covered_erased a, covered_erased b) refl
covered_erased (sequence a b) = rw (covered_erased a, covered_erased b) refl
covered_erased (branch a b c) = rw (covered_erased a, covered_erased b, covered_erased c) refl
covered_erased (fix members e) = rw (covered_erased e) refl
covered_erased (call a restores) = refl
covered_erased (tail_call a) = refl
covered_erased (return e) = covered_erased e
covered_erased (end e) = covered_erased e
covered_erased (save saves e) = covered_erased e

module _ (c : control.Code) (e : Expression) (places : List Place) (p : IsPlaced c e places) where
  abbrev plan : Plan
  plan = homes_plan c.entry e places

  -- a test passes the layout that does not look at places, where it passes the parts of the tree
  passes : (test : Instruction → Bool) (steers : Steers test) → Unplaced test → Passes plan test steers e → list_all test (homes_code c.entry e places).instructions ≡ true
  passes test steers unplaced h =
      entering_passes plan test steers c.entry (λ x lt n. unplaced.copies _ _) _
      (lay_passes plan test steers (unplaced_carries plan test steers unplaced) e h no_region 0 None [] refl)

  pub homes_begin : code_begins (homes_code c.entry e places) ≡ true
  homes_begin =
      entering_has (homes_plan c.entry e places) (λ is. begins is ≡ true) c.entry
      (λ x lt n rest h. spill_has (λ m. begins (under m (Copy (place c.entry e places x) (variable_arrival x)) rest) ≡ true) (homes_plan c.entry e places) x refl refl) _
      (lay_begins (homes_plan c.entry e places) e no_region 0 None [])

  pub homes_covered : ended c ≡ true → code_marks_stand (homes_code c.entry e places) ≡ true → control_covered.is_covered_code c ≡ true → is_covered_code (homes_code c.entry e places) ≡ true
  homes_covered ends stand covered =
      let parts = and_parts (has_covered_formals c.entry) (is_covered c.expression) covered in
      and_from _ _ parts.0
      (and_from _ _ (passes is_covered_instruction covered_steers covered_unplaced (parts_covered plan (homes_takes c.entry e places) e (sym (covered_erased e) ∙ (ap is_covered p.body ∙ parts.1))))
      (and_from _ _ (passes instruction_low low_steers low_unplaced
      (parts_low plan (homes_takes c.entry e places) (fields_of c.entry)
      (few_fields c.entry (and_parts (entry_shaped c.entry) (shaped c.expression) p.shaped).0) e
      (sym (each_erased _ e) ∙ (ap (fields_there (fields_of c.entry)) p.body ∙ p.fields))))
      (and_from _ _ (passes (may_stand (is_form c.entry)) (stand_steers (is_form c.entry)) (stand_unplaced (is_form c.entry))
      (parts_stand plan (homes_takes c.entry e places) (is_form c.entry) e (last_position c.entry) (last_may c.entry)
      (sym (positioned_erased e (last_position c.entry))
      ∙ (ap (λ z. positioned z (last_position c.entry)) p.body ∙ (and_parts (is_bare c.expression) _ ends).1))))
      (and_from _ _ (passes plain_instruction plain_steers plain_unplaced (parts_plain plan (homes_takes c.entry e places) e))
      (may_wait (homes_code c.entry e places).instructions homes_begin
      (settled Other (homes_code c.entry e places).instructions stand))))))
