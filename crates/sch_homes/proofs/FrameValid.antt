-- The layout of a placed body is a valid frame body, and its marks stand where something is written, called or left.
use Rattle.std.proofs.Common.{◌≡◌, ℕ, zero, suc, ◌+◌, ◌-◌, ◌<◌, ◌≤◌, List, [], ◌∷◌, length, map, Option, Some, None, Bool, true, false, refl, sym, ap, ◌∙◌, subst, arith}
use Rattle.std.specs.Prelude.{nat_lt, not, ◌&&◌}
use Rattle.std.specs.List.{AllByRecursion, list_all}
use Rattle.std.proofs.Math.Nat.{le-max_right}
use Rattle.std.proofs.lemmas.Bool.{and_from, and_parts, le-leb, lt-ltb}
use Rattle.std.proofs.lemmas.Option.{slice_get_within}
use Rattle.sch_word.specs.trees.Shape.{max_operands}
use Rattle.sch_word.specs.declared.place.Place.{Place}
use Rattle.sch_word.specs.declared.place.Place.TheVariants.{Reg, Slot}
use Rattle.sch_word.specs.trees.NumberSets.{has, without_repeats}
use Rattle.sch_word.specs.values.Registers.{argument_registers, body_registers}
use Rattle.sch_control.specs.declared.body.Entry.{Entry}
use Rattle.sch_control.specs.declared.operation.Application.{Application}
use Rattle.sch_control.specs.declared.operation.Operand.{Operand}
use Rattle.sch_control.specs.AtomsAndSites.{application_atoms, operand_atoms, operands_atoms}
use Rattle.sch_control.specs.Meaning.{no_region}
use Rattle.sch_control.specs.Tree as control
use Rattle.sch_control.specs.Tree.{Expression}
use Rattle.sch_control.specs.Valid.{entry_shaped, is_bare, last_position, positioned, shaped as expression_shaped}
use Rattle.sch_control.specs.flow.Places.{count_slots, is_usual, place_of, formals_of, variable_arrival}
use Rattle.sch_frames.specs.declared.instruction.Instruction.TheVariants.{Copy}
use Rattle.sch_word.specs.values.Places.{same_place, is_slot}
use Rattle.sch_word.proofs.facts.NumberSets.{has_append}
use Rattle.sch_word.proofs.facts.Booleans.{or_left}
use Rattle.sch_frames.specs.Standing.{code_marks_stand}
use Rattle.sch_frames.specs.Valid.{forward, instruction_placed, instruction_shaped, is_atom, is_place, jumps_ahead, labels_in, placed, shaped}
use Rattle.sch_layout.specs.BodyLayout.{Plan, arguments_at, labels, lay, operands_at, under}
use Rattle.sch_layout.specs.Laws.{AtomsHave, Laid}
use Rattle.sch_layout.specs.Moves.{EachMove}
use Rattle.sch_layout.specs.SharedPlaces.{entered_with}
use Rattle.sch_layout.proofs.EachCall.{both_calls, each_call}
use Rattle.sch_control.specs.EachCall.{EachCall}
use Rattle.sch_layout.proofs.EntryCopies.{entering_has, spill_has}
use Rattle.sch_layout.proofs.MovesHave.{Fits, is_target}
use Rattle.sch_layout.proofs.does.OperationsFollow.{have_left, have_right}
use Rattle.sch_layout.proofs.layouts.InstructionTests.{CallFits, Passes, calls_placed, entering_passes, lay_passes, not_both}
use Rattle.sch_layout.proofs.layouts.InstructionTests.{operand_placed, parts_shaped, placed_steers, shaped_steers, slot_target}
use Rattle.sch_layout.proofs.layouts.InstructionTests.{target_fits, unplaced_carries, unplaced_shaped}
use Rattle.sch_layout.proofs.layouts.LabelsOnce.{Right, lay_below, right}
use Rattle.sch_layout.proofs.marks.MarksStand.{laid_stands}
use Rattle.sch_paths.proofs.paths.UnlistedPaths.{positioned_erased}
use Rattle.sch_shuffle.specs.Assignment.{IsAmong, place_at}
use Rattle.sch_shuffle.specs.Greedy.{acts, all_choices}
use Rattle.sch_shuffle.specs.Plans.{Act, IsAct}
use Rattle.sch_shuffle.specs.Tree.{Tree}
use Rattle.sch_shuffle.proofs.SetAside.{acts_used, asides_in}
use Rattle.sch_homes.specs.CallMoves.{argument_of, call_arguments, call_end, call_free, call_moves, call_targets, first_temporary, next_frame, slot_end}
use Rattle.sch_homes.specs.Homes.{first_home, home, homes_code, homes_end, homes_plan, homes_words, is_saved, late_slots, lives_in, place, has_register}
use Rattle.sch_homes.specs.Laws.{HomesFramed, IsPlaced}
use Rattle.sch_homes.proofs.BodyPlaces.{from_register, listed_at}
use Rattle.sch_homes.proofs.CallEnds.{within_calls}
use Rattle.sch_homes.proofs.CallSpare as spare
use Rattle.sch_homes.proofs.CallsBring.{first_low, free_has}
use Rattle.sch_homes.proofs.CoveredHomes.{homes_begin, homes_covered}
use Rattle.sch_homes.proofs.FrameDoes.{each_erased, frame_does, homes_takes}
use Rattle.sch_homes.proofs.FrameRoom.{calls_few, dense_few, first_there, has_room, homes_before, uses_low, words_few, words_fit}
use Rattle.sch_homes.proofs.HomesPlaced.{homes_placed}
use Rattle.sch_homes.proofs.KeptCopies as kept
use Rattle.sch_homes.proofs.KeptCopies.{kept_in}
use Rattle.sch_homes.proofs.HomeLoops.{end_least as slots_least}
use Rattle.sch_homes.proofs.MovesEnd.{IsAsideBefore, end_least, free_within, within_end}
use Rattle.sch_homes.proofs.ShuffledMoves.{act_move, each_act, moves_back}
use Rattle.sch_homes.proofs.SlotsApart.{home_inside, in_table, lives_before, slot_before}

-- a register of an argument is one of a body
argument_is : (r : ℕ) → has r argument_registers ≡ true → has r body_registers ≡ true
argument_is r h = has_append r argument_registers (14 ∷ 15 ∷ []) ∙ or_left (has r argument_registers) (has r (14 ∷ 15 ∷ [])) h

-- each argument of a call reads the frame
argument_placed : (lives : ℕ → Place) (words : ℕ) (P : ℕ → Type 0) → ((x : ℕ) → P x → is_place words (lives x) ≡ true) → (operands : List (Operand ℕ)) → AtomsHave P (operands_atoms operands) → (k : ℕ)
    → list_all (is_atom words) (operand_atoms (argument_of (operands_at lives operands) k)) ≡ true
argument_placed lives words P there [] h zero = refl
argument_placed lives words P there [] h (suc k) = refl
argument_placed lives words P there (o ∷ operands) h zero = operand_placed lives words P there o (have_left P (operand_atoms o) _ h)
argument_placed lives words P there (o ∷ operands) h (suc k) = argument_placed lives words P there operands (have_right P (operand_atoms o) _ h) k

-- what arrives in a register is in one that there is
arrived_placed : (words x : ℕ) → is_slot (variable_arrival x) ≡ false → is_place words (variable_arrival x) ≡ true
arrived_placed words zero s = refl
arrived_placed words (suc zero) s = refl
arrived_placed words (suc (suc zero)) s = refl
arrived_placed words (suc (suc (suc zero))) s = refl
arrived_placed words (suc (suc (suc (suc zero)))) s = refl
arrived_placed words (suc (suc (suc (suc (suc zero))))) s = refl
arrived_placed words (suc (suc (suc (suc (suc (suc zero)))))) s = refl
arrived_placed words (suc (suc (suc (suc (suc (suc (suc zero))))))) s = refl
arrived_placed words (suc (suc (suc (suc (suc (suc (suc (suc j)))))))) s = absurd (cc)

module _ (c : control.Code) (e : Expression) (places : List Place) (p : IsPlaced c e places) where
  abbrev words : ℕ
  words = homes_words c.entry e places

  abbrev plan : Plan
  plan = homes_plan c.entry e places

  abbrev Low : ℕ → Type 0
  Low x = x < length places

  -- each variable lives in the frame or in a register
  lives_there : (x : ℕ) → Low x → is_place words (place c.entry e places x) ≡ true
  lives_there x lt = ap (λ o. is_place words (lives_in o)) (listed_at places x lt) ∙ by x (place_of places x) refl lt where
    by : (x : ℕ) (q : Place) → place_of places x ≡ q → x < length places → is_place words (lives_in (Some q)) ≡ true
    by zero q i lt = ap (λ q. is_place words (lives_in (Some q))) (sym i ∙ p.link)
    by (suc zero) q i lt = ap (λ q. is_place words (lives_in (Some q))) (sym i ∙ p.closure)
    by (suc (suc x)) (Reg r) i lt =
        let w = p.whole in
        argument_is r (ap (is_usual (count_slots places)) (sym i) ∙ p.usual (suc (suc x)) (omega arith) (omega (arith, w, lt)))
    by (suc (suc x)) (Slot j) i lt =
        let less = slot_before c.entry e places (suc (suc x)) j (listed_at places (suc (suc x)) lt ∙ ap Some i) in
        let most = homes_before c e places p in
        lt-ltb j words (omega (arith, less, most))

  -- what lives in a register is a variable of the body
  in_register_low : (x : ℕ) → is_slot (place c.entry e places x) ≡ false → Low x
  in_register_low x s = let t = in_table c.entry e places x s in slice_get_within places x (Reg t.0) t.1

  -- the moves of a call, and its operands, where the frame has the slots that it needs
  module _ (tail : Bool) (a : Application ℕ) (few : length a.operands ≤ max_operands) (low : AtomsHave Low (application_atoms a))
      (within : call_end (homes_end c.entry e places) (place c.entry e places) tail a ≤ homes_words c.entry e places) where
    abbrev lives : ℕ → Place
    lives = place c.entry e places

    abbrev os : List (Operand Place)
    os = arguments_at lives a

    abbrev args : List Tree
    args = call_arguments lives a

    abbrev to : List Place
    to = call_targets tail a

    abbrev free : List Place
    free = call_free (homes_end c.entry e places) lives tail a

    abbrev list : List Act
    list = acts free (all_choices args to)

    -- a temporary that is used lives in the frame
    abbrev Is : Place → Type 0
    Is q = (is_place words q ≡ true) × (is_target next_frame words q ≡ true)

    limit_more : words ≤ next_frame
    limit_more = let fit = words_fit c e places p in omega (arith, fit)

    handed : length a.operands ≤ length argument_registers + words
    handed =
        let l = le-max_right (homes_end c.entry e places) (length a.operands - length argument_registers) in
        let m = end_least (first_temporary (homes_end c.entry e places) (length a.operands)) (call_moves (homes_end c.entry e places) lives tail a) in
        omega (arith, l, m, within)

    used_is : (q : Place) → IsAmong free q → slot_end q ≤ words → Is q
    used_is = free_has c.entry e places (has_room c e places p) tail a few low (λ q. slot_end q ≤ words → Is q)
        (λ r h l. (argument_is r h, argument_is r h)) (λ m b n l. (lt-ltb m words (omega (arith, l)), slot_target next_frame words m limit_more (omega (arith, l))))

    each : AllByRecursion (IsAct args Is) list
    each = acts_used args to free Is (λ v lt. used_is (place_at free v) (v, in_free v lt, refl) (free_within os to free words (all_choices args to) aside v lt)) where
      aside : EachMove (IsAsideBefore words) (map (act_move os to) list)
      aside =
          subst (EachMove (IsAsideBefore words)) (moves_back os to list)
          (within_end words (first_temporary (homes_end c.entry e places) (length a.operands)) (call_moves (homes_end c.entry e places) lives tail a) within)

      in_free : (v : ℕ) → v < length (asides_in (all_choices args to)) → v < length free
      in_free v lt =
          let n =
          spare.free_many (homes_end c.entry e places) (first_home c.entry e places) lives Low (lives_before c.entry e places)
          (first_low c.entry e places (has_room c e places p)) tail a low in
          let m =
          spare.args_count (homes_end c.entry e places) (first_home c.entry e places) lives Low (lives_before c.entry e places)
          (first_low c.entry e places (has_room c e places p)) tail a low in
          let f =
          spare.asides_few (homes_end c.entry e places) (first_home c.entry e places) lives Low (lives_before c.entry e places)
          (first_low c.entry e places (has_room c e places p)) tail a low in
          omega (arith, lt, n, m, f)

    to_fits : (k : ℕ) → k < length args → is_target next_frame words (place_at to k) ≡ true
    to_fits k lt =
        let m = spare.args_count (homes_end c.entry e places) (first_home c.entry e places) lives Low (lives_before c.entry e places) (first_low c.entry e places (has_room c e places p)) tail a low in
        let h = handed in
        ap (is_target next_frame words) (spare.target_at tail (suc (length a.operands)) k (omega (arith, lt, m)))
        ∙ target_fits next_frame words limit_more tail k (omega (arith, lt, m, h))

    from_fits : (k : ℕ) → list_all (is_atom words) (operand_atoms (argument_of os k)) ≡ true
    from_fits = argument_placed lives words Low lives_there (a.operator ∷ a.operands) low

    pub call_fits : CallFits (homes_plan c.entry e places) (homes_words c.entry e places) tail a
    call_fits = record {
      moves = subst (EachMove (λ m. Fits next_frame words m.from m.to)) (sym (moves_back os to list))
          (each_act os to (λ m. Fits next_frame words m.from m.to) Is
          (λ k lt. (from_fits k, to_fits k lt)) (λ k q lt t. (from_fits k, t.1)) (λ k q r lt t s. (and_from _ _ t.0 refl, s.1)) (λ k q lt t. (and_from _ _ t.0 refl, to_fits k lt)) list each);
      handed = handed;
    }

  calls_fit : EachCall (CallFits plan words) e
  calls_fit =
      each_call Low (λ tail a. (length a.operands ≤ max_operands) × (call_end (homes_end c.entry e places) (place c.entry e places) tail a ≤ words)) (CallFits plan words)
      (λ tail a low h. call_fits tail a h.0 low h.1) e (uses_low c e places p)
      (both_calls (λ tail a. length a.operands ≤ max_operands) (λ tail a. call_end (homes_end c.entry e places) (place c.entry e places) tail a ≤ words) e (calls_few c e places p)
      (within_calls (homes_end c.entry e places) (place c.entry e places) words e (omega arith)))

  kept_saves : kept.KeptIn (is_saved e) e
  kept_saves = kept_in (is_saved e) e no_region (λ x s. s) (λ x i. absurd (cc)) p.saved

  passes_placed : Passes plan (instruction_placed words) (placed_steers words) e
  passes_placed = calls_placed plan words Low lives_there e calls_fit (uses_low c e places p)

  home_placed : (x : ℕ) → is_saved e x ≡ true → is_slot (place c.entry e places x) ≡ false → is_place words (home c.entry e places x) ≡ true
  home_placed x k s =
      let t = in_table c.entry e places x s in
      let less = home_inside c.entry e places x (ap (λ o. has_register o && is_saved e x) t.1 ∙ k) (slice_get_within places x (Reg t.0) t.1) in
      let most = homes_before c e places p in
      lt-ltb _ words (omega (arith, less, most))

  not_both_left : (a b : Bool) → a ≡ false → not (a && b) ≡ true
  not_both_left a b h = ap (λ t. not (t && b)) h

  laid_placed : list_all (instruction_placed words) (lay plan e no_region 0 None []) ≡ true
  laid_placed =
      kept.lay_passes plan (instruction_placed words) (placed_steers words) (is_saved e)
      (λ x k s. and_from _ _ (not_both (is_slot (home c.entry e places x)) (is_slot (place c.entry e places x)) s) (and_from _ _ (home_placed x k s) (lives_there x (in_register_low x s))))
      (λ x k s. and_from _ _ (not_both_left (is_slot (place c.entry e places x)) (is_slot (home c.entry e places x)) s) (and_from _ _ (lives_there x (in_register_low x s)) (home_placed x k s)))
      e kept_saves passes_placed no_region (λ x i. absurd (cc)) 0 None [] refl

  entered_few : (entry : Option Entry) (x : ℕ) → x < entered_with entry → x < 2 + formals_of entry
  entered_few None x lt = absurd (omega (arith, lt))
  entered_few (Some i) x lt = lt

  copies : (x : ℕ) → x < entered_with c.entry → same_place (place c.entry e places x) (variable_arrival x) ≡ false → instruction_placed words (Copy (place c.entry e places x) (variable_arrival x)) ≡ true
  copies x lt n =
      let few = entered_few c.entry x lt in
      let first = first_there c e places p in
      let s = from_register c.entry e places first p.link p.closure p.formals x few n in
      and_from _ _ (not_both (is_slot (place c.entry e places x)) (is_slot (variable_arrival x)) s)
      (and_from _ _ (lives_there x (omega (arith, few, first))) (arrived_placed words x s))

  pub code_placed : placed c.entry words (homes_code c.entry e places).instructions ≡ true
  code_placed =
      let fit = words_fit c e places p in
      let end = slots_least (late_slots c.entry) places in
      let most = homes_before c e places p in
      and_from _ _ (le-leb words 2048 (omega (arith, fit)))
      (and_from _ _ (le-leb (formals_of c.entry) (length argument_registers + words) (omega (arith, end, most)))
      (entering_passes plan (instruction_placed words) (placed_steers words) c.entry copies _ laid_placed))

  pub code_forward : forward (labels e) (homes_code c.entry e places).instructions ≡ true
  code_forward =
      let laid = lay (homes_plan c.entry e places) e no_region 0 None [] in
      let r : Right (homes_plan c.entry e places) (lay (homes_plan c.entry e places) e no_region 0 None []) =
      right (homes_plan c.entry e places) e no_region 0 None [] (λ l h h'. refl) tt (record { once = refl; ahead = refl }) in
      let same : labels_in (homes_code c.entry e places).instructions ≡ labels_in (lay (homes_plan c.entry e places) e no_region 0 None []) =
      entering_has (homes_plan c.entry e places) (λ is. labels_in is ≡ labels_in (lay (homes_plan c.entry e places) e no_region 0 None [])) c.entry
      (λ x lt n rest h. spill_has (λ m. labels_in (under m (Copy (place c.entry e places x) (variable_arrival x)) rest)
      ≡ labels_in (lay (homes_plan c.entry e places) e no_region 0 None [])) (homes_plan c.entry e places) x h h) laid refl in
      let ahead : jumps_ahead (homes_code c.entry e places).instructions ≡ true = entering_has (homes_plan c.entry e places) (λ is. jumps_ahead is ≡ true) c.entry
      (λ x lt n rest h. spill_has (λ m. jumps_ahead (under m (Copy (place c.entry e places x) (variable_arrival x)) rest) ≡ true) (homes_plan c.entry e places) x h h) laid r.ahead in
      and_from _ _
      (ap (list_all (λ l. nat_lt l (labels e))) same ∙ lay_below (homes_plan c.entry e places) e no_region 0 None [] (labels e) (omega arith) refl)
      (and_from _ _ (ap without_repeats same ∙ r.once) ahead)

  pub code_shaped : shaped c.entry (homes_code c.entry e places).instructions ≡ true
  code_shaped =
      let parts = and_parts (entry_shaped c.entry) _ p.shaped in
      and_from _ _ parts.0
      (entering_passes plan instruction_shaped shaped_steers c.entry (λ x lt n. refl) _
      (lay_passes plan instruction_shaped shaped_steers (unplaced_carries plan instruction_shaped shaped_steers unplaced_shaped) e
      (parts_shaped plan (homes_takes c.entry e places) e (sym (each_erased _ e) ∙ (ap expression_shaped p.body ∙ parts.1))) no_region 0 None [] refl))

-- ## The law

pub homes_framed : HomesFramed
homes_framed c e places p ends soon = record {
  does = frame_does c e places p soon;
  valid = and_from _ _ (code_placed c e places p) (and_from _ _ (code_forward c e places p) (code_shaped c e places p));
  stand = stand_so;
  begins = homes_begin c e places p;
  covered = λ covered. homes_covered c e places p ends stand_so covered;
  laid = laid_so;
  words = let few = words_few c e places p in let whole = p.whole in omega (arith, few, whole);
  dense_words = λ dense. let few = dense_few c e places p dense in let whole = p.whole in omega (arith, few, whole);
} where
  laid_so : Laid c (homes_plan c.entry e places) e (homes_code c.entry e places)
  laid_so = record {
    ended = sym (positioned_erased e (last_position c.entry)) ∙ (ap (λ z. positioned z (last_position c.entry)) p.body ∙ (and_parts (is_bare c.expression) _ ends).1);
    entry = refl;
    instructions = refl;
  }

  stand_so : code_marks_stand (homes_code c.entry e places) ≡ true
  stand_so = let is = homes_placed c e places p in laid_stands c (homes_plan c.entry e places) e (homes_code c.entry e places) laid_so is.0.homes is.1
