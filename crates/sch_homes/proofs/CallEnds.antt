-- How far the slots of a call's temporaries go.
use Rattle.std.proofs.Common.{◌≡◌, ℕ, zero, suc, ◌+◌, ◌-◌, ◌<◌, ◌≤◌, max, List, [], ◌∷◌, length, Option, Bool, true, false, refl, sym, ◌∙◌, subst, arith}
use Rattle.std.specs.Prelude.{nat_lt}
use Rattle.std.proofs.Math.Nat.{le-max_left, le-max_right, max-le}
use Rattle.std.proofs.lemmas.Bool.{ltb-false, ltb-true}
use Rattle.sch_word.specs.trees.Shape.{max_operands}
use Rattle.sch_word.specs.declared.place.Place.{Place}
use Rattle.sch_word.specs.declared.place.Place.TheVariants.{Reg}
use Rattle.sch_word.specs.values.Registers.{argument_registers}
use Rattle.sch_control.specs.declared.body.Entry.{Entry}
use Rattle.sch_control.specs.declared.operation.Application.{Application}
use Rattle.sch_control.specs.AtomsAndSites.{application_atoms}
use Rattle.sch_control.specs.Tree.{Expression, perform, bind, sequence, branch, fix, call, tail_call, return, end, save}
use Rattle.sch_layout.specs.BodyLayout.{arguments_at}
use Rattle.sch_layout.specs.Laws.{AtomsHave}
use Rattle.sch_layout.specs.Moves.{EachMove}
use Rattle.sch_control.specs.EachCall.{EachCall}
use Rattle.sch_shuffle.specs.Assignment.{place_at}
use Rattle.sch_shuffle.specs.Greedy.{acts, all_choices}
use Rattle.sch_shuffle.proofs.SetAside.{acts_used}
use Rattle.sch_homes.specs.CallMoves.{call_arguments, call_end, call_free, call_moves, call_targets, first_temporary, is_spare, slot_end, spare_registers, temporary}
use Rattle.sch_homes.specs.Homes.{calls_end, first_home, homes_end, place}
use Rattle.sch_homes.proofs.CallSpare as spare
use Rattle.sch_homes.proofs.CallsBring.{first_low}
use Rattle.sch_homes.proofs.MovesEnd.{IsAsideBefore, end_least, end_within}
use Rattle.sch_homes.proofs.Numbered.{map_at, map_length}
use Rattle.sch_homes.proofs.ShuffledMoves.{each_act, moves_back}
use Rattle.sch_homes.proofs.SlotsApart.{HasRoom, lives_before}
use Rattle.sch_homes.proofs.SpareTemporaries.{IsTemporary, at_register, at_slot, is_temporary, register, slot}

-- ## All calls of an expression

module _ (used : ℕ) (lives : ℕ → Place) where
  pub call_before : (tail : Bool) (a : Application ℕ) → used ≤ call_end used lives tail a
  call_before tail a =
      let l = le-max_left used (length a.operands - length argument_registers) in
      let m = end_least (first_temporary used (length a.operands)) (call_moves used lives tail a) in
      omega (arith, l, m)

  pub used_before : (e : Expression) → used ≤ calls_end used lives e
  used_before (perform o) = omega arith
  used_before (bind x a b) = let h = used_before a in let l = le-max_left (calls_end used lives a) (calls_end used lives b) in omega (arith, h, l)
  used_before (sequence a b) = let h = used_before a in let l = le-max_left (calls_end used lives a) (calls_end used lives b) in omega (arith, h, l)
  used_before (branch a b c) = let h = used_before a in let l = le-max_left (calls_end used lives a) (max (calls_end used lives b) (calls_end used lives c)) in omega (arith, h, l)
  used_before (fix members e) = used_before e
  used_before (call a restores) = call_before false a
  used_before (tail_call a) = call_before true a
  used_before (return e) = used_before e
  used_before (end e) = used_before e
  used_before (save saves e) = used_before e

  module _ (bound : ℕ) where
    abbrev IsWithin : (tail : Bool) → Application ℕ → Type 0
    IsWithin tail a = call_end used lives tail a ≤ bound

    pub calls_within : used ≤ bound → (e : Expression) → EachCall (λ tail a. call_end used lives tail a ≤ bound) e → calls_end used lives e ≤ bound
    calls_within le (perform o) h = le
    calls_within le (bind x a b) h = max-le (calls_within le a h.0) (calls_within le b h.1)
    calls_within le (sequence a b) h = max-le (calls_within le a h.0) (calls_within le b h.1)
    calls_within le (branch a b c) h = max-le (calls_within le a h.0) (max-le (calls_within le b h.1.0) (calls_within le c h.1.1))
    calls_within le (fix members e) h = calls_within le e h
    calls_within le (call a restores) h = h
    calls_within le (tail_call a) h = h
    calls_within le (return e) h = calls_within le e h
    calls_within le (end e) h = calls_within le e h
    calls_within le (save saves e) h = calls_within le e h

    pub within_calls : (e : Expression) → calls_end used lives e ≤ bound → EachCall (λ tail a. call_end used lives tail a ≤ bound) e
    within_calls (perform o) h = tt
    within_calls (bind x a b) h =
        let l = le-max_left (calls_end used lives a) (calls_end used lives b) in
        let r = le-max_right (calls_end used lives a) (calls_end used lives b) in
        (within_calls a (omega (arith, l, h)), within_calls b (omega (arith, r, h)))
    within_calls (sequence a b) h =
        let l = le-max_left (calls_end used lives a) (calls_end used lives b) in
        let r = le-max_right (calls_end used lives a) (calls_end used lives b) in
        (within_calls a (omega (arith, l, h)), within_calls b (omega (arith, r, h)))
    within_calls (branch a b c) h =
        let l = le-max_left (calls_end used lives a) (max (calls_end used lives b) (calls_end used lives c)) in
        let r = le-max_right (calls_end used lives a) (max (calls_end used lives b) (calls_end used lives c)) in
        let s = le-max_left (calls_end used lives b) (calls_end used lives c) in
        let t = le-max_right (calls_end used lives b) (calls_end used lives c) in
        (within_calls a (omega (arith, l, h)), (within_calls b (omega (arith, r, s, h)), within_calls c (omega (arith, r, t, h))))
    within_calls (fix members e) h = within_calls e h
    within_calls (call a restores) h = h
    within_calls (tail_call a) h = h
    within_calls (return e) h = within_calls e h
    within_calls (end e) h = within_calls e h
    within_calls (save saves e) h = within_calls e h

-- ## One call, whatever its arguments read

place_past : (places : List Place) (u : ℕ) → length places ≤ u → place_at places u ≡ Reg 0
place_past [] zero le = refl
place_past [] (suc u) le = refl
place_past (p ∷ places) zero le = absurd (omega (arith, le))
place_past (p ∷ places) (suc u) le = place_past places u (omega (arith, le))

module _ (used : ℕ) (lives : ℕ → Place) (tail : Bool) (a : Application ℕ) where
  abbrev begins : ℕ
  begins = first_temporary used (length a.operands)

  abbrev asided : List Place
  asided = call_free used lives tail a

  -- a temporary ends no further than there are slots before it
  temporary_end : (u : ℕ) → u < suc (length a.operands) → slot_end (place_at asided u) ≤ begins + suc u
  temporary_end u lt = by (is_temporary test begins u) where
    test : Place → Bool
    test = is_spare (call_arguments lives a) (call_targets tail a)

    at : place_at asided u ≡ temporary (spare_registers (call_arguments lives a) (call_targets tail a)) begins u
    at = map_at (temporary (spare_registers (call_arguments lives a) (call_targets tail a)) begins) (suc (length a.operands)) u lt

    by : IsTemporary test begins u → slot_end (place_at asided u) ≤ begins + suc u
    by (register r i t h) = subst (λ q. slot_end q ≤ begins + suc u) (sym (at ∙ at_register test begins u r i)) (omega arith)
    by (slot le i) = subst (λ q. slot_end q ≤ begins + suc u) (sym (at ∙ at_slot test begins u i)) (omega arith)

  temporary_low : (u : ℕ) → slot_end (place_at asided u) ≤ begins + suc (length a.operands)
  temporary_low u = by (nat_lt u (suc (length a.operands))) refl where
    by : (t : Bool) → nat_lt u (suc (length a.operands)) ≡ t → slot_end (place_at asided u) ≤ begins + suc (length a.operands)
    by true h = let lt = ltb-true u (suc (length a.operands)) h in let e = temporary_end u lt in omega (arith, lt, e)
    by false h =
        let past = ltb-false u (suc (length a.operands)) h in
        let many = map_length (temporary (spare_registers (call_arguments lives a) (call_targets tail a)) begins) (suc (length a.operands)) in
        subst (λ q. slot_end q ≤ begins + suc (length a.operands)) (sym (place_past asided u (omega (arith, past, many)))) (omega arith)

  -- it sets aside no more than it has arguments
  pub call_low : call_end used lives tail a ≤ begins + suc (length a.operands)
  call_low =
      end_within (begins + suc (length a.operands)) begins (call_moves used lives tail a)
      (subst (EachMove (IsAsideBefore (begins + suc (length a.operands))))
      (sym (moves_back (arguments_at lives a) (call_targets tail a)
      (acts asided (all_choices (call_arguments lives a) (call_targets tail a)))))
      (each_act (arguments_at lives a) (call_targets tail a) (IsAsideBefore (begins + suc (length a.operands))) (λ p. slot_end p ≤ begins + suc (length a.operands))
      (λ k lt. omega arith) (λ k p lt t. t) (λ k p q lt t s. s) (λ k p lt t. omega arith)
      (acts asided (all_choices (call_arguments lives a) (call_targets tail a)))
      (acts_used (call_arguments lives a) (call_targets tail a) asided (λ p. slot_end p ≤ begins + suc (length a.operands)) (λ v lt. temporary_low v))))
      (omega arith)

-- ## One call

module _ (entry : Option Entry) (e : Expression) (places : List Place) (room : HasRoom entry e places) (tail : Bool) (a : Application ℕ)
    (few : length a.operands ≤ max_operands) (reads : AtomsHave (λ x. x < length places) (application_atoms a)) where
  abbrev lives : ℕ → Place
  lives = place entry e places

  abbrev used : ℕ
  used = homes_end entry e places

  abbrev low : ℕ
  low = first_home entry e places

  abbrev free : List Place
  free = call_free used lives tail a

  abbrev first : ℕ
  first = first_temporary used (length a.operands)

  abbrev asides : ℕ
  asides = spare.asides used low lives (λ x. x < length places) (lives_before entry e places) (first_low entry e places room) tail a reads

  call_reach : call_end used lives tail a ≤ first + asides
  call_reach =
      end_within (first + asides) first (call_moves used lives tail a)
      (subst (EachMove (IsAsideBefore (first + asides))) (sym (moves_back (arguments_at lives a) (call_targets tail a) (acts free (all_choices (call_arguments lives a) (call_targets tail a)))))
      (each_act (arguments_at lives a) (call_targets tail a) (IsAsideBefore (first + asides)) (λ p. slot_end p ≤ first + asides)
      (λ k lt. omega arith) (λ k p lt t. t) (λ k p q lt t s. s) (λ k p lt t. omega arith)
      (acts free (all_choices (call_arguments lives a) (call_targets tail a)))
      (acts_used (call_arguments lives a) (call_targets tail a) free (λ p. slot_end p ≤ first + asides)
      (λ v lt. let f = spare.asides_few used low lives (λ x. x < length places) (lives_before entry e places) (first_low entry e places room) tail a reads in let t = temporary_end used lives tail a v (omega (arith, lt, f)) in omega (arith, lt, t)))))
      (omega arith)

  -- it is within what homes and operands, or slots of variables and operands, have together
  pub call_within : (bound : ℕ) → homes_end entry e places + max_operands ≤ bound → suc (max_operands + first_home entry e places) ≤ bound
      → call_end (homes_end entry e places) (place entry e places) tail a ≤ bound
  call_within bound homes slots =
      let reach = call_reach in
      let f = spare.asides_few used low lives (λ x. x < length places) (lives_before entry e places) (first_low entry e places room) tail a reads in
      let r = room.ends_low in
      let g = spare.asides_low used low lives (λ x. x < length places) (lives_before entry e places) (first_low entry e places room) tail a reads (omega (arith, r)) in
      omega (arith, reach, f, g, homes, slots, few)
