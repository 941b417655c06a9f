-- What the moves of a call owe to the layout: they are a shuffle of its arguments, read the own frame, and set nothing aside where
-- a variable lives or is saved.
use Rattle.std.proofs.Common.{◌≡◌, ℕ, zero, suc, ◌+◌, ◌-◌, ◌<◌, ◌≤◌, List, [], ◌∷◌, length, Option, Bool, true, false, refl, sym, ◌∙◌, subst, arith}
use Rattle.std.specs.Prelude.{nat_eq}
use Rattle.std.specs.Bool.{MatchBool}
use Rattle.std.specs.List.{AllByRecursion, list_all}
use Rattle.std.proofs.Math.Nat.{le-max_left, max-le}
use Rattle.std.proofs.lemmas.Bool.{and_from, eqb-true, lt-ltb}
use Rattle.sch_word.specs.trees.Shape.{max_operands}
use Rattle.sch_word.specs.declared.place.Place.{Place}
use Rattle.sch_word.specs.declared.place.Place.TheVariants.{Reg, Slot}
use Rattle.sch_word.specs.trees.NumberSets.{has}
use Rattle.sch_word.specs.values.Registers.{argument_registers}
use Rattle.sch_control.specs.declared.body.Entry.{Entry}
use Rattle.sch_control.specs.declared.operation.Application.{Application}
use Rattle.sch_control.specs.declared.operation.Atom.{Atom}
use Rattle.sch_control.specs.declared.operation.Atom.TheVariants.{Constant, Literal, Variable}
use Rattle.sch_control.specs.declared.operation.Operand.{Operand}
use Rattle.sch_control.specs.declared.operation.Operand.TheVariants as operand
use Rattle.sch_control.specs.AtomsAndSites.{application_atoms, operand_atoms, operands_atoms}
use Rattle.sch_control.specs.Tree.{Expression}
use Rattle.sch_word.specs.values.Places.{same_place, is_slot, link_place}
use Rattle.sch_frames.specs.Valid.{max_words}
use Rattle.sch_layout.specs.BodyLayout.{arguments_at, atoms_at, operand_at, operands_at, target}
use Rattle.sch_layout.specs.Laws.{AtomsHave}
use Rattle.sch_layout.specs.Moves.{EachMove, is_own, reads_own, reads_own_atom}
use Rattle.sch_layout.specs.SharedPlaces.{Brings, FreeInCall, FreeInTail}
use Rattle.sch_layout.proofs.LowVariables.{mentioned}
use Rattle.sch_layout.proofs.does.OperationsFollow.{have_left, have_right}
use Rattle.sch_shuffle.specs.Assignment.{IsAmong, place_at}
use Rattle.sch_shuffle.specs.Greedy.{acts, all_choices}
use Rattle.sch_shuffle.specs.Plans.{Act, IsAct}
use Rattle.sch_shuffle.proofs.SetAside.{acts_used}
use Rattle.sch_homes.specs.CallMoves.{argument_of, call_arguments, call_free, call_targets, first_temporary, is_spare, next_frame, spare_registers, temporary}
use Rattle.sch_homes.specs.Homes.{first_home, homes_end, homes_plan, place}
use Rattle.sch_homes.proofs.CallSpare as spare
use Rattle.sch_homes.proofs.ShuffledMoves.{acts_shuffled, each_act, moves_back}
use Rattle.sch_homes.proofs.SlotsApart.{HasRoom, lives_apart, lives_before, saved_apart}
use Rattle.sch_homes.proofs.SpareTemporaries.{IsTemporary, at_register, at_slot, is_temporary, register, slot}

-- ## Operands whose variables have a property read places that pass a test

module _ (lives : ℕ → Place) (P : ℕ → Type 0) (limit : ℕ) (f : (x : ℕ) → P x → is_own limit (lives x) ≡ true) where
  atoms_own : (atoms : List (Atom ℕ)) → AtomsHave P atoms → list_all (reads_own_atom limit) (atoms_at lives atoms) ≡ true
  atoms_own [] h = refl
  atoms_own (Constant c ∷ atoms) h = atoms_own atoms h.1
  atoms_own (Literal n ∷ atoms) h = atoms_own atoms h.1
  atoms_own (Variable x ∷ atoms) h = and_from _ _ (f x h.0) (atoms_own atoms h.1)

  operand_own : (o : Operand ℕ) → AtomsHave P (operand_atoms o) → reads_own limit (operand_at lives o) ≡ true
  operand_own (operand.Atom a) h = atoms_own (a ∷ []) h
  operand_own (operand.Read site which atoms) h = atoms_own atoms h

  argument_own : (operands : List (Operand ℕ)) → AtomsHave P (operands_atoms operands) → (k : ℕ) → reads_own limit (argument_of (operands_at lives operands) k) ≡ true
  argument_own [] h zero = refl
  argument_own [] h (suc k) = refl
  argument_own (o ∷ operands) h zero = operand_own o (have_left P (operand_atoms o) _ h)
  argument_own (o ∷ operands) h (suc k) = argument_own operands (have_right P (operand_atoms o) _ h) k

-- ## Calls

no_link : (r : ℕ) → has r argument_registers ≡ true → same_place link_place (Reg r) ≡ false
no_link r h = by (nat_eq 15 r) refl where
  by : (t : Bool) → nat_eq 15 r ≡ t → t ≡ false
  by true e = absurd (let bad : has 15 argument_registers ≡ true = subst (λ r. has r argument_registers ≡ true) (sym (eqb-true 15 r e)) h in cc)
  by false e = refl

module _ (entry : Option Entry) (e : Expression) (places : List Place) (room : HasRoom entry e places) where
  abbrev lives : ℕ → Place
  lives = place entry e places

  abbrev end : ℕ
  end = homes_end entry e places

  abbrev Low : ℕ → Type 0
  Low x = x < length places

  pub first_low : first_home entry e places ≤ homes_end entry e places
  first_low = omega arith

  -- a variable of the body lives in its frame
  pub lives_own : (x : ℕ) → Low x → is_own next_frame (place entry e places x) ≡ true
  lives_own x lt = by (place entry e places x) refl where
    by : (q : Place) → place entry e places x ≡ q → is_own next_frame q ≡ true
    by (Reg r) i = refl
    by (Slot j) i = let less = lives_before entry e places x j lt i in let low = room.ends_low in lt-ltb j next_frame (omega (arith, less, low))

  module _ (tail : Bool) (a : Application ℕ) (few : length a.operands ≤ max_operands) (reads : AtomsHave Low (application_atoms a)) where
    abbrev first : ℕ
    first = first_temporary end (length a.operands)

    abbrev free : List Place
    free = call_free end lives tail a

    -- the temporaries of a call are no more than the largest frame has
    pub first_fits : first_temporary (homes_end entry e places) (length a.operands) + suc (length a.operands) ≤ max_words
    first_fits =
        let low = room.ends_low in
        let both : first_temporary end (length a.operands) ≤ max_words - suc max_operands = max-le (omega (arith, low)) (omega (arith, few)) in
        omega (arith, both, few)

    fits : first + suc (length a.operands) ≤ next_frame
    fits = let h = first_fits in omega (arith, h)

    -- what is so of registers of arguments, and of slots behind the homes
    pub free_has : (P : Place → Type 0) → ((r : ℕ) → has r argument_registers ≡ true → P (Reg r)) → ((m : ℕ) → homes_end entry e places ≤ m → m < max_words → P (Slot m))
        → (p : Place) → IsAmong (call_free (homes_end entry e places) (place entry e places) tail a) p → P p
    free_has P r s p (u, lt, i) = subst P (sym i) (by (is_temporary test first u)) where
      test : Place → Bool
      test = is_spare (call_arguments lives a) (call_targets tail a)

      less : u < suc (length a.operands)
      less =
          let n = spare.free_many end (first_home entry e places) lives Low (lives_before entry e places) first_low tail a reads in
          let m = spare.args_count end (first_home entry e places) lives Low (lives_before entry e places) first_low tail a reads in
          omega (arith, lt, n, m)

      at : place_at free u ≡ temporary (spare_registers (call_arguments lives a) (call_targets tail a)) first u
      at = spare.free_at end (first_home entry e places) lives Low (lives_before entry e places) first_low tail a reads u less

      by : IsTemporary test first u → P (place_at free u)
      by (register q i t h) = subst P (sym (at ∙ at_register test first u q i)) (r q h)
      by (slot le i) =
          let l = le-max_left end (length a.operands - length argument_registers) in
          let n = less in
          let m = first_fits in
          subst P (sym (at ∙ at_slot test first u i)) (s (first + (u - length (spare_registers (call_arguments lives a) (call_targets tail a)))) (omega (arith, l)) (omega (arith, n, m)))

    -- in a call and in a tail call they are free
    pub free_in_call : (live : ℕ → Type 0) (p : Place) → IsAmong (call_free (homes_end entry e places) (place entry e places) tail a) p → FreeInCall (homes_plan entry e places) live p
    free_in_call live = free_has (FreeInCall (homes_plan entry e places) live)
        (λ r h. ((λ x l s. by r (place entry e places x) s), λ x s. refl))
        (λ m b l. ((λ x k s. lives_apart entry e places room m b l x), λ x s. saved_apart entry e places room m b l x s)) where
          by : (r : ℕ) (q : Place) → is_slot q ≡ true → same_place q (Reg r) ≡ false
          by r (Reg q) s = absurd (cc)
          by r (Slot j) s = refl

    pub free_in_tail : (p : Place) → IsAmong (call_free (homes_end entry e places) (place entry e places) tail a) p → FreeInTail (homes_plan entry e places) p
    free_in_tail = free_has (FreeInTail (homes_plan entry e places)) no_link (λ m b l. refl)

    free_own : (p : Place) → IsAmong free p → is_own next_frame p ≡ true
    free_own = free_has (λ p. is_own next_frame p ≡ true) (λ r h. refl) (λ m b l. lt-ltb m next_frame (omega (arith, l)))

    abbrev list : List Act
    list = acts free (all_choices (call_arguments lives a) (call_targets tail a))

    each : AllByRecursion (IsAct (call_arguments lives a) (IsAmong free)) list
    each = acts_used (call_arguments lives a) (call_targets tail a) free (IsAmong free) (λ v lt. (v, in_free v lt, refl)) where
      in_free : (v : ℕ) → v < spare.asides end (first_home entry e places) lives Low (lives_before entry e places) first_low tail a reads → v < length free
      in_free v lt =
          let n = spare.free_many end (first_home entry e places) lives Low (lives_before entry e places) first_low tail a reads in
          let m = spare.args_count end (first_home entry e places) lives Low (lives_before entry e places) first_low tail a reads in
          let f = spare.asides_few end (first_home entry e places) lives Low (lives_before entry e places) first_low tail a reads in
          omega (arith, lt, n, m, f)

    target_at : (k : ℕ) → k < length (call_arguments lives a) → place_at (call_targets tail a) k ≡ target tail next_frame k
    target_at k lt =
        let m = spare.args_count end (first_home entry e places) lives Low (lives_before entry e places) first_low tail a reads in
        spare.target_at tail (suc (length a.operands)) k (omega (arith, lt, m))

    pub brings : (Free : Place → Type 0) → ((p : Place) → IsAmong (call_free (homes_end entry e places) (place entry e places) tail a) p → Free p) → Brings (homes_plan entry e places) tail Free a
    brings Free f = record {
      shuffled = acts_shuffled (arguments_at lives a) (call_targets tail a) free (target tail next_frame) (IsAmong free)
          (spare.targets_many end (first_home entry e places) lives Low (lives_before entry e places) first_low tail a reads)
          (spare.free_many end (first_home entry e places) lives Low (lives_before entry e places) first_low tail a reads)
          (spare.targets_distinct tail (suc (length a.operands)))
          (spare.free_distinct end (first_home entry e places) lives Low (lives_before entry e places) first_low tail a reads)
          (spare.free_spare end (first_home entry e places) lives Low (lives_before entry e places) first_low tail a reads fits) target_at each;
      reads = subst (EachMove (λ m. reads_own next_frame m.from ≡ true)) (sym (moves_back (arguments_at lives a) (call_targets tail a) list))
          (each_act (arguments_at lives a) (call_targets tail a) (λ m. reads_own next_frame m.from ≡ true) (IsAmong free)
          (λ k lt. own k) (λ k p lt t. own k) (λ k p q lt t s. and_from _ _ (free_own p t) refl) (λ k p lt t. and_from _ _ (free_own p t) refl) list each);
      writes = subst (EachMove (λ m. MatchBool m.temp (Free m.to) (m.to ≡ target tail next_frame m.argument))) (sym (moves_back (arguments_at lives a) (call_targets tail a) list))
          (each_act (arguments_at lives a) (call_targets tail a) (λ m. MatchBool m.temp (Free m.to) (m.to ≡ target tail next_frame m.argument)) (IsAmong free)
          (λ k lt. target_at k lt) (λ k p lt t. f p t) (λ k p q lt t s. f q s) (λ k p lt t. target_at k lt) list each);
      inside = λ x m. lives_own x (mentioned Low (application_atoms a) reads x m);
    } where
      own : (k : ℕ) → reads_own next_frame (argument_of (arguments_at lives a) k) ≡ true
      own = argument_own lives Low next_frame lives_own (a.operator ∷ a.operands) reads
