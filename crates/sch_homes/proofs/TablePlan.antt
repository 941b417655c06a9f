-- What is read in the table of a body's places and homes is its plan.
use Rattle.std.proofs.Common.{◌≡◌, ℕ, zero, suc, ◌+◌, ◌<◌, ◌≤◌, List, [], ◌∷◌, true, false, cond, Option, Some, None, length, Bool, refl, sym, ap, ◌∙◌, subst, arith, length-append}
use Rattle.std.specs.Prelude.{nat_lt, ◌&&◌, ◌||◌, slice_get}
use Rattle.std.proofs.Math.Path.{fun_ext}
use Rattle.std.proofs.lemmas.Bool.{ltb-false, ltb-true}
use Rattle.std.proofs.lemmas.Option.{slice_get_past}
use Rattle.sch_word.specs.declared.place.Place.{Place}
use Rattle.sch_word.specs.declared.place.Place.TheVariants.{Slot}
use Rattle.sch_word.proofs.facts.Booleans.{or_right_false}
use Rattle.sch_word.proofs.facts.Lists.{get_front, get_seam}
use Rattle.sch_control.specs.declared.body.Entry.{Entry}
use Rattle.sch_control.specs.Tree.{Expression}
use Rattle.sch_layout.specs.BodyLayout.{Plan}
use Rattle.sch_frames.specs.Valid.{max_words}
use Rattle.sch_homes.specs.CallMoves.{call_moves, next_frame}
use Rattle.sch_homes.specs.Homes.{calls_end, count_below, first_home, has_home, home, homes_end, homes_plan, homes_words, is_saved, late_slots, slots_end, has_register}
use Rattle.sch_homes.specs.HomeTable.{home_of, home_slots, place_in, table_plan}

-- ## Lists that grow at the end

-- ## The table of homes

module _ (first : ℕ) (test : ℕ → Bool) where
  slots_length : (n : ℕ) → length (home_slots first test n) ≡ n
  slots_length zero = refl
  slots_length (suc n) =
      let l = length-append (home_slots first test n) (cond (test n) (Some (first + count_below test n)) None ∷ []) in
      let h = slots_length n in
      omega (arith, l, h)

  -- each of the first n variables has its home there, or none
  slot_of : (n x : ℕ) → x < n → slice_get (home_slots first test n) x ≡ Some (cond (test x) (Some (first + count_below test x)) None)
  slot_of zero x lt = absurd (omega (arith, lt))
  slot_of (suc n) x lt = by (nat_lt x n) refl (slot_of n x) where
    by : (t : Bool) → nat_lt x n ≡ t → (x < n → slice_get (home_slots first test n) x ≡ Some (cond (test x) (Some (first + count_below test x)) None))
        → slice_get (home_slots first test (suc n)) x ≡ Some (cond (test x) (Some (first + count_below test x)) None)
    by true h more =
        let less = ltb-true x n h in
        let l = slots_length n in
        get_front (home_slots first test n) (cond (test n) (Some (first + count_below test n)) None ∷ []) x (omega (arith, less, l)) ∙ more less
    by false h more =
        let past = ltb-false x n h in
        let same : n ≡ x = omega (arith, past, lt) in
        subst (λ x. slice_get (home_slots first test (suc n)) x ≡ Some (cond (test x) (Some (first + count_below test x)) None)) same
        (subst (λ l. slice_get (home_slots first test (suc n)) l ≡ Some (cond (test n) (Some (first + count_below test n)) None)) (slots_length n)
        (get_seam (home_slots first test n) [] (cond (test n) (Some (first + count_below test n)) None)))

  pub home_read : (n x : ℕ) → (n ≤ x → test x ≡ false) → home_of x (slice_get (home_slots first test n) x) ≡ Slot (cond (test x) (first + count_below test x) (max_words + x))
  home_read n x past = by (nat_lt x n) refl where
    chosen : (t : Bool) (j : ℕ) → home_of x (Some (cond t (Some j) None)) ≡ Slot (cond t j (max_words + x))
    chosen true j = refl
    chosen false j = refl

    by : (t : Bool) → nat_lt x n ≡ t → home_of x (slice_get (home_slots first test n) x) ≡ Slot (cond (test x) (first + count_below test x) (max_words + x))
    by true h = ap (home_of x) (slot_of n x (ltb-true x n h)) ∙ chosen (test x) (first + count_below test x)
    by false h =
        let more = ltb-false x n h in
        let l = slots_length n in
        ap (home_of x) (slice_get_past (home_slots first test n) x (omega (arith, more, l)))
        ∙ ap (λ t. Slot (cond t (first + count_below test x) (max_words + x))) (sym (past more))

-- ## The plan

abbrev with_homes : (end : ℕ) → List Place → (home : ℕ → Place) → Plan
with_homes end places home = record { place = place_in places; home = home; limit = next_frame; moves = call_moves end (place_in places) }

module _ (entry : Option Entry) (e : Expression) (places : List Place) where
  home_is : (x : ℕ) → home_of x (slice_get (home_slots (first_home entry e places) (has_home entry e places) (length places)) x) ≡ home entry e places x
  home_is x =
      home_read (first_home entry e places) (has_home entry e places) (length places) x
      (λ past. ap (λ o. has_register o && is_saved e x) (slice_get_past places x past))

  pub table_is : (end : ℕ) (homes : List (Option ℕ)) → end ≡ homes_end entry e places → homes ≡ home_slots (first_home entry e places) (has_home entry e places) (length places)
      → table_plan end places homes ≡ homes_plan entry e places
  table_is end homes n h =
      ap (λ end. table_plan end places homes) n
      ∙ ap (table_plan (homes_end entry e places) places) h
      ∙ ap (with_homes (homes_end entry e places) places) (fun_ext home_is)

  -- where a set that was empty has gained what is saved, a test of the set is the test for a home
  pub homes_by : (saved old : ℕ → Bool) → ((x : ℕ) → saved x ≡ (is_saved e x || old x)) → ((x : ℕ) → old x ≡ false)
      → (λ x. has_register (slice_get places x) && saved x) ≡ has_home entry e places
  homes_by saved old h none = fun_ext (λ x. ap (λ b. has_register (slice_get places x) && b) (h x ∙ ap (λ b. is_saved e x || b) (none x) ∙ or_right_false (is_saved e x)))

  -- with homes from behind the slots on, the table and the size of the frame are those of the body
  pub room_is : (late first end words : ℕ) (read : List Place) (saved : ℕ → Bool) (homes : List (Option ℕ))
      → read ≡ places → late ≡ late_slots entry → first ≡ slots_end late read
      → (λ x. has_register (slice_get places x) && saved x) ≡ has_home entry e places
      → homes ≡ home_slots first (λ x. has_register (slice_get read x) && saved x) (length read)
      → end ≡ first + count_below (λ x. has_register (slice_get read x) && saved x) (length read)
      → words ≡ calls_end end (place_in read) e
      → (homes ≡ home_slots (first_home entry e places) (has_home entry e places) (length places)) × ((end ≡ homes_end entry e places) × (words ≡ homes_words entry e places))
  room_is late first end words read saved homes r l f t h n w =
      let begins : first ≡ first_home entry e places = f ∙ (ap (slots_end late) r ∙ ap (λ late. slots_end late places) l) in
      let ends : end ≡ homes_end entry e places =
      n
      ∙ (ap (λ read. first + count_below (λ x. has_register (slice_get read x) && saved x) (length read)) r
      ∙ (ap (λ test. first + count_below test (length places)) t
      ∙ ap (λ first. first + count_below (has_home entry e places) (length places)) begins)) in (
        h
            ∙ (ap (λ read. home_slots first (λ x. has_register (slice_get read x) && saved x) (length read)) r
            ∙ (ap (λ test. home_slots first test (length places)) t
            ∙ ap (λ first. home_slots first (has_home entry e places) (length places)) begins)),
        (ends, w ∙ (ap (λ read. calls_end end (place_in read) e) r ∙ ap (λ end. calls_end end (place_in places) e) ends)),
      )
