-- Where the arguments are, after the operands that are left over have become a list.
use Rattle.std.proofs.Common.{◌≡◌, ℕ, zero, suc, ◌+◌, ◌*◌, ◌<◌, ◌≤◌, List, [], ◌∷◌, ◌++◌, length, take, drop}
use Rattle.std.proofs.Common.{false, cond, Option, Some, None, refl, sym, ap, ◌∙◌, subst, arith, ◌⊎◌, inl, inr, ⊎_elim, ◌==◌}
use Rattle.std.specs.Prelude.{◌-◌, slice_get}
use Rattle.sch_asm.specs.Data.{word_in}
use Rattle.std.proofs.lemmas.Bool.{ne_eqb, cases_lt}
use Rattle.sch_word.specs.declared.place.Place.TheVariants.{Reg, Slot}
use Rattle.sch_word.specs.values.Values.{Value}
use Rattle.sch_frames.specs.Meaning.{Junk, cell_of, entry_places}
use Rattle.sch_control.specs.flow.Places.{argument_register, argument_slot, register_or_slot}
use Rattle.sch_word.specs.values.Places.{same_place}
use Rattle.sch_frames.proofs.FramePlaces.{slot_of}
use Rattle.sch_asm.specs.Views.{View}
use Rattle.sch_select_memory.specs.Parts.{Parts}
use Rattle.sch_select_memory.specs.Encoded.{IsWord, Words}
use Rattle.sch_select_memory.proofs.Places.{Plan, Activation, PlacesAt, Holds, holds_words}
use Rattle.sch_select_memory.proofs.simulation.ProcedureEntries.{each_register}
use Rattle.sch_select_memory.proofs.lists.RestLoop.{is_loose}
use Rattle.sch_select_memory.proofs.lists.RestRegisters.{Listed, list_word, word_of}
use Rattle.sch_select_memory.proofs.lists.RestRoutine.{argument_place}

-- ---- arguments in front of the list, the list, and none behind it

pub in_front : {A : Type 0} (xs : List A) (x : A) (m k : ℕ) → k < m → m ≤ length xs
    → slice_get (take m xs ++ x ∷ []) k ≡ slice_get xs k
in_front xs x zero k lt le = absurd (omega (arith, lt))
in_front [] x (suc m) k lt le = absurd (omega (arith, le))
in_front (y ∷ xs) x (suc m) zero lt le = refl
in_front (y ∷ xs) x (suc m) (suc k) lt le = in_front xs x m k (omega (arith, lt)) (omega (arith, le))

pub at_end : {A : Type 0} (xs : List A) (x : A) (m : ℕ) → m ≤ length xs → slice_get (take m xs ++ x ∷ []) m ≡ Some x
at_end xs x zero le = refl
at_end [] x (suc m) le = absurd (omega (arith, le))
at_end (y ∷ xs) x (suc m) le = at_end xs x m (omega (arith, le))

pub past_end : {A : Type 0} (xs : List A) (x : A) (m k : ℕ) → m < k → slice_get (take m xs ++ x ∷ []) k ≡ None
past_end xs x zero zero lt = absurd (omega (arith, lt))
past_end xs x zero (suc k) lt = refl
past_end [] x (suc m) zero lt = absurd (omega (arith, lt))
past_end [] x (suc m) (suc k) lt = refl
past_end (y ∷ xs) x (suc m) zero lt = absurd (omega (arith, lt))
past_end (y ∷ xs) x (suc m) (suc k) lt = past_end xs x m k (omega (arith, lt))

-- ---- the places of arguments are apart

abbrev index_of : ℕ → ℕ
index_of r = cond (r == 3) 0 (cond (r == 8) 1 (cond (r == 9) 2 (cond (r == 10) 3 (cond (r == 6) 4 5))))

register_index : (k r : ℕ) → argument_register k ≡ Some r → (index_of r ≡ k) × (is_loose r ≡ false)
register_index zero r e = let is : 3 ≡ r = cc in (sym (ap index_of is), sym (ap is_loose is))
register_index (suc zero) r e = let is : 8 ≡ r = cc in (sym (ap index_of is), sym (ap is_loose is))
register_index (suc (suc zero)) r e = let is : 9 ≡ r = cc in (sym (ap index_of is), sym (ap is_loose is))
register_index (suc (suc (suc zero))) r e = let is : 10 ≡ r = cc in (sym (ap index_of is), sym (ap is_loose is))
register_index (suc (suc (suc (suc zero)))) r e = let is : 6 ≡ r = cc in (sym (ap index_of is), sym (ap is_loose is))
register_index (suc (suc (suc (suc (suc zero))))) r e =
    let is : 7 ≡ r = cc in (sym (ap index_of is), sym (ap is_loose is))
register_index (suc (suc (suc (suc (suc (suc k)))))) r e = absurd (let bad : None ≡ Some r = e in cc)

-- the register of another argument
other_register : (m k r : ℕ) → argument_register k ≡ Some r → (k ≡ m → ⊥)
    → same_place (argument_place m) (Reg r) ≡ false
other_register m k r e ne = by (argument_register m) refl
  where
    by : (o : Option ℕ) → argument_register m ≡ o → same_place (register_or_slot o (argument_slot m)) (Reg r) ≡ false
    by None f = refl
    by (Some q) f = ne_eqb q r
        (λ same. ne (sym (register_index k r e).0 ∙ ap index_of (sym same) ∙ (register_index m q f).0))

-- the slot of another argument
other_slot : (m k i : ℕ) → argument_register k ≡ None → (k ≡ m → ⊥) → argument_place m ≡ Slot i
    → argument_slot k ≡ i → ⊥
other_slot m k i e ne at same = by (argument_register m) refl at
  where
    by : (o : Option ℕ) → argument_register m ≡ o → register_or_slot o (argument_slot m) ≡ Slot i → ⊥
    by (Some q) f g = absurd (let bad : Reg q ≡ Slot i = g in cc)
    by None f g =
        let j : argument_slot m ≡ i = cc in
        let a = slot_of k e in let b = slot_of m f in
        ne (omega (arith, a, b, j, same))

-- no argument is in these registers
no_argument : (m : ℕ) → (same_place (argument_place m) (Reg 5) ≡ false)
    × (same_place (argument_place m) (Reg 13) ≡ false) × (same_place (argument_place m) (Reg 14) ≡ false)
    × (same_place (argument_place m) (Reg 15) ≡ false)
no_argument zero = (refl, refl, refl, refl)
no_argument (suc zero) = (refl, refl, refl, refl)
no_argument (suc (suc zero)) = (refl, refl, refl, refl)
no_argument (suc (suc (suc zero))) = (refl, refl, refl, refl)
no_argument (suc (suc (suc (suc zero)))) = (refl, refl, refl, refl)
no_argument (suc (suc (suc (suc (suc zero))))) = (refl, refl, refl, refl)
no_argument (suc (suc (suc (suc (suc (suc k)))))) = (refl, refl, refl, refl)

module _ (plan : Plan) (act : Activation plan) (parts parts' : Parts) (words_stay : Words parts parts') (self : Value)
    (vs : List Value) (m : ℕ) (enough : m ≤ length vs) (list : Value) (x : View) (a most : ℕ)
    (l : Listed plan act parts x a (argument_place m) (drop m vs) most)
    (named : IsWord parts' list (list_word a (drop m vs))) where
  open plan use {heap, stack, words}

  abbrev arguments : List Value
  arguments = take m vs ++ list ∷ []

  -- another argument is where it was
  argument_kept : (k : ℕ) → (k ≡ m → ⊥) → word_of plan act parts (argument_place k) l.registers l.bytes
      ≡ word_of plan act parts (argument_place k) x.registers x.bytes
  argument_kept k ne = by (argument_register k) refl
    where
      apart : (i : ℕ) → (argument_slot k ≡ i → ⊥) → (act.frame + 8 * argument_slot k + 8 ≤ act.frame + 8 * i)
          ⊎ (act.frame + 8 * i + 8 ≤ act.frame + 8 * argument_slot k)
      apart i other = ⊎_elim (λ lt. inl (omega (arith, lt))) (λ le. ⊎_elim (λ lt. inr (omega (arith, lt)))
          (λ ge. absurd (other (omega (arith, le, ge)))) (cases_lt i (argument_slot k))) (cases_lt (argument_slot k) i)

      by : (o : Option ℕ) → argument_register k ≡ o
          → word_of plan act parts (register_or_slot o (argument_slot k)) l.registers l.bytes
          ≡ word_of plan act parts (register_or_slot o (argument_slot k)) x.registers x.bytes
      by (Some r) e = l.kept r (register_index k r e).1 (other_register m k r e ne)
      by None e = let lo = act.room.low in l.slots (act.frame + 8 * argument_slot k) (omega (arith, lo))
          (λ i at. apart i (other_slot m k i e ne at))

  pub argument_holds : (k : ℕ)
      → Holds act.back parts (cell_of (slice_get vs k)) (word_of plan act parts (argument_place k) x.registers x.bytes)
      → Holds act.back parts' (cell_of (slice_get arguments k))
      (word_of plan act parts (argument_place k) l.registers l.bytes)
  argument_holds k h = ⊎_elim
      (λ lt. subst (λ o. Holds act.back parts' (cell_of o) (word_of plan act parts (argument_place k) l.registers
      l.bytes)) (sym (in_front vs list m k lt enough))
      (subst (Holds act.back parts' (cell_of (slice_get vs k))) (sym (argument_kept k (λ e. omega (arith, e, lt))))
      (holds_words act.back parts parts' words_stay (cell_of (slice_get vs k)) _ h)))
      (λ le. ⊎_elim
      (λ lt. subst (λ o. Holds act.back parts' (cell_of o) (word_of plan act parts (argument_place k) l.registers
      l.bytes)) (sym (past_end vs list m k lt)) tt)
      (λ ge. let same : m ≡ k = omega (arith, le, ge) in
      subst (λ k. Holds act.back parts' (cell_of (slice_get arguments k))
      (word_of plan act parts (argument_place k) l.registers l.bytes)) same
      (subst (λ o. Holds act.back parts' (cell_of o) (word_of plan act parts (argument_place m) l.registers l.bytes))
      (sym (at_end vs list m enough)) (subst (IsWord parts' list) (sym l.value) named)))
      (cases_lt m k)) (cases_lt k m)

  -- an operand in a slot
  slot_holds : (k j : ℕ) → argument_place k ≡ Slot j → 6 + j ≡ k
      → Holds act.back parts (cell_of (slice_get vs (6 + j))) (word_in x.bytes (act.frame + 8 * j))
      → Holds act.back parts' (cell_of (slice_get arguments (6 + j))) (word_in l.bytes (act.frame + 8 * j))
  slot_holds k j p e h =
      let held = subst (λ q. Holds act.back parts (cell_of (slice_get vs k)) (word_of plan act parts q x.registers x.bytes)) (sym p)
      (subst (λ i. Holds act.back parts (cell_of (slice_get vs i)) (word_in x.bytes (act.frame + 8 * j))) e h) in
      subst (λ i. Holds act.back parts' (cell_of (slice_get arguments i)) (word_in l.bytes (act.frame + 8 * j))) (sym e)
      (subst (λ q. Holds act.back parts' (cell_of (slice_get arguments k)) (word_of plan act parts q l.registers l.bytes)) p
      (argument_holds k held))

  -- the places of the body that begins
  pub places_listed : (charged : ℕ) → a ≡ heap + charged
      → PlacesAt plan act parts charged (entry_places self vs) (λ k. Junk) x.registers x.bytes
      → PlacesAt plan act parts' (charged + 16 * length (drop m vs)) (entry_places self arguments) (λ k. Junk)
      l.registers l.bytes
  places_listed charged at f =
      let none = no_argument m in let fr = l.free in
      let self_kept = l.kept 14 refl none.2 in let link_kept = l.kept 15 refl none.3 in
      record {
        frame = l.kept 5 refl none.0 ∙ f.frame;
        depth = l.kept 13 refl none.1 ∙ f.depth;
        free = omega (arith, fr, at);
        register = each_register
            (λ r. Holds act.back parts' (entry_places self arguments (Reg r)) (l.registers r))
            (argument_holds 0 (f.register 3 refl)) (argument_holds 4 (f.register 6 refl))
            (argument_holds 5 (f.register 7 refl)) (argument_holds 1 (f.register 8 refl))
            (argument_holds 2 (f.register 9 refl)) (argument_holds 3 (f.register 10 refl))
            (subst (IsWord parts' self) (sym self_kept) (words_stay self _ (f.register 14 refl)))
            (link_kept ∙ f.register 15 refl);
        slot = λ j lt.
            let place : suc (suc (suc (suc (suc (suc j))))) - 6 ≡ j = omega arith in
            slot_holds (suc (suc (suc (suc (suc (suc j)))))) j (ap Slot place) (omega arith) (f.slot j lt);
        next = λ j lt. tt;
      }
