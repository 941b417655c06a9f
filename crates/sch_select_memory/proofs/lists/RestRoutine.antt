-- The whole routine of lists, and the operands that it finds where a procedure is entered.
use Rattle.std.proofs.Common.{◌≡◌, ℕ, zero, suc, ◌+◌, ◌-◌, ◌*◌, ◌^◌, ◌<◌, ◌≤◌, List, [], ◌∷◌, length, drop, false, refl}
use Rattle.std.proofs.Common.{sym, ap, ◌∙◌, subst, arith, ◌==◌, Option, Some, None}
use Rattle.std.specs.Prelude.{slice_get}
use Rattle.sch_word.specs.declared.place.Place.{Place}
use Rattle.sch_word.specs.declared.place.Place.TheVariants.{Reg, Slot}
use Rattle.sch_word.specs.values.Values.{Value}
use Rattle.sch_frames.specs.Meaning.{Junk, cell_of, entry_places}
use Rattle.sch_control.specs.flow.Places.{argument_register, argument_slot, register_or_slot}
use Rattle.sch_asm.specs.declared.item.Item.{Item}
use Rattle.sch_asm.specs.declared.item.Item.TheVariants as item
use Rattle.sch_asm.specs.Stands.{Stands}
use Rattle.sch_asm.specs.Data.{word_in}
use Rattle.sch_asm.specs.Views.{View}
use Rattle.sch_select_memory.specs.Parts.{Parts}
use Rattle.sch_select_memory.specs.Encoded.{IsWord}
use Rattle.sch_select_memory.specs.RestCode.{loop_code, loop_label, slots_code, more_label, registers_code, rest_label}
use Rattle.sch_word.specs.values.Registers.{argument_registers}
use Rattle.sch_word.specs.runs.ProgramLayout.{data_address}
use Rattle.sch_select_memory.specs.RestCode.{first_code, firsts_code, first_slot_code, more_code, later_registers}
use Rattle.sch_select_memory.specs.RestCode.{rest_routine, list_label, check_pairs, slot_address}
use Rattle.sch_select_memory.proofs.Places.{Plan, Activation, PlacesAt, Holds}
use Rattle.sch_select_memory.proofs.lists.RestLoop.{is_loose, InSlots}
use Rattle.sch_select_memory.proofs.lists.RestRegisters.{Outside, or_one, AtPlaces, Listed, first_register, first_slot}

-- where the operand with m before it is
abbrev pub argument_place : ℕ → Place
argument_place m = register_or_slot (argument_register m) (argument_slot m)

module _ (plan : Plan) where
  open plan use {setting, size, words, closures, heap, stack, near, small, closures_low, heap_low, stack_low}

  -- ---- the parts of the routine

  -- where some items stand
  abbrev Somewhere : List Item → Type 0
  Somewhere is = (a : ℕ) × Stands setting [] a is

  past_check : (l a : ℕ) (rest : List Item) → Stands setting [] a (item.Label l ∷ check_pairs stack rest)
      → Somewhere rest
  past_check l a rest h = (_, h.2.2.2.2.2.2.4)

  past_slot_check : (l a : ℕ) (rest : List Item)
      → Stands setting [] a (item.Label l ∷ slot_address (check_pairs stack rest)) → Somewhere rest
  past_slot_check l a rest h = (_, h.2.2.2.2.2.2.2.4)

  past_first : (m r a : ℕ) (rest : List Item) → Stands setting [] a (first_code m r rest) → Somewhere rest
  past_first m r a rest h = (_, h.2.2.4.2.2.2.2.2.2.4)

  past_slot : (a : ℕ) (rest : List Item) → Stands setting [] a (first_slot_code rest) → Somewhere rest
  past_slot a rest h = (_, h.2.2.4.2.2.2.2.2.2.2.2.2.4)

  past_more : (m r a : ℕ) (rest : List Item) → Stands setting [] a (more_code m r rest) → Somewhere rest
  past_more m r a rest h = (_, h.2.2.4.2.2.2.2.2)

  module _ (a0 : ℕ) (rest : List Item) (routine : Stands setting [] a0 (rest_routine stack rest)) where
    abbrev slots : List Item
    slots = slots_code rest

    abbrev mores : List Item
    mores = registers_code 1 later_registers slots

    abbrev firsts : ℕ → List ℕ → List Item
    firsts m rs = firsts_code stack m rs (item.Label (list_label 6) ∷ slot_address (check_pairs stack (first_slot_code mores)))

    c0 : Somewhere (first_code 0 3 (firsts 1 (8 ∷ (9 ∷ (10 ∷ (6 ∷ (7 ∷ [])))))))
    c0 = past_check (list_label 0) a0 (first_code 0 3 (firsts 1 (8 ∷ (9 ∷ (10 ∷ (6 ∷ (7 ∷ []))))))) routine

    f1 : Somewhere (firsts 1 (8 ∷ (9 ∷ (10 ∷ (6 ∷ (7 ∷ []))))))
    f1 = past_first 0 3 c0.0 (firsts 1 (8 ∷ (9 ∷ (10 ∷ (6 ∷ (7 ∷ [])))))) c0.1

    c1 : Somewhere (first_code 1 8 (firsts 2 (9 ∷ (10 ∷ (6 ∷ (7 ∷ []))))))
    c1 = past_check (list_label 1) f1.0 (first_code 1 8 (firsts 2 (9 ∷ (10 ∷ (6 ∷ (7 ∷ [])))))) f1.1

    f2 : Somewhere (firsts 2 (9 ∷ (10 ∷ (6 ∷ (7 ∷ [])))))
    f2 = past_first 1 8 c1.0 (firsts 2 (9 ∷ (10 ∷ (6 ∷ (7 ∷ []))))) c1.1

    c2 : Somewhere (first_code 2 9 (firsts 3 (10 ∷ (6 ∷ (7 ∷ [])))))
    c2 = past_check (list_label 2) f2.0 (first_code 2 9 (firsts 3 (10 ∷ (6 ∷ (7 ∷ []))))) f2.1

    f3 : Somewhere (firsts 3 (10 ∷ (6 ∷ (7 ∷ []))))
    f3 = past_first 2 9 c2.0 (firsts 3 (10 ∷ (6 ∷ (7 ∷ [])))) c2.1

    c3 : Somewhere (first_code 3 10 (firsts 4 (6 ∷ (7 ∷ []))))
    c3 = past_check (list_label 3) f3.0 (first_code 3 10 (firsts 4 (6 ∷ (7 ∷ [])))) f3.1

    f4 : Somewhere (firsts 4 (6 ∷ (7 ∷ [])))
    f4 = past_first 3 10 c3.0 (firsts 4 (6 ∷ (7 ∷ []))) c3.1

    c4 : Somewhere (first_code 4 6 (firsts 5 (7 ∷ [])))
    c4 = past_check (list_label 4) f4.0 (first_code 4 6 (firsts 5 (7 ∷ []))) f4.1

    f5 : Somewhere (firsts 5 (7 ∷ []))
    f5 = past_first 4 6 c4.0 (firsts 5 (7 ∷ [])) c4.1

    c5 : Somewhere (first_code 5 7 (firsts 6 []))
    c5 = past_check (list_label 5) f5.0 (first_code 5 7 (firsts 6 [])) f5.1

    f6 : Somewhere (firsts 6 [])
    f6 = past_first 5 7 c5.0 (firsts 6 []) c5.1

    c6 : Somewhere (first_slot_code mores)
    c6 = past_slot_check (list_label 6) f6.0 (first_slot_code mores) f6.1

    m1 : Somewhere mores
    m1 = past_slot c6.0 mores c6.1

    m2 : Somewhere (registers_code 2 (9 ∷ (10 ∷ (6 ∷ (7 ∷ [])))) slots)
    m2 = past_more 1 8 m1.0 (registers_code 2 (9 ∷ (10 ∷ (6 ∷ (7 ∷ [])))) slots) m1.1

    m3 : Somewhere (registers_code 3 (10 ∷ (6 ∷ (7 ∷ []))) slots)
    m3 = past_more 2 9 m2.0 (registers_code 3 (10 ∷ (6 ∷ (7 ∷ []))) slots) m2.1

    m4 : Somewhere (registers_code 4 (6 ∷ (7 ∷ [])) slots)
    m4 = past_more 3 10 m3.0 (registers_code 4 (6 ∷ (7 ∷ [])) slots) m3.1

    m5 : Somewhere (registers_code 5 (7 ∷ []) slots)
    m5 = past_more 4 6 m4.0 (registers_code 5 (7 ∷ []) slots) m4.1

    m6 : Somewhere slots
    m6 = past_more 5 7 m5.0 slots m5.1

    loop_stands : Stands setting [] (setting.place_of loop_label) (loop_code rest)
    loop_stands = subst (λ a. Stands setting [] a (loop_code rest)) (sym m6.1.2.2.1) m6.1.2.2

    -- where the room of the heap is looked at, and what is behind

    pub record Checks (m : ℕ) : Type 0 where
      pub code : List Item
      pub stands : Stands setting [] (setting.place_of (list_label m)) (check_pairs stack code)
      pub behind : (a : ℕ) → Stands setting [] a code → a ≡ setting.place_of (rest_label m)

    checked : (m r a : ℕ) (rest : List Item)
        → Stands setting [] a (item.Label (list_label m) ∷ check_pairs stack (first_code m r rest)) → Checks m
    checked m r a rest h = record {
      code = first_code m r rest;
      stands = subst (λ a. Stands setting [] a (check_pairs stack (first_code m r rest))) (sym h.1) h.2;
      behind = λ a st. sym st.1;
    }

    pub checked_register : (m : ℕ) → m < 6 → Checks m
    checked_register zero lt = checked 0 3 a0 (firsts 1 (8 ∷ (9 ∷ (10 ∷ (6 ∷ (7 ∷ [])))))) routine
    checked_register (suc zero) lt = checked 1 8 f1.0 (firsts 2 (9 ∷ (10 ∷ (6 ∷ (7 ∷ []))))) f1.1
    checked_register (suc (suc zero)) lt = checked 2 9 f2.0 (firsts 3 (10 ∷ (6 ∷ (7 ∷ [])))) f2.1
    checked_register (suc (suc (suc zero))) lt = checked 3 10 f3.0 (firsts 4 (6 ∷ (7 ∷ []))) f3.1
    checked_register (suc (suc (suc (suc zero)))) lt = checked 4 6 f4.0 (firsts 5 (7 ∷ [])) f4.1
    checked_register (suc (suc (suc (suc (suc zero))))) lt = checked 5 7 f5.0 (firsts 6 []) f5.1
    checked_register (suc (suc (suc (suc (suc (suc k)))))) lt = absurd (omega (arith, lt))

    -- and where the address of a slot is made before
    pub record SlotChecks : Type 0 where
      pub code : List Item
      pub stands : Stands setting [] (setting.place_of (list_label 6)) (slot_address (check_pairs stack code))
      pub behind : (a : ℕ) → Stands setting [] a code → a ≡ setting.place_of (rest_label 6)

    pub checked_slot : SlotChecks
    checked_slot = record {
      code = first_slot_code mores;
      stands = subst (λ a. Stands setting [] a (slot_address (check_pairs stack (first_slot_code mores)))) (sym f6.1.1) f6.1.2;
      behind = λ a st. sym st.1;
    }

    -- ---- the list of operands from one on, by where that is

    module _ (act : Activation plan) (parts : Parts) (vs : List Value) (x : View) (a : ℕ)
        (counted : x.registers 0 ≡ length vs) (few : length vs < 2 ^ 31) (at : x.registers 12 ≡ a)
        (low : closures ≤ a) (high : a + 16 * length vs ≤ stack) (sized : length x.bytes ≡ size) where
      from_register : (n : ℕ) → x.registers 5 ≡ act.frame → act.frame + 8 * n ≤ data_address + size → (m r : ℕ)
          (rs : List ℕ) (tail : List Item) → is_loose r ≡ false → (5 == r) ≡ false → Outside is_loose rs
          → Outside (or_one r is_loose) rs → (b : ℕ) → Stands setting [] b (first_code m r tail)
          → Stands setting [] (setting.place_of (more_label (suc m))) (registers_code (suc m) rs slots)
          → x.place ≡ setting.place_of (rest_label m) → length vs ≤ suc (length rs) + n
          → AtPlaces plan act parts (r ∷ rs) x.registers x.bytes act.frame vs
          → Listed plan act parts x a (Reg r) vs 12
      from_register n framed room m r rs tail firm no_frame out more b st behind here many h = first_register plan act
          parts rest loop_stands m r rs tail firm no_frame out more vs x a n
          (subst (λ p. Stands setting [] p (first_code m r tail)) (sym st.1 ∙ sym here) st) behind counted few at framed low
          high sized many room h

      -- the first operand is in a register
      pub by_register : (n : ℕ) → x.registers 5 ≡ act.frame → act.frame + 8 * n ≤ data_address + size → (m : ℕ)
          → m < 6 → x.place ≡ setting.place_of (rest_label m) → m + length vs ≤ 6 + n
          → AtPlaces plan act parts (drop m argument_registers) x.registers x.bytes act.frame vs
          → Listed plan act parts x a (argument_place m) vs 12
      by_register n framed room zero lt here many h =
          from_register n framed room 0 3 (8 ∷ (9 ∷ (10 ∷ (6 ∷ (7 ∷ []))))) (firsts 1 (8 ∷ (9 ∷ (10 ∷ (6 ∷ (7 ∷ [])))))) refl refl (refl, (refl, (refl, (refl, (refl, tt)))))
          (refl, (refl, (refl, (refl, (refl, tt))))) c0.0 c0.1
          (subst (λ a. Stands setting [] a mores) (sym m1.1.1) m1.1) here (omega (arith, many)) h
      by_register n framed room (suc zero) lt here many h =
          from_register n framed room 1 8 (9 ∷ (10 ∷ (6 ∷ (7 ∷ [])))) (firsts 2 (9 ∷ (10 ∷ (6 ∷ (7 ∷ []))))) refl refl (refl, (refl, (refl, (refl, tt))))
          (refl, (refl, (refl, (refl, tt)))) c1.0 c1.1
          (subst (λ a. Stands setting [] a (registers_code 2 (9 ∷ (10 ∷ (6 ∷ (7 ∷ [])))) slots)) (sym m2.1.1) m2.1) here (omega (arith, many)) h
      by_register n framed room (suc (suc zero)) lt here many h =
          from_register n framed room 2 9 (10 ∷ (6 ∷ (7 ∷ []))) (firsts 3 (10 ∷ (6 ∷ (7 ∷ [])))) refl refl (refl, (refl, (refl, tt))) (refl, (refl, (refl, tt))) c2.0 c2.1
          (subst (λ a. Stands setting [] a (registers_code 3 (10 ∷ (6 ∷ (7 ∷ []))) slots)) (sym m3.1.1) m3.1) here (omega (arith, many)) h
      by_register n framed room (suc (suc (suc zero))) lt here many h =
          from_register n framed room 3 10 (6 ∷ (7 ∷ [])) (firsts 4 (6 ∷ (7 ∷ []))) refl refl (refl, (refl, tt)) (refl, (refl, tt)) c3.0 c3.1
          (subst (λ a. Stands setting [] a (registers_code 4 (6 ∷ (7 ∷ [])) slots)) (sym m4.1.1) m4.1) here (omega (arith, many)) h
      by_register n framed room (suc (suc (suc (suc zero)))) lt here many h = from_register n framed room 4 6 (7 ∷ []) (firsts 5 (7 ∷ [])) refl refl (refl, tt) (refl, tt) c4.0 c4.1
          (subst (λ a. Stands setting [] a (registers_code 5 (7 ∷ []) slots)) (sym m5.1.1) m5.1) here (omega (arith, many)) h
      by_register n framed room (suc (suc (suc (suc (suc zero))))) lt here many h = from_register n framed room 5 7 [] (firsts 6 []) refl refl tt tt c5.0 c5.1
          (subst (λ a. Stands setting [] a slots) (sym m6.1.1) m6.1) here (omega (arith, many)) h
      by_register n framed room (suc (suc (suc (suc (suc (suc k)))))) lt here many h = absurd (omega (arith, lt))

      -- the first operand is in a slot
      pub by_slot : (j : ℕ) → x.registers 1 ≡ act.frame + 8 * j → act.frame + 8 * j + 8 ≤ data_address + size
          → act.frame + 8 * j + 8 * length vs ≤ data_address + size → x.place ≡ setting.place_of (rest_label 6)
          → InSlots plan act parts x.bytes (act.frame + 8 * j) vs → Listed plan act parts x a (Slot j) vs 12
      by_slot j slot one room here h = first_slot plan act parts rest loop_stands j mores vs x a
          (subst (λ p. Stands setting [] p (first_slot_code mores)) (sym c6.1.1 ∙ sym here) c6.1) counted few slot at low
          high sized one room h

-- ---- the operands where a procedure is entered

pub get_drop : {A : Type 0} (xs : List A) (m k : ℕ) → slice_get (drop m xs) k ≡ slice_get xs (m + k)
get_drop xs zero k = let e : k ≡ 0 + k = omega arith in ap (slice_get xs) e
get_drop [] (suc m) k = let e : suc m + k ≡ suc (m + k) = omega arith in sym (ap (slice_get []) e)
get_drop (x ∷ xs) (suc m) k = let e : suc (m + k) ≡ suc m + k = omega arith in get_drop xs m k
    ∙ ap (slice_get (x ∷ xs)) e

module _ (plan : Plan) (act : Activation plan) (parts : Parts) where
  word_held : (o : Option Value) (v : Value) (x : ℕ) → o ≡ Some v → Holds act.back parts (cell_of o) x
      → IsWord parts v x
  word_held (Some u) v x e h = let same : u ≡ v = cc in subst (λ v. IsWord parts v x) same h
  word_held None v x e h = absurd (let bad : None ≡ Some v = e in cc)

  pub in_slots : (bytes : List ℕ) (p : ℕ) (us : List Value)
      → ((j : ℕ) → j < length us → Holds act.back parts (cell_of (slice_get us j)) (word_in bytes (p + 8 * j)))
      → InSlots plan act parts bytes p us
  in_slots bytes p [] h = tt
  in_slots bytes p (u ∷ us) h =
      let z : p + 8 * 0 ≡ p = omega arith in (
        subst (λ q. IsWord parts u (word_in bytes q)) z (h 0 (omega arith)),
        in_slots bytes (p + 8) us (λ j lt. let e : p + 8 * suc j ≡ p + 8 + 8 * j = omega arith in
            subst (λ q. Holds act.back parts (cell_of (slice_get us j)) (word_in bytes q)) e (h (suc j) (omega (arith, lt)))),
      )

  pub at_places : (registers : ℕ → ℕ) (bytes : List ℕ) (p : ℕ) (rs : List ℕ) (us : List Value)
      → ((k r : ℕ) → slice_get rs k ≡ Some r → Holds act.back parts (cell_of (slice_get us k)) (registers r))
      → ((j : ℕ) → length rs + j < length us
      → Holds act.back parts (cell_of (slice_get us (length rs + j))) (word_in bytes (p + 8 * j)))
      → AtPlaces plan act parts rs registers bytes p us
  at_places registers bytes p [] us hr hs = in_slots bytes p us (λ j lt. let e : 0 + j ≡ j = omega arith in
      subst (λ i. Holds act.back parts (cell_of (slice_get us i)) (word_in bytes (p + 8 * j))) e (hs j (omega (arith, lt))))
  at_places registers bytes p (r ∷ rs) [] hr hs = tt
  at_places registers bytes p (r ∷ rs) (u ∷ us) hr hs = (
    hr 0 r refl,
    at_places registers bytes p rs us (λ k r e. hr (suc k) r e)
        (λ j lt. let e : length (r ∷ rs) + j ≡ suc (length rs + j) = omega arith in
        subst (λ i. Holds act.back parts (cell_of (slice_get (u ∷ us) i)) (word_in bytes (p + 8 * j))) e
        (hs j (omega (arith, lt)))),
  )

  module _ (charged : ℕ) (self : Value) (vs : List Value) (registers : ℕ → ℕ) (bytes : List ℕ)
      (few : length vs ≤ 6 + plan.words)
      (f : PlacesAt plan act parts charged (entry_places self vs) (λ k. Junk) registers bytes) where
    -- those that are handed over in registers
    held_register : (k r : ℕ) → slice_get argument_registers k ≡ Some r
        → Holds act.back parts (cell_of (slice_get vs k)) (registers r)
    held_register zero r e = let is : 3 ≡ r = cc in subst (λ r. Holds act.back parts (cell_of (slice_get vs 0))
        (registers r)) is (f.register 3 refl)
    held_register (suc zero) r e = let is : 8 ≡ r = cc in subst (λ r. Holds act.back parts (cell_of (slice_get vs 1))
        (registers r)) is (f.register 8 refl)
    held_register (suc (suc zero)) r e = let is : 9 ≡ r = cc in subst (λ r. Holds act.back parts
        (cell_of (slice_get vs 2)) (registers r)) is (f.register 9 refl)
    held_register (suc (suc (suc zero))) r e = let is : 10 ≡ r = cc in subst (λ r. Holds act.back parts
        (cell_of (slice_get vs 3)) (registers r)) is (f.register 10 refl)
    held_register (suc (suc (suc (suc zero)))) r e = let is : 6 ≡ r = cc in subst (λ r. Holds act.back parts
        (cell_of (slice_get vs 4)) (registers r)) is (f.register 6 refl)
    held_register (suc (suc (suc (suc (suc zero))))) r e = let is : 7 ≡ r = cc in subst (λ r. Holds act.back parts
        (cell_of (slice_get vs 5)) (registers r)) is (f.register 7 refl)
    held_register (suc (suc (suc (suc (suc (suc k)))))) r e = absurd (let bad : None ≡ Some r = e in cc)

    held_slot : (j : ℕ) → j < plan.words
        → Holds act.back parts (cell_of (slice_get vs (6 + j))) (word_in bytes (act.frame + 8 * j))
    held_slot j lt = f.slot j lt

    length_drop : {A : Type 0} (xs : List A) (m : ℕ) → length (drop m xs) ≤ length xs - m
    length_drop xs zero = omega arith
    length_drop [] (suc m) = omega arith
    length_drop (x ∷ xs) (suc m) = let h = length_drop xs m in omega (arith, h)

    length_registers : (m : ℕ) → m < 6 → length (drop m argument_registers) ≡ 6 - m
    length_registers zero lt = refl
    length_registers (suc zero) lt = refl
    length_registers (suc (suc zero)) lt = refl
    length_registers (suc (suc (suc zero))) lt = refl
    length_registers (suc (suc (suc (suc zero)))) lt = refl
    length_registers (suc (suc (suc (suc (suc zero))))) lt = refl
    length_registers (suc (suc (suc (suc (suc (suc k)))))) lt = absurd (omega (arith, lt))

    -- the operands from one on
    pub from_register_on : (m : ℕ) → m < 6
        → AtPlaces plan act parts (drop m argument_registers) registers bytes act.frame (drop m vs)
    from_register_on m lt =
        let n = length_registers m lt in
        at_places registers bytes act.frame (drop m argument_registers) (drop m vs)
        (λ k r e. subst (λ o. Holds act.back parts (cell_of o) (registers r)) (sym (get_drop vs m k))
        (held_register (m + k) r (sym (get_drop argument_registers m k) ∙ e)))
        (λ j less. let d = length_drop vs m in
        let e : m + (length (drop m argument_registers) + j) ≡ 6 + j = omega (arith, n, lt) in
        subst (λ o. Holds act.back parts (cell_of o) (word_in bytes (act.frame + 8 * j)))
        (sym (get_drop vs m (length (drop m argument_registers) + j) ∙ ap (slice_get vs) e))
        (held_slot j (omega (arith, less, d, n, lt, few))))

    pub from_slot_on : (j : ℕ) → InSlots plan act parts bytes (act.frame + 8 * j) (drop (6 + j) vs)
    from_slot_on j = in_slots bytes (act.frame + 8 * j) (drop (6 + j) vs)
        (λ i less. let d = length_drop vs (6 + j) in
        let e : 6 + j + i ≡ 6 + (j + i) = omega arith in
        let at : act.frame + 8 * (j + i) ≡ act.frame + 8 * j + 8 * i = omega arith in
        subst (λ o. Holds act.back parts (cell_of o) (word_in bytes (act.frame + 8 * j + 8 * i)))
        (sym (get_drop vs (6 + j) i ∙ ap (slice_get vs) e))
        (subst (λ p. Holds act.back parts (cell_of (slice_get vs (6 + (j + i)))) (word_in bytes p)) at
        (held_slot (j + i) (omega (arith, less, d, few)))))
