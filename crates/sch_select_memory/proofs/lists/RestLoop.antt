-- The routine makes the list of the operands that are left over: the loop over slots, and the registers.
use Rattle.std.proofs.Common.{◌≡◌, ℕ, suc, ◌+◌, ◌*◌, ◌^◌, ◌<◌, ◌≤◌, List, [], ◌∷◌, length, Bool, true, false, cond, refl}
use Rattle.std.proofs.Common.{sym, ap, ◌∙◌, subst, arith, inl, inr, ◌==◌, Some}
use Rattle.std.specs.Prelude.{pos}
use Rattle.std.proofs.lemmas.Bool.{ne_eqb}
use Rattle.sch_word.specs.values.Values.{Value}
use Rattle.sch_insn.specs.declared.condition.TheConstants.{E}
use Rattle.sch_insn.specs.declared.insn.Arg.TheVariants.{Reg}
use Rattle.sch_insn.specs.declared.insn.Insn.TheVariants.{MovTo, AddNumber, SubNumber, JumpTo}
use Rattle.sch_insn.specs.declared.state.Flags.{Flags}
use Rattle.sch_insn.specs.Machine.{set_register, sum_of, difference_of, condition}
use Rattle.sch_insn.proofs.Conditions.{compared_e}
use Rattle.sch_insn.proofs.Paths.{leads_on}
use Rattle.sch_asm.specs.declared.item.Item.{Item}
use Rattle.sch_asm.specs.Stands.{Stands}
use Rattle.sch_asm.specs.Data.{Inside, word_in, with_word}
use Rattle.sch_word.specs.declared.registers.TheConstants.{HEAP_REGISTER}
use Rattle.sch_word.specs.runs.ProgramLayout.{data_address}
use Rattle.sch_asm.specs.Effects.{is_scratch}
use Rattle.sch_asm.specs.Views.{View, Leads}
use Rattle.sch_asm.proofs.EachItem.{goes, branches, jumps, loads_word, stores_word, stores_number}
use Rattle.sch_asm.proofs.Words.{word_same, word_other, size_kept}
use Rattle.sch_select_memory.specs.Parts.{Parts}
use Rattle.sch_select_memory.specs.Encoded.{IsWord}
use Rattle.sch_select_memory.proofs.heap.Encodings.{fits}
use Rattle.sch_select_memory.specs.Addresses.{part_operand}
use Rattle.sch_select_memory.specs.RestCode.{one_less, next_pair, done_code, loop_code, slot_pair, loop_label}
use Rattle.sch_select_memory.specs.RestCode.{done_label, slot_operand}
use Rattle.sch_select_memory.proofs.Straight.{Kept, kept_set, kept_then}
use Rattle.sch_select_memory.proofs.Places.{Plan, Activation}
use Rattle.sch_select_memory.proofs.HeapWrites.{Wrote, wrote_one, wrote_then, wrote_within, other_word}
use Rattle.sch_select_memory.proofs.HeapWrites.{heap_inside}

-- a state with other registers, flags, bytes and at another place
abbrev pub changed : View → (ℕ → ℕ) → Flags → (place : ℕ) → List ℕ → View
changed x registers flags place bytes = record x { registers = registers; flags = flags; place = place; bytes = bytes }

-- the scratch registers and the heap's register are free for the routine
abbrev pub is_loose : ℕ → Bool
is_loose r = cond (r == HEAP_REGISTER) true (is_scratch r)

module _ (plan : Plan) (act : Activation plan) (parts : Parts) where
  open plan use {setting, size, closures, heap, stack, near, small, closures_low, heap_low, stack_low}

  -- the words of operands in slots from an address on
  abbrev pub InSlots : List ℕ → ℕ → List Value → Type 0
  InSlots bytes p [] = Unit {0}
  InSlots bytes p (v ∷ vs) = IsWord parts v (word_in bytes p) × InSlots bytes (p + 8) vs

  -- the pairs of a list from an address on, whose last one has the empty list for its rest
  abbrev pub PairsFrom : List ℕ → ℕ → Value → List Value → Type 0
  PairsFrom bytes a v [] = IsWord parts v (word_in bytes a) × (word_in bytes (a + 8) ≡ 22)
  PairsFrom bytes a v (w ∷ vs) =
      IsWord parts v (word_in bytes a) × (word_in bytes (a + 8) ≡ a + 17) × PairsFrom bytes (a + 16) w vs

  -- From the pair of an operand on, whose word it has, the pairs of a list are made.
  pub record Made (x : View) (a : ℕ) (v : Value) (vs : List Value) (most : ℕ) : Type 0 where
    pub registers : ℕ → ℕ
    pub flags : Flags
    pub place : ℕ
    pub bytes : List ℕ
    pub least : ℕ
    pub steps : ℕ
    pub leads : Leads setting least steps [] x (changed x registers flags place bytes)
    pub few : steps ≤ 10 * length vs + most
    pub at : place ≡ x.registers 11
    pub kept : Kept is_loose x.registers registers
    pub free : registers 12 ≡ a + 16 * length vs + 16
    pub wrote : Wrote (a + 8) (a + 16 * length vs + 16) x.bytes bytes
    pub pairs : PairsFrom bytes a v vs

  pub slots_kept : (least : ℕ) (bytes bytes' : List ℕ) → ((q : ℕ) → least ≤ q → word_in bytes' q ≡ word_in bytes q)
      → (p : ℕ) → least ≤ p → (vs : List Value) → InSlots bytes p vs → InSlots bytes' p vs
  slots_kept least bytes bytes' same p lo [] h = tt
  slots_kept least bytes bytes' same p lo (v ∷ vs) h = (
    subst (IsWord parts v) (sym (same p lo)) h.0,
    slots_kept least bytes bytes' same (p + 8) (omega (arith, lo)) vs h.1,
  )

  -- ---- the last pair

  pub done_here : (v : Value) (x : View) (a : ℕ) (rest : List Item) → x.registers 12 ≡ a → closures ≤ a
      → a + 16 ≤ stack → length x.bytes ≡ size → IsWord parts v (word_in x.bytes a)
      → Stands setting [] x.place (done_code rest) → Made x a v [] 3
  done_here v x a rest at low high sized hv st =
      let n = near in let cl = closures_low in
      let within : Inside (length x.bytes) (a + 8) = heap_inside plan act (a + 8) x.bytes sized (omega (arith, low))
      (omega (arith, high)) in
      let h = st.2 in
      let bytes = with_word x.bytes (a + 8) 22 in
      let y1 : View = record x { bytes = bytes; place = x.place + h.0 } in
      let s = sum_of (x.registers 12) 16 in
      let y2 : View = record y1
      { registers = set_register x.registers 12 s.value; flags = s.flags; place = y1.place + h.2.0 } in
      record {
        registers = y2.registers;
        flags = y2.flags;
        place = x.registers 11;
        bytes = bytes;
        least = 3;
        steps = 3;
        leads = leads_on setting.marks (leads_on setting.marks
            (stores_number setting x (pos 22) h.0 (a + 8) (part_operand 8) [] h.1 (omega (arith, at, high, n)) within)
            (goes setting y1 y2 (AddNumber (Reg 12) (pos 16)) h.2.0 [] h.2.1 refl))
            (goes setting y2 (record y2 { place = x.registers 11 }) (JumpTo (Reg 11)) h.2.2.0 [] h.2.2.1 refl);
        few = omega arith;
        at = refl;
        kept = kept_set is_loose x.registers 12 s.value refl;
        free = omega (arith, at, high, n);
        wrote = wrote_one (a + 8) (a + 16 * 0 + 16) (a + 8) 22 x.bytes within (omega arith) (omega arith);
        pairs = (
          subst (IsWord parts v)
              (sym (word_other x.bytes (a + 8) 22 a within (omega (arith, low, cl)) (inl (omega arith)))) hv,
          word_same x.bytes (a + 8) 22 within (omega arith),
        );
      }

  -- ---- from one pair to the next

  -- a pair is linked to the next one, where the heap's register goes on, and one operand less is left
  pub record Next (x : View) (a : ℕ) (n : ℕ) (rest : List Item) : Type 0 where
    pub registers : ℕ → ℕ
    pub flags : Flags
    pub place : ℕ
    pub leads : Leads setting 6 6 [] x (changed x registers flags place (with_word x.bytes (a + 8) (a + 17)))
    pub kept : Kept is_loose x.registers registers
    pub slot : registers 1 ≡ x.registers 1
    pub back : registers 11 ≡ x.registers 11
    pub free : registers 12 ≡ a + 16
    pub left : registers 0 ≡ suc n
    pub within : Inside (length x.bytes) (a + 8)
    pub ahead : Stands setting [] place rest

  counted : (x : View) (n : ℕ) (b : Bool) → x.registers 0 ≡ suc n → n < 2 ^ 32 → (suc n == 1) ≡ b
      → condition (difference_of (x.registers 0) 1).flags E ≡ Some b
  counted x n b e few is = compared_e (x.registers 0) 1 (omega (arith, e, few)) (omega arith)
      ∙ ap (λ k. Some (k == 1)) e ∙ ap Some is

  pub next_here : (x : View) (a n : ℕ) (rest : List Item) → x.registers 0 ≡ suc (suc n) → suc n < 2 ^ 32
      → x.registers 12 ≡ a → closures ≤ a → a + 16 ≤ stack → length x.bytes ≡ size
      → Stands setting [] x.place (one_less (next_pair rest)) → Next x a n rest
  next_here x a n rest e few at low high sized h =
      let m = near in
      let d = difference_of (x.registers 0) 1 in
      let y1 : View = record x
      { registers = set_register x.registers 0 d.value; flags = d.flags; place = x.place + h.0 } in
      let y2 : View = record y1 { place = y1.place + h.2.0 } in
      let h2 = h.2.4 in
      let y3 : View = record y2
      { registers = set_register y2.registers 2 (x.registers 12); place = y2.place + h2.0 } in
      let s = sum_of (x.registers 12) 17 in
      let y4 : View = record y3
      { registers = set_register y3.registers 2 s.value; flags = s.flags; place = y3.place + h2.2.0 } in
      let h4 = h2.2.2 in
      let within : Inside (length x.bytes) (a + 8) = heap_inside plan act (a + 8) x.bytes sized (omega (arith, low))
      (omega (arith, high)) in
      let value : s.value ≡ a + 17 = omega (arith, at, high, m) in
      let y5 : View = record y4 { bytes = with_word x.bytes (a + 8) s.value; place = y4.place + h4.0 } in
      let t = sum_of (x.registers 12) 16 in
      let y6 : View = record y5
      { registers = set_register y5.registers 12 t.value; flags = t.flags; place = y5.place + h4.2.0 } in
      let way : Leads setting 6 6 [] x y6 = leads_on setting.marks (leads_on setting.marks (leads_on setting.marks
      (leads_on setting.marks (leads_on setting.marks
      (goes setting x y1 (SubNumber (Reg 0) (pos 1)) h.0 [] h.1 refl)
      (branches setting y1 E done_label (next_pair rest) [] false h.2 (counted x (suc n) false e few
      (ne_eqb (suc (suc n)) 1 (λ e. omega (arith, e))))))
      (goes setting y2 y3 (MovTo (Reg 2) 12) h2.0 [] h2.1 refl))
      (goes setting y3 y4 (AddNumber (Reg 2) (pos 17)) h2.2.0 [] h2.2.1 refl))
      (stores_word setting y4 2 h4.0 (a + 8) (part_operand 8) [] h4.1 (omega (arith, at, high, m)) within))
      (goes setting y5 y6 (AddNumber (Reg 12) (pos 16)) h4.2.0 [] h4.2.1 refl) in
      record {
        registers = y6.registers;
        flags = t.flags;
        place = y6.place;
        leads = subst (λ v. Leads setting 6 6 [] x (changed x y6.registers t.flags y6.place
            (with_word x.bytes (a + 8) v))) value way;
        kept = kept_then is_loose x.registers y1.registers y6.registers
            (kept_set is_loose x.registers 0 d.value refl)
            (kept_then is_loose y1.registers y3.registers y6.registers
            (kept_set is_loose y1.registers 2 (x.registers 12) refl)
            (kept_then is_loose y3.registers y4.registers y6.registers
            (kept_set is_loose y3.registers 2 s.value refl) (kept_set is_loose y4.registers 12 t.value refl)));
        slot = refl;
        back = refl;
        free = omega (arith, at, high, m);
        left = omega (arith, e, few);
        within = within;
        ahead = h4.2.2;
      }

  -- the pairs from the next one on, and the one before it
  pub made_before : (x : View) (a n : ℕ) (rest : List Item) (q : Next x a n rest) (v w : Value) (vs : List Value)
      (registers : ℕ → ℕ) (flags : Flags) (place : ℕ) (bytes : List ℕ) (steps most : ℕ) → closures ≤ a
      → Leads setting steps steps [] x (changed x registers flags place bytes) → steps ≤ 10
      → Kept is_loose x.registers registers → registers 11 ≡ x.registers 11
      → Wrote (a + 8) (a + 24) x.bytes bytes → word_in bytes (a + 8) ≡ a + 17 → IsWord parts v (word_in x.bytes a)
      → Made (changed x registers flags place bytes) (a + 16) w vs most → Made x a v (w ∷ vs) most
  made_before x a n rest q v w vs registers flags place bytes steps most low leads few kept back wrote linked hv m =
      let cl = closures_low in let f = m.few in let fr = m.free in
      let stays : word_in m.bytes (a + 8) ≡ word_in bytes (a + 8) = other_word (a + 16 + 8) (a + 16 + 16 * length vs + 16)
      bytes m.bytes m.wrote (a + 8) (omega (arith, low, cl)) (inl (omega arith)) in
      let first : word_in m.bytes a ≡ word_in x.bytes a = other_word (a + 16 + 8) (a + 16 + 16 * length vs + 16) bytes
      m.bytes m.wrote a (omega (arith, low, cl)) (inl (omega arith)) ∙ other_word (a + 8) (a + 24) x.bytes bytes wrote
      a (omega (arith, low, cl)) (inl (omega arith)) in
      record {
        registers = m.registers;
        flags = m.flags;
        place = m.place;
        bytes = m.bytes;
        least = steps + m.least;
        steps = steps + m.steps;
        leads = leads_on setting.marks leads m.leads;
        few = omega (arith, f, few);
        at = m.at ∙ back;
        kept = kept_then is_loose x.registers registers m.registers kept m.kept;
        free = omega (arith, fr);
        wrote = wrote_then (a + 8) (a + 16 * length (w ∷ vs) + 16) x.bytes bytes m.bytes
            (wrote_within (a + 8) (a + 16 * length (w ∷ vs) + 16) (a + 8) (a + 24) x.bytes bytes (omega arith)
            (omega arith) wrote)
            (wrote_within (a + 8) (a + 16 * length (w ∷ vs) + 16) (a + 16 + 8) (a + 16 + 16 * length vs + 16) bytes m.bytes
            (omega arith) (omega arith) m.wrote);
        pairs = (subst (IsWord parts v) (sym first) hv, stays ∙ linked, m.pairs);
      }

  -- ---- the loop over slots

  module _ (rest : List Item) (stands : Stands setting [] (setting.place_of loop_label) (loop_code rest)) where
    pub done_stands : Stands setting [] (setting.place_of done_label) (done_code rest)
    done_stands =
        let h = stands.2.2.4.2.2.2.2.2.2.2.4 in
        subst (λ a. Stands setting [] a (done_code rest)) (sym h.1) h

    -- where no operand is left, the pair is the last one
    pub last_here : (v : Value) (x : View) (a : ℕ) (code : List Item) → x.registers 0 ≡ 1 → x.registers 12 ≡ a
        → closures ≤ a → a + 16 ≤ stack → length x.bytes ≡ size → IsWord parts v (word_in x.bytes a)
        → Stands setting [] x.place (one_less code) → Made x a v [] 5
    last_here v x a code one at low high sized hv h =
        let d = difference_of (x.registers 0) 1 in
        let y1 : View = record x
        { registers = set_register x.registers 0 d.value; flags = d.flags; place = x.place + h.0 } in
        let y2 : View = record y1 { place = setting.place_of done_label } in
        let m = done_here v y2 a rest at low high sized hv done_stands in
        let f = m.few in
        record {
          registers = m.registers;
          flags = m.flags;
          place = m.place;
          bytes = m.bytes;
          least = 2 + m.least;
          steps = 2 + m.steps;
          leads = leads_on setting.marks (leads_on setting.marks
              (goes setting x y1 (SubNumber (Reg 0) (pos 1)) h.0 [] h.1 refl)
              (branches setting y1 E done_label code [] true h.2 (counted x 0 true one (omega arith) refl))) m.leads;
          few = omega (arith, f);
          at = m.at;
          kept = kept_then is_loose x.registers y1.registers m.registers
              (kept_set is_loose x.registers 0 d.value refl) m.kept;
          free = m.free;
          wrote = m.wrote;
          pairs = m.pairs;
        }

    pub loop_here : (vs : List Value) (v : Value) (x : View) (a p : ℕ) → x.place ≡ setting.place_of loop_label
        → x.registers 0 ≡ suc (length vs) → length vs < 2 ^ 31 → x.registers 1 ≡ p → x.registers 12 ≡ a → stack ≤ p
        → p + 8 * length vs ≤ data_address + size → closures ≤ a → a + 16 * length vs + 16 ≤ stack
        → length x.bytes ≡ size → IsWord parts v (word_in x.bytes a) → InSlots x.bytes p vs → Made x a v vs 5
    loop_here [] v x a p here left few slot at above inside low high sized hv hs = last_here v x a (next_pair (slot_pair (done_code rest))) left at low
        (omega (arith, high)) sized hv (subst (λ a. Stands setting [] a (loop_code rest)) (sym here) stands).2
    loop_here (w ∷ vs) v x a p here left few slot at above inside low high sized hv hs =
        let st = (subst (λ a. Stands setting [] a (loop_code rest)) (sym here) stands).2 in
        let q = next_here x a (length vs) (slot_pair (done_code rest)) left (omega (arith, few)) at low (omega (arith, high)) sized st in
        let n = near in let hl = heap_low in let cl = closures_low in let sl = stack_low in let sm = small in
        let qs = q.slot in let qf = q.free in
        let h = q.ahead in
        let bytes1 = with_word x.bytes (a + 8) (a + 17) in
        let z : View = changed x q.registers q.flags q.place bytes1 in
        let sized1 : length bytes1 ≡ size = size_kept x.bytes (a + 8) (a + 17) q.within ∙ sized in
        let slot_in : Inside (length bytes1) p = record
        { low = omega (arith, above, hl, cl, sl); high = omega (arith, inside, sized1) } in
        let word = word_in bytes1 p in
        let z1 : View = record z { registers = set_register q.registers 2 word; place = z.place + h.0 } in
        let next_in : Inside (length bytes1) (a + 16) = heap_inside plan act (a + 16) bytes1 sized1 (omega (arith, low))
        (omega (arith, high)) in
        let bytes2 = with_word bytes1 (a + 16) word in
        let z2 : View = record z1 { bytes = bytes2; place = z1.place + h.2.0 } in
        let s = sum_of (q.registers 1) 8 in
        let z3 : View = record z2
        { registers = set_register z1.registers 1 s.value; flags = s.flags; place = z2.place + h.2.2.0 } in
        let z4 : View = record z3 { place = setting.place_of loop_label } in
        let sized2 : length bytes2 ≡ size = size_kept bytes1 (a + 16) word next_in ∙ sized1 in
        let wrote1 : Wrote (a + 8) (a + 24) x.bytes bytes1 = wrote_one (a + 8) (a + 24) (a + 8) (a + 17) x.bytes
        q.within (omega arith) (omega arith) in
        let wrote2 : Wrote (a + 8) (a + 24) bytes1 bytes2 = wrote_one (a + 8) (a + 24) (a + 16) word bytes1 next_in
        (omega arith) (omega arith) in
        let wrote : Wrote (a + 8) (a + 24) x.bytes bytes2 = wrote_then (a + 8) (a + 24) x.bytes bytes1 bytes2 wrote1
        wrote2 in
        let same1 : word_in bytes1 p ≡ word_in x.bytes p = other_word (a + 8) (a + 24) x.bytes bytes1 wrote1 p
        (omega (arith, above, hl, cl, sl)) (inr (omega (arith, high, above))) in
        let hw : IsWord parts w word = subst (IsWord parts w) (sym same1) hs.0 in
        let kept : Kept is_loose x.registers z3.registers = kept_then is_loose x.registers q.registers z3.registers
        q.kept (kept_then is_loose q.registers z1.registers z3.registers (kept_set is_loose q.registers 2 word refl)
        (kept_set is_loose z1.registers 1 s.value refl)) in
        let m : Made z4 (a + 16) w vs 5 = loop_here vs w z4 (a + 16) (p + 8) refl q.left (omega (arith, few))
        (omega (arith, qs, slot, inside, sm)) qf (omega (arith, above)) (omega (arith, inside)) (omega (arith, low))
        (omega (arith, high)) sized2
        (subst (IsWord parts w) (sym (word_same bytes1 (a + 16) word next_in (fits parts w word hw))) hw)
        (slots_kept stack x.bytes bytes2 (λ q lo. other_word (a + 8) (a + 24) x.bytes bytes2 wrote q
        (omega (arith, lo, hl, cl, sl)) (inr (omega (arith, high, lo)))) (p + 8) (omega (arith, above)) vs hs.1) in
        made_before x a (length vs) (slot_pair (done_code rest)) q v w vs z3.registers s.flags (setting.place_of loop_label) bytes2 10 5 low
        (leads_on setting.marks (leads_on setting.marks (leads_on setting.marks (leads_on setting.marks q.leads
        (loads_word setting z 2 h.0 p slot_operand [] h.1 (omega (arith, qs, slot, inside, sm)) slot_in))
        (stores_word setting z1 2 h.2.0 (a + 16) (part_operand 0) [] h.2.1 (omega (arith, qf, high, n)) next_in))
        (goes setting z2 z3 (AddNumber (Reg 1) (pos 8)) h.2.2.0 [] h.2.2.1 refl))
        (jumps setting z3 loop_label (done_code rest) [] h.2.2.2)) (omega arith) kept q.back wrote
        (word_other bytes1 (a + 16) word (a + 8) next_in (omega (arith, low, cl)) (inl (omega arith))
        ∙ word_same x.bytes (a + 8) (a + 17) q.within (omega (arith, high, n))) hv m
