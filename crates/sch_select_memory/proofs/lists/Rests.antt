-- How a procedure with a rest variable is entered (R5RS 4.1.4): the operands that are left over become a new list.
use Rattle.std.proofs.Common.{◌≡◌, ℕ, zero, suc, ◌+◌, ◌-◌, ◌*◌, ◌^◌, ◌%◌, ◌<◌, ◌≤◌, List, [], ◌∷◌, ◌++◌, length, take, drop}
use Rattle.std.proofs.Common.{Bool, true, false, inl, Some, refl, sym, ap, ◌∙◌, subst, arith, ◌==◌}
use Rattle.std.specs.Prelude.{pos, not, nat_le, nat_lt}
use Rattle.std.proofs.lemmas.Bool.{leb-true, le-leb, ltb-true, ltb-false, ne_eqb}
use Rattle.std.proofs.lemmas.Bool.Decides.{nat_tests}
use Rattle.sch_word.specs.declared.place.Place.TheVariants.{Slot}
use Rattle.sch_word.specs.declared.stop.Stop.TheVariants.{WrongCount, HeapLimit}
use Rattle.sch_word.specs.values.Values.{Value, nil, unspecified}
use Rattle.sch_word.specs.runs.Charges.{fit, linked, list_value}
use Rattle.sch_word.specs.runs.Store.{Store}
use Rattle.sch_word.specs.runs.Computation.{State, Outcome, gives, stops, spent, on_value, require}
use Rattle.sch_word.proofs.facts.Lists.{left_length}
use Rattle.sch_word.specs.runs.Procedures.{Procedure}
use Rattle.sch_frames.specs.Meaning.{Junk, entry_places}
use Rattle.sch_word.specs.runs.ProgramLayout.{data_address}
use Rattle.sch_insn.specs.declared.condition.TheConstants.{B, A}
use Rattle.sch_insn.specs.declared.insn.Arg.TheVariants as arg
use Rattle.sch_insn.specs.declared.insn.Insn.TheVariants.{MovTo, MovNumber, AddTo, SubNumber, CmpNumber, Shl}
use Rattle.sch_insn.specs.declared.state.Flags.{Flags}
use Rattle.sch_insn.specs.Machine.{set_register, sum_of, difference_of, condition, unknown_flags}
use Rattle.sch_insn.proofs.Conditions.{compared_b, compared_a}
use Rattle.sch_insn.proofs.Paths.{leads_on}
use Rattle.sch_asm.specs.declared.item.Item.{Item}
use Rattle.sch_asm.specs.declared.item.Item.TheVariants as item
use Rattle.sch_asm.specs.Stands.{Stands}
use Rattle.sch_asm.specs.Data.{word_in}
use Rattle.sch_asm.specs.Effects.{is_scratch}
use Rattle.sch_asm.specs.Views.{View, Leads}
use Rattle.sch_asm.proofs.EachItem.{goes, branches, jumps, loads_label}
use Rattle.sch_select_memory.specs.Parts.{Parts}
use Rattle.sch_select_memory.specs.Encoded.{Words}
use Rattle.sch_select_memory.proofs.heap.Contents.{words_stay}
use Rattle.sch_select_memory.specs.Addresses.{heap_offset, stop_label}
use Rattle.sch_select_memory.specs.RestCode.{rest_routine, rest_entry, check_pairs, list_code, list_label}
use Rattle.sch_select_memory.proofs.Straight.{Halts, Kept, kept_set, kept_then, offset_compared}
use Rattle.sch_select_memory.proofs.Places.{Plan, Activation, StoreAt, PlacesAt, places_kept}
use Rattle.sch_select_memory.proofs.HeapWrites.{room_tested}
use Rattle.sch_select_memory.proofs.lists.RestLoop.{changed, InSlots}
use Rattle.sch_select_memory.proofs.lists.RestRegisters.{Listed}
use Rattle.sch_select_memory.proofs.lists.RestRoutine.{argument_place, by_register, by_slot, from_register_on}
use Rattle.sch_select_memory.proofs.lists.RestRoutine.{from_slot_on, checked_register, checked_slot}
use Rattle.sch_select_memory.proofs.lists.RestObjects.{pair_parts, with_list, list_added, list_named}
use Rattle.sch_select_memory.proofs.lists.RestPlaces.{places_listed}

slot_place : (m : ℕ) → 6 ≤ m → Slot (m - 6) ≡ argument_place m
slot_place zero le = absurd (omega (arith, le))
slot_place (suc zero) le = absurd (omega (arith, le))
slot_place (suc (suc zero)) le = absurd (omega (arith, le))
slot_place (suc (suc (suc zero))) le = absurd (omega (arith, le))
slot_place (suc (suc (suc (suc zero)))) le = absurd (omega (arith, le))
slot_place (suc (suc (suc (suc (suc zero))))) le = absurd (omega (arith, le))
slot_place (suc (suc (suc (suc (suc (suc k)))))) le = refl

less_than : (a b : ℕ) (t : Bool) → nat_le b a ≡ t → nat_lt a b ≡ not t
less_than a b t e = go a b ∙ ap not e
  where
    go : (a b : ℕ) → nat_lt a b ≡ not (nat_le b a)
    go a b = grind (arith, nat_tests)

-- RDX alone
abbrev pub is_two : ℕ → Bool
is_two r = r == 2

two_scratch : (registers registers' : ℕ → ℕ) → Kept is_two registers registers' → Kept is_scratch registers registers'
two_scratch registers registers' kept r e = kept r
    (ne_eqb r 2 (λ same. let bad : true ≡ false = sym (ap is_scratch same) ∙ e in absurd cc))

module _ (plan : Plan) (act : Activation plan) (parts : Parts) (a0 : ℕ) (behind : List Item)
    (routine : Stands plan.setting [] a0 (rest_routine plan.stack behind)) where
  open plan use {setting, size, words, closures, heap, stack, near, small, narrow, closures_low, heap_low, stack_low}

  -- ---- whether the heap has room

  -- the machine comes to the items behind, with another word in RDX alone, or to a stop
  pub record Roomy (y : View) (rest : List Item) : Type 0 where
    pub registers : ℕ → ℕ
    pub flags : Flags
    pub place : ℕ
    pub leads : Leads setting 6 6 [] y (changed y registers flags place y.bytes)
    pub kept : Kept is_two y.registers registers
    pub ahead : Stands setting [] place rest

  abbrev pub RoomTested : Bool → View → List Item → Type 0
  RoomTested true y rest = Roomy y rest
  RoomTested false y rest = Halts setting y [] 6 HeapLimit

  room_for : (next left : ℕ) (y : View) (rest : List Item) → y.registers 0 ≡ left → left < 2 ^ 31
      → y.registers 12 ≡ next → data_address ≤ next → next ≤ stack → Stands setting [] y.place (check_pairs stack rest)
      → RoomTested (nat_le (next + 16 * left) stack) y rest
  room_for next left y rest counted few at above low h = by (nat_le (next + 16 * left) stack) refl
    where
      y4 : View
      y4 = record y { registers = set_register y.registers 2 (y.registers 0); place = y.place + h.0 }

      y5 : View
      y5 = record y4 {
        registers = set_register y4.registers 2 (y4.registers 2 * 2 ^ 4 % 2 ^ 64);
        flags = unknown_flags;
        place = y4.place + h.2.0;
      }

      sum : ℕ
      sum = (sum_of (y5.registers 2) (y5.registers 12)).value

      y6 : View
      y6 = record y5 {
        registers = set_register y5.registers 2 sum;
        flags = (sum_of (y5.registers 2) (y5.registers 12)).flags;
        place = y5.place + h.2.2.0;
      }

      room : ℕ
      room = (difference_of sum data_address).value

      y7 : View
      y7 = record y6 {
        registers = set_register y6.registers 2 room;
        flags = (difference_of sum data_address).flags;
        place = y6.place + h.2.2.2.0;
      }

      y8 : View
      y8 = record y7 { flags = (difference_of room (heap_offset stack)).flags; place = y7.place + h.2.2.2.2.0 }

      sum_is : sum ≡ next + 16 * left
      sum_is = let n = near in omega (arith, counted, few, at, low, n)

      room_is : room ≡ next + 16 * left - data_address
      room_is = let n = near in omega (arith, sum_is, few, above, low, n)

      way : Leads setting 5 5 [] y y8
      way = leads_on setting.marks (leads_on setting.marks (leads_on setting.marks (leads_on setting.marks
          (goes setting y y4 (MovTo (arg.Reg 2) 0) h.0 [] h.1 refl)
          (goes setting y4 y5 (Shl (arg.Reg 2) 4) h.2.0 [] h.2.1 refl))
          (goes setting y5 y6 (AddTo (arg.Reg 2) 12) h.2.2.0 [] h.2.2.1 refl))
          (goes setting y6 y7 (SubNumber (arg.Reg 2) (pos data_address)) h.2.2.2.0 [] h.2.2.2.1 refl))
          (goes setting y7 y8 (CmpNumber (arg.Reg 2) (pos (heap_offset stack))) h.2.2.2.2.0 [] h.2.2.2.2.1 refl)

      over : (b : Bool) → nat_le (next + 16 * left) stack ≡ b → condition y8.flags A ≡ Some (not b)
      over b e = compared_a room (heap_offset stack) (let n = near in let s = room_is in omega (arith, s, low, few, n))
          (let n = near in omega (arith, n)) ∙ ap (λ k. Some (not (nat_le k (heap_offset stack)))) room_is
          ∙ ap (λ b. Some (not b)) (offset_compared (next + 16 * left) stack data_address (omega (arith, above)) (omega (arith, above, low)))
          ∙ ap (λ b. Some (not b)) e

      kept : Kept is_two y.registers y7.registers
      kept = kept_then is_two y.registers y4.registers y7.registers (kept_set is_two y.registers 2 (y.registers 0) refl)
          (kept_then is_two y4.registers y5.registers y7.registers
          (kept_set is_two y4.registers 2 (y4.registers 2 * 2 ^ 4 % 2 ^ 64) refl)
          (kept_then is_two y5.registers y6.registers y7.registers (kept_set is_two y5.registers 2 sum refl)
          (kept_set is_two y6.registers 2 room refl)))

      by : (b : Bool) → nat_le (next + 16 * left) stack ≡ b → RoomTested b y rest
      by true e = record {
        registers = y7.registers;
        flags = y8.flags;
        place = y8.place + h.2.2.2.2.2.0;
        leads = leads_on setting.marks way
            (branches setting y8 A (stop_label HeapLimit) rest [] false h.2.2.2.2.2 (over true e));
        kept = kept;
        ahead = h.2.2.2.2.2.4;
      }
      by false e = record {
        registers = y7.registers;
        flags = y8.flags;
        least = 6;
        steps = 6;
        leads = leads_on setting.marks way
            (branches setting y8 A (stop_label HeapLimit) rest [] true h.2.2.2.2.2 (over false e));
        few = omega arith;
      }

  -- ---- the list is made

  -- The machine comes to the routine, where the room of the heap is looked at. Where that is enough, the list is made.
  pub record Comes_to (y : View) (a required : ℕ) (us : List Value) (following : List Item) : Type 0 where
    pub registers : ℕ → ℕ
    pub flags : Flags
    pub place : ℕ
    pub least : ℕ
    pub steps : ℕ
    pub leads : Leads setting least steps [] y (changed y registers flags place y.bytes)
    pub few : steps ≤ 4
    pub kept : Kept is_scratch y.registers registers
    pub counted : registers 0 ≡ y.registers 0
    pub code : List Item
    pub stands : Stands setting [] place (check_pairs stack code)
    pub listed : (z : View) → z.bytes ≡ y.bytes → Kept is_two registers z.registers → Stands setting [] z.place code
        → a + 16 * length us ≤ stack → Listed plan act parts z a (argument_place required) us 12
    pub ahead : Stands setting [] (registers 11) following

  module _ (self : Value) (vs : List Value) (charged required n : ℕ) (following : List Item)
      (many : length vs ≤ 6 + words) (few : required < 6 + words) (enough : required ≤ length vs) where
    abbrev us : List Value
    us = drop required vs

    list_here : (y : View) (a : ℕ) → y.registers 0 ≡ length us → y.registers 12 ≡ a → closures ≤ a
        → length y.bytes ≡ size
        → PlacesAt plan act parts charged (entry_places self vs) (λ k. Junk) y.registers y.bytes → (b : Bool)
        → nat_lt required 6 ≡ b → Stands setting [] y.place (list_code b required n following)
        → Comes_to y a required us following
    list_here y a counted at low sized f true b st =
        let lt : required < 6 = ltb-true required 6 b in
        let nw = narrow in let top = act.room.high in let d = left_length vs required enough in
        let y1 : View = record y
        { registers = set_register y.registers 11 (setting.place_of n); place = y.place + st.0 } in
        let kept : Kept is_scratch y.registers y1.registers = kept_set is_scratch y.registers 11 (setting.place_of n)
        refl in
        let q = checked_register plan a0 behind routine required lt in
        record {
          registers = y1.registers;
          flags = y.flags;
          place = setting.place_of (list_label required);
          least = 2;
          steps = 2;
          leads = leads_on setting.marks
              (loads_label setting y 11 n (item.Jump (list_label required) ∷ (item.Label n ∷ following)) [] st)
              (jumps setting y1 (list_label required) (item.Label n ∷ following) [] st.4);
          few = omega arith;
          kept = kept;
          counted = refl;
          code = q.code;
          stands = q.stands;
          listed = λ z same kz ahead high.
              let fz : PlacesAt plan act parts charged (entry_places self vs) (λ k. Junk) z.registers z.bytes =
              subst (PlacesAt plan act parts charged (entry_places self vs) (λ k. Junk) z.registers) (sym same)
              (places_kept plan act parts charged (entry_places self vs) (λ k. Junk) y.registers z.registers y.bytes
              (kept_then is_scratch y.registers y1.registers z.registers kept (two_scratch y1.registers z.registers kz)) f) in
              by_register plan a0 behind routine act parts us z a (kz 0 refl ∙ counted) (omega (arith, d, many, nw))
              (kz 12 refl ∙ at) low high (ap length same ∙ sized) words fz.frame (omega (arith, top)) required lt
              (q.behind z.place ahead) (omega (arith, d, many))
              (from_register_on plan act parts charged self vs z.registers z.bytes many fz required lt);
          ahead = subst (λ p. Stands setting [] p following) (sym st.4.4.1) st.4.4.2;
        }
    list_here y a counted at low sized f false b st =
        let le : 6 ≤ required = ltb-false required 6 b in
        let nw = narrow in let top = act.room.high in let d = left_length vs required enough in let sm = small in
        let fr = f.frame in
        let j = required - 6 in
        let q = checked_slot plan a0 behind routine in
        let y1 : View = record y { registers = set_register y.registers 1 (8 * j); place = y.place + st.0 } in
        let h = st.2 in
        let y2 : View = record y1
        { registers = set_register y1.registers 11 (setting.place_of n); place = y1.place + h.0 } in
        let y3 : View = record y2 { place = setting.place_of (list_label 6) } in
        let s = sum_of (8 * j) (y.registers 5) in
        let y4 : View = record y3
        { registers = set_register y3.registers 1 s.value; flags = s.flags; place = y3.place + q.stands.0 } in
        let kept : Kept is_scratch y.registers y4.registers = kept_then is_scratch y.registers y1.registers
        y4.registers (kept_set is_scratch y.registers 1 (8 * j) refl) (kept_then is_scratch y1.registers
        y2.registers y4.registers (kept_set is_scratch y1.registers 11 (setting.place_of n) refl)
        (kept_set is_scratch y2.registers 1 s.value refl)) in
        let same_j : 6 + j ≡ required = omega (arith, le) in
        let slot_is : s.value ≡ act.frame + 8 * j = omega (arith, fr, top, few, le, sm) in
        record {
          registers = y4.registers;
          flags = y4.flags;
          place = y4.place;
          least = 4;
          steps = 4;
          leads = leads_on setting.marks (leads_on setting.marks (leads_on setting.marks
              (goes setting y y1 (MovNumber (arg.Reg 1) (pos (8 * j))) st.0 [] st.1 refl)
              (loads_label setting y1 11 n (item.Jump (list_label 6) ∷ (item.Label n ∷ following)) [] h))
              (jumps setting y2 (list_label 6) (item.Label n ∷ following) [] h.4))
              (goes setting y3 y4 (AddTo (arg.Reg 1) 5) q.stands.0 [] q.stands.1 refl);
          few = omega arith;
          kept = kept;
          counted = refl;
          code = q.code;
          stands = q.stands.2;
          listed = λ z same kz ahead high.
              let fz : PlacesAt plan act parts charged (entry_places self vs) (λ k. Junk) z.registers z.bytes =
              subst (PlacesAt plan act parts charged (entry_places self vs) (λ k. Junk) z.registers) (sym same)
              (places_kept plan act parts charged (entry_places self vs) (λ k. Junk) y.registers z.registers y.bytes
              (kept_then is_scratch y.registers y4.registers z.registers kept (two_scratch y4.registers z.registers kz)) f) in
              let slots = subst (λ m. InSlots plan act parts z.bytes (act.frame + 8 * j) (drop m vs)) same_j
              (from_slot_on plan act parts charged self vs z.registers z.bytes many fz j) in
              subst (λ to. Listed plan act parts z a to us 12) (slot_place required le)
              (by_slot plan a0 behind routine act parts us z a (kz 0 refl ∙ counted) (omega (arith, d, many, nw))
              (kz 12 refl ∙ at) low high (ap length same ∙ sized) j (kz 1 refl ∙ slot_is)
              (omega (arith, top, few, le)) (omega (arith, top, d, many, le)) (q.behind z.place ahead) slots);
          ahead = subst (λ p. Stands setting [] p following) (sym h.4.4.1) h.4.4.2;
        }

  -- ---- the procedure is entered

  -- the body begins, with its arguments
  pub record Begun (x : View) (s : State Procedure) (self : Value) (left : ℕ) (following : List Item)
      (arguments : List Value) (t : Store) : Type 0 where
    pub parts_after : Parts
    pub words : Words parts parts_after
    pub registers : ℕ → ℕ
    pub flags : Flags
    pub place : ℕ
    pub bytes : List ℕ
    pub least : ℕ
    pub steps : ℕ
    pub leads : Leads setting least steps [] x (changed x registers flags place bytes)
    pub some : 1 ≤ least
    pub few : steps ≤ 10 * left + 25
    pub places_at : PlacesAt plan act parts_after t.charged (entry_places self arguments) (λ k. Junk) registers bytes
    pub store : StoreAt plan parts_after (record s { store = t }) bytes x.output x.answers
    pub ahead : Stands setting [] place following
    pub below : (q : ℕ) → stack ≤ q → q + 8 ≤ act.frame → word_in bytes q ≡ word_in x.bytes q
    pub entries : t.entries ≡ s.store.entries
    pub answers : t.answers ≡ s.store.answers
    pub charged : t.charged ≡ s.store.charged + 16 * left

  -- what is owed to the arguments that fit, or to a stop
  abbrev pub Fits : View → State Procedure → Value → ℕ → List Item → Outcome Store (List Value) → Type 0
  Fits x s self left following (gives arguments t) = Begun x s self left following arguments t
  Fits x s self left following (stops why t) = (t ≡ s.store) × Halts setting x [] 13 why
  Fits x s self left following (spent t) = ⊥

  module _ (self : Value) (vs : List Value) (s : State Procedure) (x : View) (required n : ℕ) (following : List Item)
      (many : length vs ≤ 6 + words) (few : required < 6 + words) (counted : x.registers 0 ≡ length vs)
      (f : PlacesAt plan act parts s.store.charged (entry_places self vs) (λ k. Junk) x.registers x.bytes)
      (g : StoreAt plan parts s x.bytes x.output x.answers)
      (h : Stands setting [] x.place (rest_entry required n following)) where
    abbrev t : Store
    t = s.store

    abbrev left_over : List Value
    left_over = drop required vs

    abbrev code : List Item
    code = list_code (nat_lt required 6) required n following

    abbrev past_count : List Item
    past_count = item.Plain (SubNumber (arg.Reg 0) (pos required)) ∷ code

    abbrev y1 : View
    y1 = record x { flags = (difference_of (x.registers 0) required).flags; place = x.place + h.0 }

    word_required : required < 2 ^ 31
    word_required = let w = narrow in omega (arith, few, w)

    compared : Leads setting 1 1 [] x y1
    compared = goes setting x y1 (CmpNumber (arg.Reg 0) (pos required)) h.0 [] h.1 refl

    below_required : (b : Bool) → nat_le required (length vs) ≡ b → condition y1.flags B ≡ Some (not b)
    below_required b e = compared_b (x.registers 0) required ∙ ap (λ k. Some (nat_lt k required)) counted
        ∙ ap Some (less_than (length vs) required b e)

    too_few : nat_le required (length vs) ≡ false → Halts setting x [] 13 WrongCount
    too_few e = record {
      registers = y1.registers;
      flags = y1.flags;
      least = 2;
      steps = 2;
      leads = leads_on setting.marks compared
          (branches setting y1 B (stop_label WrongCount) past_count [] true h.2 (below_required false e));
      few = omega arith;
    }

    module _ (enough : required ≤ length vs) where
      abbrev h2 : Stands setting [] (y1.place + h.2.0) past_count
      h2 = h.2.4

      abbrev y3 : View
      y3 = record x {
        registers = set_register x.registers 0 (difference_of (x.registers 0) required).value;
        flags = (difference_of (x.registers 0) required).flags;
        place = y1.place + h.2.0 + h2.0;
      }

      left_is : y3.registers 0 ≡ length left_over
      left_is = let d = left_length vs required enough in let w = narrow in omega (arith, counted, d, many, w)

      way : Leads setting 3 3 [] x y3
      way = leads_on setting.marks (leads_on setting.marks compared
          (branches setting y1 B (stop_label WrongCount) past_count [] false h.2
          (below_required true (le-leb required (length vs) enough))))
          (goes setting (record y1 { place = y1.place + h.2.0 }) y3 (SubNumber (arg.Reg 0) (pos required)) h2.0 [] h2.1
          refl)

      kept : Kept is_scratch x.registers y3.registers
      kept = kept_set is_scratch x.registers 0 (difference_of (x.registers 0) required).value refl

      f3 : PlacesAt plan act parts t.charged (entry_places self vs) (λ k. Junk) y3.registers x.bytes
      f3 = places_kept plan act parts t.charged (entry_places self vs) (λ k. Junk) x.registers y3.registers x.bytes kept
          f

      q : Comes_to y3 (heap + t.charged) required left_over following
      q = let hl = heap_low in list_here self vs t.charged required n following many few enough y3 (heap + t.charged)
          left_is f3.free (omega (arith, hl)) g.size_is f3 (nat_lt required 6) refl h2.2

      abbrev z : View
      z = changed y3 q.registers q.flags q.place x.bytes

      tested : (b : Bool) → nat_le (t.charged + 16 * length left_over) t.constants.heap ≡ b → RoomTested b z q.code
      tested b e = subst (λ b. RoomTested b z q.code)
          (room_tested plan parts s x.bytes x.output x.answers (16 * length left_over) g ∙ e)
          (let d = left_length vs required enough in let w = narrow in let top = g.within in
          room_for (heap + t.charged) (length left_over) z q.code (q.counted ∙ left_is) (omega (arith, d, w, many))
          (q.kept 12 refl ∙ f3.free) (let hl = plan.heap_low in let cl = plan.closures_low in omega (arith, hl, cl)) top q.stands)

      no_room : RoomTested false z q.code → Halts setting x [] 13 HeapLimit
      no_room r = let a = q.few in let b = r.few in record {
        registers = r.registers;
        flags = r.flags;
        least = 3 + q.least + r.least;
        steps = 3 + q.steps + r.steps;
        leads = leads_on setting.marks (leads_on setting.marks way q.leads) r.leads;
        few = omega (arith, a, b);
      }

      begun : nat_le (t.charged + 16 * length left_over) t.constants.heap ≡ true → RoomTested true z q.code
          → Begun x s self (length left_over) following
          (take required vs ++ list_value (length t.objects) left_over nil ∷ []) (record t {
            objects = t.objects ++ linked (length t.objects) left_over nil;
            charged = t.charged + 16 * length left_over;
          })
      begun e r =
          let fits_in : t.charged + 16 * length left_over ≤ t.constants.heap =
          leb-true (t.charged + 16 * length left_over) t.constants.heap e in
          let limit = g.limit in
          let room : heap + (t.charged + 16 * length left_over) ≤ stack = omega (arith, fits_in, limit) in
          let y9 : View = changed z r.registers r.flags r.place x.bytes in
          let l = q.listed y9 refl r.kept r.ahead (omega (arith, room)) in
          let stored = l.store s (omega arith) g in
          let parts' = with_list plan act parts s l.bytes x.output x.answers left_over stored in
          let moved = words_stay parts (pair_parts (length t.objects) left_over) in
          let named = list_named plan act parts s l.bytes x.output x.answers left_over stored room in
          let few1 = q.few in let few2 = l.few in let lo = act.room.low in
          record {
            parts_after = parts';
            words = moved;
            registers = l.registers;
            flags = l.flags;
            place = l.place;
            bytes = l.bytes;
            least = 3 + q.least + 6 + l.least;
            some = omega arith;
            steps = 3 + q.steps + 6 + l.steps;
            leads = leads_on setting.marks (leads_on setting.marks (leads_on setting.marks way q.leads) r.leads)
                l.leads;
            few = omega (arith, few1, few2);
            places_at = places_listed plan act parts parts' moved self vs required enough
                (list_value (length t.objects) left_over nil) y9 (heap + t.charged) 12 l named t.charged refl
                (places_kept plan act parts t.charged (entry_places self vs) (λ k. Junk) y3.registers r.registers
                x.bytes (kept_then is_scratch y3.registers q.registers r.registers q.kept
                (two_scratch q.registers r.registers r.kept)) f3);
            store = list_added plan act parts s l.bytes x.output x.answers left_over stored room l.pairs;
            ahead = subst (λ p. Stands setting [] p following) (sym (l.at ∙ r.kept 11 refl)) q.ahead;
            below = λ p low high. l.slots p low (λ j to. inl (omega (arith, high)));
            entries = refl;
            answers = refl;
            charged = refl;
          }

      by_room : (b : Bool) → nat_le (t.charged + 16 * length left_over) t.constants.heap ≡ b
          → Fits x s self (length left_over) following
          (on_value (on_value (require b HeapLimit
          (λ u. gives unspecified (record u { charged = u.charged + 16 * length left_over })) t)
          (λ _ u. gives (list_value (length u.objects) left_over nil)
          (record u { objects = u.objects ++ linked (length u.objects) left_over nil })))
          (λ list. gives (take required vs ++ list ∷ [])))
      by_room false e = (refl, no_room (tested false e))
      by_room true e = begun e (tested true e)

    by_count : (b : Bool) → nat_le required (length vs) ≡ b → Fits x s self (length left_over) following
        (require b WrongCount (λ u. on_value (on_value
        (require (nat_le (u.charged + 16 * length left_over) u.constants.heap) HeapLimit
        (λ u. gives unspecified (record u { charged = u.charged + 16 * length left_over })) u)
        (λ _ u. gives (list_value (length u.objects) left_over nil)
        (record u { objects = u.objects ++ linked (length u.objects) left_over nil })))
        (λ list. gives (take required vs ++ list ∷ []))) t)
    by_count false e = (refl, too_few e)
    by_count true e = by_room (leb-true required (length vs) e)
        (nat_le (t.charged + 16 * length left_over) t.constants.heap) refl

    -- the arguments fit, or the machine stops
    pub fitted : Fits x s self (length left_over) following (fit (suc required) true vs t)
    fitted = by_count (nat_le required (length vs)) refl
