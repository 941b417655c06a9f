-- The machine makes vectors and strings whose elements are all the same (R5RS 6.3.6, 6.3.5).
use Rattle.std.proofs.Common.{◌≡◌, ℕ, ◌+◌, ◌-◌, ◌*◌, ◌/◌, ◌%◌, ◌^◌, ◌<◌, ◌≤◌, List, [], ◌∷◌, ◌++◌, length, take, drop}
use Rattle.std.proofs.Common.{Bool, true, false, Some, refl, sym, ap, ◌∙◌, subst, arith, inl, inr, ◌==◌, ◌||◌}
use Rattle.std.specs.Prelude.{ℤ, pos, nat_abs, nat_le, replicate, slice_get}
use Rattle.std.proofs.lemmas.Bool.{leb-true}
use Rattle.std.proofs.lemmas.List.{length-replicate}
use Rattle.std.proofs.lemmas.Option.{slice_get_within}
use Rattle.sch_word.specs.declared.stop.Stop.{Stop}
use Rattle.sch_word.specs.declared.stop.Stop.TheVariants.{WrongType, OutOfRange, HeapLimit}
use Rattle.sch_word.specs.values.Values.{Value, fixnum, character, unspecified, Object, vector, string}
use Rattle.sch_word.specs.values.PrimitiveRows.{is_integer, is_character, is_natural, as_fixnum, as_character, as_length}
use Rattle.sch_word.specs.runs.Store.{Store}
use Rattle.sch_word.specs.runs.Computation.{Outcome, Action, gives, stops, on_value, after, require, with_rest}
use Rattle.sch_word.specs.runs.Charges.{rounded, vector_bytes, string_bytes, charge, new_object}
use Rattle.sch_control.specs.Meaning.{World, Result, on_outcome}
use Rattle.sch_frames.specs.Meaning.{Frame}
use Rattle.sch_insn.specs.declared.condition.TheConstants.{NE}
use Rattle.sch_insn.specs.declared.insn.Arg.TheVariants.{Reg, Base32}
use Rattle.sch_insn.specs.declared.insn.Insn.TheVariants.{MovTo, MovFrom, AddTo, AddNumber, CmpNumber, Shr}
use Rattle.sch_insn.specs.declared.state.Flags.{Flags}
use Rattle.sch_insn.specs.Machine.{set_register, sum_of, unknown_flags}
use Rattle.sch_insn.proofs.Paths.{leads_on}
use Rattle.sch_asm.specs.declared.item.Item.{Item}
use Rattle.sch_asm.specs.declared.item.Item.TheVariants as item
use Rattle.sch_word.specs.declared.mark.MarkKind.{MarkKind}
use Rattle.sch_word.specs.runs.ProgramLayout.{data_address}
use Rattle.sch_asm.specs.declared.routine.Routine.TheVariants as routine
use Rattle.sch_asm.specs.Routines.{label_of}
use Rattle.sch_asm.specs.Data.{FixnumWord, Inside, word_in, with_word}
use Rattle.sch_asm.specs.Effects.{is_scratch, IsReady, HasRoom, Fills, AreWords, AreBytes}
use Rattle.sch_asm.specs.Views.{View, Leads}
use Rattle.sch_asm.proofs.EachItem.{goes, jumps, loads_label, loads_word, stores_word}
use Rattle.sch_asm.proofs.Words.{word_same, size_kept}
use Rattle.sch_select_memory.specs.Parts.{Parts, end_of, Spot, spot, grown}
use Rattle.sch_select_memory.specs.Encoded.{IsWord, Names, NamesObject}
use Rattle.sch_select_memory.specs.Heap.{ObjectAt, VectorAt, StringAt, field_address, text_address, owner_of}
use Rattle.sch_select_memory.proofs.heap.Encodings.{fits, integer_tested, character_tested}
use Rattle.sch_select_memory.proofs.heap.Contents.{words_stay}
use Rattle.sch_select_memory.proofs.heap.Elements.{bytes_same, get_same}
use Rattle.sch_select_operations.specs.ObjectCode.{vector_code, string_code}
use Rattle.sch_select_memory.specs.Addresses.{vector_label, string_label, stop_label}
use Rattle.sch_select_memory.specs.Checks.{round_code, low_bits}
use Rattle.sch_select_memory.specs.MakeCode.{check_length, check_room, fill_code}
use Rattle.sch_select_memory.proofs.Straight.{Halts, halts_after, Kept, kept_set, kept_then, moved_to}
use Rattle.sch_select_memory.proofs.Straight.{by_255, is_one}
use Rattle.sch_select_memory.proofs.Places.{Plan, Activation, heap_above, stack_within}
use Rattle.sch_select_memory.proofs.HeapWrites.{Wrote, wrote_one, wrote_then, wrote_within, other_word}
use Rattle.sch_select_memory.proofs.HeapWrites.{heap_inside, room_tested}
use Rattle.sch_select_operations.proofs.objects.ObjectWrites.{object_part, next_object_spot}
use Rattle.sch_select_operations.proofs.objects.Tags.{one_of}
use Rattle.sch_select_operations.proofs.objects.Indices.{fixnum_of, no_fixnum, character_of, no_character, Checked}
use Rattle.sch_select_operations.proofs.objects.Indices.{fixnum_decided, low_decided, Ranged}
use Rattle.sch_select_operations.proofs.objects.FillEffects.{length_word, rounded_low, filled_wrote, length_decided}
use Rattle.sch_select_operations.proofs.objects.FillEffects.{round_here, Room, Tested, room_tested_here, Aimed, aimed_here}
use Rattle.sch_select_operations.proofs.objects.StringWrites.{byte_shifted}
use Rattle.sch_select_operations.proofs.objects.NewObjects.{object_made}
use Rattle.sch_select_memory.proofs.simulation.Outcomes.{Laid, stops_here}
use Rattle.sch_select_operations.proofs.simulation.Operations.{Std, FrameOf, StoreOf, SimOf, Rest, next_of}

-- how many units an object has beside one, by the bytes of its elements
abbrev more_of : ℕ → ℕ
more_of m = (m + 7) / 16

module _ (plan : Plan) (body_steps : ℕ) (laid : Laid plan body_steps) (act : Activation plan) where
  open plan use {setting, size, closures, heap, stack, near}

  abbrev Here : List MarkKind → ℕ → List Item → Type 0
  Here waiting a is = Std plan body_steps laid act waiting a is

  abbrev Owed : Parts → List MarkKind → World → View → ℕ → Result → Type 0
  Owed parts before w x c r = SimOf plan body_steps laid act parts before w x c r

  module _ (k : Frame → World → Result) (c : ℕ) (rest : List Item) (K : Rest plan body_steps laid act k c rest)
      (parts : Parts) (before waiting : List MarkKind) (f : Frame) (w : World) (x : View)
      (p : FrameOf plan body_steps laid act parts f w x) (g : StoreOf plan body_steps laid act parts w x)
      (marked : w.marks ≡ before ++ waiting) where
    abbrev Next : Value → World → Result
    Next v w = next_of plan body_steps laid act k f v w

    abbrev t : Store
    t = w.state.store

    abbrev objects : List Object
    objects = t.objects

    -- where the next part begins
    abbrev next : ℕ
    next = heap + t.charged

    -- the parts with that of a new object, by the bytes of its elements
    abbrev with_part : Object → ℕ → Parts
    with_part o m = grown parts (object_part objects o (more_of m))

    -- registers whose words fit are as they were, but for those that are free for routines
    abbrev Same : (ℕ → ℕ) → Type 0
    Same registers = (r : ℕ) → is_scratch r ≡ false → x.registers r < 2 ^ 64 → registers r ≡ x.registers r

    -- what an outcome over the store comes to
    abbrev Done : Outcome Store Value → Type 0
    Done o = Owed parts before w x (30 + c) (on_outcome w.marks (with_rest w.state.cells w.state.procedures o) Next)

    -- what is made of an object, where there is room or not
    abbrev made : Object → (m : ℕ) → Bool → Outcome Store Value
    made o m b = on_value (require b HeapLimit (λ u. gives unspecified (record u
        { charged = u.charged + rounded (8 + m) })) t) (λ _. new_object o)

    low_next : next < 2 ^ 32
    low_next = let a = g.within in let n = near in omega (arith, a, n)

    -- ---- behind the fill

    abbrev ending : (tag : ℕ) → List Item
    ending tag = item.Plain (MovTo (Reg 0) 12) ∷ (item.Plain (AddNumber (Reg 0) (pos tag)) ∷
        (item.Plain (AddTo (Reg 12) 2) ∷ rest))

    abbrev new_at : ℕ → Spot
    new_at m = record { unit = end_of parts; more = more_of m }

    new_there : (o : Object) (m : ℕ) → spot (with_part o m) (owner_of (length objects) o) ≡ Some (new_at m)
    new_there o m = next_object_spot parts objects g.contents.kinds o (more_of m)

    finish : (o : Object) (m tag : ℕ) (z : View) (least steps : ℕ) → Leads setting least steps waiting x z
        → z.output ≡ x.output → z.answers ≡ x.answers → steps + 6 ≤ 30 + 8 * rounded (8 + m)
        → next + rounded (8 + m) ≤ stack → m < 9223372036854775808 → tag < 8
        → Wrote next (next + rounded (8 + m)) x.bytes z.bytes
        → ObjectAt (with_part o m) z.bytes (length objects) o → Same z.registers → z.registers 12 ≡ next
        → z.registers 2 ≡ m →
        ((v : ℕ) → Names (with_part o m) (owner_of (length objects) o) tag v
        → NamesObject (with_part o m) (length objects) v)
        → Here [] z.place (round_code (ending tag)) → Done (made o m true)
    finish o m tag z least steps leads printed left few fits_in lt low wrote filled same free size_is named st =
        let total = rounded (8 + m) in
        let r = round_here plan z m (ending tag) size_is lt st in
        let y = moved_to z r.registers r.flags r.place in
        let i = r.ahead in
        let u1 = moved_to z (set_register r.registers 0 (r.registers 12)) r.flags (r.place + i.0) in
        let s1 = sum_of (r.registers 12) tag in
        let u2 = moved_to z (set_register u1.registers 0 s1.value) s1.flags (u1.place + i.2.0) in
        let s2 = sum_of (r.registers 12) (r.registers 2) in
        let u3 = moved_to z (set_register u2.registers 12 s2.value) s2.flags (u2.place + i.2.2.0) in
        let n = near in let l = low_next in let unit = g.ends in
        let bytes = r.bytes_are in
        let at : r.registers 12 ≡ next = r.kept 12 refl ∙ free in
        let scratch : Kept is_scratch z.registers u2.registers = kept_then is_scratch z.registers r.registers
        u2.registers (one_of is_scratch 2 z.registers r.registers refl r.kept)
        (kept_then is_scratch r.registers u1.registers u2.registers
        (kept_set is_scratch r.registers 0 (r.registers 12) refl) (kept_set is_scratch u1.registers 0 s1.value refl)) in
        object_made plan body_steps laid act k c rest K parts before waiting f w x p g marked o (more_of m) total 30 u3
        (least + 3 + 1 + 1 + 1) (steps + 3 + 1 + 1 + 1)
        (leads_on setting.marks (leads_on setting.marks (leads_on setting.marks (leads_on setting.marks leads r.leads)
        (goes setting y u1 (MovTo (Reg 0) 12) i.0 [] i.1 refl))
        (goes setting u1 u2 (AddNumber (Reg 0) (pos tag)) i.2.0 [] i.2.1 refl))
        (goes setting u2 u3 (AddTo (Reg 12) 2) i.2.2.0 [] i.2.2.1 refl))
        printed left (omega (arith, few)) (omega arith) fits_in wrote filled
        (λ r e q s. kept_set (is_one 12) u2.registers 12 s2.value refl r q ∙ scratch r e ∙ same r e s)
        (omega (arith, at, bytes, fits_in, n))
        (named s1.value (record {
          at = new_at m;
          there = new_there o m;
          is = omega (arith, at, unit, l, low);
          fits = omega (arith, at, l, low);
        }))
        i.2.2.2

    -- ---- where there is no room

    roomed : (o : Object) (m : ℕ) (registers : ℕ → ℕ) (flags : Flags) (place steps : ℕ) (following : List Item)
        → Leads setting steps steps waiting x (moved_to x registers flags place) → steps ≤ 20 → registers 2 ≡ m
        → m < 9223372036854775808 → registers 12 ≡ next → Here [] place (round_code (check_room stack following)) →
        (Room plan (moved_to x registers flags place) following → next + rounded (8 + m) ≤ stack
        → Done (made o m true)) →
        Done (made o m (nat_le (t.charged + rounded (8 + m)) t.constants.heap))
    roomed o m registers flags place steps following leads few size_is lt free st then =
        by (nat_le (t.charged + rounded (8 + m)) t.constants.heap) refl
        (subst (λ b. Tested plan b z following) (room_tested plan parts w.state x.bytes x.output x.answers
        (rounded (8 + m)) g) (room_tested_here plan next m z following size_is free (let hl = plan.heap_low in let cl = plan.closures_low in omega (arith, hl, cl)) g.within lt st))
      where
        z : View
        z = moved_to x registers flags place

        by : (b : Bool) → nat_le (t.charged + rounded (8 + m)) t.constants.heap ≡ b → Tested plan b z following
            → Done (made o m b)
        by true e r =
            let le : t.charged + rounded (8 + m) ≤ t.constants.heap =
            leb-true (t.charged + rounded (8 + m)) t.constants.heap e in
            let lim = g.limit in then r (omega (arith, le, lim))
        by false e r = stops_here plan body_steps laid before waiting x (steps + 7) (30 + c) HeapLimit w
            (halts_after setting x registers flags place waiting steps steps 7 (steps + 7) HeapLimit leads
            (omega arith) r) g.printed marked (omega (arith, few))

    -- ---- the fill

    -- the machine is back from a fill behind the word of a length, which RDX has
    record Back (j m bound : ℕ) (Filled : List ℕ → Type 0) (following : List Item) : Type 0 where
      z : View
      least : ℕ
      steps : ℕ
      leads : Leads setting least steps waiting x z
      few : steps ≤ bound
      printed : z.output ≡ x.output
      left : z.answers ≡ x.answers
      wrote : Wrote next (next + rounded (8 + m)) x.bytes z.bytes
      length_is : word_in z.bytes next ≡ 8 * j
      filled : Filled z.bytes
      same : Same z.registers
      free : z.registers 12 ≡ next
      word_is : z.registers 2 ≡ 8 * j
      ahead : Here [] z.place following

    back : (label n j m value bound : ℕ) (Filled : List ℕ → Type 0) (registers : ℕ → ℕ) (flags : Flags)
        (place steps : ℕ) (following : List Item) → value ≡ 8 * j → j < 1152921504606846976
        → next + rounded (8 + m) ≤ stack →
        Leads setting steps steps waiting x (record x {
          registers = registers;
          flags = flags;
          place = place;
          bytes = with_word x.bytes next value;
        }) → Kept is_scratch x.registers registers → registers 0 ≡ 8 * j → registers 11 ≡ setting.place_of n
        → Here [] place (fill_code label []) →
        ((registers' : ℕ → ℕ) (flags' : Flags) → registers' 1 ≡ registers 1 → IsReady (record x {
          registers = registers';
          flags = flags';
          place = setting.place_of label;
          bytes = with_word x.bytes next value;
        }) → HasRoom (record x {
          registers = registers';
          flags = flags';
          place = setting.place_of label;
          bytes = with_word x.bytes next value;
        }) (next + 8) j m → Fills setting (record x {
          registers = registers';
          flags = flags';
          place = setting.place_of label;
          bytes = with_word x.bytes next value;
        }) (next + 8) m bound Filled) →
        Here [] (setting.place_of n) (item.Plain (MovFrom 2 (Base32 12 (pos 0))) ∷ following)
        → Back j m (steps + 6 + bound) Filled following
    back label n j m value bound Filled registers flags place steps following is lt fits_in leads kept length_is
        returns st fills ending_st = record {
          z = u;
          least = steps + 5 + s.least + 1;
          steps = steps + 5 + s.most + 1;
          leads = leads_on setting.marks (leads_on setting.marks (leads_on setting.marks leads a.leads) s.leads)
              (loads_word setting y 2 h.0 next (Base32 12 (pos 0)) [] h.1 (let l = low_next in omega (arith, free, l))
              (heap_inside plan act next y.bytes size_y (omega (arith, hl)) (omega (arith, fits_in, least_size))));
          few = (let k = s.few in omega (arith, k));
          printed = s.output_is;
          left = s.left_is;
          wrote = wrote_then next (next + rounded (8 + m)) x.bytes bytes y.bytes
              (wrote_one next (next + rounded (8 + m)) next value x.bytes at_next (omega arith)
              (omega (arith, least_size)))
              (wrote_within next (next + rounded (8 + m)) (next + 8) (next + 8 + m) bytes y.bytes (omega arith)
              (omega (arith, least_size)) wrote);
          length_is = first_word;
          filled = s.filled;
          same = λ r e l. kept_set is_scratch y.registers 2 (word_in y.bytes next) refl r e ∙ same r e l;
          free = free;
          word_is = first_word;
          ahead = h.2;
        }
      where
        hl : closures ≤ heap
        hl = plan.heap_low

        least_size : 8 + m ≤ rounded (8 + m)
        least_size = rounded_low m

        bytes : List ℕ
        bytes = with_word x.bytes next value

        at_next : Inside (length x.bytes) next
        at_next = heap_inside plan act next x.bytes g.size_is (omega (arith, hl)) (omega (arith, fits_in, least_size))

        size_is : length bytes ≡ size
        size_is = size_kept x.bytes next value at_next ∙ g.size_is

        z1 : View
        z1 = record x { registers = registers; flags = flags; place = place; bytes = bytes }

        a : Aimed plan z1 label next j
        a = aimed_here plan z1 label next j length_is (kept 12 refl ∙ p.free) (let l = low_next in omega (arith, l)) st

        z5 : View
        z5 = record z1 { registers = a.registers; flags = a.flags; place = setting.place_of label }

        top : stack ≤ data_address + size
        top = stack_within plan act

        returns_to : a.registers 11 ≡ setting.place_of n
        returns_to = a.kept 11 refl ∙ returns

        ready : IsReady z5
        ready = let above = heap_above plan in let sl = plan.stack_low in let small = plan.small in record {
          own_words = omega (arith, size_is, top, above, sl);
          within = omega (arith, size_is, small);
          back = subst (λ k. k < 2 ^ 64) (sym returns_to) (plan.labels n);
        }

        room : HasRoom z5 (next + 8) j m
        room = let above = heap_above plan in record {
          address_is = a.address;
          count_is = a.count_is;
          low = omega (arith, above);
          high = omega (arith, size_is, top, fits_in, least_size);
        }

        s : Fills setting z5 (next + 8) m bound Filled
        s = fills a.registers a.flags (a.kept 1 refl) ready room

        y : View
        y = s.y

        size_y : length y.bytes ≡ size
        size_y = s.size_is ∙ size_is

        wrote : Wrote (next + 8) (next + 8 + m) bytes y.bytes
        wrote = let above = heap_above plan in filled_wrote (next + 8) (next + 8 + m) bytes y.bytes
            (omega (arith, above)) (omega arith) s.size_is s.before s.behind

        first_word : word_in y.bytes next ≡ 8 * j
        first_word = let above = heap_above plan in
            other_word (next + 8) (next + 8 + m) bytes y.bytes wrote next (omega (arith, above)) (inl (omega arith))
            ∙ word_same x.bytes next value at_next (omega (arith, is, lt)) ∙ is

        scratch : Kept is_scratch x.registers a.registers
        scratch = kept_then is_scratch x.registers registers a.registers kept
            (λ r e. a.kept r (not_aimed r e))
          where
            not_aimed : (r : ℕ) → is_scratch r ≡ false → ((r == 0) || (r == 2)) ≡ false
            not_aimed r e = by (r == 0) (r == 1) (r == 2) (r == 11) e
              where
                by : (a b c d : Bool) → (a || (b || (c || (d || false)))) ≡ false → (a || c) ≡ false
                by true b c d e = absurd (let bad : true ≡ false = e in cc)
                by false b false d e = refl
                by false true true d e = absurd (let bad : true ≡ false = e in cc)
                by false false true d e = absurd (let bad : true ≡ false = e in cc)

        same : Same y.registers
        same r e fit = s.registers r e (subst (λ k. k < 2 ^ 64) (sym (scratch r e)) fit) ∙ scratch r e

        free : y.registers 12 ≡ next
        free = same 12 refl (let q = p.free in let l = low_next in omega (arith, q, l)) ∙ p.free

        h : Here [] y.place (item.Plain (MovFrom 2 (Base32 12 (pos 0))) ∷ following)
        h = subst (λ a. Here [] a (item.Plain (MovFrom 2 (Base32 12 (pos 0))) ∷ following)) (sym (s.at ∙ returns_to))
            ending_st

        u : View
        u = record y { registers = set_register y.registers 2 (word_in y.bytes next); place = y.place + h.0 }

    -- ---- a vector

    vector_filled : (v : Value) (n j : ℕ) (registers : ℕ → ℕ) (flags : Flags) (place steps : ℕ)
        → Leads setting steps steps waiting x (moved_to x registers flags place) → steps ≤ 7
        → Kept is_scratch x.registers registers → registers 0 ≡ 8 * j → j < 1152921504606846976
        → registers 11 ≡ setting.place_of n → IsWord parts v (registers 1)
        → Here [] place (item.Plain (MovTo (Reg 2) 0) ∷ round_code (check_room stack
        (item.Plain (MovTo (Base32 12 (pos 0)) 0) ∷ fill_code (label_of routine.FillWords) [])))
        → Here [] (setting.place_of n) (item.Plain (MovFrom 2 (Base32 12 (pos 0))) ∷ round_code (ending 2))
        → Done (after (charge (vector_bytes j)) (λ _. new_object (vector (replicate j v))) t)
    vector_filled v n j registers flags place steps leads few kept length_is lt returns hv st ending_st =
        roomed o (8 * j) y.registers y.flags y.place (steps + 1) following
        (leads_on setting.marks leads (goes setting z y (MovTo (Reg 2) 0) st.0 [] st.1 refl)) (omega (arith, few))
        length_is (omega (arith, lt)) (kept 12 refl ∙ p.free) st.2 fill
      where
        o : Object
        o = vector (replicate j v)

        following : List Item
        following = item.Plain (MovTo (Base32 12 (pos 0)) 0) ∷ fill_code (label_of routine.FillWords) []

        z : View
        z = moved_to x registers flags place

        y : View
        y = moved_to x (set_register registers 2 (registers 0)) flags (place + st.0)

        kept_y : Kept is_scratch x.registers y.registers
        kept_y = kept_then is_scratch x.registers registers y.registers kept
            (kept_set is_scratch registers 2 (registers 0) refl)

        fill : Room plan y following → next + rounded (8 + 8 * j) ≤ stack → Done (made o (8 * j) true)
        fill r fits_in = finish o (8 * j) 2 b.z b.least b.steps b.leads b.printed b.left
            (let s = b.few in let l = rounded_low (8 * j) in omega (arith, s, few, l)) fits_in (omega (arith, lt))
            (omega arith) b.wrote filled b.same b.free b.word_is (λ v named. inr (inl named)) b.ahead
          where
            value : ℕ
            value = r.registers 0

            value_is : value ≡ 8 * j
            value_is = r.kept 0 refl ∙ length_is

            word : ℕ
            word = registers 1

            kept_r : Kept is_scratch x.registers r.registers
            kept_r = kept_then is_scratch x.registers y.registers r.registers kept_y
                (one_of is_scratch 2 y.registers r.registers refl r.kept)

            within : Inside (length x.bytes) next
            within = let hl = plan.heap_low in heap_inside plan act next x.bytes g.size_is (omega (arith, hl))
                (omega (arith, fits_in))

            b : Back j (8 * j) (steps + 1 + 7 + 1 + 6 + (5 * j + 4)) (AreWords (next + 8) j word) (round_code (ending 2))
            b = back (label_of routine.FillWords) n j (8 * j) value (5 * j + 4) (AreWords (next + 8) j word) r.registers
                r.flags (r.place + r.ahead.0) (steps + 1 + 7 + 1) (round_code (ending 2)) value_is lt fits_in
                (leads_on setting.marks (leads_on setting.marks (leads_on setting.marks leads
                (goes setting z y (MovTo (Reg 2) 0) st.0 [] st.1 refl)) r.leads)
                (stores_word setting (moved_to x r.registers r.flags r.place) 0 r.ahead.0 next (Base32 12 (pos 0)) []
                r.ahead.1 (let e = kept_r 12 refl in let q = p.free in let l = low_next in omega (arith, e, q, l))
                within))
                kept_r value_is (r.kept 11 refl ∙ returns) r.ahead.2
                (λ registers' flags' same ready room. laid.routine routine.FillWords _ refl (next + 8) j word ready room
                (same ∙ r.kept 1 refl) (fits parts v word hv))
                ending_st

            filled : VectorAt (with_part o (8 * j)) b.z.bytes (length objects) (replicate j v)
            filled = let many = length-replicate j v in let unit = g.ends in record {
              at = new_at (8 * j);
              there = new_there o (8 * j);
              room = omega (arith, many);
              size = ap (word_in b.z.bytes) unit ∙ b.length_is ∙ ap (λ k. 8 * k) (sym many);
              element = λ q u e. element q u e;
            }
              where
                element : (q : ℕ) (u : Value) → slice_get (replicate j v) q ≡ Some u
                    → IsWord (with_part o (8 * j)) u (word_in b.z.bytes (field_address (end_of parts) q))
                element q u e =
                    let many = length-replicate j v in let unit = g.ends in
                    let below : q < length (replicate j v) = slice_get_within (replicate j v) q u e in
                    let at : field_address (end_of parts) q ≡ next + 8 + 8 * q = omega (arith, unit) in
                    let is : word_in b.z.bytes (field_address (end_of parts) q) ≡ word =
                    ap (word_in b.z.bytes) at ∙ b.filled q (omega (arith, below, many)) in
                    subst (IsWord (with_part o (8 * j)) u) (sym is) (words_stay parts
                    (object_part objects o (more_of (8 * j))) u word
                    (subst (λ v. IsWord parts v word) (get_same j q v u e) hv))

    -- ---- from a primitive's items to its routine

    abbrev filling : (tag : ℕ) → (List Item → List Item) → List Item
    filling tag size_code = item.Plain (MovFrom 2 (Base32 12 (pos 0))) ∷ size_code (round_code (ending tag))

    -- where the machine is then, with the address behind in R11
    abbrev called : (n label : ℕ) → View
    called n label = moved_to x (set_register x.registers 11 (setting.place_of n)) x.flags (setting.place_of label)

    calls : (n label : ℕ) (following : List Item) → Here waiting x.place (item.LoadLabel 11 n ∷ (item.Jump label ∷ following))
        → Leads setting 2 2 waiting x (called n label)
    calls n label following h = leads_on setting.marks
        (loads_label setting x 11 n (item.Jump label ∷ following) waiting h)
        (jumps setting (record x { registers = set_register x.registers 11 (setting.place_of n); place = x.place + h.0 })
        label following [] h.4)

    wrong : (registers : ℕ → ℕ) (flags : Flags) (place steps more : ℕ) (why : Stop)
        → Leads setting steps steps waiting x (moved_to x registers flags place) → steps + more ≤ 20
        → Halts setting (moved_to x registers flags place) [] more why → Done (stops why t)
    wrong registers flags place steps more why leads few s = stops_here plan body_steps laid before waiting x
        (steps + more) (30 + c) why w
        (halts_after setting x registers flags place waiting steps steps more (steps + more) why leads (omega arith) s)
        g.printed marked (omega (arith, few))

    pub make_vector_sim : (n : ℕ) (a v : Value) → IsWord parts a (x.registers 0) → IsWord parts v (x.registers 1)
        → Here waiting x.place (vector_code n rest)
        → Done (as_fixnum a (λ i. as_length i (λ j. after (charge (vector_bytes j))
        (λ _. new_object (vector (replicate j v))))) t)
    make_vector_sim n a v ha hv h = by (is_integer a) refl (fixnum_decided setting 0 (is_integer a) y [] lengths
        (integer_tested parts a (x.registers 0) ha) laid.make_vector_stands)
      where
        makes : ℕ → Action Value
        makes j = after (charge (vector_bytes j)) (λ _. new_object (vector (replicate j v)))

        sized : ℤ → Action Value
        sized i = as_length i makes

        behind : List Item
        behind = item.Label n ∷ filling 2 (λ code. code)

        fills : List Item
        fills = item.Plain (MovTo (Reg 2) 0) ∷ round_code (check_room stack
            (item.Plain (MovTo (Base32 12 (pos 0)) 0) ∷ fill_code (label_of routine.FillWords) []))

        lengths : List Item
        lengths = check_length fills

        y : View
        y = moved_to x (set_register x.registers 11 (setting.place_of n)) x.flags (setting.place_of vector_label)

        first : Leads setting 2 2 waiting x y
        first = calls n vector_label behind h

        by : (b : Bool) → is_integer a ≡ b → Checked setting b y [] 3 lengths → Done (as_fixnum a sized t)
        by false e r = subst Done (sym (no_fixnum a sized t e))
            (wrong y.registers y.flags y.place 2 3 WrongType first (omega arith) r)
        by true e r = subst Done (sym (ap (λ a. as_fixnum a sized t) m.1))
            (long (is_natural m.0) refl (length_decided plan z m.0 fills hm r.ahead))
          where
            m : (i : ℤ) × (a ≡ fixnum i)
            m = fixnum_of a e

            z : View
            z = moved_to x r.registers r.flags r.place

            hm : FixnumWord m.0 (r.registers 0)
            hm = subst (λ k. FixnumWord m.0 k) (sym (r.kept 0 refl)) (subst (λ a. IsWord parts a (x.registers 0)) m.1 ha)

            leads : Leads setting 5 5 waiting x z
            leads = leads_on setting.marks first r.leads

            long : (b : Bool) → is_natural m.0 ≡ b → Ranged setting b z fills
                → Done (require b OutOfRange (makes (nat_abs m.0)) t)
            long false i s = wrong r.registers r.flags r.place 5 2 OutOfRange leads (omega arith) s
            long true i s =
                let size = length_word m.0 (r.registers 0) hm i in
                vector_filled v n (nat_abs m.0) r.registers s.flags s.place 7 (leads_on setting.marks leads s.leads)
                (omega arith)
                (kept_then is_scratch x.registers y.registers r.registers
                (kept_set is_scratch x.registers 11 (setting.place_of n) refl)
                (one_of is_scratch 2 y.registers r.registers refl r.kept))
                size.0 size.1 (r.kept 11 refl) (subst (IsWord parts v) (sym (r.kept 1 refl)) hv) s.ahead
                (subst (λ a. Here [] a (filling 2 (λ code. code))) (sym h.4.4.1) h.4.4.2)

    -- ---- a string

    string_filled : (byte n j : ℕ) (registers : ℕ → ℕ) (flags : Flags) (place steps : ℕ)
        → Leads setting steps steps waiting x (moved_to x registers flags place) → steps ≤ 11
        → Kept is_scratch x.registers registers → registers 0 ≡ 8 * j → j < 1152921504606846976
        → registers 11 ≡ setting.place_of n → IsWord parts (character byte) (registers 1)
        → Here [] place (item.Plain (MovTo (Reg 2) 0) ∷ (item.Plain (Shr (Reg 2) 3) ∷ round_code (check_room stack
        (item.Plain (MovTo (Base32 12 (pos 0)) 0) ∷ (item.Plain (Shr (Reg 1) 8) ∷
        fill_code (label_of routine.FillBytes) [])))))
        → Here [] (setting.place_of n) (filling 3 (λ code. item.Plain (Shr (Reg 2) 3) ∷ code))
        → Done (after (charge (string_bytes j)) (λ _. new_object (string (replicate j byte))) t)
    string_filled byte n j registers flags place steps leads few kept length_is lt returns hb st ending_st =
        roomed o j y.registers y.flags y.place (steps + 1 + 1) following to_y (omega (arith, few))
        (omega (arith, length_is)) (omega (arith, lt)) (kept 12 refl ∙ p.free) st.2.2 fill
      where
        o : Object
        o = string (replicate j byte)

        following : List Item
        following = item.Plain (MovTo (Base32 12 (pos 0)) 0) ∷ (item.Plain (Shr (Reg 1) 8) ∷
            fill_code (label_of routine.FillBytes) [])

        z : View
        z = moved_to x registers flags place

        y0 : View
        y0 = moved_to x (set_register registers 2 (registers 0)) flags (place + st.0)

        y : View
        y = moved_to x (set_register y0.registers 2 (registers 0 / 2 ^ 3)) unknown_flags (y0.place + st.2.0)

        to_y : Leads setting (steps + 1 + 1) (steps + 1 + 1) waiting x y
        to_y = leads_on setting.marks (leads_on setting.marks leads
            (goes setting z y0 (MovTo (Reg 2) 0) st.0 [] st.1 refl))
            (goes setting y0 y (Shr (Reg 2) 3) st.2.0 [] st.2.1 refl)

        kept_y : Kept is_scratch x.registers y.registers
        kept_y = kept_then is_scratch x.registers registers y.registers kept
            (kept_then is_scratch registers y0.registers y.registers
            (kept_set is_scratch registers 2 (registers 0) refl)
            (kept_set is_scratch y0.registers 2 (registers 0 / 2 ^ 3) refl))

        fill : Room plan y following → next + rounded (8 + j) ≤ stack → Done (made o j true)
        fill r fits_in = finish o j 3 u (b.least + 1) (b.steps + 1)
            (leads_on setting.marks b.leads (goes setting b.z u (Shr (Reg 2) 3) b.ahead.0 [] b.ahead.1 refl))
            b.printed b.left
            (let s = b.few in let l = rounded_low j in omega (arith, s, few, l)) fits_in (omega (arith, lt))
            (omega arith) b.wrote filled
            (λ r e l. kept_set is_scratch b.z.registers 2 (b.z.registers 2 / 2 ^ 3) refl r e ∙ b.same r e l) b.free
            (let i = b.word_is in omega (arith, i)) (λ v named. inr (inr named)) b.ahead.2
          where
            value : ℕ
            value = r.registers 0

            value_is : value ≡ 8 * j
            value_is = r.kept 0 refl ∙ length_is

            letter : ℕ
            letter = r.registers 1 / 2 ^ 8

            v0 : View
            v0 = record x {
              registers = r.registers;
              flags = r.flags;
              place = r.place + r.ahead.0;
              bytes = with_word x.bytes next value;
            }

            v1 : View
            v1 = record v0 {
              registers = set_register r.registers 1 letter;
              flags = unknown_flags;
              place = v0.place + r.ahead.2.0;
            }

            kept_r : Kept is_scratch x.registers r.registers
            kept_r = kept_then is_scratch x.registers y.registers r.registers kept_y
                (one_of is_scratch 2 y.registers r.registers refl r.kept)

            within : Inside (length x.bytes) next
            within = let hl = plan.heap_low in let l = rounded_low j in heap_inside plan act next x.bytes g.size_is
                (omega (arith, hl)) (omega (arith, fits_in, l))

            letter_is : letter % 256 ≡ byte
            letter_is = byte_shifted byte (r.registers 1) (r.kept 1 refl ∙ hb.0) hb.1

            b : Back j j (steps + 1 + 1 + 7 + 1 + 1 + 6 + (5 * j + 4)) (AreBytes (next + 8) j byte)
                (item.Plain (Shr (Reg 2) 3) ∷ round_code (ending 3))
            b = back (label_of routine.FillBytes) n j j value (5 * j + 4) (AreBytes (next + 8) j byte) v1.registers
                v1.flags v1.place (steps + 1 + 1 + 7 + 1 + 1) (item.Plain (Shr (Reg 2) 3) ∷ round_code (ending 3))
                value_is lt fits_in
                (leads_on setting.marks (leads_on setting.marks (leads_on setting.marks to_y r.leads)
                (stores_word setting (moved_to x r.registers r.flags r.place) 0 r.ahead.0 next (Base32 12 (pos 0)) []
                r.ahead.1 (let e = kept_r 12 refl in let q = p.free in let l = low_next in omega (arith, e, q, l))
                within))
                (goes setting v0 v1 (Shr (Reg 1) 8) r.ahead.2.0 [] r.ahead.2.1 refl))
                (kept_then is_scratch x.registers r.registers v1.registers kept_r
                (kept_set is_scratch r.registers 1 letter refl))
                value_is (r.kept 11 refl ∙ returns) r.ahead.2.2
                (λ registers' flags' same ready room. laid.routine routine.FillBytes _ refl (next + 8) j byte ready room
                (ap (λ k. k % 256) same ∙ letter_is))
                ending_st

            u : View
            u = moved_to b.z (set_register b.z.registers 2 (b.z.registers 2 / 2 ^ 3)) unknown_flags
                (b.z.place + b.ahead.0)

            filled : StringAt (with_part o j) b.z.bytes (length objects) (replicate j byte)
            filled = let many = length-replicate j byte in let unit = g.ends in
                let at : text_address (end_of parts) ≡ next + 8 = omega (arith, unit) in
                record {
                  at = new_at j;
                  there = new_there o j;
                  room = omega (arith, many);
                  size = ap (word_in b.z.bytes) unit ∙ b.length_is ∙ ap (λ k. 8 * k) (sym many);
                  text_is = ap (λ k. take k (drop (text_address (end_of parts) - data_address) b.z.bytes)) many
                      ∙ ap (λ a. take j (drop (a - data_address) b.z.bytes)) at ∙ b.filled;
                  are_bytes = bytes_same j byte hb.1;
                }

    pub make_string_sim : (n : ℕ) (a v : Value) → IsWord parts a (x.registers 0) → IsWord parts v (x.registers 1)
        → Here waiting x.place (string_code n rest)
        → Done (as_fixnum a (λ i. as_character v (λ byte. as_length i (λ j. after (charge (string_bytes j))
        (λ _. new_object (string (replicate j byte)))))) t)
    make_string_sim n a v ha hv h = by (is_integer a) refl (fixnum_decided setting 0 (is_integer a) y [] letters
        (integer_tested parts a (x.registers 0) ha) laid.make_string_stands)
      where
        makes : ℕ → ℕ → Action Value
        makes byte j = after (charge (string_bytes j)) (λ _. new_object (string (replicate j byte)))

        lettered : ℤ → ℕ → Action Value
        lettered i byte = as_length i (makes byte)

        sized : ℤ → Action Value
        sized i = as_character v (lettered i)

        behind : List Item
        behind = item.Label n ∷ filling 3 (λ code. item.Plain (Shr (Reg 2) 3) ∷ code)

        fills : List Item
        fills = item.Plain (MovTo (Reg 2) 0) ∷ (item.Plain (Shr (Reg 2) 3) ∷ round_code (check_room stack
            (item.Plain (MovTo (Base32 12 (pos 0)) 0) ∷ (item.Plain (Shr (Reg 1) 8) ∷
            fill_code (label_of routine.FillBytes) []))))

        lengths : List Item
        lengths = check_length fills

        letters : List Item
        letters = low_bits 1 255 (item.Plain (CmpNumber (Reg 2) (pos 46)) ∷ (item.JumpIf NE (stop_label WrongType) ∷ lengths))

        y : View
        y = moved_to x (set_register x.registers 11 (setting.place_of n)) x.flags (setting.place_of string_label)

        first : Leads setting 2 2 waiting x y
        first = calls n string_label behind h

        by : (b : Bool) → is_integer a ≡ b → Checked setting b y [] 3 letters → Done (as_fixnum a sized t)
        by false e r = subst Done (sym (no_fixnum a sized t e))
            (wrong y.registers y.flags y.place 2 3 WrongType first (omega arith) r)
        by true e r = subst Done (sym (ap (λ a. as_fixnum a sized t) m.1))
            (letter (is_character v) refl (low_decided setting 1 255 256 46 (is_character v) z [] lengths by_255
            (omega arith) (omega arith) (omega arith)
            (character_tested parts v (r.registers 1) (subst (IsWord parts v) (sym (r.kept 1 refl)) hv)) r.ahead))
          where
            m : (i : ℤ) × (a ≡ fixnum i)
            m = fixnum_of a e

            z : View
            z = moved_to x r.registers r.flags r.place

            leads : Leads setting 5 5 waiting x z
            leads = leads_on setting.marks first r.leads

            letter : (b : Bool) → is_character v ≡ b → Checked setting b z [] 4 lengths → Done (sized m.0 t)
            letter false o d = subst Done (sym (no_character v (lettered m.0) t o))
                (wrong r.registers r.flags r.place 5 4 WrongType leads (omega arith) d)
            letter true o d = subst Done (sym (ap (λ v. as_character v (lettered m.0) t) l.1))
                (long (is_natural m.0) refl (length_decided plan q m.0 fills hm d.ahead))
              where
                l : (byte : ℕ) × (v ≡ character byte)
                l = character_of v o

                q : View
                q = moved_to x d.registers d.flags d.place

                kept : Kept (λ k. k == 2) y.registers d.registers
                kept = kept_then (λ k. k == 2) y.registers r.registers d.registers r.kept d.kept

                hm : FixnumWord m.0 (d.registers 0)
                hm = subst (λ k. FixnumWord m.0 k) (sym (kept 0 refl))
                    (subst (λ a. IsWord parts a (x.registers 0)) m.1 ha)

                leads' : Leads setting 9 9 waiting x q
                leads' = leads_on setting.marks leads d.leads

                long : (b : Bool) → is_natural m.0 ≡ b → Ranged setting b q fills
                    → Done (require b OutOfRange (makes l.0 (nat_abs m.0)) t)
                long false i s = wrong d.registers d.flags d.place 9 2 OutOfRange leads' (omega arith) s
                long true i s =
                    let size = length_word m.0 (d.registers 0) hm i in
                    string_filled l.0 n (nat_abs m.0) d.registers s.flags s.place 11
                    (leads_on setting.marks leads' s.leads) (omega arith)
                    (kept_then is_scratch x.registers y.registers d.registers
                    (kept_set is_scratch x.registers 11 (setting.place_of n) refl)
                    (one_of is_scratch 2 y.registers d.registers refl kept))
                    size.0 size.1 (kept 11 refl)
                    (subst (λ v. IsWord parts v (d.registers 1)) l.1 (subst (IsWord parts v) (sym (kept 1 refl)) hv))
                    s.ahead
                    (subst (λ a. Here [] a (filling 3 (λ code. item.Plain (Shr (Reg 2) 3) ∷ code))) (sym h.4.4.1) h.4.4.2)
