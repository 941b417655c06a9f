-- The machine sets the characters of strings (R5RS 6.3.5).
use Rattle.std.proofs.Common.{◌≡◌, ℕ, suc, ◌+◌, ◌-◌, ◌*◌, ◌^◌, ◌/◌, ◌%◌, ◌<◌, ◌≤◌, List, [], ◌∷◌, ◌++◌, length}
use Rattle.std.proofs.Common.{Bool, true, false, refl, sym, ap, ◌∙◌, subst, arith, inl, inr, ⊎_elim, ◌==◌}
use Rattle.std.specs.Prelude.{ℤ, pos, negsuc, nat_abs, slice_set}
use Rattle.std.proofs.lemmas.List.{length-set}
use Rattle.sch_word.specs.declared.stop.Stop.TheVariants.{WrongType, OutOfRange}
use Rattle.sch_word.specs.values.Values.{Value, fixnum, character, unspecified, Object, string}
use Rattle.sch_word.specs.values.PrimitiveRows.{is_string, is_index, is_integer, is_character, object_at}
use Rattle.sch_word.specs.values.PrimitiveRows.{as_string, as_fixnum, as_character, in_range, write_object}
use Rattle.sch_word.specs.runs.Store.{Store}
use Rattle.sch_word.specs.runs.Computation.{Outcome, Action, require, with_rest}
use Rattle.sch_control.specs.Meaning.{World, Result, on_outcome}
use Rattle.sch_frames.specs.Meaning.{Frame, Is}
use Rattle.sch_insn.specs.declared.condition.TheConstants.{NE}
use Rattle.sch_insn.specs.declared.insn.Arg.TheVariants.{Reg, Base32}
use Rattle.sch_insn.specs.declared.insn.Insn.TheVariants.{MovNumber, CmpNumber, AddTo, Shr, StoreByte}
use Rattle.sch_insn.specs.declared.state.Flags.{Flags}
use Rattle.sch_insn.specs.Machine.{set_register, add64, word, sum_of, unknown_flags}
use Rattle.sch_insn.proofs.Paths.{leads_on}
use Rattle.sch_asm.specs.declared.item.Item.{Item}
use Rattle.sch_asm.specs.declared.item.Item.TheVariants as item
use Rattle.sch_word.specs.declared.mark.MarkKind.{MarkKind}
use Rattle.sch_word.specs.runs.ProgramLayout.{data_address}
use Rattle.sch_asm.specs.Data.{FixnumWord}
use Rattle.sch_asm.specs.Effects.{is_scratch}
use Rattle.sch_asm.specs.Views.{View, Leads}
use Rattle.sch_asm.proofs.EachItem.{goes, stores_one_byte}
use Rattle.sch_asm.proofs.Bytes.{with_byte, byte_set, size_with_byte, word_beside_byte}
use Rattle.sch_select_memory.specs.Addresses.{max_heap_end}
use Rattle.sch_select_memory.specs.Parts.{Parts}
use Rattle.sch_select_memory.specs.Encoded.{IsWord}
use Rattle.sch_select_memory.specs.Heap.{StringAt, text_address}
use Rattle.sch_select_memory.proofs.heap.Ranges.{piece_in, piece_beside_byte}
use Rattle.sch_select_memory.proofs.heap.Encodings.{integer_tested, character_tested}
use Rattle.sch_select_memory.proofs.heap.Elements.{index_word, text_set, bytes_set}
use Rattle.sch_select_memory.proofs.heap.Objects.{string_tested, no_string}
use Rattle.sch_select_operations.specs.ObjectCode.{string_set_code, check_index}
use Rattle.sch_select_memory.specs.Checks.{check_fixnum, low_bits}
use Rattle.sch_select_memory.specs.Addresses.{stop_label}
use Rattle.sch_select_memory.proofs.Straight.{halts_after, Kept, kept_set, kept_then, moved_to, by_255}
use Rattle.sch_select_memory.proofs.Places.{Plan, Activation, heap_above, places_kept}
use Rattle.sch_select_memory.proofs.HeapWrites.{Wrote, other_word, heap_inside, places_wrote}
use Rattle.sch_select_operations.proofs.objects.ObjectWrites.{object_written}
use Rattle.sch_select_operations.proofs.objects.Tags.{TagTested, tag_checked, one_of}
use Rattle.sch_select_operations.proofs.objects.Indices.{fixnum_of, no_fixnum, character_of, no_character, Checked}
use Rattle.sch_select_operations.proofs.objects.Indices.{fixnum_decided, low_decided, Ranged, index_decided}
use Rattle.sch_select_operations.proofs.objects.Strings.{StringHere, string_here, with_string, character_named, length_named}
use Rattle.sch_select_operations.proofs.objects.Strings.{index_shifted}
use Rattle.sch_select_memory.proofs.simulation.Outcomes.{after, Laid, stops_here}
use Rattle.sch_select_operations.proofs.simulation.Operations.{Std, FrameOf, StoreOf, SimOf, Rest, next_of, none_waits}

-- the byte of a character's word
pub byte_shifted : (b x : ℕ) → x ≡ 256 * b + 46 → b < 256 → x / 2 ^ 8 % 256 ≡ b
byte_shifted b x e lt = omega (arith, e, lt)

module _ (plan : Plan) (body_steps : ℕ) (laid : Laid plan body_steps) (act : Activation plan) where
  open plan use {setting, size, closures, heap, stack, near}

  abbrev Here : List MarkKind → ℕ → List Item → Type 0
  Here waiting a is = Std plan body_steps laid act waiting a is

  abbrev Owed : Parts → List MarkKind → World → View → ℕ → Result → Type 0
  Owed parts before w x c r = SimOf plan body_steps laid act parts before w x c r

  module _ (k : Frame → World → Result) (c : ℕ) (rest : List Item) (K : Rest plan body_steps laid act k c rest)
      (parts : Parts) (before waiting : List MarkKind) (f : Frame) (w : World) (x : View)
      (q : FrameOf plan body_steps laid act parts f w x) (g : StoreOf plan body_steps laid act parts w x)
      (marked : w.marks ≡ before ++ waiting) where
    abbrev Next : Value → World → Result
    Next v w = next_of plan body_steps laid act k f v w

    abbrev t : Store
    t = w.state.store

    -- what an outcome over the store comes to
    abbrev Done : Outcome Store Value → Type 0
    Done o = Owed parts before w x (30 + c) (on_outcome w.marks (with_rest w.state.cells w.state.procedures o) Next)

    abbrev stored : List Item
    stored = item.Plain (Shr (Reg 1) 3) ∷ (item.Plain (AddTo (Reg 0) 1) ∷ (item.Plain (Shr (Reg 11) 8)
        ∷ (item.Plain (StoreByte (Base32 0 (pos 5)) 11) ∷ (item.Plain (MovNumber (Reg 0) (pos 30)) ∷ rest))))

    abbrev indexed : List Item
    indexed = check_index (Base32 0 (negsuc 2)) stored

    -- the string in RAX, the index in RCX and the character in R11 are checked
    character_set : (v : Value) (u : ℕ) (n : ℤ) (p : StringHere plan act parts w.state v (x.registers 0) x.bytes)
        (registers : ℕ → ℕ) (flags : Flags) (place steps : ℕ)
        → Leads setting steps steps waiting x (moved_to x registers flags place)
        → Kept (λ r. r == 2) x.registers registers → steps ≤ 12 → FixnumWord n (registers 1)
        → IsWord parts (character u) (registers 11) → Here [] place indexed
        → Done (in_range n (length p.text) (λ k. write_object v (string (slice_set p.text k u))) t)
    character_set v u n p registers flags place steps leads kept few hn hu st =
        by (is_index n (length p.text)) refl (index_decided setting y n (negsuc 2) a (length p.text) stored hn
        (length_named p.at.unit (registers 0) is (omega (arith, hi, m)))
        (heap_inside plan act a x.bytes g.size_is lo (omega (arith, hi))) p.size_word (omega (arith, hi, m, room)) st)
      where
        y : View
        y = moved_to x registers flags place

        a : ℕ
        a = 16 * p.at.unit

        is : registers 0 ≡ 16 * p.at.unit + 3
        is = kept 0 refl ∙ p.is

        m : stack ≤ max_heap_end
        m = near

        hi : 16 * p.at.unit + 16 * suc p.at.more ≤ stack
        hi = p.high

        lo : closures ≤ 16 * p.at.unit
        lo = p.low

        room : 8 + length p.text ≤ 16 * suc p.at.more
        room = p.room

        by : (b : Bool) → is_index n (length p.text) ≡ b → Ranged setting b y stored
            → Done (require b OutOfRange (write_object v (string (slice_set p.text (nat_abs n) u))) t)
        by false e r =
            stops_here plan body_steps laid before waiting x 14 (30 + c) OutOfRange w
            (halts_after setting x registers flags place waiting steps steps 2 14 OutOfRange leads (omega (arith, few)) r)
            g.printed marked (omega arith)
        by true e r =
            let at = index_word n (registers 1) (length p.text) hn e in
            let j = nat_abs n in
            let index = at.0 in let below = at.1 in
            let o : Object = string (slice_set p.text j u) in
            let i = registers 1 / 2 ^ 3 in
            let shifted = index_shifted j (registers 1) index in
            let sum = sum_of (registers 0) i in
            let h = registers 11 / 2 ^ 8 in
            let b = text_address p.at.unit + j in
            let z0 : View = moved_to x registers r.flags r.place in
            let z1 : View = moved_to x (set_register registers 1 i) unknown_flags (r.place + r.ahead.0) in
            let z2 : View = moved_to x (set_register z1.registers 0 sum.value) sum.flags (z1.place + r.ahead.2.0) in
            let z3 : View = moved_to x (set_register z2.registers 11 h) unknown_flags (z2.place + r.ahead.2.2.0) in
            let bytes = with_byte x.bytes b (h % 256) in
            let z4 : View = record z3 { bytes = bytes; place = z3.place + r.ahead.2.2.2.0 } in
            let z5 : View = record z4 {
              registers = set_register z3.registers 0 30;
              place = z4.place + r.ahead.2.2.2.2.0;
            } in
            let w' : World = record w {
              state = record w.state { store = record t { objects = slice_set t.objects p.number o } };
            } in
            let byte : h % 256 ≡ u = byte_shifted u (registers 11) hu.0 hu.1 in
            let named : add64 sum.value (word (pos 5)) ≡ b = ap (λ i. add64 (add64 (registers 0) i) (word (pos 5))) shifted
            ∙ character_named p.at.unit j (registers 0) is (omega (arith, hi, m, room, below)) in
            let cl = plan.closures_low in let sl = plan.stack_low in let hl = heap_above plan in
            let size_is = g.size_is in let top = act.room.low in let end = act.room.high in
            let from : data_address ≤ b = omega (arith, lo, cl) in
            let to : b < data_address + length x.bytes = omega (arith, hi, room, below, size_is, top, end) in
            let scratch = kept_then is_scratch x.registers registers z5.registers
            (one_of is_scratch 2 x.registers registers refl kept) (kept_then is_scratch registers z1.registers z5.registers
            (kept_set is_scratch registers 1 i refl) (kept_then is_scratch z1.registers z2.registers z5.registers
            (kept_set is_scratch z1.registers 0 sum.value refl) (kept_then is_scratch z2.registers z3.registers z5.registers
            (kept_set is_scratch z2.registers 11 h refl) (kept_set is_scratch z3.registers 0 30 refl)))) in
            let wrote : Wrote (16 * p.at.unit) (16 * p.at.unit + 16 * suc p.at.more) x.bytes bytes = record {
              size = size_with_byte x.bytes b (h % 256) from to;
              pieces = λ e n l far. piece_beside_byte x.bytes b (h % 256) e n from to l
                  (⊎_elim (λ le. inl (omega (arith, le))) (λ le. inr (omega (arith, le, room, below))) far);
            } in
            let off : text_address p.at.unit - data_address + j ≡ b - data_address = omega (arith, lo, cl) in
            let new_text : piece_in bytes (text_address p.at.unit) (length p.text) ≡ slice_set p.text j u =
            ap (λ l. piece_in l (text_address p.at.unit) (length p.text)) (byte_set x.bytes b (h % 256) to from
            ∙ ap (λ k. slice_set x.bytes k (h % 256)) (sym off) ∙ ap (slice_set x.bytes (text_address p.at.unit - data_address
            + j)) byte) ∙ text_set x.bytes p.text (text_address p.at.unit - data_address) j u p.text_is below in
            let filled : StringAt parts bytes p.number (slice_set p.text j u) = record {
              at = p.at;
              there = p.spotted;
              room = (let n = length-set p.text j u in omega (arith, n, room));
              size = word_beside_byte x.bytes b (h % 256) a from to (omega (arith, lo, cl)) (inl (omega arith))
                  ∙ p.size_word ∙ ap (λ n. 8 * n) (sym (length-set p.text j u));
              text_is = ap (piece_in bytes (text_address p.at.unit)) (length-set p.text j u) ∙ new_text;
              are_bytes = bytes_set p.text j u p.are_bytes hu.1;
            } in
            subst Done (sym (ap (λ v. write_object v o t) p.value))
            (after plan body_steps act parts parts (λ v n h. h) before waiting t w'.state.store x z5
            (steps + 2 + 1 + 1 + 1 + 1 + 1) (steps + 2 + 1 + 1 + 1 + 1 + 1) c (30 + c) _
            (leads_on setting.marks (leads_on setting.marks (leads_on setting.marks (leads_on setting.marks
            (leads_on setting.marks (leads_on setting.marks leads r.leads)
            (goes setting z0 z1 (Shr (Reg 1) 3) r.ahead.0 [] r.ahead.1 refl))
            (goes setting z1 z2 (AddTo (Reg 0) 1) r.ahead.2.0 [] r.ahead.2.1 refl))
            (goes setting z2 z3 (Shr (Reg 11) 8) r.ahead.2.2.0 [] r.ahead.2.2.1 refl))
            (stores_one_byte setting z3 11 r.ahead.2.2.2.0 b (Base32 0 (pos 5)) [] r.ahead.2.2.2.1 named from to))
            (goes setting z4 z5 (MovNumber (Reg 0) (pos 30)) r.ahead.2.2.2.2.0 [] r.ahead.2.2.2.2.1 refl))
            (λ q l n. other_word (16 * p.at.unit) (16 * p.at.unit + 16 * suc p.at.more) x.bytes bytes wrote q
            (omega (arith, l, sl, hl)) (inr (omega (arith, l, hi))))
            (omega arith) (omega arith) (omega (arith, few))
            (K parts (before ++ waiting) [] (record f { accumulator = Is unspecified }) w' z5 r.ahead.2.2.2.2.2
            (places_wrote plan act parts t.charged f.places f.outgoing z5.registers x.bytes bytes (16 * p.at.unit)
            (16 * p.at.unit + 16 * suc p.at.more) hi wrote (places_kept plan act parts t.charged f.places f.outgoing
            x.registers z5.registers x.bytes scratch q))
            (object_written plan parts w.state x.bytes bytes x.output x.answers p.number (string p.text) o p.at
            p.there refl p.spotted wrote filled g)
            refl (none_waits w.marks before waiting marked)))

    abbrev characters : List Item
    characters = low_bits 11 255 (item.Plain (CmpNumber (Reg 2) (pos 46)) ∷ (item.JumpIf NE (stop_label WrongType) ∷ indexed))

    pub string_set_sim : (v i u : Value) → IsWord parts v (x.registers 0) → IsWord parts i (x.registers 1)
        → IsWord parts u (x.registers 11) → Here waiting x.place (string_set_code rest)
        → Done (as_string v (λ text. as_fixnum i (λ n. as_character u (λ byte. in_range n (length text)
        (λ k. write_object v (string (slice_set text k byte)))))) t)
    string_set_sim v i u hv hi hu st =
        by (is_string (object_at v t)) refl (tag_checked setting 0 3 (is_string (object_at v t)) x waiting
        (check_fixnum 1 characters) (omega arith) (string_tested parts t g.contents.kinds v (x.registers 0) hv) st)
      where
        stores : List ℕ → ℤ → ℕ → Action Value
        stores text n byte = in_range n (length text) (λ k. write_object v (string (slice_set text k byte)))

        within : List ℕ → ℤ → Action Value
        within text n = as_character u (stores text n)

        by : (b : Bool) → is_string (object_at v t) ≡ b → TagTested setting b x waiting (check_fixnum 1 characters)
            → Done (as_string v (λ text. as_fixnum i (within text)) t)
        by false e r = subst Done (sym (no_string (object_at v t) (λ text. as_fixnum i (within text)) t e))
            (stops_here plan body_steps laid before waiting x 4 (30 + c) WrongType w r g.printed marked (omega arith))
        by true e r =
            subst Done (sym (with_string plan act parts w.state v (x.registers 0) x.bytes
            (λ text. as_fixnum i (within text)) p))
            (index (is_integer i) refl (fixnum_decided setting 1 (is_integer i) y [] characters
            (integer_tested parts i (r.registers 1) (subst (IsWord parts i) (sym (r.kept 1 refl)) hi)) r.ahead))
          where
            p : StringHere plan act parts w.state v (x.registers 0) x.bytes
            p = string_here plan act parts w.state v (x.registers 0) x.bytes x.output x.answers g hv e

            y : View
            y = moved_to x r.registers r.flags r.place

            index : (b : Bool) → is_integer i ≡ b → Checked setting b y [] 3 characters
                → Done (as_fixnum i (within p.text) t)
            index false n s = subst Done (sym (no_fixnum i (within p.text) t n))
                (stops_here plan body_steps laid before waiting x 7 (30 + c) WrongType w
                (halts_after setting x r.registers r.flags r.place waiting 4 4 3 7 WrongType r.leads (omega arith) s)
                g.printed marked (omega arith))
            index true n s =
                subst Done (sym (ap (λ i. as_fixnum i (within p.text) t) m.1))
                (letter (is_character u) refl (low_decided setting 11 255 256 46 (is_character u) z [] indexed by_255
                (omega arith) (omega arith) (omega arith)
                (character_tested parts u (s.registers 11) (subst (IsWord parts u) (sym (kept 11 refl)) hu)) s.ahead))
              where
                m : (n : ℤ) × (i ≡ fixnum n)
                m = fixnum_of i n

                z : View
                z = moved_to x s.registers s.flags s.place

                kept : Kept (λ r. r == 2) x.registers s.registers
                kept = kept_then (λ r. r == 2) x.registers r.registers s.registers r.kept s.kept

                letter : (b : Bool) → is_character u ≡ b → Checked setting b z [] 4 indexed → Done (within p.text m.0 t)
                letter false o d = subst Done (sym (no_character u (stores p.text m.0) t o))
                    (stops_here plan body_steps laid before waiting x 11 (30 + c) WrongType w
                    (halts_after setting x s.registers s.flags s.place waiting 7 7 4 11 WrongType
                    (leads_on setting.marks r.leads s.leads) (omega arith) d) g.printed marked (omega arith))
                letter true o d =
                    let l = character_of u o in
                    let all = kept_then (λ r. r == 2) x.registers s.registers d.registers kept d.kept in
                    subst Done (sym (ap (λ u. as_character u (stores p.text m.0) t) l.1))
                    (character_set v l.0 m.0 p d.registers d.flags d.place 11
                    (leads_on setting.marks (leads_on setting.marks r.leads s.leads) d.leads) all (omega arith)
                    (subst (λ i. IsWord parts i (d.registers 1)) m.1 (subst (IsWord parts i) (sym (all 1 refl)) hi))
                    (subst (λ u. IsWord parts u (d.registers 11)) l.1 (subst (IsWord parts u) (sym (all 11 refl)) hu)) d.ahead)
