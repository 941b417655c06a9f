-- The machine does what calls and tail calls do.
use Rattle.std.proofs.Common.{◌≡◌, ℕ, zero, suc, ◌+◌, ◌*◌, ◌^◌, ◌<◌, ◌≤◌, List, [], ◌∷◌, ◌++◌, length, Bool}
use Rattle.std.proofs.Common.{true, false, Option, Some, None, refl, sym, ap, ◌∙◌, subst, arith, append-nil}
use Rattle.std.proofs.Common.{append_assoc, eq-eqb, ◌==◌}
use Rattle.std.specs.Prelude.{◌-◌, pos, negsuc, not, slice_get}
use Rattle.std.proofs.lemmas.Bool.{ne_eqb}
use Rattle.std.proofs.Math.Nat.{mul-suc}
use Rattle.sch_word.specs.declared.place.Place.TheVariants.{Slot}
use Rattle.sch_word.specs.declared.stop.Stop.TheVariants.{NotProcedure, DepthLimit}
use Rattle.sch_word.specs.values.PrimitiveRows.{is_procedure}
use Rattle.sch_word.specs.values.Values.{Value, fixnum, character, boolean, nil, unspecified, symbol, object, procedure, cell}
use Rattle.sch_word.specs.runs.Store.{Store}
use Rattle.sch_word.specs.runs.Stops.{status_of}
use Rattle.sch_word.specs.runs.Computation.{gives, stops, spent, depth_left, entry_left, known_procedure}
use Rattle.sch_word.specs.values.Checked.{on_passed}
use Rattle.sch_control.specs.Operations.{and_value}
use Rattle.sch_word.specs.runs.Procedures.{Procedure}
use Rattle.sch_word.specs.values.Options.{when_some}
use Rattle.sch_control.specs.Meaning.{World, Result, Callee, on_return, on_checked, entered, call_in}
use Rattle.sch_frames.specs.Meaning as meaning
use Rattle.sch_word.specs.values.Places.{link_place, closure_place}
use Rattle.sch_frames.specs.Meaning.{Frame, Cell, Is, Link, Junk, value_in, arguments, after_call, entry_places}
use Rattle.sch_frames.specs.Meaning.{if_link}
use Rattle.sch_insn.specs.declared.condition.TheConstants.{E, NE}
use Rattle.sch_insn.specs.declared.insn.Arg.TheVariants as arg
use Rattle.sch_insn.specs.declared.insn.Insn.TheVariants.{MovNumber, AddNumber, SubNumber, CmpNumber, JumpTo}
use Rattle.sch_insn.specs.declared.state.Flags.{Flags}
use Rattle.sch_insn.specs.Machine.{set_register, add64, sub64, bits_of, difference_of, sum_of, condition}
use Rattle.sch_insn.proofs.Conditions.{compared_e, compared_ne}
use Rattle.sch_insn.proofs.Paths.{leads_on, leads_then}
use Rattle.sch_asm.specs.declared.item.Item.{Item}
use Rattle.sch_asm.specs.declared.item.Item.TheVariants as item
use Rattle.sch_word.specs.declared.mark.MarkKind.{MarkKind}
use Rattle.sch_word.specs.runs.ProgramLayout.{data_address}
use Rattle.sch_asm.specs.Stands.{Stands}
use Rattle.sch_asm.specs.Data.{word_in}
use Rattle.sch_asm.specs.Effects.{is_scratch}
use Rattle.sch_asm.specs.Views.{View, Leads}
use Rattle.sch_asm.proofs.EachItem.{goes, branches, loads_label, loads_word}
use Rattle.sch_select_memory.specs.Parts.{Parts}
use Rattle.sch_select_memory.specs.Encoded.{IsWord}
use Rattle.sch_select_memory.proofs.heap.Encodings.{procedure_tested}
use Rattle.sch_select_memory.specs.Addresses.{stop_label}
use Rattle.sch_select_operations.specs.CallCode.{check_operator, check_depth, enter_code, open_code, close_code, call_code}
use Rattle.sch_select_operations.specs.CallCode.{tail_code}
use Rattle.sch_select_memory.proofs.Straight.{Kept, kept_set, kept_then, moved_to, Halts, Masked, masked}
use Rattle.sch_select_memory.proofs.Straight.{tagged, by_7}
use Rattle.sch_select_memory.proofs.Places.{Plan, code_of, Room, Activation, PlacesAt, Holds, held_value}
use Rattle.sch_select_memory.proofs.Places.{holds_words}
use Rattle.sch_select_memory.proofs.HeapWrites.{heap_inside}
use Rattle.sch_select_memory.proofs.simulation.Outcomes.{Ends, Sim, Laid, after, ends_after, goes_on_after, no_entries}
use Rattle.sch_select_memory.proofs.simulation.Outcomes.{stops_here}
use Rattle.sch_select_operations.proofs.simulation.Operations.{FrameOf, StoreOf, Rest, onward}
use Rattle.sch_select_memory.proofs.simulation.ProcedureEntries.{arguments_count, argument_at, passed, entry_registers}
use Rattle.sch_select_memory.proofs.simulation.ProcedureEntries.{is_there, CodeOf, code_there, Enters}

module _ (plan : Plan) (body_steps : ℕ) (laid : Laid plan body_steps) (act : Activation plan) (callee : Callee)
    (enters : Enters plan body_steps callee act.nested) where
  open plan use {setting, size, words, literals, globals, symbols, heap, stack, stack_low, narrow, labels}

  small_data : data_address + size < 2 ^ 63
  small_data = plan.small

  abbrev Here : List MarkKind → ℕ → List Item → Type 0
  Here waiting a is = Stands setting waiting a is

  abbrev Owed : Parts → List MarkKind → World → View → ℕ → Result → Type 0
  Owed parts before w x c r = Sim plan body_steps act parts before w.state.store x c r

  -- ---- the operator

  record IsProcedure (x : View) (waiting : List MarkKind) (following : List Item) : Type 0 where
    registers : ℕ → ℕ
    flags : Flags
    place : ℕ
    leads : Leads setting 4 4 waiting x (moved_to x registers flags place)
    kept : Kept is_scratch x.registers registers
    ahead : Here [] place following

  abbrev Checks : Bool → View → List MarkKind → List Item → Type 0
  Checks true x waiting following = IsProcedure x waiting following
  Checks false x waiting following = Halts setting x waiting 4 NotProcedure

  operator_checked : (parts : Parts) (v : Value) (x : View) (waiting : List MarkKind) (following : List Item)
      → IsWord parts v (x.registers 14) → Here waiting x.place (check_operator following)
      → Checks (is_procedure v) x waiting following
  operator_checked parts v x waiting following hv h = by (is_procedure v) refl
    where
      m : Masked setting x 14 8 waiting (item.Plain (CmpNumber (arg.Reg 2) (pos 4)) ∷
          (item.JumpIf NE (stop_label NotProcedure) ∷ following))
      m = masked setting x 14 7 8 waiting (item.Plain (CmpNumber (arg.Reg 2) (pos 4)) ∷
          (item.JumpIf NE (stop_label NotProcedure) ∷ following)) by_7 h

      z1 : View
      z1 = tagged setting x 14 m.tag (bits_of m.tag).flags m.place

      z : View
      z = tagged setting x 14 m.tag (difference_of m.tag 4).flags (m.place + m.ahead.0)

      first : Leads setting 3 3 waiting x z
      first = leads_on setting.marks m.leads (goes setting z1 z (CmpNumber (arg.Reg 2) (pos 4)) m.ahead.0 [] m.ahead.1
          refl)

      at : (b : Bool) → is_procedure v ≡ b → condition z.flags NE ≡ Some (not b)
      at b e = compared_ne m.tag 4 (let i = m.tag_is in omega (arith, i)) (omega arith)
          ∙ ap (λ k. Some (not (k == 4))) m.tag_is ∙ ap (λ b. Some (not b))
          (procedure_tested parts v (x.registers 14) hv ∙ e)

      kept : Kept is_scratch x.registers z.registers
      kept = kept_then is_scratch x.registers (set_register x.registers 2 (x.registers 14)) z.registers
          (kept_set is_scratch x.registers 2 (x.registers 14) refl)
          (kept_set is_scratch (set_register x.registers 2 (x.registers 14)) 2 m.tag refl)

      by : (b : Bool) → is_procedure v ≡ b → Checks b x waiting following
      by true e = record {
        registers = z.registers;
        flags = z.flags;
        place = z.place + m.ahead.2.0;
        leads = leads_on
            setting.marks first (branches setting z NE (stop_label NotProcedure) following [] false m.ahead.2
            (at true e));
        kept = kept;
        ahead = m.ahead.2.4;
      }
      by false e = record {
        registers = z.registers;
        flags = z.flags;
        least = 4;
        steps = 4;
        leads = leads_on
            setting.marks first (branches setting z NE (stop_label NotProcedure) following [] true m.ahead.2
            (at false e));
        few = omega arith;
      }

  -- ---- into the procedure

  -- The machine comes to the code of a procedure, with the operands' count in RAX.
  record Jumped (y : View) (label count : ℕ) (following : List Item) : Type 0 where
    registers : ℕ → ℕ
    leads : Leads setting 3 3 [] y (moved_to y registers y.flags (registers 1))
    at : registers 1 ≡ code_of plan label
    counted : registers 0 ≡ count
    kept : Kept is_scratch y.registers registers
    place : ℕ
    behind : Here [] place following

  jumped : (y : View) (label count : ℕ) (following : List Item) → length y.bytes ≡ size
      → CodeOf plan y.bytes label (y.registers 14) → Here [] y.place (enter_code count following)
      → Jumped y label count following
  jumped y label count following s code h =
      let y1 : View = record y { registers = set_register y.registers 0 count; place = y.place + h.0 } in
      let a = code.at in
      let v = word_in y.bytes a in
      let y2 : View = record y1 { registers = set_register y1.registers 1 v; place = y1.place + h.2.0 } in
      record {
        registers = y2.registers;
        leads = leads_on setting.marks (leads_on setting.marks
            (goes setting y y1 (MovNumber (arg.Reg 0) (pos count)) h.0 [] h.1 refl)
            (loads_word setting y1 1 h.2.0 a (arg.Base32 14 (negsuc 3)) [] h.2.1 code.named
            (heap_inside plan act a y.bytes s code.low code.high)))
            (goes setting y2 (moved_to y y2.registers y.flags (y2.registers 1)) (JumpTo (arg.Reg 1)) h.2.2.0 []
            h.2.2.1 refl);
        at = code.is;
        counted = refl;
        kept = kept_then is_scratch y.registers y1.registers y2.registers
            (kept_set is_scratch y.registers 0 count refl) (kept_set is_scratch y1.registers 1 v refl);
        place = y2.place + h.2.2.0;
        behind = h.2.2.2;
      }

  module _ (k : Frame → World → Result) (c : ℕ) (rest : List Item) (K : Rest plan body_steps laid act k c rest)
      (parts : Parts) (before waiting : List MarkKind) (f : Frame) (w : World) (x : View)
      (p : FrameOf plan body_steps laid act parts f w x) (g : StoreOf plan body_steps laid act parts w x)
      (marked : w.marks ≡ before ++ waiting) where
    abbrev t : Store
    t = w.state.store

    abbrev After : Value → World → Result
    After v u = k (after_call f v) u

    -- ---- back from a call, whose frame lies behind the own one

    module _ (n d : ℕ) (is : act.left ≡ suc d) where
      inner_room : Room plan (act.frame + 8 * words) d
      inner_room =
          let split = mul-suc words d in let by_d : words * act.left ≡ words * suc d = ap (λ d. words * d) is in
          let low = act.room.low in let high = act.room.high in let few = act.room.few in
          record { low = omega (arith, low); high = omega (arith, split, by_d, high); few = omega (arith, few, is) }

      abbrev inner : Activation plan
      inner = record {
        back = setting.place_of n;
        frame = act.frame + 8 * words;
        left = d;
        nested = act.nested;
        entered = true;
        back_fits = labels n;
        room = inner_room;
      }

      back_by : (z : View) → Leads setting 12 12 waiting x z → z.bytes ≡ x.bytes
          → Here [] (setting.place_of n) (item.Plain (SubNumber (arg.Reg 5) (pos (8 * words))) ∷
          (item.Plain (AddNumber (arg.Reg 13) (pos 1)) ∷ rest))
          → (r : Result) → Sim plan body_steps inner parts (before ++ waiting) t z 40 r
          → Owed parts before w x (250 + c) (on_return r After)
      back_by z way same h None s = tt
      back_by z way same h (Some (stops why u)) s = ends_after plan body_steps before waiting t t x z 12 12 40
          (250 + c) (status_of why) u way (omega arith) s
      back_by z way same h (Some (spent u)) s = λ few. goes_on_after plan body_steps before waiting t t x z 12 12 u
          way (omega arith) (s few)
      back_by z way same h (Some (gives v u)) s =
          let y = s.y in
          let q : Here [] y.place (item.Plain (SubNumber (arg.Reg 5) (pos (8 * words))) ∷
          (item.Plain (AddNumber (arg.Reg 13) (pos 1)) ∷ rest)) = subst
          (λ a. Here [] a (item.Plain (SubNumber (arg.Reg 5) (pos (8 * words))) ∷
          (item.Plain (AddNumber (arg.Reg 13) (pos 1)) ∷ rest))) (sym s.at) h in
          let y1 : View = record y {
            registers = set_register y.registers 5 (sub64 (y.registers 5) (8 * words));
            flags = (difference_of (y.registers 5) (8 * words)).flags;
            place = y.place + q.0;
          } in
          let y2 : View = record y1 {
            registers = set_register y1.registers 13 (add64 (y.registers 13) 1);
            flags =
                (sum_of (y.registers 13) 1).flags;
            place = y1.place + q.2.0;
          } in
          let low = act.room.low in let high = act.room.high in let few = act.room.few in let little = small_data in
          let wide = narrow in
          let sf = s.frame in let sd = s.depth in
          let below : (a : ℕ) → stack ≤ a → a + 8 ≤ act.frame + 8 * words
          → word_in y.bytes a ≡ word_in x.bytes a = λ a lo hi. s.below a lo hi ∙ ap (λ b. word_in b a) same in
          let e5 : sub64 (y.registers 5) (8 * words) ≡ act.frame = omega (arith, sf, high, little, wide) in
          let e13 : add64 (y.registers 13) 1 ≡ act.left = omega (arith, sd, is, few) in
          let at : FrameOf plan body_steps laid act s.parts_after (after_call f v) u y2 = record {
            frame = e5;
            depth = e13;
            free = s.free;
            register = λ r e. tt;
            slot = λ j lt. subst (Holds act.back s.parts_after (f.places (Slot j)))
                (sym (below (act.frame + 8 * j) (omega (arith, low)) (omega (arith, lt))))
                (holds_words act.back parts s.parts_after s.words (f.places (Slot j))
                (word_in x.bytes (act.frame + 8 * j)) (p.slot j lt));
            next = λ j lt. tt;
          } in
          let tail = leads_on setting.marks (leads_on setting.marks s.leads
          (goes setting y y1 (SubNumber (arg.Reg 5) (pos (8 * words))) q.0 [] q.1 refl))
          (goes setting y1 y2 (AddNumber (arg.Reg 13) (pos 1)) q.2.0 [] q.2.1 refl) in
          let m : u.marks ≡ (before ++ (waiting ++ s.events)) ++ [] = s.marked
          ∙ append_assoc before waiting s.events ∙ sym (append-nil (before ++ (waiting ++ s.events))) in
          let entries = s.entries in let cost = s.cost in
          after plan body_steps act parts s.parts_after s.words before (waiting ++ s.events) t u.state.store x y2 _ _
          c (250 + c) (After v u) (leads_then setting.marks way tail)
          (λ a lo hi. below a lo (omega (arith, hi))) (omega (arith, entries)) s.fewer (omega (arith, cost))
          (K s.parts_after (before ++ (waiting ++ s.events)) [] (after_call f v) u y2 q.2.2 at s.world (s.value refl) m)

    -- ---- a call that is no tail call

    module _ (n count : ℕ) (small : (count < 2 ^ 31) × (count ≤ 6 + words)) (h : Here waiting x.place (call_code words n count rest)) where
      abbrev following : List Item
      following = check_depth (open_code words n (enter_code count (close_code words n rest)))

      refused : Halts setting x waiting 4 NotProcedure → Ends plan body_steps before t x (250 + c) 67 w
      refused s = stops_here plan body_steps laid before waiting x 4 (250 + c) NotProcedure w s g.printed marked
          (omega arith)

      module _ (i : ℕ) (q : Procedure) (vs : List Value) (hv : IsWord parts (procedure i) (x.registers 14))
          (there : slice_get w.state.procedures i ≡ Some q) (values : arguments f.places f.outgoing 0 count ≡ Some vs)
          (s : IsProcedure x waiting following) where
        abbrev y : View
        y = moved_to x s.registers s.flags s.place

        abbrev y1 : View
        y1 = record y { flags = (difference_of (y.registers 13) 0).flags; place = y.place + s.ahead.0 }

        compared : Leads setting 5 5 waiting x y1
        compared = leads_on setting.marks s.leads (goes setting y y1 (CmpNumber (arg.Reg 13) (pos 0)) s.ahead.0 []
            s.ahead.1 refl)

        left_is : y.registers 13 ≡ act.left
        left_is = s.kept 13 refl ∙ p.depth

        no_depth : act.left ≡ 0 → Ends plan body_steps before t x (250 + c) 72 w
        no_depth is =
            let e = left_is in
            let halts : Halts setting x waiting 6 DepthLimit = record {
              registers = y1.registers;
              flags = y1.flags;
              least = 6;
              steps = 6;
              leads = leads_on setting.marks compared (branches setting y1 E (stop_label DepthLimit)
                  (open_code words n (enter_code count (close_code words n rest))) [] true s.ahead.2
                  (compared_e (y.registers 13) 0 (omega (arith, e, is)) (omega arith)
                  ∙ ap Some (eq-eqb (y.registers 13) 0 (e ∙ is))));
              few = omega arith;
            } in
            stops_here plan body_steps laid before waiting x 6 (250 + c) DepthLimit w halts g.printed marked
            (omega arith)

        enters_it : (d : ℕ) (is : act.left ≡ suc d) → Owed parts before w x (250 + c)
            (on_return (callee (procedure i) q vs d w) After)
        enters_it d is =
            let e = left_is in let few = act.room.few in let high = act.room.high in let little = small_data in let
            pf = p.frame in
            let y2 : View = record y1 { place = y1.place + s.ahead.2.0 } in
            let h2 = s.ahead.2.4 in
            let y3 : View = record y2 {
              registers = set_register y2.registers 13 (sub64 (y2.registers 13) 1);
              flags =
                  (difference_of (y2.registers 13) 1).flags;
              place = y2.place + h2.0;
            } in
            let y4 : View = record y3 {
              registers = set_register y3.registers 5 (add64 (y3.registers 5) (8 * words));
              flags = (sum_of (y3.registers 5) (8 * words)).flags;
              place = y3.place + h2.2.0;
            } in
            let h4 = h2.2.2 in
            let y5 : View = record y4 {
              registers = set_register y4.registers 15 (setting.place_of n);
              place =
                  y4.place + h4.0;
            } in
            let kept14 : y5.registers 14 ≡ x.registers 14 = s.kept 14 refl in
            let code : CodeOf plan y5.bytes q.label (y5.registers 14) = subst (CodeOf plan x.bytes q.label)
            (sym kept14) (code_there plan parts w.state x i (x.registers 14) q g there hv) in
            let j = jumped y5 q.label count (close_code words n rest) g.size_is code h4.4 in
            let z : View = moved_to y5 j.registers y5.flags (j.registers 1) in
            let way : Leads setting 12 12 waiting x z = leads_on setting.marks
            (leads_on setting.marks (leads_on setting.marks (leads_on setting.marks (leads_on setting.marks compared
            (branches setting y1 E (stop_label DepthLimit) (open_code words n
            (enter_code count (close_code words n rest))) [] false s.ahead.2
            (compared_e (y.registers 13) 0 (omega (arith, e, is, few)) (omega arith)
            ∙ ap Some (ne_eqb (y.registers 13) 0 (λ zero. omega (arith, zero, e, is))))))
            (goes setting y2 y3 (SubNumber (arg.Reg 13) (pos 1)) h2.0 [] h2.1 refl))
            (goes setting y3 y4 (AddNumber (arg.Reg 5) (pos (8 * words))) h2.2.0 [] h2.2.1 refl))
            (loads_label setting y4 15 n (enter_code count (close_code words n rest)) [] h4)) j.leads in
            let s5 : y2.registers 5 ≡ act.frame = s.kept 5 refl ∙ p.frame in
            let frame_is : y5.registers 5 ≡ act.frame + 8 * words = omega (arith, s5, high, little) in
            let depth_is : y5.registers 13 ≡ d = omega (arith, e, is, few) in
            let at : PlacesAt plan (inner n d is) parts t.charged (entry_places (procedure i) vs) (λ k. Junk)
            z.registers z.bytes = record {
              frame = j.kept 5 refl ∙ frame_is;
              depth = j.kept 13 refl ∙ depth_is;
              free = j.kept 12 refl ∙ s.kept 12 refl ∙ p.free;
              register = entry_registers act.back (setting.place_of n) parts f.places f.outgoing count (procedure i)
                  vs x.registers z.registers values p.register
                  (subst (IsWord parts (procedure i)) (sym (j.kept 14 refl ∙ kept14)) hv) (j.kept 15 refl)
                  (j.kept 3 refl ∙ s.kept 3 refl) (j.kept 6 refl ∙ s.kept 6 refl) (j.kept 7 refl ∙ s.kept 7 refl)
                  (j.kept 8 refl ∙ s.kept 8 refl) (j.kept 9 refl ∙ s.kept 9 refl) (j.kept 10 refl ∙ s.kept 10 refl);
              slot = λ l lt. passed (setting.place_of n) parts vs (6 + l) _ (λ v o.
                  let same : act.frame + 8 * (words + l) ≡ act.frame + 8 * words + 8 * l = omega arith in
                  let handed : suc (suc (suc (suc (suc (suc l))))) ≡ 6 + l = omega arith in
                  let behind : l ≡ suc (suc (suc (suc (suc (suc l))))) - 6 = omega arith in
                  subst (λ a. IsWord parts v (word_in x.bytes a)) same
                  (held_value act.back parts (f.outgoing l) (word_in x.bytes (act.frame + 8 * (words + l))) v
                  (p.next l lt) (ap (λ j. value_in (f.outgoing j)) behind
                  ∙ argument_at f.places f.outgoing count (suc (suc (suc (suc (suc (suc l)))))) vs v values
                  (ap (slice_get vs) handed ∙ o))));
              next = λ l lt. tt;
            } in
            let number = arguments_count f.places f.outgoing 0 count vs values in
            let returns : Here [] (setting.place_of n) (item.Plain (SubNumber (arg.Reg 5) (pos (8 * words))) ∷
            (item.Plain (AddNumber (arg.Reg 13) (pos 1)) ∷ rest)) = subst
            (λ a. Here [] a (item.Plain (SubNumber (arg.Reg 5) (pos (8 * words))) ∷
            (item.Plain (AddNumber (arg.Reg 13) (pos 1)) ∷ rest))) (sym j.behind.1) j.behind.2 in
            back_by n d is z way refl returns (callee (procedure i) q vs d w)
            (enters (inner n d is) refl refl (procedure i) q vs parts (before ++ waiting) w z j.at
            (j.counted ∙ sym number) (let k = small.0 in omega (arith, number, k)) (let k = small.1 in omega (arith, number, k)) at
            g marked)

        entries_by : (d : ℕ) (is : act.left ≡ suc d) (e : ℕ) → t.entries ≡ e
            → Owed parts before w x (250 + c)
            (on_return (on_checked (entry_left e (record { procedure = q; arguments = vs; depth = d })) w
            (entered callee (procedure i ∷ vs) w)) After)
        entries_by d is zero z = λ few. no_entries plan body_steps before waiting w x g.printed marked z
        entries_by d is (suc e) z = enters_it d is

        depth_by : (d : ℕ) → act.left ≡ d → Owed parts before w x (250 + c)
            (on_return (on_checked (on_passed (depth_left false d)
            (λ left. entry_left t.entries (record { procedure = q; arguments = vs; depth = left }))) w
            (entered callee (procedure i ∷ vs) w)) After)
        depth_by zero is = no_depth is
        depth_by (suc d) is = entries_by d is t.entries refl

      known_by : (i : ℕ) (vs : List Value) → IsWord parts (procedure i) (x.registers 14)
          → arguments f.places f.outgoing 0 count ≡ Some vs → IsProcedure x waiting following → (o : Option Procedure)
          → slice_get w.state.procedures i ≡ o
          → Owed parts before w x (250 + c)
          (on_return (on_checked (on_passed (known_procedure o)
          (λ q. on_passed (depth_left false act.left) (λ left. entry_left t.entries
          (record { procedure = q; arguments = vs; depth = left })))) w (entered callee (procedure i ∷ vs) w))
          After)
      known_by i vs hv values s None e = absurd (is_there plan parts w.state x i (x.registers 14) g hv e)
      known_by i vs hv values s (Some q) e = depth_by i q vs hv e values s act.left refl

      of : (v : Value) → IsWord parts v (x.registers 14) → Checks (is_procedure v) x waiting following
          → (vs : List Value) → arguments f.places f.outgoing 0 count ≡ Some vs
          → Owed parts before w x (250 + c) (on_return (call_in callee false false act.left (v ∷ vs) w) After)
      of (procedure i) hv s vs values = known_by i vs hv values s (slice_get w.state.procedures i) refl
      of (fixnum i) hv s vs values = refused s
      of (character i) hv s vs values = refused s
      of (boolean i) hv s vs values = refused s
      of nil hv s vs values = refused s
      of unspecified hv s vs values = refused s
      of (symbol i) hv s vs values = refused s
      of (object i) hv s vs values = refused s
      of (cell i) hv s vs values = refused s

      operands_by : (o : Option Value) → value_in (f.places closure_place) ≡ o → (q : Option (List Value))
          → arguments f.places f.outgoing 0 count ≡ q → Owed parts before w x (250 + c)
          (when_some (and_value o q) (λ vs. on_return (call_in callee false false act.left vs w) After))
      operands_by None e None i = tt
      operands_by None e (Some us) i = tt
      operands_by (Some v) e None i = tt
      operands_by (Some v) e (Some vs) i = let hv = held_value act.back parts (f.places closure_place)
          (x.registers 14) v (p.register 14 refl) e in of v hv (operator_checked parts v x waiting following hv h) vs i

      pub call_sim : Owed parts before w x (250 + c) (when_some (meaning.parts f.places f.outgoing count)
          (λ vs. on_return (call_in callee false false act.left vs w) After))
      call_sim = operands_by (value_in (f.places closure_place)) refl (arguments f.places f.outgoing 0 count) refl

    -- ---- a tail call, in the frame of its caller

    -- what is owed to a procedure's activation is owed to its caller's
    as_entered : (b : List MarkKind) (y : View) (m : ℕ) (r : Result)
        → Sim plan body_steps (record act { entered = true }) parts b t y m r → Sim plan body_steps act parts b t y m r
    as_entered b y m None s = tt
    as_entered b y m (Some (stops why u)) s = s
    as_entered b y m (Some (spent u)) s = s
    as_entered b y m (Some (gives v u)) s = record {
      y = s.y;
      events = s.events;
      least = s.least;
      steps = s.steps;
      leads = s.leads;
      entries = s.entries;
      fewer = s.fewer;
      cost = s.cost;
      at = s.at;
      frame = s.frame;
      depth = s.depth;
      free = s.free;
      below = s.below;
      parts_after = s.parts_after;
      words = s.words;
      value = λ e. s.value refl;
      world = s.world;
      marked = s.marked;
    }

    module _ (count : ℕ) (small : (count < 2 ^ 31) × (count ≤ 6 + words)) (h : Here waiting x.place (tail_code count rest))
        (link : x.registers 15 ≡ act.back) where
      abbrev own_slots : ℕ → Cell
      own_slots j = f.places (Slot j)

      abbrev entering : List Item
      entering = enter_code count rest

      refused_tail : Halts setting x waiting 4 NotProcedure → Ends plan body_steps before t x (250 + c) 67 w
      refused_tail s = stops_here plan body_steps laid before waiting x 4 (250 + c) NotProcedure w s g.printed marked
          (omega arith)

      module _ (i : ℕ) (q : Procedure) (vs : List Value) (hv : IsWord parts (procedure i) (x.registers 14))
          (there : slice_get w.state.procedures i ≡ Some q) (values : arguments f.places own_slots 0 count ≡ Some vs)
          (s : IsProcedure x waiting entering) where
        goes_into : Owed parts before w x (250 + c) (callee (procedure i) q vs act.left w)
        goes_into =
            let y : View = moved_to x s.registers s.flags s.place in
            let kept14 : y.registers 14 ≡ x.registers 14 = s.kept 14 refl in
            let code : CodeOf plan y.bytes q.label (y.registers 14) = subst (CodeOf plan x.bytes q.label) (sym kept14)
            (code_there plan parts w.state x i (x.registers 14) q g there hv) in
            let j = jumped y q.label count rest g.size_is code s.ahead in
            let z : View = moved_to y j.registers y.flags (j.registers 1) in
            let now : Activation plan = record act { entered = true } in
            let at : PlacesAt plan now parts t.charged (entry_places (procedure i) vs) (λ k. Junk) z.registers
            z.bytes = record {
              frame = j.kept 5 refl ∙ s.kept 5 refl ∙ p.frame;
              depth = j.kept 13 refl ∙ s.kept 13 refl ∙ p.depth;
              free = j.kept 12 refl ∙ s.kept 12 refl ∙ p.free;
              register = entry_registers act.back act.back parts f.places own_slots count (procedure i) vs x.registers
                  z.registers values p.register
                  (subst (IsWord parts (procedure i)) (sym (j.kept 14 refl ∙ kept14)) hv)
                  (j.kept 15 refl ∙ s.kept 15 refl ∙ link)
                  (j.kept 3 refl ∙ s.kept 3 refl) (j.kept 6 refl ∙ s.kept 6 refl) (j.kept 7 refl ∙ s.kept 7 refl)
                  (j.kept 8 refl ∙ s.kept 8 refl) (j.kept 9 refl ∙ s.kept 9 refl) (j.kept 10 refl ∙ s.kept 10 refl);
              slot = λ l lt. passed act.back parts vs (6 + l) _ (λ v o.
                  let handed : suc (suc (suc (suc (suc (suc l))))) ≡ 6 + l = omega arith in
                  let behind : l ≡ suc (suc (suc (suc (suc (suc l))))) - 6 = omega arith in
                  held_value act.back parts (f.places (Slot l)) (word_in x.bytes (act.frame + 8 * l)) v (p.slot l lt)
                  (ap (λ j. value_in (f.places (Slot j))) behind
                  ∙ argument_at f.places own_slots count (suc (suc (suc (suc (suc (suc l)))))) vs v values
                  (ap (slice_get vs) handed ∙ o)));
              next = λ l lt. tt;
            } in
            let number = arguments_count f.places own_slots 0 count vs values in
            onward plan body_steps laid act parts before waiting w x z 7 7 40 (250 + c) _
            (leads_on setting.marks s.leads j.leads) (λ a lo hi. refl) (omega arith)
            (as_entered (before ++ waiting) z 40 (callee (procedure i) q vs act.left w)
            (enters now refl refl (procedure i) q vs parts (before ++ waiting) w z j.at (j.counted ∙ sym number)
            (let k = small.0 in omega (arith, number, k)) (let k = small.1 in omega (arith, number, k)) at g marked))

        tail_entries : (e : ℕ) → t.entries ≡ e → Owed parts before w x (250 + c)
            (on_checked (entry_left e (record { procedure = q; arguments = vs; depth = act.left })) w
            (entered callee (procedure i ∷ vs) w))
        tail_entries zero z = λ few. no_entries plan body_steps before waiting w x g.printed marked z
        tail_entries (suc e) z = goes_into

      tail_known : (i : ℕ) (vs : List Value) → IsWord parts (procedure i) (x.registers 14)
          → arguments f.places own_slots 0 count ≡ Some vs → IsProcedure x waiting entering → (o : Option Procedure)
          → slice_get w.state.procedures i ≡ o
          → Owed parts before w x (250 + c)
          (on_checked (on_passed (known_procedure o) (λ q. on_passed (depth_left true act.left)
          (λ left. entry_left t.entries (record { procedure = q; arguments = vs; depth = left })))) w
          (entered callee (procedure i ∷ vs) w))
      tail_known i vs hv values s None e = absurd (is_there plan parts w.state x i (x.registers 14) g hv e)
      tail_known i vs hv values s (Some q) e = tail_entries i q vs hv e values s t.entries refl

      tail_of : (v : Value) → IsWord parts v (x.registers 14) → Checks (is_procedure v) x waiting entering
          → (vs : List Value) → arguments f.places own_slots 0 count ≡ Some vs
          → Owed parts before w x (250 + c) (call_in callee false true act.left (v ∷ vs) w)
      tail_of (procedure i) hv s vs values = tail_known i vs hv values s (slice_get w.state.procedures i) refl
      tail_of (fixnum i) hv s vs values = refused_tail s
      tail_of (character i) hv s vs values = refused_tail s
      tail_of (boolean i) hv s vs values = refused_tail s
      tail_of nil hv s vs values = refused_tail s
      tail_of unspecified hv s vs values = refused_tail s
      tail_of (symbol i) hv s vs values = refused_tail s
      tail_of (object i) hv s vs values = refused_tail s
      tail_of (cell i) hv s vs values = refused_tail s

      tail_operands : (o : Option Value) → value_in (f.places closure_place) ≡ o → (q : Option (List Value))
          → arguments f.places own_slots 0 count ≡ q → Owed parts before w x (250 + c)
          (when_some (and_value o q) (λ vs. call_in callee false true act.left vs w))
      tail_operands None e None i = tt
      tail_operands None e (Some us) i = tt
      tail_operands (Some v) e None i = tt
      tail_operands (Some v) e (Some vs) i = let hv = held_value act.back parts (f.places closure_place)
          (x.registers 14) v (p.register 14 refl) e in tail_of v hv (operator_checked parts v x waiting entering hv h)
          vs i

      tail_here : Owed parts before w x (250 + c) (when_some (meaning.parts f.places own_slots count)
          (λ vs. call_in callee false true act.left vs w))
      tail_here = tail_operands (value_in (f.places closure_place)) refl (arguments f.places own_slots 0 count) refl

    pub tail_sim : (count : ℕ) → (count < 2 ^ 31) × (count ≤ 6 + words) → Here waiting x.place (tail_code count rest)
        → Owed parts before w x (250 + c) (if_link (f.places link_place)
        (when_some (meaning.parts f.places (λ j. f.places (Slot j)) count)
        (λ vs. call_in callee false true act.left vs w)))
    tail_sim count small h = by (f.places link_place) (p.register 15 refl)
      where
        by : (q : Cell) → Holds act.back parts q (x.registers 15)
            → Owed parts before w x (250 + c)
            (if_link q (when_some (meaning.parts f.places (λ j. f.places (Slot j)) count)
            (λ vs. call_in callee false true act.left vs w)))
        by Junk hq = tt
        by (Is v) hq = tt
        by Link hq = tail_here count small h hq
