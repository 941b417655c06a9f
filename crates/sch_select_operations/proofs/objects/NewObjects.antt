-- What follows an object whose part is filled, and pairs that the machine makes (R5RS 6.3.2).
use Rattle.std.proofs.Common.{◌≡◌, ℕ, suc, ◌+◌, ◌*◌, ◌^◌, ◌<◌, ◌≤◌, List, [], ◌∷◌, ◌++◌, length, Bool, true}
use Rattle.std.proofs.Common.{false, cond, Some, refl, sym, ap, ◌∙◌, subst, arith, ◌==◌, inl, inr}
use Rattle.std.specs.Prelude.{pos, nat_le}
use Rattle.std.proofs.lemmas.Bool.{leb-true, eqb-true}
use Rattle.sch_word.specs.declared.stop.Stop.TheVariants.{HeapLimit}
use Rattle.sch_word.specs.values.Values.{Value, unspecified, object, Object, pair}
use Rattle.sch_word.specs.runs.Store.{Store}
use Rattle.sch_word.specs.runs.Computation.{Outcome, gives, on_value, require, with_rest}
use Rattle.sch_word.specs.runs.Charges.{new_object, charged_object}
use Rattle.sch_control.specs.Meaning.{World, Result, on_outcome}
use Rattle.sch_frames.specs.Meaning.{Frame, Is}
use Rattle.sch_insn.specs.declared.insn.Arg.TheVariants.{Reg, Base32}
use Rattle.sch_insn.specs.declared.insn.Insn.TheVariants.{MovTo, AddNumber}
use Rattle.sch_insn.specs.Machine.{set_register, sum_of}
use Rattle.sch_insn.proofs.Paths.{leads_on}
use Rattle.sch_asm.specs.declared.item.Item.{Item}
use Rattle.sch_asm.specs.declared.item.Item.TheVariants as item
use Rattle.sch_word.specs.declared.mark.MarkKind.{MarkKind}
use Rattle.sch_asm.specs.Data.{Inside, word_in, with_word}
use Rattle.sch_asm.specs.Effects.{is_scratch}
use Rattle.sch_asm.specs.Views.{View, Leads}
use Rattle.sch_asm.proofs.EachItem.{goes, stores_word}
use Rattle.sch_asm.proofs.Words.{word_same, word_other, size_kept}
use Rattle.sch_select_memory.specs.Parts.{a_pair, Part, Parts, end_of, Spot, spot, grown}
use Rattle.sch_select_memory.specs.Encoded.{IsWord}
use Rattle.sch_select_memory.specs.Heap.{ObjectAt, PairAt}
use Rattle.sch_select_memory.proofs.heap.Encodings.{fits}
use Rattle.sch_select_memory.proofs.heap.Contents.{words_stay}
use Rattle.sch_select_operations.specs.ObjectCode.{part_code, pair_code}
use Rattle.sch_select_memory.specs.Addresses.{part_operand}
use Rattle.sch_select_memory.proofs.Straight.{kept_set, kept_then, moved_to, is_one}
use Rattle.sch_select_memory.proofs.Places.{Plan, Activation, StoreAt}
use Rattle.sch_select_memory.proofs.Changes.{places_behind}
use Rattle.sch_select_memory.proofs.HeapWrites.{Wrote, wrote_one, wrote_then, other_word, store_wrote}
use Rattle.sch_select_memory.proofs.HeapWrites.{heap_inside, places_wrote, places_grown, room_tested}
use Rattle.sch_select_operations.proofs.objects.ObjectWrites.{object_part, object_added, next_object_spot}
use Rattle.sch_select_operations.proofs.objects.Tags.{one_of}
use Rattle.sch_select_operations.proofs.objects.HeapTests.{Tested, room_here}
use Rattle.sch_select_memory.proofs.simulation.Outcomes.{after, Laid, stops_here}
use Rattle.sch_select_operations.proofs.simulation.Operations.{Std, FrameOf, StoreOf, SimOf, Rest, next_of, none_waits}

module _ (plan : Plan) (body_steps : ℕ) (laid : Laid plan body_steps) (act : Activation plan) where
  open plan use {setting, size, closures, heap, stack, near}

  abbrev Here : List MarkKind → ℕ → List Item → Type 0
  Here waiting a is = Std plan body_steps laid act waiting a is

  abbrev In : Parts → Frame → World → View → Type 0
  In parts f w x = FrameOf plan body_steps laid act parts f w x

  abbrev At : Parts → World → View → Type 0
  At parts w x = StoreOf plan body_steps laid act parts w x

  abbrev Owed : Parts → List MarkKind → World → View → ℕ → Result → Type 0
  Owed parts before w x c r = SimOf plan body_steps laid act parts before w x c r

  module _ (k : Frame → World → Result) (c : ℕ) (rest : List Item) (K : Rest plan body_steps laid act k c rest)
      (parts : Parts) (before waiting : List MarkKind) (f : Frame) (w : World) (x : View) (p : In parts f w x)
      (g : At parts w x) (marked : w.marks ≡ before ++ waiting) where
    abbrev Next : Value → World → Result
    Next v w = next_of plan body_steps laid act k f v w

    -- where the next part begins
    abbrev next : ℕ
    next = heap + w.state.store.charged

    abbrev objects : List Object
    objects = w.state.store.objects

    -- the parts with one of a new object
    abbrev with_part : Object → ℕ → Parts
    with_part o more = grown parts (object_part objects o more)

    -- what an outcome over the store comes to
    abbrev Done : ℕ → Outcome Store Value → Type 0
    Done most o = Owed parts before w x (most + c)
        (on_outcome w.marks (with_rest w.state.cells w.state.procedures o) Next)

    -- ---- a new object, whose part is filled

    pub object_made : (o : Object) (more total most : ℕ) (u : View) (least steps : ℕ)
        → Leads setting least steps waiting x u → u.output ≡ x.output → u.answers ≡ x.answers
        → steps ≤ most + 8 * total → 16 * suc more ≡ total → next + total ≤ stack
        → Wrote next (next + total) x.bytes u.bytes → ObjectAt (with_part o more) u.bytes (length objects) o
        → ((r : ℕ) → is_scratch r ≡ false → (r == 12) ≡ false → x.registers r < 2 ^ 64
        → u.registers r ≡ x.registers r)
        → u.registers 12 ≡ next + total → IsWord (with_part o more) (object (length objects)) (u.registers 0)
        → Here [] u.place rest
        → Done most (gives (object (length objects)) (record w.state.store {
          objects = objects ++ o ∷ [];
          charged = w.state.store.charged + total;
        }))
    object_made o more total most u least steps leads printed left few taken fits_in wrote filled kept free named
        ahead =
        let t = w.state.store in
        let parts' = with_part o more in
        let others = object_part objects o more in
        let w' : World = record w {
          state = record w.state
              { store = record t { objects = objects ++ o ∷ []; charged = t.charged + total } };
        } in
        let hl = plan.heap_low in let cl = plan.closures_low in let sl = plan.stack_low in let n = near in
        let g1 = store_wrote plan parts w.state x.bytes u.bytes x.output x.answers next (next + total) (omega arith)
        fits_in wrote g in
        let added = object_added plan parts w.state u.bytes x.output x.answers o more total taken
        (omega (arith, fits_in)) filled g1 in
        let g' : At parts' w' u = subst (λ l. StoreAt plan parts' w'.state u.bytes l u.answers) (sym printed)
        (subst (λ l. StoreAt plan parts' w'.state u.bytes x.output l) (sym left) added) in
        let p1 = places_behind plan act parts t.charged f.places f.outgoing x.registers between x.bytes x.bytes
        (omega (arith, fits_in, n)) between_kept refl p in
        let p2 = places_wrote plan act parts t.charged f.places f.outgoing between x.bytes u.bytes next (next + total)
        fits_in wrote p1 in
        let p' : In parts' f w' u = places_grown plan act parts parts' (words_stay parts others) t.charged
        (t.charged + total) f.places f.outgoing between u.registers u.bytes
        (λ j i. sym (kept_set (is_one 12) u.registers 12 (x.registers 12) refl j i)) (omega (arith, free)) p2 in
        after plan body_steps act parts parts' (words_stay parts others) before waiting t w'.state.store x u least
        steps c (most + c) _ leads
        (λ q lo hi. other_word next (next + total) x.bytes u.bytes wrote q (omega (arith, lo, hl, cl, sl))
        (inr (omega (arith, lo, fits_in))))
        (omega arith) (omega arith) (omega (arith, few, fits_in))
        (K parts' (before ++ waiting) [] (record f { accumulator = Is (object (length objects)) }) w' u ahead p' g'
        named (none_waits w.marks before waiting marked))
      where
        -- the registers before the heap's register has the address of the part behind
        between : ℕ → ℕ
        between = set_register u.registers 12 (x.registers 12)

        between_kept : (r : ℕ) → is_scratch r ≡ false → x.registers r < 2 ^ 64 → between r ≡ x.registers r
        between_kept r e lt = by (r == 12) refl
          where
            by : (b : Bool) → (r == 12) ≡ b → between r ≡ x.registers r
            by true i = ap (λ b. cond b (x.registers 12) (u.registers r)) i ∙ ap x.registers (sym (eqb-true r 12 i))
            by false i = ap (λ b. cond b (x.registers 12) (u.registers r)) i ∙ kept r e i lt

    -- ---- a new pair of RAX and RCX

    pub cons_sim : (a d : Value) → IsWord parts a (x.registers 0) → IsWord parts d (x.registers 1)
        → Here waiting x.place (pair_code stack rest) → Done 30 (charged_object 16 (pair a d) w.state.store)
    cons_sim a d ha hd h = by (nat_le (w.state.store.charged + 16) w.state.store.constants.heap) refl
        (subst (λ b. Tested plan b x waiting code)
        (room_tested plan parts w.state x.bytes x.output x.answers 16 g)
        (room_here plan next 16 x waiting code p.free (let hl = plan.heap_low in let cl = plan.closures_low in omega (arith, hl, cl))
        g.within (omega arith) h))
      where
        t : Store
        t = w.state.store

        o : Object
        o = pair a d

        parts' : Parts
        parts' = with_part o 0

        code : List Item
        code = item.Plain (MovTo (part_operand 0) 0) ∷ (item.Plain (MovTo (part_operand 8) 1) ∷ part_code 1 16 rest)

        made : Bool → Outcome Store Value
        made b = on_value (require b HeapLimit (λ u. gives unspecified (record u { charged = u.charged + 16 })) t)
            (λ _. new_object o)

        by : (b : Bool) → nat_le (t.charged + 16) t.constants.heap ≡ b
            → Tested plan b x waiting code → Done 30 (made b)
        by false e s = stops_here plan body_steps laid before waiting x 4 (30 + c) HeapLimit w s g.printed marked
            (omega arith)
        by true e s =
            let z = moved_to x s.registers s.flags s.place in
            let enough : t.charged + 16 ≤ t.constants.heap = leb-true (t.charged + 16) t.constants.heap e in
            let lim = g.limit in let n = near in let hl = plan.heap_low in let cl = plan.closures_low in
            let fits_in : next + 16 ≤ stack = omega (arith, enough, lim) in
            let same : s.registers 12 ≡ next = s.kept 12 refl ∙ p.free in
            let at_next : Inside (length x.bytes) next = heap_inside plan act next x.bytes g.size_is
            (omega (arith, hl)) (omega (arith, fits_in)) in
            let bytes1 = with_word x.bytes next (s.registers 0) in
            let behind : Inside (length bytes1) (next + 8) = heap_inside plan act (next + 8) bytes1
            (size_kept x.bytes next (s.registers 0) at_next ∙ g.size_is) (omega (arith, hl)) (omega (arith, fits_in)) in
            let bytes2 = with_word bytes1 (next + 8) (s.registers 1) in
            let i = s.ahead in
            let z1 : View = record z { bytes = bytes1; place = z.place + i.0 } in
            let z2 : View = record z1 { bytes = bytes2; place = z1.place + i.2.0 } in
            let j = i.2.2 in
            let u1 : View = record z2
            { registers = set_register s.registers 0 (s.registers 12); place = z2.place + j.0 } in
            let s1 = sum_of (s.registers 12) 1 in
            let u2 : View = record u1
            { registers = set_register u1.registers 0 s1.value; flags = s1.flags; place = u1.place + j.2.0 } in
            let s2 = sum_of (s.registers 12) 16 in
            let u3 : View = record u2
            { registers = set_register u2.registers 12 s2.value; flags = s2.flags; place = u2.place + j.2.2.0 } in
            let wrote : Wrote next (next + 16) x.bytes bytes2 = wrote_then next (next + 16) x.bytes bytes1 bytes2
            (wrote_one next (next + 16) next (s.registers 0) x.bytes at_next (omega arith) (omega arith))
            (wrote_one next (next + 16) (next + 8) (s.registers 1) bytes1 behind (omega arith) (omega arith)) in
            let wa : IsWord parts a (s.registers 0) = subst (IsWord parts a) (sym (s.kept 0 refl)) ha in
            let wd : IsWord parts d (s.registers 1) = subst (IsWord parts d) (sym (s.kept 1 refl)) hd in
            let unit : 16 * end_of parts ≡ next = g.ends in
            let first_is : word_in bytes2 (16 * end_of parts) ≡ s.registers 0 = ap (word_in bytes2) unit
            ∙ word_other bytes1 (next + 8) (s.registers 1) next behind (omega (arith, hl, cl)) (inl (omega arith))
            ∙ word_same x.bytes next (s.registers 0) at_next (fits parts a (s.registers 0) wa) in
            let rest_is : word_in bytes2 (16 * end_of parts + 8) ≡ s.registers 1 = ap (λ b. word_in bytes2 (b + 8)) unit
            ∙ word_same bytes1 (next + 8) (s.registers 1) behind (fits parts d (s.registers 1) wd) in
            let at : Spot = record { unit = end_of parts; more = 0 } in
            let there : spot parts' (a_pair (length objects)) ≡ Some at = next_object_spot parts objects
            g.contents.kinds o 0 in
            let others : List Part = object_part objects o 0 in
            let filled : PairAt parts' bytes2 (length objects) a d = record {
              at = at;
              there = there;
              first = subst (IsWord parts' a) (sym first_is) (words_stay parts others a (s.registers 0) wa);
              rest = subst (IsWord parts' d) (sym rest_is) (words_stay parts others d (s.registers 1) wd);
            } in
            let kept = kept_then is_scratch x.registers s.registers u2.registers
            (one_of is_scratch 2 x.registers s.registers refl s.kept)
            (kept_then is_scratch s.registers u1.registers u2.registers
            (kept_set is_scratch s.registers 0 (s.registers 12) refl)
            (kept_set is_scratch u1.registers 0 s1.value refl)) in
            object_made o 0 16 30 u3 9 9
            (leads_on setting.marks (leads_on setting.marks (leads_on setting.marks (leads_on setting.marks
            (leads_on setting.marks s.leads
            (stores_word setting z 0 i.0 next (Base32 12 (pos 0)) [] i.1 (omega (arith, same, fits_in, n)) at_next))
            (stores_word setting z1 1 i.2.0 (next + 8) (Base32 12 (pos 8)) [] i.2.1 (omega (arith, same, fits_in, n))
            behind)) (goes setting z2 u1 (MovTo (Reg 0) 12) j.0 [] j.1 refl))
            (goes setting u1 u2 (AddNumber (Reg 0) (pos 1)) j.2.0 [] j.2.1 refl))
            (goes setting u2 u3 (AddNumber (Reg 12) (pos 16)) j.2.2.0 [] j.2.2.1 refl))
            refl refl (omega arith) refl fits_in wrote filled
            (λ r q m l. kept_set (is_one 12) u2.registers 12 s2.value refl r m ∙ kept r q)
            (omega (arith, same, fits_in, n))
            (inl (record {
              at = at;
              there = there;
              is = omega (arith, same, unit, fits_in, n);
              fits = omega (arith, same, fits_in, n);
            })) j.2.2.2
